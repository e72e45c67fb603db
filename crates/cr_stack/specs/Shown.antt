-- What a stack shows of its redex.
use Rattle.std.specs.Prelude.{◌≡◌, List, [], ◌∷◌, Option, Some, None}
use Rattle.cr_value.specs.declared.value.Value.{Value}
use Rattle.cr_core.specs.declared.row.Row.{Row}
use Rattle.cr_core.specs.Shape as shape
use Rattle.cr_meaning.specs.World.{World}
use Rattle.cr_meaning.specs.Term.{Term, Val, Turn, Frame, Body, Sent}
use Rattle.cr_meaning.specs.Redex.{redex}
use Rattle.cr_stack.specs.declared.around.Around.{Around}
use Rattle.cr_stack.specs.declared.around.Around.TheVariants as a
use Rattle.cr_stack.specs.declared.around.Now.{Now}
use Rattle.cr_stack.specs.declared.around.Redex.{Redex}
use Rattle.cr_stack.specs.declared.around.Redex.TheVariants as r
use Rattle.cr_stack.specs.Layers.{Layers, ready, choice}
use Rattle.cr_stack.specs.Neat.{HasAll, HasChosen}
use Rattle.cr_stack.specs.Steps.{IsReduced, Ends}

-- This is the redex of that term, or the value that it is.
abbrev pub IsShown : World → Redex → Term → Type 0
IsShown P (r.Finished v) t = t ≡ Val v.now
IsShown P (r.Node n vs) t = redex t ≡ Some (ready P n vs.now)
IsShown P (r.Choice n vss) t = redex t ≡ Some (choice P n vss.now)
IsShown P r.Turn t = (fresh : Term) × (v : Value) × (redex t ≡ Some (Turn fresh (Val v)))
IsShown P r.Frame t = (gives : Option Value) × (v : Value) × (redex t ≡ Some (Frame gives (Val v)))
IsShown P r.Body t = (v : Value) × (redex t ≡ Some (Body (Val v)))
IsShown P (r.Sent channel item) t = redex t ≡ Some (Sent channel item)

-- This is shown of a value inside this layer, or inside none.
abbrev pub ShowsValue : Option Around → Value → Redex → Type 0
ShowsValue None v (r.Finished w) = w.now ≡ v
ShowsValue (Some (a.Turn n)) v r.Turn = Unit {0}
ShowsValue (Some (a.Frame gives)) v r.Frame = Unit {0}
ShowsValue (Some a.Body) v r.Body = Unit {0}
ShowsValue layer v shown = ⊥

-- where the redex stands that is shown: it is the part inside the layers, or the innermost of them
abbrev pub StandsThere : Redex → Layers → Type 0
StandsThere (r.Finished v) s = Unit {0}
StandsThere (r.Node n vs) s = IsReduced s.focus
StandsThere (r.Choice n vss) s = IsReduced s.focus
StandsThere r.Turn s = Ends s
StandsThere r.Frame s = Ends s
StandsThere r.Body s = Ends s
StandsThere (r.Sent channel item) s = IsReduced s.focus

-- A node that is shown has the values of all parts that are reduced before it, and so have the clauses of a choice.
abbrev pub IsWhole : List Row → Redex → Type 0
IsWhole rows (r.Finished v) = Unit {0}
IsWhole rows (r.Node n vs) = HasAll rows n vs.now shape.Term
IsWhole rows (r.Choice n vss) = HasChosen rows n vss.now
IsWhole rows r.Turn = Unit {0}
IsWhole rows r.Frame = Unit {0}
IsWhole rows r.Body = Unit {0}
IsWhole rows (r.Sent channel item) = Unit {0}

-- the part, where no layer surrounds it
abbrev pub alone_in : List Around → Now → Option Now
alone_in [] n = Some n
alone_in (k ∷ ks) n = None

abbrev pub alone : Layers → Option Now
alone s = alone_in s.around s.focus
