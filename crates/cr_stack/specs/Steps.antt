-- What the calls of a stack do to its term.
use Rattle.std.specs.Prelude.{◌≡◌, ◌-◌, List, Option, Some, None, length, slice_get, unwrap_or}
use Rattle.cr_value.specs.declared.value.Value.{Value}
use Rattle.cr_value.specs.declared.value.Value.TheVariants.{Nil}
use Rattle.cr_meaning.specs.World.{World}
use Rattle.cr_meaning.specs.Term.{Term, Val, Turn, Frame, Body}
use Rattle.cr_meaning.specs.Redex.{redex, put, value_of}
use Rattle.cr_stack.specs.declared.around.Around.{Around}
use Rattle.cr_stack.specs.declared.around.Around.TheVariants as a
use Rattle.cr_stack.specs.declared.around.Now.{Now}
use Rattle.cr_stack.specs.declared.around.Now.TheVariants as now
use Rattle.cr_stack.specs.Layers.{Layers, term}
use Rattle.cr_stack.specs.Neat.{IsNeat}

-- ---- where the redex stands

abbrev pub innermost : List Around → Option Around
innermost ks = slice_get ks (length ks - 1)

-- a loop, a call or a block, which ends where a value stands inside it
abbrev pub IsEnd : Option Around → Type 0
IsEnd None = ⊥
IsEnd (Some (a.Part n vs)) = ⊥
IsEnd (Some (a.Choice n vss vs)) = ⊥
IsEnd (Some (a.Turn n)) = Unit {0}
IsEnd (Some (a.Frame gives)) = Unit {0}
IsEnd (Some a.Body) = Unit {0}

-- such a one, or nothing
abbrev pub IsEndOrNone : Option Around → Type 0
IsEndOrNone None = Unit {0}
IsEndOrNone (Some k) = IsEnd (Some k)

-- the part is the redex
abbrev pub IsReduced : Now → Type 0
IsReduced (now.Node n) = ⊥
IsReduced (now.Value v) = ⊥
IsReduced (now.Ready n vs) = Unit {0}
IsReduced (now.Choice n vss) = Unit {0}
IsReduced (now.Sent channel item) = Unit {0}

abbrev pub IsOpenAt : List Around → Now → Type 0
IsOpenAt ks (now.Node n) = ⊥
IsOpenAt ks (now.Value v) = IsEndOrNone (innermost ks)
IsOpenAt ks (now.Ready n vs) = Unit {0}
IsOpenAt ks (now.Choice n vss) = Unit {0}
IsOpenAt ks (now.Sent channel item) = Unit {0}

-- The redex is the part, or the innermost layer round it, or there is none and the term is a value.
abbrev pub IsOpen : Layers → Type 0
IsOpen s = IsOpenAt s.around s.focus

abbrev pub EndsAt : List Around → Now → Type 0
EndsAt ks (now.Node n) = ⊥
EndsAt ks (now.Value v) = IsEnd (innermost ks)
EndsAt ks (now.Ready n vs) = ⊥
EndsAt ks (now.Choice n vss) = ⊥
EndsAt ks (now.Sent channel item) = ⊥

-- The redex is the innermost layer, which a value ends.
abbrev pub Ends : Layers → Type 0
Ends s = EndsAt s.around s.focus

-- ---- another term in its place

-- Where one stack is neat, the other's term is the first's with this one in place of its redex.
pub record Puts (old : Layers) (t : World → Term) (new : Layers) : Type 0 where
  pub is : (P : World) → IsNeat P.rows old → term P new ≡ put (t P) (term P old)

-- what a loop, a call or a block gives that ends
abbrev pub given_by : Term → Value
given_by (Turn fresh t) = Nil
given_by (Frame gives t) = unwrap_or gives (value_of t)
given_by (Body t) = value_of t
given_by other = Nil

-- the redex is such a one, and what it gives takes its place
pub record Closes (P : World) (old new : Layers) : Type 0 where
  pub it : Term
  pub is : redex (term P old) ≡ Some it
  pub closed : term P new ≡ put (Val (given_by it)) (term P old)

-- what stands where a layer ended that held a value
abbrev pub finished : Around → Now → Now
finished (a.Turn n) m = now.Value Nil
finished (a.Frame (Some object)) m = now.Value object
finished (a.Frame None) m = m
finished (a.Part n vs) m = m
finished (a.Choice n vss vs) m = m
finished a.Body m = m
