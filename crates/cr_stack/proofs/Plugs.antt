-- The redex of a stack's term is that inside its layers, and what takes its place is put there.
use Rattle.std.proofs.Common.{◌≡◌, List, [], ◌∷◌, ◌++◌, Some, refl, sym, ap, ◌∙◌}
use Rattle.std.specs.Prelude.{if◌then◌else◌, is_some}
use Rattle.cr_core.specs.declared.row.Row.{Row}
use Rattle.cr_core.specs.Shape as shape
use Rattle.cr_meaning.specs.World.{World}
use Rattle.cr_meaning.specs.Term.{Term, Turn, Frame, Body, tree}
use Rattle.cr_meaning.specs.Redex.{or_else, redex, put, Exit, Jump, inside, at_turn, at_frame, at_body, jump}
use Rattle.cr_stack.specs.declared.around.Around.{Around}
use Rattle.cr_stack.specs.declared.around.Around.TheVariants as a
use Rattle.cr_stack.specs.declared.around.Now.{Now}
use Rattle.cr_stack.specs.declared.around.Now.TheVariants as now
use Rattle.cr_stack.specs.Layers.{partly, choosing, filled, plug, now_of}
use Rattle.cr_stack.specs.Neat.{IsNeatAround, IsNeatNow, AreNeat}
use Rattle.cr_stack.specs.Steps.{IsReduced}
use Rattle.cr_stack.proofs.Spots.{IsRedex}
use Rattle.cr_stack.proofs.Nodes.{partly_shows, choosing_shows, ready_is_redex, choice_is_redex}

module _ (P : World) where
  sees_filled : (k : Around) (t u : Term) → IsNeatAround P.rows k → redex t ≡ Some u → redex (filled P k t) ≡ Some u
  sees_filled (a.Part n vs) t u h e = (partly_shows P n vs shape.Term h).sees t u e
  sees_filled (a.Choice n vss vs) t u h e = (choosing_shows P n vss vs h).sees t u e
  sees_filled (a.Turn n) t u h e = ap (λ o. or_else o (Some (Turn (tree P n) t))) e
  sees_filled (a.Frame gives) t u h e = ap (λ o. or_else o (Some (Frame gives t))) e
  sees_filled a.Body t u h e = ap (λ o. or_else o (Some (Body t))) e

  puts_filled : (new : Term) (k : Around) (t u : Term) → IsNeatAround P.rows k → redex t ≡ Some u → put new (filled P k t) ≡ filled P k (put new t)
  puts_filled new (a.Part n vs) t u h e = (partly_shows P n vs shape.Term h).puts new t u e
  puts_filled new (a.Choice n vss vs) t u h e = (choosing_shows P n vss vs h).puts new t u e
  puts_filled new (a.Turn n) t u h e = ap (λ o. if is_some o then Turn (tree P n) (put new t) else new) e
  puts_filled new (a.Frame gives) t u h e = ap (λ o. if is_some o then Frame gives (put new t) else new) e
  puts_filled new a.Body t u h e = ap (λ o. if is_some o then Body (put new t) else new) e

  -- what a layer makes of the jump inside it
  abbrev pub at_layer : Exit → Around → Jump → Jump
  at_layer e (a.Part n vs) j = inside (partly P n vs) j
  at_layer e (a.Choice n vss vs) j = inside (choosing P n vss vs) j
  at_layer e (a.Turn n) j = at_turn e (tree P n) j
  at_layer e (a.Frame gives) j = at_frame e gives j
  at_layer e a.Body j = at_body e j

  pub jumps_filled : (e : Exit) (k : Around) (t u : Term) → IsNeatAround P.rows k → redex t ≡ Some u → jump e (filled P k t) ≡ at_layer e k (jump e t)
  jumps_filled e (a.Part n vs) t u h q = (partly_shows P n vs shape.Term h).jumps e t u q
  jumps_filled e (a.Choice n vss vs) t u h q = (choosing_shows P n vss vs h).jumps e t u q
  jumps_filled e (a.Turn n) t u h q = refl
  jumps_filled e (a.Frame gives) t u h q = refl
  jumps_filled e a.Body t u h q = refl

  -- ---- all layers

  pub sees_plug : (ks : List Around) (t u : Term) → AreNeat P.rows ks → redex t ≡ Some u → redex (plug P ks t) ≡ Some u
  sees_plug [] t u h e = e
  sees_plug (k ∷ ks) t u h e = sees_filled k (plug P ks t) u h.0 (sees_plug ks t u h.1 e)

  pub puts_plug : (new : Term) (ks : List Around) (t u : Term) → AreNeat P.rows ks → redex t ≡ Some u → put new (plug P ks t) ≡ plug P ks (put new t)
  puts_plug new [] t u h e = refl
  puts_plug new (k ∷ ks) t u h e =
      puts_filled new k (plug P ks t) u h.0 (sees_plug ks t u h.1 e) ∙ ap (filled P k) (puts_plug new ks t u h.1 e)

  pub plug_append : (ks ls : List Around) (t : Term) → plug P (ks ++ ls) t ≡ plug P ks (plug P ls t)
  plug_append [] ls t = refl
  plug_append (k ∷ ks) ls t = ap (filled P k) (plug_append ks ls t)

  -- ---- the part inside them

  pub reduced_is : (n : Now) → IsNeatNow P.rows n → IsReduced n → IsRedex (now_of P n)
  reduced_is (now.Node n) h r = absurd r
  reduced_is (now.Value v) h r = absurd r
  reduced_is (now.Ready n vs) h r = ready_is_redex P n vs h
  reduced_is (now.Choice n vss) h r = choice_is_redex P n vss h
  reduced_is (now.Sent channel item) h r = record { is = refl; put_is = λ new. refl; jump_is = λ e. refl }

  pub put_there : (ks : List Around) (n : Now) (new : Term) → AreNeat P.rows ks → IsNeatNow P.rows n → IsReduced n → plug P ks new ≡ put new (plug P ks (now_of P n))
  put_there ks n new h m r =
      let i = reduced_is n m r in
      sym (puts_plug new ks (now_of P n) (now_of P n) h i.is ∙ ap (plug P ks) (i.put_is new))

-- ---- neat layers

pub neat_front : (rows : List Row) (ks ls : List Around) → AreNeat rows (ks ++ ls) → AreNeat rows ks
neat_front rows [] ls h = tt
neat_front rows (k ∷ ks) ls h = (h.0, neat_front rows ks ls h.1)

pub neat_back : (rows : List Row) (ks ls : List Around) → AreNeat rows (ks ++ ls) → AreNeat rows ls
neat_back rows [] ls h = h
neat_back rows (k ∷ ks) ls h = neat_back rows ks ls h.1

pub neat_append : (rows : List Row) (ks ls : List Around) → AreNeat rows ks → AreNeat rows ls → AreNeat rows (ks ++ ls)
neat_append rows [] ls h m = m
neat_append rows (k ∷ ks) ls h m = (h.0, neat_append rows ks ls h.1 m)
