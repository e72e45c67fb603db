-- What a node of control comes to, a lemma a form.
use Rattle.std.proofs.Common.{◌≡◌, ℕ, ◌<◌, ◌≤◌, Bool, true, false, List, [], ◌∷◌, length, Option, Some, None, refl, sym, ap, subst, ◌∙◌, arith}
use Rattle.std.specs.Prelude.{get_or, not, if◌then◌else◌, slice_get}
use Rattle.std.proofs.lemmas.Option.{same_Some, slice_get_read, slice_get_within}
use Rattle.cr_base.specs.declared.ids.NodeId.{NodeId}
use Rattle.cr_value.specs.declared.value.Value.{Value}
use Rattle.cr_value.specs.declared.value.Value.TheVariants.{Nil}
use Rattle.cr_core.specs.declared.form.Form.{Form}
use Rattle.cr_core.specs.declared.form.Form.TheVariants as f
use Rattle.cr_core.specs.declared.form.Local.{Local}
use Rattle.cr_core.specs.declared.row.Row.{Row}
use Rattle.cr_core.specs.Shape as shape
use Rattle.cr_core.specs.Tree.{Contents, IsCore}
use Rattle.cr_meaning.specs.World.{World}
use Rattle.cr_meaning.specs.Term.{Term, Turn, Val, tree}
use Rattle.cr_meaning.specs.State.{State, set_fiber}
use Rattle.cr_meaning.specs.State as m
use Rattle.cr_meaning.specs.Act.{Becomes, Choice, gives, or_stuck}
use Rattle.cr_meaning.specs.Calls.{receiver_here}
use Rattle.cr_meaning.specs.Locals.{read, slot_of, written}
use Rattle.cr_meaning.specs.Redex.{last_reduced, part_at, redex}
use Rattle.cr_meaning.specs.Reduce.{acts, is_truthy}
use Rattle.cr_stack.specs.Layers.{place, ready, ready_by, choice, choice_by}
use Rattle.cr_stack.specs.Neat.{until, is_choice, HasAll, HasChosen, IsTerm}
use Rattle.cr_steps.specs.Control.{is_control, is_control_form, with_fibers}
use Rattle.cr_steps.specs.declared.step.Step.{Step}
use Rattle.cr_steps.specs.declared.step.Step.TheVariants as step
use Rattle.cr_steps.specs.Step.{act_of, ended, given, is_other, parts_of, Decides, DecidesNode, DecidesTerm, IsThere, IsWhole}
use Rattle.cr_steps.proofs.Lists.{set_self}
use Rattle.cr_steps.proofs.Parts.{part_within}
use Rattle.cr_steps.proofs.Ready.{acts_ready, part_behind}

-- ---- what stands behind the values

-- the part at a place behind the values
part_is : (P : World) (r : Row) (vs : List Value) (form : Form) (k : ℕ) (n : NodeId) → r.form ≡ form → IsWhole r vs → last_reduced form (length r.parts) ≤ k → slice_get r.parts k ≡ Some n
    → part_at k (parts_of P r vs) ≡ tree P n
part_is P r vs form k n e w le at =
    let last : until r ≡ last_reduced form (length r.parts) = ap (λ (g : Form). last_reduced g (length r.parts)) e in
    part_behind P r vs k n (omega (arith, w.all, w.there)) (omega (arith, w.all, last, le)) at

-- ---- a step that is given or not

given_deed : (o : Option Value) → is_other (given o) ≡ false
given_deed None = refl
given_deed (Some v) = refl

given_acts : (P : World) (s : State) (i : ℕ) (fiber : m.Fiber) (o : Option Value) → or_stuck (gives s) o ≡ act_of P s i fiber (given o)
given_acts P s i fiber None = refl
given_acts P s i fiber (Some v) = refl

module _ (P : World) (s : State) (i : ℕ) (fiber : m.Fiber) (choice : Choice) where
  branch_is : (b : Bool) (t u : Term) (n a c : NodeId) → n ≡ (if b then a else c) → t ≡ tree P a → u ≡ tree P c → Becomes s (if b then t else u) ≡ act_of P s i fiber (step.Goes n)
  branch_is true t u n a c is t_is u_is = ap (Becomes s) (t_is ∙ ap (tree P) (sym is))
  branch_is false t u n a c is t_is u_is = ap (Becomes s) (u_is ∙ ap (tree P) (sym is))

  both_is : (b : Bool) (t : Term) (v : Value) (n : NodeId) (it : Step) → it ≡ (if b then step.Goes n else step.Gives v) → t ≡ tree P n
      → (is_other it ≡ false) × (Becomes s (if b then t else Val v) ≡ act_of P s i fiber it)
  both_is true t v n it is t_is = (ap is_other is, ap (Becomes s) t_is ∙ ap (act_of P s i fiber) (sym is))
  both_is false t v n it is t_is = (ap is_other is, ap (act_of P s i fiber) (sym is))

  either_is : (b : Bool) (t : Term) (v : Value) (n : NodeId) (it : Step) → it ≡ (if b then step.Gives v else step.Goes n) → t ≡ tree P n
      → (is_other it ≡ false) × (Becomes s (if b then Val v else t) ≡ act_of P s i fiber it)
  either_is true t v n it is t_is = (ap is_other is, ap (act_of P s i fiber) (sym is))
  either_is false t v n it is t_is = (ap is_other is, ap (Becomes s) t_is ∙ ap (act_of P s i fiber) (sym is))

  module _ (r : Row) (vs : List Value) where
    abbrev Comes : Step → Type 0
    Comes it = DecidesNode P s i fiber choice r.form (parts_of P r vs) vs it

    -- by the line of the form
    decided : (form : Form) (it : Step) → r.form ≡ form → is_control_form form ≡ true → is_other it ≡ false → acts P s i fiber choice form (parts_of P r vs) vs ≡ act_of P s i fiber it → Comes it
    decided form it e c o a = record {
      control = ap is_control_form e ∙ c ∙ ap not (sym o);
      comes = λ clear. ap (λ (g : Form). acts P s i fiber choice g (parts_of P r vs) vs) e ∙ a;
    }

    -- by that line with one value
    decided_one : (form : Form) (v : Value) (it : Step) → r.form ≡ form → vs ≡ v ∷ [] → is_control_form form ≡ true → is_other it ≡ false → acts P s i fiber choice form (parts_of P r vs) (v ∷ []) ≡ act_of P s i fiber it → Comes it
    decided_one form v it e one c o a = decided form it e c o (ap (acts P s i fiber choice form (parts_of P r vs)) one ∙ a)

    pub self_is : (o : Option Value) (it : Step) → r.form ≡ f.KeywordSelf → receiver_here fiber ≡ o → it ≡ given o → Comes it
    self_is o it e is told = subst Comes (sym told) (decided f.KeywordSelf (given o) e refl (given_deed o) (ap (or_stuck (gives s)) is ∙ given_acts P s i fiber o))

    pub set_is : (n : Local) (v : Value) (it : Step) → r.form ≡ f.Set n → vs ≡ v ∷ [] → is_other it ≡ false
        → or_stuck (λ (s' : State). gives s' v) (written s i fiber n v (slot_of fiber n)) ≡ act_of P s i fiber it → Comes it
    set_is n v it e one o is = decided_one (f.Set n) v it e one refl o is

    module _ (w : IsWhole r vs) where
      pub seq_is : (n : NodeId) → r.form ≡ f.Seq → slice_get r.parts 1 ≡ Some n → Comes (step.Goes n)
      seq_is n e at = decided f.Seq (step.Goes n) e refl refl (ap (Becomes s) (part_is P r vs f.Seq 1 n e w (omega arith) at))

      pub while_is : (n : NodeId) → r.form ≡ f.While → slice_get r.parts 0 ≡ Some n → Comes (step.Turns n)
      while_is n e at = decided f.While (step.Turns n) e refl refl (ap (λ (t : Term). Becomes s (Turn t t)) (part_is P r vs f.While 0 n e w (omega arith) at))

      pub if_is : (v : Value) (n a c : NodeId) → r.form ≡ f.If → vs ≡ v ∷ [] → n ≡ (if is_truthy v then a else c) → slice_get r.parts 1 ≡ Some a → slice_get r.parts 2 ≡ Some c → Comes (step.Goes n)
      if_is v n a c e one is at at_2 =
          decided_one f.If v (step.Goes n) e one refl refl
          (branch_is (is_truthy v) (part_at 1 (parts_of P r vs)) (part_at 2 (parts_of P r vs)) n a c is (part_is P r vs f.If 1 a e w (omega arith) at) (part_is P r vs f.If 2 c e w (omega arith) at_2))

      pub and_is : (v : Value) (n : NodeId) (it : Step) → r.form ≡ f.And → vs ≡ v ∷ [] → it ≡ (if is_truthy v then step.Goes n else step.Gives v) → slice_get r.parts 1 ≡ Some n → Comes it
      and_is v n it e one is at =
          let b = both_is (is_truthy v) (part_at 1 (parts_of P r vs)) v n it is (part_is P r vs f.And 1 n e w (omega arith) at) in
          decided_one f.And v it e one refl b.0 b.1

      pub or_is : (v : Value) (n : NodeId) (it : Step) → r.form ≡ f.Or → vs ≡ v ∷ [] → it ≡ (if is_truthy v then step.Gives v else step.Goes n) → slice_get r.parts 1 ≡ Some n → Comes it
      or_is v n it e one is at =
          let b = either_is (is_truthy v) (part_at 1 (parts_of P r vs)) v n it is (part_is P r vs f.Or 1 n e w (omega arith) at) in
          decided_one f.Or v it e one refl b.0 b.1

-- ---- what stands there

pub taken_there : (rows : List Row) (b : Bool) (n a c : NodeId) → n ≡ (if b then a else c) → IsTerm rows a → IsTerm rows c → IsTerm rows n
taken_there rows true n a c is h k = subst (IsTerm rows) (sym is) h
taken_there rows false n a c is h k = subst (IsTerm rows) (sym is) k

pub both_there : (rows : List Row) (b : Bool) (v : Value) (n : NodeId) (it : Step) → it ≡ (if b then step.Goes n else step.Gives v) → IsTerm rows n → IsThere rows it
both_there rows true v n it is h = subst (IsThere rows) (sym is) h
both_there rows false v n it is h = subst (IsThere rows) (sym is) tt

pub either_there : (rows : List Row) (b : Bool) (v : Value) (n : NodeId) (it : Step) → it ≡ (if b then step.Gives v else step.Goes n) → IsTerm rows n → IsThere rows it
either_there rows true v n it is h = subst (IsThere rows) (sym is) tt
either_there rows false v n it is h = subst (IsThere rows) (sym is) h

-- ---- redexes

-- the row of a node is there
pub node_there : (rows read : List Row) (n : NodeId) (vs : List Value) → read ≡ rows → HasAll rows n vs shape.Term → n.0 < length read
node_there rows read n vs same h = subst (λ (of : List Row). n.0 < length of) (sym same) (slice_get_within rows n.0 h.at.row h.at.stands)

pub read_row : (rows read : List Row) (n : NodeId) (vs : List Value) (r : Row) → read ≡ rows → HasAll rows n vs shape.Term → r ≡ get_or read n.0 r → slice_get rows n.0 ≡ Some r
read_row rows read n vs r same h is =
    ap (λ (of : List Row). slice_get of n.0) (sym same) ∙ slice_get_read read (length read) n.0 r refl (node_there rows read n vs same h) is

-- what was told of a row is told of the node
row_is : (P : World) (s : State) (i : ℕ) (fiber : m.Fiber) (choice : Choice) (n : NodeId) (vs : List Value) (r : Row) (it : Step) → HasAll P.rows n vs shape.Term → slice_get P.rows n.0 ≡ Some r
    → DecidesNode P s i fiber choice r.form (parts_of P r vs) vs it → DecidesTerm P s i fiber choice (ready P n vs) it
row_is P s i fiber choice n vs r it h at d = record {
  control = ap (λ (o : Option Row). is_control (ready_by P n vs o)) at ∙ d.control;
  comes = λ clear.
      acts_ready P s i fiber choice n vs shape.Term h
      ∙ ap (λ (q : Row). acts P s i fiber choice q.form (parts_of P q vs) vs) (same_Some h.at.row r (sym h.at.stands ∙ at))
      ∙ d.comes clear;
}

pub node_is : (P : World) (rows : List Row) (s : State) (i : ℕ) (fiber : m.Fiber) (choice : Choice) (n : NodeId) (vs : List Value) (r : Row) (it : Step) → P.rows ≡ rows → HasAll rows n vs shape.Term → slice_get rows n.0 ≡ Some r
    → DecidesNode P s i fiber choice r.form (parts_of P r vs) vs it → DecidesTerm P s i fiber choice (ready P n vs) it
node_is P rows s i fiber choice n vs r it same h at d =
    row_is P s i fiber choice n vs r it (subst (λ (of : List Row). HasAll of n vs shape.Term) (sym same) h) (ap (λ (of : List Row). slice_get of n.0) same ∙ at) d

pub whole_is : (t : Contents) → IsCore t → (n : NodeId) (vs : List Value) (r : Row) → HasAll t.rows n vs shape.Term → slice_get t.rows n.0 ≡ Some r → IsWhole r vs
whole_is t core n vs r h at =
    let row : h.at.row ≡ r = same_Some h.at.row r (sym h.at.stands ∙ at) in
    record {
      all = subst (λ (q : Row). place q vs ≡ until q) row h.all;
      there = subst (λ (q : Row). until q ≤ length q.parts) row h.there;
      part = λ k is. part_within t core n r k at is;
    }

choice_form : (form : Form) → is_choice form ≡ true → is_control_form form ≡ false
choice_form (f.Select otherwise) e = refl
choice_form form e = absurd cc

pub choice_is : (P : World) (rows : List Row) (s : State) (i : ℕ) (fiber : m.Fiber) (taken : Choice) (n : NodeId) (vss : List (List Value)) → P.rows ≡ rows → HasChosen rows n vss → redex fiber.term ≡ Some (choice P n vss)
    → Decides P s i fiber taken (redex fiber.term) step.Other
choice_is P rows s i fiber taken n vss same h e =
    let at : slice_get P.rows n.0 ≡ Some h.chooses.at.row = ap (λ (of : List Row). slice_get of n.0) same ∙ h.chooses.at.stands in
    subst (λ (o : Option Term). Decides P s i fiber taken o step.Other) (sym e)
    (record {
      control = ap (λ (o : Option Row). is_control (choice_by P n vss o)) at ∙ choice_form h.chooses.at.row.form h.chooses.choice;
      comes = λ clear. absurd (cc);
    })

pub turn_is : (P : World) (s : State) (i : ℕ) (fiber : m.Fiber) (taken : Choice) (fresh : Term) (v : Value) → redex fiber.term ≡ Some (Turn fresh (Val v)) → slice_get s.fibers i ≡ Some fiber
    → Decides P s i fiber taken (redex fiber.term) step.Ends
turn_is P s i fiber taken fresh v e at =
    let same : set_fiber s i fiber ≡ s = ap (with_fibers s) (set_self s.fibers i fiber at) in
    subst (λ (o : Option Term). Decides P s i fiber taken o step.Ends) (sym e)
    (record {
      control = refl;
      comes = λ clear. ap (λ (r : State). gives r Nil) (sym same) ∙ ap (ended s i fiber) (sym e);
    })
