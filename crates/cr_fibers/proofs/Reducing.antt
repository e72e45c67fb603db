-- A fiber once its stack has another term: `inside` is what it had before, as its fields tell, and `old` the same as contracts see it.
use Rattle.std.proofs.Common.{◌≡◌, Bool, true, false, List, refl, sym, ap, subst, ◌∙◌, Option, Some, None}
use Rattle.std.specs.Prelude.{if◌then◌else◌}
use Rattle.std.proofs.lemmas.Option.{none-some, same_Some}
use Rattle.cr_base.specs.declared.ids.NodeId.{NodeId}
use Rattle.cr_value.specs.declared.value.Value.{Value}
use Rattle.cr_core.specs.declared.row.Row.{Row}
use Rattle.cr_meaning.specs.World.{World}
use Rattle.cr_meaning.specs.Term.{Term, Val, Node, Turn, Frame, Body, Sent}
use Rattle.cr_meaning.specs.State as m
use Rattle.cr_meaning.specs.Redex.{redex, put}
use Rattle.cr_meaning.specs.Locals.{without_last}
use Rattle.cr_meaning.specs.Reduce.{with_whole}
use Rattle.cr_stack.specs.declared.around.Around.{Around}
use Rattle.cr_stack.specs.declared.around.Now.{Now}
use Rattle.cr_stack.specs.declared.around.Redex.{Redex}
use Rattle.cr_stack.specs.declared.around.Redex.TheVariants as shown
use Rattle.cr_stack.specs.declared.jumping.Exit.{Exit}
use Rattle.cr_stack.specs.declared.jumping.Jumped.{Jumped}
use Rattle.cr_stack.specs.declared.jumping.Jumped.TheVariants as j
use Rattle.cr_stack.specs.Jumps.{exit_of}
use Rattle.cr_stack.specs.Jumps as stack
use Rattle.cr_stack.specs.Layers.{Layers, ready, ready_by, choice, choice_by, plug, now_of, term}
use Rattle.cr_stack.specs.Neat.{IsNeat}
use Rattle.cr_stack.specs.Shown.{IsShown}
use Rattle.cr_stack.specs.Steps.{Puts, Closes, given_by}
use Rattle.cr_fibers.specs.Held.{Held, fiber_of, with_layers}
use Rattle.cr_fibers.specs.Steps.{Becomes, Closed, JumpsTo, reduced_to, left_by, jumped_to}
use Rattle.cr_fibers.specs.Inner.{leaves_locals, has_left, status_after}

abbrev pub stepped : Held → Layers → List m.Locals → m.Status → Held
stepped f l locals status = record { layers = l; locals = locals; variables = f.variables; context = f.context; status = status }

pub neat_inside : (rows : List Row) (inside old : Held) → inside ≡ old → IsNeat rows old.layers → IsNeat rows inside.layers
neat_inside rows inside old e h = subst (λ (f : Held). IsNeat rows f.layers) (sym e) h

neat_of : (P : World) (rows : List Row) (f : Held) → P.rows ≡ rows → IsNeat rows f.layers → IsNeat P.rows f.layers
neat_of P rows f same h = subst (λ (of : List Row). IsNeat of f.layers) (sym same) h

-- ---- a term in place of the redex

abbrev with_term : Held → Term → m.Status → m.Fiber
with_term f t status = record { term = t; locals = f.locals; variables = f.variables; context = f.context; status = status }

pub whole_is : (P : World) (f : Held) (l : Layers) (status : m.Status) (t : Term) → status ≡ m.status_with (term P l) f.status → term P l ≡ t
    → fiber_of P (stepped f l f.locals status) ≡ with_whole (fiber_of P f) t
whole_is P f l status t s e = ap (with_term f (term P l)) s ∙ ap (λ (u : Term). with_term f u (m.status_with u f.status)) e

pub becomes : (rows : List Row) (inside old : Held) (t : World → Term) (l : Layers) (status : m.Status) → inside ≡ old → IsNeat rows old.layers → Puts inside.layers t l
    → ((P : World) → P.rows ≡ rows → status ≡ m.status_with (term P l) inside.status)
    → Becomes rows old t (stepped inside l inside.locals status)
becomes rows inside old t l status e h puts st = record {
  is = λ P same.
      whole_is P inside l status (put (t P) (term P inside.layers)) (st P same) (puts.is P (neat_of P rows inside same (neat_inside rows inside old e h)))
      ∙ ap (λ (f : Held). reduced_to (fiber_of P f) (t P)) e;
}

-- ---- the end of a loop, a call or a block

abbrev locals_after : Term → List m.Locals → List m.Locals
locals_after (Val v) ls = ls
locals_after (Node n form ps) ls = ls
locals_after (Turn fresh t) ls = ls
locals_after (Frame gives t) ls = without_last ls
locals_after (Body t) ls = without_last ls
locals_after (Sent channel item) ls = ls

abbrev with_locals : m.Fiber → List m.Locals → m.Fiber
with_locals f locals = record f { locals = locals }

left_is : (it : Term) (f : m.Fiber) (u : Term) → with_whole (with_locals f (locals_after it f.locals)) (put u f.term) ≡ reduced_to (left_by it f) u
left_is (Val v) f u = refl
left_is (Node n form ps) f u = refl
left_is (Turn fresh t) f u = refl
left_is (Frame gives t) f u = refl
left_is (Body t) f u = refl
left_is (Sent channel item) f u = refl

ready_keeps : (P : World) (n : NodeId) (vs : List Value) (o : Option Row) (ls : List m.Locals) → ls ≡ locals_after (ready_by P n vs o) ls
ready_keeps P n vs None ls = refl
ready_keeps P n vs (Some r) ls = refl

choice_keeps : (P : World) (n : NodeId) (vss : List (List Value)) (o : Option Row) (ls : List m.Locals) → ls ≡ locals_after (choice_by P n vss o) ls
choice_keeps P n vss None ls = refl
choice_keeps P n vss (Some r) ls = refl

same_it : (t a b : Term) (ls : List m.Locals) → redex t ≡ Some a → redex t ≡ Some b → locals_after a ls ≡ locals_after b ls
same_it t a b ls p q = ap (λ (u : Term). locals_after u ls) (same_Some a b (sym p ∙ q))

leaves_is : (P : World) (it : Redex) (t a : Term) (ls : List m.Locals) → IsShown P it t → redex t ≡ Some a → (if leaves_locals it then without_last ls else ls) ≡ locals_after a ls
leaves_is P (shown.Finished v) t a ls s e = absurd (none-some a (sym (ap redex s) ∙ e))
leaves_is P (shown.Node n vs) t a ls s e = ready_keeps P n vs.now _ ls ∙ same_it t (ready P n vs.now) a ls s e
leaves_is P (shown.Choice n vss) t a ls s e = choice_keeps P n vss.now _ ls ∙ same_it t (choice P n vss.now) a ls s e
leaves_is P shown.Turn t a ls s e = same_it t (Turn s.0 (Val s.1)) a ls s.2 e
leaves_is P shown.Frame t a ls s e = same_it t (Frame s.0 (Val s.1)) a ls s.2 e
leaves_is P shown.Body t a ls s e = same_it t (Body (Val s.0)) a ls s.1 e
leaves_is P (shown.Sent channel item) t a ls s e = same_it t (Sent channel item) a ls s e

closed_inside : (P : World) (f : Held) (l : Layers) (locals : List m.Locals) (it : Redex) (status : m.Status) → Closes P f.layers l → IsShown P it (term P f.layers)
    → locals ≡ (if leaves_locals it then without_last f.locals else f.locals) → status ≡ m.status_with (term P l) f.status
    → Closed P f (stepped f l locals status)
closed_inside P f l locals it status closes s is st = record {
  it = closes.it;
  is = closes.is;
  closed =
      ap (λ (ls : List m.Locals). fiber_of P (stepped f l ls status)) (is ∙ leaves_is P it (term P f.layers) closes.it f.locals s closes.is)
      ∙ whole_is P (stepped f f.layers (locals_after closes.it f.locals) f.status) l status (put (Val (given_by closes.it)) (term P f.layers)) st closes.closed
      ∙ left_is closes.it (fiber_of P f) (Val (given_by closes.it));
}

pub closed : (P : World) (rows : List Row) (inside old : Held) (l : Layers) (locals : List m.Locals) (it : Redex) (leaves : Bool) (status : m.Status) → P.rows ≡ rows → inside ≡ old → IsNeat rows old.layers
    → (IsNeat P.rows inside.layers → Closes P inside.layers l) → (IsNeat P.rows inside.layers → IsShown P it (term P inside.layers))
    → leaves ≡ leaves_locals it → locals ≡ (if leaves then without_last inside.locals else inside.locals) → status ≡ m.status_with (term P l) inside.status
    → Closed P old (stepped inside l locals status)
closed P rows inside old l locals it leaves status same e h closes s leaves_is_so is st =
    let neat = neat_of P rows inside same (neat_inside rows inside old e h) in
    subst (λ (f : Held). Closed P f (stepped inside l locals status)) e
    (closed_inside P inside l locals it status (closes neat) (s neat) (is ∙ ap (λ (b : Bool). if b then without_last inside.locals else inside.locals) leaves_is_so) st)

-- ---- a jump

term_same : (P : World) (s u : Layers) → s.around ≡ u.around → s.focus ≡ u.focus → term P s ≡ term P u
term_same P s u a f = ap (λ (ks : List Around). plug P ks (now_of P s.focus)) a ∙ ap (λ (n : Now). plug P u.around (now_of P n)) f

ends_is : (P : World) (f : Held) (l : Layers) (leaves : Bool) (locals : List m.Locals) (status : m.Status) → locals ≡ (if leaves then without_last f.locals else f.locals) → status ≡ m.status_with (term P l) f.status
    → fiber_of P (stepped f l locals status) ≡ jumped_to (fiber_of P f) leaves (term P l)
ends_is P f l true locals status is st = ap (λ (ls : List m.Locals). fiber_of P (stepped f l ls status)) is ∙ ap (with_term (stepped f l (without_last f.locals) f.status) (term P l)) st
ends_is P f l false locals status is st = ap (λ (ls : List m.Locals). fiber_of P (stepped f l ls status)) is ∙ ap (with_term f (term P l)) st

stays_is : (P : World) (f : Held) (l : Layers) (locals : List m.Locals) (status : m.Status) → l.around ≡ f.layers.around → l.focus ≡ f.layers.focus → locals ≡ f.locals → status ≡ f.status
    → fiber_of P (stepped f l locals status) ≡ fiber_of P f
stays_is P f l locals status a n is st =
    ap (λ (t : Term). with_term (stepped f l locals status) t status) (term_same P l f.layers a n)
    ∙ ap (λ (ls : List m.Locals). with_term (stepped f l ls status) (term P f.layers) status) is
    ∙ ap (with_term f (term P f.layers)) st

jumped_inside : (P : World) (e : Exit) (f : Held) (told : Jumped) (l : Layers) (locals : List m.Locals) (status : m.Status) → stack.JumpsTo P e f.layers told l
    → locals ≡ (if has_left told then without_last f.locals else f.locals) → status ≡ status_after told (term P l) f.status
    → JumpsTo P e f told (stepped f l locals status)
jumped_inside P e f j.Outwards l locals status h is st = (h.0, stays_is P f l locals status h.1 h.2 is st)
jumped_inside P e f (j.Ends leaves) l locals status h is st = (term P l, h, ends_is P f l leaves locals status is st)
jumped_inside P e f j.Barred l locals status h is st = (h.0, stays_is P f l locals status h.1 h.2 is st)

pub jumped : (P : World) (rows : List Row) (exit : Exit) (inside old : Held) (told : Jumped) (l : Layers) (locals : List m.Locals) (leaves : Bool) (status : m.Status) → P.rows ≡ rows → inside ≡ old → IsNeat rows old.layers
    → (IsNeat P.rows inside.layers → stack.JumpsTo P exit inside.layers told l)
    → leaves ≡ has_left told → locals ≡ (if leaves then without_last inside.locals else inside.locals) → status ≡ status_after told (term P l) inside.status
    → JumpsTo P exit old told (stepped inside l locals status)
jumped P rows exit inside old told l locals leaves status same e h jumps left_so is st =
    let neat = neat_of P rows inside same (neat_inside rows inside old e h) in
    subst (λ (f : Held). JumpsTo P exit f told (stepped inside l locals status)) e
    (jumped_inside P exit inside told l locals status (jumps neat) (is ∙ ap (λ (b : Bool). if b then without_last inside.locals else inside.locals) left_so) st)

-- ---- going on to the redex

pub opened_same : (P : World) (inside old : Held) (l : Layers) → inside ≡ old → term P l ≡ term P inside.layers → fiber_of P (stepped inside l inside.locals inside.status) ≡ fiber_of P old
opened_same P inside old l e t = ap (λ (u : Term). with_term inside u inside.status) t ∙ ap (fiber_of P) e

pub opened_rest : (inside old : Held) (l : Layers) → inside ≡ old → stepped inside l inside.locals inside.status ≡ with_layers old l
opened_rest inside old l e = ap (λ (f : Held). with_layers f l) e
