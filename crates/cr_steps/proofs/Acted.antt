-- What a reduction comes to, once one fiber was changed.
use Rattle.std.proofs.Common.{◌≡◌, ℕ, false, List, Option, Some, None, refl, sym, ap, ◌∙◌}
use Rattle.std.specs.Prelude.{slice_get, slice_set}
use Rattle.std.specs.Option.{option_map}
use Rattle.std.proofs.lemmas.List.{map-set}
use Rattle.std.proofs.lemmas.Option.{slice_get-map}
use Rattle.cr_value.specs.declared.value.Value.{Value}
use Rattle.cr_meaning.specs.World.{World}
use Rattle.cr_meaning.specs.Term.{Term, Val}
use Rattle.cr_meaning.specs.State.{State, set_fiber}
use Rattle.cr_meaning.specs.State as m
use Rattle.cr_meaning.specs.Act.{Becomes as Gets, Jumps, gives}
use Rattle.cr_meaning.specs.Locals.{set_variable}
use Rattle.cr_meaning.specs.Redex.{redex}
use Rattle.cr_meaning.specs.Reduce.{becomes, jumped, reduced_by, Went}
use Rattle.cr_stack.specs.declared.jumping.Exit.{Exit}
use Rattle.cr_stack.specs.declared.jumping.Jumped.{Jumped}
use Rattle.cr_stack.specs.declared.jumping.Jumped.TheVariants as j
use Rattle.cr_stack.specs.Jumps.{exit_of}
use Rattle.cr_stack.specs.Steps.{given_by}
use Rattle.cr_fibers.specs.declared.locals.Variable.{Variable}
use Rattle.cr_fibers.specs.Held.{Held, fiber_of, variable_of, with_variables}
use Rattle.cr_fibers.specs.Steps.{Closed, JumpsTo, jumped_to, left_by, reduced_to}
use Rattle.cr_steps.specs.declared.control.Control.{Control}
use Rattle.cr_steps.specs.Control.{fibers_of, with_fibers}
use Rattle.cr_steps.specs.Control as told
use Rattle.cr_steps.specs.Step.{captured_in, ended, told_of, with_captured}
use Rattle.cr_steps.proofs.Lists.{set_here, set_twice, set_self, kept_at}

-- ---- one fiber

module _ (P : World) (s : State) (i : ℕ) (f g : Held) (at : slice_get s.fibers i ≡ Some (fiber_of P f)) where
  fiber_becomes : (x : m.Fiber) → fiber_of P g ≡ x → Went (set_fiber s i x) ≡ Went (set_fiber s i (fiber_of P g))
  fiber_becomes x is = ap (λ (y : m.Fiber). Went (set_fiber s i y)) (sym is)

  -- a term takes the place of the redex
  pub put_is : (t : Term) → fiber_of P g ≡ reduced_to (fiber_of P f) t → reduced_by s i (fiber_of P f) (Gets s t) ≡ Went (set_fiber s i (fiber_of P g))
  put_is t is = ap (λ (o : Option m.Fiber). Went (becomes s i t o)) at ∙ fiber_becomes (reduced_to (fiber_of P f) t) is

  -- another fiber there, and then a value in place of the redex
  becomes_set : (x : m.Fiber) (t : Term) → becomes (set_fiber s i x) i t (slice_get (slice_set s.fibers i x) i) ≡ set_fiber s i (reduced_to x t)
  becomes_set x t = ap (becomes (set_fiber s i x) i t) (set_here s.fibers i (fiber_of P f) x at) ∙ ap (with_fibers s) (set_twice s.fibers i x (reduced_to x t))

  pub own_is : (x : m.Fiber) (v : Value) → fiber_of P g ≡ reduced_to x (Val v) → reduced_by s i (fiber_of P f) (gives (set_fiber s i x) v) ≡ Went (set_fiber s i (fiber_of P g))
  own_is x v is = ap Went (becomes_set x (Val v)) ∙ fiber_becomes (reduced_to x (Val v)) is

  pub closed_is : Closed P f g → reduced_by s i (fiber_of P f) (ended s i (fiber_of P f) (redex (fiber_of P f).term)) ≡ Went (set_fiber s i (fiber_of P g))
  closed_is c =
      ap (λ (o : Option Term). reduced_by s i (fiber_of P f) (ended s i (fiber_of P f) o)) c.is
      ∙ own_is (left_by c.it (fiber_of P f)) (given_by c.it) c.closed

  jumped_is : (e : Exit) (to : Jumped) → JumpsTo P e f to g → reduced_by s i (fiber_of P f) (Jumps (exit_of e)) ≡ told.reduced_to (told_of to) (set_fiber s i (fiber_of P g))
  jumped_is e j.Outwards h = ap (jumped s i (fiber_of P f)) h.0
  jumped_is e (j.Ends leaves) h = ap (jumped s i (fiber_of P f)) h.1 ∙ fiber_becomes (jumped_to (fiber_of P f) leaves h.0) h.2
  jumped_is e j.Barred h = ap (jumped s i (fiber_of P f)) h.0

  pub jumped_as : (e : Exit) (to : Jumped) (t : Control) → t ≡ told_of to → JumpsTo P e f to g → reduced_by s i (fiber_of P f) (Jumps (exit_of e)) ≡ told.reduced_to t (set_fiber s i (fiber_of P g))
  jumped_as e to t is h = jumped_is e to h ∙ ap (λ (u : Control). told.reduced_to u (set_fiber s i (fiber_of P g))) (sym is)

-- a jump that comes to no end leaves the fiber as it was
jumped_same : (P : World) (f g : Held) (e : Exit) (to : Jumped) → told.is_went (told_of to) ≡ false → JumpsTo P e f to g → fiber_of P g ≡ fiber_of P f
jumped_same P f g e j.Outwards clear h = h.1
jumped_same P f g e (j.Ends leaves) clear h = absurd cc
jumped_same P f g e j.Barred clear h = h.1

pub jumped_same_as : (P : World) (f g : Held) (e : Exit) (to : Jumped) (t : Control) → t ≡ told_of to → told.is_went t ≡ false → JumpsTo P e f to g → fiber_of P g ≡ fiber_of P f
jumped_same_as P f g e to t is clear h = jumped_same P f g e to (ap told.is_went (sym is) ∙ clear) h

-- ---- fibers

module _ (P : World) (s : State) (fs : List Held) (i : ℕ) where
  pub get_is : (f : Held) → s.fibers ≡ fibers_of P fs → slice_get fs i ≡ Some f → slice_get s.fibers i ≡ Some (fiber_of P f)
  get_is f same at = ap (λ (xs : List m.Fiber). slice_get xs i) same ∙ slice_get-map (fiber_of P) fs i ∙ ap (option_map (fiber_of P)) at

  -- the state with another fiber there
  pub with_is : (g : Held) → s.fibers ≡ fibers_of P fs → set_fiber s i (fiber_of P g) ≡ with_fibers s (fibers_of P (slice_set fs i g))
  with_is g same = ap (λ (xs : List m.Fiber). with_fibers s (slice_set xs i (fiber_of P g))) same ∙ ap (with_fibers s) (sym (map-set (fiber_of P) fs i g))

pub same_there : (P : World) (fs : List Held) (i : ℕ) (f g : Held) → slice_get fs i ≡ Some f → fiber_of P g ≡ fiber_of P f → fibers_of P (slice_set fs i g) ≡ fibers_of P fs
same_there P fs i f g at is =
    map-set (fiber_of P) fs i g
    ∙ ap (slice_set (fibers_of P fs) i) is
    ∙ set_self (fibers_of P fs) i (fiber_of P f) (slice_get-map (fiber_of P) fs i ∙ ap (option_map (fiber_of P)) at)

-- ---- captured locals

module _ (P : World) (s : State) (fs : List Held) (y : Variable) (v : Value) where
  with_captured_is : (o : Option Held) → s.fibers ≡ fibers_of P fs → set_variable s (variable_of y) v (option_map (fiber_of P) o) ≡ with_fibers s (fibers_of P (with_captured fs y v o))
  with_captured_is None is = ap (with_fibers s) is
  with_captured_is (Some f) is = with_is P s fs y.fiber.0 (with_variables f (slice_set f.variables y.number v)) is

  pub captured_is : s.fibers ≡ fibers_of P fs → set_variable s (variable_of y) v (slice_get s.fibers y.fiber.0) ≡ with_fibers s (fibers_of P (captured_in fs y v))
  captured_is is =
      ap (λ (xs : List m.Fiber). set_variable s (variable_of y) v (slice_get xs y.fiber.0)) is
      ∙ ap (set_variable s (variable_of y) v) (slice_get-map (fiber_of P) fs y.fiber.0)
      ∙ with_captured_is (slice_get fs y.fiber.0) is

-- each fiber is there still, with its term
kept_by : (fs : List Held) (y : Variable) (v : Value) (i : ℕ) (f : Held) (o : Option Held) → slice_get fs y.fiber.0 ≡ o → slice_get fs i ≡ Some f
    → (g : Held) × (slice_get (with_captured fs y v o) i ≡ Some g) × (g.layers ≡ f.layers)
kept_by fs y v i f None is at = (f, at, refl)
kept_by fs y v i f (Some h) is at = kept_at (λ (k : Held). k.layers) fs y.fiber.0 i h (with_variables h (slice_set h.variables y.number v)) f is refl at

pub captured_kept : (fs : List Held) (y : Variable) (v : Value) (i : ℕ) (f : Held) → slice_get fs i ≡ Some f
    → (g : Held) × (slice_get (captured_in fs y v) i ≡ Some g) × (g.layers ≡ f.layers)
captured_kept fs y v i f at = kept_by fs y v i f (slice_get fs y.fiber.0) refl at
