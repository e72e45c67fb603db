-- What is read of a fiber, and a fiber with other locals or captured locals: `inside` is what it had before, as its fields tell, and `old` the
-- same as contracts see it.
use Rattle.std.proofs.Common.{◌≡◌, ◌-◌, ℕ, List, length, ap, ◌∙◌, Option}
use Rattle.std.specs.Prelude.{slice_get, slice_set}
use Rattle.cr_value.specs.declared.value.Value.{Value}
use Rattle.cr_meaning.specs.State as m
use Rattle.cr_meaning.specs.Locals.{outwards, slots_of, with_slot}
use Rattle.cr_fibers.specs.Held.{Held, with_locals, with_variables}

pub set_variable_is : (inside old : Held) (variables : List Value) (number : ℕ) (v : Value) → inside ≡ old → variables ≡ slice_set inside.variables number v
    → with_variables inside variables ≡ with_variables old (slice_set old.variables number v)
set_variable_is inside old variables number v e is =
    ap (with_variables inside) is ∙ ap (λ (f : Held). with_variables f (slice_set f.variables number v)) e

abbrev with_own : Held → ℕ → ℕ → Value → Held
with_own f place slot v = with_locals f (with_slot (slice_get f.locals place) slot (m.Own v) f.locals place)

pub set_slot_is : (inside old : Held) (locals : List m.Locals) (place slot up : ℕ) (v : Value) → inside ≡ old
    → locals ≡ with_slot (slice_get inside.locals place) slot (m.Own v) inside.locals place → place ≡ outwards old.locals up (length old.locals - 1)
    → with_locals inside locals ≡ with_own old (outwards old.locals up (length old.locals - 1)) slot v
set_slot_is inside old locals place slot up v e is at =
    ap (with_locals inside) is ∙ ap (λ (f : Held). with_own f place slot v) e ∙ ap (λ (k : ℕ). with_own old k slot v) at

pub place_is : (inside old : Held) (ls : List m.Locals) (up from place : ℕ) → inside ≡ old → place ≡ outwards ls up from → ls ≡ inside.locals → from ≡ length old.locals - 1
    → place ≡ outwards old.locals up (length old.locals - 1)
place_is inside old ls up from place e p l f =
    p ∙ ap (λ (ks : List m.Locals). outwards ks up from) (l ∙ ap (λ (g : Held). g.locals) e) ∙ ap (outwards old.locals up) f

abbrev slot_in : List m.Locals → ℕ → ℕ → Option m.Slot
slot_in ls place slot = slice_get (slots_of (slice_get ls place)) slot

pub slot_is : (inside old : Held) (ls : List m.Locals) (place up slot : ℕ) (o : Option m.Slot) → inside ≡ old → o ≡ slot_in ls place slot → ls ≡ inside.locals
    → place ≡ outwards old.locals up (length old.locals - 1) → o ≡ slot_in old.locals (outwards old.locals up (length old.locals - 1)) slot
slot_is inside old ls place up slot o e p l at =
    p ∙ ap (λ (ks : List m.Locals). slot_in ks place slot) (l ∙ ap (λ (g : Held). g.locals) e) ∙ ap (λ (k : ℕ). slot_in old.locals k slot) at
