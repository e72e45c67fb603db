-- Fields of the object that a receiver refers to.
use Rattle.std.proofs.Common.{◌≡◌, ℕ, List, Option, Some, None, Result, Ok, Err, ap, sym, ◌∙◌}
use Rattle.std.specs.Prelude.{slice_get, slice_set, IfOk}
use Rattle.std.specs.Option.{option_and_then}
use Rattle.cr_base.specs.declared.ids.NameId.{NameId}
use Rattle.cr_base.specs.declared.memory.NoMemory.{NoMemory}
use Rattle.cr_value.specs.declared.value.Value.{Value}
use Rattle.cr_value.specs.declared.value.Value.TheVariants.{Nil, Flag, Small, Big, Word, Ref}
use Rattle.cr_builtins.specs.declared.outcome.Outcome.{Outcome}
use Rattle.cr_meaning.specs.State as m
use Rattle.cr_meaning.specs.State.{State, set_cell}
use Rattle.cr_meaning.specs.Act.{Act, gives, or_stuck, outcome_of}
use Rattle.cr_meaning.specs.Channels.{cell_of}
use Rattle.cr_meaning.specs.Reduce.{set_field, object_in, sets_field}
use Rattle.cr_heap.specs.Told.{with_cells, told}

abbrev pub sets : NameId → Value → State → ℕ → Option m.Cell → Act
sets name v s k cell = or_stuck (λ (o : m.Instance). gives (set_cell s k (m.Object (record o { fields = set_field name v o.fields }))) v) (object_in cell)

-- the assignment where the receiver refers to cell k
sets_at : (s : State) (name : NameId) (v : Value) (receiver : Option Value) (k : ℕ) → Some k ≡ option_and_then cell_of receiver
    → sets_field s name v receiver ≡ sets name v s k (slice_get s.cells k)
sets_at s name v None k e = cc
sets_at s name v (Some Nil) k e = cc
sets_at s name v (Some (Flag b)) k e = cc
sets_at s name v (Some (Small n)) k e = cc
sets_at s name v (Some (Big n)) k e = cc
sets_at s name v (Some (Word text)) k e = cc
sets_at s name v (Some (Ref r)) k e = let same : r.cell ≡ k = cc in ap (λ j. sets name v s j (slice_get s.cells j)) same

-- the assignment on cell k comes to this outcome
pub assigned : (name : NameId) (v : Value) (receiver : Option Value) (old new : List m.Cell) (k : ℕ) (was now : m.Cell) (r : Result Outcome NoMemory)
    → Some k ≡ option_and_then cell_of receiver → slice_get old k ≡ Some was → new ≡ slice_set old k now
    → IfOk r (λ o. (s : State) (j : ℕ) → sets name v s j (Some was) ≡ outcome_of (set_cell s j now) o)
    → IfOk r (λ o. (s : State) → s.cells ≡ old → sets_field s name v receiver ≡ told s new o)
assigned name v receiver old new k was now (Err x) at here is does = tt
assigned name v receiver old new k was now (Ok o) at here is does = λ s e.
    sets_at s name v receiver k at
    ∙ ap (λ (cells : List m.Cell). sets name v s k (slice_get cells k)) e ∙ ap (sets name v s k) here ∙ does s k
    ∙ ap (λ (cells : List m.Cell). outcome_of (with_cells s cells) o) (ap (λ (cells : List m.Cell). slice_set cells k now) e ∙ sym is)
