-- Nodes one beside the other, and that their rows are an arena.
use Rattle.std.proofs.Common.{◌≡◌, List, [], ◌∷◌, true, false, refl}
use Rattle.cr_base.specs.declared.ids.NameId.{NameId}
use Rattle.cr_core.specs.declared.form.Form.{Form}
use Rattle.cr_core.specs.declared.form.Form.TheVariants as f
use Rattle.cr_core.specs.declared.form.ScopeId.{ScopeId}
use Rattle.cr_core.specs.declared.row.Place.{Place}
use Rattle.cr_core.specs.Core.{Core, none, node, one}
use Rattle.cr_core.specs.Shape.{Term, Clause, Block}
use Rattle.cr_core.specs.Arena.{rows}
use Rattle.cr_core.specs.Standing.{Shaped}
use Rattle.cr_core.proofs.Standing.{rows_are_an_arena}
use Rattle.cr_flow.specs.Chain.{IsForward}
use Rattle.cr_flow.proofs.Parts.{forward}

abbrev at_start : Place
at_start = record { prelude = false; at = 0 }

abbrev leaf : Form → Core → Core
leaf form rest = node form at_start none rest

abbrev with_parts : Form → Core → Core → Core
with_parts form parts rest = node form at_start parts rest

-- `@b`, and `@a = nil`
abbrev read : Core → Core
read rest = leaf (f.Field (record { 0 = 1 })) rest

abbrev set : Core → Core
set rest = with_parts (f.SetField (record { 0 = 0 })) (leaf f.Nil none) rest

abbrev block : Core
block = with_parts (f.Block (record { 0 = 1 })) (set none) none

abbrev apart : Core
apart = with_parts (f.Block (record { 0 = 2 })) (set none) none

abbrev turns : Core
turns = with_parts f.If (read (with_parts f.Seq (set (leaf f.Again none)) (leaf f.Nil none))) none

abbrev turn : Core
turn = with_parts f.If (leaf f.True (with_parts f.Seq (set (with_parts f.Seq (leaf f.Break (leaf f.Again none)) none)) (leaf f.Nil none))) none

abbrev clauses : Core
clauses = with_parts f.Receive (read (set none)) (set none)

abbrev statements : Core
statements = with_parts f.Or (read (with_parts f.Return (leaf f.Nil none) none)) (with_parts f.Seq (leaf f.Yield (with_parts f.Seq (set (leaf f.Yield none)) none)) none)

nil_shaped : (rest : Core) → Shaped rest → Shaped (leaf f.Nil rest)
nil_shaped rest h = (tt, tt, h)

set_shaped : (rest : Core) → Shaped rest → Shaped (set rest)
set_shaped rest h = ((refl, tt), nil_shaped none tt, h)

read_shaped : (rest : Core) → Shaped rest → Shaped (read rest)
read_shaped rest h = (tt, tt, h)

yield_shaped : (rest : Core) → Shaped rest → Shaped (leaf f.Yield rest)
yield_shaped rest h = (([], [], refl, tt, tt), tt, h)

again_shaped : Shaped (leaf f.Again none)
again_shaped = (tt, tt, tt)

break_shaped : Shaped (leaf f.Break (leaf f.Again none))
break_shaped = (tt, tt, again_shaped)

turns_shaped : Shaped turns
turns_shaped =
    let body : Shaped (with_parts f.Seq (set (leaf f.Again none)) (leaf f.Nil none)) = ((refl, (refl, tt)), set_shaped (leaf f.Again none) again_shaped, nil_shaped none tt) in
    ((refl, (refl, (refl, tt))), read_shaped (with_parts f.Seq (set (leaf f.Again none)) (leaf f.Nil none)) body, tt)

turn_shaped : Shaped turn
turn_shaped =
    let leaving : Shaped (with_parts f.Seq (leaf f.Break (leaf f.Again none)) none) = ((refl, (refl, tt)), break_shaped, tt) in
    let body : Shaped (with_parts f.Seq (set (with_parts f.Seq (leaf f.Break (leaf f.Again none)) none)) (leaf f.Nil none)) = ((refl, (refl, tt)), set_shaped (with_parts f.Seq (leaf f.Break (leaf f.Again none)) none) leaving, nil_shaped none tt) in
    ((refl, (refl, (refl, tt))), (tt, tt, body), tt)

block_shaped : Shaped block
block_shaped = (([], Term ∷ [], refl, tt, (refl, tt)), set_shaped none tt, tt)

apart_shaped : Shaped apart
apart_shaped = (([], Term ∷ [], refl, tt, (refl, tt)), set_shaped none tt, tt)

clauses_shaped : Shaped clauses
clauses_shaped = ((refl, (refl, tt)), read_shaped (set none) (set_shaped none tt), set_shaped none tt)

statements_shaped : Shaped statements
statements_shaped =
    let returned : Shaped (with_parts f.Return (leaf f.Nil none) none) = ((refl, tt), nil_shaped none tt, tt) in
    let later : Shaped (with_parts f.Seq (set (leaf f.Yield none)) none) = ((refl, (refl, tt)), set_shaped (leaf f.Yield none) (yield_shaped none tt), tt) in
    let more : Shaped (with_parts f.Seq (leaf f.Yield (with_parts f.Seq (set (leaf f.Yield none)) none)) none) = ((refl, (refl, tt)), yield_shaped (with_parts f.Seq (set (leaf f.Yield none)) none) later, tt) in
    ((refl, (refl, tt)), read_shaped (with_parts f.Return (leaf f.Nil none) none) returned, more)

-- from the last to the first
abbrev sequence : Core
sequence = with_parts f.Seq statements none

abbrev choice : Core
choice = with_parts (f.Select true) clauses sequence

abbrev fiber : Core
fiber = with_parts (f.Spawn false) apart choice

abbrev call : Core
call = with_parts (f.Call (record { 0 = 1 }) false true) block fiber

abbrev loop : Core
loop = with_parts f.While turn call

abbrev pub trees : Core
trees = with_parts f.While turns loop

sequence_shaped : Shaped sequence
sequence_shaped = ((refl, (refl, tt)), statements_shaped, tt)

choice_shaped : Shaped choice
choice_shaped = ((Clause ∷ [], Term ∷ [], refl, (refl, tt), (refl, tt)), clauses_shaped, sequence_shaped)

fiber_shaped : Shaped fiber
fiber_shaped = ((refl, tt), apart_shaped, choice_shaped)

call_shaped : Shaped call
call_shaped = (([], Block ∷ [], refl, tt, (refl, tt)), block_shaped, fiber_shaped)

loop_shaped : Shaped loop
loop_shaped = ((refl, tt), turn_shaped, call_shaped)

shaped : Shaped trees
shaped = ((refl, tt), turns_shaped, loop_shaped)

pub is_forward : IsForward (rows trees)
is_forward = forward (rows trees) (rows_are_an_arena trees shaped)
