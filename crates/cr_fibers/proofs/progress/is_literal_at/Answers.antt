use Rattle.std.proofs.Common.{◌≡◌, Bool, List, length, refl, sym, ap, ◌∙◌, Some}
use Rattle.std.specs.Prelude.{slice_get, if◌then◌else◌}
use Rattle.std.proofs.lemmas.Option.{slice_get_read, slice_get_past}
use Rattle.cr_core.specs.declared.row.Row.{Row}
use Rattle.cr_meaning.specs.State.{Done}
use Rattle.cr_fibers.proofs.Values.{value_there, value_nowhere}
use Rattle.cr_fibers.proofs.progress.is_literal_at.Goals as goal

pub returns-in-Some : goal.returns-in-Some
returns-in-Some c = λ P same status.
    let rows = c.args.rows.now in
    let r = c.in-Some.row.now in
    let is : slice_get rows c.args.at.0 ≡ Some r = slice_get_read rows (length rows) c.args.at.0 r refl c.in-Some.ensures.lookup.3.0 c.in-Some.ensures.lookup.1 in
    value_there P c.args.at r (ap (λ (rs : List Row). slice_get rs c.args.at.0) same ∙ is) status
    ∙ ap (λ (b : Bool). if b then Done else status) (sym (c.is_literal.ensures P))

pub returns-in-None : goal.returns-in-None
returns-in-None c = λ P same status.
    let rows = c.args.rows.now in
    value_nowhere P c.args.at (ap (λ (rs : List Row). slice_get rs c.args.at.0) same ∙ slice_get_past rows c.args.at.0 c.in-None.ensures.lookup.3) status
