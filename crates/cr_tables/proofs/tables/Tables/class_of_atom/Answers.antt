use Rattle.std.proofs.Common.{◌∙◌, Some, None, length, refl, sym}
use Rattle.std.proofs.lemmas.Option.{slice_get_read, slice_get_past}
use Rattle.cr_tables.proofs.Kept.{named_row, form_is}
use Rattle.cr_tables.proofs.tables.Tables.class_of_atom.Goals as goal

pub class_of_form-requires : goal.class_of_form-requires
class_of_form-requires c =
    let rows = c.rows-rows.result.now in
    named_row c.self.inside.core c.args.self.now c.self.view_is c.rows-rows.ensures.core rows c.rows-rows.ensures.rows c.args.atom.0 c.in-Some.row.now
    (slice_get_read rows (length rows) c.args.atom.0 c.in-Some.row.now refl c.in-Some.ensures.lookup.3.0 c.in-Some.ensures.lookup.1)

pub returns-in-Some : goal.returns-in-Some
returns-in-Some c =
    let rows = c.rows-rows.result.now in
    c.class_of_form.ensures
    ∙ sym (form_is c.self.inside.core c.args.self.now c.self.view_is rows c.rows-rows.ensures.rows c.args.atom (Some c.in-Some.row.now)
    (slice_get_read rows (length rows) c.args.atom.0 c.in-Some.row.now refl c.in-Some.ensures.lookup.3.0 c.in-Some.ensures.lookup.1))

pub returns-in-None : goal.returns-in-None
returns-in-None c =
    let rows = c.rows-rows.result.now in
    sym (form_is c.self.inside.core c.args.self.now c.self.view_is rows c.rows-rows.ensures.rows c.args.atom None
    (slice_get_past rows c.args.atom.0 c.in-None.ensures.lookup.3))
