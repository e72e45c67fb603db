use Rattle.std.proofs.Common.{ℕ, List, Option, refl, ap, ◌∙◌}
use Rattle.std.proofs.lemmas.Option.{slice_get_read}
use Rattle.cr_names.specs.Names.{outwards}
use Rattle.cr_names.specs.Tables.{told}
use Rattle.cr_names.proofs.Outwards.{one_more, all_around}
use Rattle.cr_names.proofs.around.classes_around.Goals as goal

pub loop-row-preserved : goal.loop-row-preserved
loop-row-preserved c =
    one_more c.args.rows.now c.loop-row.table.items c.push.new.self.items c.loop-row.row-index c.row-item.result c.outwards-class.result c.requires
    (slice_get_read c.args.rows.now _ c.loop-row.row-index c.row-item.result refl c.loop-row-test.true c.row-item.is) c.loop-row.invariant
    (c.outwards-class.ensures ∙ ap (λ (l : List (Option ℕ)). outwards c.args.rows.now (told l) c.row-item.result.within.parent) c.as_slice.ensures.value) c.in_ok-push.ensures.items

pub returns : goal.returns
returns c = all_around c.args.rows.now c.loop-row.table.items c.loop-row.row-index c.loop-row-test.false c.loop-row.auto.row-index-end c.loop-row.invariant
