use Rattle.std.proofs.Common.{ap}
use Rattle.cr_core.specs.declared.form.Local.{Local}
use Rattle.cr_making.specs.Terms.{called, locals}
use Rattle.cr_making.specs.Assigning.{put_element}
use Rattle.cr_making.proofs.Done.{wrap_made, join_made, using_made, begins_as, made_as}
use Rattle.cr_constructs.proofs.constructs.Constructs.put_element.Goals as goal

pub returns : goal.returns
unfolding put_element called
returns g c =
    let same = ap (λ (l : Local). locals c.args.mark l c.args.count) c.in_ok-first.ensures in
    let read = using_made _ c.in_ok-getter.ensures (wrap_made (begins_as c.sent_form-3.ensures c.in_ok-open-3.ensures) (join_made c.in_ok-leaf-2.ensures (made_as same c.in_ok-locals-2.ensures)) c.in_ok-close.ensures) in
    let sum = using_made _ c.in_ok-called.ensures (wrap_made (begins_as c.sent_form-2.ensures c.in_ok-open-2.ensures) (join_made read c.in_ok-term.ensures) c.in_ok-close-2.ensures) in
    using_made _ c.in_ok-setter.ensures (wrap_made (begins_as c.sent_form.ensures c.in_ok-open.ensures) (join_made c.in_ok-leaf.ensures (join_made (made_as same c.in_ok-locals.ensures) sum)) c.in_ok-close-3.ensures)
