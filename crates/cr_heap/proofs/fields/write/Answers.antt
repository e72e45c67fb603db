use Rattle.std.proofs.Common.{◌≡◌, ◌∙◌, Some, None}
use Rattle.std.specs.List.{position}
use Rattle.cr_heap.proofs.Named.{is, field_replaced, field_added}
use Rattle.cr_heap.proofs.fields.write.Goals as goal

pub returns-in-Some-clause-ok : goal.returns-in-Some-clause-ok
returns-in-Some-clause-ok c =
    let at : position (is c.args.name) c.args.fields.now.items ≡ Some c.in-Some.at = cc in
    field_replaced c.args.name c.args.value c.args.fields.now.items c.in-Some.at (c.args.name, c.args.value) at

pub returns-in_ok-push-in-None-clause-ok : goal.returns-in_ok-push-in-None-clause-ok
returns-in_ok-push-in-None-clause-ok c =
    let at : position (is c.args.name) c.args.fields.now.items ≡ None = cc in
    c.in_ok-push-in-None.ensures.items ∙ field_added c.args.name c.args.value c.args.fields.now.items at
