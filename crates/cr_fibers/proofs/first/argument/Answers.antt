use Rattle.std.proofs.Common.{◌≡◌, ◌∙◌, length, refl, Some}
use Rattle.std.specs.Prelude.{slice_get}
use Rattle.std.proofs.lemmas.Option.{slice_get_read, slice_get_past}
use Rattle.std.proofs.lemmas.Result.{IfOk-weaker}
use Rattle.cr_fibers.proofs.Beginning.{first_there, first_nowhere}
use Rattle.cr_fibers.proofs.first.argument.Goals as goal

pub returns-in-Some : goal.returns-in-Some
returns-in-Some c =
    let vs = c.args.given.now in
    let v = c.in-Some.value.now in
    let is : slice_get vs c.args.at ≡ Some v = slice_get_read vs (length vs) c.args.at v refl c.in-Some.ensures.lookup.3.0 c.in-Some.ensures.lookup.1 in
    IfOk-weaker c.copy.result _ _ (λ made e. e ∙ first_there vs c.args.at v is) c.copy.ensures

pub returns-in-None : goal.returns-in-None
returns-in-None c = first_nowhere c.args.given.now c.args.at (slice_get_past c.args.given.now c.args.at c.in-None.ensures.lookup.3)
