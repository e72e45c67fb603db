use Rattle.std.proofs.Common.{◌≡◌, length, refl, ap, ◌∙◌, ◌-◌, arith, ℕ, Some}
use Rattle.std.specs.Prelude.{slice_get}
use Rattle.std.proofs.lemmas.Option.{slice_get_read}
use Rattle.cr_fibers.proofs.Kept.{around_is}
use Rattle.cr_fibers.proofs.places.+around.Goals as goal

pub returns : goal.returns
returns t c =
    let ls = c.args.locals.now in
    let found = c.in-Some.found.now in
    let outer = c.in_ok-outer.outer in
    let is : slice_get ls c.args.at ≡ Some found = slice_get_read ls (length ls) c.args.at found refl c.in-Some.ensures.lookup.3.0 c.in-Some.ensures.lookup.1 in
    around_is ls c.args.most c.args.at c.in-Some-home.place c.saturating_sub-home.result found c.in_ok-seen_locals-2.field-0 outer.items _
    (omega arith) is c.in-Some-home.is c.in_ok-outer.ensures (c.saturating_sub-home.ensures ∙ ap (λ (n : ℕ). n - 1) (c.len.ensures ∙ outer.ok.0)) c.in_ok-seen_locals-2.ensures c.in_ok-push-2.ensures.items
