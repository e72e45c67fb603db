use Rattle.std.proofs.Common.{◌≡◌, List, [], ◌+◌, ◌≤◌, length, Option, sym, ap, ◌∙◌, subst, arith}
use Rattle.std.specs.Prelude.{unwrap_or, slice_get}
use Rattle.cr_base.specs.declared.ids.ClassId.{ClassId}
use Rattle.cr_ancestors.specs.Above.{ups_of}
use Rattle.cr_ancestors.specs.Line.{kept}
use Rattle.cr_ancestors.specs.Making.{IsClosing}
use Rattle.cr_ancestors.proofs.Closing.{closing_start, closing_step, closing_end, next_low, few}
use Rattle.cr_ancestors.proofs.hierarchy.Hierarchy.above.Goals as goal

pub upwards-init : goal.upwards-init
upwards-init c =
    let h = c.args.self.now in
    let ups : ups_of h c.args.class ≡ c.ups.result.now = ap (λ (o : Option (List ClassId)). unwrap_or o []) c.ups.ensures in
    let found = c.in_ok-add.ensures ∙ ap (λ (l : List ClassId). kept l c.ups.result.now) c.new-found.ensures.items ∙ ap (kept []) (sym ups) in
    subst (λ (l : List ClassId). IsClosing h c.args.class l 0) (sym found) (closing_start h c.args.class c.len.ensures.within)

pub ups-requires-in-upwards : goal.ups-requires-in-upwards
ups-requires-in-upwards c =
    let at = ap (λ (l : List ClassId). slice_get l c.upwards.done) (sym c.as_slice.ensures.value) ∙ c.at-next.ensures in
    next_low c.args.self.now c.args.class c.len.ensures.within c.upwards.found.items c.upwards.done c.upwards.done c.at-next.result c.upwards.invariant at

pub upwards-smaller : goal.upwards-smaller
upwards-smaller c =
    let most = few c.args.self.now c.args.class c.len.ensures.within c.upwards.found.items c.upwards.done c.upwards.invariant in
    let more = c.upwards-test.true in
    let len = c.len-in-upwards.ensures in
    let ok = c.upwards.found.ok.0 in
    omega (arith, most, more, len, ok)

pub upwards-preserved : goal.upwards-preserved
upwards-preserved c =
    let h = c.args.self.now in
    let at = ap (λ (l : List ClassId). slice_get l c.upwards.done) (sym c.as_slice.ensures.value) ∙ c.at-next.ensures in
    let ups : ups_of h c.at-next.result ≡ c.ups-in-upwards.result.now = ap (λ (o : Option (List ClassId)). unwrap_or o []) c.ups-in-upwards.ensures in
    let found = c.in_ok-add-2.ensures ∙ ap (kept c.upwards.found.items) (sym ups) in
    subst (λ (l : List ClassId). IsClosing h c.args.class l (c.upwards.done + 1)) (sym found)
    (closing_step h c.args.class c.len.ensures.within c.upwards.found.items c.upwards.done c.at-next.result c.upwards.invariant at)

pub returns : goal.returns
returns c =
    let end = c.upwards-test.false in
    let len = c.len-in-upwards.ensures in
    let ok = c.upwards.found.ok.0 in
    let le : length c.upwards.found.items ≤ c.upwards.done = omega (arith, end, len, ok) in
    λ above. (c.upwards.invariant.sound above, closing_end c.args.self.now c.args.class c.len.ensures.within c.upwards.found.items c.upwards.done c.upwards.invariant le above)
