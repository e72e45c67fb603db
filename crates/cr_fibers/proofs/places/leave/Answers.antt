use Rattle.std.proofs.Common.{◌∙◌, Bool, ap, sym}
use Rattle.std.specs.Prelude.{map, if◌then◌else◌}
use Rattle.cr_meaning.specs.Locals.{without_last}
use Rattle.cr_fibers.specs.Held.{locals_of}
use Rattle.cr_fibers.proofs.Kept.{leave_is}
use Rattle.cr_fibers.proofs.places.leave.Goals as goal

pub returns-then-leaves : goal.returns-then-leaves
returns-then-leaves c =
    let old = c.args.locals.now in
    leave_is old.items _ _ c.pop.ensures.rest old.ok.0
    ∙ ap (λ (b : Bool). if b then without_last (map locals_of old.items) else map locals_of old.items) (sym c.if-leaves.true)
