use Rattle.std.proofs.Common.{List, [], length, ap, sym, refl, ◌∙◌}
use Rattle.std.specs.Prelude.{map}
use Rattle.std.proofs.lemmas.List.{length-map}
use Rattle.cr_meaning.specs.Locals.{around}
use Rattle.cr_fibers.specs.declared.locals.Locals.{Locals}
use Rattle.cr_fibers.specs.Held.{locals_of}
use Rattle.cr_fibers.proofs.Entered.{spawned_is}
use Rattle.cr_fibers.proofs.fiber.Fiber.spawned.Goals as goal

pub returns-clause-fiber : goal.returns-clause-fiber
returns-clause-fiber c = λ P.
    let all = c.as_slice-all.result.now in
    spawned_is P _ c.args.self.now c.in_ok-stack.stack (map locals_of c.in_ok-locals.locals.items) (map locals_of c.in_ok-outer.outer.items) c.in_ok-slots.field-0 c.args.number.0 c.args.context.0 (length all) c.innermost.result c.args.scope.now c.self.view_is
    (c.in_ok-stack.ensures.term P) (c.in_ok-slots.ensures [] refl) (c.in_ok-locals.ensures c.in_ok-slots.field-0.made.items)
    (c.in_ok-outer.ensures ∙ ap (λ (ls : List Locals). around (map locals_of ls) (length all) c.innermost.result) c.as_slice-all.ensures.value)
    (ap length c.as_slice-all.ensures.value ∙ sym (length-map c.self.inside.locals.items locals_of))
    c.innermost.ensures
