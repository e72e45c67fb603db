use Rattle.std.proofs.Common.{◌≡◌, ◌<◌, length, refl, ap, sym, subst, ◌∙◌, arith}
use Rattle.std.proofs.lemmas.List.{length-map}
use Rattle.std.proofs.lemmas.Option.{slice_get_read}
use Rattle.cr_stack.specs.Steps.{IsReduced}
use Rattle.cr_fibers.specs.Held.{Held, locals_of}
use Rattle.cr_fibers.proofs.Entered.{in_block_is, pushed}
use Rattle.cr_fibers.proofs.Kept.{stands}
use Rattle.cr_fibers.proofs.Reducing.{neat_inside}
use Rattle.cr_fibers.proofs.fiber.Fiber.enter_block.Goals as goal

pub put_block-requires : goal.put_block-requires
put_block-requires c = record {
  reduced = subst (λ (f : Held). IsReduced f.layers.focus) (sym c.self.view_is) c.requires.reduced;
  room = subst (λ (f : Held). 0 < f.layers.room) (sym c.self.view_is) c.requires.opened.room;
}

pub settle-requires : goal.settle-requires
settle-requires c = c.put_block.ensures.neat c.args.rows.now c.requires.term (neat_inside c.args.rows.now _ c.args.self.now c.self.view_is c.requires.opened.neat)

pub returns-clause-neat : goal.returns-clause-neat
returns-clause-neat c = c.put_block.ensures.neat c.args.rows.now c.requires.term (neat_inside c.args.rows.now _ c.args.self.now c.self.view_is c.requires.opened.neat)

pub returns-clause-ok : goal.returns-clause-ok
returns-clause-ok c = λ P written same at.
    let items = c.self.inside.locals.items in
    let many : length c.args.self.now.locals ≡ length items = ap (λ (f : Held). length f.locals) (sym c.self.view_is) ∙ length-map items locals_of in
    let within : c.args.home < length items = omega (arith, c.requires.home, many) in
    in_block_is P c.args.rows.now _ c.args.self.now c.put_block.new.self _ _ _ c.args.home written (locals_of c.index.result.now) (locals_of c.in_ok-locals.locals) c.args.begun c.args.body
    same c.self.view_is c.requires.opened.neat c.put_block.ensures.step
    (stands items c.args.home c.index.result.now (slice_get_read items (length items) c.args.home c.index.result.now refl within c.index.ensures)) at (pushed _ _ _ c.in_ok-enter.ensures.ok.0) c.in_ok-locals.ensures c.in_ok-enter.ensures.ok.1 (c.settle.ensures P same)
