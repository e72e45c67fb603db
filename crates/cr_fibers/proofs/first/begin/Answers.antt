use Rattle.std.proofs.Common.{◌+◌, ◌∙◌, ℕ, List, length, ap, sym}
use Rattle.std.specs.Prelude.{drop}
use Rattle.std.proofs.lemmas.List.{length_push}
use Rattle.cr_value.specs.declared.value.Value.{Value}
use Rattle.cr_core.specs.declared.scope.Slot.{Slot as Named}
use Rattle.cr_meaning.specs.Locals.{at_most, begun, first_or_nil}
use Rattle.cr_fibers.proofs.Beginning.{begin_start, begin_step, begin_end}
use Rattle.cr_fibers.proofs.first.begin.Goals as goal

pub loop-name-init : goal.loop-name-init
loop-name-init c = record {
  count = ap length c.new-slots.ensures.items;
  so = λ variables few. begin_start c.args.fiber.0 _ _ _ _ c.new-slots.ensures.items c.new-made.ensures.items variables;
}

pub loop-name-preserved : goal.loop-name-preserved
loop-name-preserved c =
    let count = c.loop-name.invariant.count in
    let place = c.len.ensures ∙ c.loop-name.slots.ok.0 ∙ count in
    record {
      count = ap length c.in_ok-push.ensures.items ∙ length_push c.loop-name.slots.items _ ∙ ap (λ (n : ℕ). n + 1) count;
      so =
          begin_step c.args.fiber.0 _ c.at_most-given.result.now _ c.args.before _ _ _ _ c.in_ok-value.value _ _ c.loop-name-test.true
          (c.in_ok-value.ensures ∙ ap (λ (k : ℕ). first_or_nil (drop k c.at_most-given.result.now)) place)
          c.loop-name.invariant.so c.in_ok-first_held.ensures c.in_ok-push.ensures.items;
    }

pub returns : goal.returns
returns c = λ variables few.
    ap (λ (names : List Named). begun c.args.fiber.0 names (at_most c.args.scope.now.parameters c.args.values.now) variables) (sym c.as_slice-names.ensures)
    ∙ ap (λ (given : List Value). begun c.args.fiber.0 c.as_slice-names.result.now given variables) (sym c.at_most-given.ensures)
    ∙ begin_end c.args.fiber.0 _ _ _ _ _ variables c.loop-name-test.false (c.loop-name.invariant.so variables few)
