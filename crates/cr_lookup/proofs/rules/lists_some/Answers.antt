use Rattle.std.proofs.Common.{get_or, arith, refl, true, false, inl, inr}
use Rattle.std.proofs.lemmas.Bool.{cases_lt}
use Rattle.std.proofs.lemmas.Option.{slice_get-get_or}
use Rattle.cr_base.specs.declared.ids.ClassId.{ClassId}
use Rattle.cr_lookup.proofs.Members.{none_listed, refuted, is_true, listed, past_class}
use Rattle.cr_lookup.proofs.rules.lists_some.Goals as goal

zeroth : ClassId
zeroth = record { 0 = 0 }

pub returns-then-class-classes : goal.returns-then-class-classes
unfolding zeroth
returns-then-class-classes c = (
  λ t. listed c.args.classes c.args.list.now c.loop-class.class-index (get_or c.args.list.now c.loop-class.class-index zeroth)
      (slice_get-get_or c.args.list.now c.loop-class.class-index zeroth c.loop-class-test.true) c.if-class-classes.true,
  λ m. is_true true refl,
)

pub loop-class-preserved : goal.loop-class-preserved
unfolding zeroth
loop-class-preserved c = λ k class low e within. elim (cases_lt k c.loop-class.class-index) [
  | inl l ↦ c.loop-class.invariant k class l e within
  | inr l ↦ past_class c.args.classes c.args.list.now k c.loop-class.class-index class zeroth (omega (arith, low, l)) e c.if-class-classes.false within
]

pub returns : goal.returns
returns c = (
  λ t. absurd (refuted false refl t),
  λ m. absurd (none_listed c.args.classes c.args.list.now (λ i class low e within. c.loop-class.invariant i class (omega arith) e within) m),
)
