use Rattle.std.proofs.Common.{◌≡◌, ℕ, subst, arith, inl, inr, rules}
use Rattle.std.proofs.lemmas.Bool.{cases_lt}
use Rattle.std.proofs.lemmas.Option.{slice_get_within}
use Rattle.cr_lookup.specs.Methods.{ClashesAt}
use Rattle.cr_lookup.proofs.Members.{refuted}
use Rattle.cr_lookup.proofs.calm.is_calm.Goals as goal

pub loop-n-preserved : goal.loop-n-preserved
loop-n-preserved c = λ k low h. elim (cases_lt k c.loop-n.n) [
  | inl l ↦ c.loop-n.invariant k l h
  | inr l ↦
      let e : k ≡ c.loop-n.n = omega (arith, low, l) in
      refuted c.clashes.result c.if-clashes.false (c.clashes.ensures.1 (subst (λ (j : ℕ). ClashesAt c.args.classes c.args.methods.now j) e h))
]

pub returns : goal.returns
returns c = (
  λ t n h. let low = slice_get_within c.args.methods.now n h.later h.second in c.loop-n.invariant n (omega (arith, low)) h,
  λ calm. search rules,
)
