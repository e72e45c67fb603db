use Rattle.std.proofs.Common.{◌≡◌, ℕ, List, get_or, sym, ap, ◌∙◌, subst, arith, inl, inr}
use Rattle.std.proofs.lemmas.Bool.{cases_lt}
use Rattle.std.proofs.lemmas.Option.{slice_get-get_or, get_or_from_slice_get}
use Rattle.cr_lookup.specs.declared.method.Method.{Method}
use Rattle.cr_lookup.specs.Methods.{IsCalm}
use Rattle.cr_lookup.proofs.Members.{is_true}
use Rattle.cr_lookup.proofs.tests.are_calm.Goals as goal

pub loop-list-preserved : goal.loop-list-preserved
loop-list-preserved c = λ k none low. elim (cases_lt k c.loop-list.list-index) [
  | inl l ↦ c.loop-list.invariant k none l
  | inr l ↦
      let all = c.args.methods.now in
      let i = c.loop-list.list-index in
      let here : k ≡ i = omega (arith, low, l) in
      let item : get_or all i none ≡ c.list-item.result =
      get_or_from_slice_get all i (get_or all i c.list-item.result) none (slice_get-get_or all i c.list-item.result c.loop-list-test.true) ∙ sym c.list-item.is in
      let calm = c.is_calm.ensures.0 (is_true c.is_calm.result c.if-not-is_calm.false) in
      let family : List Method → Type 0 = λ methods. IsCalm 4 methods in
      subst family (sym (ap (λ (j : ℕ). get_or all j none) here ∙ item ∙ sym c.as_slice.ensures)) calm
]

pub returns : goal.returns
returns c = λ t k none low. c.loop-list.invariant k none (omega (arith, low))
