-- The flags of slots tell which locals are captured.
use Rattle.std.proofs.Common.{◌≡◌, ℕ, zero, suc, ◌+◌, Bool, true, false, List, [], ◌∷◌, length, Some, refl, sym, ap, ◌∙◌, subst, arith}
use Rattle.std.specs.Prelude.{slice_get, if◌then◌else◌}
use Rattle.std.proofs.lemmas.Option.{same_Some}
use Rattle.cr_core.specs.declared.form.ScopeId.{ScopeId}
use Rattle.cr_core.specs.declared.scope.Scope.{Scope}
use Rattle.cr_core.specs.declared.scope.Slot.{Slot}
use Rattle.cr_core.specs.Tree.{Contents, is_captured, IsCore}
use Rattle.cr_flow.specs.Captured.{numbers, flagged, AreCaptured}

flags_tell : (test : ℕ → Bool) (n : ℕ) (slots : List Slot) → ((i : ℕ) (slot : Slot) → slice_get slots i ≡ Some slot → (m : ℕ) → m ≡ n + i → slot.captured ≡ test m) → flagged n slots ≡ numbers test n (length slots)
flags_tell test n [] h = refl
flags_tell test n (slot ∷ slots) h =
    let here = h 0 slot refl n (omega arith) in
    let rest = flags_tell test (suc n) slots (λ i q e m g. h (suc i) q e m (omega (arith, g))) in
    ap (λ (b : Bool). if b then n ∷ flagged (suc n) slots else flagged (suc n) slots) here
    ∙ ap (λ (ns : List ℕ). if test n then n ∷ ns else ns) rest

pub captured_are : (t : Contents) → IsCore t → (scope : ScopeId) (s : Scope) → slice_get t.scopes scope.0 ≡ Some s → AreCaptured t scope (flagged 0 s.slots)
captured_are t core scope s e = λ v at.
    let same : s ≡ v = same_Some s v (sym e ∙ at) in
    let k = core.scopes scope.0 s e in
    flags_tell (is_captured t.rows t.scopes scope) 0 s.slots (λ i slot g m is. let w = k.slot i slot g in let at : i ≡ m = omega (arith, is) in w.1 ∙ ap (is_captured t.rows t.scopes scope) at)
    ∙ ap (λ (q : Scope). numbers (is_captured t.rows t.scopes scope) 0 (length q.slots)) same
