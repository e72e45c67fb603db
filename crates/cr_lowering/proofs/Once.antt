-- Names that are distinct have one number each, and locals that rows name are there.
use Rattle.std.specs.Prelude.{IfSome}
use Rattle.std.specs.List.{IsDistinct, AllPairs}
use Rattle.std.specs.Str.{bytes_eq}
use Rattle.std.proofs.Common.{◌≡◌, ◌≢◌, ℕ, ◌<◌, ◌≤◌, ◌⊎◌, inl, inr, List, [], Option, sym, ◌∙◌, subst, arith}
use Rattle.std.proofs.lemmas.Bool.{cases_lt}
use Rattle.std.proofs.lemmas.Map.Made.{AllPairs-from_IsDistinct}
use Rattle.std.proofs.lemmas.Option.{slice_get_within, get_or_from_slice_get}
use Rattle.std.proofs.lemmas.Slice.Eq.{bytes_eq-Decides}
use Rattle.cr_core.specs.declared.form.Local.{Local}
use Rattle.cr_core.specs.Tree.{Contents, IsLocal, IsCore}
use Rattle.cr_lowering.specs.Laws.{NamesOnce, LocalsInRange}

pub names_once : (names : List (List ℕ)) → IsDistinct bytes_eq names → NamesOnce names
names_once names d i j name x y = by_order (cases_lt i j) (cases_lt j i)
  where
    apart : AllPairs (λ (a b : List ℕ). a ≢ b) names
    apart = AllPairs-from_IsDistinct bytes_eq-Decides names d

    by_order : (i < j) ⊎ (j ≤ i) → (j < i) ⊎ (i ≤ j) → i ≡ j
    by_order (inl before) other = absurd (apart i j [] before (slice_get_within names j name y) (get_or_from_slice_get names i name [] x ∙ sym (get_or_from_slice_get names j name [] y)))
    by_order (inr behind) (inl before) = absurd (apart j i [] before (slice_get_within names i name x) (get_or_from_slice_get names j name [] y ∙ sym (get_or_from_slice_get names i name [] x)))
    by_order (inr behind) (inr other) = omega (arith, behind, other)

pub in_range : (t : Contents) → IsCore t → LocalsInRange t
in_range t core n r l is local = subst (λ (x : Option Local). IfSome x (IsLocal t r.within.scope)) local (core.rows n r is).local
