-- Where the locals of a scope stand.
use Rattle.std.specs.Prelude.{ℕ, ◌+◌, List, [], ◌∷◌, Option, Some, None, Bool, false, cond, nat_eq}
use Rattle.cr_base.specs.declared.ids.NameId.{NameId}

abbrev pub later : {A : Type 0} → Option A → Option A → Option A
later None y = y
later (Some x) y = Some x

abbrev pub is_slot : NameId → Option NameId → Bool
is_slot name None = false
is_slot name (Some other) = nat_eq other.0 name.0

-- the last slot that bears the name, where the first has the number k
abbrev pub slot_of : ℕ → NameId → List (Option NameId) → Option ℕ
slot_of k name [] = None
slot_of k name (x ∷ xs) = later (slot_of (k + 1) name xs) (cond (is_slot name x) (Some k) None)
