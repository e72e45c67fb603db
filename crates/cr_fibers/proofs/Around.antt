-- Locals outwards from a place, and around a block that a fiber begins with.
use Rattle.std.proofs.Common.{◌≡◌, ◌<◌, ◌≤◌, ◌+◌, ◌-◌, ℕ, zero, suc, List, [], ◌∷◌, ◌++◌, length, refl, sym, ap, ◌∙◌, Option, Some, None, arith}
use Rattle.std.specs.Prelude.{slice_get, take, unwrap_or}
use Rattle.std.proofs.lemmas.Option.{none-some}
use Rattle.cr_meaning.specs.State.{Locals}
use Rattle.cr_meaning.specs.Locals.{Begun, home_of, outwards, of_block, around, around_by, behind, behind_home, seen_locals, without_last}
use Rattle.cr_meaning.specs.Fibers.{last_of, first_locals}

-- ---- outwards

pub outwards_step : (ls : List Locals) (up k at next : ℕ) → k < up → next ≡ unwrap_or (home_of (slice_get ls at)) 0 → outwards ls (up - k) at ≡ outwards ls (up - (k + 1)) next
outwards_step ls up k at next lt e =
    let left : up - k ≡ suc (up - (k + 1)) = omega (arith, lt) in
    ap (λ (n : ℕ). outwards ls n at) left ∙ ap (outwards ls (up - (k + 1))) (sym e)

pub outwards_end : (ls : List Locals) (up k at : ℕ) → up ≤ k → outwards ls (up - k) at ≡ at
outwards_end ls up k at le =
    let left : up - k ≡ 0 = omega (arith, le) in
    ap (λ (n : ℕ). outwards ls n at) left

-- ---- around

pub around_none : (ls : List Locals) (most at : ℕ) → slice_get ls at ≡ None → around ls most at ≡ []
around_none ls zero at e = refl
around_none ls (suc n) at e = ap (around_by (around ls n)) e

pub around_no_turn : (ls : List Locals) (most at : ℕ) → most ≡ 0 → around ls most at ≡ []
around_no_turn ls most at e = ap (λ (n : ℕ). around ls n at) e

around_turn : (ls : List Locals) (n at : ℕ) (l : Locals) (home : Option ℕ) → slice_get ls at ≡ Some l → l.home ≡ home → around ls (suc n) at ≡ behind_home (around ls n) l home
around_turn ls n at l home e h = ap (around_by (around ls n)) e ∙ ap (behind_home (around ls n) l) h

one_less : (n : ℕ) → 0 < n → n ≡ suc (n - 1)
one_less n lt = omega (arith, lt)

pub around_alone : (ls : List Locals) (most at : ℕ) (l : Locals) → 0 < most → slice_get ls at ≡ Some l → l.home ≡ None → around ls most at ≡ seen_locals l None ∷ []
around_alone ls most at l lt e h = ap (λ (n : ℕ). around ls n at) (one_less most lt) ∙ around_turn ls (most - 1) at l None e h

pub around_behind : (ls : List Locals) (most at home : ℕ) (l : Locals) → 0 < most → slice_get ls at ≡ Some l → l.home ≡ Some home → around ls most at ≡ behind (around ls (most - 1) home) l
around_behind ls most at home l lt e h = ap (λ (n : ℕ). around ls n at) (one_less most lt) ∙ around_turn ls (most - 1) at l (Some home) e h

-- ---- the last

pub without_last_is : (ls : List Locals) → without_last ls ≡ take (length ls - 1) ls
without_last_is [] = refl
without_last_is (l ∷ []) = refl
without_last_is (l ∷ k ∷ ls) =
    let inner : length (k ∷ ls) - 1 ≡ length ls = omega arith in
    let outer : length (l ∷ k ∷ ls) - 1 ≡ suc (length ls) = omega arith in
    ap (λ (rest : List Locals). l ∷ rest) (without_last_is (k ∷ ls))
    ∙ ap (λ (n : ℕ). l ∷ take n (k ∷ ls)) inner
    ∙ sym (ap (λ (n : ℕ). take n (l ∷ k ∷ ls)) outer)

last_stands : (l : Locals) (ls : List Locals) → slice_get (l ∷ ls) (length ls) ≡ Some (last_of l ls)
last_stands l [] = refl
last_stands l (k ∷ ls) = last_stands k ls

some_same : (l k : Locals) → Some l ≡ Some k → l ≡ k
some_same l k e = cc

-- the locals of the block that a fiber begins with stand behind the last of those around it
pub first_behind_last : (ls : List Locals) (b : Begun) (l : Locals) → slice_get ls (length ls - 1) ≡ Some l → first_locals ls b ≡ ls ++ of_block b (length ls - 1) l ∷ []
first_behind_last [] b l e = absurd (none-some l e)
first_behind_last (k ∷ ls) b l e =
    let less : length (k ∷ ls) - 1 ≡ length ls = omega arith in
    let same = some_same (last_of k ls) l (sym (last_stands k ls) ∙ ap (slice_get (k ∷ ls)) (sym less) ∙ e) in
    ap (λ (m : Locals). (k ∷ ls) ++ of_block b (length ls) m ∷ []) same
    ∙ ap (λ (n : ℕ). (k ∷ ls) ++ of_block b n l ∷ []) (sym less)

pub first_alone : (ls : List Locals) (b : Begun) → length ls ≡ 0 → first_locals ls b ≡ ls ++ record { home = None; slots = b.slots; receiver = None; method = None; given = None } ∷ []
first_alone [] b e = refl
first_alone (l ∷ ls) b e = absurd (omega (arith, e))
