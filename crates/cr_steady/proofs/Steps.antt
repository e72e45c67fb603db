-- Readers that are put together of steady readers are steady.
use Rattle.std.specs.Prelude.{◌&&◌, nat_le, max}
use Rattle.std.proofs.Common.{◌≡◌, ◌≤◌, ◌+◌, ℕ, zero, suc, Bool, true, false, cond, List, [], ◌∷◌, Option, Some, None, length, refl, ap, arith}
use Rattle.cr_syntax.specs.declared.look.TokenLook.{TokenLook}
use Rattle.cr_syntax.specs.declared.token.Token.{Token}
use Rattle.cr_readers.specs.declared.fault.ParseFault.TheVariants.{Unexpected, TooDeep, TooManyNodes, NoMemory}
use Rattle.cr_readers.specs.Reader.{State, Outcome, Found, Failed, Reader, and_then, ◌>>=◌, pure, Test, passes, read_by, next, tail, refuse, taken, take, choose, by_look, look_at, allow, last, here, with_last, deeper, shallower, above_part, unchanged, many, repeated, node_above, grow, wrap, around, part, beside, max_nesting, max_nodes}
use Rattle.cr_steady.specs.Steady.{Leaves, Steady}

-- ---- outcomes

-- what leaves so many of a leaves so many of b
leaves_of : {A : Type 0} (o : Outcome A) (j k a b : ℕ) → a + k ≤ b + j → Leaves j o a → Leaves k o b
leaves_of (Found x s) j k a b more is = omega (arith, more, is)
leaves_of (Failed (Unexpected n) s) j k a b more is = tt
leaves_of (Failed (TooDeep n) s) j k a b more is = tt
leaves_of (Failed (TooManyNodes n) s) j k a b more is = tt
leaves_of (Failed NoMemory s) j k a b more is = is

leaves_then : {A B : Type 0} (o : Outcome A) (q : A → Reader B) (i j k left : ℕ) → i ≤ j + k → Leaves j o left
    → ((x : A) (s : State) → length s.rest + j ≤ left → Leaves k (q x s) (length s.rest)) → Leaves i (and_then o q) left
leaves_then (Found x s) q i j k left most is behind = leaves_of (q x s) k i (length s.rest) left (omega (arith, most, is)) (behind x s is)
leaves_then (Failed (Unexpected n) s) q i j k left most is behind = tt
leaves_then (Failed (TooDeep n) s) q i j k left most is behind = tt
leaves_then (Failed (TooManyNodes n) s) q i j k left most is behind = tt
leaves_then (Failed NoMemory s) q i j k left most is behind = is

leaves_cond : {A : Type 0} (b : Bool) (o r : Outcome A) (k left : ℕ) → Leaves k o left → Leaves k r left → Leaves k (cond b o r) left
leaves_cond true o r k left x y = x
leaves_cond false o r k left x y = y

leaves_found : {A : Type 0} (o : Option A) (s : State) (t : Token) (ts : List Token) → s.rest ≡ t ∷ ts → Leaves 1 (taken o s) (suc (length ts))
unfolding next
leaves_found None s t ts e = tt
leaves_found (Some x) s t ts e =
    let same : length (tail s.rest) ≡ length ts = ap (λ (v : List Token). length (tail v)) e in omega (arith, same)

leaves_taken : {A : Type 0} (f : Token → Option A) (s : State) (ts : List Token) → s.rest ≡ ts → Leaves 1 (taken (read_by f ts) s) (length ts)
leaves_taken f s [] e = tt
leaves_taken f s (t ∷ ts) e = leaves_found (f t) s t ts e

-- ---- one after the other

-- taking less of fewer tokens
pub weak : {A : Type 0} {j n : ℕ} {p : Reader A} → Steady j n p → Steady 0 n p
weak {j = j} {p = p} sp = record { ends = λ s below. leaves_of (p s) j 0 (length s.rest) (length s.rest) (omega arith) (sp.ends s below) }

pub fewer : {A : Type 0} {k n : ℕ} {p : Reader A} → Steady k (suc n) p → Steady k n p
fewer sp = record { ends = λ s below. sp.ends s (omega (arith, below)) }

pub nowhere : {A : Type 0} (k : ℕ) (p : Reader A) → Steady k 0 p
nowhere k p = record { ends = λ s below. absurd (omega (arith, below)) }

pub after : {A B : Type 0} {j k n : ℕ} {p : Reader A} {q : A → Reader B} → Steady j n p → ((x : A) → Steady k n (q x)) → Steady k n (p >>= q)
after {j = j} {k = k} {p = p} {q = q} sp sq = record {
  ends = λ s below. leaves_then (p s) q k j k (length s.rest) (omega arith) (sp.ends s below) (λ x m less. (sq x).ends m (omega (arith, below, less)));
}

pub led : {A B : Type 0} {k n : ℕ} {p : Reader A} {q : A → Reader B} → Steady 1 n p → ((x : A) → Steady k n (q x)) → Steady 1 n (p >>= q)
led {k = k} {p = p} {q = q} sp sq = record {
  ends = λ s below. leaves_then (p s) q 1 1 k (length s.rest) (omega arith) (sp.ends s below) (λ x m less. (sq x).ends m (omega (arith, below, less)));
}

-- behind a token there are fewer
pub first : {A B : Type 0} {k n : ℕ} {p : Reader A} {q : A → Reader B} → Steady 1 (suc n) p → ((x : A) → Steady k n (q x)) → Steady 1 (suc n) (p >>= q)
first {k = k} {p = p} {q = q} sp sq = record {
  ends = λ s below. leaves_then (p s) q 1 1 k (length s.rest) (omega arith) (sp.ends s below) (λ x m less. (sq x).ends m (omega (arith, below, less)));
}

pub steady_pure : {A : Type 0} {n : ℕ} {x : A} → Steady 0 n (pure x)
steady_pure = record { ends = λ s below. omega arith }

pub steady_refuse : {A : Type 0} {k n : ℕ} → Steady k n (refuse {A = A})
steady_refuse = record { ends = λ s below. tt }

pub steady_take : {A : Type 0} {n : ℕ} {f : Token → Option A} → Steady 1 n (take f)
steady_take {f = f} = record { ends = λ s below. leaves_taken f s s.rest refl }

pub steady_cond : {A : Type 0} {k n : ℕ} {p q : Reader A} (b : Bool) → Steady k n p → Steady k n q → Steady k n (cond b p q)
steady_cond true sp sq = sp
steady_cond false sp sq = sq

pub steady_choose : {A : Type 0} {k n : ℕ} {p q : Reader A} (test : Test) → Steady k n p → Steady k n q → Steady k n (choose test p q)
steady_choose test sp sq = record { ends = λ s below. (steady_cond (passes test s.rest) sp sq).ends s below }

pub steady_allow : {A : Type 0} {k n : ℕ} {p : Reader A} (b : Bool) → Steady k n p → Steady k n (allow b p)
steady_allow true sp = sp
steady_allow false sp = steady_refuse

pub steady_by_look : {A : Type 0} {k n : ℕ} {f : TokenLook → Reader A} → ((look : TokenLook) → Steady k n (f look)) → Steady k n (by_look f)
steady_by_look sf = record { ends = λ s below. (sf (look_at s.rest)).ends s below }

pub steady_last : {n : ℕ} → Steady 0 n last
steady_last = record { ends = λ s below. omega arith }

pub steady_here : {n : ℕ} → Steady 0 n here
steady_here = record { ends = λ s below. omega arith }

pub steady_with_last : {A : Type 0} {k n : ℕ} {p : Reader A} → Steady k n p → Steady k n (with_last p)
steady_with_last {k = k} {p = p} sp = record {
  ends = λ s below. leaves_then (p s) (λ x. last >>= λ look. pure (x, look)) k k 0 (length s.rest) (omega arith) (sp.ends s below) (λ x m less. omega arith);
}

-- ---- nodes and nesting

steady_node : {n : ℕ} (place height : ℕ) → Steady 0 n (node_above place height)
steady_node place height = record {
  ends = λ s below.
      leaves_cond (s.limited && nat_le max_nesting (s.depth + height)) (Failed (TooDeep place) s) _ 0 (length s.rest) (tt {0})
      (leaves_cond (s.limited && nat_le max_nodes s.nodes) (Failed (TooManyNodes place) s)
      (Found (tt {0}) (record s { nodes = s.nodes + 1; height = height + 1 })) 0 (length s.rest) (tt {0}) (omega arith));
}

pub steady_grow : {n : ℕ} (place : ℕ) → Steady 0 n (grow place)
unfolding grow
steady_grow place = steady_node place 0

pub steady_wrap : {n : ℕ} (place : ℕ) → Steady 0 n (wrap place)
unfolding wrap
steady_wrap place = record { ends = λ s below. (steady_node place s.height).ends s below }

steady_around : {A : Type 0} {k n : ℕ} {p : Reader A} (into back : ℕ → ℕ) (above : ℕ → ℕ → ℕ) → Steady k n p → Steady k n (around into back above p)
steady_around {k = k} {p = p} into back above sp = record {
  ends = λ s below.
      leaves_then (p (record s { depth = into s.depth })) (λ x m. Found x (record m { depth = back m.depth; height = above s.height m.height })) k k 0
      (length s.rest) (omega arith) (sp.ends (record s { depth = into s.depth }) below) (λ x m less. omega arith);
}

pub steady_part : {A : Type 0} {k n : ℕ} {p : Reader A} → Steady k n p → Steady k n (part p)
unfolding part
steady_part sp = steady_around deeper shallower above_part sp

pub steady_beside : {A : Type 0} {k n : ℕ} {p : Reader A} → Steady k n p → Steady k n (beside p)
unfolding beside
steady_beside sp = steady_around unchanged unchanged max sp

-- ---- loops with more turns than tokens, in which each turn takes a token

pub many_in : {A : Type 0} {p : Reader A} (test : Test) (turns n : ℕ) → n ≤ turns → Steady 1 n p → Steady 0 n (many test p turns)
many_in test zero n most sp = record { ends = λ s below. absurd (omega (arith, most, below)) }
many_in {p = p} test (suc turns) zero most sp = nowhere 0 (many test p (suc turns))
many_in test (suc turns) (suc n) most sp =
    steady_choose test (weak (first sp (λ x. after (many_in test turns n (omega (arith, most)) (fewer sp)) (λ xs. steady_pure)))) steady_pure

pub repeated_in : {A : Type 0} {p : A → Reader A} (test : Test) (turns n : ℕ) (x : A) → n ≤ turns → ((y : A) → Steady 1 n (p y)) → Steady 0 n (repeated test p turns x)
repeated_in test zero n x most sp = record { ends = λ s below. absurd (omega (arith, most, below)) }
repeated_in {p = p} test (suc turns) zero x most sp = nowhere 0 (repeated test p (suc turns) x)
repeated_in test (suc turns) (suc n) x most sp =
    steady_choose test (weak (first (sp x) (λ y. repeated_in test turns n y (omega (arith, most)) (λ z. fewer (sp z))))) steady_pure
