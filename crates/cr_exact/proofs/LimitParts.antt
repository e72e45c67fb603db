-- What the parts of a node count, one by one and in lists.
use Rattle.std.proofs.Common.{◌≡◌, ℕ, ◌+◌, ◌<◌, max, List, [], ◌∷◌, ◌++◌, map, Option, Some, None, refl, ap, subst, ◌∙◌, arith}
use Rattle.std.proofs.lemmas.List.Sums.{sum_by-cons}
use Rattle.std.specs.List.{fold}
use Rattle.cr_syntax.specs.declared.token.Token.{Token}
use Rattle.cr_grammar.specs.Forms.{Form, nothing, maybe}
use Rattle.cr_grammar.specs.Forms as f
use Rattle.cr_readers.specs.Reader.{Reader, Test, pure, either, many, part, beside}
use Rattle.cr_readers.specs.Lists.{optional}
use Rattle.cr_exact.specs.Exact.{Effort, Exact, Any}
use Rattle.cr_exact.specs.Limits.{Tally, known, Counts, tallied, Whole, Rises, tall, size_of_all, top_of_all, if_some, risen, if_any}
use Rattle.cr_exact.proofs.TokenTests.{Apart}
use Rattle.cr_exact.proofs.Tokens.{Passing}
use Rattle.cr_exact.proofs.Heads.{Heads}
use Rattle.cr_exact.proofs.Limits.{counts_pure, counts_as}
use Rattle.cr_exact.proofs.LimitSteps.{counts_part, counts_beside}
use Rattle.cr_exact.proofs.LimitLoops.{counts_many, counts_optional}

-- ---- sums and greatest numbers

tall_from : (n : ℕ) (xs : List ℕ) → fold max n xs ≡ max n (tall xs)
tall_from n [] = omega arith
tall_from n (x ∷ xs) =
    let a = tall_from (max n x) xs in
    let b = tall_from (max 0 x) xs in
    omega (arith, a, b)

pub tall_cons : (x : ℕ) (xs : List ℕ) → tall (x ∷ xs) ≡ max x (tall xs)
tall_cons x xs = let a = tall_from (max 0 x) xs in omega (arith, a)

pub tall_append : (xs ys : List ℕ) → tall (xs ++ ys) ≡ max (tall xs) (tall ys)
tall_append [] ys = omega arith
tall_append (x ∷ xs) ys =
    let a = tall_cons x (xs ++ ys) in
    let b = tall_cons x xs in
    let c = tall_append xs ys in
    omega (arith, a, b, c)

pub tall_last : (xs : List ℕ) (x : ℕ) → tall (xs ++ x ∷ []) ≡ max (tall xs) x
tall_last xs x = let a = tall_append xs (x ∷ []) in let b = tall_cons x [] in omega (arith, a, b)

-- A node is one higher than its highest part.
pub tall_above : (height : ℕ) (xs : List ℕ) → 0 < height → max height (tall (map (λ n. n + 1) xs)) ≡ max height (tall xs + 1)
tall_above height [] some = omega arith
tall_above height (x ∷ xs) some =
    let a = tall_cons (x + 1) (map (λ n. n + 1) xs) in
    let b = tall_cons x xs in
    let c = tall_above height xs some in
    omega (arith, a, b, c)

-- ---- tallies

pub known_is : (n m h i : ℕ) → n ≡ m → h ≡ i → known n h ≡ known m i
known_is n m h i nodes height = ap (λ v. known v h) nodes ∙ ap (λ v. known m v) height

risen_all : {A : Type 0} (size top : A → ℕ) (n h : ℕ) (xs : List A) → tallied (risen size top) (known n h) xs ≡ known (n + size_of_all size xs) (max h (top_of_all top xs))
risen_all size top n h [] = known_is n (n + 0) h (max h 0) (omega arith) (omega arith)
risen_all size top n h (x ∷ xs) =
    let a = sum_by-cons (λ n. n) (size x) (map size xs) in
    let b = tall_cons (top x) (map top xs) in
    risen_all size top (n + size x) (max h (top x)) xs
    ∙ known_is _ (n + size_of_all size (x ∷ xs)) _ (max h (top_of_all top (x ∷ xs))) (omega (arith, a)) (omega (arith, b))

-- ---- parts

pub rises_part : {A : Type 0} {Pre : List Token → Type 0} {C : Form A} {g : Test} {p : Reader A} (size high : A → ℕ) → Whole size high Pre C g p → Rises size (λ x. high x + 1) Pre C g (part p)
rises_part {p = p} size high cp nodes height = counts_part p nodes (λ x. nodes + size x) high (cp nodes) height

pub rises_beside : {A : Type 0} {Pre : List Token → Type 0} {C : Form A} {g : Test} {p : Reader A} (size high : A → ℕ) → Whole size high Pre C g p → Rises size high Pre C g (beside p)
rises_beside {p = p} size high cp nodes height = counts_beside p nodes (λ x. nodes + size x) high (cp nodes) height

pub rises_pure : {A : Type 0} (size top : A → ℕ) (g : Test) (x : A) → size x ≡ 0 → top x ≡ 0 → Rises size top Any (nothing x) g (pure x)
rises_pure size top g x none flat nodes height =
    counts_pure x g (known nodes height) (λ y. known (nodes + size y) (max height (top y)))
    (known_is _ nodes _ height (omega (arith, none)) (omega (arith, flat)))

abbrev pub IsKnown : Tally → Type 0
IsKnown t = (nodes : ℕ) × (height : ℕ) × (known nodes height ≡ t)

pub risen_known : {A : Type 0} (size top : A → ℕ) (t : Tally) (x : A) → IsKnown t → IsKnown (risen size top t x)
risen_known size top t x is = (is.0 + size x, max is.1 (top x), ap (λ v. risen size top v x) is.2)

pub rises_at : {A : Type 0} {Pre : List Token → Type 0} {C : Form A} {g : Test} {p : Reader A} (size top : A → ℕ) → Rises size top Pre C g p
    → (t : Tally) → IsKnown t → Counts Pre C g t (risen size top t) p
rises_at {Pre = Pre} {C = C} {g = g} {p = p} size top rp t is = subst (λ v. Counts Pre C g v (risen size top v) p) is.2 (rp is.0 is.1)

pub rises_listed : {A : Type 0} {Pre : List Token → Type 0} {C : Form (List A)} {g : Test} {p : Reader (List A)} (size top : A → ℕ)
    → ((t : Tally) → IsKnown t → Counts Pre C g t (tallied (risen size top) t) p) → Rises (size_of_all size) (top_of_all top) Pre C g p
rises_listed size top cp nodes height =
    counts_as (λ xs. known (nodes + size_of_all size xs) (max height (top_of_all top xs))) (risen_all size top nodes height) (cp (known nodes height) (nodes, height, refl))

-- { R }
pub rises_many : (effort : Effort) (test : Test) (g : Test) → Apart test g → {A : Type 0} (R C : Form A) (p : Reader A) → Exact effort (Passing test) R C g p → Heads test C
    → (size top : A → ℕ) → Rises size top (Passing test) C g p → (n : ℕ) → Rises (size_of_all size) (top_of_all top) Any (f.many C) (either test g) (many test p n)
rises_many effort test g apart R C p ep heads size top rp n =
    rises_listed size top (counts_many effort test g apart R C p ep heads (risen size top) IsKnown (risen_known size top) (rises_at size top rp) n)

-- [ R ]
pub rises_optional : {A : Type 0} (C : Form A) (g : Test) (p : Reader A) (test : Test) (size top : A → ℕ) → Heads test C → Rises size top (Passing test) C g p
    → Rises (if_some size) (if_some top) Any (maybe C) (either test g) (optional test p)
rises_optional {A = A} C g p test size top heads rp nodes height =
    counts_as (λ o. known (nodes + if_some size o) (max height (if_some top o))) told
    (counts_optional C g p test (known nodes height) (λ x. known (nodes + size x) (max height (top x))) heads (rp nodes height)) where
      told : (o : Option A) → if_any (known nodes height) (λ x. known (nodes + size x) (max height (top x))) o ≡ known (nodes + if_some size o) (max height (if_some top o))
      told None = known_is nodes (nodes + 0) height (max height 0) (omega arith) (omega arith)
      told (Some x) = refl
