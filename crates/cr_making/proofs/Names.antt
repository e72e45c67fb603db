-- Loops over names, and runs of locals, as far as they have come.
use Rattle.std.proofs.Common.{◌≡◌, ℕ, zero, suc, ◌+◌, ◌<◌, ◌≤◌, List, [], ◌∷◌, ◌++◌, length, get_or, take, map, refl, sym, ap, ◌∙◌, subst, arith}
use Rattle.std.proofs.lemmas.List.{take_more, take_all}
use Rattle.cr_base.specs.declared.ids.NameId.{NameId}
use Rattle.cr_core.specs.declared.form.Form.TheVariants as f
use Rattle.cr_core.specs.declared.form.Local.{Local}
use Rattle.cr_making.specs.declared.maker.Maker.{Maker}
use Rattle.cr_making.specs.Naming.{later_local, named}
use Rattle.cr_making.specs.Making.{Making, nothing, ◌▸◌, wrapped, leaf, all}
use Rattle.cr_making.specs.Made.{Makes, Steps}
use Rattle.cr_making.specs.Terms.{locals_from, locals}
use Rattle.cr_making.proofs.Done.{all_more, join_made, made_as, ▸-none, ▸-assoc}

map_push : (h : List ℕ → Making) (xs : List (List ℕ)) (x : List ℕ) → map h (xs ++ x ∷ []) ≡ map h xs ++ h x ∷ []
map_push h [] x = refl
map_push h (y ∷ xs) x = ap (λ (ms : List Making). h y ∷ ms) (map_push h xs x)

pub named_more : (h : List ℕ → Making) (xs : List (List ℕ)) (i : ℕ) (x : List ℕ) (s0 s1 s2 : Maker) → i < length xs → x ≡ get_or xs i x → Makes (all (map h (take i xs))) s0 s1 → Makes (h x) s1 s2 → Makes (all (map h (take (i + 1) xs))) s0 s2
named_more h xs i x s0 s1 s2 lt is a b =
    let more : map h (take (i + 1) xs) ≡ map h (take i xs) ++ h x ∷ [] =
    ap (map h) (take_more xs i x lt) ∙ ap (λ (y : List ℕ). map h (take i xs ++ y ∷ [])) (sym is) ∙ map_push h (take i xs) x in
    subst (λ (ms : List Making). Makes (all ms) s0 s2) (sym more) (all_more (map h (take i xs)) (h x) a b)

pub named_done : (h : List ℕ → Making) (xs ys : List (List ℕ)) (i : ℕ) (s0 s1 : Maker) → xs ≡ ys → length xs ≤ i → Makes (all (map h (take i xs))) s0 s1 → Makes (all (map h ys)) s0 s1
named_done h xs ys i s0 s1 is le a = subst (λ (ts : List (List ℕ)). Makes (all (map h ts)) s0 s1) (take_all i xs le ∙ is) a

-- ---- so many locals in a row

locals-more : (at : ℕ) (first : Local) (n k : ℕ) → locals_from at first n (suc k) ≡ locals_from at first n k ▸ leaf (f.Local (later_local first (n + k))) at
unfolding ◌▸◌ wrapped nothing
locals-more at first n zero =
    let e : n ≡ n + 0 = omega arith in
    ▸-none (leaf (f.Local (later_local first n)) at) ∙ ap (λ (j : ℕ). leaf (f.Local (later_local first j)) at) e
locals-more at first n (suc k) =
    let e : suc n + k ≡ n + suc k = omega arith in
    let here = leaf (f.Local (later_local first n)) at in
    ap (λ (m : Making). here ▸ m) (locals-more at first (suc n) k)
    ∙ sym (▸-assoc here (locals_from at first (suc n) k) (leaf (f.Local (later_local first (suc n + k))) at))
    ∙ ap (λ (j : ℕ). (here ▸ locals_from at first (suc n) k) ▸ leaf (f.Local (later_local first j)) at) e

pub locals_more : (at : ℕ) (first : Local) (i : ℕ) (l : Local) {s0 s1 s2 : Maker} → l ≡ later_local first i → Makes (locals at first i) s0 s1 → Makes (leaf (f.Local l) at) s1 s2 → Makes (locals at first (i + 1)) s0 s2
locals_more at first i l {s0} {s1} {s2} is a b =
    let next : suc i ≡ i + 1 = omega arith in
    let here : i ≡ 0 + i = omega arith in
    made_as (sym (locals-more at first 0 i) ∙ ap (locals_from at first 0) next)
    (join_made a (made_as (ap (λ (x : Local). leaf (f.Local x) at) (is ∙ ap (later_local first) here)) b))

-- ---- the name of a text that is equal

pub named_as : {xs ys : List ℕ} {id : NameId} {s0 s1 : Maker} → xs ≡ ys → Steps (named xs) s0 id s1 → Steps (named ys) s0 id s1
named_as {xs} {ys} {id} {s0} {s1} e h = subst (λ (zs : List ℕ). Steps (named zs) s0 id s1) e h
