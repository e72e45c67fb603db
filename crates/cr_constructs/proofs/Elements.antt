-- The indexes of an element that changes, in locals of their own.
use Rattle.std.proofs.Common.{◌≡◌, ℕ, suc, ◌+◌, ◌<◌, ◌≤◌, List, [], ◌∷◌, ◌++◌, length, get_or, take, map, length-take, refl, sym, ap, ◌∙◌, subst, arith}
use Rattle.std.proofs.lemmas.List.{take_all, length-map}
use Rattle.cr_grammar.specs.declared.operator.Assignment.{Assignment}
use Rattle.cr_grammar.specs.declared.tree.Tree.{Tree}
use Rattle.cr_core.specs.declared.form.Form.TheVariants as f
use Rattle.cr_core.specs.declared.form.Local.{Local}
use Rattle.cr_making.specs.declared.maker.Maker.{Maker}
use Rattle.cr_making.specs.Naming.{later_local, fresh}
use Rattle.cr_making.specs.Making.{Making, wrapped, Ahead, ahead, nest}
use Rattle.cr_core.specs.declared.row.Event.TheVariants.{Close}
use Rattle.cr_making.specs.Made.{Nests, Makes, Puts, Begins, Steps, closes}
use Rattle.cr_making.specs.Assigning.{kept_indexes, put_element}
use Rattle.cr_making.specs.Part.{own_of}
use Rattle.cr_making.specs.Table.{part, parts}
use Rattle.cr_making.proofs.Done.{wrap_made, begins_as, nests_more, nest_made}
use Rattle.cr_making.proofs.Loops.{map_more}

pub as_many : (xs : List Tree) (n : ℕ) → n ≡ length xs → n ≡ length (map own_of (parts xs))
as_many xs n e = e ∙ sym (length-map (parts xs) own_of ∙ length-map xs part)

-- a fresh local, and one for each index behind it
pub fresh_as : {n m : ℕ} {l : Local} {s0 s1 : Maker} → n ≡ m → Steps (fresh n) s0 l s1 → Steps (fresh m) s0 l s1
fresh_as {n} {m} {l} {s0} {s1} e h = subst (λ (k : ℕ). Steps (fresh k) s0 l s1) e h

length_kept : (mark : ℕ) (t : Local) (n : ℕ) (is : List Making) → length (kept_indexes mark t n is) ≡ length is
length_kept mark t n [] = refl
length_kept mark t n (i ∷ is) = ap suc (length_kept mark t (suc n) is)

pub kept_and_put : (xs : List Tree) (op : Assignment) (mark : ℕ) (t : Local) (v : Making) (n : ℕ) {s0 s1 s2 s3 : Maker} → n ≡ length xs
    → Nests f.Seq (kept_indexes mark t 1 (map own_of (parts xs))) s0 s1 → Makes (put_element op mark t n v) s1 s2 → Puts (closes n) s2 s3
    → Makes (nest f.Seq (kept_indexes mark t 1 (map own_of (parts xs))) (put_element op mark t (length (map own_of (parts xs))) v)) s0 s3
kept_and_put xs op mark t v n {s0} {s1} {s2} {s3} e a b c =
    let is = map own_of (parts xs) in
    let many = as_many xs n e in
    nest_made (kept_indexes mark t 1 is) a
    (subst (λ (k : ℕ). Makes (put_element op mark t k v) s1 s2) many b)
    (subst (λ (k : ℕ). Puts (closes k) s2 s3) (many ∙ sym (length_kept mark t 1 is)) c)

abbrev kept_index : ℕ → Local → ℕ → Making → Ahead
kept_index mark t n i = ahead mark (wrapped (f.Set (later_local t n)) mark i)

kept-push : (mark : ℕ) (t : Local) (n : ℕ) (is : List Making) (i : Making) → kept_indexes mark t n (is ++ i ∷ []) ≡ kept_indexes mark t n is ++ kept_index mark t (n + length is) i ∷ []
kept-push mark t n [] i = let e : n ≡ n + 0 = omega arith in ap (λ (k : ℕ). kept_index mark t k i ∷ []) e
kept-push mark t n (x ∷ is) i =
    let e : suc n + length is ≡ n + suc (length is) = omega arith in
    ap (λ (ms : List Ahead). kept_index mark t n x ∷ ms) (kept-push mark t (suc n) is i ∙ ap (λ (k : ℕ). kept_indexes mark t (suc n) is ++ kept_index mark t k i ∷ []) e)

pub kept_more : (mark : ℕ) (t : Local) (xs : List Tree) (i : ℕ) (x : Tree) (l : Local) {s0 s1 s2 s3 s4 s5 : Maker} → i < length xs → x ≡ get_or xs i x → l ≡ later_local t (i + 1)
    → Nests f.Seq (kept_indexes mark t 1 (map own_of (parts (take i xs)))) s0 s1 → Begins f.Seq mark s1 s2 → Begins (f.Set l) mark s2 s3 → Makes (part x).own s3 s4 → Puts (Close ∷ []) s4 s5
    → Nests f.Seq (kept_indexes mark t 1 (map own_of (parts (take (i + 1) xs)))) s0 s5
kept_more mark t xs i x l {s0} {s1} {s2} {s3} {s4} {s5} lt is local a o p b c =
    let ms = map own_of (parts (take i xs)) in
    let long : length ms ≡ i = (let e1 = length-map (parts (take i xs)) own_of in let e2 = length-map (take i xs) part in let e3 = length-take i xs in omega arith) in
    let number : i + 1 ≡ 1 + length ms = omega arith in
    let set : f.Set l ≡ f.Set (later_local t (1 + length ms)) = ap (λ (k : Local). f.Set k) (local ∙ ap (later_local t) number) in
    let last = kept_index mark t (1 + length ms) (part x).own in
    let more : kept_indexes mark t 1 (map own_of (parts (take (i + 1) xs))) ≡ kept_indexes mark t 1 ms ++ last ∷ [] = ap (kept_indexes mark t 1) (map_more own_of xs i x lt is) ∙ kept-push mark t 1 ms (part x).own in
    subst (λ (ks : List Ahead). Nests f.Seq ks s0 s5) (sym more) (nests_more (kept_indexes mark t 1 ms) last a o (wrap_made (begins_as set p) b c))

pub kept_done : (mark : ℕ) (t : Local) (xs ys : List Tree) (i : ℕ) (s0 s1 : Maker) → xs ≡ ys → length xs ≤ i → Nests f.Seq (kept_indexes mark t 1 (map own_of (parts (take i xs)))) s0 s1 → Nests f.Seq (kept_indexes mark t 1 (map own_of (parts ys))) s0 s1
kept_done mark t xs ys i s0 s1 is le a = subst (λ (ts : List Tree). Nests f.Seq (kept_indexes mark t 1 (map own_of (parts ts))) s0 s1) (take_all i xs le ∙ is) a
