-- A table and one that begins with it, and the depth of an atom by the depths of its arguments.
use Rattle.std.proofs.Common.{◌≡◌, ◌≢◌, ℕ, zero, suc, ◌+◌, ◌<◌, List, [], ◌∷◌, ◌++◌, length, map, take, drop, get_or, slice_get, Option, Some, None, All, AllPairs, refl, sym, ap, ◌∙◌, inl, inr, arith, append_assoc, length-append}
use Rattle.std.specs.Option.{option_map}
use Rattle.std.proofs.lemmas.Bool.{cases_lt}
use Rattle.std.proofs.lemmas.List.{get_or_append_left, take-append-drop, length-take-le}
use Rattle.std.proofs.lemmas.List.Elements.{All-head, All-tail}
use Rattle.std.proofs.lemmas.Option.{slice_get_within, get_or_from_slice_get, slice_get-get_or, same_Some}
use Rattle.std.proofs.Math.Seq.{get_or-append_seam}
use Rattle.cr_base.specs.declared.ids.AtomId.{AtomId}
use Rattle.cr_atoms.specs.declared.atom.Atom.{Atom}
use Rattle.cr_atoms.specs.Table.{IsFront, ArePartsBefore, greatest, depth_over, depths_behind, depths, depth_of, depth_with, args_of}
use Rattle.cr_atoms.proofs.Tables.{length_depths}

pub same_at : (old new : List Atom) (n : ℕ) → IsFront old new → n < length old → slice_get new n ≡ slice_get old n
same_at [] new n front within = absurd (omega arith)
same_at (a ∷ old) new n front within =
    ap (λ (atoms : List Atom). slice_get atoms n) front.1
    ∙ slice_get-get_or ((a ∷ old) ++ front.0) n a (omega (arith, length-append (a ∷ old) front.0))
    ∙ ap Some (get_or_append_left (a ∷ old) front.0 a n within)
    ∙ sym (slice_get-get_or (a ∷ old) n a within)

pub stays_at : (old new : List Atom) (n : ℕ) (atom : Atom) → IsFront old new → slice_get old n ≡ Some atom → slice_get new n ≡ Some atom
stays_at old new n atom front e = same_at old new n front (slice_get_within old n atom e) ∙ e

pub front_further : (old new newer : List Atom) → IsFront old new → IsFront new newer → IsFront old newer
front_further old new newer p q = (p.0 ++ q.0, q.1 ∙ ap (λ (atoms : List Atom). atoms ++ q.0) p.1 ∙ append_assoc old p.0 q.0)

-- two atoms of a table without repeats
apart_at : (atoms : List Atom) (m n : ℕ) (a : Atom) → AllPairs (λ x y. x ≢ y) atoms → m < n → slice_get atoms m ≡ Some a → slice_get atoms n ≡ Some a → ⊥
apart_at atoms m n a apart less p q =
    apart m n a less (slice_get_within atoms n a q) (get_or_from_slice_get atoms m a a p ∙ sym (get_or_from_slice_get atoms n a a q))

one_place : (atoms : List Atom) (m n : ℕ) (a : Atom) → AllPairs (λ x y. x ≢ y) atoms → slice_get atoms m ≡ Some a → slice_get atoms n ≡ Some a → m ≡ n
one_place atoms m n a apart p q = elim (cases_lt m n) [
  | inl less ↦ absurd (apart_at atoms m n a apart less p q)
  | inr most ↦ elim (cases_lt n m) [ inl less ↦ absurd (apart_at atoms n m a apart less q p) | inr least ↦ omega arith ]
]

pub one_number : (old new : List Atom) (m n : ℕ) (a b : Atom) → IsFront old new → AllPairs (λ x y. x ≢ y) new → slice_get old m ≡ Some a → slice_get new n ≡ Some b → a ≡ b → m ≡ n
one_number old new m n a b front apart p q e = one_place new m n a apart (stays_at old new m a front p) (q ∙ ap Some (sym e))

pub one_atom : (old new : List Atom) (m n : ℕ) (a b : Atom) → IsFront old new → slice_get old m ≡ Some a → slice_get new n ≡ Some b → m ≡ n → a ≡ b
one_atom old new m n a b front p q e = same_Some a b (sym (stays_at old new m a front p) ∙ ap (slice_get new) e ∙ q)

-- depths
behind_stays : (before : List ℕ) (atoms : List Atom) (n : ℕ) → n < length before → get_or (depths_behind before atoms) n 0 ≡ get_or before n 0
behind_stays before [] n h = refl
behind_stays before (a ∷ atoms) n h =
    behind_stays (before ++ depth_over before a.args ∷ []) atoms n (omega (arith, length-append before (depth_over before a.args ∷ [])))
    ∙ get_or_append_left before (depth_over before a.args ∷ []) 0 n h

behind_append : (before : List ℕ) (xs ys : List Atom) → depths_behind before (xs ++ ys) ≡ depths_behind (depths_behind before xs) ys
behind_append before [] ys = refl
behind_append before (x ∷ xs) ys = behind_append (before ++ depth_over before x.args ∷ []) xs ys

pub depth_stays : (old new : List Atom) (n : ℕ) → IsFront old new → n < length old → get_or (depths new) n 0 ≡ get_or (depths old) n 0
depth_stays old new n front within =
    ap (λ (atoms : List Atom). get_or (depths atoms) n 0) front.1
    ∙ ap (λ (ns : List ℕ). get_or ns n 0) (behind_append [] old front.0)
    ∙ behind_stays (depths old) front.0 n (omega (arith, length_depths old))

-- the depth of an atom is made of the depths of those before it
depth_at : (before : List ℕ) (atoms : List Atom) (n k : ℕ) (d : Atom) → n < length atoms → k ≡ length before + n
    → get_or (depths_behind before atoms) k 0 ≡ depth_over (depths_behind before (take n atoms)) (get_or atoms n d).args
depth_at before [] n k d h e = absurd (omega arith)
depth_at before (a ∷ atoms) zero k d h e =
    let more : length (before ++ depth_over before a.args ∷ []) ≡ length before + 1 = length-append before (depth_over before a.args ∷ []) in
    let is : k ≡ length before = omega arith in
    behind_stays (before ++ depth_over before a.args ∷ []) atoms k (omega arith)
    ∙ ap (λ (j : ℕ). get_or (before ++ depth_over before a.args ∷ []) j 0) is
    ∙ get_or-append_seam before (depth_over before a.args) [] 0
depth_at before (a ∷ atoms) (suc n) k d h e =
    depth_at (before ++ depth_over before a.args ∷ []) atoms n k d (omega arith) (omega (arith, length-append before (depth_over before a.args ∷ [])))

map_agree : {X Y : Type 0} (P : X → Type 0) (f g : X → Y) → ((x : X) → P x → f x ≡ g x) → (xs : List X) → All P xs → map f xs ≡ map g xs
map_agree P f g same [] h = refl
map_agree P f g same (x ∷ xs) h =
    let first : f x ≡ g x = same x (All-head P x xs h) in
    let rest : map f xs ≡ map g xs = map_agree P f g same xs (All-tail P x xs h) in
    cc

over_agree : (few more : List ℕ) (n : ℕ) (args : List (List AtomId)) → ((k : ℕ) → k < n → get_or few k 0 ≡ get_or more k 0) → All (All (λ atom. atom.0 < n)) args
    → depth_over few args ≡ depth_over more args
over_agree few more n args same h =
    ap (λ (ns : List ℕ). 1 + greatest ns)
    (map_agree (All (λ atom. atom.0 < n)) (λ set. greatest (map (λ atom. get_or few atom.0 0) set)) (λ set. greatest (map (λ atom. get_or more atom.0 0) set))
    (λ set below. ap greatest (map_agree (λ atom. atom.0 < n) (λ atom. get_or few atom.0 0) (λ atom. get_or more atom.0 0) (λ atom less. same atom.0 less) set below))
    args h)

made_at : (atoms : List Atom) (n : ℕ) (args : List (List AtomId)) (o : Option Atom) → slice_get atoms n ≡ o → option_map (λ made. made.args) o ≡ Some args
    → (made : Atom) × (slice_get atoms n ≡ Some made) × (made.args ≡ args)
made_at atoms n args None e h = absurd cc
made_at atoms n args (Some made) e h = (made, e, same_Some made.args args h)

pub depth_is : (atoms : List Atom) (atom : AtomId) (args : List (List AtomId)) → ArePartsBefore atoms → args_of atoms atom ≡ Some args → depth_of atoms atom ≡ depth_with atoms args
depth_is atoms atom args before e =
    let (made, stands, is) = made_at atoms atom.0 args (slice_get atoms atom.0) refl e in
    let within : atom.0 < length atoms = slice_get_within atoms atom.0 made stands in
    let at : get_or atoms atom.0 made ≡ made = get_or_from_slice_get atoms atom.0 made made stands in
    let front : IsFront (take atom.0 atoms) atoms = (drop atom.0 atoms, sym (take-append-drop atom.0 atoms)) in
    let short : length (take atom.0 atoms) ≡ atom.0 = length-take-le atom.0 atoms (omega arith) in
    depth_at [] atoms atom.0 atom.0 made within (omega arith)
    ∙ over_agree (depths (take atom.0 atoms)) (depths atoms) atom.0 (get_or atoms atom.0 made).args
    (λ k less. sym (depth_stays (take atom.0 atoms) atoms k front (omega arith))) (before atom.0 made within)
    ∙ ap (λ (a : Atom). depth_with atoms a.args) at ∙ ap (depth_with atoms) is
