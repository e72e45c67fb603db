-- The depths of a table, and what is kept when an atom is put last.
use Rattle.std.proofs.Common.{◌≡◌, ◌≢◌, ℕ, zero, suc, ◌+◌, ◌<◌, ◌≤◌, ◌^◌, List, [], ◌∷◌, ◌++◌, length, get_or, slice_get, Some, All, AllPairs, refl, sym, ap, ◌∙◌, subst, ◌⊎◌, inl, inr, arith, length-append}
use Rattle.std.proofs.lemmas.Bool.{cases_lt}
use Rattle.std.proofs.lemmas.List.{get_or_append_left}
use Rattle.std.proofs.lemmas.List.Elements.{All-push}
use Rattle.std.proofs.lemmas.Map.Entries.{length-values_of}
use Rattle.std.proofs.lemmas.Option.{slice_get_within, get_or_from_slice_get, slice_get-get_or}
use Rattle.std.proofs.Math.Seq.{get_or-append_seam}
use Rattle.std.specs.Map.{keys_of, values_of}
use Rattle.cr_atoms.specs.declared.atom.Atom.{Atom}
use Rattle.cr_atoms.specs.declared.atoms.TheConstants.{DEEPEST}
use Rattle.cr_atoms.specs.Table.{AreMade, ArePartsBefore, depth_over, depths_behind, depths, IsLawful}
use Rattle.cr_atoms.specs.Kept.{IsKept}

depths_push : (before : List ℕ) (atoms : List Atom) (atom : Atom)
    → depths_behind before (atoms ++ atom ∷ []) ≡ depths_behind before atoms ++ depth_over (depths_behind before atoms) atom.args ∷ []
depths_push before [] atom = refl
depths_push before (a ∷ atoms) atom = depths_push (before ++ depth_over before a.args ∷ []) atoms atom

length_depths_behind : (before : List ℕ) (atoms : List Atom) → length (depths_behind before atoms) ≡ length before + length atoms
length_depths_behind before [] = omega arith
length_depths_behind before (a ∷ atoms) =
    omega (arith, length_depths_behind (before ++ depth_over before a.args ∷ []) atoms, length-append before (depth_over before a.args ∷ []))

pub length_depths : (atoms : List Atom) → length (depths atoms) ≡ length atoms
length_depths atoms = omega (arith, length_depths_behind [] atoms)

-- a list of entries with one more at its end
pub keys_push : {J X : Type 0} (es : List (J × X)) (k : J) (v : X) → keys_of (es ++ (k, v) ∷ []) ≡ keys_of es ++ k ∷ []
keys_push [] k v = refl
keys_push {J = J} (e ∷ es) k v = ap (λ (ks : List J). e.0 ∷ ks) (keys_push es k v)

values_push : {J X : Type 0} (es : List (J × X)) (k : J) (v : X) → values_of (es ++ (k, v) ∷ []) ≡ values_of es ++ v ∷ []
values_push [] k v = refl
values_push {X = X} (e ∷ es) k v = ap (λ (vs : List X). e.1 ∷ vs) (values_push es k v)

pub before_push : (atoms : List Atom) (atom : Atom) → ArePartsBefore atoms → AreMade atoms atom.args → ArePartsBefore (atoms ++ atom ∷ [])
before_push atoms atom before made = λ k d within. by_place k d within (cases_lt k (length atoms))
  where
    by_place : (k : ℕ) (d : Atom) → k < length (atoms ++ atom ∷ []) → (k < length atoms) ⊎ (length atoms ≤ k)
        → All (All (λ part. part.0 < k)) (get_or (atoms ++ atom ∷ []) k d).args
    by_place k d within (inl less) =
        subst (λ (a : Atom). All (All (λ part. part.0 < k)) a.args) (sym (get_or_append_left atoms (atom ∷ []) d k less)) (before k d less)
    by_place k d within (inr most) =
        let last : length atoms ≡ k = omega (arith, length-append atoms (atom ∷ [])) in
        subst (λ (n : ℕ). All (All (λ part. part.0 < n)) (get_or (atoms ++ atom ∷ []) n d).args) last
        (subst (λ (a : Atom). All (All (λ part. part.0 < length atoms)) a.args) (sym (get_or-append_seam atoms atom [] d)) made)

pub stands_last : (atoms : List Atom) (atom : Atom) (n : ℕ) → n ≡ length atoms → slice_get (atoms ++ atom ∷ []) n ≡ Some atom
stands_last atoms atom n is =
    slice_get-get_or (atoms ++ atom ∷ []) n atom (omega (arith, length-append atoms (atom ∷ [])))
    ∙ ap Some (ap (λ (k : ℕ). get_or (atoms ++ atom ∷ []) k atom) is ∙ get_or-append_seam atoms atom [] atom)

-- an atom that is put last, with its depth
pub kept_push : (entries : List (Atom × ℕ)) (atom : Atom) (depth : ℕ) → IsKept (keys_of entries) (values_of entries)
    → length (keys_of entries) < 2 ^ 32 → AreMade (keys_of entries) atom.args → depth ≡ depth_over (depths (keys_of entries)) atom.args → depth ≤ DEEPEST
    → IsKept (keys_of (entries ++ (atom, depth) ∷ [])) (values_of (entries ++ (atom, depth) ∷ []))
kept_push entries atom depth kept room made is within =
    subst (λ (atoms : List Atom). IsKept atoms (values_of (entries ++ (atom, depth) ∷ []))) (sym (keys_push entries atom depth))
    (subst (IsKept (keys_of entries ++ atom ∷ [])) (sym (values_push entries atom depth)) (record {
      few = omega (arith, length-append (keys_of entries) (atom ∷ []));
      deep = ap (λ (ns : List ℕ). ns ++ depth ∷ []) kept.deep
          ∙ ap (λ (n : ℕ). depths (keys_of entries) ++ n ∷ []) is
          ∙ sym (depths_push [] (keys_of entries) atom);
      within = All-push (λ n. n ≤ DEEPEST) (values_of entries) depth kept.within within;
      before = before_push (keys_of entries) atom kept.before made;
    }))

value_at : {J X : Type 0} (es : List (J × X)) (i : ℕ) (d : J × X) (v : X) → i < length es → get_or (values_of es) i v ≡ (get_or es i d).1
value_at [] i d v h = absurd (omega arith)
value_at (e ∷ es) zero d v h = refl
value_at (e ∷ es) (suc i) d v h = value_at es i d v (omega arith)

-- a depth that is kept
pub kept_within : (entries : List (Atom × ℕ)) (i : ℕ) (atom : Atom) (depth : ℕ) → IsKept (keys_of entries) (values_of entries)
    → Some (atom, depth) ≡ slice_get entries i → depth ≤ DEEPEST
kept_within entries i atom depth kept e =
    let within : i < length entries = slice_get_within entries i (atom, depth) (sym e) in
    let at : get_or entries i (atom, depth) ≡ (atom, depth) = get_or_from_slice_get entries i (atom, depth) (atom, depth) (sym e) in
    subst (λ (n : ℕ). n ≤ DEEPEST) (value_at entries i (atom, depth) depth within ∙ ap (λ (p : Atom × ℕ). p.1) at)
    (kept.within i depth (omega (arith, length-values_of entries)))

-- what is kept says of the atoms
pub lawful : (entries : List (Atom × ℕ)) → AllPairs (λ a b. a ≢ b) (keys_of entries) → IsKept (keys_of entries) (values_of entries) → IsLawful (keys_of entries)
lawful entries apart kept = record {
  distinct = apart;
  before = kept.before;
  shallow = λ atom within. subst (λ (ns : List ℕ). get_or ns atom.0 0 ≤ DEEPEST) kept.deep
      (kept.within atom.0 0 (omega (arith, ap length kept.deep, length_depths (keys_of entries))));
}
