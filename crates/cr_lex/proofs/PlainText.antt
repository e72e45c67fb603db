-- A part whose bytes all stand for themselves.
use Rattle.std.proofs.Common.{◌≡◌, ℕ, suc, ◌+◌, ◌-◌, Bool, true, false, cond, ◌&&◌, ◌||◌, List, [], ◌∷◌, length, take, drop, ◌==◌, Some, None, refl, sym, ap, subst, ◌∙◌, arith}
use Rattle.std.proofs.lemmas.List.{append-nil, take_rest}
use Rattle.std.proofs.lemmas.Bool.{eqb-true, and_parts, or_parts}
use Rattle.cr_syntax.specs.Words.{begins}
use Rattle.cr_syntax.specs.Texts.{Part, ended}
use Rattle.cr_lex.specs.Texts.{Scan, Found, Bad, Unended, with_text, behind_bytes, is_brace, scan, ends_plain, plain_length, ending_of, ending_length}

behind_nothing : (s : Scan) → s ≡ behind_bytes 0 [] s
behind_nothing (Found part n) = let e : n ≡ 0 + n = omega arith in ap (Found part) e
behind_nothing (Bad n) = let e : n ≡ 0 + n = omega arith in ap Bad e
behind_nothing Unended = refl

behind_twice : (b n : ℕ) (text : List ℕ) (s : Scan) → behind_bytes 1 (b ∷ []) (behind_bytes n text s) ≡ behind_bytes (suc n) (b ∷ text) s
behind_twice b n text (Found part m) = let e : 1 + (n + m) ≡ suc n + m = omega arith in ap (Found (with_text (b ∷ text) part)) e
behind_twice b n text (Bad m) = let e : 1 + (n + m) ≡ suc n + m = omega arith in ap Bad e
behind_twice b n text Unended = refl

-- the bytes at the front that stand for themselves
abbrev Passes : List ℕ → ℕ → Type 0
Passes bs n = scan false bs ≡ behind_bytes n (take n bs) (scan false (drop n bs))

passes : (bs : List ℕ) → Passes bs (plain_length bs)
passes [] = behind_nothing (scan false [])
passes (b ∷ bs) = by_test (ends_plain b) refl (passes bs)
  where
    by_test : (t : Bool) → ends_plain b ≡ t → Passes bs (plain_length bs) → Passes (b ∷ bs) (cond t 0 (suc (plain_length bs)))
    by_test true is rest = behind_nothing (scan false (b ∷ bs))
    by_test false is rest =
        let first = or_parts (b == 34) (b == 92 || b == 35) is in
        let others = or_parts (b == 92) (b == 35) first.1 in
        let no_quote = first.0 in let no_slash = others.0 in let no_hash = others.1 in
        let step : scan false (b ∷ bs) ≡ behind_bytes 1 (b ∷ []) (scan false bs) = rw (no_quote, no_slash, no_hash) refl in
        step ∙ ap (behind_bytes 1 (b ∷ [])) rest ∙ behind_twice b (plain_length bs) (take (plain_length bs) bs) (scan false (drop (plain_length bs) bs))

pick : (quote slash hash opens : Bool) (r s : Scan) → cond quote (Some false) (cond hash (Some true) None) ≡ Some opens → (hash ≡ true → slash ≡ false)
    → cond quote (Found (ended false) 1) (cond slash r (cond hash (Found (ended true) 2) s)) ≡ Found (ended opens) (ending_length opens)
pick true slash hash false r s e apart = refl
pick true slash hash true r s e apart = absurd cc
pick false slash true true r s e apart = ap (λ (t : Bool). cond t r (Found (ended true) 2)) (apart refl)
pick false slash true false r s e apart = absurd cc
pick false slash false opens r s e apart = absurd cc

ends_here : (bs : List ℕ) (opens : Bool) → ending_of bs ≡ Some opens → scan false bs ≡ Found (ended opens) (ending_length opens)
ends_here [] opens e = absurd cc
ends_here (b ∷ bs) opens e = pick (b == 34) (b == 92) (b == 35 && begins is_brace bs) opens (behind_bytes 1 [] (scan true bs)) (behind_bytes 1 (b ∷ []) (scan false bs)) e
    (λ hash. let at : b ≡ 35 = eqb-true b 35 (and_parts (b == 35) (begins is_brace bs) hash).0 in ap (λ (c : ℕ). c == 92) at)

abbrev pub whole : List ℕ → Bool → Part
whole text opens = record { bytes = text; opens = opens }

-- up to the ending
pub whole_found : (bs : List ℕ) (n : ℕ) (opens : Bool) → n ≡ plain_length bs → Some opens ≡ ending_of (take (length bs - n) (drop n bs)) → scan false bs ≡ Found (whole (take n bs) opens) (n + ending_length opens)
whole_found bs n opens e ends =
    let here : ending_of (drop n bs) ≡ Some opens = ap ending_of (sym (take_rest bs n)) ∙ sym ends in
    subst (Passes bs) (sym e) (passes bs)
    ∙ ap (behind_bytes n (take n bs)) (ends_here (drop n bs) opens here)
    ∙ ap (λ (text : List ℕ). Found (whole text opens) (n + ending_length opens)) (append-nil (take n bs))
