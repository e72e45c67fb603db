-- What stands next, and a source read token by token.
use Rattle.std.proofs.Common.{◌≡◌, ℕ, suc, ◌+◌, ◌-◌, ◌<◌, ◌≤◌, Bool, true, List, [], ◌∷◌, ◌++◌, length, take, drop, get_or, Option, Some, None, Result, Ok, Err, unwrap_or, refl, sym, ap, subst, ◌∙◌, arith, inl, inr, append_assoc, drop-cons, length-drop}
use Rattle.std.proofs.lemmas.List.{take_rest}
use Rattle.std.proofs.Math.ListN.{drop_of_length-le}
use Rattle.std.proofs.lemmas.Bool.{cases_lt}
use Rattle.std.proofs.lemmas.Str.{IsUtf8-drop, IsCharBoundary-after_ascii}
use Rattle.std.specs.Str.{IsUtf8}
use Rattle.cr_syntax.specs.declared.fault.LexFault.{LexFault}
use Rattle.cr_syntax.specs.declared.fault.LexFault.TheVariants as fault
use Rattle.cr_syntax.specs.declared.token.Token.{Token}
use Rattle.cr_syntax.specs.declared.token.TokenKind.{TokenKind}
use Rattle.cr_syntax.specs.declared.token.TokenKind.TheVariants.{Plain}
use Rattle.cr_syntax.specs.declared.look.TokenLook.TheVariants.{End}
use Rattle.cr_syntax.specs.Lexes.{Before, start, outermost, behind, place_of, is_spaced, form_by, form_of, spells, IsToken, IsEnd, LexesFrom}
use Rattle.cr_syntax.specs.Faults.{fault_at, IsStuck, FailsFrom}
use Rattle.cr_syntax.proofs.Places.{spells_before}
use Rattle.cr_lex.specs.Longest.{IsLongest, HasNone}
use Rattle.cr_lex.specs.Words.{operator_form}
use Rattle.cr_lex.specs.Step.{begins_operator, ReadsForm, Stands, token_by}
use Rattle.cr_lex.proofs.Dispatch.{by_operator}

abbrev pub token : ℕ → ℕ → Bool → TokenKind → Token
token first past spaced kind = record { kind = kind; span = record { first = first; past = past }; spaced = spaced }

form_at : (before : Before) (spaced : Bool) (rest : List ℕ) (n : ℕ) → 0 < length rest → form_of before spaced rest (suc n) ≡ form_by before spaced (get_or rest 0 0) (take n (drop 1 rest)) (drop n (drop 1 rest))
form_at before spaced [] n some = absurd (omega arith)
form_at before spaced (b ∷ bs) n some = refl

module _ (source : List ℕ) (before : Before) (at : ℕ) where
  abbrev place : ℕ
  place = place_of source at

  abbrev spaced : Bool
  spaced = is_spaced source at

  abbrev rest : List ℕ
  rest = drop (place_of source at) source

  spells_behind : (n : ℕ) → place < length source → spells source before at (place + 1 + n) ≡ form_by before spaced (get_or rest 0 0) (take n (drop 1 rest)) (drop n (drop 1 rest))
  spells_behind n below = let e : place + 1 + n - place ≡ suc n = omega arith in
      ap (form_of before spaced rest) e ∙ form_at before spaced rest n (omega (arith, length-drop place source))

  pub is_end : place ≡ length source → outermost before.nesting ≡ None → IsEnd source before at (token place place spaced (Plain End))
  is_end end closed = record { kind = refl; at_end = end; first = end; past = end; spaced = refl; closed = closed }

  pub is_open : (quote : ℕ) → place ≡ length source → outermost before.nesting ≡ Some quote → IsStuck source before at (fault.OpenString quote)
  is_open quote end inside = record {
    none = λ past within. spells_before source before at past (omega arith);
    is_open = λ _ closed. absurd (let apart : None ≡ Some quote = sym closed ∙ inside in cc);
    fault = ap (λ (o : Option ℕ). fault.OpenString (unwrap_or o place)) (sym inside) ∙ ap (fault_at before place) (sym (drop_of_length-le source (omega arith)));
  }

  pub is_token : (n : ℕ) (kind : TokenKind) → place < length source → IsLongest (form_by before spaced (get_or rest 0 0)) (drop 1 rest) n kind → IsToken source before at (token place (place + 1 + n) spaced kind)
  is_token n kind below is = record {
    first = refl;
    spaced = refl;
    some = omega arith;
    within = (let le : n ≤ length (drop 1 rest) = is.within in omega (arith, length-drop 1 rest, length-drop place source));
    form = spells_behind n below ∙ is.here;
    longest = longer;
  }
    where
      longer : (past : ℕ) → place + 1 + n < past → past ≤ length source → spells source before at past ≡ None
      longer past above within =
          let m = past - (place + 1) in
          let e : past ≡ place + 1 + (past - (place + 1)) = omega arith in
          ap (spells source before at) e ∙ spells_behind (past - (place + 1)) below
          ∙ is.longest (past - (place + 1)) (omega arith) (omega (arith, length-drop 1 rest, length-drop place source))

  pub is_stuck : (f : LexFault) → place < length source → HasNone (form_by before spaced (get_or rest 0 0)) (drop 1 rest) → f ≡ fault_at before place rest → IsStuck source before at f
  is_stuck f below none e = record {
    none = all;
    is_open = λ end _. absurd (omega arith);
    fault = e;
  }
    where
      all : (past : ℕ) → past ≤ length source → spells source before at past ≡ None
      all past within = elim (cases_lt place past) [
        | inr le ↦ spells_before source before at past le
        | inl above ↦ (let e : past ≡ place + 1 + (past - (place + 1)) = omega arith in
            ap (spells source before at) e ∙ spells_behind (past - (place + 1)) below
            ∙ none (past - (place + 1)) (omega (arith, length-drop 1 rest, length-drop place source)))
      ]

-- what stands behind an ASCII byte of a text is text
pub utf8_behind : (source : List ℕ) (place : ℕ) → IsUtf8 source → place < length source
    → get_or (take (length source - place) (drop place source)) 0 0 < 128 → IsUtf8 (drop 1 (take (length source - place) (drop place source)))
utf8_behind source place utf8 below ascii =
    let same : take (length source - place) (drop place source) ≡ get_or source place 0 ∷ drop (suc place) source = take_rest source place ∙ drop-cons source place 0 below in
    let low : get_or source place 0 < 128 = subst (λ (bs : List ℕ). get_or bs 0 0 < 128) same ascii in
    subst (λ (bs : List ℕ). IsUtf8 (drop 1 bs)) (sym same)
    (let one : place + 1 ≡ suc place = omega arith in subst (λ (i : ℕ). IsUtf8 (drop i source)) one (IsUtf8-drop source (place + 1) utf8 (IsCharBoundary-after_ascii source place utf8 below low)))

-- ---- token by token

pub lexes_more : (source : List ℕ) (before : Before) (at : ℕ) (found : List Token) (t : Token) → IsToken source before at t
    → ((ts : List Token) → LexesFrom source before at ts → LexesFrom source start 0 (found ++ ts))
    → (ts : List Token) → LexesFrom source (behind before t) t.span.past ts → LexesFrom source start 0 ((found ++ t ∷ []) ++ ts)
lexes_more source before at found t is so_far ts lexes = subst (λ (us : List Token). LexesFrom source start 0 us) (sym (append_assoc found (t ∷ []) ts)) (so_far (t ∷ ts) (inr (is, lexes)))

pub fails_more : (source : List ℕ) (before : Before) (at : ℕ) (found : List Token) (t : Token) → IsToken source before at t
    → ((ts : List Token) (f : LexFault) → FailsFrom source before at ts f → FailsFrom source start 0 (found ++ ts) f)
    → (ts : List Token) (f : LexFault) → FailsFrom source (behind before t) t.span.past ts f → FailsFrom source start 0 ((found ++ t ∷ []) ++ ts) f
fails_more source before at found t is so_far ts f fails = subst (λ (us : List Token). FailsFrom source start 0 us f) (sym (append_assoc found (t ∷ []) ts)) (so_far (t ∷ ts) f (is, fails))

-- what the code found at the place and the `spaced` that it computed
abbrev sliced : List ℕ → ℕ → List ℕ
sliced source p = take (length source - p) (drop p source)

module _ (source : List ℕ) (before : Before) (at : ℕ) where
  abbrev FoundAt : ℕ → TokenKind → Token → ℕ → Bool → Type 0
  FoundAt n kind t p sp = p < length source → t ≡ token p (p + 1 + n) sp kind
      → IsLongest (form_by before sp (get_or (sliced source p) 0 0)) (drop 1 (sliced source p)) n kind → IsToken source before at t

  found_here : (n : ℕ) (kind : TokenKind) (t : Token) → FoundAt n kind t (place_of source at) (is_spaced source at)
  found_here n kind t below same is = subst (λ (u : Token). IsToken source before at u) (sym same)
      (is_token source before at n kind below (subst (λ (bs : List ℕ). IsLongest (form_by before (is_spaced source at) (get_or bs 0 0)) (drop 1 bs) n kind) (take_rest source (place_of source at)) is))

  token_found : (n : ℕ) (kind : TokenKind) (t : Token) (p : ℕ) (sp : Bool) → p ≡ place_of source at → sp ≡ is_spaced source at → FoundAt n kind t p sp
  token_found n kind t p sp e f = subst (λ (q : ℕ). FoundAt n kind t q sp) (sym e) (subst (FoundAt n kind t (place_of source at)) (sym f) (found_here n kind t))

  abbrev StuckAt : LexFault → ℕ → Bool → Type 0
  StuckAt f p sp = p < length source → HasNone (form_by before sp (get_or (sliced source p) 0 0)) (drop 1 (sliced source p)) → f ≡ fault_at before p (sliced source p) → IsStuck source before at f

  stuck_here : (f : LexFault) → StuckAt f (place_of source at) (is_spaced source at)
  stuck_here f below none e =
      let same = take_rest source (place_of source at) in
      is_stuck source before at f below
      (subst (λ (bs : List ℕ). HasNone (form_by before (is_spaced source at) (get_or bs 0 0)) (drop 1 bs)) same none)
      (e ∙ ap (fault_at before (place_of source at)) same)

  stuck_found : (f : LexFault) (p : ℕ) (sp : Bool) → p ≡ place_of source at → sp ≡ is_spaced source at → StuckAt f p sp
  stuck_found f p sp e g = subst (λ (q : ℕ). StuckAt f q sp) (sym e) (subst (StuckAt f (place_of source at)) (sym g) (stuck_here f))

  pub stands_by : (p : ℕ) (sp : Bool) (r : Result (TokenKind × ℕ) LexFault) → p ≡ place_of source at → sp ≡ is_spaced source at → p < length source
      → ReadsForm (form_by before sp (get_or (sliced source p) 0 0)) (drop 1 (sliced source p)) (fault_at before p (sliced source p)) r → Stands source before at (token_by p sp r)
  stands_by p sp (Ok found) e g below reads = token_found found.1 found.0 (token p (p + 1 + found.1) sp found.0) p sp e g below refl reads
  stands_by p sp (Err f) e g below reads = λ apart. stuck_found f p sp e g below (reads apart).0 (reads apart).1

-- an operator, or the end of a line, at the place
pub operator_stands : (source : List ℕ) (before : Before) (at p : ℕ) (sp : Bool) (r : Result (TokenKind × ℕ) LexFault) → p ≡ place_of source at → sp ≡ is_spaced source at → p < length source
    → begins_operator before sp (get_or source p 0) (drop (p + 1) source) ≡ true
    → ReadsForm (operator_form (get_or source p 0)) (take (length source - (p + 1)) (drop (p + 1) source)) (fault.BadByte p) r → Stands source before at (token_by p sp r)
operator_stands source before at p sp r e g below is reads =
    let same : sliced source p ≡ get_or source p 0 ∷ drop (suc p) source = take_rest source p ∙ drop-cons source p 0 below in
    let one : p + 1 ≡ suc p = omega arith in
    let here : ReadsForm (operator_form (get_or source p 0)) (drop (suc p) source) (fault.BadByte p) r =
    subst (λ (i : ℕ). ReadsForm (operator_form (get_or source p 0)) (drop i source) (fault.BadByte p) r) one
    (subst (λ (bs : List ℕ). ReadsForm (operator_form (get_or source p 0)) bs (fault.BadByte p) r) (take_rest source (p + 1)) reads) in
    let operator : begins_operator before sp (get_or source p 0) (drop (suc p) source) ≡ true = subst (λ (i : ℕ). begins_operator before sp (get_or source p 0) (drop i source) ≡ true) one is in
    stands_by source before at p sp r e g below
    (subst (λ (bs : List ℕ). ReadsForm (form_by before sp (get_or bs 0 0)) (drop 1 bs) (fault_at before p bs) r) (sym same)
    (by_operator before sp p (get_or source p 0) (drop (suc p) source) r operator here))
