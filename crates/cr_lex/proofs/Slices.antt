-- The readers of words over a slice whose first byte has been looked at.
use Rattle.std.proofs.Common.{◌≡◌, ℕ, suc, ◌+◌, ◌-◌, ◌<◌, Bool, true, List, [], ◌∷◌, length, take, drop, get_or, refl, sym, ap, subst, ◌∙◌, arith}
use Rattle.std.proofs.lemmas.List.{take_rest}
use Rattle.std.specs.Str.{IsUtf8}
use Rattle.cr_syntax.specs.declared.token.TokenKind.{TokenKind}
use Rattle.cr_syntax.specs.Words.{begins_name, begins}
use Rattle.cr_lex.specs.Longest.{Form, IsLongest}

pub one_more : (b : ℕ) (bs : List ℕ) (n : ℕ) → take (n + 1) (b ∷ bs) ≡ b ∷ take n bs
one_more b bs n = let e : n + 1 ≡ suc n = omega arith in ap (λ (i : ℕ). take i (b ∷ bs)) e

-- as many bytes as `len` counts behind the first
abbrev Behind : (List ℕ → ℕ) → List ℕ → ℕ → Type 0
Behind len bytes n = n ≡ len (take (length bytes - 1) (drop 1 bytes))

behind_first : (len : List ℕ → ℕ) (b : ℕ) (bs : List ℕ) (n : ℕ) → Behind len (b ∷ bs) n → len bs ≡ n
behind_first len b bs n e = sym (e ∙ ap len (take_rest (b ∷ bs) 1))

-- a word or a constant: what `len` counts, with the first byte
pub utf8_at : (len : List ℕ → ℕ) (begins_with : ℕ → Bool) → ((b : ℕ) (bs : List ℕ) → begins_with b ≡ true → IsUtf8 (b ∷ take (len bs) bs))
    → (bytes : List ℕ) (n : ℕ) → 0 < length bytes → begins_with (get_or bytes 0 0) ≡ true → Behind len bytes n → IsUtf8 (take (n + 1) bytes)
utf8_at len begins_with utf8 [] n some e is = absurd (omega arith)
utf8_at len begins_with utf8 (b ∷ bs) n some e is =
    subst IsUtf8 (ap (λ (i : ℕ). b ∷ take i bs) (behind_first len b bs n is) ∙ sym (one_more b bs n)) (utf8 b bs e)

pub longest_at : (len : List ℕ → ℕ) (form : ℕ → Form) (kind_of : List ℕ → TokenKind) → ((b : ℕ) (bs : List ℕ) → IsLongest (form b) bs (len bs) (kind_of (b ∷ take (len bs) bs)))
    → (bytes : List ℕ) (n : ℕ) (kind : TokenKind) → 0 < length bytes → Behind len bytes n → kind ≡ kind_of (take (n + 1) bytes)
    → IsLongest (form (get_or bytes 0 0)) (drop 1 bytes) n kind
longest_at len form kind_of longest [] n kind some is e = absurd (omega arith)
longest_at len form kind_of longest (b ∷ bs) n kind some is e =
    subst (λ (found : TokenKind). IsLongest (form b) bs n found) (sym (e ∙ ap kind_of (one_more b bs n)))
    (subst (λ (i : ℕ). IsLongest (form b) bs i (kind_of (b ∷ take i bs))) (behind_first len b bs n is) (longest b bs))

pub begins_at : (p : ℕ → Bool) (bytes : List ℕ) → 0 < length bytes → begins p bytes ≡ p (get_or bytes 0 0)
begins_at p [] some = absurd (omega arith)
begins_at p (b ∷ bs) some = refl

pub begins_first : (bytes : List ℕ) → begins_name (get_or bytes 0 0) ≡ true → begins begins_name bytes ≡ true
begins_first [] e = absurd cc
begins_first (b ∷ bs) e = e
