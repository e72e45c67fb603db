-- Pieces in two parts: what bears them, where they fit, and what text they are.
use Rattle.std.proofs.Common.{◌≡◌, ℕ, zero, suc, Bool, true, List, [], ◌∷◌, ◌++◌, refl, sym, ap, subst, ◌∙◌, append_assoc}
use Rattle.std.specs.Prelude.{nat_lt}
use Rattle.std.specs.Str.{IsUtf8, IsAscii}
use Rattle.std.proofs.lemmas.Str.{IsUtf8-from_ascii}
use Rattle.std.proofs.lemmas.Str.Ascii.{IsAscii-cons, IsAscii-nil}
use Rattle.std.proofs.lemmas.Bool.{and_parts, ltb-true}
use Rattle.cr_syntax.specs.declared.token.Token.{Token}
use Rattle.cr_syntax.specs.Lexes.{Before}
use Rattle.cr_pieces.specs.Bytes.{ascii}
use Rattle.cr_pieces.specs.Pieces.{Piece, Blank, Put, spelled, spaces, text_of}
use Rattle.cr_pieces.specs.Fits.{is_newline, blanked, spaced_behind, put_behind, pieces_behind, stands, Bears, Fits}

pub spaced_append : (s : Bool) (ps qs : List Piece) → spaced_behind s (ps ++ qs) ≡ spaced_behind (spaced_behind s ps) qs
spaced_append s [] qs = refl
spaced_append s (Blank n ∷ ps) qs = spaced_append (blanked s n) ps qs
spaced_append s (Put kind ∷ ps) qs = spaced_append (is_newline kind) ps qs

pub behind_append : (before : Before) (ps qs : List Piece) → pieces_behind before (ps ++ qs) ≡ pieces_behind (pieces_behind before ps) qs
behind_append before [] qs = refl
behind_append before (Blank n ∷ ps) qs = behind_append before ps qs
behind_append before (Put kind ∷ ps) qs = behind_append (put_behind before kind) ps qs

pub record Parted (s : Bool) (ps qs : List Piece) (w : List Token) : Type 0 where
  pub front : List Token
  pub back : List Token
  pub whole : w ≡ front ++ back
  pub bears : Bears s ps front
  pub behind : Bears (spaced_behind s ps) qs back

pub parted : (s : Bool) (ps qs : List Piece) (w : List Token) → Bears s (ps ++ qs) w → Parted s ps qs w
parted s [] qs w b = record { front = []; back = w; whole = refl; bears = refl; behind = b }
parted s (Blank n ∷ ps) qs w b = let p : Parted (blanked s n) ps qs w = parted (blanked s n) ps qs w b in
    record { front = p.front; back = p.back; whole = p.whole; bears = p.bears; behind = p.behind }
parted s (Put kind ∷ ps) qs w (t, v, e, is, spaced, b) = let p : Parted (is_newline kind) ps qs v = parted (is_newline kind) ps qs v b in
    record { front = t ∷ p.front; back = p.back; whole = e ∙ ap (λ (u : List Token). t ∷ u) p.whole; bears = (t, p.front, refl, is, spaced, p.bears); behind = p.behind }

pub text_append : (ps qs : List Piece) → text_of (ps ++ qs) ≡ text_of ps ++ text_of qs
text_append [] qs = refl
text_append (Blank n ∷ ps) qs = ap (λ (v : List ℕ). spaces n ++ v) (text_append ps qs) ∙ sym (append_assoc (spaces n) (text_of ps) (text_of qs))
text_append (Put kind ∷ ps) qs = ap (λ (v : List ℕ). spelled kind ++ v) (text_append ps qs) ∙ sym (append_assoc (spelled kind) (text_of ps) (text_of qs))

pub fits_append : (before : Before) (s : Bool) (ps qs : List Piece) (after : List ℕ) → Fits before s ps (text_of qs ++ after)
    → Fits (pieces_behind before ps) (spaced_behind s ps) qs after → Fits before s (ps ++ qs) after
fits_append before s [] qs after f g = g
fits_append before s (Blank n ∷ ps) qs after f g = fits_append before (blanked s n) ps qs after f g
fits_append before s (Put kind ∷ ps) qs after f g = (
  f.0,
  subst (λ (bytes : List ℕ). stands before s kind bytes ≡ true) (sym (ap (λ (v : List ℕ). v ++ after) (text_append ps qs) ∙ append_assoc (text_of ps) (text_of qs) after)) f.1,
  fits_append (put_behind before kind) (is_newline kind) ps qs after f.2 g,
)

-- ---- bytes that are text

is_ascii : (bs : List ℕ) → ascii bs ≡ true → IsAscii bs
is_ascii [] e = IsAscii-nil
is_ascii (b ∷ bs) e = IsAscii-cons b bs (ltb-true b 128 (and_parts (nat_lt b 128) (ascii bs) e).0) (is_ascii bs (and_parts (nat_lt b 128) (ascii bs) e).1)

pub ascii_utf8 : (bs : List ℕ) → ascii bs ≡ true → IsUtf8 bs
ascii_utf8 bs e = IsUtf8-from_ascii bs (is_ascii bs e)

pub spaces_ascii : (n : ℕ) → ascii (spaces n) ≡ true
spaces_ascii zero = refl
spaces_ascii (suc n) = spaces_ascii n
