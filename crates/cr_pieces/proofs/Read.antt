-- A token that is read from its bytes.
use Rattle.std.proofs.Common.{◌≡◌, ℕ, Bool, false, List, ◌∷◌, ◌++◌, length, take, drop, refl, ◌∙◌}
use Rattle.std.specs.Str.{IsUtf8}
use Rattle.cr_syntax.specs.declared.token.TokenKind.{TokenKind}
use Rattle.cr_syntax.specs.Lexes.{Before, form_by}
use Rattle.cr_lex.specs.Longest.{Form, IsLongest}
use Rattle.cr_pieces.specs.Bytes.{is_gap, ends_line}
use Rattle.cr_pieces.specs.Pieces.{spelled}
use Rattle.cr_pieces.specs.Fits.{is_newline}
use Rattle.cr_pieces.proofs.Nesting.{Alike, in_insertion_alike, takes_minus_alike}

-- Its bytes begin no blank and no comment, are text, end a line where it does, and are the longest that have a form there.
pub record IsRead (before : Before) (s : Bool) (kind : TokenKind) (after : List ℕ) : Type 0 where
  pub head : ℕ
  pub rest : List ℕ
  pub are : spelled kind ≡ head ∷ rest
  pub solid : is_gap head ≡ false
  pub utf8 : IsUtf8 (spelled kind)
  pub ends : ends_line (spelled kind) ≡ is_newline kind
  pub longest : IsLongest (form_by before s head) (rest ++ after) (length rest) kind

carry : (F G : Form) (bytes : List ℕ) (n : ℕ) (kind : TokenKind) → ((t a : List ℕ) → F t a ≡ G t a) → IsLongest G bytes n kind → IsLongest F bytes n kind
carry F G bytes n kind same is = record {
  within = is.within;
  here = same (take n bytes) (drop n bytes) ∙ is.here;
  longest = λ m above within. same (take m bytes) (drop m bytes) ∙ is.longest m above within;
}

form_alike : (b c : Before) (s : Bool) (head : ℕ) (t a : List ℕ) → Alike b c → form_by b s head t a ≡ form_by c s head t a
form_alike b c s head t a alike =
    let inside = in_insertion_alike b c alike in let minus = takes_minus_alike b c s alike in
    rw (inside, minus) refl

-- what stands before may be told without places
pub longest_alike : (b c : Before) (s : Bool) (head : ℕ) (bytes : List ℕ) (n : ℕ) (kind : TokenKind) → Alike b c → IsLongest (form_by c s head) bytes n kind → IsLongest (form_by b s head) bytes n kind
longest_alike b c s head bytes n kind alike is = carry (form_by b s head) (form_by c s head) bytes n kind (λ t a. form_alike b c s head t a alike) is
