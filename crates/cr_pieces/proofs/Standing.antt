-- A token that stands is read, and pieces that fit are read.
use Rattle.std.proofs.Common.{◌≡◌, ℕ, Bool, true, false, cond, List, [], ◌∷◌, ◌++◌, refl, sym, ◌∙◌}
use Rattle.std.proofs.lemmas.Bool.{not-true}
use Rattle.cr_syntax.specs.declared.look.TokenLook.{TokenLook}
use Rattle.cr_syntax.specs.declared.token.TokenKind.{TokenKind}
use Rattle.cr_syntax.specs.declared.token.TokenKind.TheVariants as k
use Rattle.cr_syntax.specs.Words.{begins_name, begins, is_word_byte}
use Rattle.cr_syntax.specs.Lexes.{Before, start}
use Rattle.cr_pieces.specs.Pieces.{Piece, Blank, Put, spelling, text_of}
use Rattle.cr_pieces.specs.Proper.{IsProper}
use Rattle.cr_pieces.specs.Fits.{is_newline, blanked, put_behind, ends_word, operator_stands, spelling_stands, stands, Fits}
use Rattle.cr_pieces.specs.Laws.{PiecesAreRead}
use Rattle.cr_pieces.proofs.Vocabulary.{Known, KnownBy, known}
use Rattle.cr_pieces.proofs.Read.{IsRead}
use Rattle.cr_pieces.proofs.Lexing.{AllRead, lexes_whole}
use Rattle.cr_pieces.proofs.Words.{word_no_line, word_read, name_read, constant_read, variable_read}
use Rattle.cr_pieces.proofs.Signs.{operator_read}
use Rattle.cr_pieces.proofs.Numbers.{int_read, long_read}
use Rattle.cr_pieces.proofs.Texts.{text_read, first_read, middle_read, last_read}

module _ (before : Before) (s : Bool) (found : TokenLook) (after : List ℕ) where
  plain_by : (text : List ℕ) → spelling found ≡ text → Known text found → spelling_stands before s text after ≡ true → IsRead before s (k.Plain found) after
  plain_by [] are is e = absurd cc
  plain_by (b ∷ bs) are (solid, low, ends, by) e = by_test (begins_name b) refl by e
    where
      by_test : (t : Bool) → begins_name b ≡ t → KnownBy t b bs found → cond t (ends_word (b ∷ bs) after) (operator_stands before s b bs after) ≡ true → IsRead before s (k.Plain found) after
      by_test true name (end, word) e = word_read before s (k.Plain found) after b bs are name end word (sym ends ∙ word_no_line b bs name end) e
      by_test false name (content, is) e = operator_read before s found after b bs are solid low ends content is e

-- What stands is read.
pub stands_read : (before : Before) (s : Bool) (kind : TokenKind) (after : List ℕ) → IsProper kind → stands before s kind after ≡ true → IsRead before s kind after
stands_read before s (k.Ident name) after proper e = name_read before s name after proper e
stands_read before s (k.Constant name) after proper e = constant_read before s name after proper (not-true (begins is_word_byte after) e)
stands_read before s (k.InstanceVariable name) after proper e = variable_read before s name after proper (not-true (begins is_word_byte after) e)
stands_read before s (k.Int32 n) after proper e = int_read before s n after proper e
stands_read before s (k.Int64 n) after proper e = long_read before s n after proper e
stands_read before s (k.Text text) after proper e = text_read before s text after proper
stands_read before s (k.TextFirst text) after proper e = first_read before s text after proper
stands_read before s (k.TextMiddle text) after proper e = middle_read before s text after proper e
stands_read before s (k.TextLast text) after proper e = last_read before s text after proper e
stands_read before s (k.Plain look) after proper e = plain_by before s look after (spelling look) refl (known look) e

fits_read : (before : Before) (s : Bool) (ps : List Piece) (after : List ℕ) → Fits before s ps after → AllRead before s ps after
fits_read before s [] after f = tt
fits_read before s (Blank n ∷ ps) after f = fits_read before (blanked s n) ps after f
fits_read before s (Put kind ∷ ps) after f = (stands_read before s kind (text_of ps ++ after) f.0 f.1, fits_read (put_behind before kind) (is_newline kind) ps after f.2)

pub pieces_are_read : PiecesAreRead
pieces_are_read ps fits none = lexes_whole ps (fits_read start true ps [] fits) none
