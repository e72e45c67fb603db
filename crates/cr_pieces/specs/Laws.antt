-- What is claimed of pieces and of the tokens of a text.
use Rattle.std.specs.Prelude.{◌≡◌, ℕ, true, List, [], ◌∷◌, ◌++◌, None}
use Rattle.cr_syntax.specs.declared.look.TokenLook.TheVariants as l
use Rattle.cr_syntax.specs.declared.token.Token.{Token}
use Rattle.cr_syntax.specs.declared.token.TokenKind.TheVariants as k
use Rattle.cr_syntax.specs.Lexes.{start, outermost, Lexes}
use Rattle.cr_pieces.specs.Pieces.{Piece, text_of}
use Rattle.cr_pieces.specs.Proper.{AllProper}
use Rattle.cr_pieces.specs.Fits.{pieces_behind, Bears, Fits}

-- the tokens that bear the pieces, and the end
pub record BornBy (ps : List Piece) (tokens : List Token) : Type 0 where
  pub front : List Token
  pub last : Token
  pub whole : tokens ≡ front ++ last ∷ []
  pub ends : last.kind ≡ k.Plain l.End
  pub bears : Bears true ps front

-- Where pieces fit from the start of a source on, and leave no text open, their bytes have tokens which bear them.
abbrev pub PiecesAreRead : Type 0
PiecesAreRead = (ps : List Piece) → Fits start true ps [] → outermost (pieces_behind start ps).nesting ≡ None
    → (tokens : List Token) × Lexes (text_of ps) tokens × BornBy ps tokens

-- The tokens of a text are proper.
abbrev pub TokensAreProper : Type 0
TokensAreProper = (source : List ℕ) (tokens : List Token) → Lexes source tokens → AllProper tokens
