-- What is put behind bytes.
use Rattle.std.specs.Prelude.{◌≡◌, ℕ, List, ◌++◌}
use Rattle.cr_pieces.specs.Pieces.{Piece, text_of}

-- The new bytes are the old ones, and behind them the text of these pieces.
pub record Writes (ps : List Piece) (old new : List ℕ) : Type 0 where
  pub is : new ≡ old ++ text_of ps
