-- Bytes of a text: which begin a blank or a comment, which end a line, which are ASCII. They carry proofs inside alone.
use Rattle.std.specs.Prelude.{ℕ, Bool, true, ◌&&◌, ◌||◌, ◌==◌, nat_lt, List, [], ◌∷◌}
use Rattle.cr_syntax.specs.Lexes.{is_blank}

-- whether a blank or a comment begins with the byte
abbrev pub is_gap : ℕ → Bool
is_gap b = is_blank b || b == 35

-- whether the last byte is a line feed, or there is none
abbrev pub ends_line : List ℕ → Bool
ends_line [] = true
ends_line (b ∷ []) = b == 10
ends_line (b ∷ c ∷ cs) = ends_line (c ∷ cs)

abbrev pub ascii : List ℕ → Bool
ascii [] = true
ascii (b ∷ bs) = nat_lt b 128 && ascii bs
