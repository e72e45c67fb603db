-- What is written: tokens, and blanks between them.
use Rattle.std.specs.Prelude.{ℕ, zero, suc, Bool, true, false, ◌&&◌, if◌then◌else◌, ◌==◌, List, [], ◌∷◌, ◌++◌, codes, Option, Some, None, unwrap_or}
use Rattle.std.specs.Fmt.{signed_decimal}
use denote.Enum.Bare.{sameb}
use Rattle.cr_syntax.specs.contracts.look.TokenLook.{the_type}
use Rattle.cr_syntax.specs.declared.look.TokenLook.{TokenLook}
use Rattle.cr_syntax.specs.declared.token.TokenKind.{TokenKind}
use Rattle.cr_syntax.specs.declared.token.TokenKind.TheVariants as k
use Rattle.cr_syntax.specs.Words.{begins, keywords}
use Rattle.cr_syntax.specs.Operators.{operators}

-- so many spaces, or a token
pub data Piece : Type 0 where
  Blank : (count : ℕ) → Piece
  Put : (kind : TokenKind) → Piece

-- ---- texts

-- how a byte is written in a text; `rest` stands behind it
abbrev pub escaped_byte : ℕ → List ℕ → List ℕ
escaped_byte b rest =
    if b == 92 then codes "\\\\"
    else (if b == 34 then codes "\\\""
    else (if b == 10 then codes "\\n"
    else (if b == 9 then codes "\\t"
    else (if b == 13 then codes "\\r"
    else (if b == 35 && begins (λ c. c == 123) rest then codes "\\#" else b ∷ [])))))

abbrev pub escaped : List ℕ → List ℕ
escaped [] = []
escaped (b ∷ bs) = escaped_byte b bs ++ escaped bs

-- what ends a part of a text: `#{` where it opens an insertion, else the closing quote
abbrev pub part_end : Bool → List ℕ
part_end true = codes "#{"
part_end false = codes "\""

-- ---- tokens

abbrev pub same_look : TokenLook → TokenLook → Bool
same_look = sameb the_type

-- the first text of a table that has the look, if any
abbrev pub spelled_in : List (List ℕ × TokenLook) → TokenLook → Option (List ℕ)
spelled_in [] wanted = None
spelled_in (entry ∷ entries) wanted = if same_look entry.1 wanted then Some entry.0 else spelled_in entries wanted

-- How a keyword, a reserved word, an operator and the end of a line is written, by the vocabulary of the language. What
-- has a name, a number or a text has no one spelling, and the end of the source has none.
abbrev pub spelling : TokenLook → List ℕ
spelling look = unwrap_or (spelled_in keywords look) (unwrap_or (spelled_in operators look) [])

-- the bytes of a token
abbrev pub spelled : TokenKind → List ℕ
spelled (k.Ident name) = name
spelled (k.Constant name) = name
spelled (k.InstanceVariable name) = 64 ∷ name
spelled (k.Int32 n) = signed_decimal n
spelled (k.Int64 n) = signed_decimal n ++ codes "_i64"
spelled (k.Text text) = 34 ∷ (escaped text ++ part_end false)
spelled (k.TextFirst text) = 34 ∷ (escaped text ++ part_end true)
spelled (k.TextMiddle text) = 125 ∷ (escaped text ++ part_end true)
spelled (k.TextLast text) = 125 ∷ (escaped text ++ part_end false)
spelled (k.Plain look) = spelling look

-- so many spaces
abbrev pub spaces : ℕ → List ℕ
spaces zero = []
spaces (suc n) = 32 ∷ spaces n

abbrev pub piece_bytes : Piece → List ℕ
piece_bytes (Blank n) = spaces n
piece_bytes (Put kind) = spelled kind

-- the text that pieces are
abbrev pub text_of : List Piece → List ℕ
text_of [] = []
text_of (p ∷ ps) = piece_bytes p ++ text_of ps
