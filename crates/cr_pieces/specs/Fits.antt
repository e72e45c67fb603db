-- Which tokens bear which pieces, and where pieces are read token by token as they stand.
use Rattle.std.specs.Prelude.{◌≡◌, ℕ, zero, suc, ℤ, pos, negsuc, Bool, true, false, not, ◌&&◌, ◌||◌, if◌then◌else◌, ◌==◌, nat_lt, List, [], ◌∷◌, ◌++◌, length}
use Rattle.std.specs.List.{list_any}
use Rattle.cr_syntax.specs.declared.look.TokenLook.{TokenLook}
use Rattle.cr_syntax.specs.declared.look.TokenLook.TheVariants as l
use Rattle.cr_syntax.specs.declared.token.Token.{Token}
use Rattle.cr_syntax.specs.declared.token.TokenKind.{TokenKind}
use Rattle.cr_syntax.specs.declared.token.TokenKind.TheVariants as k
use Rattle.cr_syntax.specs.Look.{look_of}
use Rattle.cr_syntax.specs.Words.{is_digit, begins_name, is_word_byte, is_mark, begins}
use Rattle.cr_syntax.specs.Numbers.{ends_number}
use Rattle.cr_syntax.specs.Operators.{operators}
use Rattle.cr_syntax.specs.Lexes.{Before, in_insertion, takes_minus, nesting_behind}
use Rattle.cr_pieces.specs.Pieces.{Piece, Blank, Put, spelling, text_of}
use Rattle.cr_pieces.specs.Proper.{IsProper}

-- ---- what pieces leave

abbrev pub is_newline_look : TokenLook → Bool
is_newline_look l.Newline = true
is_newline_look other = false

abbrev pub is_newline : TokenKind → Bool
is_newline kind = is_newline_look (look_of kind)

-- whether the token behind so many blanks is spaced
abbrev pub blanked : Bool → ℕ → Bool
blanked s zero = s
blanked s (suc n) = true

-- whether the token behind the pieces is spaced
abbrev pub spaced_behind : Bool → List Piece → Bool
spaced_behind s [] = s
spaced_behind s (Blank n ∷ ps) = spaced_behind (blanked s n) ps
spaced_behind s (Put kind ∷ ps) = spaced_behind (is_newline kind) ps

-- What is open behind a token, and the token. Pieces have no places, so that of an opening quote is left at 0.
abbrev pub put_behind : Before → TokenKind → Before
put_behind before kind = record { nesting = nesting_behind before.nesting 0 (look_of kind); last = look_of kind }

-- the same behind pieces
abbrev pub pieces_behind : Before → List Piece → Before
pieces_behind before [] = before
pieces_behind before (Blank n ∷ ps) = pieces_behind before ps
pieces_behind before (Put kind ∷ ps) = pieces_behind (put_behind before kind) ps

-- ---- tokens that bear pieces: of the same kinds, and as spaced

abbrev pub Bears : Bool → List Piece → List Token → Type 0
Bears s [] tokens = tokens ≡ []
Bears s (Blank n ∷ ps) tokens = Bears (blanked s n) ps tokens
Bears s (Put kind ∷ ps) tokens = (t : Token) × (ts : List Token) × (tokens ≡ t ∷ ts) × (t.kind ≡ kind) × (t.spaced ≡ s) × Bears (is_newline kind) ps ts

-- ---- where a token is read as it stands

-- whether the last byte is `?` or `!`
abbrev pub is_marked : List ℕ → Bool
is_marked [] = false
is_marked (b ∷ []) = is_mark b
is_marked (b ∷ c ∷ bs) = is_marked (c ∷ bs)

-- A word ends before such bytes: no letter, digit, `_` or mark goes on with it, and behind its mark stands no `=`.
abbrev pub ends_word : List ℕ → List ℕ → Bool
ends_word text [] = true
ends_word text (b ∷ bs) = not (is_word_byte b || is_mark b) && not (b == 61 && is_marked text)

-- whether the first list is the front of the second
abbrev pub is_front : List ℕ → List ℕ → Bool
is_front [] bytes = true
is_front (a ∷ text) [] = false
is_front (a ∷ text) (b ∷ bytes) = a == b && is_front text bytes

-- whether the operator is a longer one than the text, and begins the text with what stands behind it
abbrev pub is_longer : List ℕ → List ℕ → List ℕ × TokenLook → Bool
is_longer text after entry = nat_lt (length text) (length entry.0) && is_front entry.0 (text ++ after)

-- No longer operator stands there, a `-` belongs to no number, and a `}` ends no insertion.
abbrev pub operator_stands : Before → Bool → ℕ → List ℕ → List ℕ → Bool
operator_stands before s b bs after =
    not (list_any (is_longer (b ∷ bs) after) operators)
    && (not (b == 125 && in_insertion before) && not (b == 45 && (begins is_digit (bs ++ after) && takes_minus before s)))

-- a word by its first byte, else an operator
abbrev pub spelling_stands : Before → Bool → List ℕ → List ℕ → Bool
spelling_stands before s [] after = false
spelling_stands before s (b ∷ bs) after = if begins_name b then ends_word (b ∷ bs) after else operator_stands before s b bs after

-- a number, whose sign belongs to it
abbrev pub number_stands : Before → Bool → ℤ → List ℕ → Bool
number_stands before s (pos n) after = ends_number after
number_stands before s (negsuc n) after = ends_number after && takes_minus before s

-- whether the token ends where it ends, in front of such bytes
abbrev pub stands : Before → Bool → TokenKind → List ℕ → Bool
stands before s (k.Ident name) after = ends_word name after
stands before s (k.Constant name) after = not (begins is_word_byte after)
stands before s (k.InstanceVariable name) after = not (begins is_word_byte after)
stands before s (k.Int32 n) after = number_stands before s n after
stands before s (k.Int64 n) after = number_stands before s n after
stands before s (k.Text text) after = true
stands before s (k.TextFirst text) after = true
stands before s (k.TextMiddle text) after = in_insertion before
stands before s (k.TextLast text) after = in_insertion before
stands before s (k.Plain look) after = spelling_stands before s (spelling look) after

-- The pieces are read as they stand, behind what stands before and with such bytes behind them all.
abbrev pub Fits : Before → Bool → List Piece → List ℕ → Type 0
Fits before s [] after = Unit {0}
Fits before s (Blank n ∷ ps) after = Fits before (blanked s n) ps after
Fits before s (Put kind ∷ ps) after = IsProper kind × (stands before s kind (text_of ps ++ after) ≡ true) × Fits (put_behind before kind) (is_newline kind) ps after
