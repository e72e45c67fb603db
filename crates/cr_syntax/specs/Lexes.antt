-- Which tokens a source has.
use Rattle.std.specs.Prelude.{◌≡◌, ℕ, zero, suc, ◌+◌, ◌-◌, ◌<◌, ◌≤◌, Bool, true, false, not, ◌&&◌, ◌||◌, if◌then◌else◌, ◌==◌, nat_lt, List, [], ◌∷◌, ◌++◌, length, take, drop, slice_get, slice_index, ◌⊎◌, Option, Some, None}
use Rattle.std.specs.Option.{option_map}
use Rattle.std.specs.Str.{IsUtf8}
use Rattle.cr_syntax.specs.declared.open.Open.{Open}
use Rattle.cr_syntax.specs.declared.open.Open.TheVariants as o
use Rattle.cr_syntax.specs.declared.look.TokenLook.{TokenLook}
use Rattle.cr_syntax.specs.declared.look.TokenLook.TheVariants as l
use Rattle.cr_syntax.specs.declared.token.Token.{Token}
use Rattle.cr_syntax.specs.declared.token.TokenKind.{TokenKind}
use Rattle.cr_syntax.specs.declared.token.TokenKind.TheVariants as k
use Rattle.cr_syntax.specs.Look.{look_of}
use Rattle.cr_syntax.specs.Words.{is_digit, begins_name, begins_constant, begins, all_word_bytes, is_word_end, word_of}
use Rattle.cr_syntax.specs.Numbers.{number_of, ends_number}
use Rattle.cr_syntax.specs.Texts.{part_of, part_kind}
use Rattle.cr_syntax.specs.Operators.{operator_of}

-- ---- what the tokens before a place leave

-- What is open, the innermost last, and the last token.
pub record Before : Type 0 where
  pub nesting : List Open
  pub last : TokenLook

-- A line feed or `;` ends no operand, and so does the start of the source.
abbrev pub start : Before
start = record { nesting = []; last = l.Newline }

abbrev pub innermost : List Open → Option Open
innermost nesting = slice_get nesting (length nesting - 1)

abbrev pub is_insertion : Option Open → Bool
is_insertion (Some (o.Insertion quote)) = true
is_insertion other = false

-- whether a `}` ends an insertion here
abbrev pub in_insertion : Before → Bool
in_insertion before = is_insertion (innermost before.nesting)

-- the opening quote of the outermost text in whose insertion this is
abbrev pub outermost : List Open → Option ℕ
outermost [] = None
outermost (o.Brace ∷ nesting) = outermost nesting
outermost (o.Insertion quote ∷ nesting) = Some quote

-- what is open behind a token that begins at `first`
abbrev pub nesting_behind : List Open → ℕ → TokenLook → List Open
nesting_behind nesting first l.OpenBrace = nesting ++ o.Brace ∷ []
nesting_behind nesting first l.CloseBrace = take (length nesting - 1) nesting
nesting_behind nesting first l.TextFirst = nesting ++ o.Insertion first ∷ []
nesting_behind nesting first l.TextLast = take (length nesting - 1) nesting
nesting_behind nesting first other = nesting

abbrev pub behind : Before → Token → Before
behind before t = record { nesting = nesting_behind before.nesting t.span.first (look_of t.kind); last = look_of t.kind }

-- the tokens that can end an operand
abbrev pub ends_operand : TokenLook → Bool
ends_operand l.Ident = true
ends_operand l.Constant = true
ends_operand l.InstanceVariable = true
ends_operand l.Int32 = true
ends_operand l.Int64 = true
ends_operand l.Text = true
ends_operand l.TextLast = true
ends_operand l.CloseParenthesis = true
ends_operand l.CloseBracket = true
ends_operand l.CloseBrace = true
ends_operand l.KeywordEnd = true
ends_operand l.Nil = true
ends_operand l.IsNil = true
ends_operand l.True = true
ends_operand l.False = true
ends_operand l.KeywordSelf = true
ends_operand other = false

abbrev pub is_ident : TokenLook → Bool
is_ident l.Ident = true
is_ident other = false

-- whether a `-` directly before a digit belongs to the number
abbrev pub takes_minus : Before → Bool → Bool
takes_minus before spaced = not (ends_operand before.last) || (is_ident before.last && spaced)

-- ---- separators and places

-- space, tab and carriage return
abbrev pub is_blank : ℕ → Bool
is_blank b = b == 32 || b == 9 || b == 13

-- how many bytes stand before the end of the line
abbrev pub line_length : List ℕ → ℕ
line_length [] = 0
line_length (b ∷ bs) = if b == 10 then 0 else suc (line_length bs)

-- how many bytes of separators stand at the front: blanks, and then maybe a comment, from `#` to the end of its line
abbrev pub gap_length : List ℕ → ℕ
gap_length [] = 0
gap_length (b ∷ bs) = if is_blank b then suc (gap_length bs) else (if b == 35 then suc (line_length bs) else 0)

-- where the token begins that follows a token that ends at `at`
abbrev pub place_of : List ℕ → ℕ → ℕ
place_of source at = at + gap_length (drop at source)

-- whether a separator, or the start of the source or of a line, stands directly before it
abbrev pub is_spaced : List ℕ → ℕ → Bool
is_spaced source at = let place = place_of source at in
    nat_lt at place || place == 0 || slice_index source (place - 1) == 10

-- ---- forms

-- a kind where its test holds
abbrev pub when : Bool → TokenKind → Option TokenKind
when test kind = if test then Some kind else None

-- The kind that a text spells, by its first byte; `after` is what stands behind the text.
abbrev pub form_by : Before → Bool → ℕ → List ℕ → List ℕ → Option TokenKind
form_by before spaced b bs after =
    if is_digit b then (if ends_number after then number_of false (b ∷ bs) else None)
    else (if begins_name b then when (is_word_end bs after) (word_of (b ∷ bs))
    else (if begins_constant b then when (all_word_bytes bs) (k.Constant (b ∷ bs))
    else (if b == 64 then when (begins begins_name bs && all_word_bytes bs) (k.InstanceVariable bs)
    else (if b == 34 then option_map (part_kind true) (part_of false bs)
    else (if b == 125 && in_insertion before then option_map (part_kind false) (part_of false bs)
    else (if b == 45 && takes_minus before spaced && begins is_digit (bs ++ after) then (if ends_number after then number_of true bs else None)
    else operator_of (b ∷ bs)))))))

-- The kind that the first `n` bytes spell.
abbrev pub form_of : Before → Bool → List ℕ → ℕ → Option TokenKind
form_of before spaced [] n = None
form_of before spaced (b ∷ bs) zero = None
form_of before spaced (b ∷ bs) (suc n) = form_by before spaced b (take n bs) (drop n bs)

-- The kind that the bytes from the next place up to `past` spell.
abbrev pub spells : List ℕ → Before → ℕ → ℕ → Option TokenKind
spells source before at past = let place = place_of source at in
    form_of before (is_spaced source at) (drop place source) (past - place)

-- ---- tokens

-- the token that stands next behind `at`: no longer one has a form there
pub record IsToken (source : List ℕ) (before : Before) (at : ℕ) (t : Token) : Type 0 where
  pub first : t.span.first ≡ place_of source at
  pub spaced : t.spaced ≡ is_spaced source at
  pub some : t.span.first < t.span.past
  pub within : t.span.past ≤ length source
  pub form : spells source before at t.span.past ≡ Some t.kind
  pub longest : (past : ℕ) → t.span.past < past → past ≤ length source → spells source before at past ≡ None

-- the end of the source, with no text and no insertion open
pub record IsEnd (source : List ℕ) (before : Before) (at : ℕ) (t : Token) : Type 0 where
  pub kind : t.kind ≡ k.Plain l.End
  pub at_end : place_of source at ≡ length source
  pub first : t.span.first ≡ length source
  pub past : t.span.past ≡ length source
  pub spaced : t.spaced ≡ is_spaced source at
  pub closed : outermost before.nesting ≡ None

-- the tokens from `at` on
abbrev pub LexesFrom : List ℕ → Before → ℕ → List Token → Type 0
LexesFrom source before at [] = ⊥
LexesFrom source before at (t ∷ ts) =
    (IsEnd source before at t × (ts ≡ [])) ⊎ (IsToken source before at t × LexesFrom source (behind before t) t.span.past ts)

-- the tokens of a text
abbrev pub TextLexes : List ℕ → List Token → Type 0
TextLexes source tokens = LexesFrom source start 0 tokens

-- These are the tokens of the source.
abbrev pub Lexes : List ℕ → List Token → Type 0
Lexes source tokens = IsUtf8 source × TextLexes source tokens
