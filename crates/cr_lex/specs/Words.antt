-- Forms behind a first byte: words, constants and instance variables.
use Rattle.std.specs.Prelude.{ℕ, suc, Bool, not, ◌&&◌, ◌||◌, if◌then◌else◌, ◌==◌, List, [], ◌∷◌, Option, None}
use Rattle.cr_syntax.specs.declared.look.TokenLook.{TokenLook}
use Rattle.cr_syntax.specs.declared.token.TokenKind.TheVariants as k
use Rattle.cr_syntax.specs.Words.{is_digit, begins_name, begins_constant, is_word_byte, is_mark, begins, all_word_bytes, is_word_end, word_of}
use Rattle.cr_syntax.specs.Operators.{operator_look, operator_of}
use Rattle.cr_syntax.specs.Lexes.{when}
use Rattle.cr_lex.specs.Longest.{Form}

abbrev pub word_form : ℕ → Form
word_form b text after = when (is_word_end text after) (word_of (b ∷ text))

abbrev pub constant_form : ℕ → Form
constant_form b text after = when (all_word_bytes text) (k.Constant (b ∷ text))

abbrev pub variable_form : Form
variable_form text after = when (begins begins_name text && all_word_bytes text) (k.InstanceVariable text)

abbrev pub operator_form : ℕ → Form
operator_form b text after = operator_of (b ∷ text)

-- whether a number, a word, an instance variable or a text begins with the byte
abbrev pub begins_content : ℕ → Bool
begins_content b = is_digit b || (begins_name b || (begins_constant b || (b == 64 || b == 34)))

-- how many letters, digits and `_` stand at the front
abbrev pub word_length : List ℕ → ℕ
word_length [] = 0
word_length (b ∷ bs) = if is_word_byte b then suc (word_length bs) else 0

abbrev pub is_equal : ℕ → Bool
is_equal c = c == 61

-- the same with a mark behind them
abbrev pub marked_length : List ℕ → ℕ
marked_length [] = 0
marked_length (b ∷ bs) = if is_word_byte b then suc (marked_length bs) else (if is_mark b && not (begins is_equal bs) then 1 else 0)

-- the operator of a byte and the bytes at the front, where there are as many
abbrev pub two_at : ℕ → List ℕ → Option TokenLook
two_at a [] = None
two_at a (b ∷ bs) = operator_look (a ∷ b ∷ [])

abbrev pub three_at : ℕ → List ℕ → Option TokenLook
three_at a [] = None
three_at a (b ∷ []) = None
three_at a (b ∷ c ∷ bs) = operator_look (a ∷ b ∷ c ∷ [])
