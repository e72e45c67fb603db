-- The words of the language: keywords, reserved words and names.
use Rattle.std.specs.Prelude.{ℕ, Bool, true, false, not, ◌&&◌, ◌||◌, ◌==◌, nat_le, List, [], ◌∷◌, map, Option, unwrap_or}
use Rattle.std.specs.Str.{bytes_eq}
use Rattle.std.specs.Map.{lookup}
use Rattle.std.specs.Option.{option_map}
use Rattle.cr_syntax.specs.declared.look.TokenLook.{TokenLook}
use Rattle.cr_syntax.specs.declared.token.TokenKind.{TokenKind}
use Rattle.cr_syntax.specs.declared.token.TokenKind.TheVariants as k
use Rattle.cr_syntax.specs.declared.vocabulary.TheConstants.{KEYWORDS}

-- ---- classes of bytes

abbrev pub is_digit : ℕ → Bool
is_digit b = nat_le 48 b && nat_le b 57

-- `a` to `z`, and `_`
abbrev pub begins_name : ℕ → Bool
begins_name b = (nat_le 97 b && nat_le b 122) || b == 95

-- `A` to `Z`
abbrev pub begins_constant : ℕ → Bool
begins_constant b = nat_le 65 b && nat_le b 90

abbrev pub is_word_byte : ℕ → Bool
is_word_byte b = begins_name b || begins_constant b || is_digit b

-- whether the bytes begin with one that passes
abbrev pub begins : (ℕ → Bool) → List ℕ → Bool
begins p [] = false
begins p (b ∷ bs) = p b

-- ---- forms

-- letters, digits and `_`
abbrev pub all_word_bytes : List ℕ → Bool
all_word_bytes [] = true
all_word_bytes (b ∷ bs) = is_word_byte b && all_word_bytes bs

-- `?` or `!`
abbrev pub is_mark : ℕ → Bool
is_mark b = b == 63 || b == 33

-- Letters, digits and `_`, and then maybe one `?` or `!`, where what stands after it does not begin with `=`.
abbrev pub is_word_end : List ℕ → List ℕ → Bool
is_word_end [] after = true
is_word_end (b ∷ []) after = is_word_byte b || (is_mark b && not (begins (λ c. c == 61) after))
is_word_end (b ∷ c ∷ bs) after = is_word_byte b && is_word_end (c ∷ bs) after

-- the keywords and the words that are reserved
abbrev pub keywords : List (List ℕ × TokenLook)
keywords = map (λ k. (k.0.now, k.1)) KEYWORDS

-- the keyword that the text is, if any
abbrev pub keyword_of : List ℕ → Option TokenLook
keyword_of text = lookup (bytes_eq text) keywords

-- a word is its keyword, or else a name
abbrev pub word_of : List ℕ → TokenKind
word_of text = unwrap_or (option_map k.Plain (keyword_of text)) (k.Ident text)
