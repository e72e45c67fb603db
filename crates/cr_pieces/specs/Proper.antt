-- What a token of a text has: names that are names, numbers within their type, texts that are UTF-8.
use Rattle.std.specs.Prelude.{◌≡◌, ℕ, ◌<◌, ◌^◌, ℤ, pos, negsuc, true, List, [], ◌∷◌}
use Rattle.std.specs.Str.{IsUtf8}
use Rattle.cr_syntax.specs.declared.token.Token.{Token}
use Rattle.cr_syntax.specs.declared.token.TokenKind.{TokenKind}
use Rattle.cr_syntax.specs.declared.token.TokenKind.TheVariants as k
use Rattle.cr_syntax.specs.Words.{begins_name, begins_constant, all_word_bytes, is_word_end, word_of}

-- letters, digits and `_`, maybe with a `?` or `!` behind them, and no keyword
abbrev pub IsName : List ℕ → Type 0
IsName [] = ⊥
IsName (b ∷ bs) = (begins_name b ≡ true) × (is_word_end bs [] ≡ true) × (word_of (b ∷ bs) ≡ k.Ident (b ∷ bs))

-- the name of a class or module
abbrev pub IsConstantName : List ℕ → Type 0
IsConstantName [] = ⊥
IsConstantName (b ∷ bs) = (begins_constant b ≡ true) × (all_word_bytes bs ≡ true)

-- what stands behind an `@`
abbrev pub IsVariableName : List ℕ → Type 0
IsVariableName [] = ⊥
IsVariableName (b ∷ bs) = (begins_name b ≡ true) × (all_word_bytes bs ≡ true)

-- a number of a type whose least value is -limit
abbrev pub HasWidth : ℕ → ℤ → Type 0
HasWidth limit (pos n) = n < limit
HasWidth limit (negsuc n) = n < limit

abbrev pub IsProper : TokenKind → Type 0
IsProper (k.Ident name) = IsName name
IsProper (k.Constant name) = IsConstantName name
IsProper (k.InstanceVariable name) = IsVariableName name
IsProper (k.Int32 n) = HasWidth (2 ^ 31) n
IsProper (k.Int64 n) = HasWidth (2 ^ 63) n
IsProper (k.Text text) = IsUtf8 text
IsProper (k.TextFirst text) = IsUtf8 text
IsProper (k.TextMiddle text) = IsUtf8 text
IsProper (k.TextLast text) = IsUtf8 text
IsProper (k.Plain _) = Unit {0}

abbrev pub AllProper : List Token → Type 0
AllProper [] = Unit {0}
AllProper (t ∷ ts) = IsProper t.kind × AllProper ts
