-- The spelling of each keyword and operator, written out apart from the tables of the code.
use Rattle.std.specs.Prelude.{◌≡◌, ℕ, List, [], ◌∷◌, ◌++◌, length, map, codes, Option, Some}
use Rattle.cr_syntax.specs.declared.look.TokenLook.{TokenLook}
use Rattle.cr_syntax.specs.declared.look.TokenLook.TheVariants as l
use Rattle.cr_syntax.specs.Words.{keywords, keyword_of}
use Rattle.cr_syntax.specs.Operators.{operators, operator_look}

abbrev pub keyword_spellings : List (List ℕ × TokenLook)
keyword_spellings =
    (codes "break", l.Break) ∷ (codes "case", l.Case) ∷ (codes "class", l.Class) ∷ (codes "def", l.Def) ∷
    (codes "do", l.Do) ∷ (codes "else", l.Else) ∷ (codes "elsif", l.Elsif) ∷ (codes "end", l.KeywordEnd) ∷
    (codes "false", l.False) ∷ (codes "getter", l.Getter) ∷ (codes "if", l.If) ∷ (codes "in", l.In) ∷
    (codes "include", l.Include) ∷ (codes "is_a?", l.IsA) ∷ (codes "module", l.Module) ∷ (codes "next", l.Next) ∷
    (codes "nil", l.Nil) ∷ (codes "nil?", l.IsNil) ∷ (codes "of", l.Of) ∷ (codes "property", l.Property) ∷
    (codes "return", l.Return) ∷ (codes "select", l.Select) ∷ (codes "self", l.KeywordSelf) ∷ (codes "spawn", l.Spawn) ∷
    (codes "super", l.Super) ∷ (codes "then", l.Then) ∷ (codes "true", l.True) ∷ (codes "unless", l.Unless) ∷
    (codes "until", l.Until) ∷ (codes "when", l.When) ∷ (codes "while", l.While) ∷ (codes "yield", l.Yield) ∷ []

abbrev pub reserved_spellings : List (List ℕ × TokenLook)
reserved_spellings =
    (codes "abstract", l.Abstract) ∷ (codes "alias", l.Alias) ∷ (codes "annotation", l.Annotation) ∷ (codes "as", l.As) ∷
    (codes "asm", l.Asm) ∷ (codes "begin", l.Begin) ∷ (codes "ensure", l.Ensure) ∷ (codes "enum", l.Enum) ∷
    (codes "extend", l.Extend) ∷ (codes "fun", l.Fun) ∷ (codes "lib", l.Lib) ∷ (codes "loop", l.Loop) ∷
    (codes "macro", l.Macro) ∷ (codes "out", l.Out) ∷ (codes "private", l.Private) ∷ (codes "protected", l.Protected) ∷
    (codes "require", l.Require) ∷ (codes "rescue", l.Rescue) ∷ (codes "struct", l.Struct) ∷ (codes "typeof", l.Typeof) ∷
    (codes "union", l.Union) ∷ (codes "with", l.With) ∷ []

-- a line feed and `;` end a line
abbrev pub operator_spellings : List (List ℕ × TokenLook)
operator_spellings =
    (codes "+", l.Plus) ∷ (codes "-", l.Minus) ∷ (codes "*", l.Star) ∷ (codes "//", l.SlashSlash) ∷ (codes "%", l.Percent) ∷
    (codes "&+", l.WrappingPlus) ∷ (codes "&-", l.WrappingMinus) ∷ (codes "&*", l.WrappingStar) ∷ (codes "==", l.EqualEqual) ∷ (codes "!=", l.NotEqual) ∷
    (codes "<", l.Less) ∷ (codes "<=", l.LessEqual) ∷ (codes ">", l.Greater) ∷ (codes ">=", l.GreaterEqual) ∷ (codes "<<", l.ShiftLeft) ∷
    (codes "&&", l.AndAnd) ∷ (codes "||", l.OrOr) ∷ (codes "!", l.Bang) ∷ (codes "=", l.Equal) ∷ (codes "+=", l.PlusEqual) ∷
    (codes "-=", l.MinusEqual) ∷ (codes "*=", l.StarEqual) ∷ (codes "//=", l.SlashSlashEqual) ∷ (codes "%=", l.PercentEqual) ∷ (codes "||=", l.OrOrEqual) ∷
    (codes "(", l.OpenParenthesis) ∷ (codes ")", l.CloseParenthesis) ∷ (codes "[", l.OpenBracket) ∷ (codes "]", l.CloseBracket) ∷ (codes "{", l.OpenBrace) ∷
    (codes "}", l.CloseBrace) ∷ (codes ",", l.Comma) ∷ (codes ".", l.Dot) ∷ (codes ":", l.Colon) ∷ (codes "::", l.ColonColon) ∷
    (codes "=>", l.Arrow) ∷ (codes "|", l.Pipe) ∷ (codes "?", l.Question) ∷ (10 ∷ [], l.Newline) ∷ (codes ";", l.Newline) ∷ []

-- Each text has its look, and the table has no more entries: as the texts are distinct, it has no others.
abbrev pub AreSpelled : List (List ℕ × TokenLook) → List (List ℕ × TokenLook) → (List ℕ → Option TokenLook) → Type 0
AreSpelled table spellings look = (map (λ s. look s.0) spellings ≡ map (λ s. Some s.1) spellings) × (length table ≡ length spellings)

abbrev pub KeywordsAreSpelled : Type 0
KeywordsAreSpelled = AreSpelled keywords (keyword_spellings ++ reserved_spellings) keyword_of

abbrev pub OperatorsAreSpelled : Type 0
OperatorsAreSpelled = AreSpelled operators operator_spellings operator_look
