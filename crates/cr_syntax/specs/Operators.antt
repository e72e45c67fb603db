-- The operators, and the ends of lines.
use Rattle.std.specs.Prelude.{ℕ, List, map, Option}
use Rattle.std.specs.Option.{option_map}
use Rattle.std.specs.Str.{bytes_eq}
use Rattle.std.specs.Map.{lookup}
use Rattle.cr_syntax.specs.declared.look.TokenLook.{TokenLook}
use Rattle.cr_syntax.specs.declared.token.TokenKind.{TokenKind}
use Rattle.cr_syntax.specs.declared.token.TokenKind.TheVariants as k
use Rattle.cr_syntax.specs.declared.vocabulary.TheConstants.{OPERATORS}

abbrev pub operators : List (List ℕ × TokenLook)
operators = map (λ o. (o.0.now, o.1)) OPERATORS

-- the look of the operator that the text is, if any
abbrev pub operator_look : List ℕ → Option TokenLook
operator_look text = lookup (bytes_eq text) operators

abbrev pub operator_of : List ℕ → Option TokenKind
operator_of text = option_map k.Plain (operator_look text)
