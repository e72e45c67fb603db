-- One token after the other.
use Rattle.std.specs.Prelude.{◌≡◌, ◌≢◌, ℕ, ◌+◌, Bool, false, not, ◌&&◌, ◌==◌, List, [], ◌∷◌, ◌++◌, Option, Some, None, Result, Ok, Err}
use Rattle.cr_syntax.specs.declared.fault.LexFault.{LexFault}
use Rattle.cr_syntax.specs.declared.fault.LexFault.TheVariants.{NoMemory}
use Rattle.cr_syntax.specs.declared.token.Token.{Token}
use Rattle.cr_syntax.specs.declared.look.TokenLook.{TokenLook}
use Rattle.cr_syntax.specs.declared.token.TokenKind.{TokenKind}
use Rattle.cr_syntax.specs.declared.token.TokenKind.TheVariants.{Plain}
use Rattle.cr_syntax.specs.Words.{is_digit, begins}
use Rattle.cr_syntax.specs.Lexes.{Before, in_insertion, takes_minus, behind, IsToken, IsEnd}
use Rattle.cr_syntax.specs.Faults.{IsStuck}
use Rattle.cr_lex.specs.declared.lexer.Seen.{Seen}
use Rattle.cr_lex.specs.Longest.{Form, IsLongest, HasNone}
use Rattle.cr_lex.specs.Numbers.{number_form}
use Rattle.cr_lex.specs.Words.{begins_content}

abbrev pub before_of : Seen → Before
before_of seen = record { nesting = seen.nesting.items; last = seen.last }

-- whether what begins with the byte can only be an operator or the end of a line; `more` stands behind it
abbrev pub begins_operator : Before → Bool → ℕ → List ℕ → Bool
begins_operator before spaced b more =
    not (begins_content b) && (not (b == 125 && in_insertion before) && not (b == 45 && (begins is_digit more && takes_minus before spaced)))

-- a number from its first digit on
abbrev pub digit_form : ℕ → Form
digit_form b text after = number_form false (b ∷ text) after

-- an operator as a kind
abbrev pub with_kind : TokenLook × ℕ → TokenKind × ℕ
with_kind found = (Plain found.0, found.1)

abbrev pub form_with_kind : Result (TokenLook × ℕ) LexFault → Result (TokenKind × ℕ) LexFault
form_with_kind (Ok found) = Ok (with_kind found)
form_with_kind (Err e) = Err e

-- A reader found the longest front that has the form, or no front has it and there is this fault.
abbrev pub ReadsForm : Form → List ℕ → LexFault → Result (TokenKind × ℕ) LexFault → Type 0
ReadsForm form bytes f (Ok found) = IsLongest form bytes found.1 found.0
ReadsForm form bytes f (Err e) = e ≢ NoMemory → HasNone form bytes × (e ≡ f)

-- the token that stands next behind `at`
abbrev pub Stands : List ℕ → Before → ℕ → Result Token LexFault → Type 0
Stands source before at (Ok t) = IsToken source before at t
Stands source before at (Err e) = e ≢ NoMemory → IsStuck source before at e

-- the token at `place` of this kind, with so many of its bytes behind the first
abbrev pub token_at : ℕ → Bool → TokenKind → ℕ → Token
token_at place spaced kind n = record { kind = kind; span = record { first = place; past = place + 1 + n }; spaced = spaced }

abbrev pub token_by : ℕ → Bool → Result (TokenKind × ℕ) LexFault → Result Token LexFault
token_by place spaced (Ok found) = Ok (token_at place spaced found.0 found.1)
token_by place spaced (Err e) = Err e

-- what one more token changes: what the tokens before leave, and the tokens so far
pub record Adds (before : Before) (found : List Token) (after : Before) (found' : List Token) (t : Token) : Type 0 where
  pub before_is : after ≡ behind before t
  pub found_is : found' ≡ found ++ t ∷ []

abbrev pub Turns : List ℕ → Before → ℕ → List Token → Result (Option ℕ) LexFault → Before → List Token → Type 0
Turns source before at found (Ok None) after found' = (t : Token) × IsEnd source before at t × (found' ≡ found ++ t ∷ [])
Turns source before at found (Ok (Some past)) after found' = (t : Token) × IsToken source before at t × (past ≡ t.span.past) × Adds before found after found' t
Turns source before at found (Err e) after found' = e ≢ NoMemory → IsStuck source before at e
