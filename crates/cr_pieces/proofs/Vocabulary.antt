-- What every keyword and operator has: how it is written begins no blank and no comment, is ASCII, and is its own.
use Rattle.std.proofs.Common.{◌≡◌, ℕ, Bool, true, false, List, [], ◌∷◌, Some, refl}
use Rattle.cr_syntax.specs.declared.look.TokenLook.{TokenLook}
use Rattle.cr_syntax.specs.declared.look.TokenLook.TheVariants as l
use Rattle.cr_syntax.specs.declared.token.TokenKind.TheVariants as k
use Rattle.cr_syntax.specs.Words.{begins_name, is_word_end, word_of}
use Rattle.cr_syntax.specs.Operators.{operator_look}
use Rattle.cr_lex.specs.Words.{begins_content}
use Rattle.cr_pieces.specs.Pieces.{spelling}
use Rattle.cr_pieces.specs.Fits.{is_newline_look}
use Rattle.cr_pieces.specs.Bytes.{is_gap, ends_line, ascii}

abbrev pub KnownBy : Bool → ℕ → List ℕ → TokenLook → Type 0
KnownBy true b bs look = (is_word_end bs [] ≡ true) × (word_of (b ∷ bs) ≡ k.Plain look)
KnownBy false b bs look = (begins_content b ≡ false) × (operator_look (b ∷ bs) ≡ Some look)

abbrev pub Known : List ℕ → TokenLook → Type 0
Known [] found = Unit {0}
Known (b ∷ bs) found = (is_gap b ≡ false) × (ascii (b ∷ bs) ≡ true) × (ends_line (b ∷ bs) ≡ is_newline_look found) × KnownBy (begins_name b) b bs found

pub known : (look : TokenLook) → Known (spelling look) look
known l.End = tt
known l.Ident = tt
known l.Constant = tt
known l.InstanceVariable = tt
known l.Int32 = tt
known l.Int64 = tt
known l.Text = tt
known l.TextFirst = tt
known l.TextMiddle = tt
known l.TextLast = tt
known other = (refl, refl, refl, (refl, refl))
