-- What is said of tokens and faults: each source has one list of tokens or one fault.
use Rattle.std.specs.Prelude.{◌≡◌, ℕ, List, ◌⊎◌}
use Rattle.cr_syntax.specs.declared.fault.LexFault.{LexFault}
use Rattle.cr_syntax.specs.declared.token.Token.{Token}
use Rattle.cr_syntax.specs.Lexes.{Lexes}
use Rattle.cr_syntax.specs.Faults.{lex_fault}

abbrev pub AtMostOneList : Type 0
AtMostOneList = (source : List ℕ) (ts us : List Token) → Lexes source ts → Lexes source us → ts ≡ us

abbrev pub AtMostOneFault : Type 0
AtMostOneFault = (source : List ℕ) (f g : LexFault) → lex_fault source f → lex_fault source g → f ≡ g

abbrev pub NeverBoth : Type 0
NeverBoth = (source : List ℕ) (ts : List Token) (f : LexFault) → Lexes source ts → lex_fault source f → ⊥

abbrev pub AlwaysOne : Type 0
AlwaysOne = (source : List ℕ) → ((ts : List Token) × Lexes source ts) ⊎ ((f : LexFault) × lex_fault source f)
