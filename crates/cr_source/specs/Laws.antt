-- What is claimed of refusals.
use Rattle.std.specs.Prelude.{◌≡◌, ◌⊎◌, ℕ, List}
use Rattle.cr_syntax.specs.declared.fault.LexFault.{LexFault}
use Rattle.cr_syntax.specs.Faults.{lex_fault}
use Rattle.cr_grammar.specs.declared.tree.Tree.{Tree}
use Rattle.cr_source.specs.declared.fault.Code.{Code}
use Rattle.cr_source.specs.Source.{IsSource, IsRefused, lexical, refused}

-- A program within the limits is not refused.
abbrev pub NeverProgramAndRefusal : Type 0
NeverProgramAndRefusal = (source : List ℕ) (x : Tree) (code : Code) (at : ℕ) → IsSource source x → IsRefused source code at → ⊥

-- A source without tokens is refused for their fault.
abbrev pub FaultOfTokensComes : Type 0
FaultOfTokensComes = (source : List ℕ) (f : LexFault) (code : Code) (at : ℕ) → lex_fault source f → IsRefused source code at → refused code at ≡ lexical f

-- A source is a program of one tree at most.
abbrev pub AtMostOneSource : Type 0
AtMostOneSource = (source : List ℕ) (x y : Tree) → IsSource source x → IsSource source y → x ≡ y

-- Each source has an answer: it is a program within the limits, or it is refused.
abbrev pub EachSourceIsAnswered : Type 0
EachSourceIsAnswered = (source : List ℕ) → ((x : Tree) × IsSource source x) ⊎ ((code : Code) × (at : ℕ) × IsRefused source code at)
