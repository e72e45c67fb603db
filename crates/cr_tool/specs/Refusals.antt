-- The first refusal of a source, for every command.
use Rattle.std.specs.Prelude.{◌≡◌, ◌⊎◌, ℕ, List, Option, None, Some}
use Rattle.cr_syntax.specs.declared.fault.LexFault.{LexFault}
use Rattle.cr_syntax.specs.Faults.{lex_fault}
use Rattle.cr_grammar.specs.declared.tree.Tree.{Tree}
use Rattle.cr_source.specs.declared.fault.Code.{Code as SourceCode}
use Rattle.cr_source.specs.declared.fault.SourceFault.{SourceFault}
use Rattle.cr_source.specs.declared.fault.SourceFault.TheVariants as front
use Rattle.cr_source.specs.Source.{IsRefused, IsSource, lexical}
use Rattle.cr_tool.specs.declared.ending.Ending.{Ending}
use Rattle.cr_tool.specs.declared.ending.Ending.TheVariants as ending
use Rattle.cr_tool.specs.declared.ending.Code.{Code}
use Rattle.cr_tool.specs.declared.ending.Code.TheVariants.{Source, NotBuilt}
use Rattle.cr_tool.specs.declared.ending.Refusal.{Refusal}
use Rattle.cr_tool.specs.declared.sums.Line.{Line}
use Rattle.cr_tool.specs.Sums.{Spells, IsUnbuilt}

-- What a command asks of a source beyond being a program.
pub data Demand : Type 0 where
  nothing : Demand
  list_of_sums : Demand

-- what the command takes
abbrev pub Takes : Demand → List ℕ → Type 0
Takes nothing bytes = (x : Tree) × IsSource bytes x
Takes list_of_sums bytes = (lines : List Line) × Spells bytes lines

-- What the command may refuse: any source; or one that is no list of sums, which is looked for first.
abbrev pub MayRefuse : Demand → List ℕ → Type 0
MayRefuse nothing bytes = Unit {0}
MayRefuse list_of_sums bytes = (at : ℕ) × IsUnbuilt bytes at

-- where a program lacks what is asked beyond that
abbrev pub Lacks : Demand → List ℕ → ℕ → Type 0
Lacks nothing bytes at = ⊥
Lacks list_of_sums bytes at = IsUnbuilt bytes at

-- Why a source is refused at a place: for the first fault of its tokens, or of its grammar where it has tokens; or, where it is a program,
-- for what it lacks.
abbrev pub Breaks : Demand → List ℕ → Code → Option ℕ → Type 0
Breaks demand bytes (Source code) (Some at) = IsRefused bytes code at
Breaks demand bytes NotBuilt (Some at) = Lacks demand bytes at × ((x : Tree) × IsSource bytes x)
Breaks demand bytes code None = ⊥

-- The command refuses the source so.
pub record HasRefusal (demand : Demand) (bytes : List ℕ) (refusal : Refusal) : Type 0 where
  pub may : MayRefuse demand bytes
  pub breaks : Breaks demand bytes refusal.code refusal.at

-- ---- the endings

-- the ending of a source that is no program
abbrev pub refused : SourceCode → ℕ → Ending
refused code place = ending.Refused (record { code = Source code; at = Some place })

-- the ending of a program that is not taken yet
abbrev pub unbuilt : ℕ → Ending
unbuilt place = ending.Refused (record { code = NotBuilt; at = Some place })

-- the ending of a source that has no tree
abbrev pub no_program : SourceFault → Ending
no_program (front.Refused refusal) = refused refusal.code refusal.at
no_program front.NoMemory = ending.NoMemory

-- ---- what is claimed of refusals

-- Whatever the command asks: each source is taken or refused, and never both; what is
-- refused is refused for the fault of its tokens, where they have one, which no program has, and for what it lacks, where it is a program.
pub record RefusalsAreExact : Type 0 where
  pub either : (demand : Demand) (bytes : List ℕ) → Takes demand bytes ⊎ ((refusal : Refusal) × HasRefusal demand bytes refusal)
  pub never_both : (demand : Demand) (bytes : List ℕ) (refusal : Refusal) → HasRefusal demand bytes refusal → Takes demand bytes → ⊥
  pub tokens : (demand : Demand) (bytes : List ℕ) (refusal : Refusal) (f : LexFault) → HasRefusal demand bytes refusal → lex_fault bytes f → ending.Refused refusal ≡ no_program (lexical f)
  pub program : (demand : Demand) (bytes : List ℕ) (refusal : Refusal) (at : ℕ) (x : Tree) → HasRefusal demand bytes refusal → Lacks demand bytes at → IsSource bytes x → ending.Refused refusal ≡ unbuilt at
  pub no_fault : (bytes : List ℕ) (f : LexFault) (x : Tree) → IsSource bytes x → lex_fault bytes f → ⊥
