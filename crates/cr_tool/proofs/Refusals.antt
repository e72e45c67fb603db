-- What a source is refused for.
use Rattle.std.proofs.Common.{◌≡◌, ◌⊎◌, ℕ, List, Option, None, Some, ap, inl, inr}
use Rattle.cr_syntax.specs.declared.fault.LexFault.{LexFault}
use Rattle.cr_syntax.specs.Faults.{lex_fault}
use Rattle.cr_syntax.specs.Laws.{NeverBoth}
use Rattle.cr_grammar.specs.declared.tree.Tree.{Tree}
use Rattle.cr_source.specs.Laws.{EachSourceIsAnswered, FaultOfTokensComes, NeverProgramAndRefusal}
use Rattle.cr_source.specs.Source.{IsSource, lexical}
use Rattle.cr_tool.specs.declared.ending.Code.{Code}
use Rattle.cr_tool.specs.declared.ending.Code.TheVariants.{Source, NotBuilt}
use Rattle.cr_tool.specs.declared.ending.Ending.TheVariants as ending
use Rattle.cr_tool.specs.declared.ending.Refusal.{Refusal}
use Rattle.cr_tool.specs.Sums.{IsUnbuilt}
use Rattle.cr_tool.specs.Refusals.{Demand, nothing, list_of_sums, Takes, MayRefuse, Lacks, Breaks, HasRefusal, RefusalsAreExact, no_program, unbuilt}
use Rattle.cr_tool.proofs.Deciding.{taken_or_not}
use Rattle.cr_tool.proofs.Exactness.{one_place}
use Rattle.cr_tool.proofs.Lines.{not_both}

-- a source that is no list of sums is refused as the front answers it, and as not built where that is its tree
refused_as_answered : EachSourceIsAnswered → (bytes : List ℕ) (at : ℕ) → IsUnbuilt bytes at → (refusal : Refusal) × HasRefusal list_of_sums bytes refusal
refused_as_answered answered bytes at none = elim (answered bytes) [
  | inl program ↦ (record { code = NotBuilt; at = Some at }, record { may = (at, none); breaks = (none, program) })
  | inr fault ↦ (record { code = Source fault.0; at = Some fault.1 }, record { may = (at, none); breaks = fault.2 })
]

taken_or_refused : EachSourceIsAnswered → (demand : Demand) (bytes : List ℕ) → Takes demand bytes ⊎ ((refusal : Refusal) × HasRefusal demand bytes refusal)
taken_or_refused answered nothing bytes = elim (answered bytes) [
  | inl program ↦ inl program
  | inr fault ↦ inr (record { code = Source fault.0; at = Some fault.1 }, record { may = tt; breaks = fault.2 })
]
taken_or_refused answered list_of_sums bytes = elim (taken_or_not bytes) [
  | inl taken ↦ inl taken
  | inr none ↦ inr (refused_as_answered answered bytes none.0 none.1)
]

-- what is taken is not refused
for_nothing : NeverProgramAndRefusal → (demand : Demand) (bytes : List ℕ) (code : Code) (at : Option ℕ) → MayRefuse demand bytes → Breaks demand bytes code at → Takes demand bytes → ⊥
for_nothing never nothing bytes (Source code) (Some at) may breaks takes = never bytes takes.0 code at takes.1 breaks
for_nothing never nothing bytes (Source code) None may breaks takes = breaks
for_nothing never nothing bytes NotBuilt (Some at) may breaks takes = breaks.0
for_nothing never nothing bytes NotBuilt None may breaks takes = breaks
for_nothing never list_of_sums bytes code at may breaks takes = not_both bytes takes.0 may.0 takes.1 may.1

for_tokens : FaultOfTokensComes → NeverBoth → (demand : Demand) (bytes : List ℕ) (code : Code) (at : Option ℕ) (f : LexFault) → Breaks demand bytes code at → lex_fault bytes f
    → ending.Refused (record { code = code; at = at }) ≡ no_program (lexical f)
for_tokens comes never demand bytes (Source code) (Some at) f breaks fault = ap no_program (comes bytes f code at fault breaks)
for_tokens comes never demand bytes (Source code) None f breaks fault = absurd breaks
for_tokens comes never demand bytes NotBuilt (Some at) f breaks fault = absurd (never bytes breaks.1.1.tokens f breaks.1.1.lexed fault)
for_tokens comes never demand bytes NotBuilt None f breaks fault = absurd breaks

one_lack : (demand : Demand) (bytes : List ℕ) (p q : ℕ) → Lacks demand bytes p → Lacks demand bytes q → p ≡ q
one_lack nothing bytes p q one two = absurd one
one_lack list_of_sums bytes p q one two = one_place bytes p q one two

for_program : NeverProgramAndRefusal → (demand : Demand) (bytes : List ℕ) (place : ℕ) (code : Code) (at : Option ℕ) (x : Tree) → Breaks demand bytes code at → Lacks demand bytes place → IsSource bytes x
    → ending.Refused (record { code = code; at = at }) ≡ unbuilt place
for_program never demand bytes place (Source code) (Some at) x breaks lacks program = absurd (never bytes x code at program breaks)
for_program never demand bytes place (Source code) None x breaks lacks program = absurd breaks
for_program never demand bytes place NotBuilt (Some at) x breaks lacks program = ap unbuilt (one_lack demand bytes at place breaks.0 lacks)
for_program never demand bytes place NotBuilt None x breaks lacks program = absurd breaks

pub refusals_are_exact : EachSourceIsAnswered → FaultOfTokensComes → NeverProgramAndRefusal → NeverBoth → RefusalsAreExact
refusals_are_exact answered comes never both = record {
  either = taken_or_refused answered;
  never_both = λ demand bytes refusal is takes. for_nothing never demand bytes refusal.code refusal.at is.may is.breaks takes;
  tokens = λ demand bytes refusal f is fault. for_tokens comes both demand bytes refusal.code refusal.at f is.breaks fault;
  program = λ demand bytes refusal at x is lacks program. for_program never demand bytes at refusal.code refusal.at x is.breaks lacks program;
  no_fault = λ bytes f x is fault. both bytes is.tokens f is.lexed fault;
}
