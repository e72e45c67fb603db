-- A source is a program or refused, and by the fault of its tokens where it has none.
use Rattle.std.proofs.Common.{◌≡◌, ℕ, List, Result, Ok, Err, inl, inr, refl, sym, ap, subst}
use Rattle.cr_syntax.specs.declared.token.Token.{Token}
use Rattle.cr_syntax.specs.declared.fault.LexFault.{LexFault}
use Rattle.cr_syntax.specs.declared.fault.LexFault.TheVariants as lex
use Rattle.cr_syntax.specs.Faults.{lex_fault}
use Rattle.cr_syntax.specs.Lexes.{Lexes}
use Rattle.cr_syntax.specs.Laws.{AtMostOneList, AtMostOneFault, NeverBoth}
use Rattle.cr_grammar.specs.declared.tree.Tree.{Tree}
use Rattle.cr_readers.specs.declared.fault.ParseFault.{ParseFault}
use Rattle.cr_readers.specs.declared.fault.ParseFault.TheVariants as parse
use Rattle.cr_grammar.specs.declared.wanted.Wanted.TheVariants.{Program}
use Rattle.cr_descent.specs.Laws.{AtMostOneTree}
use Rattle.cr_descent.specs.Programs.{AnswersProgram, ProgramIsAccepted}
use Rattle.cr_grammar.specs.Grammar.{Spells}
use Rattle.cr_source.specs.declared.fault.Code.{Code}
use Rattle.cr_source.specs.declared.fault.Code.TheVariants as code
use Rattle.cr_source.specs.declared.fault.SourceFault.{SourceFault}
use Rattle.cr_source.specs.declared.fault.SourceFault.TheVariants.{Refused, NoMemory}
use Rattle.cr_source.specs.Source.{Answers, IsFault, IsOnly, IsSource, HasTokens, IsRefused, lexical, refused}
use Rattle.cr_source.specs.Laws.{AtMostOneSource, NeverProgramAndRefusal, FaultOfTokensComes}

-- a program is not refused for its tokens
no_fault : NeverBoth → (source : List ℕ) (x : Tree) (f : LexFault) → IsSource source x → lex_fault source f → ⊥
no_fault never source x f is fault = never source is.tokens f is.lexed fault

-- the tokens of a program answer with nothing else
not_answered : AtMostOneList → ProgramIsAccepted → (source : List ℕ) (x : Tree) (e : ParseFault) → IsSource source x → HasTokens source (λ tokens. AnswersProgram tokens (Err e)) → e ≡ parse.NoMemory
not_answered one accepted source x e is has =
    let same : has.tokens ≡ is.tokens = one source has.tokens is.tokens has.lexed is.lexed in
    accepted is.tokens x (Err e) (subst (λ (list : List Token). AnswersProgram list (Err e)) same has.holds) is.program

pub never_both : AtMostOneList → NeverBoth → ProgramIsAccepted → NeverProgramAndRefusal
never_both one never accepted source x code.NotUtf8 at is broken = no_fault never source x (lex.NotUtf8 at) is broken
never_both one never accepted source x code.BadByte at is broken = no_fault never source x (lex.BadByte at) is broken
never_both one never accepted source x code.OpenString at is broken = no_fault never source x (lex.OpenString at) is broken
never_both one never accepted source x code.BadEscape at is broken = no_fault never source x (lex.BadEscape at) is broken
never_both one never accepted source x code.BadNumber at is broken = no_fault never source x (lex.BadNumber at) is broken
never_both one never accepted source x code.Unexpected at is broken =
    let e = not_answered one accepted source x (parse.Unexpected at) is (record { tokens = broken.tokens; lexed = broken.lexed; holds = broken.holds }) in cc
never_both one never accepted source x code.TooDeep at is broken =
    let e = not_answered one accepted source x (parse.TooDeep at) is (record { tokens = broken.tokens; lexed = broken.lexed; holds = broken.holds }) in cc
never_both one never accepted source x code.TooManyNodes at is broken =
    let e = not_answered one accepted source x (parse.TooManyNodes at) is (record { tokens = broken.tokens; lexed = broken.lexed; holds = broken.holds }) in cc

pub fault_comes : AtMostOneFault → NeverBoth → FaultOfTokensComes
fault_comes one never source f code.NotUtf8 at fault is = sym (ap lexical (one source f (lex.NotUtf8 at) fault is))
fault_comes one never source f code.BadByte at fault is = sym (ap lexical (one source f (lex.BadByte at) fault is))
fault_comes one never source f code.OpenString at fault is = sym (ap lexical (one source f (lex.OpenString at) fault is))
fault_comes one never source f code.BadEscape at fault is = sym (ap lexical (one source f (lex.BadEscape at) fault is))
fault_comes one never source f code.BadNumber at fault is = sym (ap lexical (one source f (lex.BadNumber at) fault is))
fault_comes one never source f code.Unexpected at fault is = absurd (never source is.tokens f is.lexed fault)
fault_comes one never source f code.TooDeep at fault is = absurd (never source is.tokens f is.lexed fault)
fault_comes one never source f code.TooManyNodes at fault is = absurd (never source is.tokens f is.lexed fault)

pub one_source : AtMostOneList → AtMostOneTree → AtMostOneSource
one_source one tree source x y is other =
    let same : other.tokens ≡ is.tokens = one source other.tokens is.tokens other.lexed is.lexed in
    tree Program is.tokens x y is.program.spelled (subst (λ (list : List Token). Spells Program list y) same other.program.spelled)

-- ---- what an answer is

pub accepted_by : AtMostOneSource → NeverProgramAndRefusal → (source : List ℕ) (r : Result Tree SourceFault) → Answers source r → (x : Tree) → IsSource source x → IsOnly x r
accepted_by one never source (Ok y) is x program = one source y x is program
accepted_by one never source (Err (Refused refusal)) is x program = absurd (never source x refusal.code refusal.at program is)
accepted_by one never source (Err NoMemory) is x program = refl

pub lexical_by : FaultOfTokensComes → NeverBoth → (source : List ℕ) (r : Result Tree SourceFault) → Answers source r → (f : LexFault) → lex_fault source f → IsFault (lexical f) r
lexical_by comes never source (Ok y) is f fault = absurd (never source is.tokens f is.lexed fault)
lexical_by comes never source (Err (Refused refusal)) is f fault = inl (comes source f refusal.code refusal.at fault is)
lexical_by comes never source (Err NoMemory) is f fault = inr refl
