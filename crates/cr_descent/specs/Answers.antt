-- What a call that reads a construct at a place answers, in the words of the grammar.
use Rattle.std.specs.Prelude.{ℕ, ◌+◌, Result, Ok, Err}
use Rattle.cr_grammar.specs.Count.{nodes}
use Rattle.cr_grammar.specs.declared.tree.Tree.{Tree}
use Rattle.cr_grammar.specs.declared.wanted.Wanted.{Wanted}
use Rattle.cr_readers.specs.declared.fault.ParseFault.{ParseFault}
use Rattle.cr_readers.specs.declared.fault.ParseFault.TheVariants.{Unexpected, TooDeep, TooManyNodes, NoMemory}
use Rattle.cr_readers.specs.Reader.{State, max_nesting, max_nodes}
use Rattle.cr_readers.specs.Reads.{Reads}
use Rattle.cr_readers.specs.Descent.{read}
use Rattle.cr_descent.specs.Laws.{IsFirstUnexpected, IsLongest}
use Rattle.cr_descent.specs.LimitLaws.{IsLimited, IsCounted, HasNoWay, height_with}

-- Ok with what the longest front spells, its nodes and nesting counted; Unexpected at the first token with which nothing spelled begins;
-- TooDeep and TooManyNodes where nothing goes on within the limit. Of want of memory nothing is said.
abbrev pub Answers : Wanted → State → Result Tree ParseFault → State → Type 0
Answers wanted s (Ok x) s' = IsLongest wanted s.rest x s'.rest × IsCounted wanted s s' x
Answers wanted s (Err (Unexpected place)) s' = IsFirstUnexpected wanted s.rest place
Answers wanted s (Err (TooDeep place)) s' = HasNoWay wanted max_nesting (λ y. s.depth + height_with wanted s.height y) s.rest place
Answers wanted s (Err (TooManyNodes place)) s' = HasNoWay wanted max_nodes (λ y. s.nodes + nodes y) s.rest place
Answers wanted s (Err NoMemory) s' = Unit {0}

-- Whatever comes out as the reader of a construct does, within the limits, answers so.
abbrev pub ReadersAnswer : Type 0
ReadersAnswer = (turns n : ℕ) (wanted : Wanted) (s s' : State) (r : Result Tree ParseFault) → IsLimited wanted s → Reads (read turns n wanted s) r s' → Answers wanted s r s'
