-- What comes out as a reader does answers in the words of the grammar.
use Rattle.std.specs.Prelude.{Ok, Err}
use Rattle.cr_readers.specs.declared.fault.ParseFault.TheVariants.{Unexpected, TooDeep, TooManyNodes, NoMemory}
use Rattle.cr_descent.specs.Answers.{ReadersAnswer}
use Rattle.cr_descent.proofs.Consequences as consequences
use Rattle.cr_descent.proofs.LimitKnot as knot

pub readers_answer : ReadersAnswer
readers_answer turns n wanted s s' (Ok x) limited reads = (consequences.longest_front turns n wanted s s' x reads, knot.found_is_counted turns n wanted s s' x limited reads)
readers_answer turns n wanted s s' (Err (Unexpected place)) limited reads = consequences.first_unexpected turns n wanted s s' place (reads (λ e. cc))
readers_answer turns n wanted s s' (Err (TooDeep place)) limited reads = knot.too_deep_has_no_way turns n wanted s s' place limited (reads (λ e. cc))
readers_answer turns n wanted s s' (Err (TooManyNodes place)) limited reads = knot.too_many_has_no_way turns n wanted s s' place limited (reads (λ e. cc))
readers_answer turns n wanted s s' (Err NoMemory) limited reads = tt
