use Rattle.cr_meaning.specs.Act.{gives}
use Rattle.cr_heap.proofs.heap.Heap.give.Goals as goal

pub returns-in-Some-clause-ok : goal.returns-in-Some-clause-ok
returns-in-Some-clause-ok c = λ s e. rw c.in-Some.is at (c.in_ok-made.ensures.ok s gives e)

pub returns-in-None-clause-ok : goal.returns-in-None-clause-ok
returns-in-None-clause-ok c = λ s e. rw c.in-None.is at (c.in_ok-made.ensures.ok s gives e)
