use Rattle.cr_io.proofs.ReadLemmas.{drop-front}
use Rattle.cr_io.proofs.memory_source.MemorySourceSource.read.Goals as goal

pub returns-then-not-is_empty-2-clause-rest : goal.returns-then-not-is_empty-2-clause-rest
returns-then-not-is_empty-2-clause-rest c =
    drop-front c.args.buf.now c.read.new.buf c.in_ok-count.count c.min-most.result c.read.auto.buf c.in_ok-count.ensures.within c.in_ok-count.ensures.rest
