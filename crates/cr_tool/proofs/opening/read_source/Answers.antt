use Rattle.cr_tool.specs.Outside.{reading}
use Rattle.cr_tool.proofs.Closings.{closed_fault, closed_memory, closed_long}
use Rattle.cr_tool.proofs.opening.read_source.Goals as goal

pub returns-in-Err-Fault : goal.returns-in-Err-Fault
returns-in-Err-Fault g c =
    closed_fault (reading g.S.Source c.args.source.now c.read_all.new.source) c.new.result c.new.ensures.ending (c.read_all.ensures.fault (cc (c.in-Err-Fault.is, c.in-Err-Fault.field-0-is)))

pub returns-in-Err-TooLong : goal.returns-in-Err-TooLong
returns-in-Err-TooLong g c =
    closed_long (reading g.S.Source c.args.source.now c.read_all.new.source) c.new-in-Err-TooLong.result c.new-in-Err-TooLong.ensures.ending (c.read_all.ensures.too_long (cc (c.in-Err-TooLong.is, c.in-Err-TooLong.field-0-is)))
    (c.read_all.ensures.steady (λ fault. let never : ⊥ = cc (c.in-Err-TooLong.is, c.in-Err-TooLong.field-0-is, fault) in never))

pub returns-in-Err-NoMemory : goal.returns-in-Err-NoMemory
returns-in-Err-NoMemory g c =
    closed_memory (reading g.S.Source c.args.source.now c.read_all.new.source) c.new-in-Err-NoMemory.result c.new-in-Err-NoMemory.ensures.ending
    (c.read_all.ensures.steady (λ fault. let never : ⊥ = cc (c.in-Err-NoMemory.is, c.in-Err-NoMemory.field-0-is, fault) in never))
