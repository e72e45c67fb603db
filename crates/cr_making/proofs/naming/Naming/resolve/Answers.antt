use Rattle.std.proofs.Common.{◌-◌, arith}
use Rattle.cr_making.proofs.Found.{found_at, missing_at, read_at}
use Rattle.cr_making.proofs.naming.Naming.resolve.Goals as goal

pub loop-up-preserved : goal.loop-up-preserved
loop-up-preserved c =
    let os = c.args.self.now.around.items in
    missing_at c.args.name os c.len-count.result c.loop-up.up c.in-Some-get.open.now c.find-in-loop-up.result
    (omega (arith, c.args.self.now.around.ok.0, c.len-count.ensures)) c.loop-up-test.true
    (read_at c.deref.result.now os (c.len-count.result - 1 - c.loop-up.up) c.in-Some-get.open.now c.deref.ensures.value (omega (arith, c.args.self.now.around.ok.0, c.len-count.ensures)) c.in-Some-get.ensures.lookup.1)
    c.loop-up.invariant c.find-in-loop-up.ensures c.in_default-find.is

pub returns-in-Some-find : goal.returns-in-Some-find
returns-in-Some-find c =
    let os = c.args.self.now.around.items in
    found_at c.args.name os c.args.self.now.inner c.len-count.result c.loop-up.up c.in_ok-short.field-0 c.in-Some-find.slot c.in-Some-get.open.now c.find.result c.find-in-loop-up.result
    (omega (arith, c.args.self.now.around.ok.0, c.len-count.ensures)) c.loop-up-test.true
    (read_at c.deref.result.now os (c.len-count.result - 1 - c.loop-up.up) c.in-Some-get.open.now c.deref.ensures.value (omega (arith, c.args.self.now.around.ok.0, c.len-count.ensures)) c.in-Some-get.ensures.lookup.1)
    c.find.ensures c.in_default.is c.loop-up.invariant c.find-in-loop-up.ensures c.in-Some-find.is c.in_ok-short.ensures
