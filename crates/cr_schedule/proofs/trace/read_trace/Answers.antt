use Rattle.std.proofs.Common.{◌≡◌, ◌+◌, false, true, eqb, length}
use Rattle.cr_schedule.proofs.Traces.{bad_here, whole_here, line_more, same_history, same_bad_line, not_both}
use Rattle.cr_schedule.proofs.trace.read_trace.Goals as goal

pub returns-in_default-clause-read : goal.returns-in_default-clause-read
returns-in_default-clause-read c =
    let more : eqb (length c.loop-rest.rest.now) 0 ≡ false = cc in
    let bad = bad_here c.args.bytes.now c.loop-rest.history.entries c.loop-rest.rest.now c.length.result c.loop-rest.invariant.0 c.loop-rest.invariant.1 more c.in_default.ensures.none c.length.ensures.length in
    λ entries is. not_both c.args.bytes.now entries (c.length.result + 1) is bad

pub returns-in_default-clause-refused : goal.returns-in_default-clause-refused
returns-in_default-clause-refused c =
    let more : eqb (length c.loop-rest.rest.now) 0 ≡ false = cc in
    let bad = bad_here c.args.bytes.now c.loop-rest.history.entries c.loop-rest.rest.now c.length.result c.loop-rest.invariant.0 c.loop-rest.invariant.1 more c.in_default.ensures.none c.length.ensures.length in
    λ number is. same_bad_line c.args.bytes.now (c.length.result + 1) number bad is

pub loop-rest-preserved : goal.loop-rest-preserved
loop-rest-preserved c =
    line_more c.args.bytes.now c.loop-rest.history.entries c.loop-rest.rest.now c.in-Some.entry c.in-Some.after.now c.push.new.self.entries c.loop-rest.invariant.0 c.loop-rest.invariant.1 c.in-Some.ensures.found.0 c.in-Some.ensures.found.1 c.in_ok-push.ensures.ok

pub returns-clause-read : goal.returns-clause-read
returns-clause-read c =
    let ended : eqb (length c.loop-rest.rest.now) 0 ≡ true = cc in
    λ entries is. same_history c.args.bytes.now c.loop-rest.history.entries entries (whole_here c.args.bytes.now c.loop-rest.history.entries c.loop-rest.rest.now c.loop-rest.invariant.0 c.loop-rest.invariant.1 ended) is

pub returns-clause-refused : goal.returns-clause-refused
returns-clause-refused c =
    let ended : eqb (length c.loop-rest.rest.now) 0 ≡ true = cc in
    λ number bad. not_both c.args.bytes.now c.loop-rest.history.entries number (whole_here c.args.bytes.now c.loop-rest.history.entries c.loop-rest.rest.now c.loop-rest.invariant.0 c.loop-rest.invariant.1 ended) bad
