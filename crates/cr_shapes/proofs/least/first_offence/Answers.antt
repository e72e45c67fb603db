use Rattle.std.proofs.Common.{◌≤◌, List, length, ap, arith}
use Rattle.cr_core.specs.declared.row.Row.{Row}
use Rattle.cr_shapes.proofs.Earliest.{all_rows}
use Rattle.cr_shapes.proofs.least.first_offence.Goals as goal

pub returns : goal.returns
returns c =
    let t = c.args.core.now in
    let len = ap (λ (l : List Row). length l) c.rows-rows.ensures.rows in
    let past : length t.rows ≤ c.loop-number.number = omega (arith, len, c.loop-number-test.false) in
    all_rows t c.loop-number.number c.loop-number.best past c.loop-number.invariant
