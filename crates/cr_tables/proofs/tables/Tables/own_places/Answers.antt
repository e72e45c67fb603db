use Rattle.std.proofs.Common.{sym, arith}
use Rattle.cr_tables.proofs.Kept.{no_places}
use Rattle.cr_tables.proofs.tables.Tables.own_places.Goals as goal

pub returns : goal.returns
returns c =
    let count = c.class_count.ensures.count in
    let past = c.if-class-class_count.false in
    sym (no_places c.args.self.now c.args.class (omega (arith, count, past)))
