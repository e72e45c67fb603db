use Rattle.std.proofs.Common.{List, length, Bool, ap, arith}
use Rattle.cr_tables.specs.Numbers.{is_class}
use Rattle.cr_tables.proofs.Kept.{at_now, class_total}
use Rattle.cr_tables.proofs.tables.Tables.class_count.Goals as goal

pub overflow_cast-result : goal.overflow_cast-result
overflow_cast-result c =
    let t = at_now _ _ _ c.self.view_is c.self.invariant in
    let few = t.few in
    let e = c.len.ensures in
    let k = ap (λ (kinds : List Bool). length kinds) t.kinds in
    let n = class_total (is_class c.args.self.now) c.args.self.now in
    omega (arith, few, e, k, n)

pub returns-clause-count : goal.returns-clause-count
returns-clause-count c =
    let t = at_now _ _ _ c.self.view_is c.self.invariant in
    let e = c.len.ensures in
    let k = ap (λ (kinds : List Bool). length kinds) t.kinds in
    let n = class_total (is_class c.args.self.now) c.args.self.now in
    omega (arith, e, k, n)

pub returns-clause-few : goal.returns-clause-few
returns-clause-few c =
    let t = at_now _ _ _ c.self.view_is c.self.invariant in
    let few = t.few in
    let e = c.len.ensures in
    let k = ap (λ (kinds : List Bool). length kinds) t.kinds in
    let n = class_total (is_class c.args.self.now) c.args.self.now in
    omega (arith, few, e, k, n)
