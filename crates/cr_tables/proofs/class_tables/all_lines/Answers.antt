use Rattle.cr_tables.proofs.Tabled.{lines_are}
use Rattle.cr_tables.proofs.class_tables.all_lines.Goals as goal

pub returns-clause-ok : goal.returns-clause-ok
returns-clause-ok c =
    let h = c.in_ok-hierarchy.hierarchy in
    let lines = c.in_ok-lines.lines in
    lines_are c.args.lookup.now.core.now h lines c.in_ok-hierarchy.ensures c.in_ok-lines.ensures.ok
    (λ class found at. c.reckoned_law.ensures h lines class found c.len.ensures.within c.in_ok-lines.ensures.ok at)
