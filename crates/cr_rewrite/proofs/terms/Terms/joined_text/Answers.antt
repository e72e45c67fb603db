use Rattle.cr_rewrite.proofs.Left.{joined}
use Rattle.cr_rewrite.proofs.terms.Terms.joined_text.Goals as goal

pub returns : goal.returns
returns g c = joined c.args.at c.min-count.result c.args.plus c.args.to_s c.args.texts.now c.in-Some.first.now c.in-Some.others.now c.args.inserted.now
    c.in-Some.ensures.cases.0 c.min-count.ensures c.in_ok-open_sums.ensures c.in_ok-text.ensures c.in_ok-insert.ensures
