use Rattle.std.proofs.Common.{arith, ◌∙◌, ap}
use Rattle.cr_making.specs.Words.{word_of}
use Rattle.cr_making.proofs.Done.{makes_as}
use Rattle.cr_making.proofs.Alone.{bare_none, bare_one, bare_more}
use Rattle.cr_rewrite.proofs.terms.Terms.bare_call.Goals as goal

pub returns-in-empty : goal.returns-in-empty
returns-in-empty g c = makes_as c.name_alone.result c.args.maker.now c.name_alone.new.maker (bare_none c.args.at c.args.name.now c.as_slice.result.now c.args.arguments.now c.as_slice.ensures (omega arith)) c.name_alone.ensures

pub returns-in-len1 : goal.returns-in-len1
returns-in-len1 g c = makes_as c.with_one.result c.args.maker.now c.with_one.new.maker
    (bare_one c.args.at c.args.name.now c.as_slice.result.now c.args.arguments.now _ c.word_of.result c.as_slice.ensures (omega arith) c.argument-item.is (c.word_of.ensures ∙ ap word_of c.as_str.ensures)) c.with_one.ensures

pub returns-in_default : goal.returns-in_default
returns-in_default g c = makes_as c.with_arguments.result c.args.maker.now c.with_arguments.new.maker (bare_more c.args.at c.args.name.now c.as_slice.result.now c.args.arguments.now c.as_slice.ensures (omega arith)) c.with_arguments.ensures
