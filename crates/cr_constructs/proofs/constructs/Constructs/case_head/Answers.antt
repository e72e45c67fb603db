use Rattle.std.proofs.Common.{Bool, sym, ap, ◌∙◌}
use Rattle.cr_making.specs.Control.{case_of, case_receiver}
use Rattle.cr_making.specs.Part.{Part, maybe_own}
use Rattle.cr_making.specs.Table.{part, parts, maybe_part}
use Rattle.cr_making.proofs.Done.{makes_as}
use Rattle.cr_making.proofs.Tables.{facet, part_Call, no_call_case}
use Rattle.cr_constructs.proofs.constructs.Constructs.case_head.Goals as goal

pub returns-in-Call : goal.returns-in-Call
returns-in-Call g c =
    let i = c.in-Call in
    let v = (part c.args.value.now).own in
    let ps = parts c.args.clauses.now in
    makes_as c.case_receiver.result c.args.maker.now c.case_receiver.new.maker
    (ap (λ (b : Bool). case_receiver c.args.at (maybe_own (maybe_part i.receiver)) b i.name v ps) c.is_bare-bare.ensures ∙ facet (λ (p : Part). case_of c.args.at p.head v ps) i.is (part_Call _ _ _ _ _)) c.case_receiver.ensures

pub returns-in_default : goal.returns-in_default
returns-in_default g c = makes_as c.case_fresh.result c.args.maker.now c.case_fresh.new.maker (sym (no_call_case c.args.at (part c.args.value.now).own (parts c.args.clauses.now) c.args.head.now c.in_default.not-Call)) c.case_fresh.ensures
