use Rattle.std.proofs.Common.{Bool, sym, ap, ◌∙◌}
use Rattle.cr_making.specs.Assigning.{assign, assign_call}
use Rattle.cr_making.specs.Part.{Part, Head, maybe_own}
use Rattle.cr_making.specs.Table.{part, maybe_part}
use Rattle.cr_making.proofs.Done.{makes_as}
use Rattle.cr_making.proofs.Tables.{facet, part_Call, part_Index, part_InstanceVariable, no_head}
use Rattle.cr_constructs.proofs.constructs.Constructs.assign_to.Goals as goal

pub returns-in-Call : goal.returns-in-Call
returns-in-Call g c =
    let i = c.in-Call in
    let a = c.args in
    let v = (part a.value.now).own in
    makes_as c.assign_call.result a.maker.now c.assign_call.new.maker
    (ap (λ (b : Bool). assign_call a.at i.place (maybe_own (maybe_part i.receiver)) i.name b a.operator a.mark v) c.is_bare-bare.ensures ∙ facet (λ (p : Part). assign a.at p.head a.operator a.mark v) i.is (part_Call _ _ _ _ _)) c.assign_call.ensures

pub returns-in-Index : goal.returns-in-Index
returns-in-Index g c = makes_as c.assign_index.result c.args.maker.now c.assign_index.new.maker (facet (λ (p : Part). assign c.args.at p.head c.args.operator c.args.mark (part c.args.value.now).own) c.in-Index.is (part_Index _ _ _ _)) c.assign_index.ensures

pub returns-in-InstanceVariable : goal.returns-in-InstanceVariable
returns-in-InstanceVariable g c = makes_as c.assign_variable.result c.args.maker.now c.assign_variable.new.maker (facet (λ (p : Part). assign c.args.at p.head c.args.operator c.args.mark (part c.args.value.now).own) c.in-InstanceVariable.is (part_InstanceVariable _ _)) c.assign_variable.ensures

pub returns-in_default : goal.returns-in_default
returns-in_default g c = makes_as c.leaf.result c.args.maker.now c.leaf.new.self (sym (ap (λ (h : Head). assign c.args.at h c.args.operator c.args.mark (part c.args.value.now).own) (no_head c.args.target.now c.in_default.not-Call c.in_default.not-Index c.in_default.not-InstanceVariable))) c.leaf.ensures
