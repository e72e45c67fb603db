use Rattle.std.proofs.Common.{Bool, sym, ap, ◌∙◌}
use Rattle.cr_making.specs.Control.{receive, receive_called}
use Rattle.cr_making.specs.Part.{Part, maybe_own}
use Rattle.cr_making.specs.Table.{part, parts, maybe_part}
use Rattle.cr_making.proofs.Done.{makes_as}
use Rattle.cr_making.proofs.Tables.{facet, part_Call, no_call_receive}
use Rattle.cr_constructs.proofs.constructs.Constructs.receive_as.Goals as goal

pub returns-in-Call : goal.returns-in-Call
returns-in-Call g c =
    let i = c.in-Call in
    let a = c.args in
    let ch = (part a.channel.now).own in
    let ps = parts a.body.now in
    makes_as c.receive_called.result a.maker.now c.receive_called.new.maker
    (ap (λ (b : Bool). receive_called a.form a.mark a.at i.place (maybe_own (maybe_part i.receiver)) b i.name ch ps) c.is_bare-bare.ensures ∙ facet (λ (p : Part). receive a.form a.mark a.at p.head ch ps) i.is (part_Call _ _ _ _ _)) c.receive_called.ensures

pub returns-in_default : goal.returns-in_default
returns-in_default g c = makes_as c.receive_alone.result c.args.maker.now c.receive_alone.new.maker (sym (no_call_receive c.args.form c.args.mark c.args.at (part c.args.channel.now).own (parts c.args.body.now) c.args.target.now c.in_default.not-Call)) c.receive_alone.ensures
