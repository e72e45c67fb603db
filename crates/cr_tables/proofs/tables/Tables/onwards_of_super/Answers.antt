use Rattle.std.proofs.Common.{◌∙◌, sym}
use Rattle.cr_tables.proofs.Answered.{super_none, super_some, world_super}
use Rattle.cr_tables.proofs.tables.Tables.onwards_of_super.Goals as goal

pub returns-in-None-clause-chosen : goal.returns-in-None-clause-chosen
returns-in-None-clause-chosen c = super_none c.args.self.now c.args.class c.args.running c.args.args.now (sym c.def_at.ensures ∙ c.in-None.is)

pub returns-in-None-clause-world : goal.returns-in-None-clause-world
returns-in-None-clause-world c =
    world_super c.args.self.now c.args.class c.args.running c.args.args.now _
    (super_none c.args.self.now c.args.class c.args.running c.args.args.now (sym c.def_at.ensures ∙ c.in-None.is))

pub returns-in-Some-clause-chosen : goal.returns-in-Some-clause-chosen
returns-in-Some-clause-chosen c =
    super_some c.args.self.now c.args.class c.args.running c.args.args.now c.in-Some.def c.places_of_super-places.result.now c.onwards.result
    (sym c.def_at.ensures ∙ c.in-Some.is) c.places_of_super-places.ensures c.onwards.ensures

pub returns-in-Some-clause-world : goal.returns-in-Some-clause-world
returns-in-Some-clause-world c =
    world_super c.args.self.now c.args.class c.args.running c.args.args.now c.onwards.result
    (super_some c.args.self.now c.args.class c.args.running c.args.args.now c.in-Some.def c.places_of_super-places.result.now c.onwards.result
    (sym c.def_at.ensures ∙ c.in-Some.is) c.places_of_super-places.ensures c.onwards.ensures)
