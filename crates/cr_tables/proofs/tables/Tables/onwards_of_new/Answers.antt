use Rattle.std.proofs.Common.{◌∙◌, sym}
use Rattle.cr_tables.proofs.Kept.{at_now}
use Rattle.cr_tables.proofs.Answered.{new_none, new_some, world_new}
use Rattle.cr_tables.proofs.tables.Tables.onwards_of_new.Goals as goal

pub returns-in-None-clause-chosen : goal.returns-in-None-clause-chosen
returns-in-None-clause-chosen c =
    let t = at_now _ _ _ c.self.view_is c.self.invariant in
    new_none c.args.self.now c.args.class c.args.args.now (sym t.initializer ∙ c.in-None.is)

pub returns-in-None-clause-world : goal.returns-in-None-clause-world
returns-in-None-clause-world c =
    let t = at_now _ _ _ c.self.view_is c.self.invariant in
    world_new c.args.self.now c.args.class c.args.args.now _ (new_none c.args.self.now c.args.class c.args.args.now (sym t.initializer ∙ c.in-None.is))

pub returns-in-Some-clause-chosen : goal.returns-in-Some-clause-chosen
returns-in-Some-clause-chosen c =
    let t = at_now _ _ _ c.self.view_is c.self.invariant in
    new_some c.args.self.now c.args.class c.args.args.now c.in-Some.name c.as_slice.result.now c.own_places-own.result.now c.first_place_with-places.result.now
    c.onwards.result (sym t.initializer ∙ c.in-Some.is) (c.as_slice.ensures.value ∙ t.methods) c.own_places-own.ensures c.first_place_with-places.ensures c.onwards.ensures

pub returns-in-Some-clause-world : goal.returns-in-Some-clause-world
returns-in-Some-clause-world c =
    let t = at_now _ _ _ c.self.view_is c.self.invariant in
    world_new c.args.self.now c.args.class c.args.args.now c.onwards.result
    (new_some c.args.self.now c.args.class c.args.args.now c.in-Some.name c.as_slice.result.now c.own_places-own.result.now c.first_place_with-places.result.now
    c.onwards.result (sym t.initializer ∙ c.in-Some.is) (c.as_slice.ensures.value ∙ t.methods) c.own_places-own.ensures c.first_place_with-places.ensures c.onwards.ensures)
