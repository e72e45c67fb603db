use Rattle.std.proofs.Common.{◌∙◌, sym}
use Rattle.cr_tables.proofs.Answered.{choose_none, choose_some, least_some, world_choose}
use Rattle.cr_tables.proofs.tables.Tables.choose.Goals as goal

pub returns-then-not-are_numbers-clause-chosen : goal.returns-then-not-are_numbers-clause-chosen
returns-then-not-are_numbers-clause-chosen c =
    choose_none c.args.self.now c.args.class c.args.name c.args.args.now c.args.block c.args.top (sym c.are_numbers.ensures ∙ c.if-not-are_numbers.true)

pub returns-then-not-are_numbers-clause-world : goal.returns-then-not-are_numbers-clause-world
returns-then-not-are_numbers-clause-world c =
    world_choose c.args.self.now c.args.class c.args.name c.args.args.now c.args.block c.args.top _
    (choose_none c.args.self.now c.args.class c.args.name c.args.args.now c.args.block c.args.top (sym c.are_numbers.ensures ∙ c.if-not-are_numbers.true))

pub returns-clause-chosen : goal.returns-clause-chosen
returns-clause-chosen c =
    choose_some c.args.self.now c.args.class c.args.name c.args.args.now c.args.block c.args.top c.places_of_call-places.result.now c.first_chosen.result
    (sym c.are_numbers.ensures ∙ c.if-not-are_numbers.false) c.places_of_call-places.ensures c.first_chosen.ensures.chosen

pub returns-clause-world : goal.returns-clause-world
returns-clause-world c =
    world_choose c.args.self.now c.args.class c.args.name c.args.args.now c.args.block c.args.top c.first_chosen.result
    (choose_some c.args.self.now c.args.class c.args.name c.args.args.now c.args.block c.args.top c.places_of_call-places.result.now c.first_chosen.result
    (sym c.are_numbers.ensures ∙ c.if-not-are_numbers.false) c.places_of_call-places.ensures c.first_chosen.ensures.chosen)

pub returns-then-not-are_numbers-clause-least : goal.returns-then-not-are_numbers-clause-least
returns-then-not-are_numbers-clause-least c = λ e. let f = sym c.are_numbers.ensures ∙ c.if-not-are_numbers.true in absurd cc

pub returns-clause-least : goal.returns-clause-least
returns-clause-least c = λ e.
    least_some c.args.self.now c.args.class c.args.name c.args.args.now c.args.block c.args.top c.places_of_call-places.result.now c.first_chosen.result
    c.places_of_call-places.ensures c.first_chosen.ensures.least
