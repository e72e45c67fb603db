use Rattle.std.proofs.Common.{◌∙◌, ◌-◌, length, refl}
use Rattle.std.proofs.lemmas.Option.{slice_get_read, slice_get_past}
use Rattle.cr_names.specs.Names.{lines, built_in_count}
use Rattle.cr_tables.proofs.Tabled.{class_in_lines, class_own, class_none}
use Rattle.cr_tables.proofs.naming.is_class.Goals as goal

pub returns-then-number-lt12 : goal.returns-then-number-lt12
unfolding lines built_in_count
returns-then-number-lt12 c = class_in_lines c.args.lookup.now.core.now c.args.number c.if-number-lt12.true

pub returns-in-Some : goal.returns-in-Some
unfolding lines built_in_count
returns-in-Some c =
    let own = c.own.result.now in
    class_own c.args.lookup.now.core.now c.args.number own c.in-Some.name.now c.is_own_class.result c.if-number-lt12.false (c.own.ensures ∙ c.requires.own)
    (slice_get_read own (length own) (c.args.number - 12) c.in-Some.name.now refl c.in-Some.ensures.lookup.3.0 c.in-Some.ensures.lookup.1) c.is_own_class.ensures

pub returns-in-None : goal.returns-in-None
unfolding lines built_in_count
returns-in-None c =
    let own = c.own.result.now in
    class_none c.args.lookup.now.core.now c.args.number own c.if-number-lt12.false (c.own.ensures ∙ c.requires.own) (slice_get_past own (c.args.number - 12) c.in-None.ensures.lookup.3)
