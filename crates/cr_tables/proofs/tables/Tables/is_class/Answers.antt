use Rattle.std.proofs.Common.{◌∙◌, length, refl}
use Rattle.std.proofs.lemmas.Option.{slice_get_read, slice_get_past}
use Rattle.cr_tables.proofs.Kept.{at_now, kind_is, no_kind}
use Rattle.cr_tables.proofs.tables.Tables.is_class.Goals as goal

pub returns-in-Some : goal.returns-in-Some
returns-in-Some c =
    let t = at_now _ _ _ c.self.view_is c.self.invariant in
    let kinds = c.deref.result.now in
    kind_is c.args.self.now kinds c.args.class c.in-Some.kind.now (c.deref.ensures.value ∙ t.kinds)
    (slice_get_read kinds (length kinds) c.args.class.0 c.in-Some.kind.now refl c.in-Some.ensures.lookup.3.0 c.in-Some.ensures.lookup.1)

pub returns-in-None : goal.returns-in-None
returns-in-None c =
    let t = at_now _ _ _ c.self.view_is c.self.invariant in
    let kinds = c.deref.result.now in
    no_kind c.args.self.now kinds c.args.class (c.deref.ensures.value ∙ t.kinds) (slice_get_past kinds c.args.class.0 c.in-None.ensures.lookup.3)
