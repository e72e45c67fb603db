use Rattle.std.proofs.Common.{◌∙◌, List, length, ◌∷◌, [], ◌++◌, ap, arith}
use Rattle.cr_base.specs.declared.ids.ClassId.{ClassId}
use Rattle.cr_lookup.specs.declared.method.Place.{Place}
use Rattle.cr_tables.specs.Choosing.{own_places}
use Rattle.cr_tables.specs.Methods.{top_level}
use Rattle.cr_tables.proofs.Kept.{at_now, class_total, places_at}
use Rattle.cr_tables.proofs.tables.Tables.places.Goals as goal

pub index-requires : goal.index-requires
index-requires c =
    let t = at_now _ _ _ c.self.view_is c.self.invariant in
    let k = ap (λ (lists : List (List Place)). length lists) t.places in
    let n = class_total (λ (class : ClassId). own_places c.args.self.now class ++ top_level c.args.self.now ∷ []) c.args.self.now in
    let low = c.requires in
    omega (arith, low, k, n)

pub returns : goal.returns
returns c =
    let t = at_now _ _ _ c.self.view_is c.self.invariant in
    c.as_slice.ensures ∙ places_at c.args.self.now c.args.class c.self.inside.places.items c.index.result.now t.places c.requires c.index.ensures
