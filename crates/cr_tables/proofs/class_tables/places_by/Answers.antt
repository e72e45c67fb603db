use Rattle.std.proofs.Common.{List, [], ◌∷◌, ◌++◌, map, take, sym, ap, ◌∙◌}
use Rattle.cr_lookup.specs.declared.method.Place.{Place}
use Rattle.cr_tables.specs.Making.{places_by}
use Rattle.cr_names.proofs.Places.{map_next}
use Rattle.cr_tables.proofs.class_tables.places_by.Goals as goal

pub loop-number-preserved : goal.loop-number-preserved
loop-number-preserved c =
    let lines = c.args.lines.now in
    let top = c.args.top in
    let n = c.loop-number.number in
    c.in_ok-push.ensures.items
    ∙ ap (λ (l : List (List Place)). l ++ c.in_ok-each.each ∷ []) c.loop-number.invariant
    ∙ ap (λ (p : List Place). map (places_by top) (take n lines) ++ p ∷ []) c.in_ok-each.ensures
    ∙ sym (map_next (places_by top) lines n c.get-line.result.now c.get-line.ensures)
