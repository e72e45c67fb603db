use Rattle.std.proofs.Common.{◌≡◌, ℕ, List, [], ◌∷◌, ◌++◌, Option, Some, map, take, sym, ap, ◌∙◌}
use Rattle.std.specs.Prelude.{slice_get}
use Rattle.cr_names.specs.Names.{place_of_path}
use Rattle.cr_names.proofs.Places.{map_next}
use Rattle.cr_names.proofs.names.built_ins.Goals as goal

pub loop-number-preserved : goal.loop-number-preserved
loop-number-preserved c =
    let names = c.args.names.now in
    let n = c.loop-number.number in
    let text = c.text.result.now in
    let at : slice_get names n ≡ Some text = c.text.ensures in
    c.in_ok-push.ensures.items
    ∙ ap (λ (l : List (Option ℕ)). l ++ c.built_in.result ∷ []) c.loop-number.invariant
    ∙ ap (λ (o : Option ℕ). map place_of_path (take n names) ++ o ∷ []) c.built_in.ensures
    ∙ sym (map_next place_of_path names n text at)
