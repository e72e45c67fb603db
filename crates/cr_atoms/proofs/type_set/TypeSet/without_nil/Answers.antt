use Rattle.std.proofs.Common.{◌≡◌, ◌<◌, ◌∷◌, [], filter, not, sym, ap, ◌∙◌, subst, rules}
use Rattle.std.proofs.lemmas.Fn.{filter_same}
use Rattle.std.proofs.lemmas.List.Kept.{AllPairs-filter}
use Rattle.cr_base.specs.declared.ids.AtomId.{AtomId}
use Rattle.cr_atoms.specs.declared.type_set.TheConstants.{NIL}
use Rattle.cr_atoms.specs.Set.{IsAscending}
use Rattle.cr_atoms.specs.Table.{is_of_any}
use Rattle.cr_atoms.proofs.type_set.TypeSet.without_nil.Goals as goal

pub invariant_of-self : goal.invariant_of-self
invariant_of-self c =
    let kept : c.retain.new.self.items ≡ filter (λ (atom : AtomId). not (is_of_any c.args.atoms.now (NIL ∷ []) atom)) c.self.inside.atoms.items
    = filter_same _ _ _ (λ x b f k. search rules) _ _ c.retain.ensures.filtered in
    subst IsAscending (sym kept) (AllPairs-filter (λ (a b : AtomId). a.0 < b.0) (λ (atom : AtomId). not (is_of_any c.args.atoms.now (NIL ∷ []) atom)) c.self.inside.atoms.items c.self.invariant)

pub returns : goal.returns
returns c =
    let kept : c.retain.new.self.items ≡ filter (λ (atom : AtomId). not (is_of_any c.args.atoms.now (NIL ∷ []) atom)) c.self.inside.atoms.items
    = filter_same _ _ _ (λ x b f k. search rules) _ _ c.retain.ensures.filtered in
    kept ∙ ap (filter (λ (atom : AtomId). not (is_of_any c.args.atoms.now (NIL ∷ []) atom))) c.self.view_is
