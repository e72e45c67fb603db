use Rattle.std.proofs.Common.{◌≡◌, List, sym, ap, ◌∙◌, subst}
use Rattle.cr_base.specs.declared.ids.AtomId.{AtomId}
use Rattle.cr_atoms.specs.Set.{IsAscending, with_member}
use Rattle.cr_atoms.proofs.Sets.{ascending_with, put_in, stays}
use Rattle.cr_atoms.proofs.type_set.TypeSet.add.Goals as goal

pub invariant_of-self : goal.invariant_of-self
invariant_of-self c =
    let put = put_in c.self.inside.atoms.items c.deref.result.now c.args.atom c.in-Err.place c.deref.ensures.value c.self.invariant c.in-Err.ensures.bound c.in-Err.ensures.position in
    subst IsAscending (sym (c.in_ok-insert.ensures.items ∙ put)) (ascending_with c.self.inside.atoms.items c.args.atom c.self.invariant)

pub returns-in_ok-insert-clause-ok : goal.returns-in_ok-insert-clause-ok
returns-in_ok-insert-clause-ok c =
    let put = put_in c.self.inside.atoms.items c.deref.result.now c.args.atom c.in-Err.place c.deref.ensures.value c.self.invariant c.in-Err.ensures.bound c.in-Err.ensures.position in
    c.in_ok-insert.ensures.items ∙ put ∙ ap (λ (set : List AtomId). with_member set c.args.atom) c.self.view_is

pub returns-in_default-clause-ok : goal.returns-in_default-clause-ok
returns-in_default-clause-ok c =
    let is : c.deref.result.now ≡ c.args.self.now = c.deref.ensures.value ∙ c.self.view_is in
    sym (stays c.args.self.now c.deref.result.now c.args.atom c.in_default.field-0 is (subst IsAscending c.self.view_is c.self.invariant)
    c.in_default.ensures.bound (c.in_default.ensures.ok c.args.atom))
