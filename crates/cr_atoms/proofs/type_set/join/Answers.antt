use Rattle.std.proofs.Common.{◌≡◌, ◌≤◌, ◌+◌, List, length, sym, ap, ◌∙◌, subst, inl, inr, ◌⊎◌, arith}
use Rattle.std.specs.declared.cmp.Ordering.TheVariants.{Less, Equal, Greater}
use Rattle.std.proofs.lemmas.Cmp.{ranked}
use Rattle.cr_base.specs.declared.ids.AtomId.{AtomId}
use Rattle.cr_atoms.specs.Set.{IsAscending, joined}
use Rattle.cr_atoms.proofs.Merge.{Merges, merged, ascending_joined, takes_first, takes_both, takes_second}
use Rattle.cr_atoms.proofs.type_set.join.Goals as goal
use Rattle.cr_atoms.proofs.type_set.join.Goals.{then-loop-i-test+else-j-b, else-loop-i-test}

abbrev first : AtomId
first = record { 0 = 0 }

pub loop-i-preserved-in-Less : goal.loop-i-preserved-in-Less
loop-i-preserved-in-Less c =
    subst (Merges c.atoms-a.result.now c.atoms-b.result.now (c.loop-i.i + 1) c.loop-i.j) (sym c.in_ok-push-in-Less.ensures.items)
    (takes_first _ _ _ _ _ first c.loop-i.invariant c.atoms-b.ensures.ascending c.loop-i-test.true c.if-j-b.true (ranked _ _ Less c.in-Less.ensures))

pub loop-i-preserved-in-Equal : goal.loop-i-preserved-in-Equal
loop-i-preserved-in-Equal c =
    subst (Merges c.atoms-a.result.now c.atoms-b.result.now (c.loop-i.i + 1) (c.loop-i.j + 1)) (sym c.in_ok-push-in-Equal.ensures.items)
    (takes_both _ _ _ _ _ first c.loop-i.invariant c.atoms-b.ensures.ascending c.loop-i-test.true c.if-j-b.true (ranked _ _ Equal c.in-Equal.ensures))

pub loop-i-preserved : goal.loop-i-preserved
loop-i-preserved c =
    subst (Merges c.atoms-a.result.now c.atoms-b.result.now c.loop-i.i (c.loop-i.j + 1)) (sym c.in_ok-push-in-Greater.ensures.items)
    (takes_second _ _ _ _ _ first c.loop-i.invariant c.atoms-b.ensures.ascending c.loop-i-test.true c.if-j-b.true (ranked _ _ Greater c.in-Greater.ensures))

-- one of the sets is at its end
ended : (c : goal.In_ok-extend_from_slice-2) → (length c.atoms-a.result.now ≤ c.loop-i.i) ⊎ (length c.atoms-b.result.now ≤ c.loop-i.j)
ended c = elim c.loop-i-test.branch [ then-loop-i-test+else-j-b w ↦ inr (omega arith) | else-loop-i-test w ↦ inl (omega arith) ]

whole : (c : goal.In_ok-extend_from_slice-2) → c.extend_from_slice-2.new.self.items ≡ joined c.atoms-a.result.now c.atoms-b.result.now
whole c = merged _ _ _ _ _ _ _ c.loop-i.invariant c.atoms-b.ensures.ascending (ended c) c.in_ok-extend_from_slice.ensures.items c.in_ok-extend_from_slice-2.ensures.items

pub invariant_of-result : goal.invariant_of-result
invariant_of-result c = subst IsAscending (sym (whole c)) (ascending_joined c.atoms-a.result.now c.atoms-b.result.now c.atoms-a.ensures.ascending)

pub returns : goal.returns
returns c = whole c ∙ ap (λ (l : List AtomId). joined l c.atoms-b.result.now) c.atoms-a.ensures.value ∙ ap (joined c.args.a.now) c.atoms-b.ensures.value
