use Rattle.std.proofs.Common.{◌≡◌, List, length, sym, ◌∙◌, subst, arith}
use Rattle.cr_base.specs.declared.ids.ClassId.{ClassId}
use Rattle.cr_ancestors.specs.Making.{IsRound}
use Rattle.cr_ancestors.proofs.Made.{none_made, length_open, all_made}
use Rattle.cr_ancestors.proofs.Stuck.{stuck, acyclic}
use Rattle.cr_ancestors.proofs.ancestors.Ancestors.of.Goals as goal

pub rounds-init : goal.rounds-init
rounds-init c =
    let many = c.in_ok-lists.ensures.many ∙ c.len-count.ensures.length in (
      none_made c.args.hierarchy.now c.in_ok-lists.lists.items many c.in_ok-lists.ensures.open,
      sym (length_open c.in_ok-lists.lists.items c.in_ok-lists.ensures.open ∙ c.in_ok-lists.ensures.many),
    )

pub returns-then-now-left-clause-cyclic : goal.returns-then-now-left-clause-cyclic
returns-then-now-left-clause-cyclic c = λ _.
    let old = c.rounds.lists.items in
    let same : c.as_mut_slice.result.now ≡ old = c.as_mut_slice.ensures.value in
    let round = subst (λ (l : List (List ClassId)). IsRound c.args.hierarchy.now l (length c.args.hierarchy.now) c.make_due.new.lists) same c.in_ok-now.ensures.round in
    let left = c.rounds.invariant.1 in
    let positive = c.rounds-test.true in
    let after = c.in_ok-now.ensures.left in
    let none = c.if-now-left.true in
    stuck c.args.hierarchy.now old c.make_due.new.lists c.len-count.ensures.within c.rounds.invariant.0 round (omega (arith, left, positive)) (omega (arith, left, after, none))

pub returns-clause-ok : goal.returns-clause-ok
returns-clause-ok c = let left = c.rounds.invariant.1 in let none = c.rounds-test.false in all_made c.args.hierarchy.now c.rounds.lists.items c.rounds.invariant.0 (omega (arith, left, none))

pub returns-clause-acyclic : goal.returns-clause-acyclic
returns-clause-acyclic c = let left = c.rounds.invariant.1 in let none = c.rounds-test.false in
    acyclic c.args.hierarchy.now c.rounds.lists.items (all_made c.args.hierarchy.now c.rounds.lists.items c.rounds.invariant.0 (omega (arith, left, none)))
