use Rattle.std.proofs.Common.{◌≡◌, ◌≤◌, length, ◌+◌, ◌-◌, ◌*◌, false}
use Rattle.std.specs.Prelude.{map, drop}
use Rattle.cr_flow.specs.Control.{heads}
use Rattle.cr_flow.specs.Chain.{LeadsTo}
use Rattle.cr_flow.specs.Uses.{asked}
use Rattle.cr_flow.specs.Outs.{none, acted, chain, clauses_outs, own_outs, arms_outs, finished, reach}
use Rattle.cr_flow.proofs.reach.+reach.Given as goal

abbrev pub decreases-reach : goal.decreases-reach
decreases-reach l = 16 * (length l.rows.now - l.n.0) + 9

abbrev pub decreases-line : goal.decreases-line
decreases-line l = 16 * (length l.rows.now - l.n.0) + 8

abbrev pub decreases-base : goal.decreases-base
decreases-base l = 16 * (length l.rows.now - l.n.0) + 7

abbrev pub decreases-after : goal.decreases-after
decreases-after l = 16 * (length l.rows.now - l.n.0) + 7

abbrev pub decreases-tested : goal.decreases-tested
decreases-tested l = 16 * (length l.rows.now - l.n.0) + 6

abbrev pub decreases-in_order : goal.decreases-in_order
decreases-in_order l = 16 * (length l.rows.now - l.n.0) + 6

abbrev pub decreases-led : goal.decreases-led
decreases-led l = 16 * (length l.rows.now - l.n.0) + 5

abbrev pub decreases-armed : goal.decreases-armed
decreases-armed l = 16 * (length l.rows.now - l.n.0) + 4

abbrev pub decreases-arms : goal.decreases-arms
decreases-arms l = 16 * (length l.rows.now - l.n.0) + 4

abbrev pub decreases-own_arm : goal.decreases-own_arm
decreases-own_arm l = 16 * (length l.rows.now - l.n.0) + 3

abbrev pub decreases-clause : goal.decreases-clause
decreases-clause l = 16 * (length l.rows.now - l.n.0) + 3

abbrev pub decreases-part : goal.decreases-part
decreases-part l = 16 * (length l.rows.now - l.n.0) + 2

abbrev pub decreases-last_part : goal.decreases-last_part
decreases-last_part l = 16 * (length l.rows.now - l.n.0) + 2

abbrev pub invariant-in_order-loop-p : goal.invariant-in_order-loop-p
invariant-in_order-loop-p l =
    chain none (acted (asked l.rows l.only l.ranks l.x l.n) l.x l.row.form (arms_outs (reach l.rows (asked l.rows l.only l.ranks l.x) l.x) l.rows l.row)) (map (reach l.rows (asked l.rows l.only l.ranks l.x) l.x) (heads l.row.form l.row.parts))
    ≡ chain l.all (acted (asked l.rows l.only l.ranks l.x l.n) l.x l.row.form (arms_outs (reach l.rows (asked l.rows l.only l.ranks l.x) l.x) l.rows l.row)) (map (reach l.rows (asked l.rows l.only l.ranks l.x) l.x) (drop l.p-index l.p-items))

abbrev pub invariant-arms-loop-c : goal.invariant-arms-loop-c
invariant-arms-loop-c l =
    clauses_outs (reach l.rows (asked l.rows l.only l.ranks l.x) l.x) l.rows (own_outs (reach l.rows (asked l.rows l.only l.ranks l.x) l.x) l.row) (heads l.row.form l.row.parts)
    ≡ clauses_outs (reach l.rows (asked l.rows l.only l.ranks l.x) l.x) l.rows l.all (drop l.c-index l.c-items)

abbrev pub invariant-line-up : goal.invariant-line-up
invariant-line-up l = record { leads : LeadsTo l.rows l.fn.n l.at; same : l.all ≡ reach l.rows (asked l.rows l.only l.ranks l.x) l.x l.at }

abbrev pub decreases-line-up : goal.decreases-line-up
decreases-line-up l = l.at.0

abbrev pub invariant-reach-trails : goal.invariant-reach-trails
invariant-reach-trails l = record {
  same : reach l.rows (asked l.rows l.only l.ranks l.x) l.x l.fn.n ≡ finished l.inside l.all (reach l.rows (asked l.rows l.only l.ranks l.x) l.x l.at);
  later : l.fn.n.0 ≤ l.at.0;
  plain : l.inside ≡ false → l.all ≡ none;
}

abbrev pub decreases-reach-trails : goal.decreases-reach-trails
decreases-reach-trails l = length l.rows - l.at.0
