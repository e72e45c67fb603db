use Rattle.std.proofs.Common.{◌≡◌, drop}
use Rattle.cr_flow.specs.Under.{furthest}
use Rattle.cr_flow.proofs.under.furthest.Given as goal

abbrev pub invariant-loop-part : goal.invariant-loop-part
invariant-loop-part l = furthest l.many l.end l.pasts l.all (drop l.part-index l.parts) ≡ furthest l.many l.end l.pasts l.own l.parts
