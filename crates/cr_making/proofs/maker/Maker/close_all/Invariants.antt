use Rattle.cr_making.specs.Made.{Puts, closes}
use Rattle.cr_making.proofs.maker.Maker.close_all.Given as goal

abbrev pub invariant-loop-i : goal.invariant-loop-i
invariant-loop-i l = Puts (closes l.i) l.initial.self l.self
