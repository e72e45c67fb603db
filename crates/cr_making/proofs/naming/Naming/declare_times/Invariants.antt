use Rattle.std.proofs.Common.{◌≡◌, ◌-◌}
use Rattle.cr_making.specs.Naming.{state_of, declared_times}
use Rattle.cr_making.proofs.naming.Naming.declare_times.Given as goal

abbrev pub invariant-loop-i : goal.invariant-loop-i
invariant-loop-i l = declared_times (l.count - l.i) (state_of l.self) ≡ declared_times l.count (state_of l.initial.self)
