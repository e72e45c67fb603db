use Rattle.std.proofs.Common.{◌≡◌, ◌≤◌, drop}
use Rattle.cr_lex.specs.Numbers.{cap, capped_groups}
use Rattle.cr_lex.proofs.numbers.groups.Given as goal

abbrev pub invariant-loop-i : goal.invariant-loop-i
invariant-loop-i l = record {
  value : capped_groups l.value (drop l.i l.bytes) ≡ capped_groups l.before l.bytes;
  within : l.value ≤ cap;
}
