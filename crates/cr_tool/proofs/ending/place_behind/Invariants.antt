use Rattle.std.proofs.Common.{◌≡◌, ◌+◌, ◌≤◌, take}
use Rattle.cr_tool.specs.Endings.{place_after}
use Rattle.cr_tool.proofs.ending.place_behind.Given as goal

abbrev pub invariant-loop-byte : goal.invariant-loop-byte
invariant-loop-byte l = record {
  is : (l.line, l.column) ≡ place_after 1 1 (take l.byte-index l.bytes);
  line_small : l.line ≤ l.byte-index + 1;
  column_small : l.column ≤ l.byte-index + 1;
}
