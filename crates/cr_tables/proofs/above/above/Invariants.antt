use Rattle.std.proofs.Common.{◌≡◌, ◌++◌, drop}
use Rattle.std.specs.Prelude.{filter_map}
use Rattle.cr_tables.specs.Hierarchy.{above_by}
use Rattle.cr_tables.proofs.above.above.Given as goal

abbrev pub invariant-loop-link : goal.invariant-loop-link
invariant-loop-link l = l.list.items ++ filter_map (above_by l.class) (drop l.link-index l.links) ≡ filter_map (above_by l.class) l.links
