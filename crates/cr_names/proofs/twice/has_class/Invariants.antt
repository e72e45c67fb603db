use Rattle.std.proofs.Common.{◌≡◌, drop}
use Rattle.std.specs.List.{list_any}
use Rattle.cr_names.specs.Offences.{is_class_by}
use Rattle.cr_names.proofs.twice.has_class.Given as goal

abbrev pub invariant-loop-name : goal.invariant-loop-name
invariant-loop-name l =
    list_any (is_class_by l.lookup.core.now l.number) (drop l.name-index l.names) ≡ list_any (is_class_by l.lookup.core.now l.number) l.names
