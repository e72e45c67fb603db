use Rattle.std.proofs.Common.{◌≡◌, ◌++◌, drop}
use Rattle.cr_names.specs.Names.{own_from}
use Rattle.cr_names.specs.Tables.{by_name}
use Rattle.cr_names.proofs.names.own_names.Given as goal

abbrev pub invariant-loop-number : goal.invariant-loop-number
invariant-loop-number l =
    l.own.items ++ own_from (by_name l.built_in) (by_name l.declared) l.number (drop l.number l.rows) ≡ own_from (by_name l.built_in) (by_name l.declared) 0 l.rows
