use Rattle.std.specs.Prelude.{take, map}
use Rattle.cr_core.specs.declared.form.Form.TheVariants.{Seq}
use Rattle.cr_making.specs.Assigning.{kept_indexes}
use Rattle.cr_making.specs.Made.{Nests}
use Rattle.cr_making.specs.Part.{own_of}
use Rattle.cr_making.specs.Table.{parts}
use Rattle.cr_constructs.proofs.constructs.Constructs.keep_indexes.Given as goal

abbrev pub invariant-loop-i : goal.invariant-loop-i
invariant-loop-i g l = Nests Seq (kept_indexes l.mark l.local 1 (map own_of (parts (take l.i l.indexes)))) l.initial.maker l.maker
