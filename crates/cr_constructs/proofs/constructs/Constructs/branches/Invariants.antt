use Rattle.std.specs.Prelude.{take, map}
use Rattle.cr_core.specs.declared.form.Form.TheVariants.{If}
use Rattle.cr_making.specs.Made.{Nests}
use Rattle.cr_making.specs.Part.{Part}
use Rattle.cr_making.specs.Table.{parts}
use Rattle.cr_constructs.proofs.constructs.Constructs.branches.Given as goal

abbrev pub invariant-loop-other : goal.invariant-loop-other
invariant-loop-other g l = Nests If (map (λ (p : Part). p.branch) (parts (take l.other-index l.others))) l.initial.maker l.maker
