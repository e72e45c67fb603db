use Rattle.std.specs.Prelude.{take, map}
use Rattle.cr_core.specs.declared.form.Form.TheVariants.{If}
use Rattle.cr_making.specs.Made.{Nests}
use Rattle.cr_making.specs.Part.{Part}
use Rattle.cr_making.specs.Table.{parts}
use Rattle.cr_constructs.proofs.constructs.Constructs.arms.Given as goal

abbrev pub invariant-loop-clause : goal.invariant-loop-clause
invariant-loop-clause g l = Nests If (map (λ (p : Part). p.arm l.get) (parts (take l.clause-index l.clauses))) l.initial.maker l.maker
