use Rattle.std.proofs.Common.{arith}
use Rattle.cr_items.proofs.Fates.{IsFate}
use Rattle.cr_items.proofs.Parts.{kept_passed, kept_waits, kept_withdrawn}
use Rattle.cr_items.proofs.items.Items.fate.Goals as goal
use Rattle.cr_items.proofs.items.Items.fate.Goals.{Then-item-self, Then-item-self-2, Else-item-self-2}
use Rattle.cr_value.specs.declared.value.Fate.TheVariants.{Waits, Passed, Withdrawn}

-- the fate at each of the three returns
at_passed : (c : Then-item-self) → IsFate c.args.self.now c.args.item Passed
at_passed c = kept_passed _ _ _ _ _ _ _ c.self.invariant c.self.view_is (omega arith)

at_waits : (c : Then-item-self-2) → IsFate c.args.self.now c.args.item Waits
at_waits c = kept_waits _ _ _ _ _ _ _ c.self.invariant c.self.view_is (omega arith) (omega arith)

at_withdrawn : (c : Else-item-self-2) → IsFate c.args.self.now c.args.item Withdrawn
at_withdrawn c = kept_withdrawn _ _ _ _ _ _ _ c.self.invariant c.self.view_is (omega arith) c.requires

pub returns-then-item-self-clause-value : goal.returns-then-item-self-clause-value
returns-then-item-self-clause-value c = (at_passed c).value

pub returns-then-item-self-clause-passed : goal.returns-then-item-self-clause-passed
returns-then-item-self-clause-passed c = (at_passed c).passed

pub returns-then-item-self-clause-waits : goal.returns-then-item-self-clause-waits
returns-then-item-self-clause-waits c = (at_passed c).waits

pub returns-then-item-self-clause-withdrawn : goal.returns-then-item-self-clause-withdrawn
returns-then-item-self-clause-withdrawn c = (at_passed c).withdrawn

pub returns-then-item-self-2-clause-value : goal.returns-then-item-self-2-clause-value
returns-then-item-self-2-clause-value c = (at_waits c).value

pub returns-then-item-self-2-clause-passed : goal.returns-then-item-self-2-clause-passed
returns-then-item-self-2-clause-passed c = (at_waits c).passed

pub returns-then-item-self-2-clause-waits : goal.returns-then-item-self-2-clause-waits
returns-then-item-self-2-clause-waits c = (at_waits c).waits

pub returns-then-item-self-2-clause-withdrawn : goal.returns-then-item-self-2-clause-withdrawn
returns-then-item-self-2-clause-withdrawn c = (at_waits c).withdrawn

pub returns-else-item-self-2-clause-value : goal.returns-else-item-self-2-clause-value
returns-else-item-self-2-clause-value c = (at_withdrawn c).value

pub returns-else-item-self-2-clause-passed : goal.returns-else-item-self-2-clause-passed
returns-else-item-self-2-clause-passed c = (at_withdrawn c).passed

pub returns-else-item-self-2-clause-waits : goal.returns-else-item-self-2-clause-waits
returns-else-item-self-2-clause-waits c = (at_withdrawn c).waits

pub returns-else-item-self-2-clause-withdrawn : goal.returns-else-item-self-2-clause-withdrawn
returns-else-item-self-2-clause-withdrawn c = (at_withdrawn c).withdrawn
