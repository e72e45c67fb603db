use Rattle.cr_lowering.proofs.lower.tell.Goals as goal

pub returns : goal.returns
returns c = record { told = c.settle_scopes.new.scopes; settled = c.settle_scopes.ensures; marked = c.mark_captured.ensures }
