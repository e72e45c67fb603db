use Rattle.std.proofs.Common.{◌≡◌}
use Rattle.std.specs.Prelude.{All}
use Rattle.cr_flow.proofs.under.open.Given as goal

abbrev pub invariant-loop : goal.invariant-loop
invariant-loop l = All (λ first. first ≡ l.end) l.firsts.items
