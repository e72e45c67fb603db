use Rattle.std.proofs.Common.{◌≡◌, ℕ, map}
use Rattle.std.specs.List.{range_with_len}
use Rattle.cr_tables.specs.Numbers.{class_named}
use Rattle.cr_tables.proofs.naming.all_named.Given as goal

abbrev pub invariant-loop-number : goal.invariant-loop-number
invariant-loop-number l = l.named.items ≡ map (λ (n : ℕ). class_named l.lookup.core.now (record { 0 = n })) (range_with_len 0 l.number)
