use Rattle.std.proofs.Common.{refl}
use Rattle.cr_tool.proofs.CommandLines.{nothing_said, no_usage}
use Rattle.cr_tool.proofs.reading_words.read_words.Goals as goal

pub returns-in_default-clause-usage : goal.returns-in_default-clause-usage
returns-in_default-clause-usage c =
    let none = nothing_said c.args.words.now (rw c.in_default.is at c.command_and_file.ensures) in
    (λ usage. none, λ never. refl)

pub returns-in_default-copy-clause-usage : goal.returns-in_default-copy-clause-usage
returns-in_default-copy-clause-usage c =
    no_usage c.args.words.now c.in-Some.command c.in-Some.file.now _ c.in-Some.ensures (λ is. let never : ⊥ = cc in never)

pub returns-clause-usage : goal.returns-clause-usage
returns-clause-usage c =
    no_usage c.args.words.now c.in-Some.command c.in-Some.file.now _ c.in-Some.ensures (λ is. let never : ⊥ = cc in never)
