use Rattle.std.proofs.Common.{◌∙◌, ap}
use Rattle.cr_builtins.specs.Hashes.{find, without}
use Rattle.cr_builtins.proofs.Pairs.{found, removed}
use Rattle.cr_builtins.proofs.hash.Hash.remove.Goals as goal

pub returns-clause-value : goal.returns-clause-value
returns-clause-value c =
    c.shift_remove.ensures.value ∙ found c.args.key.now c.self.inside.pairs.entries ∙ ap (find c.args.key.now) c.self.view_is

pub returns-clause-rest : goal.returns-clause-rest
returns-clause-rest c =
    c.shift_remove.ensures.entries ∙ removed c.args.key.now c.self.inside.pairs.entries ∙ ap (without c.args.key.now) c.self.view_is
