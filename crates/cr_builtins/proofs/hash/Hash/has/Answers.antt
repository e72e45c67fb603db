use Rattle.std.proofs.Common.{◌∙◌, ap, is_some}
use Rattle.cr_builtins.specs.Hashes.{has}
use Rattle.cr_builtins.proofs.Pairs.{found}
use Rattle.cr_builtins.proofs.hash.Hash.has.Goals as goal

pub returns : goal.returns
returns c =
    c.contains_key.ensures
    ∙ ap is_some (found c.args.key.now c.self.inside.pairs.entries) ∙ ap (has c.args.key.now) c.self.view_is
