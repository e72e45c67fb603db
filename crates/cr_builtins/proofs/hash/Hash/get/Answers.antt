use Rattle.std.proofs.Common.{◌∙◌, ap}
use Rattle.cr_builtins.specs.Hashes.{find}
use Rattle.cr_builtins.proofs.Pairs.{found}
use Rattle.cr_builtins.proofs.hash.Hash.get.Goals as goal

pub returns : goal.returns
returns c =
    c.get.ensures.value ∙ found c.args.key.now c.self.inside.pairs.entries ∙ ap (find c.args.key.now) c.self.view_is
