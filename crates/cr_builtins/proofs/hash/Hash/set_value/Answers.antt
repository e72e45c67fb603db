use Rattle.std.proofs.Common.{◌∙◌, sym}
use Rattle.cr_builtins.proofs.Pairs.{put_fits}
use Rattle.cr_builtins.proofs.hash.Hash.set_value.Goals as goal

pub write-requires : goal.write-requires
write-requires c =
    put_fits c.args.key.now c.args.value.now c.args.self.now
    (sym c.may_take.ensures.value ∙ c.if-may_take.true) c.may_take.ensures.within
