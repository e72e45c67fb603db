-- Nests of what is equal.
use Rattle.std.proofs.Common.{◌≡◌, List, subst}
use Rattle.cr_core.specs.declared.form.Form.{Form}
use Rattle.cr_making.specs.declared.maker.Maker.{Maker}
use Rattle.cr_making.specs.Making.{Ahead}
use Rattle.cr_making.specs.Made.{Nests}

pub nests_as : {f : Form} {ms ks : List Ahead} {s0 s1 : Maker} → ms ≡ ks → Nests f ms s0 s1 → Nests f ks s0 s1
nests_as {f} {ms} {ks} {s0} {s1} e h = subst (λ (x : List Ahead). Nests f x s0 s1) e h
