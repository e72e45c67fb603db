use Rattle.std.proofs.Common.{◌∙◌, length, ap, sym, arith}
use Rattle.std.proofs.lemmas.Result.{IfOk-weaker}
use Rattle.cr_fibers.specs.Held.{Held}
use Rattle.cr_fibers.proofs.fiber.Fiber.begin.Goals as goal

pub begin-requires : goal.begin-requires
begin-requires c =
    let v = c.self.inside.variables in
    omega (arith, c.len.ensures, v.ok.0, v.ok.1, v.small)

pub returns : goal.returns
returns c =
    let few = ap (λ (f : Held). length f.variables) (sym c.self.view_is) ∙ sym (c.len.ensures ∙ c.self.inside.variables.ok.0) in
    IfOk-weaker c.begin.result _ _ (λ b h. h c.args.self.now.variables few) c.begin.ensures
