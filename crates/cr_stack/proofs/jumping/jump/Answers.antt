use Rattle.std.proofs.Common.{◌∙◌, sym, refl}
use Rattle.cr_stack.proofs.Leaving.{stops_with, cut_is, gives_up}
use Rattle.cr_stack.proofs.jumping.jump.Goals as goal

pub returns-in-Bars : goal.returns-in-Bars
returns-in-Bars c =
    stops_with c.args.around.now.items c.as_slice.result.now _ c.args.focus.now _ c.args.exit c.in-Some.at c.index.result.now _ _ c.as_slice.ensures.value c.in-Some.ensures c.index.ensures (sym c.in-Bars.is ∙ c.fate_at.ensures) (λ s. (refl, refl, refl))

pub returns-in-Begins : goal.returns-in-Begins
returns-in-Begins c =
    stops_with c.args.around.now.items c.as_slice.result.now _ c.args.focus.now _ c.args.exit c.in-Some.at c.index.result.now _ _ c.as_slice.ensures.value c.in-Some.ensures c.index.ensures (sym c.in-Begins.is ∙ c.fate_at.ensures)
    (λ s. (c.truncate.ensures.items ∙ cut_is c.args.around.now.items c.args.exit c.in-Some.at s, refl, refl))

pub returns-in-Gives : goal.returns-in-Gives
returns-in-Gives c =
    stops_with c.args.around.now.items c.as_slice.result.now _ c.args.focus.now _ c.args.exit c.in-Some.at c.index.result.now _ _ c.as_slice.ensures.value c.in-Some.ensures c.index.ensures (sym c.in-Gives.is ∙ c.fate_at.ensures)
    (gives_up c.args.around.now.items c.truncate-in-Gives.new.self.items _ c.args.focus.now _ c.args.exit c.in-Some.at c.end_innermost.ensures.0 _ _ c.truncate-in-Gives.ensures.items c.end_innermost.ensures.1 c.end_innermost.ensures.2 c.given.ensures)
