use Rattle.std.proofs.Common.{List, sym, ap, ◌∙◌}
use Rattle.std.specs.Prelude.{slice_get}
use Rattle.std.specs.Option.{option_copied}
use Rattle.cr_making.specs.declared.naming.Opened.{Opened}
use Rattle.cr_making.proofs.Found.{outermost_first, outermost_none}
use Rattle.cr_making.proofs.naming.Naming.outermost.Goals as goal

pub returns : goal.returns
returns c = sym (outermost_first c.args.self.now.inner c.args.self.now.around.items c.in-Some.opened.now (cc c.in-Some.ensures.value))

pub returns-in_default : goal.returns-in_default
returns-in_default c =
    sym (outermost_none c.args.self.now.inner c.args.self.now.around.items
    (ap (λ (os : List Opened). slice_get os 0) (sym c.deref.ensures.value) ∙ sym c.first.ensures.value ∙ ap option_copied c.in_default.is))
