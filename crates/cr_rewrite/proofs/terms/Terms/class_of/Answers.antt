use Rattle.cr_making.specs.Part.{Part}
use Rattle.cr_making.proofs.Done.{makes_as}
use Rattle.std.proofs.Common.{sym}
use Rattle.cr_making.proofs.Tables.{facet, part_Atom, no_class}
use Rattle.cr_rewrite.proofs.terms.Terms.class_of.Goals as goal

pub returns-in-Atom : goal.returns-in-Atom
returns-in-Atom g c = makes_as c.atom.result c.args.maker.now c.atom.new.maker (facet (λ (p : Part). p.class) c.in-Atom.is (part_Atom _ _ _)) c.atom.ensures

pub returns-in_default : goal.returns-in_default
returns-in_default g c = makes_as c.nil_atom.result c.args.maker.now c.nil_atom.new.maker (sym (no_class c.args.tree.now c.in_default.not-Atom)) c.nil_atom.ensures
