use Rattle.cr_making.specs.Part.{Part}
use Rattle.cr_making.proofs.Done.{makes_as, made_as, nothing_made}
use Rattle.std.proofs.Common.{sym}
use Rattle.cr_making.proofs.Tables.{facet, part_Union, part_Atom, no_atoms}
use Rattle.cr_rewrite.proofs.terms.Terms.atoms.Goals as goal

pub returns-in-Union : goal.returns-in-Union
returns-in-Union g c = makes_as c.each.result c.args.maker.now c.each.new.maker (facet (λ (p : Part). p.atoms) c.in-Union.is (part_Union _)) c.each.ensures

pub returns-in-Atom : goal.returns-in-Atom
returns-in-Atom g c = makes_as c.atom.result c.args.maker.now c.atom.new.maker (facet (λ (p : Part). p.atoms) c.in-Atom.is (part_Atom _ _ _)) c.atom.ensures

pub returns-in_default : goal.returns-in_default
returns-in_default g c = made_as (sym (no_atoms c.args.tree.now c.in_default.not-Union c.in_default.not-Atom)) (nothing_made _)
