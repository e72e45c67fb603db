use Rattle.cr_making.specs.Part.{Part}
use Rattle.cr_making.proofs.Done.{makes_as, made_as, nothing_made}
use Rattle.std.proofs.Common.{sym}
use Rattle.cr_making.proofs.Tables.{facet, part_Class, part_Module, part_Include, part_Declaration, part_Accessors, part_Def, no_members}
use Rattle.cr_constructs.proofs.constructs.Constructs.members.Goals as goal

pub returns-in-Class : goal.returns-in-Class
returns-in-Class g c = makes_as c.class.result c.args.maker.now c.class.new.maker (facet (λ (p : Part). p.members) c.in-Class.is (part_Class _ _ _ _ _)) c.class.ensures

pub returns-in-Module : goal.returns-in-Module
returns-in-Module g c = makes_as c.module.result c.args.maker.now c.module.new.maker (facet (λ (p : Part). p.members) c.in-Module.is (part_Module _ _ _)) c.module.ensures

pub returns-in-Include : goal.returns-in-Include
returns-in-Include g c = makes_as c.include.result c.args.maker.now c.include.new.maker (facet (λ (p : Part). p.members) c.in-Include.is (part_Include _ _)) c.include.ensures

pub returns-in-Declaration : goal.returns-in-Declaration
returns-in-Declaration g c = makes_as c.declaration.result c.args.maker.now c.declaration.new.maker (facet (λ (p : Part). p.members) c.in-Declaration.is (part_Declaration _ _ _)) c.declaration.ensures

pub returns-in-Accessors : goal.returns-in-Accessors
returns-in-Accessors g c = makes_as c.each.result c.args.maker.now c.each.new.maker (facet (λ (p : Part). p.members) c.in-Accessors.is (part_Accessors _ _ _)) c.each.ensures

pub returns-in-Def : goal.returns-in-Def
returns-in-Def g c = makes_as c.method_members.result c.args.maker.now c.method_members.new.maker (facet (λ (p : Part). p.members) c.in-Def.is (part_Def _ _ _ _ _)) c.method_members.ensures

pub returns-in_default : goal.returns-in_default
returns-in_default g c = made_as (sym (no_members c.args.tree.now c.in_default.not-Class c.in_default.not-Module c.in_default.not-Include c.in_default.not-Declaration c.in_default.not-Accessors c.in_default.not-Def)) (nothing_made _)
