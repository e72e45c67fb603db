use Rattle.std.proofs.Common.{ℤ, w32, w64, ap, ◌∙◌, rules}
use Rattle.std.proofs.lemmas.Int.{to_z-of_z}
use Rattle.std.specs.Prelude.{FitsSigned}
use Rattle.cr_core.specs.declared.form.Form.TheVariants as f
use Rattle.cr_making.specs.Making.{leaf}
use Rattle.cr_making.specs.Part.{Part}
use Rattle.cr_making.proofs.Done.{makes_as}
use Rattle.cr_making.proofs.Tables.{facet, part_Nil, part_True, part_False, part_Int32, part_Int64, part_Text, part_Insertions, part_KeywordSelf, part_InstanceVariable, part_Array, part_Hash, part_Call, part_Index, part_Binary, part_Unary, part_IsNil, part_IsA, part_New, part_Pause, part_Yield, part_Super, part_BareSuper, part_Spawn, part_If, part_While, part_Case, part_Select, part_Assign, part_Return, part_Next, part_Break, part_Statements, part_Union, part_Block, part_Pair, part_Branch, part_In, part_When, part_Atom, part_Parameter, part_Class, part_Module, part_Include, part_Declaration, part_Accessors, part_Accessor, part_Def}
use Rattle.cr_rewrite.proofs.terms.Terms.own.Goals as goal

pub returns-in-Nil : goal.returns-in-Nil
returns-in-Nil g c = makes_as c.leaf.result c.args.maker.now c.leaf.new.self (facet (λ (p : Part). p.own) c.in-Nil.is (part_Nil _)) c.leaf.ensures

pub returns-in-True : goal.returns-in-True
returns-in-True g c = makes_as c.leaf-in-True.result c.args.maker.now c.leaf-in-True.new.self (facet (λ (p : Part). p.own) c.in-True.is (part_True _)) c.leaf-in-True.ensures

pub returns-in-False : goal.returns-in-False
returns-in-False g c = makes_as c.leaf-in-False.result c.args.maker.now c.leaf-in-False.new.self (facet (λ (p : Part). p.own) c.in-False.is (part_False _)) c.leaf-in-False.ensures

pub returns-in-Int32 : goal.returns-in-Int32
returns-in-Int32 g c =
    let fits : FitsSigned w32 c.in-Int32.value = search rules in
    makes_as c.leaf-in-Int32.result c.args.maker.now c.leaf-in-Int32.new.self
    (ap (λ (z : ℤ). leaf (f.Int32 z) c.in-Int32.at) (to_z-of_z w32 c.in-Int32.value fits) ∙ facet (λ (p : Part). p.own) c.in-Int32.is (part_Int32 _ _)) c.leaf-in-Int32.ensures

pub returns-in-Int64 : goal.returns-in-Int64
returns-in-Int64 g c =
    let fits : FitsSigned w64 c.in-Int64.value = search rules in
    makes_as c.leaf-in-Int64.result c.args.maker.now c.leaf-in-Int64.new.self
    (ap (λ (z : ℤ). leaf (f.Int64 z) c.in-Int64.at) (to_z-of_z w64 c.in-Int64.value fits) ∙ facet (λ (p : Part). p.own) c.in-Int64.is (part_Int64 _ _)) c.leaf-in-Int64.ensures

pub returns-in-Text : goal.returns-in-Text
returns-in-Text g c = makes_as c.text.result c.args.maker.now c.text.new.maker (facet (λ (p : Part). p.own) c.in-Text.is (part_Text _ _)) c.text.ensures

pub returns-in-Insertions : goal.returns-in-Insertions
returns-in-Insertions g c = makes_as c.insertions.result c.args.maker.now c.insertions.new.maker (facet (λ (p : Part). p.own) c.in-Insertions.is (part_Insertions _ _ _)) c.insertions.ensures

pub returns-in-KeywordSelf : goal.returns-in-KeywordSelf
returns-in-KeywordSelf g c = makes_as c.leaf-in-KeywordSelf.result c.args.maker.now c.leaf-in-KeywordSelf.new.self (facet (λ (p : Part). p.own) c.in-KeywordSelf.is (part_KeywordSelf _)) c.leaf-in-KeywordSelf.ensures

pub returns-in-InstanceVariable : goal.returns-in-InstanceVariable
returns-in-InstanceVariable g c = makes_as c.field.result c.args.maker.now c.field.new.maker (facet (λ (p : Part). p.own) c.in-InstanceVariable.is (part_InstanceVariable _ _)) c.field.ensures

pub returns-in-Array : goal.returns-in-Array
returns-in-Array g c = makes_as c.array.result c.args.maker.now c.array.new.maker (facet (λ (p : Part). p.own) c.in-Array.is (part_Array _ _ _)) c.array.ensures

pub returns-in-Hash : goal.returns-in-Hash
returns-in-Hash g c = makes_as c.hash.result c.args.maker.now c.hash.new.maker (facet (λ (p : Part). p.own) c.in-Hash.is (part_Hash _ _ _)) c.hash.ensures

pub returns-in-Call : goal.returns-in-Call
returns-in-Call g c = makes_as c.call.result c.args.maker.now c.call.new.maker (facet (λ (p : Part). p.own) c.in-Call.is (part_Call _ _ _ _ _)) c.call.ensures

pub returns-in-Index : goal.returns-in-Index
returns-in-Index g c = makes_as c.index.result c.args.maker.now c.index.new.maker (facet (λ (p : Part). p.own) c.in-Index.is (part_Index _ _ _ _)) c.index.ensures

pub returns-in-Binary : goal.returns-in-Binary
returns-in-Binary g c = makes_as c.binary.result c.args.maker.now c.binary.new.maker (facet (λ (p : Part). p.own) c.in-Binary.is (part_Binary _ _ _ _)) c.binary.ensures

pub returns-in-Unary : goal.returns-in-Unary
returns-in-Unary g c = makes_as c.unary.result c.args.maker.now c.unary.new.maker (facet (λ (p : Part). p.own) c.in-Unary.is (part_Unary _ _ _)) c.unary.ensures

pub returns-in-IsNil : goal.returns-in-IsNil
returns-in-IsNil g c = makes_as c.is_nil.result c.args.maker.now c.is_nil.new.maker (facet (λ (p : Part). p.own) c.in-IsNil.is (part_IsNil _ _)) c.is_nil.ensures

pub returns-in-IsA : goal.returns-in-IsA
returns-in-IsA g c = makes_as c.is_a.result c.args.maker.now c.is_a.new.maker (facet (λ (p : Part). p.own) c.in-IsA.is (part_IsA _ _ _)) c.is_a.ensures

pub returns-in-New : goal.returns-in-New
returns-in-New g c = makes_as c.new_.result c.args.maker.now c.new_.new.maker (facet (λ (p : Part). p.own) c.in-New.is (part_New _ _ _ _ _)) c.new_.ensures

pub returns-in-Pause : goal.returns-in-Pause
returns-in-Pause g c = makes_as c.leaf-in-Pause.result c.args.maker.now c.leaf-in-Pause.new.self (facet (λ (p : Part). p.own) c.in-Pause.is (part_Pause _)) c.leaf-in-Pause.ensures

pub returns-in-Yield : goal.returns-in-Yield
returns-in-Yield g c = makes_as c.yield_.result c.args.maker.now c.yield_.new.maker (facet (λ (p : Part). p.own) c.in-Yield.is (part_Yield _ _)) c.yield_.ensures

pub returns-in-Super : goal.returns-in-Super
returns-in-Super g c = makes_as c.super_.result c.args.maker.now c.super_.new.maker (facet (λ (p : Part). p.own) c.in-Super.is (part_Super _ _)) c.super_.ensures

pub returns-in-BareSuper : goal.returns-in-BareSuper
returns-in-BareSuper g c = makes_as c.bare_super.result c.args.maker.now c.bare_super.new.maker (facet (λ (p : Part). p.own) c.in-BareSuper.is (part_BareSuper _)) c.bare_super.ensures

pub returns-in-Spawn : goal.returns-in-Spawn
returns-in-Spawn g c = makes_as c.spawn.result c.args.maker.now c.spawn.new.maker (facet (λ (p : Part). p.own) c.in-Spawn.is (part_Spawn _ _ _)) c.spawn.ensures

pub returns-in-If : goal.returns-in-If
returns-in-If g c = makes_as c.conditional.result c.args.maker.now c.conditional.new.maker (facet (λ (p : Part). p.own) c.in-If.is (part_If _ _ _ _ _ _)) c.conditional.ensures

pub returns-in-While : goal.returns-in-While
returns-in-While g c = makes_as c.repeat.result c.args.maker.now c.repeat.new.maker (facet (λ (p : Part). p.own) c.in-While.is (part_While _ _ _ _)) c.repeat.ensures

pub returns-in-Case : goal.returns-in-Case
returns-in-Case g c = makes_as c.case.result c.args.maker.now c.case.new.maker (facet (λ (p : Part). p.own) c.in-Case.is (part_Case _ _ _)) c.case.ensures

pub returns-in-Select : goal.returns-in-Select
returns-in-Select g c = makes_as c.select.result c.args.maker.now c.select.new.maker (facet (λ (p : Part). p.own) c.in-Select.is (part_Select _ _ _)) c.select.ensures

pub returns-in-Assign : goal.returns-in-Assign
returns-in-Assign g c = makes_as c.assign.result c.args.maker.now c.assign.new.maker (facet (λ (p : Part). p.own) c.in-Assign.is (part_Assign _ _ _ _ _)) c.assign.ensures

pub returns-in-Return : goal.returns-in-Return
returns-in-Return g c = makes_as c.jump.result c.args.maker.now c.jump.new.maker (facet (λ (p : Part). p.own) c.in-Return.is (part_Return _ _)) c.jump.ensures

pub returns-in-Next : goal.returns-in-Next
returns-in-Next g c = makes_as c.jump-in-Next.result c.args.maker.now c.jump-in-Next.new.maker (facet (λ (p : Part). p.own) c.in-Next.is (part_Next _ _)) c.jump-in-Next.ensures

pub returns-in-Break : goal.returns-in-Break
returns-in-Break g c = makes_as c.leaf-in-Break.result c.args.maker.now c.leaf-in-Break.new.self (facet (λ (p : Part). p.own) c.in-Break.is (part_Break _)) c.leaf-in-Break.ensures

pub returns-in-Statements : goal.returns-in-Statements
returns-in-Statements g c = makes_as c.leaf-in-Statements.result c.args.maker.now c.leaf-in-Statements.new.self (facet (λ (p : Part). p.own) c.in-Statements.is (part_Statements _)) c.leaf-in-Statements.ensures

pub returns-in-Union : goal.returns-in-Union
returns-in-Union g c = makes_as c.leaf-in-Union.result c.args.maker.now c.leaf-in-Union.new.self (facet (λ (p : Part). p.own) c.in-Union.is (part_Union _)) c.leaf-in-Union.ensures

pub returns-in-Block : goal.returns-in-Block
returns-in-Block g c = makes_as c.leaf-in-Block.result c.args.maker.now c.leaf-in-Block.new.self (facet (λ (p : Part). p.own) c.in-Block.is (part_Block _ _)) c.leaf-in-Block.ensures

pub returns-in-Pair : goal.returns-in-Pair
returns-in-Pair g c = makes_as c.leaf-in-Pair.result c.args.maker.now c.leaf-in-Pair.new.self (facet (λ (p : Part). p.own) c.in-Pair.is (part_Pair _ _)) c.leaf-in-Pair.ensures

pub returns-in-Branch : goal.returns-in-Branch
returns-in-Branch g c = makes_as c.leaf-in-Branch.result c.args.maker.now c.leaf-in-Branch.new.self (facet (λ (p : Part). p.own) c.in-Branch.is (part_Branch _ _ _)) c.leaf-in-Branch.ensures

pub returns-in-In : goal.returns-in-In
returns-in-In g c = makes_as c.leaf-in-In.result c.args.maker.now c.leaf-in-In.new.self (facet (λ (p : Part). p.own) c.in-In.is (part_In _ _ _)) c.leaf-in-In.ensures

pub returns-in-When : goal.returns-in-When
returns-in-When g c = makes_as c.leaf-in-When.result c.args.maker.now c.leaf-in-When.new.self (facet (λ (p : Part). p.own) c.in-When.is (part_When _ _ _ _)) c.leaf-in-When.ensures

pub returns-in-Atom : goal.returns-in-Atom
returns-in-Atom g c = makes_as c.leaf-in-Atom.result c.args.maker.now c.leaf-in-Atom.new.self (facet (λ (p : Part). p.own) c.in-Atom.is (part_Atom _ _ _)) c.leaf-in-Atom.ensures

pub returns-in-Parameter : goal.returns-in-Parameter
returns-in-Parameter g c = makes_as c.leaf-in-Parameter.result c.args.maker.now c.leaf-in-Parameter.new.self (facet (λ (p : Part). p.own) c.in-Parameter.is (part_Parameter _ _ _ _)) c.leaf-in-Parameter.ensures

pub returns-in-Class : goal.returns-in-Class
returns-in-Class g c = makes_as c.leaf-in-Class.result c.args.maker.now c.leaf-in-Class.new.self (facet (λ (p : Part). p.own) c.in-Class.is (part_Class _ _ _ _ _)) c.leaf-in-Class.ensures

pub returns-in-Module : goal.returns-in-Module
returns-in-Module g c = makes_as c.leaf-in-Module.result c.args.maker.now c.leaf-in-Module.new.self (facet (λ (p : Part). p.own) c.in-Module.is (part_Module _ _ _)) c.leaf-in-Module.ensures

pub returns-in-Include : goal.returns-in-Include
returns-in-Include g c = makes_as c.leaf-in-Include.result c.args.maker.now c.leaf-in-Include.new.self (facet (λ (p : Part). p.own) c.in-Include.is (part_Include _ _)) c.leaf-in-Include.ensures

pub returns-in-Declaration : goal.returns-in-Declaration
returns-in-Declaration g c = makes_as c.leaf-in-Declaration.result c.args.maker.now c.leaf-in-Declaration.new.self (facet (λ (p : Part). p.own) c.in-Declaration.is (part_Declaration _ _ _)) c.leaf-in-Declaration.ensures

pub returns-in-Accessors : goal.returns-in-Accessors
returns-in-Accessors g c = makes_as c.leaf-in-Accessors.result c.args.maker.now c.leaf-in-Accessors.new.self (facet (λ (p : Part). p.own) c.in-Accessors.is (part_Accessors _ _ _)) c.leaf-in-Accessors.ensures

pub returns-in-Accessor : goal.returns-in-Accessor
returns-in-Accessor g c = makes_as c.leaf-in-Accessor.result c.args.maker.now c.leaf-in-Accessor.new.self (facet (λ (p : Part). p.own) c.in-Accessor.is (part_Accessor _ _ _)) c.leaf-in-Accessor.ensures

pub returns-in-Def : goal.returns-in-Def
returns-in-Def g c = makes_as c.leaf-in-Def.result c.args.maker.now c.leaf-in-Def.new.self (facet (λ (p : Part). p.own) c.in-Def.is (part_Def _ _ _ _ _)) c.leaf-in-Def.ensures
