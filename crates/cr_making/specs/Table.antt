-- The core form of each construct: a table of rewritings, a line for each written form and place where it may stand.
use Rattle.std.specs.Prelude.{ℕ, List, [], map, Option, option_map, Bool, true, false}
use Rattle.cr_grammar.specs.declared.tree.Tree.{Tree, fold-Tree}
use Rattle.cr_grammar.specs.declared.tree.Tree.TheOpen.{Tree-F}
use Rattle.cr_core.specs.declared.form.Form.{Form}
use Rattle.cr_core.specs.declared.form.Form.TheVariants as f
use Rattle.cr_making.specs.Making.{Making, nothing, leaf, Ahead, ahead}
use Rattle.cr_making.specs.Part.{Part, Head, NoHead, Called, Element, Variable, own_of, each, is_bare, maybe_own, statements_of, members_of}
use Rattle.cr_making.specs.Terms as t
use Rattle.cr_making.specs.Control as c
use Rattle.cr_making.specs.Assigning as a
use Rattle.cr_making.specs.Declaring as d

-- ---- as a term

abbrev pub own_level : Tree-F Part → Making
own_level (Tree-F.Nil at) = leaf f.Nil at
own_level (Tree-F.True at) = leaf f.True at
own_level (Tree-F.False at) = leaf f.False at
own_level (Tree-F.Int32 at value) = leaf (f.Int32 value) at
own_level (Tree-F.Int64 at value) = leaf (f.Int64 value) at
own_level (Tree-F.Text at bytes) = t.text at bytes
own_level (Tree-F.Insertions at parts inserted) = t.insertions at parts inserted
own_level (Tree-F.KeywordSelf at) = leaf f.KeywordSelf at
own_level (Tree-F.InstanceVariable at name) = t.field at name
own_level (Tree-F.Array at elements element) = t.array at elements element
own_level (Tree-F.Hash at entries entry) = t.hash at entries entry
own_level (Tree-F.Call at receiver name arguments «block») = t.call at receiver name arguments «block»
own_level (Tree-F.Index at receiver arguments question) = t.index at receiver arguments question
own_level (Tree-F.Binary at operator left right) = t.binary at operator left right
own_level (Tree-F.Unary at operator operand) = t.unary at operator operand
own_level (Tree-F.IsNil at value) = t.is_nil at value
own_level (Tree-F.IsA at value of) = t.is_a at value of
own_level (Tree-F.New at class question arguments «block») = t.new at class question arguments «block»
own_level (Tree-F.Pause at) = leaf f.Pause at
own_level (Tree-F.Yield at arguments) = t.yield at arguments
own_level (Tree-F.Super at arguments) = t.super at arguments
own_level (Tree-F.BareSuper at) = t.bare_super at
own_level (Tree-F.Spawn at context body) = t.spawn at context body
own_level (Tree-F.If at unless condition body others otherwise) = c.conditional at unless condition body others otherwise
own_level (Tree-F.While at until condition body) = c.loop at until condition body
own_level (Tree-F.Case at value clauses) = c.case_of at value.head value.own clauses
own_level (Tree-F.Select at clauses otherwise) = c.select at clauses otherwise
own_level (Tree-F.Assign at target operator mark value) = a.assign at target.head operator mark value.own
own_level (Tree-F.Return at value) = c.jump f.Return at value
own_level (Tree-F.Next at value) = c.jump f.Next at value
own_level (Tree-F.Break at) = leaf f.Break at
own_level other = leaf f.Nil 0

-- ---- as a declaration

abbrev pub members_level : Tree-F Part → Making
members_level (Tree-F.Class at name parameters superclass members) = d.class at name parameters superclass members
members_level (Tree-F.Module at name members) = d.module_ at name members
members_level (Tree-F.Include at name) = d.include at name
members_level (Tree-F.Declaration at name of) = d.declaration at name of
members_level (Tree-F.Accessors at property accessors) = d.accessors property accessors
members_level (Tree-F.Def at name parameters result body) = d.method_members at name parameters result body
members_level other = nothing

abbrev pub is_statement_level : Tree-F Part → Bool
is_statement_level (Tree-F.Class at name parameters superclass members) = false
is_statement_level (Tree-F.Module at name members) = false
is_statement_level (Tree-F.Include at name) = false
is_statement_level (Tree-F.Declaration at name of) = false
is_statement_level (Tree-F.Accessors at property accessors) = false
is_statement_level (Tree-F.Def at name parameters result body) = false
is_statement_level other = true

abbrev pub accessor_level : Tree-F Part → Bool → Making
accessor_level (Tree-F.Accessor at name of) property = d.accessor at name of property
accessor_level other property = nothing

-- ---- as a type or a parameter

abbrev pub atoms_level : Tree-F Part → Making
atoms_level (Tree-F.Union atoms) = each (λ (p : Part). p.atoms) atoms
atoms_level (Tree-F.Atom at path arguments) = t.atom at path arguments
atoms_level other = nothing

abbrev pub class_level : Tree-F Part → Making
class_level (Tree-F.Atom at path arguments) = t.atom at path arguments
class_level other = t.nil_atom 0

abbrev pub parameter_level : Tree-F Part → Making
parameter_level (Tree-F.Parameter at instance name restriction) = d.parameter at name restriction
parameter_level other = nothing

abbrev pub fields_level : Tree-F Part → Making
fields_level (Tree-F.Parameter at instance name restriction) = d.parameter_fields at instance name restriction
fields_level other = nothing

abbrev pub is_field_level : Tree-F Part → Bool
is_field_level (Tree-F.Parameter at instance name restriction) = instance
is_field_level other = false

abbrev pub kept_level : Tree-F Part → Making
kept_level (Tree-F.Parameter at instance name restriction) = d.kept at name
kept_level other = nothing

-- ---- as a part of one construct alone

abbrev pub block_level : Tree-F Part → ℕ → Making
block_level (Tree-F.Block parameters body) at = t.block at parameters body
block_level other at = t.block at [] []

abbrev pub nils : Ahead
nils = ahead 0 c.two_nils

abbrev pub branch_level : Tree-F Part → Ahead
branch_level (Tree-F.Branch at condition body) = ahead at (c.branch at condition body)
branch_level other = nils

abbrev pub arm_level : Tree-F Part → Form → Ahead
arm_level (Tree-F.In at types body) get = ahead at (c.arm at types body get)
arm_level other get = nils

abbrev pub clause_level : Tree-F Part → Making
clause_level (Tree-F.When at target operation body) = c.when at (c.target_head target) operation.head body
clause_level other = nothing

abbrev pub pair_level : Tree-F Part → Making
pair_level (Tree-F.Pair key value) = t.two key value
pair_level other = nothing

abbrev pub pair_types_level : Tree-F Part → ℕ → Making
pair_types_level (Tree-F.Pair key value) at = t.two_unions at key value
pair_types_level other at = t.no_unions at

abbrev pub head_level : Tree-F Part → Head
head_level (Tree-F.Call at receiver name arguments «block») = Called at (maybe_own receiver) name (map own_of arguments) (is_bare arguments «block»)
head_level (Tree-F.Index at receiver arguments question) = Element at receiver.own (map own_of arguments) question
head_level (Tree-F.InstanceVariable at name) = Variable name
head_level other = NoHead

-- ---- as a list of statements

abbrev pub list_members_level : Tree-F Part → Making
list_members_level (Tree-F.Statements list) = members_of list
list_members_level other = nothing

abbrev pub list_statements_level : Tree-F Part → List Making
list_statements_level (Tree-F.Statements list) = statements_of list
list_statements_level other = []

abbrev pub part_level : Tree-F Part → Part
part_level x = record {
  own = own_level x;
  is_statement = is_statement_level x;
  members = members_level x;
  atoms = atoms_level x;
  class = class_level x;
  parameter = parameter_level x;
  fields = fields_level x;
  is_field = is_field_level x;
  kept = kept_level x;
  block = block_level x;
  branch = branch_level x;
  arm = arm_level x;
  clause = clause_level x;
  pair = pair_level x;
  pair_types = pair_types_level x;
  accessor = accessor_level x;
  head = head_level x;
  list_members = list_members_level x;
  list_statements = list_statements_level x;
}

-- what is made of a tree
abbrev pub part : Tree → Part
part = fold-Tree Part part_level

abbrev pub parts : List Tree → List Part
parts = map part

abbrev pub maybe_part : Option Tree → Option Part
maybe_part = option_map part

abbrev pub maybe_parts : Option (List Tree) → Option (List Part)
maybe_parts = option_map parts

abbrev pub own : Tree → Making
own t = (part t).own
