-- Two trees are the same where they differ in places alone.
use Rattle.std.specs.Prelude.{◌≡◌}
use Rattle.cr_grammar.specs.declared.tree.Tree.{Tree, fold-Tree}
use Rattle.cr_grammar.specs.declared.tree.Tree.TheVariants as tree
use Rattle.cr_grammar.specs.declared.tree.Tree.TheOpen.{Tree-F}

abbrev pub unplaced_level : Tree-F Tree → Tree
unplaced_level (Tree-F.Statements list) = tree.Statements list
unplaced_level (Tree-F.Union atoms) = tree.Union atoms
unplaced_level (Tree-F.Block parameters body) = tree.Block parameters body
unplaced_level (Tree-F.Pair key value) = tree.Pair key value
unplaced_level (Tree-F.Branch at condition body) = tree.Branch 0 condition body
unplaced_level (Tree-F.In at types body) = tree.In 0 types body
unplaced_level (Tree-F.When at target operation body) = tree.When 0 target operation body
unplaced_level (Tree-F.Atom at path arguments) = tree.Atom 0 path arguments
unplaced_level (Tree-F.Parameter at instance name restriction) = tree.Parameter 0 instance name restriction
unplaced_level (Tree-F.Int32 at value) = tree.Int32 0 value
unplaced_level (Tree-F.Int64 at value) = tree.Int64 0 value
unplaced_level (Tree-F.Text at text) = tree.Text 0 text
unplaced_level (Tree-F.Insertions at parts inserted) = tree.Insertions 0 parts inserted
unplaced_level (Tree-F.Nil at) = tree.Nil 0
unplaced_level (Tree-F.True at) = tree.True 0
unplaced_level (Tree-F.False at) = tree.False 0
unplaced_level (Tree-F.KeywordSelf at) = tree.KeywordSelf 0
unplaced_level (Tree-F.InstanceVariable at name) = tree.InstanceVariable 0 name
unplaced_level (Tree-F.Array at elements element) = tree.Array 0 elements element
unplaced_level (Tree-F.Hash at entries entry) = tree.Hash 0 entries entry
unplaced_level (Tree-F.Call at receiver name arguments block) = tree.Call 0 receiver name arguments block
unplaced_level (Tree-F.Index at receiver arguments question) = tree.Index 0 receiver arguments question
unplaced_level (Tree-F.Binary at operator left right) = tree.Binary 0 operator left right
unplaced_level (Tree-F.Unary at operator operand) = tree.Unary 0 operator operand
unplaced_level (Tree-F.IsNil at value) = tree.IsNil 0 value
unplaced_level (Tree-F.IsA at value of) = tree.IsA 0 value of
unplaced_level (Tree-F.New at class question arguments block) = tree.New 0 class question arguments block
unplaced_level (Tree-F.Pause at) = tree.Pause 0
unplaced_level (Tree-F.Yield at arguments) = tree.Yield 0 arguments
unplaced_level (Tree-F.Super at arguments) = tree.Super 0 arguments
unplaced_level (Tree-F.BareSuper at) = tree.BareSuper 0
unplaced_level (Tree-F.Spawn at context body) = tree.Spawn 0 context body
unplaced_level (Tree-F.If at unless condition body others otherwise) = tree.If 0 unless condition body others otherwise
unplaced_level (Tree-F.While at until condition body) = tree.While 0 until condition body
unplaced_level (Tree-F.Case at value clauses) = tree.Case 0 value clauses
unplaced_level (Tree-F.Select at clauses otherwise) = tree.Select 0 clauses otherwise
unplaced_level (Tree-F.Assign at target operator operator_at value) = tree.Assign 0 target operator 0 value
unplaced_level (Tree-F.Return at value) = tree.Return 0 value
unplaced_level (Tree-F.Next at value) = tree.Next 0 value
unplaced_level (Tree-F.Break at) = tree.Break 0
unplaced_level (Tree-F.Class at name parameters superclass members) = tree.Class 0 name parameters superclass members
unplaced_level (Tree-F.Module at name members) = tree.Module 0 name members
unplaced_level (Tree-F.Include at name) = tree.Include 0 name
unplaced_level (Tree-F.Declaration at name of) = tree.Declaration 0 name of
unplaced_level (Tree-F.Accessors at property accessors) = tree.Accessors 0 property accessors
unplaced_level (Tree-F.Accessor at name of) = tree.Accessor 0 name of
unplaced_level (Tree-F.Def at name parameters result body) = tree.Def 0 name parameters result body

-- the tree with each place put to 0
abbrev pub unplaced : Tree → Tree
unplaced = fold-Tree Tree unplaced_level

abbrev pub Same : Tree → Tree → Type 0
Same x y = unplaced x ≡ unplaced y
