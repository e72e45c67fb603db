-- The layout of each construct, by that of its parts.
use Rattle.std.proofs.Common.{◌≡◌, ℕ, Bool, List, map, Option, Some, None}
use Rattle.std.specs.Prelude.{ℤ}
use Rattle.std.specs.Option.{option_map}
use Rattle.cr_grammar.specs.declared.operator.Binary.{Binary}
use Rattle.cr_grammar.specs.declared.operator.Unary.{Unary}
use Rattle.cr_grammar.specs.declared.operator.Assignment.{Assignment}
use Rattle.cr_grammar.specs.declared.tree.Tree.{Tree, the_lemmas}
use Rattle.cr_grammar.specs.declared.tree.Tree.TheVariants as tree
use Rattle.cr_grammar.specs.declared.tree.Tree.TheOpen.{Tree-F}
use Rattle.cr_pretty.specs.Layout.{laid, laid_level}

pub of_statements : (list : List Tree) → laid (tree.Statements list) ≡ laid_level (Tree-F.Statements (map laid list))
of_statements list = search the_lemmas

pub of_union : (atoms : List Tree) → laid (tree.Union atoms) ≡ laid_level (Tree-F.Union (map laid atoms))
of_union atoms = search the_lemmas

pub of_block : (parameters : List Tree) (list : List Tree) → laid (tree.Block parameters list) ≡ laid_level (Tree-F.Block (map laid parameters) (map laid list))
of_block parameters list = search the_lemmas

pub of_pair : (key : Tree) (value : Tree) → laid (tree.Pair key value) ≡ laid_level (Tree-F.Pair (laid key) (laid value))
of_pair key value = search the_lemmas

pub of_branch : (at : ℕ) (condition : Tree) (list : List Tree) → laid (tree.Branch at condition list) ≡ laid_level (Tree-F.Branch at (laid condition) (map laid list))
of_branch at condition list = search the_lemmas

pub of_in : (at : ℕ) (types : List Tree) (list : List Tree) → laid (tree.In at types list) ≡ laid_level (Tree-F.In at (map laid types) (map laid list))
of_in at types list = search the_lemmas

pub of_when : (at : ℕ) (target : Option Tree) (operation : Tree) (list : List Tree) → laid (tree.When at target operation list) ≡ laid_level (Tree-F.When at (option_map laid target) (laid operation) (map laid list))
of_when at None operation list = search the_lemmas
of_when at (Some target_is) operation list = search the_lemmas

pub of_atom : (at : ℕ) (path : List (List ℕ)) (parameters : List Tree) → laid (tree.Atom at path parameters) ≡ laid_level (Tree-F.Atom at path (map laid parameters))
of_atom at path parameters = search the_lemmas

pub of_parameter : (at : ℕ) (instance : Bool) (name : List ℕ) (of : Option Tree) → laid (tree.Parameter at instance name of) ≡ laid_level (Tree-F.Parameter at instance name (option_map laid of))
of_parameter at instance name None = search the_lemmas
of_parameter at instance name (Some of_is) = search the_lemmas

pub of_int32 : (at : ℕ) (value : ℤ) → laid (tree.Int32 at value) ≡ laid_level (Tree-F.Int32 at value)
of_int32 at value = search the_lemmas

pub of_int64 : (at : ℕ) (value : ℤ) → laid (tree.Int64 at value) ≡ laid_level (Tree-F.Int64 at value)
of_int64 at value = search the_lemmas

pub of_text : (at : ℕ) (text : List ℕ) → laid (tree.Text at text) ≡ laid_level (Tree-F.Text at text)
of_text at text = search the_lemmas

pub of_insertions : (at : ℕ) (parts : List (List ℕ)) (inserted : List Tree) → laid (tree.Insertions at parts inserted) ≡ laid_level (Tree-F.Insertions at parts (map laid inserted))
of_insertions at parts inserted = search the_lemmas

pub of_nil : (at : ℕ) → laid (tree.Nil at) ≡ laid_level (Tree-F.Nil at)
of_nil at = search the_lemmas

pub of_true : (at : ℕ) → laid (tree.True at) ≡ laid_level (Tree-F.True at)
of_true at = search the_lemmas

pub of_false : (at : ℕ) → laid (tree.False at) ≡ laid_level (Tree-F.False at)
of_false at = search the_lemmas

pub of_keyword_self : (at : ℕ) → laid (tree.KeywordSelf at) ≡ laid_level (Tree-F.KeywordSelf at)
of_keyword_self at = search the_lemmas

pub of_instance_variable : (at : ℕ) (name : List ℕ) → laid (tree.InstanceVariable at name) ≡ laid_level (Tree-F.InstanceVariable at name)
of_instance_variable at name = search the_lemmas

pub of_array : (at : ℕ) (elements : List Tree) (element : Option Tree) → laid (tree.Array at elements element) ≡ laid_level (Tree-F.Array at (map laid elements) (option_map laid element))
of_array at elements None = search the_lemmas
of_array at elements (Some element_is) = search the_lemmas

pub of_hash : (at : ℕ) (entries : List Tree) (entry : Option Tree) → laid (tree.Hash at entries entry) ≡ laid_level (Tree-F.Hash at (map laid entries) (option_map laid entry))
of_hash at entries None = search the_lemmas
of_hash at entries (Some entry_is) = search the_lemmas

pub of_call : (at : ℕ) (context : Option Tree) (name : List ℕ) (list : List Tree) (inner : Option Tree) → laid (tree.Call at context name list inner) ≡ laid_level (Tree-F.Call at (option_map laid context) name (map laid list) (option_map laid inner))
of_call at None name list None = search the_lemmas
of_call at None name list (Some inner_is) = search the_lemmas
of_call at (Some context_is) name list None = search the_lemmas
of_call at (Some context_is) name list (Some inner_is) = search the_lemmas

pub of_index : (at : ℕ) (value : Tree) (list : List Tree) (question : Bool) → laid (tree.Index at value list question) ≡ laid_level (Tree-F.Index at (laid value) (map laid list) question)
of_index at value list question = search the_lemmas

pub of_binary : (at : ℕ) (operator : Binary) (left : Tree) (right : Tree) → laid (tree.Binary at operator left right) ≡ laid_level (Tree-F.Binary at operator (laid left) (laid right))
of_binary at operator left right = search the_lemmas

pub of_unary : (at : ℕ) (operator : Unary) (x : Tree) → laid (tree.Unary at operator x) ≡ laid_level (Tree-F.Unary at operator (laid x))
of_unary at operator x = search the_lemmas

pub of_is_nil : (at : ℕ) (value : Tree) → laid (tree.IsNil at value) ≡ laid_level (Tree-F.IsNil at (laid value))
of_is_nil at value = search the_lemmas

pub of_is_a : (at : ℕ) (value : Tree) (of : Tree) → laid (tree.IsA at value of) ≡ laid_level (Tree-F.IsA at (laid value) (laid of))
of_is_a at value of = search the_lemmas

pub of_new : (at : ℕ) (class : Tree) (question : Bool) (list : List Tree) (inner : Option Tree) → laid (tree.New at class question list inner) ≡ laid_level (Tree-F.New at (laid class) question (map laid list) (option_map laid inner))
of_new at class question list None = search the_lemmas
of_new at class question list (Some inner_is) = search the_lemmas

pub of_pause : (at : ℕ) → laid (tree.Pause at) ≡ laid_level (Tree-F.Pause at)
of_pause at = search the_lemmas

pub of_yield : (at : ℕ) (list : List Tree) → laid (tree.Yield at list) ≡ laid_level (Tree-F.Yield at (map laid list))
of_yield at list = search the_lemmas

pub of_super : (at : ℕ) (list : List Tree) → laid (tree.Super at list) ≡ laid_level (Tree-F.Super at (map laid list))
of_super at list = search the_lemmas

pub of_bare_super : (at : ℕ) → laid (tree.BareSuper at) ≡ laid_level (Tree-F.BareSuper at)
of_bare_super at = search the_lemmas

pub of_spawn : (at : ℕ) (context : Option Tree) (list : List Tree) → laid (tree.Spawn at context list) ≡ laid_level (Tree-F.Spawn at (option_map laid context) (map laid list))
of_spawn at None list = search the_lemmas
of_spawn at (Some context_is) list = search the_lemmas

pub of_if : (at : ℕ) (unless : Bool) (condition : Tree) (list : List Tree) (others : List Tree) (otherwise : Option (List Tree)) → laid (tree.If at unless condition list others otherwise) ≡ laid_level (Tree-F.If at unless (laid condition) (map laid list) (map laid others) (option_map (map laid) otherwise))
of_if at unless condition list others None = search the_lemmas
of_if at unless condition list others (Some otherwise_is) = search the_lemmas

pub of_while : (at : ℕ) (until : Bool) (condition : Tree) (list : List Tree) → laid (tree.While at until condition list) ≡ laid_level (Tree-F.While at until (laid condition) (map laid list))
of_while at until condition list = search the_lemmas

pub of_case : (at : ℕ) (value : Tree) (clauses : List Tree) → laid (tree.Case at value clauses) ≡ laid_level (Tree-F.Case at (laid value) (map laid clauses))
of_case at value clauses = search the_lemmas

pub of_select : (at : ℕ) (clauses : List Tree) (otherwise : Option (List Tree)) → laid (tree.Select at clauses otherwise) ≡ laid_level (Tree-F.Select at (map laid clauses) (option_map (map laid) otherwise))
of_select at clauses None = search the_lemmas
of_select at clauses (Some otherwise_is) = search the_lemmas

pub of_assign : (at : ℕ) (target : Tree) (operator : Assignment) (place : ℕ) (value : Tree) → laid (tree.Assign at target operator place value) ≡ laid_level (Tree-F.Assign at (laid target) operator place (laid value))
of_assign at target operator place value = search the_lemmas

pub of_return : (at : ℕ) (value : Option Tree) → laid (tree.Return at value) ≡ laid_level (Tree-F.Return at (option_map laid value))
of_return at None = search the_lemmas
of_return at (Some value_is) = search the_lemmas

pub of_next : (at : ℕ) (value : Option Tree) → laid (tree.Next at value) ≡ laid_level (Tree-F.Next at (option_map laid value))
of_next at None = search the_lemmas
of_next at (Some value_is) = search the_lemmas

pub of_break : (at : ℕ) → laid (tree.Break at) ≡ laid_level (Tree-F.Break at)
of_break at = search the_lemmas

pub of_class : (at : ℕ) (name : List ℕ) (parameters : List (List ℕ)) (superclass : Option (List ℕ)) (members : List Tree) → laid (tree.Class at name parameters superclass members) ≡ laid_level (Tree-F.Class at name parameters superclass (map laid members))
of_class at name parameters None members = search the_lemmas
of_class at name parameters (Some superclass_is) members = search the_lemmas

pub of_module : (at : ℕ) (name : List ℕ) (members : List Tree) → laid (tree.Module at name members) ≡ laid_level (Tree-F.Module at name (map laid members))
of_module at name members = search the_lemmas

pub of_include : (at : ℕ) (name : List ℕ) → laid (tree.Include at name) ≡ laid_level (Tree-F.Include at name)
of_include at name = search the_lemmas

pub of_declaration : (at : ℕ) (name : List ℕ) (of : Tree) → laid (tree.Declaration at name of) ≡ laid_level (Tree-F.Declaration at name (laid of))
of_declaration at name of = search the_lemmas

pub of_accessors : (at : ℕ) (property : Bool) (accessors : List Tree) → laid (tree.Accessors at property accessors) ≡ laid_level (Tree-F.Accessors at property (map laid accessors))
of_accessors at property accessors = search the_lemmas

pub of_accessor : (at : ℕ) (name : List ℕ) (of : Option Tree) → laid (tree.Accessor at name of) ≡ laid_level (Tree-F.Accessor at name (option_map laid of))
of_accessor at name None = search the_lemmas
of_accessor at name (Some of_is) = search the_lemmas

pub of_def : (at : ℕ) (name : List ℕ) (parameters : List Tree) (result : Option Tree) (list : List Tree) → laid (tree.Def at name parameters result list) ≡ laid_level (Tree-F.Def at name (map laid parameters) (option_map laid result) (map laid list))
of_def at name parameters None list = search the_lemmas
of_def at name parameters (Some result_is) list = search the_lemmas

-- all of them
pub ruleset constructs = (of_statements, of_union, of_block, of_pair, of_branch, of_in, of_when, of_atom, of_parameter, of_int32, of_int64, of_text, of_insertions, of_nil, of_true, of_false, of_keyword_self, of_instance_variable, of_array, of_hash, of_call, of_index, of_binary, of_unary, of_is_nil, of_is_a, of_new, of_pause, of_yield, of_super, of_bare_super, of_spawn, of_if, of_while, of_case, of_select, of_assign, of_return, of_next, of_break, of_class, of_module, of_include, of_declaration, of_accessors, of_accessor, of_def)
