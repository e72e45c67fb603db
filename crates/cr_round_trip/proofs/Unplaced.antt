-- Each construct without places, by its parts.
use Rattle.std.proofs.Common.{◌≡◌, ℕ, Bool, List, map, Option, Some, None}
use Rattle.std.specs.Prelude.{ℤ}
use Rattle.std.specs.Option.{option_map}
use Rattle.cr_grammar.specs.declared.operator.Binary.{Binary}
use Rattle.cr_grammar.specs.declared.operator.Unary.{Unary}
use Rattle.cr_grammar.specs.declared.operator.Assignment.{Assignment}
use Rattle.cr_grammar.specs.declared.tree.Tree.{Tree, the_lemmas}
use Rattle.cr_grammar.specs.declared.tree.Tree.TheVariants as tree
use Rattle.cr_grammar.specs.declared.tree.Tree.TheOpen.{Tree-F}
use Rattle.cr_grammar.specs.Same.{unplaced, unplaced_level}

pub of_statements : (list : List Tree) → unplaced (tree.Statements list) ≡ unplaced_level (Tree-F.Statements (map unplaced list))
of_statements list = search the_lemmas

pub of_union : (atoms : List Tree) → unplaced (tree.Union atoms) ≡ unplaced_level (Tree-F.Union (map unplaced atoms))
of_union atoms = search the_lemmas

pub of_block : (parameters : List Tree) (list : List Tree) → unplaced (tree.Block parameters list) ≡ unplaced_level (Tree-F.Block (map unplaced parameters) (map unplaced list))
of_block parameters list = search the_lemmas

pub of_pair : (key : Tree) (value : Tree) → unplaced (tree.Pair key value) ≡ unplaced_level (Tree-F.Pair (unplaced key) (unplaced value))
of_pair key value = search the_lemmas

pub of_branch : (at : ℕ) (condition : Tree) (list : List Tree) → unplaced (tree.Branch at condition list) ≡ unplaced_level (Tree-F.Branch at (unplaced condition) (map unplaced list))
of_branch at condition list = search the_lemmas

pub of_in : (at : ℕ) (types : List Tree) (list : List Tree) → unplaced (tree.In at types list) ≡ unplaced_level (Tree-F.In at (map unplaced types) (map unplaced list))
of_in at types list = search the_lemmas

pub of_when : (at : ℕ) (target : Option Tree) (operation : Tree) (list : List Tree) → unplaced (tree.When at target operation list) ≡ unplaced_level (Tree-F.When at (option_map unplaced target) (unplaced operation) (map unplaced list))
of_when at None operation list = search the_lemmas
of_when at (Some target_is) operation list = search the_lemmas

pub of_atom : (at : ℕ) (path : List (List ℕ)) (parameters : List Tree) → unplaced (tree.Atom at path parameters) ≡ unplaced_level (Tree-F.Atom at path (map unplaced parameters))
of_atom at path parameters = search the_lemmas

pub of_parameter : (at : ℕ) (instance : Bool) (name : List ℕ) (of : Option Tree) → unplaced (tree.Parameter at instance name of) ≡ unplaced_level (Tree-F.Parameter at instance name (option_map unplaced of))
of_parameter at instance name None = search the_lemmas
of_parameter at instance name (Some of_is) = search the_lemmas

pub of_int32 : (at : ℕ) (value : ℤ) → unplaced (tree.Int32 at value) ≡ unplaced_level (Tree-F.Int32 at value)
of_int32 at value = search the_lemmas

pub of_int64 : (at : ℕ) (value : ℤ) → unplaced (tree.Int64 at value) ≡ unplaced_level (Tree-F.Int64 at value)
of_int64 at value = search the_lemmas

pub of_text : (at : ℕ) (text : List ℕ) → unplaced (tree.Text at text) ≡ unplaced_level (Tree-F.Text at text)
of_text at text = search the_lemmas

pub of_insertions : (at : ℕ) (parts : List (List ℕ)) (inserted : List Tree) → unplaced (tree.Insertions at parts inserted) ≡ unplaced_level (Tree-F.Insertions at parts (map unplaced inserted))
of_insertions at parts inserted = search the_lemmas

pub of_nil : (at : ℕ) → unplaced (tree.Nil at) ≡ unplaced_level (Tree-F.Nil at)
of_nil at = search the_lemmas

pub of_true : (at : ℕ) → unplaced (tree.True at) ≡ unplaced_level (Tree-F.True at)
of_true at = search the_lemmas

pub of_false : (at : ℕ) → unplaced (tree.False at) ≡ unplaced_level (Tree-F.False at)
of_false at = search the_lemmas

pub of_keyword_self : (at : ℕ) → unplaced (tree.KeywordSelf at) ≡ unplaced_level (Tree-F.KeywordSelf at)
of_keyword_self at = search the_lemmas

pub of_instance_variable : (at : ℕ) (name : List ℕ) → unplaced (tree.InstanceVariable at name) ≡ unplaced_level (Tree-F.InstanceVariable at name)
of_instance_variable at name = search the_lemmas

pub of_array : (at : ℕ) (elements : List Tree) (element : Option Tree) → unplaced (tree.Array at elements element) ≡ unplaced_level (Tree-F.Array at (map unplaced elements) (option_map unplaced element))
of_array at elements None = search the_lemmas
of_array at elements (Some element_is) = search the_lemmas

pub of_hash : (at : ℕ) (entries : List Tree) (entry : Option Tree) → unplaced (tree.Hash at entries entry) ≡ unplaced_level (Tree-F.Hash at (map unplaced entries) (option_map unplaced entry))
of_hash at entries None = search the_lemmas
of_hash at entries (Some entry_is) = search the_lemmas

pub of_call : (at : ℕ) (context : Option Tree) (name : List ℕ) (list : List Tree) (inner : Option Tree) → unplaced (tree.Call at context name list inner) ≡ unplaced_level (Tree-F.Call at (option_map unplaced context) name (map unplaced list) (option_map unplaced inner))
of_call at None name list None = search the_lemmas
of_call at None name list (Some inner_is) = search the_lemmas
of_call at (Some context_is) name list None = search the_lemmas
of_call at (Some context_is) name list (Some inner_is) = search the_lemmas

pub of_index : (at : ℕ) (value : Tree) (list : List Tree) (question : Bool) → unplaced (tree.Index at value list question) ≡ unplaced_level (Tree-F.Index at (unplaced value) (map unplaced list) question)
of_index at value list question = search the_lemmas

pub of_binary : (at : ℕ) (operator : Binary) (left : Tree) (right : Tree) → unplaced (tree.Binary at operator left right) ≡ unplaced_level (Tree-F.Binary at operator (unplaced left) (unplaced right))
of_binary at operator left right = search the_lemmas

pub of_unary : (at : ℕ) (operator : Unary) (x : Tree) → unplaced (tree.Unary at operator x) ≡ unplaced_level (Tree-F.Unary at operator (unplaced x))
of_unary at operator x = search the_lemmas

pub of_is_nil : (at : ℕ) (value : Tree) → unplaced (tree.IsNil at value) ≡ unplaced_level (Tree-F.IsNil at (unplaced value))
of_is_nil at value = search the_lemmas

pub of_is_a : (at : ℕ) (value : Tree) (of : Tree) → unplaced (tree.IsA at value of) ≡ unplaced_level (Tree-F.IsA at (unplaced value) (unplaced of))
of_is_a at value of = search the_lemmas

pub of_new : (at : ℕ) (class : Tree) (question : Bool) (list : List Tree) (inner : Option Tree) → unplaced (tree.New at class question list inner) ≡ unplaced_level (Tree-F.New at (unplaced class) question (map unplaced list) (option_map unplaced inner))
of_new at class question list None = search the_lemmas
of_new at class question list (Some inner_is) = search the_lemmas

pub of_pause : (at : ℕ) → unplaced (tree.Pause at) ≡ unplaced_level (Tree-F.Pause at)
of_pause at = search the_lemmas

pub of_yield : (at : ℕ) (list : List Tree) → unplaced (tree.Yield at list) ≡ unplaced_level (Tree-F.Yield at (map unplaced list))
of_yield at list = search the_lemmas

pub of_super : (at : ℕ) (list : List Tree) → unplaced (tree.Super at list) ≡ unplaced_level (Tree-F.Super at (map unplaced list))
of_super at list = search the_lemmas

pub of_bare_super : (at : ℕ) → unplaced (tree.BareSuper at) ≡ unplaced_level (Tree-F.BareSuper at)
of_bare_super at = search the_lemmas

pub of_spawn : (at : ℕ) (context : Option Tree) (list : List Tree) → unplaced (tree.Spawn at context list) ≡ unplaced_level (Tree-F.Spawn at (option_map unplaced context) (map unplaced list))
of_spawn at None list = search the_lemmas
of_spawn at (Some context_is) list = search the_lemmas

pub of_if : (at : ℕ) (unless : Bool) (condition : Tree) (list : List Tree) (others : List Tree) (otherwise : Option (List Tree)) → unplaced (tree.If at unless condition list others otherwise) ≡ unplaced_level (Tree-F.If at unless (unplaced condition) (map unplaced list) (map unplaced others) (option_map (map unplaced) otherwise))
of_if at unless condition list others None = search the_lemmas
of_if at unless condition list others (Some otherwise_is) = search the_lemmas

pub of_while : (at : ℕ) (until : Bool) (condition : Tree) (list : List Tree) → unplaced (tree.While at until condition list) ≡ unplaced_level (Tree-F.While at until (unplaced condition) (map unplaced list))
of_while at until condition list = search the_lemmas

pub of_case : (at : ℕ) (value : Tree) (clauses : List Tree) → unplaced (tree.Case at value clauses) ≡ unplaced_level (Tree-F.Case at (unplaced value) (map unplaced clauses))
of_case at value clauses = search the_lemmas

pub of_select : (at : ℕ) (clauses : List Tree) (otherwise : Option (List Tree)) → unplaced (tree.Select at clauses otherwise) ≡ unplaced_level (Tree-F.Select at (map unplaced clauses) (option_map (map unplaced) otherwise))
of_select at clauses None = search the_lemmas
of_select at clauses (Some otherwise_is) = search the_lemmas

pub of_assign : (at : ℕ) (target : Tree) (operator : Assignment) (place : ℕ) (value : Tree) → unplaced (tree.Assign at target operator place value) ≡ unplaced_level (Tree-F.Assign at (unplaced target) operator place (unplaced value))
of_assign at target operator place value = search the_lemmas

pub of_return : (at : ℕ) (value : Option Tree) → unplaced (tree.Return at value) ≡ unplaced_level (Tree-F.Return at (option_map unplaced value))
of_return at None = search the_lemmas
of_return at (Some value_is) = search the_lemmas

pub of_next : (at : ℕ) (value : Option Tree) → unplaced (tree.Next at value) ≡ unplaced_level (Tree-F.Next at (option_map unplaced value))
of_next at None = search the_lemmas
of_next at (Some value_is) = search the_lemmas

pub of_break : (at : ℕ) → unplaced (tree.Break at) ≡ unplaced_level (Tree-F.Break at)
of_break at = search the_lemmas

pub of_class : (at : ℕ) (name : List ℕ) (parameters : List (List ℕ)) (superclass : Option (List ℕ)) (members : List Tree) → unplaced (tree.Class at name parameters superclass members) ≡ unplaced_level (Tree-F.Class at name parameters superclass (map unplaced members))
of_class at name parameters None members = search the_lemmas
of_class at name parameters (Some superclass_is) members = search the_lemmas

pub of_module : (at : ℕ) (name : List ℕ) (members : List Tree) → unplaced (tree.Module at name members) ≡ unplaced_level (Tree-F.Module at name (map unplaced members))
of_module at name members = search the_lemmas

pub of_include : (at : ℕ) (name : List ℕ) → unplaced (tree.Include at name) ≡ unplaced_level (Tree-F.Include at name)
of_include at name = search the_lemmas

pub of_declaration : (at : ℕ) (name : List ℕ) (of : Tree) → unplaced (tree.Declaration at name of) ≡ unplaced_level (Tree-F.Declaration at name (unplaced of))
of_declaration at name of = search the_lemmas

pub of_accessors : (at : ℕ) (property : Bool) (accessors : List Tree) → unplaced (tree.Accessors at property accessors) ≡ unplaced_level (Tree-F.Accessors at property (map unplaced accessors))
of_accessors at property accessors = search the_lemmas

pub of_accessor : (at : ℕ) (name : List ℕ) (of : Option Tree) → unplaced (tree.Accessor at name of) ≡ unplaced_level (Tree-F.Accessor at name (option_map unplaced of))
of_accessor at name None = search the_lemmas
of_accessor at name (Some of_is) = search the_lemmas

pub of_def : (at : ℕ) (name : List ℕ) (parameters : List Tree) (result : Option Tree) (list : List Tree) → unplaced (tree.Def at name parameters result list) ≡ unplaced_level (Tree-F.Def at name (map unplaced parameters) (option_map unplaced result) (map unplaced list))
of_def at name parameters None list = search the_lemmas
of_def at name parameters (Some result_is) list = search the_lemmas

-- all of them
pub ruleset constructs = (of_statements, of_union, of_block, of_pair, of_branch, of_in, of_when, of_atom, of_parameter, of_int32, of_int64, of_text, of_insertions, of_nil, of_true, of_false, of_keyword_self, of_instance_variable, of_array, of_hash, of_call, of_index, of_binary, of_unary, of_is_nil, of_is_a, of_new, of_pause, of_yield, of_super, of_bare_super, of_spawn, of_if, of_while, of_case, of_select, of_assign, of_return, of_next, of_break, of_class, of_module, of_include, of_declaration, of_accessors, of_accessor, of_def)
