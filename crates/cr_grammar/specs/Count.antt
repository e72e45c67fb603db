-- The nodes of a tree, and how deep they nest.
use Rattle.std.specs.Prelude.{ℕ, ◌+◌, max, List, [], ◌∷◌, ◌++◌, sum, Option, Some, None}
use Rattle.std.specs.List.{fold}
use Rattle.cr_grammar.specs.declared.tree.Tree.{Tree, fold-Tree}
use Rattle.cr_grammar.specs.declared.tree.Tree.TheOpen.{Tree-F}

-- how many nodes a construct is by itself: lists, blocks and branches are none, anything else is one
abbrev pub own_nodes : Tree-F ℕ → ℕ
own_nodes (Tree-F.Statements list) = 0
own_nodes (Tree-F.Union atoms) = 0
own_nodes (Tree-F.Block parameters body) = 0
own_nodes (Tree-F.Pair key value) = 0
own_nodes (Tree-F.Branch at condition body) = 0
own_nodes (Tree-F.In at types body) = 0
own_nodes (Tree-F.When at target operation body) = 0
own_nodes other = 1

abbrev held : Option ℕ → List ℕ
held None = []
held (Some x) = x ∷ []

abbrev all_held : Option (List ℕ) → List ℕ
all_held None = []
all_held (Some xs) = xs

-- what is counted of the constructs below a construct
abbrev pub below : Tree-F ℕ → List ℕ
below (Tree-F.Statements list) = list
below (Tree-F.Union atoms) = atoms
below (Tree-F.Block parameters body) = parameters ++ body
below (Tree-F.Pair key value) = key ∷ value ∷ []
below (Tree-F.Branch at condition body) = condition ∷ body
below (Tree-F.In at types body) = types ++ body
below (Tree-F.When at target operation body) = held target ++ operation ∷ body
below (Tree-F.Atom at path arguments) = arguments
below (Tree-F.Parameter at instance name restriction) = held restriction
below (Tree-F.Insertions at parts inserted) = inserted
below (Tree-F.Array at elements element) = elements ++ held element
below (Tree-F.Hash at entries entry) = entries ++ held entry
below (Tree-F.Call at receiver name arguments block) = held receiver ++ arguments ++ held block
below (Tree-F.Index at receiver arguments question) = receiver ∷ arguments
below (Tree-F.Binary at operator left right) = left ∷ right ∷ []
below (Tree-F.Unary at operator operand) = operand ∷ []
below (Tree-F.IsNil at value) = value ∷ []
below (Tree-F.IsA at value of) = value ∷ of ∷ []
below (Tree-F.New at class question arguments block) = class ∷ arguments ++ held block
below (Tree-F.Yield at arguments) = arguments
below (Tree-F.Super at arguments) = arguments
below (Tree-F.Spawn at context body) = held context ++ body
below (Tree-F.If at unless condition body others otherwise) = condition ∷ body ++ others ++ all_held otherwise
below (Tree-F.While at until condition body) = condition ∷ body
below (Tree-F.Case at value clauses) = value ∷ clauses
below (Tree-F.Select at clauses otherwise) = clauses ++ all_held otherwise
below (Tree-F.Assign at target operator operator_at value) = target ∷ value ∷ []
below (Tree-F.Return at value) = held value
below (Tree-F.Next at value) = held value
below (Tree-F.Class at name parameters superclass members) = members
below (Tree-F.Module at name members) = members
below (Tree-F.Declaration at name of) = of ∷ []
below (Tree-F.Accessors at property accessors) = accessors
below (Tree-F.Accessor at name of) = held of
below (Tree-F.Def at name parameters result body) = parameters ++ held result ++ body
below leaf = []

abbrev pub nodes : Tree → ℕ
nodes = fold-Tree ℕ (λ level. own_nodes level + sum (below level))

abbrev pub nesting : Tree → ℕ
nesting = fold-Tree ℕ (λ level. own_nodes level + fold max 0 (below level))
