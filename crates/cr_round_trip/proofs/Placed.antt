-- Places leave no trace in a layout.
use Rattle.std.proofs.Common.{◌≡◌, ℕ, List, [], ◌∷◌, map, Option, Some, None, refl, sym, ap, subst, ◌∙◌}
use Rattle.std.specs.Option.{option_map}
use Rattle.cr_grammar.specs.declared.tree.Tree.{Tree, roll-Tree}
use Rattle.cr_grammar.specs.declared.tree.Tree.TheOpen.{Tree-F}
use Rattle.cr_grammar.specs.declared.tree.Tree.TheFolds.{map-Tree, fold-roll-Tree, ind-Tree}
use Rattle.cr_grammar.specs.Same.{unplaced_level, unplaced, Same}
use Rattle.cr_pretty.specs.Layout.{Laid, laid_level, laid, layout, bare}
use Rattle.cr_pieces.specs.Pieces.{text_of}
use Rattle.cr_pretty.proofs.Laid.{constructs}

-- a tree whose places leave no trace in what is laid of it
abbrev Traceless : Tree → Type 0
Traceless x = laid (unplaced x) ≡ laid x

abbrev Part : Type 0
Part = (x : Tree) × Traceless x

abbrev tree_of : Part → Tree
tree_of p = p.0

all : (ps : List Part) → map laid (map unplaced (map tree_of ps)) ≡ map laid (map tree_of ps)
all [] = refl
all (p ∷ ps) = let one = p.1 in let more = all ps in rw (one, more) refl

-- each construct, where its parts leave none
step : (p : Tree-F Part) → laid (unplaced_level (map-Tree Tree Tree unplaced (map-Tree Part Tree tree_of p))) ≡ laid_level (map-Tree Tree Laid laid (map-Tree Part Tree tree_of p))
step (Tree-F.Statements list) = simp (constructs, all list)
step (Tree-F.Union atoms) = simp (constructs, all atoms)
step (Tree-F.Block parameters list) = simp (constructs, all parameters, all list)
step (Tree-F.Pair key value) = simp (constructs, key.1, value.1)
step (Tree-F.Branch at condition list) = simp (constructs, condition.1, all list)
step (Tree-F.In at types list) = simp (constructs, all types, all list)
step (Tree-F.When at None operation list) = simp (constructs, operation.1, all list)
step (Tree-F.When at (Some target) operation list) = simp (constructs, target.1, operation.1, all list)
step (Tree-F.Atom at path parameters) = simp (constructs, all parameters)
step (Tree-F.Parameter at instance name None) = simp (constructs)
step (Tree-F.Parameter at instance name (Some of)) = simp (constructs, of.1)
step (Tree-F.Int32 at value) = simp (constructs)
step (Tree-F.Int64 at value) = simp (constructs)
step (Tree-F.Text at text) = simp (constructs)
step (Tree-F.Insertions at parts inserted) = simp (constructs, all inserted)
step (Tree-F.Nil at) = simp (constructs)
step (Tree-F.True at) = simp (constructs)
step (Tree-F.False at) = simp (constructs)
step (Tree-F.KeywordSelf at) = simp (constructs)
step (Tree-F.InstanceVariable at name) = simp (constructs)
step (Tree-F.Array at elements None) = simp (constructs, all elements)
step (Tree-F.Array at elements (Some element)) = simp (constructs, all elements, element.1)
step (Tree-F.Hash at entries None) = simp (constructs, all entries)
step (Tree-F.Hash at entries (Some entry)) = simp (constructs, all entries, entry.1)
step (Tree-F.Call at None name list None) = simp (constructs, all list)
step (Tree-F.Call at None name list (Some inner)) = simp (constructs, all list, inner.1)
step (Tree-F.Call at (Some context) name list None) = simp (constructs, context.1, all list)
step (Tree-F.Call at (Some context) name list (Some inner)) = simp (constructs, context.1, all list, inner.1)
step (Tree-F.Index at value list question) = simp (constructs, value.1, all list)
step (Tree-F.Binary at operator left right) = simp (constructs, left.1, right.1)
step (Tree-F.Unary at operator x) = simp (constructs, x.1)
step (Tree-F.IsNil at value) = simp (constructs, value.1)
step (Tree-F.IsA at value of) = simp (constructs, value.1, of.1)
step (Tree-F.New at class question list None) = simp (constructs, class.1, all list)
step (Tree-F.New at class question list (Some inner)) = simp (constructs, class.1, all list, inner.1)
step (Tree-F.Pause at) = simp (constructs)
step (Tree-F.Yield at list) = simp (constructs, all list)
step (Tree-F.Super at list) = simp (constructs, all list)
step (Tree-F.BareSuper at) = simp (constructs)
step (Tree-F.Spawn at None list) = simp (constructs, all list)
step (Tree-F.Spawn at (Some context) list) = simp (constructs, context.1, all list)
step (Tree-F.If at unless condition list others None) = simp (constructs, condition.1, all list, all others)
step (Tree-F.If at unless condition list others (Some otherwise)) = simp (constructs, condition.1, all list, all others, all otherwise)
step (Tree-F.While at until condition list) = simp (constructs, condition.1, all list)
step (Tree-F.Case at value clauses) = simp (constructs, value.1, all clauses)
step (Tree-F.Select at clauses None) = simp (constructs, all clauses)
step (Tree-F.Select at clauses (Some otherwise)) = simp (constructs, all clauses, all otherwise)
step (Tree-F.Assign at target operator place value) = simp (constructs, target.1, value.1)
step (Tree-F.Return at None) = simp (constructs)
step (Tree-F.Return at (Some value)) = simp (constructs, value.1)
step (Tree-F.Next at None) = simp (constructs)
step (Tree-F.Next at (Some value)) = simp (constructs, value.1)
step (Tree-F.Break at) = simp (constructs)
step (Tree-F.Class at name parameters superclass members) = simp (constructs, all members)
step (Tree-F.Module at name members) = simp (constructs, all members)
step (Tree-F.Include at name) = simp (constructs)
step (Tree-F.Declaration at name of) = simp (constructs, of.1)
step (Tree-F.Accessors at property accessors) = simp (constructs, all accessors)
step (Tree-F.Accessor at name None) = simp (constructs)
step (Tree-F.Accessor at name (Some of)) = simp (constructs, of.1)
step (Tree-F.Def at name parameters None list) = simp (constructs, all parameters, all list)
step (Tree-F.Def at name parameters (Some result) list) = simp (constructs, all parameters, result.1, all list)

by : (p : Tree-F Part) → Traceless (roll-Tree (map-Tree Part Tree tree_of p))
by p = let v = map-Tree Part Tree tree_of p in ap laid (fold-roll-Tree Tree unplaced_level v) ∙ step p ∙ sym (fold-roll-Tree Laid laid_level v)

traceless : (x : Tree) → Traceless x
traceless = ind-Tree Traceless (λ x p is. subst (λ (v : Tree-F Tree). Traceless (roll-Tree v)) is (by p))

pub places_leave_no_trace : (x y : Tree) → Same x y → layout x ≡ layout y
places_leave_no_trace x y same = ap (λ (v : Laid). text_of (bare 0 v)) (sym (traceless x) ∙ ap laid same ∙ traceless y)
