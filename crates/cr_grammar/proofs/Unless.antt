-- An `unless` has no branches of `elsif`.
use Rattle.std.proofs.Common.{◌≡◌, ℕ, Bool, true, false, List, [], inl, inr, sym, ap, ◌∙◌, arith}
use Rattle.std.specs.Prelude.{Option}
use Rattle.cr_grammar.specs.declared.tree.Tree.{Tree, out-Tree, the_lemmas}
use Rattle.cr_grammar.specs.declared.tree.Tree.TheOpen.{Tree-F}
use Rattle.cr_grammar.specs.declared.tree.Tree.TheVariants as tree
use Rattle.cr_grammar.specs.Laws.{UnlessHasNoElsif}

abbrev unless_level : Tree-F Tree → Bool
unless_level (Tree-F.If at unless condition body others otherwise) = unless
unless_level other = false

abbrev others_level : Tree-F Tree → List Tree
others_level (Tree-F.If at unless condition body others otherwise) = others
others_level other = []

unless_of : (a : ℕ) (b : Bool) (c : Tree) (d e : List Tree) (f : Option (List Tree)) → unless_level (out-Tree (tree.If a b c d e f)) ≡ b
unless_of a b c d e f = grind (arith, the_lemmas)

others_of : (a : ℕ) (b : Bool) (c : Tree) (d e : List Tree) (f : Option (List Tree)) → others_level (out-Tree (tree.If a b c d e f)) ≡ e
others_of a b c d e f = grind (arith, the_lemmas)

pub unless_has_no_elsif : UnlessHasNoElsif
unless_has_no_elsif n within free w at condition body others otherwise (inl r) =
    let same = ap (λ (x : Tree). unless_level (out-Tree x)) r.5.5.5.5.5.5.5.1 in
    let impossible : true ≡ false = sym (unless_of at true condition body others otherwise) ∙ (same ∙ unless_of r.2 false r.5.2 r.5.5.5.2 r.5.5.5.5.2 r.5.5.5.5.5.2) in
    absurd cc
unless_has_no_elsif n within free w at condition body others otherwise (inr r) =
    let same = ap (λ (x : Tree). others_level (out-Tree x)) r.5.5.5.5.5.5.5.1 in
    sym (others_of at true condition body others otherwise) ∙ (same ∙ (others_of r.2 true r.5.2 r.5.5.5.2 r.5.5.5.5.2 r.5.5.5.5.5.2 ∙ r.5.5.5.5.4.1))
