-- What a loop gathers is what the readers of a path and of a type put together at their end.
use Rattle.std.proofs.Common.{◌≡◌, ℕ, ◌+◌, ◌-◌, ◌<◌, Bool, true, List, [], ◌∷◌, ◌++◌, map, refl, sym, ap, ◌∙◌}
use Rattle.std.specs.List.{flat_map}
use Rattle.std.proofs.lemmas.List.Concat.{flat_map_single}
use Rattle.cr_syntax.specs.declared.look.TokenLook.TheVariants as l
use Rattle.cr_grammar.specs.declared.tree.Tree.{Tree}
use Rattle.cr_grammar.specs.declared.tree.Tree.TheVariants as tree
use Rattle.cr_grammar.specs.declared.word.Path.{Path}
use Rattle.cr_grammar.specs.declared.word.Atom.{Atom}
use Rattle.cr_grammar.specs.declared.word.Word.{Word}
use Rattle.cr_grammar.specs.declared.wanted.Wanted.{Wanted}
use Rattle.cr_grammar.specs.Expressions.{atoms_of, all_atoms}
use Rattle.cr_readers.specs.declared.fault.ParseFault.{ParseFault}
use Rattle.cr_readers.specs.Reader.{State, Outcome, Found, Failed, Reader, Test, passes, and_then, many, seen}
use Rattle.cr_words.specs.Lists.{gather_each}
use Rattle.cr_words.proofs.Loops.{each_turn}
use Rattle.cr_bodies.specs.Atoms.{name_of, behind_colons, path_behind, atom_trees, behind_pipe, type_behind}

abbrev path_at : ℕ → List (List ℕ) → Path
path_at at names = record { at = at; names = names }

pub names_turn : (test : Test) (p : Reader Word) (n at : ℕ) (found : List (List ℕ)) (s s1 : State) (x : Word)
    → at < n → passes test s.rest ≡ true → p s ≡ Found x s1
    → gather_each name_of found (many test p (n - at) s) ≡ gather_each name_of (found ++ x.text ∷ []) (many test p (n - (at + 1)) s1)
unfolding name_of
names_turn = each_turn name_of

path_with : (first : Word) (o : Outcome (List Word))
    → and_then {B = Path} o (λ more s. Found (path_at first.at (first.text ∷ map (λ (x : Word). x.text) more)) s)
    ≡ and_then (gather_each name_of (first.text ∷ []) o) (λ names s. Found (path_at first.at names) s)
unfolding gather_each name_of
path_with first (Found more s) = ap (λ names. Found (path_at first.at (first.text ∷ names)) s) (sym (flat_map_single (λ (x : Word). x.text) more))
path_with first (Failed e s) = refl

module _ (turns : ℕ) (first : Word) (s s1 : State) where
  names_from : Outcome (List (List ℕ))
  names_from = gather_each name_of (first.text ∷ []) (many (seen l.ColonColon) behind_colons turns s)

  path_is : path_behind turns first s ≡ and_then names_from (λ names s. Found (path_at first.at names) s)
  unfolding path_behind names_from
  path_is = path_with first (many (seen l.ColonColon) behind_colons turns s)

  pub path_found : (names : List (List ℕ)) → gather_each name_of (first.text ∷ []) (many (seen l.ColonColon) behind_colons turns s) ≡ Found names s1
      → path_behind turns first s ≡ Found (path_at first.at names) s1
  unfolding names_from
  path_found names is = path_is ∙ ap (λ o. and_then o (λ names s. Found (path_at first.at names) s)) is

  pub path_fails : (e : ParseFault) → gather_each name_of (first.text ∷ []) (many (seen l.ColonColon) behind_colons turns s) ≡ Failed e s1
      → path_behind turns first s ≡ Failed e s1
  unfolding names_from
  path_fails e is = path_is ∙ ap (λ o. and_then o (λ names s. Found (path_at first.at names) s)) is

all_are : (more : List Atom) → all_atoms more ≡ flat_map atom_trees more
unfolding atom_trees
all_are [] = refl
all_are (a ∷ more) = ap (λ trees. atoms_of a ++ trees) (all_are more)

type_with : (first : Atom) (o : Outcome (List Atom))
    → and_then {B = Tree} o (λ more s. Found (tree.Union (all_atoms (first ∷ more))) s)
    ≡ and_then (gather_each atom_trees (atom_trees first) o) (λ trees s. Found (tree.Union trees) s)
unfolding gather_each atom_trees
type_with first (Found more s) = ap (λ trees. Found (tree.Union (atoms_of first ++ trees)) s) (all_are more)
type_with first (Failed e s) = refl

module _ (turns : ℕ) (rec : Wanted → Reader Tree) (with_arguments : Bool) (first : Atom) (s s1 : State) where
  trees_from : Outcome (List Tree)
  trees_from = gather_each atom_trees (atom_trees first) (many (seen l.Pipe) (behind_pipe turns rec with_arguments) turns s)

  type_is : type_behind turns rec with_arguments first s ≡ and_then trees_from (λ trees s. Found (tree.Union trees) s)
  unfolding type_behind trees_from
  type_is = type_with first (many (seen l.Pipe) (behind_pipe turns rec with_arguments) turns s)

  pub type_found : (trees : List Tree) → gather_each atom_trees (atom_trees first) (many (seen l.Pipe) (behind_pipe turns rec with_arguments) turns s) ≡ Found trees s1
      → type_behind turns rec with_arguments first s ≡ Found (tree.Union trees) s1
  unfolding trees_from
  type_found trees is = type_is ∙ ap (λ o. and_then o (λ trees s. Found (tree.Union trees) s)) is

  pub type_fails : (e : ParseFault) → gather_each atom_trees (atom_trees first) (many (seen l.Pipe) (behind_pipe turns rec with_arguments) turns s) ≡ Failed e s1
      → type_behind turns rec with_arguments first s ≡ Failed e s1
  unfolding trees_from
  type_fails e is = type_is ∙ ap (λ o. and_then o (λ trees s. Found (tree.Union trees) s)) is
