-- What the functions for types read, a step each.
use Rattle.std.specs.Prelude.{◌≡◌, ℕ, Bool, true, List, [], ◌∷◌, ◌++◌, map, Result, Ok, Err}
use Rattle.cr_syntax.specs.declared.look.TokenLook.TheVariants as l
use Rattle.cr_grammar.specs.declared.tree.Tree.{Tree}
use Rattle.cr_grammar.specs.declared.tree.Tree.TheVariants as tree
use Rattle.cr_grammar.specs.Expressions.{atoms_of, all_atoms}
use Rattle.cr_grammar.specs.declared.word.Path.{Path}
use Rattle.cr_grammar.specs.declared.wanted.Wanted.{Wanted}
use Rattle.cr_grammar.specs.declared.wanted.Wanted.TheVariants.{Written}
use Rattle.cr_grammar.specs.declared.word.Atom.{Atom}
use Rattle.cr_grammar.specs.declared.word.Word.{Word}
use Rattle.cr_readers.specs.declared.fault.ParseFault.{ParseFault}
use Rattle.cr_readers.specs.declared.fault.ParseFault.TheVariants.{NoMemory}
use Rattle.cr_readers.specs.Reader.{Reader, ◌>>=◌, ◌>>◌, pure, seen, expect, many, part, beside}
use Rattle.cr_readers.specs.Lists.{listed, parenthesized}
use Rattle.cr_readers.specs.Types as types
use Rattle.cr_readers.specs.Words.{constant}

-- what a name of a path adds to its names
unfoldable pub name_of : Word → List (List ℕ)
name_of x = x.text ∷ []

unfoldable pub behind_colons : Reader Word
behind_colons = expect l.ColonColon >> constant

-- a path behind its first name
unfoldable pub path_behind : ℕ → Word → Reader Path
path_behind turns first = do
  more ← many (seen l.ColonColon) behind_colons turns
  pure (record { at = first.at; names = first.text ∷ map (λ (x : Word). x.text) more })

-- the trees of an atom
unfoldable pub atom_trees : Atom → List Tree
atom_trees = atoms_of

module _ (turns : ℕ) (rec : Wanted → Reader Tree) where
  abbrev pub types_enclosed : Reader (List Tree)
  types_enclosed = parenthesized turns (listed turns (part (rec (Written true))))

  unfoldable pub type_atom : Bool → Reader Atom
  type_atom = types.type_atom turns rec

  unfoldable pub behind_pipe : Bool → Reader Atom
  behind_pipe with_arguments = expect l.Pipe >> beside (type_atom with_arguments)

  -- a type behind its first atom
  unfoldable pub type_behind : Bool → Atom → Reader Tree
  type_behind with_arguments first = do
    more ← many (seen l.Pipe) (behind_pipe with_arguments) turns
    pure (tree.Union (all_atoms (first ∷ more)))

-- These stand at the end then, unless memory fails.
abbrev pub IsAdded : {A : Type 0} → Result (Unit {0}) ParseFault → List A → List A → List A → Type 0
IsAdded (Ok done) old more new = new ≡ old ++ more
IsAdded (Err e) old more new = e ≡ NoMemory
