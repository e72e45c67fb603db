-- Readers of types.
use Rattle.std.specs.Prelude.{ℕ, Bool, true, false, List, [], ◌∷◌, map, Option, Some, None}
use Rattle.cr_syntax.specs.declared.look.TokenLook.TheVariants as l
use Rattle.cr_grammar.specs.declared.tree.Tree.{Tree}
use Rattle.cr_grammar.specs.declared.tree.Tree.TheVariants as tree
use Rattle.cr_grammar.specs.declared.word.Word.{Word}
use Rattle.cr_grammar.specs.declared.wanted.Wanted.{Wanted}
use Rattle.cr_grammar.specs.declared.wanted.Wanted.TheVariants.{Written}
use Rattle.cr_grammar.specs.declared.word.Path.{Path}
use Rattle.cr_grammar.specs.declared.word.Atom.{Atom}
use Rattle.cr_grammar.specs.Expressions.{all_atoms}
use Rattle.cr_readers.specs.Reader.{Reader, ◌>>=◌, ◌>>◌, pure, tight_seen, seen, expect, choose, many, grow, part, beside}
use Rattle.cr_readers.specs.Lists.{optional, listed, parenthesized}
use Rattle.cr_readers.specs.Words.{constant}

module _ (turns : ℕ) (rec : Wanted → Reader Tree) where
  -- path = Const { "::" Const }, the node of an atom
  abbrev pub path : Reader Path
  path = do
    first ← constant
    grow first.at
    more ← many (seen l.ColonColon) (expect l.ColonColon >> constant) turns
    pure (record { at = first.at; names = first.text ∷ map (λ (x : Word). x.text) more })

  abbrev pub type_arguments : Bool → Reader (List Tree)
  type_arguments true = choose (tight_seen l.OpenParenthesis) (parenthesized turns (listed turns (part (rec (Written true))))) (pure [])
  type_arguments false = pure []

  -- atom = path [ tight "(" type { "," type } ")" ] [ tight "?" ]
  abbrev pub atom : Bool → Reader Atom
  atom with_arguments = do
    path ← path
    arguments ← type_arguments with_arguments
    question ← optional (tight_seen l.Question) (expect l.Question)
    pure (record { path = path; arguments = arguments; question = question })

  -- the node of the `?` in a type
  abbrev pub question_node : Option ℕ → Reader (Unit {0})
  question_node None = pure tt
  question_node (Some at) = beside (grow at)

  -- an atom of a type
  abbrev pub type_atom : Bool → Reader Atom
  type_atom with_arguments = do
    atom ← atom with_arguments
    question_node atom.question
    pure atom

  -- type = atom { "|" atom }
  abbrev pub written : Bool → Reader Tree
  written with_arguments = do
    first ← type_atom with_arguments
    more ← many (seen l.Pipe) (expect l.Pipe >> beside (type_atom with_arguments)) turns
    pure (tree.Union (all_atoms (first ∷ more)))
