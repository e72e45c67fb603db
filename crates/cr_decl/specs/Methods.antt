-- Parameters and methods in parts.
use Rattle.std.specs.Prelude.{ℕ, Bool, List}
use Rattle.std.specs.Str.{bytes_eq}
use Rattle.cr_syntax.specs.declared.look.TokenLook.TheVariants as l
use Rattle.cr_grammar.specs.declared.tree.Tree.{Tree}
use Rattle.cr_grammar.specs.declared.tree.Tree.TheVariants as tree
use Rattle.cr_grammar.specs.declared.wanted.Wanted.{Wanted}
use Rattle.cr_grammar.specs.declared.within.Within.{Within}
use Rattle.cr_grammar.specs.declared.word.Word.{Word}
use Rattle.cr_grammar.specs.Operators as o
use Rattle.cr_grammar.specs.Wanted.{in_method}
use Rattle.cr_readers.specs.Reader.{Reader, ◌>>=◌, ◌>>◌, pure, expect, grow}
use Rattle.cr_readers.specs.Bodies.{body}
use Rattle.cr_readers.specs.Declarations.{maybe_restriction, parameters, result_type}

module _ (turns : ℕ) (rec : Wanted → Reader Tree) where
  -- the parameter of this name; the flag tells whether that is an instance variable's
  abbrev pub parameter_of : Word → Bool → Reader Tree
  parameter_of name instance = do
    grow name.at
    of ← maybe_restriction turns rec
    pure (tree.Parameter name.at instance name.text of)

  -- a method behind its name, by what surrounds its body and whether it is `initialize`
  abbrev pub def_inside : Within → Bool → ℕ → List ℕ → Reader Tree
  def_inside within initialize at name = do
    parameters ← parameters turns rec within
    result ← result_type turns rec initialize
    expect l.Newline
    body ← body turns rec within
    expect l.KeywordEnd
    pure (tree.Def at name parameters result body)

  -- a method behind its name; the flag tells whether it stands in a class or module
  abbrev pub def_behind : Bool → ℕ → List ℕ → Reader Tree
  def_behind class at name = def_inside (in_method class name) (bytes_eq name o.initialize_name) at name
