-- What is known of the counts of the recursion.
use Rattle.std.specs.Prelude.{◌+◌, Bool}
use Rattle.cr_grammar.specs.declared.tree.Tree.{Tree}
use Rattle.cr_grammar.specs.declared.within.Within.{Within}
use Rattle.cr_grammar.specs.Count.{nodes, nesting}
use Rattle.cr_grammar.specs.Forms.{Form}
use Rattle.cr_grammar.specs.declared.wanted.Wanted.{Wanted}
use Rattle.cr_grammar.specs.declared.wanted.Wanted.TheVariants.{Written, When, Unary, Or, Simple, Stmt}
use Rattle.cr_readers.specs.Reader.{Reader, Test}
use Rattle.cr_exact.specs.Exact.{Any}
use Rattle.cr_exact.specs.Limits.{Whole, Rises}
use Rattle.cr_readers.specs.Goes.{goes_of}

-- a reader of trees
abbrev pub Trees : Form Tree → Test → Reader Tree → Type 0
Trees C g p = Whole nodes nesting Any C g p

-- a reader of parts of the node that was begun last, which make up a tree that is no node
abbrev pub Parts : Form Tree → Test → Reader Tree → Type 0
Parts C g p = Rises nodes (λ x. nesting x + 1) Any C g p

pub record GivenCounts (rec : Wanted → Reader Tree) (T : Wanted → Form Tree) : Type 0 where
  pub written : (with_arguments : Bool) → Trees (T (Written with_arguments)) (goes_of (Written with_arguments)) (rec (Written with_arguments))
  pub when : (within : Within) (free : Bool) → Parts (T (When within free)) (goes_of (When within free)) (rec (When within free))
  pub unary : (within : Within) (free : Bool) → Trees (T (Unary within free)) (goes_of (Unary within free)) (rec (Unary within free))
  pub or : (within : Within) (free : Bool) → Trees (T (Or within free)) (goes_of (Or within free)) (rec (Or within free))
  pub simple : (within : Within) → Trees (T (Simple within)) (goes_of (Simple within)) (rec (Simple within))
  pub stmt : (within : Within) → Trees (T (Stmt within)) (goes_of (Stmt within)) (rec (Stmt within))
