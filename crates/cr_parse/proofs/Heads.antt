-- The reader of a primary is that of its classes.
use Rattle.std.proofs.Common.{◌≡◌, ℕ, Bool, true, false, refl}
use Rattle.cr_syntax.specs.declared.look.TokenLook.{TokenLook}
use Rattle.cr_syntax.specs.declared.look.TokenLook.TheVariants as l
use Rattle.cr_grammar.specs.declared.tree.Tree.{Tree}
use Rattle.cr_grammar.specs.declared.tree.Tree.TheVariants as tree
use Rattle.cr_grammar.specs.declared.within.Within.{Within}
use Rattle.cr_grammar.specs.declared.wanted.Wanted.{Wanted}
use Rattle.cr_grammar.specs.Wanted.{in_object}
use Rattle.cr_readers.specs.Reader.{Reader, State, look_at, allow}
use Rattle.cr_readers.specs.Primaries.{primary_by, primary, all_of, leaf}
use Rattle.cr_parse.specs.Primaries.{name_by}

module _ (turns : ℕ) (rec : Wanted → Reader Tree) (within : Within) (free : Bool) where
  allowed : (b : Bool) (p : Reader Tree) (s : State) → allow b (all_of turns rec within free p) s ≡ all_of turns rec within free (allow b p) s
  allowed true p s = refl
  allowed false p s = refl

  class_is : (look : TokenLook) (s : State) → primary_by turns rec within free look s ≡ name_by turns rec within free look s
  class_is l.KeywordSelf s = allowed (in_object within) (leaf turns rec within free l.KeywordSelf (λ at. tree.KeywordSelf at)) s
  class_is other s = refl

  pub primary_is : (s : State) → primary turns rec within free s ≡ name_by turns rec within free (look_at s.rest) s
  primary_is s = class_is (look_at s.rest) s
