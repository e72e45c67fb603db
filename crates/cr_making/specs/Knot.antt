-- A function value that rewrites what nests less deep, in each place where it may stand.
use Rattle.std.specs.Prelude.{ℕ, Result, OnOk}
use denote.Ref.{Bor, MutBor}
use Rattle.cr_base.specs.declared.memory.NoMemory.{NoMemory}
use Rattle.cr_grammar.specs.declared.tree.Tree.{Tree}
use Rattle.cr_making.specs.declared.maker.Maker.{Maker}
use Rattle.cr_making.specs.declared.view.View.{View}
use Rattle.cr_making.specs.Made.{Makes}
use Rattle.cr_making.specs.View.{viewed}
use Rattle.cr_making.specs.Table.{part}

pub record Rewrites (fuel : ℕ) (pre : MutBor Maker → ℕ → View → Bor Tree → Type 0) (post : MutBor Maker → ℕ → View → Bor Tree → Result (Unit {0}) NoMemory → MutBor Maker → Type 0) : Type 0 where
  pub callable : (old : MutBor Maker) (view : View) (tree : Bor Tree) → pre old fuel view tree
  pub rewrites : (old new : MutBor Maker) (view : View) (tree : Bor Tree) (r : Result (Unit {0}) NoMemory) → post old fuel view tree r new → OnOk r (Makes (viewed view (part tree.now)) old.now new.now)
