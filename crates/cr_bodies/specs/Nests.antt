-- A function value that reads what is so many constructs deep.
use Rattle.std.specs.Prelude.{ℕ, Result}
use Rattle.std.specs.declared.alloc.Global.{Global}
use denote.Ref.{MutBor}
use Rattle.cr_grammar.specs.declared.tree.Tree.{Tree}
use Rattle.cr_grammar.specs.declared.wanted.Wanted.{Wanted}
use Rattle.cr_grammar.specs.declared.wanted.Wanted.TheVariants.{Program}
use Rattle.cr_readers.specs.declared.fault.ParseFault.{ParseFault}
use Rattle.cr_readers.specs.declared.cursor.Cursor.{Cursor}
use Rattle.cr_readers.specs.Cursor.{state_of}
use Rattle.cr_readers.specs.Reads.{Reads}
use Rattle.cr_readers.specs.Descent.{read}

-- a construct that may stand in another: any but a program
abbrev pub Nestable : Wanted → Type 0
Nestable Program = ⊥
Nestable other = Unit {0}

pub record Nests (turns deep : ℕ) (pre : Global → ℕ → ℕ → Wanted → MutBor Cursor → Type 0)
    (post : Global → ℕ → ℕ → Wanted → MutBor Cursor → Result Tree ParseFault → MutBor Cursor → Type 0) : Type 0 where
  pub callable : (alloc : Global) (wanted : Wanted) (old : MutBor Cursor) → Nestable wanted → pre alloc turns deep wanted old
  pub reads : (alloc : Global) (wanted : Wanted) (old new : MutBor Cursor) (r : Result Tree ParseFault) → Nestable wanted → post alloc turns deep wanted old r new
      → Reads (read turns deep wanted (state_of old.now)) r (state_of new.now)
