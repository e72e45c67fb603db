-- What the calls at a cursor say of its place, and of what they refuse nowhere.
use Rattle.std.specs.Prelude.{◌≡◌, ◌≤◌, ℕ, List, ◌++◌, Result}
use Rattle.cr_syntax.specs.declared.token.Token.{Token}
use Rattle.cr_grammar.specs.declared.tree.Tree.{Tree}
use Rattle.cr_grammar.specs.declared.wanted.Wanted.{Wanted}
use Rattle.cr_grammar.specs.Grammar.{Spells, Spells_in}
use Rattle.cr_readers.specs.declared.cursor.Cursor.{Cursor}
use Rattle.cr_readers.specs.declared.fault.ParseFault.{ParseFault}
use Rattle.cr_readers.specs.Goes.{goes_of}
use Rattle.cr_readers.specs.Reader.{State, Found}
use Rattle.cr_readers.specs.Reads.{Reads}
use Rattle.cr_readers.specs.Descent.{read}
use Rattle.cr_exact.specs.Exact.{Stops}
use Rattle.cr_descent.specs.LimitLaws.{IsWithin}
use Rattle.cr_descent.specs.Programs.{IsOnly}

-- The list and what surrounds the place are as before.
abbrev pub KeepsList : Cursor → Cursor → Type 0
KeepsList old new = (new.list ≡ old.list) × (new.within ≡ old.within)

-- What is spelled within the limits, where the next token is none by which the construct goes on, is what is answered, or memory fails.
abbrev pub Accepts : Wanted → State → Result Tree ParseFault → Type 0
Accepts wanted s r = (w rest : List Token) (x : Tree) → Spells wanted w x → s.rest ≡ w ++ rest → Stops (goes_of wanted) rest → IsWithin wanted s x → IsOnly x r

-- What is answered is what the reader of the construct finds, or why it fails, or want of memory.
abbrev pub IsRead : ℕ → ℕ → Wanted → State → Result Tree ParseFault → Type 0
IsRead turns deep wanted s r = (s' : State) × Reads (read turns deep wanted s) r s'

-- The reader finds what is spelled so with at most so many constructs in one another, and leaves the rest.
abbrev pub IsDeepEnough : ℕ → ℕ → Wanted → State → Type 0
IsDeepEnough turns deep wanted s = (m : ℕ) (w rest : List Token) (x : Tree) → Spells_in m wanted w x → s.rest ≡ w ++ rest → Stops (goes_of wanted) rest → IsWithin wanted s x
    → m ≤ deep → (s' : State) × (read turns deep wanted s ≡ Found x s') × (s'.rest ≡ rest)
