-- What holds of the grammar and its readers: one tree at most, the first unexpected token, the longest front.
use Rattle.std.specs.Prelude.{◌≡◌, ◌≤◌, ◌<◌, ℕ, suc, false, List, [], ◌∷◌, ◌++◌, length, Some}
use Rattle.cr_syntax.specs.declared.token.Token.{Token}
use Rattle.cr_grammar.specs.declared.tree.Tree.{Tree}
use Rattle.cr_grammar.specs.declared.wanted.Wanted.{Wanted}
use Rattle.cr_grammar.specs.Forms.{Form}
use Rattle.cr_grammar.specs.Grammar.{Spells, Spells_in}
use Rattle.cr_readers.specs.declared.fault.ParseFault.TheVariants.{Unexpected}
use Rattle.cr_readers.specs.Reader.{State, Found, Failed, place_at}
use Rattle.cr_exact.specs.Exact.{head, Effort, Exact, Any}
use Rattle.cr_exact.specs.Exact.{Clear}
use Rattle.cr_grammar.specs.declared.wanted.Wanted.TheVariants.{When, Simple, Stmt, Stmts}
use Rattle.cr_readers.specs.Goes.{goes_of}
use Rattle.cr_readers.specs.Descent.{read}

-- what a reader of so many turns and so deep has to go on for what is spelled with so many constructs in one another
abbrev pub effort_of : ℕ → ℕ → ℕ → Effort
effort_of turns n m = record { deep = m ≤ n; turns = turns }

-- Each reader is exact for its construct: what it finds is spelled, where it refuses nothing spelled goes on, and it finds all that is
-- spelled, if its depth and its turns are enough.
abbrev pub ReadersAreExact : Type 0
ReadersAreExact = (turns n m : ℕ) (wanted : Wanted) → Exact (effort_of turns n m) Any (Spells_in (suc (suc n)) wanted) (Spells_in m wanted) (goes_of wanted) (read turns n wanted)

-- One list of tokens spells at most one tree.
abbrev pub AtMostOneTree : Type 0
AtMostOneTree = (wanted : Wanted) (w : List Token) (x y : Tree) → Spells wanted w x → Spells wanted w y → x ≡ y

-- What comes tells whether more is wanted: behind a value, a type or a program anything does, and behind a statement a clear token.
abbrev pub Tells : Wanted → List Token → Type 0
Tells (When within free) rest = Clear rest
Tells (Simple within) rest = Clear rest
Tells (Stmt within) rest = Clear rest
Tells (Stmts within) rest = Clear rest
Tells other rest = Unit {0}

-- The tokens before the place begin a list that is spelled so, and with the token at it they begin none. They are none themselves, if what
-- comes tells whether more is wanted.
pub record IsUnexpected (spells : Form Tree) (tells : List Token → Type 0) (list : List Token) (place : ℕ) : Type 0 where
  pub front : List Token
  pub rest : List Token
  pub parts : list ≡ front ++ rest
  pub at_rest : place ≡ place_at rest
  pub more : List Token
  pub value : Tree
  pub alive : spells (front ++ more) value
  pub unfinished : tells rest → (x : Tree) → spells front x → ⊥
  pub dead : (other : List Token) (x : Tree) → head other ≡ head rest → spells (front ++ other) x → ⊥

-- It is the first token with which no list of the construct begins.
abbrev pub IsFirstUnexpected : Wanted → List Token → ℕ → Type 0
IsFirstUnexpected wanted list place = IsUnexpected (Spells wanted) (Tells wanted) list place

-- An unexpected token is the first with which no spelled list begins.
abbrev pub FaultsAreFirst : Type 0
FaultsAreFirst = (turns n : ℕ) (wanted : Wanted) (s s' : State) (place : ℕ) → read turns n wanted s ≡ Failed (Unexpected place) s' → IsFirstUnexpected wanted s.rest place

-- The front is spelled, no longer front of the list spells anything, and with the next token it begins no spelled list.
pub record IsLongest (wanted : Wanted) (list : List Token) (x : Tree) (rest : List Token) : Type 0 where
  pub front : List Token
  pub parts : list ≡ front ++ rest
  pub spelled : Spells wanted front x
  pub longest : (w behind : List Token) (y : Tree) → list ≡ w ++ behind → Spells wanted w y → length w ≤ length front
  pub dead : (t : Token) (u : List Token) (y : Tree) → head rest ≡ Some t → Spells wanted (front ++ t ∷ u) y → ⊥

-- What is found is spelled by the longest front, of the tokens that were left, that spells anything.
abbrev pub FoundIsLongest : Type 0
FoundIsLongest = (turns n : ℕ) (wanted : Wanted) (s s' : State) (x : Tree) → read turns n wanted s ≡ Found x s' → IsLongest wanted s.rest x s'.rest

-- All of a spelled list is found, where nesting and nodes have no limit: with so many constructs in one another as spell it, and more
-- turns than it has tokens.
abbrev pub SpelledIsFound : Type 0
SpelledIsFound = (wanted : Wanted) (w : List Token) (x : Tree) → Spells wanted w x → (n : ℕ) × ((turns : ℕ) (s : State) → s.rest ≡ w → s.limited ≡ false → length w < turns
    → (s' : State) × (read turns n wanted s ≡ Found x s') × (s'.rest ≡ []))
