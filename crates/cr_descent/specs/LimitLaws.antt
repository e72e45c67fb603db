-- What holds of the limits: what is found within them has these nodes and this nesting, and what is refused for a limit has no way
-- to go on within it.
use Rattle.std.specs.Prelude.{◌≡◌, ◌≤◌, ◌<◌, ◌+◌, ℕ, max, List, [], ◌++◌, length}
use Rattle.cr_syntax.specs.declared.token.Token.{Token}
use Rattle.cr_grammar.specs.declared.tree.Tree.{Tree}
use Rattle.cr_grammar.specs.Count.{nodes, nesting}
use Rattle.cr_grammar.specs.declared.wanted.Wanted.{Wanted}
use Rattle.cr_grammar.specs.declared.wanted.Wanted.TheVariants.{When, Stmts, Program}
use Rattle.cr_grammar.specs.Grammar.{Spells, Spells_in}
use Rattle.cr_readers.specs.declared.fault.ParseFault.TheVariants.{TooDeep, TooManyNodes, NoMemory}
use Rattle.cr_readers.specs.Reader.{State, Outcome, Found, Failed, max_nesting, max_nodes}
use Rattle.cr_exact.specs.Exact.{Stops, Enough, Any}
use Rattle.cr_readers.specs.Cursor.{start_of}
use Rattle.cr_exact.specs.Limits.{Tally, known, unknown, Counted, Counts, ComesAs, last_place}
use Rattle.cr_readers.specs.Goes.{goes_of}
use Rattle.cr_readers.specs.Descent.{read}
use Rattle.cr_descent.specs.Laws.{effort_of}

-- How high the tree is that was read last: a clause of `select` is a part of the node that was begun last, lists of statements stand
-- beside what was read last, and anything else is a tree of its own.
abbrev pub height_with : Wanted → ℕ → Tree → ℕ
height_with (When within free) height x = max height (nesting x + 1)
height_with (Stmts within) height x = max height (nesting x)
height_with Program height x = max height (nesting x)
height_with other height x = nesting x

-- what is counted before a construct: of one that is a tree of its own nothing need be known of the height
abbrev pub counted_before : Wanted → ℕ → ℕ → Tally
counted_before (When within free) n height = known n height
counted_before (Stmts within) n height = known n height
counted_before Program n height = known n height
counted_before other n height = unknown n

-- and behind it
abbrev pub counted_behind : Wanted → ℕ → ℕ → Tree → Tally
counted_behind wanted n height x = known (n + nodes x) (height_with wanted height x)

-- Nesting and nodes have a limit, and the state is within it; of a construct that is no tree of its own, so is the node that was begun
-- or read last.
abbrev pub IsLimited : Wanted → State → Type 0
IsLimited wanted s = Counted (counted_before wanted s.nodes s.height) s

-- Before all tokens the state is within the limits.
abbrev pub BeginsLimited : Type 0
BeginsLimited = (wanted : Wanted) (list : List Token) → IsLimited wanted (start_of list)

-- Each reader counts the nodes and the nesting of its construct.
abbrev pub ReadersCount : Type 0
ReadersCount = (turns n m : ℕ) (wanted : Wanted) (before height : ℕ)
    → Counts Any (Spells_in m wanted) (goes_of wanted) (counted_before wanted before height) (counted_behind wanted before height) (read turns n wanted)

-- These nodes are counted, and the tree nests no deeper than allowed.
pub record IsCounted (wanted : Wanted) (s s' : State) (x : Tree) : Type 0 where
  pub nodes : s'.nodes ≡ s.nodes + nodes x
  pub few : s'.nodes ≤ max_nodes
  pub height : s'.height ≡ height_with wanted s.height x
  pub nested : s.depth + height_with wanted s.height x ≤ max_nesting
  pub depth : s'.depth ≡ s.depth

-- What is found within the limits has these nodes and this nesting.
abbrev pub FoundIsCounted : Type 0
FoundIsCounted = (turns n : ℕ) (wanted : Wanted) (s s' : State) (x : Tree) → IsLimited wanted s → read turns n wanted s ≡ Found x s' → IsCounted wanted s s' x

-- The place is that of the last token of a front, with which a spelled list begins. Whatever is spelled by this front alone has more
-- than so much, and so has whatever is spelled by it and any tokens behind it; where it ends with a `-`, which may be a sign, if they are
-- as tight as what comes.
pub record HasNoWay (wanted : Wanted) (most : ℕ) (much : Tree → ℕ) (list : List Token) (place : ℕ) : Type 0 where
  pub front : List Token
  pub rest : List Token
  pub some : front ≡ [] → ⊥
  pub parts : list ≡ front ++ rest
  pub at_last : place ≡ last_place front
  pub more : List Token
  pub value : Tree
  pub alive : Spells wanted (front ++ more) value
  pub alone : (y : Tree) → Spells wanted front y → most < much y
  pub beyond : (more : List Token) (y : Tree) → ComesAs front more rest → Spells wanted (front ++ more) y → most < much y

-- What nests too deep has no way to go on within the limit.
abbrev pub TooDeepHasNoWay : Type 0
TooDeepHasNoWay = (turns n : ℕ) (wanted : Wanted) (s s' : State) (place : ℕ) → IsLimited wanted s → read turns n wanted s ≡ Failed (TooDeep place) s'
    → HasNoWay wanted max_nesting (λ y. s.depth + height_with wanted s.height y) s.rest place

-- What has too many nodes has no way to go on within the limit.
abbrev pub TooManyHasNoWay : Type 0
TooManyHasNoWay = (turns n : ℕ) (wanted : Wanted) (s s' : State) (place : ℕ) → IsLimited wanted s → read turns n wanted s ≡ Failed (TooManyNodes place) s'
    → HasNoWay wanted max_nodes (λ y. s.nodes + nodes y) s.rest place

-- The state is within the limits, and what is read there keeps within them.
pub record IsWithin (wanted : Wanted) (s : State) (x : Tree) : Type 0 where
  pub before : IsLimited wanted s
  pub nested : s.depth + height_with wanted s.height x ≤ max_nesting
  pub few : s.nodes + nodes x ≤ max_nodes

-- x is found, and this is left; or memory fails, where there is not enough to go on
abbrev pub IsFoundIf : Type 0 → Outcome Tree → Tree → List Token → Type 0
IsFoundIf enough (Found y m) x rest = (y ≡ x) × (m.rest ≡ rest)
IsFoundIf enough (Failed e m) x rest = (e ≡ NoMemory) × (enough → ⊥)

-- What is spelled within the limits is found, where the next token is none by which it goes on, or memory fails; and that only where
-- depth or turns are not enough.
abbrev pub WithinIsFound : Type 0
WithinIsFound = (turns n m : ℕ) (wanted : Wanted) (w rest : List Token) (x : Tree) (s : State) → Spells_in m wanted w x → s.rest ≡ w ++ rest
    → Stops (goes_of wanted) rest → IsWithin wanted s x → IsFoundIf (Enough (effort_of turns n m) s) (read turns n wanted s) x rest

-- All of a list that is spelled within the limits is found, with so many constructs in one another as spell it, and more turns than it
-- has tokens.
abbrev pub WithinIsFoundWhole : Type 0
WithinIsFoundWhole = (wanted : Wanted) (w : List Token) (x : Tree) → Spells wanted w x → (deep : ℕ) × ((turns n : ℕ) (s : State) → s.rest ≡ w → IsWithin wanted s x
    → deep ≤ n → length w < turns → (s' : State) × (read turns n wanted s ≡ Found x s') × (s'.rest ≡ []))
