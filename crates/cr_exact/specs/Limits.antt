-- What a reader counts where nesting and nodes have a limit: the nodes so far, and the height of the node that was begun or
-- read last.
use Rattle.std.specs.Prelude.{◌≡◌, ℕ, ◌+◌, max, ◌<◌, ◌≤◌, Bool, true, false, not, List, [], ◌∷◌, ◌++◌, map, sum, ◌⊎◌, Option, Some, None}
use Rattle.std.specs.List.{fold}
use Rattle.cr_syntax.specs.declared.token.Token.{Token}
use Rattle.cr_grammar.specs.Forms.{Form, last_look}
use Rattle.cr_grammar.specs.Operators.{is_minus}
use Rattle.cr_readers.specs.declared.fault.ParseFault.{ParseFault}
use Rattle.cr_readers.specs.declared.fault.ParseFault.TheVariants.{TooDeep, TooManyNodes}
use Rattle.cr_readers.specs.Reader.{State, Found, Failed, Reader, Test, max_nesting, max_nodes}
use Rattle.cr_exact.specs.Exact.{at, head, Stops}

-- the nodes so far, and the height of what was read last, where that is known
pub record Tally : Type 0 where
  pub nodes : ℕ
  pub height : Option ℕ

abbrev pub known : ℕ → ℕ → Tally
known nodes height = record { nodes = nodes; height = Some height }

abbrev pub unknown : ℕ → Tally
unknown nodes = record { nodes = nodes; height = None }

abbrev pub reach : Option ℕ → ℕ
reach None = 0
reach (Some height) = height

abbrev pub IsHigh : Option ℕ → State → Type 0
IsHigh None s = Unit {0}
IsHigh (Some height) s = (s.height ≡ height) × (0 < height) × (s.depth + height ≤ max_nesting)

-- The state counts so, within the limits.
pub record Counted (t : Tally) (s : State) : Type 0 where
  pub limited : s.limited ≡ true
  pub shallow : s.depth ≤ max_nesting
  pub nodes : s.nodes ≡ t.nodes
  pub few : t.nodes ≤ max_nodes
  pub high : IsHigh t.height s

-- the place of a fault that is a limit
abbrev pub limit_at : ParseFault → Option ℕ
limit_at (TooDeep n) = Some n
limit_at (TooManyNodes n) = Some n
limit_at other = None

-- What is counted is beyond the limit, at so many nodes round it.
abbrev pub Beyond : ParseFault → ℕ → Tally → Type 0
Beyond (TooDeep n) depth t = max_nesting < depth + reach t.height
Beyond (TooManyNodes n) depth t = max_nodes < t.nodes
Beyond other depth t = ⊥

abbrev pub AtMost : Tally → Tally → Type 0
AtMost t u = (t.nodes ≤ u.nodes) × (reach t.height ≤ reach u.height)

abbrev pub last_place : List Token → ℕ
last_place [] = 0
last_place (t ∷ []) = t.span.first
last_place (t ∷ u ∷ ts) = last_place (u ∷ ts)

-- a tight token comes next
abbrev pub tight_next : List Token → Bool
tight_next [] = false
tight_next (t ∷ ts) = not t.spaced

-- Behind this front the one may stand for the other: where it ends with a `-`, a tight token comes in both or in neither.
abbrev pub ComesAs : List Token → List Token → List Token → Type 0
ComesAs front more rest = is_minus (last_look front) ≡ true → tight_next more ≡ tight_next rest

-- The place of the refusal is that of the last token that was read, and whatever is spelled where these tokens stand is beyond the
-- limit; where the last is a `-`, which may be a sign, whatever has a tight token behind it as here, or as here none.
pub record Halts {A : Type 0} (C : Form A) (goes : Test) (to : A → Tally) (s : State) (e : ParseFault) (n : ℕ) (s' : State) : Type 0 where
  pub front : List Token
  pub some : front ≡ [] → ⊥
  pub parts : s.rest ≡ front ++ s'.rest
  pub place : n ≡ last_place front
  pub beyond : (w rest more : List Token) (y : A) → C w y → w ++ rest ≡ front ++ more → ComesAs front more s'.rest → Stops goes rest → Beyond e s.depth (to y)

-- Behind tokens where `from` is counted, p counts `to x` with what it finds, never less, and halts only where all that C spells
-- there is beyond a limit.
pub record Counts {A : Type 0} (Pre : List Token → Type 0) (C : Form A) (goes : Test) (from : Tally) (to : A → Tally) (p : Reader A) : Type 0 where
  -- The condition is one of the next token alone.
  pub same : (a b : List Token) → head a ≡ head b → Pre a → Pre b
  pub grows : (w : List Token) (x : A) → C w x → AtMost from (to x)
  pub found : (s : State) (x : A) (s' : State) → Pre s.rest → Counted from s → p s ≡ Found x s' → Counted (to x) s' × (s'.depth ≡ s.depth)
  pub stopped : (s : State) (e : ParseFault) (n : ℕ) (s' : State) → Pre s.rest → Counted from s → p s ≡ Failed e s' → limit_at e ≡ Some n → Halts C goes to s e n s'

-- The same of what may halt before it reads a token, but then at the place `mark`.
pub record Second {A : Type 0} (C : Form A) (goes : Test) (from : Tally) (to : A → Tally) (mark : Option ℕ) (p : Reader A) : Type 0 where
  pub grows : (w : List Token) (x : A) → C w x → AtMost from (to x)
  pub found : (s : State) (x : A) (s' : State) → Counted from s → p s ≡ Found x s' → Counted (to x) s' × (s'.depth ≡ s.depth)
  pub stopped : (s : State) (e : ParseFault) (n : ℕ) (s' : State) → Counted from s → p s ≡ Failed e s' → limit_at e ≡ Some n
      → Halts C goes to s e n s' ⊎ ((mark ≡ Some n) × (s.rest ≡ s'.rest) × ((w : List Token) (y : A) → C w y → Beyond e s.depth (to y)))

-- a step that reads no token and counts at this place
pub record Adds (from to : Tally) (place : ℕ) (q : Reader (Unit {0})) : Type 0 where
  pub grows : AtMost from to
  pub found : (s s' : State) → Counted from s → q s ≡ Found tt s' → Counted to s' × (s'.depth ≡ s.depth) × (s'.rest ≡ s.rest)
  pub stopped : (s : State) (e : ParseFault) (n : ℕ) (s' : State) → Counted from s → q s ≡ Failed e s' → limit_at e ≡ Some n
      → (place ≡ n) × (s.rest ≡ s'.rest) × Beyond e s.depth to

-- Where p finds x, the last token that it read stands at this place, and it finds x whatever follows.
pub record Marks {A : Type 0} (R : Form A) (p : Reader A) (x : A) (place : ℕ) : Type 0 where
  pub placed : (w : List Token) → R w x → last_place w ≡ place
  pub some : (w : List Token) → R w x → w ≡ [] → ⊥
  pub firm : (s s' : State) (front more : List Token) → p s ≡ Found x s' → s.rest ≡ front ++ s'.rest → R front x → p (at s (front ++ more)) ≡ Found x (at s' more)

-- a reader that no limit stops
abbrev pub Quiet : {A : Type 0} → Reader A → Type 0
Quiet p = (s : State) (e : ParseFault) (n : ℕ) (s' : State) → p s ≡ Failed e s' → limit_at e ≡ Some n → ⊥

-- a reader that counts nothing
pub record Still {A : Type 0} (p : Reader A) : Type 0 where
  pub keeps : (s : State) (x : A) (s' : State) → p s ≡ Found x s'
      → (s'.limited ≡ s.limited) × (s'.depth ≡ s.depth) × (s'.nodes ≡ s.nodes) × (s'.height ≡ s.height)
  pub lets : Quiet p

-- what is counted with one thing after the other
abbrev pub tallied : {A : Type 0} → (Tally → A → Tally) → Tally → List A → Tally
tallied step t [] = t
tallied step t (x ∷ xs) = tallied step (step t x) xs

abbrev pub if_any : {A : Type 0} → Tally → (A → Tally) → Option A → Tally
if_any from to None = from
if_any from to (Some x) = to x

-- ---- nodes of their own, and parts of the node that was begun last

-- The reader of x makes as many nodes and nests as deep as told, wherever it begins.
abbrev pub Whole : {A : Type 0} → (A → ℕ) → (A → ℕ) → (List Token → Type 0) → Form A → Test → Reader A → Type 0
Whole size high Pre C goes p = (nodes : ℕ) → Counts Pre C goes (unknown nodes) (λ x. known (nodes + size x) (high x)) p

-- The reader of x makes so many nodes in the node that was begun last, and raises that to this height at least.
abbrev pub Rises : {A : Type 0} → (A → ℕ) → (A → ℕ) → (List Token → Type 0) → Form A → Test → Reader A → Type 0
Rises size top Pre C goes p = (nodes height : ℕ) → Counts Pre C goes (known nodes height) (λ x. known (nodes + size x) (max height (top x))) p

-- the greatest of these numbers
abbrev pub tall : List ℕ → ℕ
tall xs = fold max 0 xs

abbrev pub size_of_all : {A : Type 0} → (A → ℕ) → List A → ℕ
size_of_all size xs = sum (map size xs)

abbrev pub top_of_all : {A : Type 0} → (A → ℕ) → List A → ℕ
top_of_all top xs = tall (map top xs)

abbrev pub if_some : {A : Type 0} → (A → ℕ) → Option A → ℕ
if_some f None = 0
if_some f (Some x) = f x

-- what is counted with one more part
abbrev pub lifted : Option ℕ → ℕ → Option ℕ
lifted None top = None
lifted (Some height) top = Some (max height top)

abbrev pub risen : {A : Type 0} → (A → ℕ) → (A → ℕ) → Tally → A → Tally
risen size top t x = record { nodes = t.nodes + size x; height = lifted t.height (top x) }
