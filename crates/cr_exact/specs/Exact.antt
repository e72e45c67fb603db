-- A reader is exact for a form: what it finds is spelled, where it refuses no spelled list goes on, and it finds all that is
-- spelled.
use Rattle.std.specs.Prelude.{◌≡◌, ℕ, ◌<◌, Bool, true, false, List, [], ◌∷◌, ◌++◌, length, Option, Some, None}
use Rattle.std.specs.Prelude.{◌⊎◌}
use Rattle.cr_syntax.specs.declared.look.TokenLook.{TokenLook}
use Rattle.cr_syntax.specs.declared.look.TokenLook.TheVariants as l
use Rattle.cr_syntax.specs.declared.token.TokenKind.{TokenKind}
use Rattle.cr_syntax.specs.declared.token.TokenKind.TheVariants as k
use Rattle.cr_syntax.specs.declared.token.Token.{Token}
use Rattle.cr_syntax.specs.Look.{look_of}
use Rattle.cr_grammar.specs.Forms.{Form}
use Rattle.cr_readers.specs.declared.fault.ParseFault.{ParseFault}
use Rattle.cr_readers.specs.declared.fault.ParseFault.TheVariants.{Unexpected, NoMemory}
use Rattle.cr_readers.specs.Reader.{State, Outcome, Found, Failed, Reader, Test, passes, place_at}

-- the same state at other tokens
abbrev pub at : State → List Token → State
at s rest = record s { rest = rest }

abbrev pub head : List Token → Option Token
head [] = None
head (t ∷ ts) = Some t

-- the look of the last of these tokens, before which one of the look `before` stands
abbrev pub last_from : TokenLook → List Token → TokenLook
last_from before [] = before
last_from before (t ∷ ts) = last_from (look_of t.kind) ts

-- the next token does not pass the test
abbrev pub Stops : Test → List Token → Type 0
Stops test ts = passes test ts ≡ false

-- what may stop a reader before the end of what is spelled: want of memory, where it has not enough to go on, or a limit, where there
-- is one
abbrev pub MayStop : Type 0 → Bool → ParseFault → Type 0
MayStop enough limited (Unexpected n) = ⊥
MayStop enough limited NoMemory = enough → ⊥
MayStop enough limited other = limited ≡ true

-- what a reader is given to go on: whether its recursion goes as deep as what is spelled, and the turns of its loops
pub record Effort : Type 1 where
  pub deep : Type 0
  pub turns : ℕ

-- It is enough for what is left.
abbrev pub Enough : Effort → State → Type 0
Enough effort s = effort.deep × (length s.rest < effort.turns)

-- x is found, and what is left then begins behind a token of this look; or what may stop the reader does
abbrev pub Ends : {A : Type 0} → Type 0 → Outcome A → A → TokenLook → List Token → Bool → Type 0
Ends enough (Found y m) x before rest limited = (y ≡ x) × (m.before ≡ before) × (m.rest ≡ rest) × (m.limited ≡ limited)
Ends enough (Failed e m) x before rest limited = MayStop enough limited e

-- What is found is spelled by the tokens that were read, and is found again whatever follows that begins alike.
pub record Finds {A : Type 0} (R : Form A) (p : Reader A) (s : State) (x : A) (s' : State) : Type 0 where
  pub front : List Token
  pub parts : s.rest ≡ front ++ s'.rest
  pub ends : s'.before ≡ last_from s.before front
  pub spelled : R front x
  pub again : (rest : List Token) → head rest ≡ head s'.rest → p (at s (front ++ rest)) ≡ Found x (at s' rest)

-- The tokens before the place of the refusal begin a spelled list, and it is refused again whatever follows that begins alike.
pub record Refuses {A : Type 0} (R : Form A) (p : Reader A) (s : State) (n : ℕ) (s' : State) : Type 0 where
  pub front : List Token
  pub parts : s.rest ≡ front ++ s'.rest
  pub place : n ≡ place_at s'.rest
  pub more : List Token
  pub value : A
  pub begins : R (front ++ more) value
  pub again : (rest : List Token) → head rest ≡ head s'.rest → p (at s (front ++ rest)) ≡ Failed (Unexpected n) (at s' rest)

-- The tokens that were read begin a spelled list, if there are any.
pub record Begins {A : Type 0} (R : Form A) (s s' : State) : Type 0 where
  pub front : List Token
  pub parts : s.rest ≡ front ++ s'.rest
  pub begins : (front ≡ [] → ⊥) → (more : List Token) × (value : A) × R (front ++ more) value

-- It ends with less than this left.
abbrev pub GoesBeyond : {A : Type 0} → Outcome A → List Token → Type 0
GoesBeyond (Found y m) rest = length m.rest < length rest
GoesBeyond (Failed (Unexpected n) m) rest = length m.rest < length rest
GoesBeyond (Failed other m) rest = Unit {0}

-- It finds x before this, or ends with less than this left.
abbrev pub Reaches : {A : Type 0} → Outcome A → A → List Token → Type 0
Reaches (Found y m) x rest = (length m.rest < length rest) ⊎ ((m.rest ≡ rest) × (y ≡ x))
Reaches (Failed (Unexpected n) m) x rest = length m.rest < length rest
Reaches (Failed other m) x rest = Unit {0}

-- The tokens that begin an argument behind a name wherever they stand, though not everywhere a value begins with them: a spaced `yield`,
-- `super`, `self` or instance variable.
abbrev pub scoped : Test
scoped l.Yield spaced = spaced
scoped l.Super spaced = spaced
scoped l.KeywordSelf spaced = spaced
scoped l.InstanceVariable spaced = spaced
scoped other spaced = false

-- A kind that no token of a text has: a name, a number or a text without what it holds.
abbrev pub hollow : TokenKind → Bool
hollow (k.Plain l.Ident) = true
hollow (k.Plain l.Constant) = true
hollow (k.Plain l.InstanceVariable) = true
hollow (k.Plain l.Int32) = true
hollow (k.Plain l.Int64) = true
hollow (k.Plain l.Text) = true
hollow (k.Plain l.TextFirst) = true
hollow (k.Plain l.TextMiddle) = true
hollow (k.Plain l.TextLast) = true
hollow other = false

-- The next token, if there is one, is neither scoped nor hollow: its look tells what it begins.
abbrev pub Clear : List Token → Type 0
Clear [] = Unit {0}
Clear (t ∷ ts) = (scoped (look_of t.kind) t.spaced ≡ false) × (hollow t.kind ≡ false)

-- At tokens of which `Pre` holds, p finds only what R spells, refuses only where no more of R comes, fails in no way behind tokens that
-- begin nothing of R, and finds all that C spells where it does not go on by `goes`. What C spells it never refuses behind, nor reads it as
-- something else, if a clear token comes or none.
pub record Exact (effort : Effort) {A : Type 0} (Pre : List Token → Type 0) (R C : Form A) (goes : Test) (p : Reader A) : Type 0 where
  pub found : (s : State) (x : A) (s' : State) → Pre s.rest → p s ≡ Found x s' → Finds R p s x s'
  pub refused : (s : State) (n : ℕ) (s' : State) → Pre s.rest → p s ≡ Failed (Unexpected n) s' → Refuses R p s n s'
  pub begun : (s : State) (e : ParseFault) (s' : State) → Pre s.rest → p s ≡ Failed e s' → Begins R s s'
  pub complete : (w : List Token) (x : A) (s : State) (rest : List Token) → Pre s.rest → C w x → s.rest ≡ w ++ rest → Stops goes rest
      → Ends (Enough effort s) (p s) x (last_from s.before w) rest s.limited
  pub reaches : (w : List Token) (x : A) (s : State) (rest : List Token) → Pre s.rest → C w x → s.rest ≡ w ++ rest → Clear rest → Reaches (p s) x rest

-- of any tokens
abbrev pub Any : List Token → Type 0
Any ts = Unit {0}
