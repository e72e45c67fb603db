-- What reads tokens: a function from the tokens that are left to what it finds and what is left then, or to a fault.
use Rattle.std.specs.Prelude.{ℕ, zero, suc, ◌+◌, ◌-◌, max, min, nat_le, Bool, false, not, ◌&&◌, ◌||◌, cond, List, [], ◌∷◌, Option, Some, None}
use denote.Enum.Bare.{sameb}
use Rattle.cr_syntax.specs.contracts.look.TokenLook.{the_type}
use Rattle.cr_syntax.specs.declared.look.TokenLook.{TokenLook}
use Rattle.cr_syntax.specs.declared.look.TokenLook.TheVariants as l
use Rattle.cr_syntax.specs.declared.token.Token.{Token}
use Rattle.cr_syntax.specs.declared.token.TokenKind.{TokenKind}
use Rattle.cr_syntax.specs.Look.{look_of}
use Rattle.cr_grammar.specs.declared.word.Word.{Word}
use Rattle.cr_readers.specs.declared.cursor.TheConstants.{MAX_NESTING, MAX_NODES}
use Rattle.cr_readers.specs.declared.fault.ParseFault.{ParseFault}
use Rattle.cr_readers.specs.declared.fault.ParseFault.TheVariants.{Unexpected, TooDeep, TooManyNodes, NoMemory}

pub record State : Type 0 where
  -- the look of the token that was read last
  pub before : TokenLook
  pub rest : List Token
  -- how many nodes are open round the next token, how many there are so far, and how high the one is that was read last
  pub depth : ℕ
  pub nodes : ℕ
  pub height : ℕ
  -- whether nesting and nodes have a limit
  pub limited : Bool

pub data Outcome (A : Type 0) : Type 0 where
  Found : (x : A) (s : State) → Outcome A
  Failed : (e : ParseFault) (s : State) → Outcome A

abbrev pub Reader : Type 0 → Type 0
Reader A = State → Outcome A

-- ---- one after the other

abbrev pub and_then : {A B : Type 0} → Outcome A → (A → Reader B) → Outcome B
and_then (Found x s) f = f x s
and_then (Failed e s) f = Failed e s

infixl 10 ◌>>=◌
abbrev pub ◌>>=◌ : {A B : Type 0} → Reader A → (A → Reader B) → Reader B
p >>= f = λ s. and_then (p s) f

infixl 10 ◌>>◌
abbrev pub ◌>>◌ : {A B : Type 0} → Reader A → Reader B → Reader B
p >> q = p >>= (λ _. q)

abbrev pub pure : {A : Type 0} → A → Reader A
pure x = λ s. Found x s

-- ---- the next token

abbrev pub look_at : List Token → TokenLook
look_at [] = l.End
look_at (t ∷ ts) = look_of t.kind

abbrev pub place_at : List Token → ℕ
place_at [] = 0
place_at (t ∷ ts) = t.span.first

abbrev pub tail : List Token → List Token
tail [] = []
tail (t ∷ ts) = ts

-- behind the next token
unfoldable pub next : State → State
next s = record s { before = look_at s.rest; rest = tail s.rest }

-- a test of a token by its look and whether it is spaced
abbrev pub Test : Type 0
Test = TokenLook → Bool → Bool

abbrev pub passes : Test → List Token → Bool
passes test [] = false
passes test (t ∷ ts) = test (look_of t.kind) t.spaced

abbrev pub read_by : {A : Type 0} → (Token → Option A) → List Token → Option A
read_by f [] = None
read_by f (t ∷ ts) = f t

unfoldable pub same_look : TokenLook → TokenLook → Bool
same_look = sameb the_type

-- passes one test or the other
abbrev pub either : Test → Test → Test
either a b found spaced = a found spaced || b found spaced

-- no token passes
abbrev pub never : Test
never found spaced = false

-- a token of this look
abbrev pub seen : TokenLook → Test
seen look found spaced = same_look found look

-- a tight token of this look
abbrev pub tight_seen : TokenLook → Test
tight_seen look found spaced = not spaced && same_look found look

-- ---- steps

abbrev pub refuse : {A : Type 0} → Reader A
refuse = λ s. Failed (Unexpected (place_at s.rest)) s

-- no turn is left
abbrev pub give_up : {A : Type 0} → Reader A
give_up = λ s. Failed NoMemory s

abbrev pub taken : {A : Type 0} → Option A → Reader A
taken None = refuse
taken (Some x) = λ s. Found x (next s)

-- one token that stands for an A
abbrev pub take : {A : Type 0} → (Token → Option A) → Reader A
take f = λ s. taken (read_by f s.rest) s

abbrev pub place_if : Bool → Token → Option ℕ
place_if b t = cond b (Some t.span.first) None

abbrev pub word_read : TokenLook → Token → Option ℕ
word_read look t = place_if (same_look (look_of t.kind) look) t

-- a token of this look, with its place
abbrev pub expect : TokenLook → Reader ℕ
expect look = take (word_read look)

abbrev pub worded : Token → Option (List ℕ) → Option Word
worded t None = None
worded t (Some text) = Some (record { at = t.span.first; text = text })

-- a token that holds a text, with its place
abbrev pub holder : (TokenKind → Option (List ℕ)) → Reader Word
holder text_of = take (λ t. worded t (text_of t.kind))

-- one way or the other, by a test of the next token
abbrev pub choose : {A : Type 0} → Test → Reader A → Reader A → Reader A
choose test p q = λ s. cond (passes test s.rest) p q s

-- only where the next token passes the test
abbrev pub only : {A : Type 0} → Test → Reader A → Reader A
only test p = choose test p refuse

-- by the look of the next token
abbrev pub by_look : {A : Type 0} → (TokenLook → Reader A) → Reader A
by_look f = λ s. f (look_at s.rest) s

-- the look of the token that was read last
abbrev pub last : Reader TokenLook
last = λ s. Found s.before s

-- the place of the next token
abbrev pub here : Reader ℕ
here = λ s. Found (place_at s.rest) s

-- what is read, with the look of its last token
abbrev pub with_last : {A : Type 0} → Reader A → Reader (A × TokenLook)
with_last p = p >>= λ x. last >>= λ look. pure (x, look)

-- the reader where a condition holds that has nothing to do with the tokens
abbrev pub allow : {A : Type 0} → Bool → Reader A → Reader A
allow b p = cond b p refuse

-- ---- loops, with so many turns at most

abbrev pub many : {A : Type 0} → Test → Reader A → ℕ → Reader (List A)
many test p zero = give_up
many test p (suc n) = choose test (p >>= λ x. many test p n >>= λ xs. pure (x ∷ xs)) (pure [])

abbrev pub repeated : {A : Type 0} → Test → (A → Reader A) → ℕ → A → Reader A
repeated test p zero x = give_up
repeated test p (suc n) x = choose test (p x >>= repeated test p n) (pure x)

-- ---- nodes and nesting

abbrev pub max_nesting : ℕ
max_nesting = MAX_NESTING

abbrev pub max_nodes : ℕ
max_nodes = MAX_NODES

-- a node that the token at this place makes, on top of so many levels, unless that is one too many
abbrev pub node_above : ℕ → ℕ → Reader (Unit {0})
node_above place height = λ s. cond (s.limited && nat_le max_nesting (s.depth + height)) (Failed (TooDeep place) s)
    (cond (s.limited && nat_le max_nodes s.nodes) (Failed (TooManyNodes place) s)
    (Found tt (record s { nodes = s.nodes + 1; height = height + 1 })))

-- a node of its own
unfoldable pub grow : ℕ → Reader (Unit {0})
grow place = node_above place 0

-- a node above what was read last
unfoldable pub wrap : ℕ → Reader (Unit {0})
wrap place = λ s. node_above place s.height s

-- What is read at another depth: how that is counted from the depth here, how this is counted back, and how high what is read
-- then is, from the height before and its own.
abbrev pub around : {A : Type 0} → (ℕ → ℕ) → (ℕ → ℕ) → (ℕ → ℕ → ℕ) → Reader A → Reader A
around into back above p = λ s. and_then (p (record s { depth = into s.depth })) (λ x m. Found x (record m { depth = back m.depth; height = above s.height m.height }))

abbrev pub deeper : ℕ → ℕ
deeper depth = min (depth + 1) 4294967295

abbrev pub shallower : ℕ → ℕ
shallower depth = depth - 1

abbrev pub above_part : ℕ → ℕ → ℕ
above_part height part = max height (min (part + 1) 4294967295)

abbrev pub unchanged : ℕ → ℕ
unchanged depth = depth

-- a part of the node that was begun last
unfoldable pub part : {A : Type 0} → Reader A → Reader A
part p = around deeper shallower above_part p

-- what stands beside what was read last, on one level
unfoldable pub beside : {A : Type 0} → Reader A → Reader A
beside p = around unchanged unchanged max p
