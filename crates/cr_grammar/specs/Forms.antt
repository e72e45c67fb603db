-- A form of A is a relation between a list of tokens and what it spells, an A.
use Rattle.std.specs.Prelude.{◌≡◌, ℕ, zero, suc, Bool, false, not, IsTrue, List, [], ◌∷◌, ◌++◌, ◌⊎◌, Option, Some, None}
use Rattle.cr_syntax.specs.declared.look.TokenLook.{TokenLook}
use Rattle.cr_syntax.specs.declared.look.TokenLook.TheVariants as l
use Rattle.cr_syntax.specs.declared.token.Token.{Token}
use Rattle.cr_syntax.specs.declared.token.TokenKind.{TokenKind}
use Rattle.cr_syntax.specs.declared.token.TokenKind.TheVariants as k
use Rattle.cr_syntax.specs.Look.{look_of}
use Rattle.cr_grammar.specs.declared.word.Word.{Word}

abbrev pub Form : Type 0 → Type 1
Form A = List Token → A → Type 0

-- ---- how forms are put together

-- spelled by no tokens
abbrev pub nothing : {A : Type 0} → A → Form A
nothing x w y = (w ≡ []) × (y ≡ x)

-- one after the other
infixl 10 ◌>>=◌
abbrev pub ◌>>=◌ : {A B : Type 0} → Form A → (A → Form B) → Form B
◌>>=◌ {A} R S w y = (a : List Token) × (b : List Token) × (x : A) × (w ≡ a ++ b) × R a x × S x b y

infixl 10 ◌>>◌
abbrev pub ◌>>◌ : {A B : Type 0} → Form A → Form B → Form B
R >> S = R >>= (λ _. S)

infixr 9 ◌<|>◌
abbrev pub ◌<|>◌ : {A : Type 0} → Form A → Form A → Form A
◌<|>◌ R S w x = R w x ⊎ S w x

-- the form where a condition holds that has nothing to do with the tokens
abbrev pub where_true : {A : Type 0} → Bool → Form A → Form A
where_true b R w x = IsTrue b × R w x

-- the form where its tokens pass a test
abbrev pub passing : {A : Type 0} → (List Token → Bool) → Form A → Form A
passing test R w x = IsTrue (test w) × R w x

-- [ R ]
abbrev pub maybe : {A : Type 0} → Form A → Form (Option A)
maybe R w None = w ≡ []
maybe R w (Some x) = R w x

-- { R }
abbrev pub many : {A : Type 0} → Form A → Form (List A)
many R w [] = w ≡ []
many R w (x ∷ xs) = (a : List Token) × (b : List Token) × (w ≡ a ++ b) × R a x × many R b xs

-- R { R }
abbrev pub some : {A : Type 0} → Form A → Form (List A)
some R = do
  x ← R
  xs ← many R
  nothing (x ∷ xs)

-- [ R ], for lists
abbrev pub or_none : {A : Type 0} → Form (List A) → Form (List A)
or_none R = R <|> nothing []

-- some times R, each time with what the time before gave
abbrev pub repeated_of : {A : Type 0} → ℕ → (A → Form A) → A → Form A
repeated_of zero R x = nothing x
repeated_of (suc n) R x = R x >>= repeated_of n R

abbrev pub repeated : {A : Type 0} → (A → Form A) → A → Form A
repeated R x w y = (n : ℕ) × repeated_of n R x w y

-- ---- places

abbrev pub place_of : List Token → ℕ
place_of [] = 0
place_of (t ∷ ts) = t.span.first

-- the form, with the place of its first token
abbrev pub from_first : {A : Type 0} → (ℕ → Form A) → Form A
from_first R w x = R (place_of w) w x

-- ---- tokens

-- one token, and what is said of it
abbrev pub one : {A : Type 0} → (Token → A → Type 0) → Form A
one P w x = (t : Token) × (w ≡ t ∷ []) × P t x

-- a token that looks so, with its place
abbrev pub word : TokenLook → Form ℕ
word look = one (λ t at. (look_of t.kind ≡ look) × (at ≡ t.span.first))

-- a token of such a kind, with the text that it holds
abbrev pub holding : (List ℕ → TokenKind) → Form Word
holding kind = one (λ t x. (t.kind ≡ kind x.text) × (x.at ≡ t.span.first))

abbrev pub ident : Form Word
ident = holding (λ text. k.Ident text)

abbrev pub constant : Form Word
constant = holding (λ text. k.Constant text)

abbrev pub instance_variable : Form Word
instance_variable = holding (λ text. k.InstanceVariable text)

-- this very token, with its place
abbrev pub exactly : TokenKind → Form ℕ
exactly kind = one (λ t at. (t.kind ≡ kind) × (at ≡ t.span.first))

abbrev pub is_tight : List Token → Bool
is_tight [] = false
is_tight (t ∷ ts) = not t.spaced

-- "tight x": no separator before its first token
abbrev pub tight : {A : Type 0} → Form A → Form A
tight R = passing is_tight R

-- the look of the last token; of no tokens that of a new line
abbrev pub last_look : List Token → TokenLook
last_look [] = l.Newline
last_look (t ∷ []) = look_of t.kind
last_look (t ∷ u ∷ ts) = last_look (u ∷ ts)

-- the form, with the look of its last token
abbrev pub with_last : {A : Type 0} → Form A → Form (A × TokenLook)
with_last R w x = R w x.0 × (x.1 ≡ last_look w)

-- ---- separators and lists

-- separators that are skipped
abbrev pub seps : Form (Unit {0})
seps = many (word l.Newline) >> nothing tt

abbrev pub comma : Form (Unit {0})
comma = word l.Comma >> seps

-- R { "," R }
abbrev pub listed : {A : Type 0} → Form A → Form (List A)
listed R = do
  x ← R
  xs ← many (comma >> R)
  nothing (x ∷ xs)

-- "(" R ")"
abbrev pub parenthesized : {A : Type 0} → Form A → Form A
parenthesized R = do
  word l.OpenParenthesis
  seps
  x ← R
  seps
  word l.CloseParenthesis
  nothing x

-- stmts(R) = { sep } [ R { sep { sep } R } ] { sep }
abbrev pub stmts : {A : Type 0} → Form A → Form (List A)
stmts R = do
  seps
  xs ← or_none (do
    x ← R
    xs ← many (do
      word l.Newline
      seps
      R)
    nothing (x ∷ xs))
  seps
  nothing xs
