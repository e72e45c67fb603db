-- The first token of what is spelled, and which tests it passes.
use Rattle.std.proofs.Common.{◌≡◌, ℕ, Bool, true, false, not, List, [], ◌∷◌, ◌++◌, refl, sym, ap, subst, ◌∙◌, append_assoc, inl, inr, zero, suc}
use Rattle.cr_syntax.specs.declared.look.TokenLook.{TokenLook}
use Rattle.cr_syntax.specs.declared.look.TokenLook.TheVariants as l
use Rattle.cr_syntax.specs.declared.token.Token.{Token}
use Rattle.cr_syntax.specs.declared.token.TokenKind.{TokenKind}
use Rattle.cr_syntax.specs.Look.{look_of}
use Rattle.cr_grammar.specs.declared.word.Word.{Word}
use Rattle.cr_grammar.specs.Forms.{Form, ◌>>=◌, many, word, holding, is_tight, seps, ◌<|>◌, repeated_of}
use Rattle.cr_grammar.specs.Laws.{first_is}
use Rattle.cr_readers.specs.Reader.{Test, passes, seen, look_at}
use Rattle.cr_exact.specs.Exact.{Stops}
use Rattle.cr_exact.proofs.TokenTests.{At, Not, Apart, at_seen, apart_stops, other_look}
use Rattle.cr_exact.proofs.Tokens.{Led}
use Rattle.cr_exact.proofs.Forms.{made_out}

-- What is spelled begins with a token that passes the test, or with one that does not.
abbrev pub Firsts : {A : Type 0} → Bool → Test → Form A → Type 0
Firsts v g C = (w : List Token) (x : _) (rest : List Token) → C w x → passes g (w ++ rest) ≡ v

abbrev pub Heads : {A : Type 0} → Test → Form A → Type 0
Heads test C = Firsts true test C

abbrev pub Fails : {A : Type 0} → Test → Form A → Type 0
Fails g C = Firsts false g C

-- What is spelled begins with a token, and this is no separator.
abbrev pub NoLine : {A : Type 0} → Form A → Type 0
NoLine C = Fails (seen l.Newline) C

pub heads_fails : {A : Type 0} (test g : Test) (C : Form A) → Heads test C → Apart test g → Fails g C
heads_fails test g C heads apart w x rest c = apart_stops test g apart (w ++ rest) (heads w x rest c)

-- A list in two parts begins as the first of them.
pub front_of : (v : Bool) (g : Test) (w a b rest : List Token) → w ≡ a ++ b → passes g (a ++ (b ++ rest)) ≡ v → passes g (w ++ rest) ≡ v
front_of v g w a b rest is e = ap (λ (t : List Token). passes g (t ++ rest)) is ∙ ap (passes g) (append_assoc a b rest) ∙ e

-- a first token of a look
pub first_at : (v : Bool) (look : TokenLook) (g : Test) → At v look g → (t : Token) (ts : List Token) → look_of t.kind ≡ look → passes g (t ∷ ts) ≡ v
first_at _ _ g at t ts is = ap (λ a. g a t.spaced) is ∙ at t.spaced

-- what follows a first token tells nothing more
pub passes_more : (test : Test) (w rest : List Token) → passes test w ≡ true → passes test (w ++ rest) ≡ true
passes_more test [] rest is = absurd cc
passes_more test (t ∷ w) rest is = is

-- a first token of another look
pub other_first : (look : TokenLook) (w rest : List Token) → (w ≡ [] → ⊥) → (look_at w ≡ look → ⊥) → Stops (seen look) (w ++ rest)
other_first _ [] rest some other = absurd (some refl)
other_first sought (t ∷ w) rest some other = other_look (look_of t.kind) sought other

pub first_word : (v : Bool) (look : TokenLook) (g : Test) → At v look g → Firsts v g (word look)
first_word v look g at w x rest c = ap (λ (t : List Token). passes g (t ++ rest)) c.1 ∙ first_at v look g at c.0 rest c.2.0

pub first_holding : (v : Bool) (kind : List ℕ → TokenKind) (g : Test) → ((text : List ℕ) → At v (look_of (kind text)) g) → Firsts v g (holding kind)
first_holding v kind g at w x rest c = ap (λ (t : List Token). passes g (t ++ rest)) c.1 ∙ first_at v (look_of (kind x.text)) g (at x.text) c.0 rest (ap look_of c.2.0)

pub first_bind : {A B : Type 0} (v : Bool) (g : Test) (R : Form A) (S : A → Form B) → Firsts v g R → Firsts v g (R >>= S)
first_bind v g R S first w y rest c = front_of v g w c.0 c.1 rest c.3 (first c.0 c.2 (c.1 ++ rest) c.4)

pub first_led : {B : Type 0} (v : Bool) (look : TokenLook) (g : Test) (S : ℕ → Form B) → At v look g → Firsts v g (word look >>= S)
first_led v look g S at = first_bind v g (word look) S (first_word v look g at)

pub word_passes : (look : TokenLook) → Heads (seen look) (word look)
word_passes look = first_word true look (seen look) (at_seen look)

pub led_heads : {B : Type 0} (look : TokenLook) (S : ℕ → Form B) → Heads (seen look) (word look >>= S)
led_heads look S = first_led true look (seen look) S (at_seen look)

-- ---- by a test of the first token's look

pub tested : (v : Bool) (test : TokenLook → Bool) (g : Test) → ((look : TokenLook) (spaced : Bool) → test look ≡ true → g look spaced ≡ v)
    → (w rest : List Token) → first_is test w ≡ true → passes g (w ++ rest) ≡ v
tested v test g same [] rest is = absurd cc
tested v test g same (t ∷ ts) rest is = same (look_of t.kind) t.spaced is

pub first_tested : {A : Type 0} (v : Bool) (test : TokenLook → Bool) (g : Test) (R : Form A) → ((look : TokenLook) (spaced : Bool) → test look ≡ true → g look spaced ≡ v)
    → ((w : List Token) (x : A) → R w x → first_is test w ≡ true) → Firsts v g R
first_tested v test g R same begins w x rest c = tested v test g same w rest (begins w x c)

-- ---- a first token of a look

-- All that is spelled begins with a token of this look.
abbrev pub LedBy : {A : Type 0} → TokenLook → Form A → Type 0
LedBy {A} look R = (w : List Token) (x : A) → R w x → Led look w

pub led_word : (look : TokenLook) → LedBy look (word look)
led_word _ w at c = (c.0, [], c.1, c.2.0)

-- by the parts of what is spelled behind a word
pub led_at : (look : TokenLook) (w a rest : List Token) (at : ℕ) → w ≡ a ++ rest → word look a at → Led look w
led_at _ w a rest at e c = (c.0, rest, e ∙ ap (λ (t : List Token). t ++ rest) c.1, c.2.0)

pub led_kind : (kind : TokenKind) (w a b : List Token) (t : Token) → w ≡ a ++ b → a ≡ t ∷ [] → t.kind ≡ kind → Led (look_of kind) w
led_kind kind w a b t e one is = (t, b, e ∙ ap (λ (s : List Token). s ++ b) one, ap look_of is)

pub led_held_at : (kind : List ℕ → TokenKind) (w a b : List Token) (name : Word) → w ≡ a ++ b → holding kind a name → Led (look_of (kind name.text)) w
led_held_at kind w a b name e r = led_kind (kind name.text) w a b r.0 e r.1 r.2.0

pub led_bind : {A B : Type 0} (look : TokenLook) (R : Form A) (S : A → Form B) → LedBy look R → LedBy look (R >>= S)
led_bind _ R S led w y c =
    let d = led c.0 c.2 c.4 in
    (d.0, d.1 ++ c.1, c.3 ∙ ap (λ (t : List Token). t ++ c.1) d.2, d.3)

-- a token that holds a text
pub led_held : (kind : List ℕ → TokenKind) (look : TokenLook) → ((text : List ℕ) → look_of (kind text) ≡ look) → LedBy look (holding kind)
led_held kind _ is w x c = (c.0, [], c.1, ap look_of c.2.0 ∙ is x.text)

-- behind a word
pub led : {B : Type 0} (look : TokenLook) (S : ℕ → Form B) → LedBy look (word look >>= S)
led look S = led_bind look (word look) S (led_word look)

pub led_or : {A : Type 0} (look : TokenLook) (R Q : Form A) → LedBy look R → LedBy look Q → LedBy look (R <|> Q)
led_or _ R Q left right w x (inl c) = left w x c
led_or _ R Q left right w x (inr c) = right w x c

pub led_real : (look : TokenLook) (w : List Token) → Led look w → w ≡ [] → ⊥
led_real _ w d e = let both : d.0 ∷ d.1 ≡ [] = sym d.2 ∙ e in cc

pub led_first : (v : Bool) (look : TokenLook) (g : Test) → At v look g → (w rest : List Token) → Led look w → passes g (w ++ rest) ≡ v
led_first v look g at w rest d = ap (λ (t : List Token). passes g (t ++ rest)) d.2 ∙ first_at v look g at d.0 (d.1 ++ rest) d.3

pub led_seen : (look : TokenLook) (w rest : List Token) → Led look w → passes (seen look) (w ++ rest) ≡ true
led_seen look w rest d = led_first true look (seen look) (at_seen look) w rest d

tight_at : (v b : Bool) (look : TokenLook) (g : Test) → g look false ≡ v → not b ≡ true → g look b ≡ v
tight_at v true _ g e is = absurd cc
tight_at v false _ g e is = e

-- a first token that is tight
pub led_tight_first : (v : Bool) (look : TokenLook) (g : Test) → g look false ≡ v → (w rest : List Token) → is_tight w ≡ true → Led look w → passes g (w ++ rest) ≡ v
led_tight_first v look g e w rest is d =
    ap (λ (t : List Token). passes g (t ++ rest)) d.2 ∙ ap (λ a. g a d.0.spaced) d.3 ∙ tight_at v d.0.spaced look g e (sym (ap is_tight d.2) ∙ is)

pub tight_front : (look : TokenLook) (v b : List Token) → Led look v → is_tight (v ++ b) ≡ is_tight v
tight_front _ v b led = ap (λ (t : List Token). is_tight (t ++ b)) led.2 ∙ sym (ap is_tight led.2)

-- ---- some times a form, and separators

-- Some times the form, and what follows stops the test: then this stops it from the first on.
pub many_stop : {A : Type 0} (g : Test) (R : Form A) → Fails g R → (w : List Token) (xs : List A) (rest : List Token) → many R w xs → Stops g rest → Stops g (w ++ rest)
many_stop g R halts w [] rest c stop = subst (λ (t : List Token). Stops g (t ++ rest)) (sym c) stop
many_stop g R halts w (x ∷ xs) rest c stop = front_of false g w c.0 c.1 rest c.2 (halts c.0 x (c.1 ++ rest) c.3)

pub repeated_stop : {A : Type 0} (g : Test) (C : A → Form A) → ((x : A) → Fails g (C x)) → (n : ℕ) (x : A) (w : List Token) (y : A) (rest : List Token)
    → repeated_of n C x w y → Stops g rest → Stops g (w ++ rest)
repeated_stop g C halts zero x w y rest c stop = rw c.0 stop
repeated_stop g C halts (suc n) x w y rest c stop = front_of false g w c.0 c.1 rest c.3 (halts x c.0 c.2 (c.1 ++ rest) c.4)

pub seps_stop : (g : Test) → Not l.Newline g → (w : List Token) (u : Unit {0}) (rest : List Token) → seps w u → Stops g rest → Stops g (w ++ rest)
seps_stop g lets w u rest c stop =
    let a = made_out (many (word l.Newline)) (λ xs. tt) w u c in
    many_stop g (word l.Newline) (first_word false l.Newline g lets) w a.0 rest a.1 stop

-- the form, and before it separators
pub seps_fails : {B : Type 0} (g : Test) → Not l.Newline g → (S : Unit {0} → Form B) → ((u : Unit {0}) → Fails g (S u)) → Fails g (seps >>= S)
seps_fails g lets S halts w y rest c =
    front_of false g w c.0 c.1 rest c.3 (seps_stop g lets c.0 c.2 (c.1 ++ rest) c.4 (halts c.2 c.1 y rest c.5))
