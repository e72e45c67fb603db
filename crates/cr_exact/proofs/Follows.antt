-- What may follow a reader: where what comes behind stops one test, what comes before that stops another.
use Rattle.std.proofs.Common.{◌≡◌, false, List, [], ◌∷◌, ◌++◌, Some, None, inl, inr}
use Rattle.cr_syntax.specs.declared.look.TokenLook.{TokenLook}
use Rattle.cr_syntax.specs.declared.token.Token.{Token}
use Rattle.cr_grammar.specs.Forms.{Form, nothing, ◌>>=◌, ◌<|>◌, maybe, many, tight}
use Rattle.cr_readers.specs.Reader.{Test, never}
use Rattle.cr_exact.specs.Exact.{Stops}
use Rattle.cr_exact.proofs.TokenTests.{Not, Less, stops_less, never_stops}
use Rattle.cr_exact.proofs.Heads.{LedBy, Fails, front_of, led_first, led_tight_first}

-- Where what follows stops h, D before it stops g.
abbrev pub Follows : {A : Type 0} → Test → Form A → Test → Type 0
Follows {A} g D h = (b : List Token) (y : A) (rest : List Token) → D b y → Stops h rest → Stops g (b ++ rest)

pub follows_led : {A : Type 0} (look : TokenLook) (g h : Test) (D : Form A) → Not look g → LedBy look D → Follows g D h
follows_led look g h D is lead b y rest d stop = led_first false look g is b rest (lead b y d)

-- before a reader that never goes on
pub follows_never : {A : Type 0} (D : Form A) (h : Test) → Follows never D h
follows_never D h b y rest d stop = never_stops (b ++ rest)

pub follows_ahead : {A : Type 0} (g h : Test) (D : Form A) → Fails g D → Follows g D h
follows_ahead g h D ahead b y rest d stop = ahead b y rest d

pub follows_nothing : {A : Type 0} (g h : Test) (x : A) → Less g h → Follows g (nothing x) h
follows_nothing g h x less b y rest d stop = rw d.0 (stops_less g h less rest stop)

pub follows_bind : {A B : Type 0} (g h : Test) (R : Form A) (D : A → Form B) → Follows g R g → ((x : A) → Follows g (D x) h) → Follows g (R >>= D) h
follows_bind g h R D first then b y rest d stop =
    front_of false g b d.0 d.1 rest d.3 (first d.0 d.2 (d.1 ++ rest) d.4 (then d.2 d.1 y rest d.5 stop))

pub follows_maybe : {A : Type 0} (g h : Test) (D : Form A) → Less g h → Follows g D h → Follows g (maybe D) h
follows_maybe g h D less go b None rest d stop = rw d (stops_less g h less rest stop)
follows_maybe g h D less go b (Some y) rest d stop = go b y rest d stop

pub follows_many : {A : Type 0} (g : Test) (D : Form A) → Follows g D g → Follows g (many D) g
follows_many g D go b [] rest d stop = rw d stop
follows_many g D go b (y ∷ ys) rest d stop = front_of false g b d.0 d.1 rest d.2 (go d.0 y (d.1 ++ rest) d.3 (follows_many g D go d.1 ys rest d.4 stop))

pub follows_or : {A : Type 0} (g h : Test) (C D : Form A) → Follows g C h → Follows g D h → Follows g (C <|> D) h
follows_or g h C D left right b y rest (inl c) stop = left b y rest c stop
follows_or g h C D left right b y rest (inr d) stop = right b y rest d stop

pub follows_tight : {A : Type 0} (look : TokenLook) (g h : Test) (D : Form A) → g look false ≡ false → LedBy look D → Follows g (tight D) h
follows_tight look g h D is lead b y rest d stop = led_tight_first false look g is b rest d.0 (lead b y d.1)
