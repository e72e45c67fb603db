-- Readers one after another: what is read exactly, that some list spells it, and by what it begins.
use Rattle.std.proofs.lemmas.Bool.{both_ways}
use Rattle.std.proofs.Common.{◌≡◌, ℕ, Bool, true, false, List, [], ◌∷◌, ◌++◌, inl, inr, refl, sym, ap, subst, ◌∙◌}
use Rattle.std.specs.Prelude.{Option, Some, None, not}
use Rattle.cr_syntax.specs.declared.look.TokenLook.{TokenLook}
use Rattle.cr_syntax.specs.declared.look.TokenLook.TheVariants as l
use Rattle.cr_syntax.specs.declared.token.Token.{Token}
use Rattle.cr_syntax.specs.declared.token.TokenKind.{TokenKind}
use Rattle.cr_syntax.specs.Look.{look_of}
use Rattle.cr_grammar.specs.Forms.{Form, nothing, word}
use Rattle.cr_grammar.specs.Forms as f
use Rattle.cr_readers.specs.Reader.{Reader, Test, passes, either, never, seen, tight_seen, expect, choose, many, grow, part, pure, ◌>>=◌, ◌>>◌, beside}
use Rattle.cr_readers.specs.Lists.{optional, separators, listed}
use Rattle.cr_exact.specs.Exact.{Stops, Effort, Exact, Any}
use Rattle.cr_exact.proofs.TokenTests.{same_look_is, stops_right, At, seen_apart, never_stops, Not}
use Rattle.cr_exact.proofs.Sequence.{exact_bind, exact_pure, exact_map, exact_goes, weaken}
use Rattle.cr_exact.proofs.Tokens.{Passing, a_token, exact_word, exact_choose}
use Rattle.cr_exact.proofs.Forms.{Spelled, spelled_seps, spelled_listed}
use Rattle.cr_exact.proofs.Heads.{first_word, many_stop, heads_fails, front_of, first_at}
use Rattle.cr_exact.proofs.Loops.{exact_many}
use Rattle.cr_exact.proofs.Nodes.{silent_grow, exact_silent, exact_part, exact_beside}
use Rattle.cr_exact.proofs.Lists.{exact_separators, exact_listed, exact_optional, tight_heads}
use Rattle.cr_exact.proofs.Moves.{Moves}
use Rattle.cr_exact.proofs.Sequence.{Advances, never_back}

-- ---- the first token

-- What is spelled begins with a token that passes the test, or with one that does not.
pub record Starts (v : Bool) (g : Test) {A : Type 0} (C : Form A) : Type 0 where
  pub first : (w : List Token) (x : A) (rest : List Token) → C w x → passes g (w ++ rest) ≡ v

-- What is spelled begins with a token by which nothing goes on.
abbrev pub Begins : Test → {A : Type 0} → Form A → Type 0
Begins g C = Starts false g C

pub starts_word : {v : Bool} (a : TokenLook) {g : Test} → At v a g → Starts v g (word a)
starts_word {v = v} a {g = g} at = record { first = λ w x rest c. first_word v a g at w x rest c }

-- a token that holds a text
pub starts_holding : {v : Bool} {g : Test} (kind : List ℕ → TokenKind) (a : TokenLook) → ((text : List ℕ) → look_of (kind text) ≡ a) → At v a g
    → Starts v g (f.holding kind)
starts_holding {v = v} {g = g} kind a is at = record {
  first = λ w x rest c. ap (λ (u : List Token). passes g (u ++ rest)) c.1 ∙ first_at v a g at c.0 rest (ap look_of c.2.0 ∙ is x.text);
}

-- of which the first is empty
behind_none : (v : Bool) (g : Test) (w a b rest : List Token) → w ≡ a ++ b → a ≡ [] → passes g (b ++ rest) ≡ v → passes g (w ++ rest) ≡ v
behind_none v g w a b rest is none e = ap (λ (u : List Token). passes g (u ++ rest)) (is ∙ ap (λ (u : List Token). u ++ b) none) ∙ e

pub starts_bind : {v : Bool} {g : Test} {A B : Type 0} {C : Form A} (D : A → Form B) → Starts v g C → Starts v g (f.◌>>=◌ C D)
starts_bind {v = v} {g = g} D one = record { first = λ w y rest c. front_of v g w c.0 c.1 rest c.3 (one.first c.0 c.2 (c.1 ++ rest) c.4) }

pub starts_or : {v : Bool} {g : Test} {A : Type 0} {C D : Form A} → Starts v g C → Starts v g D → Starts v g (f.◌<|>◌ C D)
starts_or {v = v} {g = g} {C = C} {D = D} one other = record { first = go } where
  go : (w : List Token) (x : _) (rest : List Token) → (f.◌<|>◌ C D) w x → passes g (w ++ rest) ≡ v
  go w x rest (inl c) = one.first w x rest c
  go w x rest (inr d) = other.first w x rest d

pub starts_where : {v : Bool} {g : Test} {A : Type 0} {C : Form A} (b : Bool) → Starts v g C → Starts v g (f.where_true b C)
starts_where b one = record { first = λ w x rest c. one.first w x rest c.1 }

pub starts_passing : {v : Bool} {g : Test} {A : Type 0} {C : Form A} (test : List Token → Bool) → Starts v g C → Starts v g (f.passing test C)
starts_passing test one = record { first = λ w x rest c. one.first w x rest c.1 }

pub starts_nothing : {v : Bool} {g : Test} {A B : Type 0} (x : A) (D : A → Form B) → Starts v g (D x) → Starts v g (f.◌>>=◌ (nothing x) D)
starts_nothing {v = v} {g = g} x D second = record {
  first = λ w y rest c. behind_none v g w c.0 c.1 rest c.3 c.4.0 (second.first c.1 y rest (subst (λ u. D u c.1 y) c.4.1 c.5));
}

-- [ R ] and what follows it
pub starts_maybe : {v : Bool} {g : Test} {A B : Type 0} {C : Form A} (D : Option A → Form B) → Starts v g C → ((x : Option A) → Starts v g (D x))
    → Starts v g (f.◌>>=◌ (f.maybe C) D)
starts_maybe {v = v} {g = g} {B = B} {C = C} D one second = record { first = λ w y rest c. go w y rest c.0 c.1 c.2 c.3 c.4 c.5 } where
  go : (w : List Token) (y : B) (rest a b : List Token) (x : Option _) → w ≡ a ++ b → f.maybe C a x → D x b y → passes g (w ++ rest) ≡ v
  go w y rest a b None is none d = behind_none v g w a b rest is none ((second None).first b y rest d)
  go w y rest a b (Some x) is c d = front_of v g w a b rest is (one.first a x (b ++ rest) c)

-- a list or none, and what follows it
pub starts_or_none : {v : Bool} {g : Test} {A B : Type 0} {C : Form (List A)} (D : List A → Form B) → Starts v g C → ((xs : List A) → Starts v g (D xs))
    → Starts v g (f.◌>>=◌ (f.or_none C) D)
starts_or_none {v = v} {g = g} {B = B} {C = C} D one second = record { first = λ w y rest c. go w y rest c.0 c.1 c.2 c.3 c.4 c.5 } where
  go : (w : List Token) (y : B) (rest a b : List Token) (xs : List _) → w ≡ a ++ b → f.or_none C a xs → D xs b y → passes g (w ++ rest) ≡ v
  go w y rest a b xs is (inl c) d = front_of v g w a b rest is (one.first a xs (b ++ rest) c)
  go w y rest a b xs is (inr c) d = behind_none v g w a b rest is c.0 ((second xs).first b y rest d)

-- { R } and what follows it
pub starts_many : {v : Bool} {g : Test} {A B : Type 0} {C : Form A} (D : List A → Form B) → Starts v g C → ((xs : List A) → Starts v g (D xs))
    → Starts v g (f.◌>>=◌ (f.many C) D)
starts_many {v = v} {g = g} {B = B} {C = C} D one second = record { first = λ w y rest c. go w y rest c.0 c.1 c.2 c.3 c.4 c.5 } where
  go : (w : List Token) (y : B) (rest a b : List Token) (xs : List _) → w ≡ a ++ b → f.many C a xs → D xs b y → passes g (w ++ rest) ≡ v
  go w y rest a b [] is none d = behind_none v g w a b rest is none ((second []).first b y rest d)
  go w y rest a b (x ∷ xs) is c d =
      front_of v g w a b rest is (front_of v g a c.0 c.1 (b ++ rest) c.2 (one.first c.0 x (c.1 ++ (b ++ rest)) c.3))

-- a first token that is tight
pub starts_tight : {A : Type 0} {C : Form A} (a : TokenLook) → Starts true (seen a) C → Starts true (tight_seen a) (f.tight C)
starts_tight {C = C} a one = record { first = tight_heads a C one.first }

-- by a look at which the test is known
pub starts_led : {A : Type 0} {C : Form A} (a : TokenLook) (v : Bool) (g : Test) → At v a g → Starts true (seen a) C → Starts v g C
starts_led {A = A} {C = C} a v g at one = record { first = λ w x rest c. go (w ++ rest) (one.first w x rest c) } where
  go : (ts : List Token) → passes (seen a) ts ≡ true → passes g ts ≡ v
  go [] is = absurd cc
  go (t ∷ ts) is = first_at v a g at t ts (same_look_is _ _ is)

-- ---- one after the other

-- read exactly, and spelled by some list
abbrev pub Reads : Effort → {A : Type 0} → Form A → Form A → Test → Reader A → Type 0
Reads effort R C g p = Exact effort Any R C g p × Spelled R

pub reads_on : {effort : Effort} {A : Type 0} {R C : Form A} {g : Test} {p : Reader A} → Reads effort R C g p → Advances p
reads_on e = never_back e.0

pub reads_word : (effort : Effort) (kind : TokenKind) (g : Test) → Reads effort (word (look_of kind)) (word (look_of kind)) g (expect (look_of kind))
reads_word effort kind g = (exact_word effort kind g, (a_token kind ∷ [], 0, (a_token kind, refl, (refl, refl))))

pub reads_pure : (effort : Effort) {A : Type 0} (x : A) (g : Test) → Reads effort (nothing x) (nothing x) g (pure x)
reads_pure effort x g = (exact_pure effort x g, ([], x, (refl, refl)))

pub reads_separators : (effort : Effort) → Reads effort f.seps f.seps (seen l.Newline) (separators effort.turns)
reads_separators effort = (exact_separators effort, spelled_seps)

pub reads_listed : {effort : Effort} {A : Type 0} {R C : Form A} {g : Test} {p : Reader A} → Not l.Comma g → Begins (seen l.Newline) C → Reads effort R C g p
    → Reads effort (f.listed R) (f.listed C) (either (seen l.Comma) g) (listed effort.turns p)
reads_listed {effort = effort} {R = R} {C = C} {g = g} {p = p} not lineless e =
    (exact_listed effort R C g p e.0 lineless.first e.1.0 e.1.1 e.1.2 (seen_apart l.Comma g not), spelled_listed e.1)

pub reads_part : {effort : Effort} {A : Type 0} {R C : Form A} {g : Test} {p : Reader A} → Reads effort R C g p → Reads effort R C g (part p)
reads_part {p = p} e = (exact_part p e.0, e.1)

pub reads_beside : {effort : Effort} {A : Type 0} {R C : Form A} {g : Test} {p : Reader A} → Reads effort R C g p → Reads effort R C g (beside p)
reads_beside {p = p} e = (exact_beside p e.0, e.1)

pub reads_grow : {effort : Effort} {A : Type 0} {R C : Form A} {g : Test} {p : Reader A} (place : ℕ) → Reads effort R C g p → Reads effort R C g (grow place >> p)
reads_grow {p = p} place e = (exact_silent (grow place) (silent_grow place) p e.0, e.1)

-- one after the other, where the second always begins with a token by which the first does not go on
pub reads_bind : {effort : Effort} {A B : Type 0} {R C : Form A} {g : Test} {p : Reader A} {S D : A → Form B} {h : Test} {q : A → Reader B}
    → Reads effort R C g p → ((x : A) → Reads effort (S x) (D x) h (q x)) → ((x : A) → Begins g (D x))
    → Reads effort (f.◌>>=◌ R S) (f.◌>>=◌ C D) h (p >>= q)
reads_bind {S = S} {D = D} {h = h} {q = q} first second begins = (
  exact_bind S D h q first.0 (λ x. (second x).0) (λ x. (second x).1) (λ x b y rest d stop. (begins x).first b y rest d),
  (let s = (second first.1.1).1 in (first.1.0 ++ s.0, s.1, (first.1.0, s.0, first.1.1, refl, first.1.2, s.2))),
)

-- one after the other, where the first goes on by nothing
pub reads_sure : {effort : Effort} {A B : Type 0} {R C : Form A} {p : Reader A} {S D : A → Form B} {h : Test} {q : A → Reader B}
    → Reads effort R C never p → ((x : A) → Reads effort (S x) (D x) h (q x))
    → Reads effort (f.◌>>=◌ R S) (f.◌>>=◌ C D) h (p >>= q)
reads_sure first second = reads_bind first second (λ x. record { first = λ b y rest d. never_stops (b ++ rest) })

-- a value made of what was read
pub reads_map : {effort : Effort} {A B : Type 0} {R C : Form A} {g : Test} {p : Reader A} (make : A → B)
    → Reads effort R C g p → Reads effort (f.◌>>=◌ R (λ x. nothing (make x))) (f.◌>>=◌ C (λ x. nothing (make x))) g (p >>= λ x. pure (make x))
reads_map {effort = effort} {g = g} make first = (
  exact_bind (λ x. nothing (make x)) (λ x. nothing (make x)) g (λ x. pure (make x)) first.0 (λ x. exact_pure effort (make x) g)
      (λ x. ([], make x, (refl, refl))) (λ x b y rest d stop. subst (λ (v : List Token). Stops g (v ++ rest)) (sym d.0) stop),
  (first.1.0 ++ [], make first.1.1, (first.1.0, [], first.1.1, refl, first.1.2, (refl, refl))),
)

-- where it may go on by more
pub reads_goes : {effort : Effort} {A : Type 0} {R C : Form A} {g : Test} {p : Reader A} (h : Test)
    → ((a : TokenLook) (spaced : Bool) → h a spaced ≡ false → g a spaced ≡ false) → Reads effort R C g p → Reads effort R C h p
reads_goes h less e = (exact_goes h less e.0, e.1)

-- what goes on by nothing may go on by anything
pub reads_free : {effort : Effort} {A : Type 0} {R C : Form A} {p : Reader A} (h : Test) → Reads effort R C never p → Reads effort R C h p
reads_free h e = reads_goes h (λ a spaced stop. refl) e

-- for other forms
pub reads_as : {effort : Effort} {A : Type 0} {R C : Form A} {g : Test} {p : Reader A} (S D : Form A)
    → ((w : List Token) (x : A) → R w x → S w x) → ((w : List Token) (x : A) → D w x → C w x) → Reads effort R C g p → Reads effort S D g p
reads_as S D out back e = (exact_map S D out back e.0, (e.1.0, e.1.1, out e.1.0 e.1.1 e.1.2))

-- ---- one way or the other

pub reads_choose : {effort : Effort} {A : Type 0} {R C Q D : Form A} {g : Test} {p q : Reader A} (test : Test) → Starts true test C → Starts false test D
    → Reads effort R C g p → Reads effort Q D g q → Reads effort (f.◌<|>◌ R Q) (f.◌<|>◌ C D) g (choose test p q)
reads_choose {effort = effort} {R = R} {C = C} {Q = Q} {D = D} {g = g} {p = p} {q = q} test heads others one other = (
  exact_choose effort test R C Q D g p q (weaken _ one.0) (weaken _ other.0) heads.first (λ w x rest d stop. others.first w x rest d)
      (λ x s d clear is. absurd (both_ways _ (others.first [] x s.rest d) is)),
  (one.1.0, one.1.1, inl one.1.2),
)

-- a form or nothing
pub reads_or_nothing : {effort : Effort} {A : Type 0} {R C : Form A} {p : Reader A} (test : Test) (y : A) → Starts true test C
    → Exact effort (Passing test) R C never p → Moves test p → Reads effort (f.◌<|>◌ R (nothing y)) (f.◌<|>◌ C (nothing y)) test (choose test p (pure y))
reads_or_nothing {effort = effort} {R = R} {C = C} {p = p} test y heads e moves = (
  exact_choose effort test R C (nothing y) (nothing y) test p (pure y) (exact_goes test (λ a spaced stop. refl) e) (weaken _ (exact_pure effort y test))
      heads.first
      (λ w x rest d stop. ap (λ (v : List Token). passes test (v ++ rest)) d.0 ∙ stop)
      (λ x s d clear is. moves.beyond s clear is),
  ([], y, inr (refl, refl)),
)

pub reads_optional : {effort : Effort} {A : Type 0} {R C : Form A} {g : Test} {p : Reader A} (test : Test) → Starts true test C → Reads effort R C g p → Moves test p
    → Reads effort (f.maybe R) (f.maybe C) (either test g) (optional test p)
reads_optional {effort = effort} {R = R} {C = C} {g = g} {p = p} test heads e moves = (exact_optional effort R C g p e.0 test heads.first moves, ([], None, refl))

-- ---- loops

pub reads_many : {effort : Effort} {A : Type 0} {R C : Form A} {g : Test} {p : Reader A} (a : TokenLook) → Not a g → Starts true (seen a) C → Reads effort R C g p → Moves (seen a) p
    → Reads effort (f.many R) (f.many C) (either (seen a) g) (many (seen a) p effort.turns)
reads_many {effort = effort} {R = R} {C = C} {g = g} {p = p} a not heads e moves =
    (exact_many effort (seen a) g (seen_apart a g not) R C p (weaken _ e.0) heads.first moves, ([], [], refl))

pub reads_some : {effort : Effort} {A : Type 0} {R C : Form A} {g : Test} {p : Reader A} (a : TokenLook) → Not a g → Starts true (seen a) C → Reads effort R C g p → Moves (seen a) p
    → Reads effort (f.some R) (f.some C) (either (seen a) g) (p >>= λ x. many (seen a) p effort.turns >>= λ xs. pure (x ∷ xs))
reads_some {effort = effort} {A = A} {R = R} {C = C} {g = g} {p = p} a not heads e moves = (
  exact_bind (λ x. f.◌>>=◌ (f.many R) (λ xs. nothing (x ∷ xs))) (λ x. f.◌>>=◌ (f.many C) (λ xs. nothing (x ∷ xs))) (either (seen a) g)
      (λ x. many (seen a) p effort.turns >>= λ xs. pure (x ∷ xs)) e.0 (λ x. (rest_of x).0) (λ x. (rest_of x).1)
      (λ x b y rest d stop.
      front_of false g b d.0 d.1 rest d.3 (many_stop g C (heads_fails (seen a) g C heads.first (seen_apart a g not)) d.0 d.2 (d.1 ++ rest) d.4
      (subst (λ (v : List Token). Stops g (v ++ rest)) (sym d.5.0) (stops_right (seen a) g rest stop)))),
  (let s = (rest_of e.1.1).1 in (e.1.0 ++ s.0, s.1, (e.1.0, s.0, e.1.1, refl, e.1.2, s.2))),
) where
  rest_of : (x : A) → Reads effort (f.◌>>=◌ (f.many R) (λ xs. nothing (x ∷ xs))) (f.◌>>=◌ (f.many C) (λ xs. nothing (x ∷ xs))) (either (seen a) g) (many (seen a) p effort.turns >>= λ xs. pure (x ∷ xs))
  rest_of x = reads_map (λ xs. x ∷ xs) (reads_many a not heads e moves)
