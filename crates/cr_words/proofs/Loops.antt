-- A loop with an accumulator, beside readers that put what they find before what follows.
use Rattle.std.proofs.Common.{◌≡◌, ℕ, suc, ◌+◌, ◌-◌, ◌<◌, ◌≤◌, Bool, true, false, cond, List, [], ◌∷◌, ◌++◌, refl, sym, ap, ◌∙◌, append_assoc, arith}
use Rattle.std.proofs.lemmas.List.{append-nil}
use Rattle.std.specs.List.{flat_map}
use Rattle.cr_syntax.specs.declared.look.TokenLook.{TokenLook}
use Rattle.cr_syntax.specs.declared.look.TokenLook.TheVariants as l
use Rattle.cr_syntax.specs.declared.token.Token.{Token}
use Rattle.cr_readers.specs.declared.fault.ParseFault.{ParseFault}
use Rattle.cr_readers.specs.Reader.{State, Outcome, Found, Failed, Reader, Test, and_then, passes, seen, place_at, next, taken, read_by, word_read, expect, many, repeated}
use Rattle.cr_readers.specs.Lists.{separators, lines}
use Rattle.cr_words.specs.Lists.{gather, gather_each, skip, behind_line, go_on}

taken_of : (kind : TokenLook) (rest : List Token) (s : State) → passes (seen kind) rest ≡ true → taken (read_by (word_read kind) rest) s ≡ Found (place_at rest) (next s)
taken_of kind [] s is = absurd cc
taken_of kind (t ∷ ts) s is = rw is refl

pub expected : (kind : TokenLook) (s : State) → passes (seen kind) s.rest ≡ true → expect kind s ≡ Found (place_at s.rest) (next s)
expected kind s is = taken_of kind s.rest s is

turn_of : (n at : ℕ) → at < n → n - at ≡ suc (n - (at + 1))
turn_of n at below = omega arith

none_of : (n at : ℕ) → n ≤ at → n - at ≡ 0
none_of n at past = omega arith

-- What is found before, and what those stand for that are found now. `each` is what one of them stands for.
module _ {A B : Type 0} (view : List A → List B) (each : A → List B) (none : view [] ≡ []) (one_more : (x : A) (xs : List A) → view (x ∷ xs) ≡ each x ++ view xs) where
  abbrev gathered : List B → Outcome (List A) → Outcome (List B)
  gathered found o = and_then o (λ xs s. Found (found ++ view xs) s)

  regroup : (x : A) (found : List B) (o : Outcome (List A)) → gathered found (and_then o (λ xs s. Found (x ∷ xs) s)) ≡ gathered (found ++ each x) o
  regroup x found (Found xs s) = ap (λ ys. Found (found ++ ys) s) (one_more x xs) ∙ ap (λ ys. Found ys s) (sym (append_assoc found (each x) (view xs)))
  regroup x found (Failed e s) = refl

  gathered_turn : (test : Test) (p : Reader A) (n at : ℕ) (found : List B) (s s1 : State) (x : A)
      → at < n → passes test s.rest ≡ true → p s ≡ Found x s1
      → gathered found (many test p (n - at) s) ≡ gathered (found ++ each x) (many test p (n - (at + 1)) s1)
  gathered_turn test p n at found s s1 x below is reads = rw (turn_of n at below, is, reads) (regroup x found (many test p (n - (at + 1)) s1))

  gathered_ends : (test : Test) (p : Reader A) (n at : ℕ) (found : List B) (s : State)
      → at < n → passes test s.rest ≡ false → gathered found (many test p (n - at) s) ≡ Found found s
  gathered_ends test p n at found s below is = rw (turn_of n at below, is) (ap (λ ys. Found (found ++ ys) s) none ∙ ap (λ ys. Found ys s) (append-nil found))

  gathered_fails : (test : Test) (p : Reader A) (n at : ℕ) (found : List B) (s s1 : State) (e : ParseFault)
      → at < n → passes test s.rest ≡ true → p s ≡ Failed e s1 → gathered found (many test p (n - at) s) ≡ Failed e s1
  gathered_fails test p n at found s s1 e below is reads = rw (turn_of n at below, is, reads) refl

-- what a list stands for by itself
abbrev alone : {A : Type 0} → List A → List A
alone xs = xs

abbrev alone_one : {A : Type 0} → A → List A
alone_one x = x ∷ []

pub gather_turn : {A : Type 0} (test : Test) (p : Reader A) (n at : ℕ) (found : List A) (s s1 : State) (x : A)
    → at < n → passes test s.rest ≡ true → p s ≡ Found x s1
    → gather found (many test p (n - at) s) ≡ gather (found ++ x ∷ []) (many test p (n - (at + 1)) s1)
unfolding gather
gather_turn = gathered_turn alone alone_one refl (λ x xs. refl)

pub gather_ends : {A : Type 0} (test : Test) (p : Reader A) (n at : ℕ) (found : List A) (s : State)
    → at < n → passes test s.rest ≡ false → gather found (many test p (n - at) s) ≡ Found found s
unfolding gather
gather_ends = gathered_ends alone alone_one refl (λ x xs. refl)

pub gather_fails : {A : Type 0} (test : Test) (p : Reader A) (n at : ℕ) (found : List A) (s s1 : State) (e : ParseFault)
    → at < n → passes test s.rest ≡ true → p s ≡ Failed e s1 → gather found (many test p (n - at) s) ≡ Failed e s1
unfolding gather
gather_fails = gathered_fails alone alone_one refl (λ x xs. refl)

pub each_turn : {A B : Type 0} (each : A → List B) (test : Test) (p : Reader A) (n at : ℕ) (found : List B) (s s1 : State) (x : A)
    → at < n → passes test s.rest ≡ true → p s ≡ Found x s1
    → gather_each each found (many test p (n - at) s) ≡ gather_each each (found ++ each x) (many test p (n - (at + 1)) s1)
unfolding gather_each
each_turn each = gathered_turn (flat_map each) each refl (λ x xs. refl)

pub each_ends : {A B : Type 0} (each : A → List B) (test : Test) (p : Reader A) (n at : ℕ) (found : List B) (s : State)
    → at < n → passes test s.rest ≡ false → gather_each each found (many test p (n - at) s) ≡ Found found s
unfolding gather_each
each_ends each = gathered_ends (flat_map each) each refl (λ x xs. refl)

pub each_fails : {A B : Type 0} (each : A → List B) (test : Test) (p : Reader A) (n at : ℕ) (found : List B) (s s1 : State) (e : ParseFault)
    → at < n → passes test s.rest ≡ true → p s ≡ Failed e s1 → gather_each each found (many test p (n - at) s) ≡ Failed e s1
unfolding gather_each
each_fails each = gathered_fails (flat_map each) each refl (λ x xs. refl)

dropped : {A : Type 0} (x : A) (o : Outcome (List A))
    → and_then {B = Unit {0}} (and_then o (λ xs s. Found (x ∷ xs) s)) (λ xs s. Found (tt {0}) s) ≡ and_then {B = Unit {0}} o (λ xs s. Found (tt {0}) s)
dropped x (Found xs s) = refl
dropped x (Failed e s) = refl

pub skip_turn : (n at : ℕ) (s : State) → at < n → passes (seen l.Newline) s.rest ≡ true → skip (n - at) s ≡ skip (n - (at + 1)) (next s)
unfolding skip
skip_turn n at s below is = rw (turn_of n at below, is, expected l.Newline s is) (dropped _ (many (seen l.Newline) (expect l.Newline) (n - (at + 1)) (next s)))

pub skip_ends : (n at : ℕ) (s : State) → at < n → passes (seen l.Newline) s.rest ≡ false → skip (n - at) s ≡ Found tt s
unfolding skip
skip_ends n at s below is = rw (turn_of n at below, is) refl

pub gather_none : {A : Type 0} (o : Outcome (List A)) → gather [] o ≡ o
unfolding gather
gather_none (Found xs s) = refl
gather_none (Failed e s) = refl

-- ---- what is read again and again from what it found

pub repeated_turn : {A : Type 0} (test : Test) (p : A → Reader A) (n at : ℕ) (x y : A) (s s1 : State)
    → at < n → passes test s.rest ≡ true → p x s ≡ Found y s1 → repeated test p (n - at) x s ≡ repeated test p (n - (at + 1)) y s1
repeated_turn test p n at x y s s1 below is reads = rw (turn_of n at below, is, reads) refl

pub repeated_ends : {A : Type 0} (test : Test) (p : A → Reader A) (n at : ℕ) (x : A) (s : State)
    → at < n → passes test s.rest ≡ false → repeated test p (n - at) x s ≡ Found x s
repeated_ends test p n at x s below is = rw (turn_of n at below, is) refl

pub repeated_fails : {A : Type 0} (test : Test) (p : A → Reader A) (n at : ℕ) (x : A) (s s1 : State) (e : ParseFault)
    → at < n → passes test s.rest ≡ true → p x s ≡ Failed e s1 → repeated test p (n - at) x s ≡ Failed e s1
repeated_fails test p n at x s s1 e below is reads = rw (turn_of n at below, is, reads) refl

-- ---- lines

module _ {A : Type 0} (x : A) (found : List A) (more : Reader (List A)) where
  line_apart : (o : Outcome (Unit {0}))
      → and_then {B = List A} (and_then {B = List A} (and_then {B = List A} o (λ _ s. more s)) (λ xs s. Found (x ∷ xs) s)) (λ xs s. Found (found ++ xs) s)
      ≡ and_then {B = List A} (and_then {B = Bool} o (λ _ s. Found true s)) (go_on x found more)
  unfolding gather
  line_apart (Found u s) = regroup alone alone_one refl (λ x xs. refl) x found (more s)
  line_apart (Failed e s) = refl

  line_behind : (o : Outcome ℕ) (sep : Reader (Unit {0}))
      → and_then {B = List A} (and_then {B = List A} (and_then {B = List A} o (λ _ s. and_then {B = List A} (sep s) (λ _ s. more s))) (λ xs s. Found (x ∷ xs) s)) (λ xs s. Found (found ++ xs) s)
      ≡ and_then {B = List A} (and_then {B = Bool} o (λ _ s. and_then {B = Bool} (sep s) (λ _ s. Found true s))) (go_on x found more)
  line_behind (Found u s) sep = line_apart (sep s)
  line_behind (Failed e s) sep = refl

  line_chosen : (b : Bool) (s : State) (e : Reader ℕ) (sep : Reader (Unit {0}))
      → and_then {B = List A} (and_then {B = List A} (cond {A = Reader (List A)} b (λ s. and_then {B = List A} (e s) (λ _ s. and_then {B = List A} (sep s) (λ _ s. more s))) (λ s. Found [] s) s) (λ xs s. Found (x ∷ xs) s)) (λ xs s. Found (found ++ xs) s)
      ≡ and_then {B = List A} (cond {A = Reader (Bool)} b (λ s. and_then {B = Bool} (e s) (λ _ s. and_then {B = Bool} (sep s) (λ _ s. Found true s))) (λ s. Found false s) s) (go_on x found more)
  line_chosen true s e sep = line_behind (e s) sep
  line_chosen false s e sep = refl

pub lines_turn : {A : Type 0} (turns : ℕ) (begins : Test) (p : Reader A) (n at : ℕ) (found : List A) (s s1 : State) (x : A)
    → at < n → passes begins s.rest ≡ true → p s ≡ Found x s1
    → gather found (lines turns begins p (n - at) s) ≡ and_then (behind_line turns s1) (go_on x found (lines turns begins p (n - (at + 1))))
unfolding gather behind_line
lines_turn turns begins p n at found s s1 x below is reads = rw (turn_of n at below, is, reads)
    (line_chosen x found (lines turns begins p (n - (at + 1))) (passes (seen l.Newline) s1.rest) s1 (expect l.Newline) (separators turns))

pub lines_end : {A : Type 0} (turns : ℕ) (begins : Test) (p : Reader A) (n at : ℕ) (found : List A) (s : State)
    → at < n → passes begins s.rest ≡ false → gather found (lines turns begins p (n - at) s) ≡ Found found s
unfolding gather
lines_end turns begins p n at found s below is = rw (turn_of n at below, is) (ap (λ ys. Found ys s) (append-nil found))

module _ {A : Type 0} (turns : ℕ) (begins : Test) (p : Reader A) (n at : ℕ) (found : List A) (s s1 : State) where
  abbrev left : ℕ → State → Outcome (List A)
  left n s = lines turns begins p n s

  pub lines_more : (s2 : State) (x : A) → at < n → passes begins s.rest ≡ true → p s ≡ Found x s1 → behind_line turns s1 ≡ Found true s2
      → gather found (left (n - at) s) ≡ gather (found ++ x ∷ []) (left (n - (at + 1)) s2)
  lines_more s2 x below is reads more = lines_turn turns begins p n at found s s1 x below is reads ∙ ap (λ o. and_then o (go_on x found (left (n - (at + 1))))) more

  pub lines_last : (s2 : State) (x : A) → at < n → passes begins s.rest ≡ true → p s ≡ Found x s1 → behind_line turns s1 ≡ Found false s2
      → gather found (left (n - at) s) ≡ Found (found ++ x ∷ []) s2
  lines_last s2 x below is reads more = lines_turn turns begins p n at found s s1 x below is reads ∙ ap (λ o. and_then o (go_on x found (left (n - (at + 1))))) more

  pub lines_stop : (s2 : State) (x : A) (e : ParseFault) → at < n → passes begins s.rest ≡ true → p s ≡ Found x s1 → behind_line turns s1 ≡ Failed e s2
      → gather found (left (n - at) s) ≡ Failed e s2
  lines_stop s2 x e below is reads more = lines_turn turns begins p n at found s s1 x below is reads ∙ ap (λ o. and_then o (go_on x found (left (n - (at + 1))))) more

  pub lines_fail : (e : ParseFault) → at < n → passes begins s.rest ≡ true → p s ≡ Failed e s1 → gather found (left (n - at) s) ≡ Failed e s1
  unfolding gather
  lines_fail e below is reads = rw (turn_of n at below, is, reads) refl
