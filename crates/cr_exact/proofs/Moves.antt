-- Readers that read a token where the next one passes a test.
use Rattle.std.proofs.Common.{◌≡◌, ℕ, zero, suc, Bool, true, false, cond, List, [], ◌∷◌, ◌++◌, length, refl, sym, ap, subst, ◌∙◌, arith}
use Rattle.std.proofs.lemmas.Bool.{and_parts}
use Rattle.std.specs.Prelude.{not, ◌||◌, ◌<◌, max, Option, Some, None}
use Rattle.std.proofs.lemmas.List.{length-append, append-nil}
use Rattle.cr_syntax.specs.declared.look.TokenLook.{TokenLook}
use Rattle.cr_syntax.specs.declared.token.Token.{Token}
use Rattle.cr_syntax.specs.Look.{look_of}
use Rattle.cr_grammar.specs.Forms.{Form}
use Rattle.cr_readers.specs.declared.fault.ParseFault.TheVariants.{Unexpected, TooDeep, TooManyNodes, NoMemory}
use Rattle.cr_readers.specs.Reader.{State, Outcome, Found, Failed, Reader, Test, and_then, ◌>>=◌, ◌>>◌, passes, either, seen, tight_seen, next, tail, read_by, taken, take, place_if, word_read, expect, choose, many, pure, part, beside, deeper, shallower, above_part, unchanged}
use Rattle.cr_exact.specs.Exact.{at, head, Effort, Ends, Exact, Any, GoesBeyond, Clear, hollow}
use Rattle.cr_exact.proofs.Sequence.{Advances}
use Rattle.cr_exact.proofs.Nodes.{IsSilent}

-- Where the next token passes the test p reads it.
pub record Moves {A : Type 0} (test : Test) (p : Reader A) : Type 0 where
  pub beyond : (s : State) → Clear s.rest → passes test s.rest ≡ true → GoesBeyond (p s) s.rest

-- ---- behind each other

after_first : {A B : Type 0} (o : Outcome A) (q : A → Reader B) (rest : List Token) → ((x : A) → Advances (q x)) → GoesBeyond o rest → GoesBeyond (and_then o q) rest
after_first (Found x m) q rest second less = (second x).on m rest less
after_first (Failed (Unexpected n) m) q rest second less = less
after_first (Failed (TooDeep n) m) q rest second less = tt
after_first (Failed (TooManyNodes n) m) q rest second less = tt
after_first (Failed NoMemory m) q rest second less = tt

pub moves_bind : {A B : Type 0} {test : Test} {p : Reader A} {q : A → Reader B} → Moves test p → ((x : A) → Advances (q x)) → Moves test (p >>= q)
moves_bind {p = p} {q = q} first second = record { beyond = λ s clear is. after_first (p s) q s.rest second (first.beyond s clear is) }

pub advances_bind : {A B : Type 0} {p : Reader A} {q : A → Reader B} → Advances p → ((x : A) → Advances (q x)) → Advances (p >>= q)
advances_bind {p = p} {q = q} first second = record { on = λ s rest less. after_first (p s) q rest second (first.on s rest less) }

pub advances_pure : {A : Type 0} (x : A) → Advances (pure x)
advances_pure x = record { on = λ s rest less. less }

silent_advances : (q : Reader (Unit {0})) → IsSilent q → (s : State) (rest : List Token) → length s.rest < length rest → (o : Outcome (Unit {0})) → q s ≡ o → GoesBeyond o rest
silent_advances q silent s rest less (Found tt m) e = rw (silent.stays s m e).0 less
silent_advances q silent s rest less (Failed (Unexpected n) m) e = absurd (silent.fails s m (Unexpected n) e).0
silent_advances q silent s rest less (Failed (TooDeep n) m) e = tt
silent_advances q silent s rest less (Failed (TooManyNodes n) m) e = tt
silent_advances q silent s rest less (Failed NoMemory m) e = tt

pub advances_silent : {q : Reader (Unit {0})} → IsSilent q → Advances q
advances_silent {q = q} silent = record { on = λ s rest less. silent_advances q silent s rest less (q s) refl }

pub advances_next : {A : Type 0} {q : Reader (Unit {0})} {p : Reader A} → IsSilent q → Advances p → Advances (q >> p)
advances_next silent second = advances_bind (advances_silent silent) (λ _. second)

-- ---- one token

moved : (s : State) (t : Token) (ts : List Token) → s.rest ≡ t ∷ ts → length (tail s.rest) < length s.rest
moved s t ts e = rw e (omega arith)

tail_less : (ts rest : List Token) → length ts < length rest → length (tail ts) < length rest
tail_less [] rest less = less
tail_less (t ∷ ts) rest less = omega (arith, less)

take_moves : {A : Type 0} (f : Token → Option A) (s : State) (t : Token) (ts : List Token) (x : A) → s.rest ≡ t ∷ ts → f t ≡ Some x → GoesBeyond (take f s) s.rest
unfolding next
take_moves f s t ts x e is = subst (λ o. GoesBeyond (taken o s) s.rest) (sym (ap (read_by f) e ∙ is)) (moved s t ts e)

pub moves_take : {A : Type 0} (test : Test) (f : Token → Option A) → ((t : Token) → hollow t.kind ≡ false → test (look_of t.kind) t.spaced ≡ true → (x : A) × (f t ≡ Some x)) → Moves test (take f)
moves_take test f reads = record { beyond = λ s clear is. go s s.rest refl clear is } where
  go : (s : State) (ts : List Token) → s.rest ≡ ts → Clear ts → passes test ts ≡ true → GoesBeyond (take f s) s.rest
  go s [] e clear is = absurd cc
  go s (t ∷ ts) e clear is = let r = reads t clear.1 is in take_moves f s t ts r.0 e r.1

take_advances : {A : Type 0} (f : Token → Option A) (s : State) (rest : List Token) (o : Option A) → length s.rest < length rest → GoesBeyond (taken o s) rest
unfolding next
take_advances f s rest None less = less
take_advances f s rest (Some x) less = tail_less s.rest rest less

pub advances_take : {A : Type 0} (f : Token → Option A) → Advances (take f)
advances_take f = record { on = λ s rest less. take_advances f s rest (read_by f s.rest) less }

pub advances_choose : {A : Type 0} (test : Test) {p q : Reader A} → Advances p → Advances q → Advances (choose test p q)
advances_choose test {p = p} {q = q} one two = record { on = λ s rest less. go (passes test s.rest) s rest less } where
  go : (b : Bool) (s : State) (rest : List Token) → length s.rest < length rest → GoesBeyond (cond b p q s) rest
  go true s rest less = one.on s rest less
  go false s rest less = two.on s rest less

pub advances_many : {A : Type 0} (test : Test) {p : Reader A} → Advances p → (n : ℕ) → Advances (many test p n)
advances_many test one zero = record { on = λ s rest less. tt }
advances_many test one (suc n) = advances_choose test (advances_bind one (λ x. advances_bind (advances_many test one n) (λ xs. advances_pure (x ∷ xs)))) (advances_pure [])

pub moves_word : (look : TokenLook) → Moves (seen look) (expect look)
moves_word sought = moves_take (seen sought) (word_read sought) (λ t full is. (t.span.first, ap (λ b. place_if b t) is))

passes_as : (a b : Test) → ((found : TokenLook) (spaced : Bool) → b found spaced ≡ true → a found spaced ≡ true) → (ts : List Token) → passes b ts ≡ true → passes a ts ≡ true
passes_as a b less [] is = absurd cc
passes_as a b less (t ∷ ts) is = less (look_of t.kind) t.spaced is

-- where all that passes one test passes another
pub moves_less : {A : Type 0} {a b : Test} {p : Reader A} → ((found : TokenLook) (spaced : Bool) → b found spaced ≡ true → a found spaced ≡ true) → Moves a p → Moves b p
moves_less {a = a} {b = b} less moves = record { beyond = λ s clear is. moves.beyond s clear (passes_as a b less s.rest is) }

pub moves_tight : {A : Type 0} {p : Reader A} (sought : TokenLook) → Moves (seen sought) p → Moves (tight_seen sought) p
moves_tight _ moves = moves_less (λ found spaced e. (and_parts (not spaced) _ e).1) moves

-- ---- at another depth, and by a choice

around_moves : {A : Type 0} (back : ℕ → ℕ) (above : ℕ → ℕ → ℕ) (o : Outcome A) (height : ℕ) (rest : List Token) → GoesBeyond o rest
    → GoesBeyond (and_then o (λ y m. Found y (record m { depth = back m.depth; height = above height m.height }))) rest
around_moves back above (Found y m) height rest less = less
around_moves back above (Failed (Unexpected n) m) height rest less = less
around_moves back above (Failed (TooDeep n) m) height rest less = tt
around_moves back above (Failed (TooManyNodes n) m) height rest less = tt
around_moves back above (Failed NoMemory m) height rest less = tt

pub moves_part : {A : Type 0} {test : Test} (p : Reader A) → Moves test p → Moves test (part p)
unfolding part
moves_part p moves = record { beyond = λ s clear is. around_moves shallower above_part (p (record s { depth = deeper s.depth })) s.height s.rest (moves.beyond (record s { depth = deeper s.depth }) clear is) }

pub moves_beside : {A : Type 0} {test : Test} (p : Reader A) → Moves test p → Moves test (beside p)
unfolding beside
moves_beside p moves = record { beyond = λ s clear is. around_moves unchanged max (p (record s { depth = unchanged s.depth })) s.height s.rest (moves.beyond (record s { depth = unchanged s.depth }) clear is) }

chosen_moves : {A : Type 0} (b : Bool) (p q : Reader A) (s : State) → (b ≡ true → GoesBeyond (p s) s.rest) → (b ≡ false → GoesBeyond (q s) s.rest) → GoesBeyond (cond b p q s) s.rest
chosen_moves true p q s u v = u refl
chosen_moves false p q s u v = v refl

-- by a test of the first token, where it passes another too
pub moves_choose : {A : Type 0} (test other left : Test) {p q : Reader A}
    → ((found : TokenLook) (spaced : Bool) → other found spaced ≡ true → test found spaced ≡ false → left found spaced ≡ true)
    → Moves test p → Moves left q → Moves other (choose test p q)
moves_choose test other left {p = p} {q = q} less one two =
    record { beyond = λ s clear is. chosen_moves (passes test s.rest) p q s (λ t. one.beyond s clear t) (λ f. two.beyond s clear (go s.rest is f)) } where
      go : (ts : List Token) → passes other ts ≡ true → passes test ts ≡ false → passes left ts ≡ true
      go [] is f = absurd cc
      go (t ∷ ts) is f = less (look_of t.kind) t.spaced is f

either_other : (b c : Bool) → b || c ≡ true → b ≡ false → c ≡ true
either_other true c is other = absurd cc
either_other false c is other = is

pub moves_either : {A : Type 0} {a b : Test} {p q : Reader A} → Moves a p → Moves b q → Moves (either a b) (choose a p q)
moves_either {a = a} {b = b} one two = moves_choose a (either a b) b (λ found spaced is other. either_other (a found spaced) (b found spaced) is other) one two

-- ---- by what is spelled

-- If each token that passes the test begins something spelled, an exact reader reads it: it neither refuses it nor finds nothing before it.
module _ {effort : Effort} {A : Type 0} {R C : Form A} {g : Test} (test : Test) (p : Reader A) (ep : Exact effort Any R C g p) (real : (w : List Token) (x : A) → R w x → w ≡ [] → ⊥)
    (opens : (t : Token) → hollow t.kind ≡ false → test (look_of t.kind) t.spaced ≡ true → (w : List Token) × (x : A) × C (t ∷ w) x) where
  longer : (front rest : List Token) → (front ≡ [] → ⊥) → length rest < length (front ++ rest)
  longer [] rest some = absurd (some refl)
  longer (t ∷ front) rest some = omega (arith, length-append front rest)

  refusal : (o : Outcome A) (n : ℕ) (m : State) (enough : Type 0) (x : A) (before : TokenLook) (rest : List Token) (limited : Bool)
      → o ≡ Failed (Unexpected n) m → Ends enough o x before rest limited → ⊥
  refusal o n m enough x before rest limited is ends =
      let whole : Ends enough (Failed (Unexpected n) m) x before rest limited = subst (λ v. Ends enough v x before rest limited) is ends in
      whole

  not_refused : (s : State) (n : ℕ) (s' : State) (ts : List Token) → s'.rest ≡ ts → Clear ts → passes test ts ≡ true
      → ((rest : List Token) → head rest ≡ head s'.rest → p (at s rest) ≡ Failed (Unexpected n) (at s' rest)) → ⊥
  not_refused s n s' [] e clear is again = absurd cc
  not_refused s n s' (t ∷ ts) e clear is again =
      let o = opens t clear.1 is in
      refusal (p (at s (t ∷ o.0))) n (at s' (t ∷ o.0)) _ o.1 _ [] _ (again (t ∷ o.0) (ap head (sym e)))
      (ep.complete (t ∷ o.0) o.1 (at s (t ∷ o.0)) [] tt o.2 (sym (append-nil (t ∷ o.0))) refl)

  refused_beyond : (s : State) (n : ℕ) (s' : State) (front : List Token) → Clear s.rest → passes test s.rest ≡ true → s.rest ≡ front ++ s'.rest
      → ((rest : List Token) → head rest ≡ head s'.rest → p (at s (front ++ rest)) ≡ Failed (Unexpected n) (at s' rest)) → length s'.rest < length s.rest
  refused_beyond s n s' [] clear is e again = absurd (not_refused s n s' s'.rest refl (subst Clear e clear) (ap (passes test) (sym e) ∙ is) again)
  refused_beyond s n s' (t ∷ front) clear is e again = subst (λ (r : List Token). length s'.rest < length r) (sym e) (longer (t ∷ front) s'.rest (λ none. cc))

  ends_beyond : (s : State) → Clear s.rest → passes test s.rest ≡ true → (o : Outcome A) → p s ≡ o → GoesBeyond o s.rest
  ends_beyond s clear is (Found x s') e =
      let F = ep.found s x s' tt e in
      subst (λ (r : List Token). length s'.rest < length r) (sym F.parts) (longer F.front s'.rest (real F.front x F.spelled))
  ends_beyond s clear is (Failed (Unexpected n) s') e = let F = ep.refused s n s' tt e in refused_beyond s n s' F.front clear is F.parts F.again
  ends_beyond s clear is (Failed (TooDeep n) s') e = tt
  ends_beyond s clear is (Failed (TooManyNodes n) s') e = tt
  ends_beyond s clear is (Failed NoMemory s') e = tt

  pub moves_opened : Moves test p
  moves_opened = record { beyond = λ s clear is. ends_beyond s clear is (p s) refl }
