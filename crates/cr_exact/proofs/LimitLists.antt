-- What is counted by readers of separators, lists and what stands in parentheses.
use Rattle.std.proofs.Common.{◌≡◌, ℕ, zero, suc, Some, None, inl, inr, ◌+◌, max, Bool, false, List, [], ◌∷◌, ◌++◌, refl, sym, subst, true, ◌<◌, arith, Option}
use Rattle.cr_syntax.specs.declared.look.TokenLook.{TokenLook}
use Rattle.cr_syntax.specs.declared.look.TokenLook.TheVariants as l
use Rattle.cr_syntax.specs.declared.token.Token.{Token}
use Rattle.cr_syntax.specs.declared.token.TokenKind.{TokenKind}
use Rattle.cr_syntax.specs.declared.token.TokenKind.TheVariants as k
use Rattle.cr_syntax.specs.Look.{look_of}
use Rattle.cr_grammar.specs.Forms.{Form, nothing, ◌<|>◌, word, tight, or_none}
use Rattle.cr_grammar.specs.Forms as f
use Rattle.cr_readers.specs.Reader.{Reader, Test, seen, tight_seen, either, never, expect, choose, many, pure, ◌>>=◌, ◌>>◌, State, passes, grow, take}
use Rattle.cr_readers.specs.Lists.{optional, separators, comma, listed, parenthesized, lines, stmts, unless_closed}
use Rattle.cr_exact.specs.Exact.{Stops, Effort, Exact, Any}
use Rattle.cr_exact.specs.Limits.{Tally, AtMost, known, Counts, tallied, Still, Rises, size_of_all, top_of_all, risen, unknown, Whole}
use Rattle.cr_exact.proofs.TokenTests.{look_is_same, Apart, stops_right, Not, never_stops, stops_less}
use Rattle.cr_exact.proofs.Sequence.{exact_bind, weaken}
use Rattle.cr_exact.proofs.Tokens.{Passing, Failing, exact_word}
use Rattle.cr_exact.proofs.Forms.{made_out, no_seps}
use Rattle.cr_exact.proofs.Heads.{Heads, NoLine, first_bind, led_heads, first_led, many_stop, led_tight_first, led_at, Fails, LedBy, led, led_seen}
use Rattle.cr_exact.proofs.Follows.{Follows, follows_never}
use Rattle.cr_exact.proofs.Lists.{exact_separators, exact_comma, closed, read_closed, closed_fails}
use Rattle.cr_exact.proofs.Closed.{choice_first, at_once, once_back, once_fails}
use Rattle.cr_exact.proofs.Lines.{lines_of, stmts_back, after_line, then_lines, lines_split, line_ends, lines_halt, after_fails}
use Rattle.cr_exact.proofs.Limits.{least, at_most, counts_bind, counts_bind_quiet, counts_still_then, counts_pure, counts_silent, counts_weaken, counts_map, counts_goes, still_pure, still_take, still_many, still_bind, still_choose}
use Rattle.cr_exact.proofs.LimitSteps.{counts_grown}
use Rattle.cr_exact.proofs.LimitChoices.{counts_choose, passing_same, failing_same}
use Rattle.cr_exact.proofs.LimitLoops.{given_up, counts_many}
use Rattle.cr_exact.proofs.LimitParts.{IsKnown, risen_known, rises_at, rises_listed, rises_pure, known_is}

-- ---- what counts nothing

pub still_word : (look : TokenLook) → Still (expect look)
still_word first = still_take _

pub still_separators : (turns : ℕ) → Still (separators turns)
still_separators turns = still_bind (still_many (seen l.Newline) turns (still_word l.Newline)) (λ xs. still_pure tt)

pub still_comma : (turns : ℕ) → Still (comma turns)
still_comma turns = still_bind (still_word l.Comma) (λ at. still_separators turns)

pub still_end : {A : Type 0} (look : TokenLook) (x : A) → Still (expect look >> pure x)
still_end look x = still_bind (still_word look) (λ at. still_pure x)

pub still_closed : {A : Type 0} (turns : ℕ) (close : TokenLook) (x : A) → Still (read_closed turns close x)
still_closed turns close x = still_bind (still_separators turns) (λ u. still_end close x)

pub still_optional : {A : Type 0} (test : Test) {p : Reader A} → Still p → Still (optional test p)
still_optional test sp = still_choose test (still_bind sp (λ x. still_pure (Some x))) (still_pure None)

pub still_parenthesized : {A : Type 0} (turns : ℕ) {p : Reader A} → Still p → Still (parenthesized turns p)
still_parenthesized turns still =
    still_bind (still_word l.OpenParenthesis) (λ at. still_bind (still_separators turns) (λ u. still_bind still (λ x. still_closed turns l.CloseParenthesis x)))

pub still_listed : {A : Type 0} (turns : ℕ) {p : Reader A} → Still p → Still (listed turns p)
still_listed turns still =
    still_bind still (λ x. still_bind (still_many (seen l.Comma) turns (still_bind (still_comma turns) (λ u. still))) (λ xs. still_pure (x ∷ xs)))

-- ---- another reader, another form

-- the same reader, written otherwise
pub counts_same : {A : Type 0} {Pre : List Token → Type 0} {C : Form A} {g : Test} {from : Tally} {to : A → Tally} (p q : Reader A) → ((s : State) → p s ≡ q s)
    → Counts Pre C g from to p → Counts Pre C g from to q
counts_same {A = A} {Pre = Pre} {C = C} {g = g} {from = from} {to = to} p q same cp =
    let path : p ≡ q = λ i s. same s i in
    subst (λ (r : Reader A). Counts Pre C g from to r) path cp

-- what goes on by nothing may go on by anything
pub counts_free : {A : Type 0} {C : Form A} {p : Reader A} {from : Tally} {to : A → Tally} (h : Test) → Counts Any C never from to p → Counts Any C h from to p
counts_free h cp = counts_goes h (λ rest stop. never_stops rest) cp

-- a value made of what was read
pub counts_made : {A B : Type 0} {C : Form A} {g : Test} {p : Reader A} {from : Tally} {mid : A → Tally} {to : B → Tally} (make : A → B)
    → Counts Any C g from mid p → ((x : A) → to (make x) ≡ mid x) → Counts Any (f.◌>>=◌ C (λ x. nothing (make x))) g from to (p >>= λ x. pure (make x))
counts_made {g = g} {mid = mid} {to = to} make cp is =
    counts_bind_quiet (λ x. nothing (make x)) g (λ x. pure (make x)) to cp (λ x. counts_pure (make x) g (mid x) to (is x)) (λ x. (still_pure (make x)).lets)
    (λ x b y rest d stop. subst (λ (v : List Token). Stops g (v ++ rest)) (sym d.0) stop)

-- ---- behind a word, and behind separators

pub counts_word : (effort : Effort) (kind : TokenKind) {B : Type 0} (D : ℕ → Form B) (h : Test) (q : ℕ → Reader B) {from : Tally} {to : B → Tally}
    → ((at : ℕ) → Counts Any (D at) h from to (q at)) → Counts Any (f.◌>>=◌ (word (look_of kind)) D) h from to (expect (look_of kind) >>= q)
counts_word effort kind D h q {from = from} {to = to} cq =
    counts_bind D h q to (exact_word effort kind never) (counts_silent (word (look_of kind)) never from (still_word (look_of kind))) cq (λ at. follows_never (D at) h)

pub rises_behind : (effort : Effort) {A : Type 0} (kind : TokenKind) (C : Form A) (g : Test) (p : Reader A) (size top : A → ℕ)
    → Rises size top Any C g p → Rises size top Any (f.◌>>◌ (word (look_of kind)) C) g (expect (look_of kind) >> p)
rises_behind effort kind C g p size top rp n h = counts_word effort kind (λ _. C) g (λ _. p) (λ _. rp n h)

-- a word that makes a node, and the parts of this
pub counts_begun : (effort : Effort) (kind : TokenKind) {B : Type 0} {D : ℕ → Form B} {h : Test} {r : ℕ → Reader B} (to : B → Tally) (n : ℕ)
    → ((at : ℕ) → Counts Any (D at) h (known (n + 1) 1) to (r at))
    → Counts Any (f.◌>>=◌ (word (look_of kind)) D) h (unknown n) to (expect (look_of kind) >>= λ at. grow at >> r at)
counts_begun effort kind {D = D} {h = h} {r = r} to n cr =
    counts_grown D h (λ at. at) r to (λ t x c. sym c.1) (exact_word effort kind never) (λ at. follows_never (D at) h) n cr

-- one token, whose node is all that is counted
pub counts_one : {effort : Effort} {A B : Type 0} {P : Token → A → Type 0} {C : Form A} {read : Token → Option A} (place : A → ℕ) (make : A → B) (h : Test) (size high : B → ℕ)
    → ((t : Token) (x : A) → P t x → t.span.first ≡ place x) → Exact effort Any (f.one P) C never (take read)
    → ((x : A) → size (make x) ≡ 1) → ((x : A) → high (make x) ≡ 1)
    → Whole size high Any (f.◌>>=◌ C (λ x. nothing (make x))) h (take read >>= λ x. grow (place x) >> pure (make x))
counts_one place make h size high is ep ones flat n =
    counts_grown (λ x. nothing (make x)) h place (λ x. pure (make x)) (λ y. known (n + size y) (high y)) is ep (λ x. follows_never (nothing (make x)) h) n
    (λ x. counts_pure (make x) h (known (n + 1) 1) (λ y. known (n + size y) (high y))
    (let a = ones x in known_is (n + size (make x)) (n + 1) (high (make x)) 1 (omega (arith, a)) (flat x)))

-- behind separators
pub counts_separated : (effort : Effort) {B : Type 0} (D : Form B) (h : Test) (q : Reader B) (from : Tally) (to : B → Tally)
    → Follows (seen l.Newline) D h → Counts Any D h from to q → Counts Any (f.◌>>◌ f.seps D) h from to (separators effort.turns >> q)
counts_separated effort D h q from to follows cq =
    counts_bind (λ _. D) h (λ _. q) to (exact_separators effort) (counts_silent f.seps (seen l.Newline) from (still_separators effort.turns)) (λ _. cq) (λ _. follows)

-- ---- a closing token

pub counts_end : {A : Type 0} (look : TokenLook) (x : A) (g : Test) (from : Tally) (to : A → Tally) → to x ≡ from → Counts Any (f.◌>>=◌ (word look) (λ _. nothing x)) g from to (expect look >> pure x)
counts_end look x g from to is =
    counts_still_then (word look) (λ _. nothing x) g (λ _. pure x) from to (still_word look) (λ at. counts_pure x g from to is) (λ at. (still_pure x).lets)

pub counts_closed : {A : Type 0} (turns : ℕ) (close : TokenLook) (x : A) (from : Tally) (to : A → Tally) → to x ≡ from → Counts Any (closed close x) never from to (read_closed turns close x)
counts_closed turns close x from to is =
    counts_still_then f.seps (λ _. f.◌>>=◌ (word close) (λ _. nothing x)) never (λ _. expect close >> pure x) from to (still_separators turns)
    (λ u. counts_end close x never from to is) (λ u. (still_end close x).lets)

-- the same behind a word that closes
pub counts_ended : {A B : Type 0} {C : Form A} {g : Test} {p : Reader A} {from : Tally} {mid : A → Tally} {to : B → Tally} (look : TokenLook) (make : A → B)
    → Not look g → Counts Any C g from mid p → ((x : A) → to (make x) ≡ mid x)
    → Counts Any (f.◌>>=◌ C (λ x. f.◌>>=◌ (word look) (λ _. nothing (make x)))) never from to (p >>= λ x. expect look >> pure (make x))
counts_ended {g = g} {mid = mid} {to = to} close make lets cp is =
    counts_bind_quiet (λ x. f.◌>>=◌ (word close) (λ _. nothing (make x))) never (λ x. expect close >> pure (make x)) to cp
    (λ x. counts_end close (make x) never (mid x) to (is x)) (λ x. (still_end close (make x)).lets)
    (λ x b y rest d stop. first_led false close g (λ _. nothing (make x)) lets b y rest d)

-- ---- lists

module _ (effort : Effort) {A : Type 0} (R C : Form A) (g : Test) (p : Reader A) (ep : Exact effort Any R C g p) (lineless : NoLine C) where
  -- R { "," R }
  pub counts_listed : (w0 : List Token) (x0 : A) → R w0 x0 → Apart (seen l.Comma) g
      → (step : Tally → A → Tally) (Is : Tally → Type 0) → ((t : Tally) (x : A) → Is t → Is (step t x)) → ((t : Tally) → Is t → Counts Any C g t (step t) p)
      → (t : Tally) → Is t → Counts Any (f.listed C) (either (seen l.Comma) g) t (tallied step t) (listed effort.turns p)
  counts_listed w0 x0 some apart step Is keeps cp t is =
      counts_bind (λ x. f.◌>>=◌ (f.many (f.◌>>◌ f.comma C)) (λ xs. nothing (x ∷ xs))) (either (seen l.Comma) g)
      (λ x. many (seen l.Comma) (comma effort.turns >> p) effort.turns >>= λ xs. pure (x ∷ xs)) (tallied step t) ep (cp t is)
      (λ x. counts_bind_quiet (λ xs. nothing (x ∷ xs)) (either (seen l.Comma) g) (λ xs. pure (x ∷ xs)) (tallied step t)
      (counts_many effort (seen l.Comma) g apart (f.◌>>◌ f.comma R) (f.◌>>◌ f.comma C) (comma effort.turns >> p)
      (weaken _ (exact_bind (λ _. R) (λ _. C) g (λ _. p) (exact_comma effort) (λ _. ep) (λ _. (w0, x0, some)) (λ u b y rest d stop. lineless b y rest d)))
      (first_bind true (seen l.Comma) f.comma (λ _. C) (led_heads l.Comma (λ _. f.seps)))
      step Is keeps
      (λ u known. counts_weaken (Passing (seen l.Comma)) (passing_same (seen l.Comma))
      (counts_bind (λ _. C) g (λ _. p) (step u) (exact_comma effort) (counts_silent f.comma (seen l.Newline) u (still_comma effort.turns)) (λ _. cp u known)
      (λ v b y rest d stop. lineless b y rest d)))
      effort.turns (step t x) (keeps t x is))
      (λ xs. counts_pure (x ∷ xs) (either (seen l.Comma) g) (tallied step (step t x) xs) (tallied step t) refl)
      (λ xs. (still_pure (x ∷ xs)).lets)
      (λ xs b y rest d stop. subst (λ (t : List Token). Stops (either (seen l.Comma) g) (t ++ rest)) (sym d.0) stop))
      (λ x b y rest d stop.
      let a = made_out (f.many (f.◌>>◌ f.comma C)) (λ xs. x ∷ xs) b y d in
      many_stop g (f.◌>>◌ f.comma C) (first_bind false g f.comma (λ _. C) (first_led false l.Comma g (λ _. f.seps) (λ spaced. apart l.Comma spaced (look_is_same l.Comma l.Comma refl))))
      b a.0 rest a.1 (stops_right (seen l.Comma) g rest stop))

  -- "(" R ")"
  pub counts_parenthesized : Not l.Newline g → Not l.CloseParenthesis g → (from : Tally) (to : A → Tally) → Counts Any C g from to p
      → Counts Any (f.parenthesized C) never from to (parenthesized effort.turns p)
  counts_parenthesized line close from to cp =
      counts_bind (λ _. f.◌>>=◌ f.seps (λ _. f.◌>>=◌ C (λ x. closed l.CloseParenthesis x))) never (λ _. separators effort.turns >> (p >>= λ x. read_closed effort.turns l.CloseParenthesis x)) to
      (exact_word effort (k.Plain l.OpenParenthesis) never) (counts_silent (word l.OpenParenthesis) never from (still_word l.OpenParenthesis))
      (λ at. counts_bind (λ _. f.◌>>=◌ C (λ x. closed l.CloseParenthesis x)) never (λ _. p >>= λ x. read_closed effort.turns l.CloseParenthesis x) to
      (exact_separators effort) (counts_silent f.seps (seen l.Newline) from (still_separators effort.turns))
      (λ u. counts_bind_quiet (λ x. closed l.CloseParenthesis x) never (λ x. read_closed effort.turns l.CloseParenthesis x) to cp
      (λ x. counts_closed effort.turns l.CloseParenthesis x (to x) to refl)
      (λ x. (still_closed effort.turns l.CloseParenthesis x).lets)
      (λ x b y rest d stop. closed_fails g l.CloseParenthesis x line close b y rest d))
      (λ u b y rest d stop. first_bind false (seen l.Newline) C (λ x. closed l.CloseParenthesis x) lineless b y rest d))
      (λ at b y rest d stop. never_stops (b ++ rest))

pub counts_tight : {A : Type 0} {C : Form A} {g : Test} {from : Tally} {to : A → Tally} {p : Reader A} (look : TokenLook) → Counts Any C g from to p
    → Counts (Passing (tight_seen look)) (tight C) g from to p
counts_tight {C = C} look cp = counts_map (tight C) (λ w x c. c.1) (counts_weaken (Passing (tight_seen look)) (passing_same (tight_seen look)) cp)

-- ---- lists of parts

-- R { "," R }
pub rises_listed_parts : (effort : Effort) {A : Type 0} (R C : Form A) (g : Test) (p : Reader A) → Exact effort Any R C g p → NoLine C → (w0 : List Token) (x0 : A) → R w0 x0 → Apart (seen l.Comma) g
    → (size top : A → ℕ) → Rises size top Any C g p → Rises (size_of_all size) (top_of_all top) Any (f.listed C) (either (seen l.Comma) g) (listed effort.turns p)
rises_listed_parts effort R C g p ep lineless w0 x0 some apart size top rp =
    rises_listed size top (counts_listed effort R C g p ep lineless w0 x0 some apart (risen size top) IsKnown (risen_known size top) (rises_at size top rp))

-- tight "(" R ")", or not at all
pub rises_tight_or : (effort : Effort) {A : Type 0} (R C : Form A) (g : Test) (p : Reader A) → Exact effort Any R C g p → NoLine C → Not l.Newline g → Not l.CloseParenthesis g
    → (x : A) (size top : A → ℕ) → size x ≡ 0 → top x ≡ 0 → Rises size top Any C g p
    → Rises size top Any (tight (f.parenthesized C) <|> nothing x) (tight_seen l.OpenParenthesis) (choose (tight_seen l.OpenParenthesis) (parenthesized effort.turns p) (pure x))
rises_tight_or effort R C g p ep lineless line close x size top none flat rp nodes height =
    counts_choose (tight_seen l.OpenParenthesis) (tight (f.parenthesized C)) (nothing x) (tight_seen l.OpenParenthesis) (parenthesized effort.turns p) (pure x)
    (counts_goes (tight_seen l.OpenParenthesis) (λ rest stop. never_stops rest)
    (counts_tight l.OpenParenthesis (counts_parenthesized effort R C g p ep lineless line close (known nodes height) (λ y. known (nodes + size y) (max height (top y))) (rp nodes height))))
    (counts_weaken (Failing (tight_seen l.OpenParenthesis)) (failing_same (tight_seen l.OpenParenthesis)) (rises_pure size top (tight_seen l.OpenParenthesis) x none flat nodes height))
    (λ w y rest c. led_tight_first true l.OpenParenthesis (tight_seen l.OpenParenthesis) (look_is_same l.OpenParenthesis l.OpenParenthesis refl) w rest c.0 (led_at l.OpenParenthesis w c.1.0 c.1.1 c.1.2 c.1.3 c.1.4))
    (λ w y rest d stop. rw d.0 stop)

-- ---- statements

module _ (effort : Effort) {A : Type 0} (R C : Form A) (begins g : Test) (p : Reader A) (ep : Exact effort Any R C g p) (heads : Heads begins C)
    (begins_no_line : Not l.Newline begins) (no_line : Not l.Newline g) (h : Test)
    (ends : (found : TokenLook) (spaced : Bool) → h found spaced ≡ false → (seen l.Newline found spaced ≡ false) × (begins found spaced ≡ false) × (g found spaced ≡ false))
    (step : Tally → A → Tally) (Is : Tally → Type 0) (keeps : (t : Tally) (x : A) → Is t → Is (step t x)) (cp : (t : Tally) → Is t → Counts Any C g t (step t) p) where
  abbrev read_line : ℕ → Reader (List A)
  read_line n = expect l.Newline >> (separators effort.turns >> lines effort.turns begins p n)

  lines_grow : (t : Tally) → Is t → (w : List Token) (xs : List A) → lines_of C w xs → AtMost t (tallied step t xs)
  lines_grow t is w [] c = least t
  lines_grow t is w (x ∷ xs) (a, b, e, r, inl d) = at_most t (step t x) (tallied step (step t x) xs) ((cp t is).grows a x r) (lines_grow (step t x) (keeps t x is) d.5.1 xs d.5.5)
  lines_grow t is w (x ∷ xs) (a, b, e, r, inr d) = subst (λ v. AtMost t (tallied step (step t x) v)) (sym d.1) ((cp t is).grows a x r)

  -- what may follow one of them
  counts_after : (n : ℕ) (t : Tally) → Counts Any (lines_of C) h t (tallied step t) (lines effort.turns begins p n)
      → Counts Any (after_line C) h t (tallied step t) (choose (seen l.Newline) (read_line n) (pure []))
  counts_after n t more =
      counts_choose (seen l.Newline) (f.◌>>=◌ (word l.Newline) (λ _. f.◌>>=◌ f.seps (λ _. lines_of C))) (nothing []) h (read_line n) (pure [])
      (counts_weaken (Passing (seen l.Newline)) (passing_same (seen l.Newline))
      (counts_bind (λ _. f.◌>>=◌ f.seps (λ _. lines_of C)) h (λ _. separators effort.turns >> lines effort.turns begins p n) (tallied step t)
      (exact_word effort (k.Plain l.Newline) never) (counts_silent (word l.Newline) never t (still_word l.Newline))
      (λ at. counts_bind (λ _. lines_of C) h (λ _. lines effort.turns begins p n) (tallied step t)
      (exact_separators effort) (counts_silent f.seps (seen l.Newline) t (still_separators effort.turns)) (λ u. more)
      (λ u b xs rest d stop. lines_halt effort R C begins g p ep heads begins_no_line no_line h ends b xs rest d stop))
      (λ at b xs rest d stop. never_stops (b ++ rest))))
      (counts_weaken (Failing (seen l.Newline)) (failing_same (seen l.Newline)) (counts_pure [] h t (tallied step t) refl))
      (led_heads l.Newline _)
      (λ w xs rest d stop. subst (λ (t : List Token). Stops (seen l.Newline) (t ++ rest)) (sym d.0) (line_ends effort R C begins g p ep heads begins_no_line no_line h ends rest stop))

  counts_lines : (n : ℕ) (t : Tally) → Is t → Counts Any (lines_of C) h t (tallied step t) (lines effort.turns begins p n)
  counts_lines zero t is = given_up (lines_of C) h t (tallied step t) (lines_grow t is)
  counts_lines (suc n) t is =
      let q : A → Reader (List A) = λ x. choose (seen l.Newline) (read_line n) (pure []) >>= λ xs. pure (x ∷ xs) in
      counts_map (lines_of C) (lines_split C)
      (counts_choose begins (f.◌>>=◌ C (then_lines C)) (nothing []) h (p >>= q) (pure [])
      (counts_weaken (Passing begins) (passing_same begins)
      (counts_bind (then_lines C) h q (tallied step t) ep (cp t is)
      (λ x. counts_bind_quiet (λ xs. nothing (x ∷ xs)) h (λ xs. pure (x ∷ xs)) (tallied step t)
      (counts_after n (step t x) (counts_lines n (step t x) (keeps t x is)))
      (λ xs. counts_pure (x ∷ xs) h (tallied step (step t x) xs) (tallied step t) refl)
      (λ xs. (still_pure (x ∷ xs)).lets)
      (λ xs b y rest d stop. subst (λ (t : List Token). Stops h (t ++ rest)) (sym d.0) stop))
      (λ x b y rest d stop.
      let c = made_out (after_line C) (λ zs. x ∷ zs) b y d in
      after_fails effort R C begins g p ep heads begins_no_line no_line h ends b c.0 rest c.1 stop)))
      (counts_weaken (Failing begins) (failing_same begins) (counts_pure [] h t (tallied step t) refl))
      (first_bind true begins C (then_lines C) heads)
      (λ w xs rest d stop. subst (λ (t : List Token). Stops begins (t ++ rest)) (sym d.0) (stops_less begins h (λ found spaced e. (ends found spaced e).1) rest stop)))

  -- { sep } [ R { sep { sep } R } ] { sep }
  counts_stmts : (t : Tally) → Is t → Counts Any (f.stmts C) h t (tallied step t) (stmts effort.turns begins p)
  counts_stmts t is =
      counts_map (f.stmts C) (stmts_back C)
      (counts_bind (λ _. lines_of C) h (λ _. lines effort.turns begins p effort.turns) (tallied step t)
      (exact_separators effort) (counts_silent f.seps (seen l.Newline) t (still_separators effort.turns)) (λ u. counts_lines effort.turns t is)
      (λ u b xs rest d stop. lines_halt effort R C begins g p ep heads begins_no_line no_line h ends b xs rest d stop))

pub rises_stmts : (effort : Effort) {A : Type 0} (R C : Form A) (begins g : Test) (p : Reader A) → Exact effort Any R C g p → Heads begins C → Not l.Newline begins → Not l.Newline g → (h : Test)
    → ((found : TokenLook) (spaced : Bool) → h found spaced ≡ false → (seen l.Newline found spaced ≡ false) × (begins found spaced ≡ false) × (g found spaced ≡ false))
    → (size top : A → ℕ) → Rises size top Any C g p → Rises (size_of_all size) (top_of_all top) Any (f.stmts C) h (stmts effort.turns begins p)
rises_stmts effort R C begins g p ep heads begins_no_line no_line h ends size top rp =
    rises_listed size top
    (counts_stmts effort R C begins g p ep heads begins_no_line no_line h ends (risen size top) IsKnown (risen_known size top) (rises_at size top rp))

-- ---- [ R ] before a closing token

-- E is spelled where it is closed at once.
pub counts_once : {effort : Effort} {A B : Type 0} (close : TokenLook) (R C : Form (List A)) (g : Test) (p : Reader (List A)) (E : Form B) (N : List A → Form B) (h : Test) (k : List A → Reader B)
    (from : Tally) (mid : List A → Tally) (to : B → Tally) → Exact effort Any R C g p → Counts Any C g from mid p → ((xs : List A) → Counts Any (N xs) h (mid xs) to (k xs)) → Counts Any E h from to (k [])
    → LedBy close E → Fails (seen close) C → ((xs : List A) → Follows g (N xs) h)
    → Counts Any (f.◌<|>◌ E (f.◌>>=◌ C N)) h from to (unless_closed close p >>= k)
counts_once close R C g p E N h k from mid to ep cp ck ce closes ahead follows =
    counts_same (choose (seen close) (k []) (p >>= k)) (unless_closed close p >>= k) (λ s. choice_first (passes (seen close) s.rest) (pure []) p k s)
    (counts_choose (seen close) E (f.◌>>=◌ C N) h (k []) (p >>= k)
    (counts_weaken (Passing (seen close)) (passing_same (seen close)) ce)
    (counts_weaken (Failing (seen close)) (failing_same (seen close)) (counts_bind N h k to ep cp ck follows))
    (λ w y rest d. led_seen close w rest (closes w y d))
    (λ w y rest d stop. first_bind false (seen close) C N ahead w y rest d))

-- separators, [ R ], separators and a closing token
module _ (effort : Effort) {A : Type 0} (R C : Form (List A)) (g : Test) (p : Reader (List A)) (ep : Exact effort Any R C g p)
    (lineless : NoLine C) (line : Not l.Newline g) where
  counts_or_none : (close : TokenLook) → Not close g → (close ≡ l.Newline → ⊥) → Fails (seen close) C
      → (from : Tally) (to : List A → Tally) → to [] ≡ from → Counts Any C g from to p
      → Counts Any (f.◌>>=◌ f.seps (λ _. f.◌>>=◌ (or_none C) (λ xs. closed close xs))) never from to
      (separators effort.turns >> (unless_closed close p >>= λ xs. read_closed effort.turns close xs))
  counts_or_none close lets other apart from to none cp =
      let k : List A → Reader (List A) = λ xs. read_closed effort.turns close xs in
      counts_map (f.◌>>=◌ f.seps (λ _. f.◌>>=◌ (or_none C) (λ xs. closed close xs)))
      (λ w xs c. subst (λ v. f.◌>>=◌ f.seps (λ _. at_once effort R C g p ep lineless line close C) v xs) (sym c.3)
      (once_back effort R C g p ep lineless line close C c.0 c.1 c.5.0 c.5.1 c.2 c.5.2 xs c.4 c.5.3 c.5.4 c.5.5))
      (counts_bind (λ _. at_once effort R C g p ep lineless line close C) never (λ _. unless_closed close p >>= k) to
      (exact_separators effort) (counts_silent f.seps (seen l.Newline) from (still_separators effort.turns))
      (λ _. counts_once close R C g p (f.◌>>=◌ (word close) (λ _. nothing [])) (λ xs. closed close xs) never k from to to ep cp
      (λ xs. counts_closed effort.turns close xs (to xs) to refl)
      (counts_map (f.◌>>=◌ (word close) (λ _. nothing [])) (λ w xs c. ([], w, tt, refl, no_seps, c)) (counts_closed effort.turns close [] from to none))
      (led close (λ _. nothing [])) apart (λ xs b y rest d stop. closed_fails g close xs line lets b y rest d))
      (λ u b y rest d stop. once_fails effort R C g p ep lineless line close other b y rest d))

  pub rises_or_none : (close : TokenLook) → Not close g → (close ≡ l.Newline → ⊥) → Fails (seen close) C
      → (size top : List A → ℕ) → size [] ≡ 0 → top [] ≡ 0 → Rises size top Any C g p
      → Rises size top Any (f.◌>>=◌ f.seps (λ _. f.◌>>=◌ (or_none C) (λ xs. closed close xs))) never
      (separators effort.turns >> (unless_closed close p >>= λ xs. read_closed effort.turns close xs))
  rises_or_none close lets other apart size top none flat rp n height =
      counts_or_none close lets other apart (known n height) (λ xs. known (n + size xs) (max height (top xs)))
      (known_is _ _ _ _ (omega (arith, none)) (omega (arith, flat))) (rp n height)

-- Height 0 is the height of no node, so it is enough to count above it.
pub rises_above : {A : Type 0} {Pre : List Token → Type 0} {C : Form A} {g : Test} {p : Reader A} (size top : A → ℕ)
    → ((n height : ℕ) → 0 < height → Counts Pre C g (known n height) (λ x. known (n + size x) (max height (top x))) p) → Rises size top Pre C g p
rises_above size top cp n zero = record {
  same = (cp n 1 (omega arith)).same;
  grows = λ w x c. (omega arith, omega arith);
  found = λ s x s' pre is e. absurd (omega (arith, is.high.1));
  stopped = λ s e m s' pre is failed limit. absurd (omega (arith, is.high.1));
}
rises_above size top cp n (suc height) = cp n (suc height) (omega arith)
