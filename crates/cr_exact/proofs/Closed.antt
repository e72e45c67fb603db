-- What stands between an opening and a closing token, or nothing, and what follows.
use Rattle.std.proofs.Common.{◌≡◌, ℕ, Bool, true, false, cond, List, [], ◌∷◌, ◌++◌, inl, inr, refl, sym, ap, subst, ◌∙◌, append_assoc}
use Rattle.cr_syntax.specs.declared.look.TokenLook.{TokenLook}
use Rattle.cr_syntax.specs.declared.look.TokenLook.TheVariants as l
use Rattle.cr_syntax.specs.declared.token.Token.{Token}
use Rattle.cr_syntax.specs.declared.token.TokenKind.{TokenKind}
use Rattle.cr_syntax.specs.Look.{look_of}
use Rattle.cr_grammar.specs.Forms.{Form, nothing, ◌<|>◌, or_none, word}
use Rattle.cr_grammar.specs.Forms as f
use Rattle.cr_readers.specs.Reader.{State, Outcome, Found, Failed, Reader, Test, and_then, passes, seen, never, expect, choose, pure, ◌>>=◌, ◌>>◌}
use Rattle.cr_readers.specs.Lists.{unless_closed, separators}
use Rattle.cr_exact.specs.Exact.{Effort, Exact, Any, Stops}
use Rattle.cr_exact.proofs.TokenTests.{Not, never_stops, not_seen}
use Rattle.cr_exact.proofs.Sequence.{exact_bind, exact_pure, exact_map, weaken}
use Rattle.cr_exact.proofs.Tokens.{a_token, exact_choose}
use Rattle.cr_exact.proofs.Forms.{bind_out, bind_in, Spelled, no_seps, seps_append, unit_out}
use Rattle.cr_exact.proofs.Heads.{NoLine, Fails, led_seen, LedBy, first_bind, led_heads, first_led}
use Rattle.cr_exact.proofs.Follows.{follows_led, follows_never}
use Rattle.cr_exact.proofs.Forms.{append_none, one_real}
use Rattle.cr_exact.proofs.Heads.{led_real}
use Rattle.cr_exact.proofs.Lists.{exact_separators, closed, read_closed, some_closed, closed_fails, exact_closed}

-- ---- one reader after the other

-- a choice that is followed by something is a choice of what is followed
pub choice_first : {A B : Type 0} (b : Bool) (p q : Reader A) (k : A → Reader B) (s : State) → cond b (p >>= k) (q >>= k) s ≡ and_then (cond b p q s) k
choice_first true p q k s = refl
choice_first false p q k s = refl

pub exact_same : {effort : Effort} {A : Type 0} {Pre : List Token → Type 0} {R C : Form A} {g : Test} (p q : Reader A) → ((s : State) → p s ≡ q s)
    → Exact effort Pre R C g p → Exact effort Pre R C g q
exact_same {effort = effort} {Pre = Pre} {R = R} {C = C} {g = g} p q same ep =
    let path : p ≡ q = λ i s. same s i in
    subst (λ (r : Reader _). Exact effort Pre R C g r) path ep

assoc_read : {A B D : Type 0} (o : Outcome A) (p : A → Reader B) (q : B → Reader D) → and_then (and_then o p) q ≡ and_then o (λ x s. and_then (p x s) q)
assoc_read (Found x s) p q = refl
assoc_read (Failed e s) p q = refl

same_behind : {A B : Type 0} (o : Outcome A) (p q : A → Reader B) → ((x : A) (s : State) → p x s ≡ q x s) → and_then o p ≡ and_then o q
same_behind o p q same = λ i. and_then o (λ x s. same x s i)

-- ---- what stands between an opening and a closing token, and what follows

module _ {A B : Type 0} (Q : Form (List A)) (E : Form ℕ) (K : List A → Form B) where
  abbrev end_of : List A → Form (List A)
  end_of xs = f.◌>>=◌ E (λ _. f.nothing xs)

  abbrev close_of : List A → Form (List A)
  close_of xs = f.◌>>=◌ f.seps (λ _. end_of xs)

  abbrev list_of : Form (List A)
  list_of = f.◌>>=◌ Q close_of

  abbrev pub closed_by : Form (List A)
  closed_by = f.◌>>=◌ f.seps (λ _. list_of)

  abbrev pub closed_then : Form B
  closed_then = f.◌>>=◌ f.seps (λ _. f.◌>>=◌ Q (λ xs. f.◌>>=◌ f.seps (λ _. f.◌>>=◌ E (λ _. K xs))))

  closed_out : (w : List Token) (y : B) → f.◌>>=◌ closed_by K w y → closed_then w y
  closed_out w y c =
      let u = bind_out f.seps (λ _. list_of) K w y c in
      let v = bind_out Q close_of K u.1 y u.5 in
      let m = bind_out f.seps (λ _. end_of v.2) K v.1 y v.5 in
      let n = bind_out E (λ _. f.nothing v.2) K m.1 y m.5 in
      (u.0, u.1, u.2, u.3, u.4, (v.0, v.1, v.2, v.3, v.4, (m.0, m.1, m.2, m.3, m.4, (n.0, n.1, n.2, n.3, n.4, unit_out K v.2 n.1 y n.5))))

  closed_back : (w : List Token) (y : B) → closed_then w y → f.◌>>=◌ closed_by K w y
  closed_back w y (a, c, u, e, d, (a1, c1, xs, e1, d1, (a2, c2, u2, e2, d2, (a3, c3, at, e3, d3, rest)))) =
      let n : f.◌>>=◌ (end_of xs) K c2 y = bind_in E (λ _. f.nothing xs) K c2 y (a3, c3, at, e3, d3, ([], c3, xs, refl, (refl, refl), rest)) in
      let m : f.◌>>=◌ (close_of xs) K c1 y = bind_in f.seps (λ _. end_of xs) K c1 y (a2, c2, u2, e2, d2, n) in
      let v : f.◌>>=◌ list_of K c y = bind_in Q close_of K c y (a1, c1, xs, e1, d1, m) in
      bind_in f.seps (λ _. list_of) K w y (a, c, u, e, d, v)

module _ {A B : Type 0} (p : Reader (Unit {0})) (q : Reader (List A)) (e : Reader ℕ) (k : List A → Reader B) where
  abbrev pub read_list : Reader (List A)
  read_list = p >> (q >>= λ xs. p >> (e >> pure xs))

  abbrev pub read_then : Reader B
  read_then = p >> (q >>= λ xs. p >> (e >> k xs))

  list_read : (s : State) → and_then (read_list s) k ≡ read_then s
  list_read s =
      assoc_read (p s) (λ _. q >>= λ xs. p >> (e >> pure xs)) k
      ∙ same_behind (p s) (λ _ m. and_then (and_then (q m) (λ xs. p >> (e >> pure xs))) k) (λ _. q >>= λ xs. p >> (e >> k xs)) (λ _ m.
      assoc_read (q m) (λ xs. p >> (e >> pure xs)) k
      ∙ same_behind (q m) (λ xs n. and_then (and_then (p n) (λ _. e >> pure xs)) k) (λ xs. p >> (e >> k xs)) (λ xs n.
      assoc_read (p n) (λ _. e >> pure xs) k
      ∙ same_behind (p n) (λ _ t. and_then (and_then (e t) (λ _. pure xs)) k) (λ _. e >> k xs) (λ _ t. assoc_read (e t) (λ _. pure xs) k)))

-- What is exact between the two, and behind them, is exact as a whole.
pub exact_closed_then : {effort : Effort} {A B : Type 0} (Q P : Form (List A)) (E : Form ℕ) (K D : List A → Form B) (h : Test) (p : Reader (Unit {0})) (q : Reader (List A)) (e : Reader ℕ) (k : List A → Reader B)
    → Exact effort Any (closed_by Q E K) (closed_by P E D) never (read_list p q e k) → ((xs : List A) → Exact effort Any (K xs) (D xs) h (k xs)) → ((xs : List A) → Spelled (K xs))
    → Exact effort Any (closed_then Q E K) (closed_then P E D) h (read_then p q e k)
exact_closed_then Q P E K D h p q e k ep eq some =
    exact_same (read_list p q e k >>= k) (read_then p q e k) (list_read p q e k)
    (exact_map (closed_then Q E K) (closed_then P E D) (closed_out Q E K) (closed_back P E D)
    (exact_bind K D h k ep eq some (λ xs. follows_never (D xs) h)))

-- ---- [ R ] before a closing token, and what follows

module _ {A B : Type 0} (Q : Form (List A)) (N : List A → Form B) where
  abbrev pub empty_or : Form B
  empty_or = f.◌<|>◌ (N []) (f.◌>>=◌ Q N)

  empty_or_out : (w : List Token) (y : B) → empty_or w y → f.◌>>=◌ (f.or_none Q) N w y
  empty_or_out w y (inl c) = ([], w, [], refl, inr (refl, refl), c)
  empty_or_out w y (inr c) = (c.0, c.1, c.2, c.3, inl c.4, c.5)

  pub empty_or_in : (w : List Token) (y : B) → f.◌>>=◌ (f.or_none Q) N w y → empty_or w y
  empty_or_in w y (a, rest, xs, e, inl c, d) = inr (a, rest, xs, e, c, d)
  empty_or_in w y (a, rest, xs, e, inr c, d) = inl (unit_out N [] w y (a, rest, xs, e, c, d))

pub exact_or_closed : {effort : Effort} {A B : Type 0} (kind : TokenKind) (R C : Form (List A)) (g : Test) (p : Reader (List A)) (K D : List A → Form B) (h : Test) (k : List A → Reader B)
    → Exact effort Any R C g p → ((xs : List A) → Exact effort Any (K xs) (D xs) h (k xs)) → ((xs : List A) → Spelled (K xs))
    → ((xs : List A) → LedBy (look_of kind) (D xs)) → Not (look_of kind) g → Fails (seen (look_of kind)) C
    → Exact effort Any (f.◌>>=◌ (f.or_none R) K) (f.◌>>=◌ (f.or_none C) D) h (unless_closed (look_of kind) p >>= k)
exact_or_closed {effort = effort} kind R C g p K D h k ep eq some closes stops ahead =
    exact_same (choose (seen (look_of kind)) (k []) (p >>= k)) (unless_closed (look_of kind) p >>= k)
    (λ s. choice_first (passes (seen (look_of kind)) s.rest) (pure []) p k s)
    (exact_map (f.◌>>=◌ (f.or_none R) K) (f.◌>>=◌ (f.or_none C) D) (empty_or_out R K) (empty_or_in C D)
    (exact_choose effort (seen (look_of kind)) (K []) (D []) (f.◌>>=◌ R K) (f.◌>>=◌ C D) h (k []) (p >>= k)
    (weaken _ (eq []))
    (weaken _ (exact_bind K D h k ep eq some (λ xs. follows_led (look_of kind) g h (D xs) stops (closes xs))))
    (λ w y rest d. led_seen (look_of kind) w rest (closes [] w y d))
    (λ w y rest d stop. first_bind false (seen (look_of kind)) C D ahead w y rest d)
    (λ y s d clear is. absurd (led_real (look_of kind) d.1 (closes d.2 d.1 y d.5) (append_none d.0 d.1 (sym d.3)).1))))

-- ---- separators, [ R ], separators and a closing token

closed_real : {A : Type 0} (close : TokenLook) (x : A) (w : List Token) (y : A) → closed close x w y → w ≡ [] → ⊥
closed_real _ x w y c none =
    let word_none = append_none c.0 c.1 (sym c.3 ∙ none) in
    one_real c.5.0 c.5.4.0 c.5.4.1 (append_none c.5.0 c.5.1 (sym c.5.3 ∙ word_none.1)).0

module _ (effort : Effort) {A : Type 0} (R C : Form (List A)) (g : Test) (p : Reader (List A)) (ep : Exact effort Any R C g p)
    (lineless : NoLine C) (line : Not l.Newline g) where
  abbrev rest_of : TokenLook → Form (List A) → Form (List A)
  rest_of close Q = f.◌>>=◌ Q (λ xs. closed close xs)

  -- what is closed at once, or is something and is closed behind separators
  abbrev pub at_once : TokenLook → Form (List A) → Form (List A)
  at_once close Q = f.◌>>=◌ (word close) (λ _. nothing []) <|> rest_of close Q

  once_out : (close : TokenLook) (Q : Form (List A)) (w : List Token) (xs : List A) → (rest_of close (nothing []) <|> rest_of close Q) w xs → rest_of close (or_none Q) w xs
  once_out close Q w xs (inl c) = (c.0, c.1, c.2, c.3, inr c.4, c.5)
  once_out close Q w xs (inr c) = (c.0, c.1, c.2, c.3, inl c.4, c.5)

  pub once_back : (close : TokenLook) (Q : Form (List A)) (a b c d : List Token) (u : Unit {0}) (ys xs : List A) → f.seps a u → b ≡ c ++ d → or_none Q c ys → closed close ys d xs
      → f.◌>>=◌ f.seps (λ _. at_once close Q) (a ++ b) xs
  once_back close Q a b c d u ys xs seps e (inl r) end = (a, b, u, refl, seps, inr (c, d, ys, e, r, end))
  once_back close Q a b c d u ys xs seps e (inr none) end = (
    a ++ end.0,
    end.1,
    tt,
    ap (λ (t : List Token). a ++ t) (e ∙ ap (λ (t : List Token). t ++ d) none.0 ∙ end.3) ∙ sym (append_assoc a end.0 end.1),
    seps_append a end.0 u end.2 seps end.4,
    inl (subst (λ v. f.◌>>=◌ (word close) (λ _. nothing v) end.1 xs) none.1 end.5),
  )

  pub once_fails : (close : TokenLook) → (close ≡ l.Newline → ⊥) → (w : List Token) (xs : List A) (rest : List Token) → at_once close C w xs → Stops (seen l.Newline) (w ++ rest)
  once_fails close other w xs rest (inl c) = first_led false close (seen l.Newline) (λ _. nothing []) (not_seen _ _ other) w xs rest c
  once_fails close other w xs rest (inr c) = first_bind false (seen l.Newline) C (λ ys. closed close ys) lineless w xs rest c

  -- separators, [ R ], separators and a closing token, behind the opening token
  pub exact_or_none : (kind : TokenKind) → Not (look_of kind) g → (look_of kind ≡ l.Newline → ⊥)
      → ((w : List Token) (xs : List A) (rest : List Token) → C w xs → Stops (seen (look_of kind)) (w ++ rest))
      → Exact effort Any
      (f.◌>>=◌ f.seps (λ _. f.◌>>=◌ (or_none R) (λ xs. f.◌>>=◌ f.seps (λ _. f.◌>>=◌ (word (look_of kind)) (λ _. nothing xs)))))
      (f.◌>>=◌ f.seps (λ _. f.◌>>=◌ (or_none C) (λ xs. f.◌>>=◌ f.seps (λ _. f.◌>>=◌ (word (look_of kind)) (λ _. nothing xs)))))
      never
      (separators effort.turns >> (unless_closed (look_of kind) p >>= λ xs. separators effort.turns >> (expect (look_of kind) >> pure xs)))
  exact_or_none kind close other apart =
      let look = look_of kind in
      let k : List A → Reader (List A) = λ xs. read_closed effort.turns look xs in
      exact_map (f.◌>>=◌ f.seps (λ _. rest_of look (or_none R))) (f.◌>>=◌ f.seps (λ _. rest_of look (or_none C)))
      (λ w xs c. (c.0, c.1, c.2, c.3, c.4, once_out look R c.1 xs c.5))
      (λ w xs c. subst (λ v. f.◌>>=◌ f.seps (λ _. at_once look C) v xs) (sym c.3) (once_back look C c.0 c.1 c.5.0 c.5.1 c.2 c.5.2 xs c.4 c.5.3 c.5.4 c.5.5))
      (exact_bind (λ _. rest_of look (nothing []) <|> rest_of look R) (λ _. at_once look C) never (λ _. unless_closed look p >>= k)
      (exact_separators effort)
      (λ _. exact_same (choose (seen look) (pure [] >>= k) (p >>= k)) (unless_closed look p >>= k)
      (λ s. choice_first (passes (seen look) s.rest) (pure []) p k s)
      (exact_choose effort (seen look) (rest_of look (nothing [])) (f.◌>>=◌ (word look) (λ _. nothing [])) (rest_of look R) (rest_of look C) never
      (pure [] >>= k) (p >>= k)
      (weaken _ (exact_map (rest_of look (nothing [])) (f.◌>>=◌ (word look) (λ _. nothing []))
      (λ w xs c. c)
      (λ w xs c. ([], w, [], refl, (refl, refl), ([], w, tt, refl, no_seps, c)))
      (exact_bind (λ xs. closed look xs) (λ xs. closed look xs) never k (exact_pure effort [] never)
      (λ xs. exact_closed effort kind xs other) (λ xs. (a_token kind ∷ [], xs, some_closed kind xs)) (λ xs b y rest d stop. never_stops (b ++ rest)))))
      (weaken _ (exact_bind (λ xs. closed look xs) (λ xs. closed look xs) never k ep
      (λ xs. exact_closed effort kind xs other) (λ xs. (a_token kind ∷ [], xs, some_closed kind xs))
      (λ xs b y rest d stop. closed_fails g look xs line close b y rest d)))
      (led_heads look (λ _. nothing []))
      (λ w xs rest d stop. first_bind false (seen look) C (λ ys. closed look ys) apart w xs rest d)
      (λ xs s d clear is. absurd (closed_real look d.2 d.1 xs d.5 (append_none d.0 d.1 (sym d.3)).1))))
      (λ _. (a_token kind ∷ [], [], inl ([], a_token kind ∷ [], [], refl, (refl, refl), some_closed kind [])))
      (λ u b y rest d stop. once_fails look other b y rest d))
