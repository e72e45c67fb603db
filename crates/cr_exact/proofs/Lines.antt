-- Statements, each on a line of its own.
use Rattle.std.proofs.Common.{◌≡◌, true, ℕ, zero, suc, Bool, false, List, [], ◌∷◌, ◌++◌, ◌≤◌, ◌⊎◌, inl, inr, refl, sym, ap, subst, ◌∙◌, append_assoc, arith}
use Rattle.std.proofs.lemmas.List.{append-nil}
use Rattle.cr_syntax.specs.declared.look.TokenLook.{TokenLook}
use Rattle.cr_syntax.specs.declared.look.TokenLook.TheVariants as l
use Rattle.cr_syntax.specs.declared.token.Token.{Token}
use Rattle.cr_syntax.specs.declared.token.TokenKind.TheVariants as k
use Rattle.cr_grammar.specs.Forms.{Form, nothing, ◌<|>◌, or_none, word}
use Rattle.cr_grammar.specs.Forms as f
use Rattle.cr_readers.specs.Reader.{Reader, Test, passes, seen, never, expect, choose, pure, ◌>>=◌, ◌>>◌}
use Rattle.cr_readers.specs.Lists.{separators, lines, stmts}
use Rattle.cr_exact.specs.Exact.{Stops, Effort, Exact, Any}
use Rattle.cr_exact.proofs.TokenTests.{Not, apart_seen, never_stops, stops_less}
use Rattle.cr_exact.proofs.Sequence.{enough_behind, exact_bind_by, exact_bind, exact_pure, exact_map, weaken}
use Rattle.cr_exact.proofs.Tokens.{Passing, exact_word, exact_choose}
use Rattle.cr_exact.proofs.Forms.{made_out, no_seps, seps_append, seps_of}
use Rattle.cr_exact.proofs.Heads.{Fails, heads_fails, led_heads, seps_stop, Heads, first_bind, first_led}
use Rattle.cr_exact.proofs.Loops.{turns_of, fewer, one_less, given_up}
use Rattle.cr_exact.proofs.Lists.{exact_separators}
use Rattle.cr_exact.proofs.Sequence.{never_back}
use Rattle.cr_exact.proofs.Moves.{Moves, moves_bind, moves_word, advances_bind, advances_pure}

-- What follows separators, read in one way: R, and behind it a new line, separators and again so, or nothing. Separators
-- behind the last R are a new line, separators and no more R.
abbrev pub lines_of : {A : Type 0} → Form A → Form (List A)
lines_of R w [] = w ≡ []
lines_of R w (x ∷ xs) = (a : List Token) × (b : List Token) × (w ≡ a ++ b) × R a x
    × (f.◌>>=◌ (word l.Newline) (λ _. f.◌>>=◌ f.seps (λ _ v (u : Unit {0}). lines_of R v xs)) b tt ⊎ ((b ≡ []) × (xs ≡ [])))

module _ {A : Type 0} (R : Form A) where
  abbrev line_more : Form A
  line_more = f.◌>>=◌ (word l.Newline) (λ _. f.◌>>=◌ f.seps (λ _. R))

  abbrev some_of : Form (List A)
  some_of = f.◌>>=◌ R (λ x. f.◌>>=◌ (f.many line_more) (λ xs. nothing (x ∷ xs)))

  -- what follows the separators before the first statement
  abbrev behind_seps : Form (List A)
  behind_seps = f.◌>>=◌ (or_none some_of) (λ xs. f.◌>>=◌ f.seps (λ _. nothing xs))

  -- separators, and no more
  only_seps : (w : List Token) (u : Unit {0}) (xs : List A) → f.seps w u → xs ≡ [] → behind_seps w xs
  only_seps w u xs c e = ([], w, [], refl, inr (refl, refl), (w, [], tt, sym (append-nil w), c, (refl, e)))

  made_some : (a b d : List Token) (x : A) (xs : List A) (u : Unit {0}) → R a x → f.many line_more b xs → f.seps d u → behind_seps (a ++ (b ++ d)) (x ∷ xs)
  made_some a b d x xs u r m end = (
    a ++ b,
    d,
    x ∷ xs,
    sym (append_assoc a b d),
    inl (a, b, x, refl, r, (b, [], xs, sym (append-nil b), m, (refl, refl))),
    (d, [], tt, sym (append-nil d), end, (refl, refl)),
  )

  -- a new line and separators are separators
  line_seps : (c e : List Token) (at : ℕ) (u : Unit {0}) → word l.Newline c at → f.seps e u → f.seps (c ++ e) tt
  line_seps c e at u line seps = seps_append c e tt u (seps_of c (at ∷ []) (c, [], sym (append-nil c), line, refl)) seps

  -- separators at the end
  trail : (w : List Token) (ys xs : List A) → f.◌>>=◌ f.seps (λ _. nothing ys) w xs → f.seps w tt × (xs ≡ ys)
  trail w ys xs c = let r = made_out f.seps (λ _. ys) w xs c in (r.1, r.2)

  regroup : (c e a b d : List Token) → ((c ++ (e ++ a)) ++ b) ++ d ≡ c ++ (e ++ (a ++ (b ++ d)))
  regroup c e a b d = simp append_assoc

  -- one R, a new line, separators, and what is behind them
  join_line : (a c e v : List Token) (x : A) (at : ℕ) (u : Unit {0}) (xs : List A) → R a x → word l.Newline c at → f.seps e u → behind_seps v xs
      → behind_seps (a ++ (c ++ (e ++ v))) (x ∷ xs)
  join_line a c e v x at u xs r line seps (v1, v2, ys, split, inl first, end) =
      let m = made_out (f.many line_more) (λ zs. first.2 ∷ zs) first.1 ys first.5 in
      let last = trail v2 ys xs end in
      let whole : v ≡ first.0 ++ (first.1 ++ v2) = split ∙ ap (λ (t : List Token). t ++ v2) first.3 ∙ append_assoc first.0 first.1 v2 in
      let all : behind_seps (a ++ (((c ++ (e ++ first.0)) ++ first.1) ++ v2)) (x ∷ (first.2 ∷ m.0)) =
      made_some a ((c ++ (e ++ first.0)) ++ first.1) v2 x (first.2 ∷ m.0) tt r
      (c ++ (e ++ first.0), first.1, refl, (c, e ++ first.0, at, refl, line, (e, first.0, u, refl, seps, first.4)), m.1) last.0 in
      subst (λ v. behind_seps (a ++ (c ++ (e ++ v))) (x ∷ xs)) (sym whole)
      (subst (λ zs. behind_seps (a ++ (c ++ (e ++ (first.0 ++ (first.1 ++ v2))))) (x ∷ zs)) (sym (last.1 ∙ m.2))
      (subst (λ t. behind_seps (a ++ t) (x ∷ (first.2 ∷ m.0))) (regroup c e first.0 first.1 v2) all))
  join_line a c e v x at u xs r line seps (v1, v2, ys, split, inr none, end) =
      let last = trail v2 ys xs end in
      let trailing : f.seps v tt = subst (λ (t : List Token). f.seps t tt) (sym (split ∙ ap (λ (t : List Token). t ++ v2) none.0)) last.0 in
      subst (λ t. behind_seps (a ++ t) (x ∷ xs)) (append_assoc c e v)
      (made_some a [] ((c ++ e) ++ v) x xs tt r (subst (λ zs. f.many line_more [] zs) (sym (last.1 ∙ none.1)) refl)
      (seps_append (c ++ e) v tt tt (line_seps c e at u line seps) trailing))

  lines_out : (w : List Token) (xs : List A) → lines_of R w xs → behind_seps w xs
  lines_out w [] c = only_seps w tt [] (subst (λ (t : List Token). f.seps t tt) (sym c) no_seps) refl
  lines_out w (x ∷ xs) (a, b, e, r, inl d) =
      subst (λ t. behind_seps t (x ∷ xs)) (sym (e ∙ ap (λ (t : List Token). a ++ t) (d.3 ∙ ap (λ (t : List Token). d.0 ++ t) d.5.3)))
      (join_line a d.0 d.5.0 d.5.1 x d.2 d.5.2 xs r d.4 d.5.4 (lines_out d.5.1 xs d.5.5))
  lines_out w (x ∷ xs) (a, b, e, r, inr d) =
      subst (λ t. behind_seps t (x ∷ xs)) (sym (e ∙ ap (λ (t : List Token). a ++ t) d.0))
      (made_some a [] [] x xs tt r (subst (λ zs. f.many line_more [] zs) (sym d.1) refl) no_seps)

  -- what may follow the last R
  last_line : (a b d : List Token) (x : A) (zs : List ℕ) → R a x → b ≡ [] → f.many (word l.Newline) d zs → lines_of R (a ++ (b ++ d)) (x ∷ [])
  last_line a b d x [] r none c = (a, b ++ d, refl, r, inr (ap (λ (t : List Token). t ++ d) none ∙ c, refl))
  last_line a b d x (z ∷ zs) r none c =
      (a, b ++ d, refl, r, inl (c.0, c.1, z, ap (λ (t : List Token). t ++ d) none ∙ c.2, c.3, (c.1, [], tt, sym (append-nil c.1), seps_of c.1 zs c.4, refl)))

  lines_back : (a b d : List Token) (x : A) (ys : List A) (u : Unit {0}) → R a x → f.many line_more b ys → f.seps d u → lines_of R (a ++ (b ++ d)) (x ∷ ys)
  lines_back a b d x [] u r m end =
      let last = made_out (f.many (word l.Newline)) (λ zs. tt) d u end in
      last_line a b d x last.0 r m last.1
  lines_back a b d x (y ∷ ys) u r m end =
      let line = m.3 in
      let next = line.5 in
      let same : b ++ d ≡ line.0 ++ (next.0 ++ (next.1 ++ (m.1 ++ d))) =
      ap (λ (t : List Token). t ++ d) (m.2 ∙ ap (λ (t : List Token). t ++ m.1) (line.3 ∙ ap (λ (t : List Token). line.0 ++ t) next.3))
      ∙ regroup line.0 next.0 next.1 m.1 d in (
        a,
        b ++ d,
        refl,
        r,
        inl (
          line.0,
          next.0 ++ (next.1 ++ (m.1 ++ d)),
          line.2,
          same,
          line.4,
          (next.0, next.1 ++ (m.1 ++ d), next.2, refl, next.4, lines_back next.1 m.1 d y ys u next.5 m.4 end),
        ),
      )

  pub stmts_out : (w : List Token) (xs : List A) → f.◌>>=◌ f.seps (λ _. lines_of R) w xs → f.stmts R w xs
  stmts_out w xs c = (c.0, c.1, c.2, c.3, c.4, lines_out c.1 xs c.5)

  pub stmts_back : (w : List Token) (xs : List A) → f.stmts R w xs → f.◌>>=◌ f.seps (λ _. lines_of R) w xs
  stmts_back w xs (a, b, u, e, seps, (b0, b1, ys, split, inl first, end)) =
      let m = made_out (f.many line_more) (λ zs. first.2 ∷ zs) first.1 ys first.5 in
      let last = trail b1 ys xs end in
      let whole : b ≡ first.0 ++ (first.1 ++ b1) = split ∙ ap (λ (t : List Token). t ++ b1) first.3 ∙ append_assoc first.0 first.1 b1 in (
        a,
        b,
        u,
        e,
        seps,
        subst (λ t. lines_of R t xs) (sym whole)
            (subst (λ zs. lines_of R (first.0 ++ (first.1 ++ b1)) zs) (sym (last.1 ∙ m.2)) (lines_back first.0 first.1 b1 first.2 m.0 tt first.4 m.1 last.0)),
      )
  stmts_back w xs (a, b, u, e, seps, (b0, b1, ys, split, inr none, end)) =
      let last = trail b1 ys xs end in (
        a ++ b1,
        [],
        tt,
        e ∙ ap (λ (t : List Token). a ++ t) (split ∙ ap (λ (t : List Token). t ++ b1) none.0) ∙ sym (append-nil (a ++ b1)),
        seps_append a b1 u tt seps last.0,
        subst (λ zs. lines_of R [] zs) (sym (last.1 ∙ none.1)) refl,
      )

  -- Statements, and what follows stops the test: then this stops it from the first on.
  pub lines_stop : (g : Test) → Fails g R → (w : List Token) (xs : List A) (rest : List Token) → lines_of R w xs → Stops g rest → Stops g (w ++ rest)
  lines_stop g halts w [] rest c stop = subst (λ (t : List Token). Stops g (t ++ rest)) (sym c) stop
  lines_stop g halts w (x ∷ xs) rest c stop = ap (λ (t : List Token). passes g (t ++ rest)) c.2 ∙ ap (passes g) (append_assoc c.0 c.1 rest) ∙ halts c.0 x (c.1 ++ rest) c.3

  pub stmts_stop : (g : Test) → Not l.Newline g → Fails g R → (w : List Token) (xs : List A) (rest : List Token) → f.stmts R w xs → Stops g rest → Stops g (w ++ rest)
  stmts_stop g lets halts w xs rest c stop =
      let d = stmts_back w xs c in
      ap (λ (t : List Token). passes g (t ++ rest)) d.3 ∙ ap (passes g) (append_assoc d.0 d.1 rest)
      ∙ seps_stop g lets d.0 d.2 (d.1 ++ rest) d.4 (lines_stop g halts d.1 xs rest d.5 stop)

-- one R, and what may follow it
module _ {A : Type 0} where
  abbrev pub after_line : Form A → Form (List A)
  after_line Q = f.◌>>=◌ (word l.Newline) (λ _. f.◌>>=◌ f.seps (λ _. lines_of Q)) <|> nothing []

  abbrev pub then_lines : Form A → A → Form (List A)
  then_lines Q x = f.◌>>=◌ (after_line Q) (λ xs. nothing (x ∷ xs))

  lines_join : (Q : Form A) (w : List Token) (xs : List A) → (f.◌>>=◌ Q (then_lines Q) <|> nothing []) w xs → lines_of Q w xs
  lines_join Q w xs (inl c) =
      let rest = made_out (after_line Q) (λ zs. c.2 ∷ zs) c.1 xs c.5 in
      subst (λ zs. lines_of Q w zs) (sym rest.2) (c.0, c.1, c.3, c.4, rest.1)
  lines_join Q w xs (inr c) = subst (λ zs. lines_of Q w zs) (sym c.1) c.0

  pub lines_split : (Q : Form A) (w : List Token) (xs : List A) → lines_of Q w xs → (f.◌>>=◌ Q (then_lines Q) <|> nothing []) w xs
  lines_split Q w [] c = inr (c, refl)
  lines_split Q w (x ∷ xs) c = inl (c.0, c.1, x, c.2, c.3, (c.1, [], xs, sym (append-nil c.1), c.4, (refl, refl)))

module _ (effort : Effort) {A : Type 0} (R C : Form A) (begins g : Test) (p : Reader A) (ep : Exact effort Any R C g p) (heads : Heads begins C)
    (begins_no_line : Not l.Newline begins) (no_line : Not l.Newline g) where
  module _ (h : Test) (ends : (found : TokenLook) (spaced : Bool) → h found spaced ≡ false → (seen l.Newline found spaced ≡ false) × (begins found spaced ≡ false) × (g found spaced ≡ false)) where
    -- behind what stands before it, nothing of this is left to be read
    pub line_ends : (rest : List Token) → Stops h rest → Stops (seen l.Newline) rest
    line_ends rest stop = stops_less (seen l.Newline) h (λ found spaced e. (ends found spaced e).0) rest stop

    pub lines_halt : (w : List Token) (xs : List A) (rest : List Token) → lines_of C w xs → Stops h rest → Stops (seen l.Newline) (w ++ rest)
    lines_halt w xs rest c stop =
        lines_stop C (seen l.Newline) (heads_fails begins (seen l.Newline) C heads (apart_seen begins l.Newline begins_no_line)) w xs rest c (line_ends rest stop)

    pub after_fails : (w : List Token) (xs : List A) (rest : List Token) → after_line C w xs → Stops h rest → Stops g (w ++ rest)
    after_fails w xs rest (inl c) stop = first_led false l.Newline g (λ _. f.◌>>=◌ f.seps (λ _. lines_of C)) no_line w xs rest c
    after_fails w xs rest (inr c) stop = subst (λ (t : List Token). Stops g (t ++ rest)) (sym c.0) (stops_less g h (λ found spaced e. (ends found spaced e).2) rest stop)

    abbrev read_line : ℕ → Reader (List A)
    read_line n = expect l.Newline >> (separators effort.turns >> lines effort.turns begins p n)

    abbrev Lines : ℕ → Type 0
    Lines n = Exact (turns_of effort n) Any (lines_of R) (lines_of C) h (lines effort.turns begins p n)

    after_turns : (n : ℕ) → n ≤ effort.turns → Lines n → Exact (turns_of effort n) Any (after_line R) (after_line C) h (choose (seen l.Newline) (read_line n) (pure []))
    after_turns n le more =
        exact_choose (turns_of effort n) (seen l.Newline) (f.◌>>=◌ (word l.Newline) (λ _. f.◌>>=◌ f.seps (λ _. lines_of R))) (f.◌>>=◌ (word l.Newline) (λ _. f.◌>>=◌ f.seps (λ _. lines_of C)))
        (nothing []) (nothing []) h (read_line n) (pure [])
        (weaken _ (exact_bind (λ _. f.◌>>=◌ f.seps (λ _. lines_of R)) (λ _. f.◌>>=◌ f.seps (λ _. lines_of C)) h (λ _. separators effort.turns >> lines effort.turns begins p n)
        (exact_word (turns_of effort n) (k.Plain l.Newline) never)
        (λ _. exact_bind_by (turns_of effort n) effort (turns_of effort n) Any f.seps f.seps (seen l.Newline) (separators effort.turns) (λ _. lines_of R) (λ _. lines_of C) h (λ _. lines effort.turns begins p n)
        (fewer effort n le) (λ a u s m c e same en. enough_behind (turns_of effort n) s m a e same en)
        (exact_separators effort) (λ _. more) (λ _. ([], [], refl)) (λ u b xs rest d stop. lines_halt b xs rest d stop))
        (λ _. ([], [], ([], [], tt, refl, no_seps, refl)))
        (λ at b xs rest d stop. never_stops (b ++ rest))))
        (weaken _ (exact_pure (turns_of effort n) [] h))
        (led_heads l.Newline _)
        (λ w xs rest d stop. subst (λ (t : List Token). Stops (seen l.Newline) (t ++ rest)) (sym d.0) (line_ends rest stop))
        (λ xs s d clear is. (moves_bind (moves_word l.Newline) (λ _. advances_bind (never_back (exact_separators effort)) (λ _. never_back more))).beyond s clear is)

    lines_turns : Moves begins p → (n : ℕ) → n ≤ effort.turns → Lines n
    lines_turns moves zero le = record {
      found = λ s x s' pre e. absurd cc;
      refused = λ s u s' pre e. absurd cc;
      begun = λ s d s' pre e. given_up (lines_of R) s d s' e;
      complete = λ w x s rest pre c e stop en. absurd (omega (arith, en.1));
      reaches = λ w x s rest pre c e clear. tt;
    }
    lines_turns moves (suc n) le =
        let q : A → Reader (List A) = λ x. choose (seen l.Newline) (read_line n) (pure []) >>= λ xs. pure (x ∷ xs) in
        exact_map (lines_of R) (lines_of C) (lines_join R) (lines_split C)
        (exact_choose (turns_of effort (suc n)) begins (f.◌>>=◌ R (then_lines R)) (f.◌>>=◌ C (then_lines C)) (nothing []) (nothing []) h (p >>= q) (pure [])
        (exact_bind_by (turns_of effort (suc n)) effort (turns_of effort n) (Passing begins) R C g p (then_lines R) (then_lines C) h q
        (fewer effort (suc n) le)
        (λ a x s m c e same en. one_less effort begins n a s m (heads a x [] c) e same en)
        (weaken _ ep)
        (λ x. exact_bind (λ xs. nothing (x ∷ xs)) (λ xs. nothing (x ∷ xs)) h (λ xs. pure (x ∷ xs))
        (after_turns n (omega (arith, le)) (lines_turns moves n (omega (arith, le))))
        (λ xs. exact_pure (turns_of effort n) (x ∷ xs) h)
        (λ xs. ([], x ∷ xs, (refl, refl)))
        (λ xs b y rest d stop. subst (λ (t : List Token). Stops h (t ++ rest)) (sym d.0) stop))
        (λ x. ([], x ∷ [], ([], [], [], refl, inr (refl, refl), (refl, refl))))
        (λ x b y rest d stop. let c = made_out (after_line C) (λ zs. x ∷ zs) b y d in after_fails b c.0 rest c.1 stop))
        (weaken _ (exact_pure (turns_of effort (suc n)) [] h))
        (first_bind true begins C (then_lines C) heads)
        (λ w xs rest d stop. subst (λ (t : List Token). Stops begins (t ++ rest)) (sym d.0) (stops_less begins h (λ found spaced e. (ends found spaced e).1) rest stop))
        (λ xs s d clear is. (moves_bind moves (λ x. advances_bind (never_back (after_turns n (omega (arith, le)) (lines_turns moves n (omega (arith, le))))) (λ xs. advances_pure (x ∷ xs)))).beyond s clear is))

    -- What follows is no separator, begins no statement, and is none of what a statement goes on by.
    pub exact_stmts : Moves begins p → Exact effort Any (f.stmts R) (f.stmts C) h (stmts effort.turns begins p)
    exact_stmts moves =
        exact_map (f.stmts R) (f.stmts C) (stmts_out R) (stmts_back C)
        (exact_bind (λ _. lines_of R) (λ _. lines_of C) h (λ _. lines effort.turns begins p effort.turns)
        (exact_separators effort) (λ _. lines_turns moves effort.turns (omega arith)) (λ _. ([], [], refl)) (λ u b xs rest d stop. lines_halt b xs rest d stop))
