-- Loops: what is read time and again as long as the next token passes a test.
use Rattle.std.proofs.Common.{◌≡◌, ℕ, zero, suc, ◌<◌, ◌≤◌, true, List, [], ◌∷◌, ◌++◌, length, inl, inr, refl, sym, ap, subst, ◌∙◌, append_assoc, arith}
use Rattle.std.proofs.lemmas.List.{length-append, append-nil}
use Rattle.cr_syntax.specs.declared.token.Token.{Token}
use Rattle.cr_grammar.specs.Forms.{Form, nothing, ◌<|>◌}
use Rattle.cr_grammar.specs.Forms as f
use Rattle.cr_readers.specs.declared.fault.ParseFault.{ParseFault}
use Rattle.cr_readers.specs.Reader.{State, Outcome, Failed, Reader, Test, give_up, passes, ◌>>=◌, pure, either, many, repeated}
use Rattle.cr_exact.specs.Exact.{Stops, Effort, Enough, Begins, Exact, Any}
use Rattle.cr_exact.proofs.TokenTests.{stops_left, stops_right, Apart}
use Rattle.cr_exact.proofs.Sequence.{exact_bind_by, exact_bind, exact_pure, exact_map, weaken, begins_here}
use Rattle.cr_exact.proofs.Tokens.{Passing, exact_choose}
use Rattle.cr_exact.proofs.Sequence.{never_back}
use Rattle.cr_exact.proofs.Moves.{Moves, moves_bind, advances_bind, advances_pure}
use Rattle.cr_exact.proofs.Heads.{Heads, many_stop, repeated_stop, heads_fails}

-- Where no turn is left nothing is read.
pub given_up : {A : Type 0} (R : Form A) (s : State) (e : ParseFault) (s' : State) → let outcome : Outcome A = give_up s in outcome ≡ Failed e s' → Begins R s s'
given_up R s e s' is = begins_here R s s' (let same : s ≡ s' = cc in ap (λ (m : State). m.rest) same)

-- with so many turns
abbrev pub turns_of : Effort → ℕ → Effort
turns_of effort n = record { deep = effort.deep; turns = n }

some_length : (test : Test) (w : List Token) → passes test (w ++ []) ≡ true → 0 < length w
some_length test [] is = absurd cc
some_length test (t ∷ ts) is = omega arith

-- what is enough with fewer turns
pub fewer : (effort : Effort) (n : ℕ) → n ≤ effort.turns → (s : State) → Enough (turns_of effort n) s → Enough effort s
fewer effort n le s is = (is.0, omega (arith, is.1, le))

-- behind what is not empty one turn less is enough
pub one_less : (effort : Effort) (test : Test) (n : ℕ) (a : List Token) (s m : State) → passes test (a ++ []) ≡ true → s.rest ≡ a ++ m.rest → m.limited ≡ s.limited
    → Enough (turns_of effort (suc n)) s → Enough (turns_of effort n) m
one_less effort test n a s m is e same en = (en.0, omega (arith, en.1, ap length e, length-append a m.rest, some_length test a is))

module _ (effort : Effort) (test : Test) (g : Test) (apart : Apart test g) where
  abbrev h : Test
  h = either test g

  -- ---- a list

  module _ {A : Type 0} (R C : Form A) (p : Reader A) (ep : Exact effort (Passing test) R C g p) (heads : Heads test C) (moves : Moves test p) where
    abbrev more_of : Form A → Form (List A)
    more_of Q = f.◌>>=◌ Q (λ x. f.◌>>=◌ (f.many Q) (λ xs. nothing (x ∷ xs)))

    many_out : (Q : Form A) (w : List Token) (xs : List A) → (more_of Q <|> nothing []) w xs → f.many Q w xs
    many_out Q w xs (inl c) =
        let d = c.5 in
        subst (f.many Q w) (sym d.5.1) (c.0, c.1, c.3, c.4, subst (λ v. f.many Q v d.2) (sym (d.3 ∙ ap (λ (t : List Token). d.0 ++ t) d.5.0 ∙ append-nil d.0)) d.4)
    many_out Q w xs (inr c) = subst (f.many Q w) (sym c.1) c.0

    many_back : (Q : Form A) (w : List Token) (xs : List A) → f.many Q w xs → (more_of Q <|> nothing []) w xs
    many_back Q w [] c = inr (c, refl)
    many_back Q w (x ∷ xs) c = inl (c.0, c.1, x, c.2, c.3, (c.1, [], xs, sym (append-nil c.1), c.4, (refl, refl)))

    many_turns : (n : ℕ) → n ≤ effort.turns → Exact (turns_of effort n) Any (f.many R) (f.many C) h (many test p n)
    many_turns zero le = record {
      found = λ s x s' pre e. absurd cc;
      refused = λ s u s' pre e. absurd cc;
      begun = λ s d s' pre e. given_up (f.many R) s d s' e;
      complete = λ w x s rest pre c e stop en. absurd (omega (arith, en.1));
      reaches = λ w x s rest pre c e clear. tt;
    }
    many_turns (suc n) le =
        exact_map (f.many R) (f.many C) (many_out R) (many_back C)
        (exact_choose (turns_of effort (suc n)) test (more_of R) (more_of C) (nothing []) (nothing []) h
        (p >>= λ x. many test p n >>= λ xs. pure (x ∷ xs)) (pure [])
        (exact_bind_by (turns_of effort (suc n)) effort (turns_of effort n) (Passing test) R C g p
        (λ x. f.◌>>=◌ (f.many R) (λ xs. nothing (x ∷ xs))) (λ x. f.◌>>=◌ (f.many C) (λ xs. nothing (x ∷ xs))) h
        (λ x. many test p n >>= λ xs. pure (x ∷ xs))
        (fewer effort (suc n) le)
        (λ a x s m c e same en. one_less effort test n a s m (heads a x [] c) e same en)
        ep
        (λ x. exact_bind (λ xs. nothing (x ∷ xs)) (λ xs. nothing (x ∷ xs)) h (λ xs. pure (x ∷ xs))
        (many_turns n (omega (arith, le)))
        (λ xs. exact_pure _ (x ∷ xs) h)
        (λ xs. ([], x ∷ xs, (refl, refl)))
        (λ xs b y rest d stop. rw d.0 stop))
        (λ x. ([], x ∷ [], ([], [], [], refl, refl, (refl, refl))))
        (λ x b y rest d stop. subst (λ (t : List Token). Stops g (t ++ rest)) (sym (d.3 ∙ ap (λ (t : List Token). d.0 ++ t) d.5.0 ∙ append-nil d.0)) (many_stop g C (heads_fails test g C heads apart) d.0 d.2 rest d.4 (stops_right test g rest stop))))
        (weaken _ (exact_pure _ [] h))
        (λ w xs rest c. ap (λ (t : List Token). passes test (t ++ rest)) c.3 ∙ ap (passes test) (append_assoc c.0 c.1 rest) ∙ heads c.0 c.2 (c.1 ++ rest) c.4)
        (λ w xs rest d stop. rw d.0 (stops_left test g rest stop))
        (λ xs s d clear is. (moves_bind moves (λ x. advances_bind (never_back (many_turns n (omega (arith, le)))) (λ xs. advances_pure (x ∷ xs)))).beyond s clear is))

    -- { R }
    pub exact_many : Exact effort Any (f.many R) (f.many C) h (many test p effort.turns)
    exact_many = many_turns effort.turns (omega arith)

  -- ---- each time with what the time before gave

  module _ {A : Type 0} (R C : A → Form A) (p : A → Reader A) (ep : (x : A) → Exact effort (Passing test) (R x) (C x) g (p x)) (heads : (x : A) → Heads test (C x)) (moves : (x : A) → Moves test (p x)) where
    again_out : (Q : A → Form A) (x : A) (w : List Token) (y : A) → (f.◌>>=◌ (Q x) (f.repeated Q) <|> nothing x) w y → f.repeated Q x w y
    again_out Q x w y (inl c) = (suc c.5.0, (c.0, c.1, c.2, c.3, c.4, c.5.1))
    again_out Q x w y (inr c) = (0, c)

    again_back : (Q : A → Form A) (x : A) (n : ℕ) (w : List Token) (y : A) → f.repeated_of n Q x w y → (f.◌>>=◌ (Q x) (f.repeated Q) <|> nothing x) w y
    again_back Q x zero w y c = inr c
    again_back Q x (suc n) w y c = inl (c.0, c.1, c.2, c.3, c.4, (n, c.5))

    repeated_turns : (n : ℕ) → n ≤ effort.turns → (x : A) → Exact (turns_of effort n) Any (f.repeated R x) (f.repeated C x) h (repeated test p n x)
    repeated_turns zero le x = record {
      found = λ s y s' pre e. absurd cc;
      refused = λ s u s' pre e. absurd cc;
      begun = λ s d s' pre e. given_up (f.repeated R x) s d s' e;
      complete = λ w y s rest pre c e stop en. absurd (omega (arith, en.1));
      reaches = λ w y s rest pre c e clear. tt;
    }
    repeated_turns (suc n) le x =
        exact_map (f.repeated R x) (f.repeated C x) (again_out R x) (λ w y c. again_back C x c.0 w y c.1)
        (exact_choose (turns_of effort (suc n)) test (f.◌>>=◌ (R x) (f.repeated R)) (f.◌>>=◌ (C x) (f.repeated C)) (nothing x) (nothing x) h
        (p x >>= repeated test p n) (pure x)
        (exact_bind_by (turns_of effort (suc n)) effort (turns_of effort n) (Passing test) (R x) (C x) g (p x) (f.repeated R) (f.repeated C) h (repeated test p n)
        (fewer effort (suc n) le)
        (λ a y s m c e same en. one_less effort test n a s m (heads x a y [] c) e same en)
        (ep x)
        (λ y. repeated_turns n (omega (arith, le)) y)
        (λ y. ([], y, (0, (refl, refl))))
        (λ y b z rest d stop. repeated_stop g C (λ x. heads_fails test g (C x) (heads x) apart) d.0 y b z rest d.1 (stops_right test g rest stop)))
        (weaken _ (exact_pure _ x h))
        (λ w y rest c. ap (λ (t : List Token). passes test (t ++ rest)) c.3 ∙ ap (passes test) (append_assoc c.0 c.1 rest) ∙ heads x c.0 c.2 (c.1 ++ rest) c.4)
        (λ w y rest d stop. rw d.0 (stops_left test g rest stop))
        (λ y s d clear is. (moves_bind (moves x) (λ y. never_back (repeated_turns n (omega (arith, le)) y))).beyond s clear is))

    pub exact_repeated : (x : A) → Exact effort Any (f.repeated R x) (f.repeated C x) h (repeated test p effort.turns x)
    exact_repeated x = repeated_turns effort.turns (omega arith) x
