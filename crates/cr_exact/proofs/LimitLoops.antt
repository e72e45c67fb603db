-- What is counted by loops, and by what may be there.
use Rattle.std.proofs.Common.{◌≡◌, ℕ, zero, suc, List, [], ◌∷◌, ◌++◌, Option, Some, None, inl, inr, refl, sym, ap, subst, ◌∙◌, append_assoc}
use Rattle.std.proofs.lemmas.List.{append-nil}
use Rattle.cr_syntax.specs.declared.token.Token.{Token}
use Rattle.cr_grammar.specs.Forms.{Form, nothing, ◌<|>◌, maybe}
use Rattle.cr_grammar.specs.Forms as f
use Rattle.cr_readers.specs.Reader.{Reader, Test, passes, ◌>>=◌, pure, give_up, either, many, repeated}
use Rattle.cr_readers.specs.Lists.{optional}
use Rattle.cr_exact.specs.Exact.{Stops, Effort, Exact, Any}
use Rattle.cr_exact.specs.Limits.{Tally, AtMost, Counts, tallied, if_any}
use Rattle.cr_exact.proofs.TokenTests.{Apart, apart_stops, stops_left, stops_right}
use Rattle.cr_exact.proofs.Tokens.{Passing, Failing}
use Rattle.cr_exact.proofs.Heads.{Heads}
use Rattle.cr_exact.proofs.Limits.{least, at_most, still_pure, still_give_up, counts_pure, counts_weaken, counts_map, counts_bind, counts_bind_quiet}
use Rattle.cr_exact.proofs.LimitChoices.{counts_choose, failing_same}

-- what gives up counts nothing, and halts at no limit
pub given_up : {A : Type 0} (C : Form A) (g : Test) (from : Tally) (to : A → Tally) → ((w : List Token) (x : A) → C w x → AtMost from (to x)) → Counts Any C g from to give_up
given_up C g from to grows = record {
  same = λ a b e pre. tt;
  grows = grows;
  found = λ s x s' pre is e. absurd cc;
  stopped = λ s e n s' pre is failed limit. absurd (still_give_up.lets s e n s' failed limit);
}

module _ (effort : Effort) (test : Test) (g : Test) (apart : Apart test g) where
  abbrev h : Test
  h = either test g

  -- ---- a list

  module _ {A : Type 0} (R C : Form A) (p : Reader A) (ep : Exact effort (Passing test) R C g p) (heads : Heads test C)
      (step : Tally → A → Tally) (Is : Tally → Type 0) (keeps : (t : Tally) (x : A) → Is t → Is (step t x)) (cp : (t : Tally) → Is t → Counts (Passing test) C g t (step t) p) where
    abbrev more_of : Form (List A)
    more_of = f.◌>>=◌ C (λ x. f.◌>>=◌ (f.many C) (λ xs. nothing (x ∷ xs)))

    many_stops : (xs : List A) (w rest : List Token) → f.many C w xs → Stops h rest → Stops g (w ++ rest)
    many_stops [] w rest c stop = rw c (stops_right test g rest stop)
    many_stops (x ∷ xs) w rest c stop =
        let whole : w ++ rest ≡ c.0 ++ (c.1 ++ rest) = ap (λ (t : List Token). t ++ rest) c.2 ∙ append_assoc c.0 c.1 rest in
        apart_stops test g apart (w ++ rest) (ap (passes test) whole ∙ heads c.0 x (c.1 ++ rest) c.3)

    many_back : (w : List Token) (xs : List A) → f.many C w xs → (more_of <|> nothing []) w xs
    many_back w [] c = inr (c, refl)
    many_back w (x ∷ xs) c = inl (c.0, c.1, x, c.2, c.3, (c.1, [], xs, sym (append-nil c.1), c.4, (refl, refl)))

    many_grows : (t : Tally) → Is t → (w : List Token) (xs : List A) → f.many C w xs → AtMost t (tallied step t xs)
    many_grows t is w [] c = least t
    many_grows t is w (x ∷ xs) c = at_most t (step t x) (tallied step (step t x) xs) ((cp t is).grows c.0 x c.3) (many_grows (step t x) (keeps t x is) c.1 xs c.4)

    many_counts : (n : ℕ) (t : Tally) → Is t → Counts Any (f.many C) h t (tallied step t) (many test p n)
    many_counts zero t is = given_up (f.many C) h t (tallied step t) (many_grows t is)
    many_counts (suc n) t is =
        counts_map (f.many C) many_back
        (counts_choose test more_of (nothing []) h (p >>= λ x. many test p n >>= λ xs. pure (x ∷ xs)) (pure [])
        (counts_bind (λ x. f.◌>>=◌ (f.many C) (λ xs. nothing (x ∷ xs))) h (λ x. many test p n >>= λ xs. pure (x ∷ xs)) (tallied step t)
        ep (cp t is)
        (λ x. counts_bind_quiet (λ xs. nothing (x ∷ xs)) h (λ xs. pure (x ∷ xs)) (tallied step t)
        (many_counts n (step t x) (keeps t x is))
        (λ xs. counts_pure (x ∷ xs) h (tallied step (step t x) xs) (tallied step t) refl)
        (λ xs. (still_pure (x ∷ xs)).lets)
        (λ xs b y rest d stop. rw d.0 stop))
        (λ x b y rest d stop. subst (λ (t : List Token). Stops g (t ++ rest)) (sym (d.3 ∙ ap (λ (t : List Token). d.0 ++ t) d.5.0 ∙ append-nil d.0)) (many_stops d.2 d.0 rest d.4 stop)))
        (counts_weaken (Failing test) (failing_same test) (counts_pure [] h t (tallied step t) refl))
        (λ w xs rest c. ap (λ (t : List Token). passes test (t ++ rest)) c.3 ∙ ap (passes test) (append_assoc c.0 c.1 rest) ∙ heads c.0 c.2 (c.1 ++ rest) c.4)
        (λ w xs rest d stop. rw d.0 (stops_left test g rest stop)))

    -- { R }
    pub counts_many : (n : ℕ) (t : Tally) → Is t → Counts Any (f.many C) h t (tallied step t) (many test p n)
    counts_many n t is = many_counts n t is

  -- ---- each time with what the time before gave

  module _ {A : Type 0} (R C : A → Form A) (p : A → Reader A) (ep : (x : A) → Exact effort (Passing test) (R x) (C x) g (p x)) (heads : (x : A) → Heads test (C x))
      (told : A → Tally) (cp : (x : A) → Counts (Passing test) (C x) g (told x) told (p x)) where
    again_back : (x : A) (n : ℕ) (w : List Token) (y : A) → f.repeated_of n C x w y → (f.◌>>=◌ (C x) (f.repeated C) <|> nothing x) w y
    again_back x zero w y c = inr c
    again_back x (suc n) w y c = inl (c.0, c.1, c.2, c.3, c.4, (n, c.5))

    again_heads : (x : A) (n : ℕ) (w : List Token) (y : A) (rest : List Token) → f.repeated_of n C x w y → Stops h rest → Stops g (w ++ rest)
    again_heads x zero w y rest c stop = rw c.0 (stops_right test g rest stop)
    again_heads x (suc n) w y rest c stop =
        let whole : w ++ rest ≡ c.0 ++ (c.1 ++ rest) = ap (λ (t : List Token). t ++ rest) c.3 ∙ append_assoc c.0 c.1 rest in
        apart_stops test g apart (w ++ rest) (ap (passes test) whole ∙ heads x c.0 c.2 (c.1 ++ rest) c.4)

    again_grows : (x : A) (n : ℕ) (w : List Token) (y : A) → f.repeated_of n C x w y → AtMost (told x) (told y)
    again_grows x zero w y c = subst (λ v. AtMost (told x) (told v)) (sym c.1) (least (told x))
    again_grows x (suc n) w y c = at_most (told x) (told c.2) (told y) ((cp x).grows c.0 c.2 c.4) (again_grows c.2 n c.1 y c.5)

    -- R { R }, each with what the one before gave
    pub counts_repeated : (n : ℕ) (x : A) → Counts Any (f.repeated C x) h (told x) told (repeated test p n x)
    counts_repeated zero x = given_up (f.repeated C x) h (told x) told (λ w y c. again_grows x c.0 w y c.1)
    counts_repeated (suc n) x =
        counts_map (f.repeated C x) (λ w y c. again_back x c.0 w y c.1)
        (counts_choose test (f.◌>>=◌ (C x) (f.repeated C)) (nothing x) h (p x >>= repeated test p n) (pure x)
        (counts_bind (f.repeated C) h (repeated test p n) told (ep x) (cp x)
        (λ y. counts_repeated n y)
        (λ y b z rest d stop. again_heads y d.0 b z rest d.1 stop))
        (counts_weaken (Failing test) (failing_same test) (counts_pure x h (told x) told refl))
        (λ w y rest c. ap (λ (t : List Token). passes test (t ++ rest)) c.3 ∙ ap (passes test) (append_assoc c.0 c.1 rest) ∙ heads x c.0 c.2 (c.1 ++ rest) c.4)
        (λ w y rest d stop. rw d.0 (stops_left test g rest stop)))

-- ---- what may be there

module _ {A : Type 0} (C : Form A) where
  abbrev some_of : Form (Option A)
  some_of = f.◌>>=◌ C (λ x. nothing (Some x))

  optional_back : (w : List Token) (o : Option A) → maybe C w o → (some_of <|> nothing None) w o
  optional_back w None c = inr (c, refl)
  optional_back w (Some x) c = inl (w, [], x, sym (append-nil w), c, (refl, refl))

  -- [ R ], where p reads R if the test tells that it comes
  pub counts_optional : (g : Test) (p : Reader A) (test : Test) (from : Tally) (to : A → Tally) → Heads test C → Counts (Passing test) C g from to p
      → Counts Any (maybe C) (either test g) from (if_any from to) (optional test p)
  counts_optional g p test from to heads cp =
      counts_map (maybe C) optional_back
      (counts_choose test some_of (nothing None) (either test g) (p >>= λ x. pure (Some x)) (pure None)
      (counts_bind_quiet (λ x. nothing (Some x)) (either test g) (λ x. pure (Some x)) (if_any from to) cp
      (λ x. counts_pure (Some x) (either test g) (to x) (if_any from to) refl)
      (λ x. (still_pure (Some x)).lets)
      (λ x b y rest d stop. subst (λ (t : List Token). Stops g (t ++ rest)) (sym d.0) (stops_right test g rest stop)))
      (counts_weaken (Failing test) (failing_same test) (counts_pure None (either test g) from (if_any from to) refl))
      (λ w x rest c. ap (λ (t : List Token). passes test (t ++ rest)) c.3 ∙ ap (passes test) (append_assoc c.0 c.1 rest) ∙ heads c.0 c.2 (c.1 ++ rest) c.4)
      (λ w x rest d stop. subst (λ (t : List Token). Stops test (t ++ rest)) (sym d.0) (stops_left test g rest stop)))
