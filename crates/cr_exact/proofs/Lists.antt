-- Separators, what stands between two tokens, and lists.
use Rattle.std.proofs.Common.{◌≡◌, ℕ, Bool, true, false, not, cond, List, [], ◌∷◌, ◌++◌, ◌⊎◌, inl, inr, refl, sym, ap, subst, ◌∙◌}
use Rattle.std.proofs.lemmas.Bool.{and_from, and_parts}
use Rattle.std.specs.Prelude.{Option, Some, None}
use Rattle.std.proofs.lemmas.List.{append-nil}
use Rattle.cr_syntax.specs.declared.look.TokenLook.{TokenLook}
use Rattle.cr_syntax.specs.declared.look.TokenLook.TheVariants as l
use Rattle.cr_syntax.specs.declared.token.Token.{Token}
use Rattle.cr_syntax.specs.declared.token.TokenKind.{TokenKind}
use Rattle.cr_syntax.specs.declared.token.TokenKind.TheVariants as k
use Rattle.cr_syntax.specs.Look.{look_of}
use Rattle.cr_grammar.specs.Forms.{Form, nothing, ◌<|>◌, passing, maybe, word, is_tight, tight}
use Rattle.cr_grammar.specs.Forms as f
use Rattle.cr_readers.specs.Reader.{Reader, Test, passes, seen, tight_seen, either, never, expect, only, pure, many, ◌>>=◌, ◌>>◌, State, and_then, choose}
use Rattle.cr_readers.specs.Lists.{optional, separators, comma, listed, parenthesized}
use Rattle.cr_exact.specs.Exact.{Stops, Effort, Exact, Any}
use Rattle.cr_exact.proofs.TokenTests.{look_is_same, Apart, stops_left, stops_right, Not, never_stops, not_seen}
use Rattle.cr_exact.proofs.Sequence.{exact_bind, exact_pure, exact_map, exact_goes, weaken}
use Rattle.cr_exact.proofs.Tokens.{Passing, a_token, exact_word, exact_choose, exact_only}
use Rattle.cr_exact.proofs.Forms.{made_out, no_seps, a_word}
use Rattle.cr_exact.proofs.Heads.{Fails, NoLine, led_heads, many_stop, seps_fails, word_passes, Heads, first_bind, first_led}
use Rattle.cr_exact.proofs.Loops.{exact_many}
use Rattle.cr_exact.proofs.Sequence.{never_back}
use Rattle.cr_exact.proofs.Moves.{Moves, moves_bind, moves_word, moves_tight, advances_bind, advances_many, advances_pure}

-- ---- what separates

pub exact_separators : (effort : Effort) → Exact effort Any f.seps f.seps (seen l.Newline) (separators effort.turns)
exact_separators effort =
    let lines = exact_many effort (seen l.Newline) never (λ look spaced is. refl) (word l.Newline) (word l.Newline) (expect l.Newline)
    (weaken _ (exact_word effort (k.Plain l.Newline) never)) (word_passes l.Newline) (moves_word l.Newline) in
    exact_bind (λ xs. nothing tt) (λ xs. nothing tt) (seen l.Newline) (λ xs. pure tt)
    (exact_goes (seen l.Newline) (λ look spaced e. rw e refl) lines)
    (λ xs. exact_pure effort tt (seen l.Newline))
    (λ xs. ([], tt, (refl, refl)))
    (λ xs b y rest d stop. subst (λ (t : List Token). Stops (seen l.Newline) (t ++ rest)) (sym d.0) stop)

pub exact_comma : (effort : Effort) → Exact effort Any f.comma f.comma (seen l.Newline) (comma effort.turns)
exact_comma effort =
    exact_bind (λ at. f.seps) (λ at. f.seps) (seen l.Newline) (λ at. separators effort.turns)
    (exact_word effort (k.Plain l.Comma) never) (λ at. exact_separators effort) (λ at. ([], tt, no_seps)) (λ at b y rest d stop. never_stops (b ++ rest))

pub listed_moves : {effort : Effort} {A : Type 0} {R C : Form A} {g : Test} {test : Test} (p : Reader A) → Exact effort Any R C g p → Moves test p → Moves test (listed effort.turns p)
listed_moves {effort = effort} p ep moves =
    moves_bind moves (λ x. advances_bind
    (advances_many (seen l.Comma) (advances_bind (never_back (exact_comma effort)) (λ _. never_back ep)) effort.turns) (λ xs. advances_pure (x ∷ xs)))

-- ---- a form whose first token passes a test

lead : (test : Test) (front more rest : List Token) → passes test (front ++ rest) ≡ true → (front ≡ []) ⊎ (passes test (front ++ more) ≡ true)
lead test [] more rest is = inl refl
lead test (t ∷ front) more rest is = inr is

first_passes : (test : Test) (front rest : List Token) → (front ≡ [] → ⊥) → passes test (front ++ rest) ≡ true → passes test front ≡ true
first_passes test [] rest real is = absurd (real refl)
first_passes test (t ∷ front) rest real is = is

-- The reader is exact for it, where the next token passes.
pub exact_passing : {effort : Effort} {A : Type 0} {R C : Form A} {g : Test} {p : Reader A} (Pre : List Token → Type 0) (test : Test)
    → ((ts : List Token) → Pre ts → passes test ts ≡ true)
    → ((w : List Token) (x : A) → R w x → w ≡ [] → ⊥)
    → (w0 : List Token) (x0 : A) → R w0 x0 → passes test w0 ≡ true
    → Exact effort Any R C g p → Exact effort Pre (passing (passes test) R) (passing (passes test) C) g p
exact_passing {R = R} {p = p} Pre test must real w0 x0 some first ep = record {
  found = λ s x s' pre is.
      let F = ep.found s x s' tt is in
      record {
        front = F.front;
        parts = F.parts;
        ends = F.ends;
        spelled = (first_passes test F.front s'.rest (real F.front x F.spelled) (ap (passes test) (sym F.parts) ∙ must s.rest pre), F.spelled);
        again = F.again;
      };
  refused = λ s n s' pre is.
      let F = ep.refused s n s' tt is in
      elim (lead test F.front F.more s'.rest (ap (passes test) (sym F.parts) ∙ must s.rest pre)) [
        | inl none ↦ record {
          front = F.front;
          parts = F.parts;
          place = F.place;
          more = w0;
          value = x0;
          begins = subst (λ (t : List Token). passing (passes test) R (t ++ w0) x0) (sym none) (first, some);
          again = F.again;
        }
        | inr led ↦ record {
          front = F.front;
          parts = F.parts;
          place = F.place;
          more = F.more;
          value = F.value;
          begins = (led, F.begins);
          again = F.again;
        }
      ];
  begun = λ s d s' pre is.
      let F = ep.begun s d s' tt is in
      record {
        front = F.front;
        parts = F.parts;
        begins = λ some.
            let B = F.begins some in (
              B.0,
              B.1,
              (
                elim (lead test F.front B.0 s'.rest (ap (passes test) (sym F.parts) ∙ must s.rest pre)) [
                  | inl none ↦ absurd (some none)
                  | inr led ↦ led
                ],
                B.2,
              ),
            );
      };
  complete = λ w x s rest pre c. ep.complete w x s rest tt c.1;
  reaches = λ w x s rest pre c. ep.reaches w x s rest tt c.1;
}

-- ---- between an opening and a closing token

-- separators and a closing token
abbrev pub closed : {A : Type 0} → TokenLook → A → Form A
closed close x = f.◌>>=◌ f.seps (λ _. f.◌>>=◌ (word close) (λ _. nothing x))

abbrev pub read_closed : {A : Type 0} → ℕ → TokenLook → A → Reader A
read_closed turns close x = separators turns >> (expect close >> pure x)

-- R between an opening and a closing token, with separators behind the one and before the other
abbrev pub between : {A : Type 0} → TokenLook → TokenLook → Form A → Form A
between open_ close R = f.◌>>=◌ (word open_) (λ _. f.◌>>=◌ f.seps (λ _. f.◌>>=◌ R (λ x. closed close x)))

module _ (effort : Effort) {A : Type 0} (kind : TokenKind) (x : A) where
  pub exact_end : Exact effort Any (f.◌>>=◌ (word (look_of kind)) (λ _. nothing x)) (f.◌>>=◌ (word (look_of kind)) (λ _. nothing x)) never (expect (look_of kind) >> pure x)
  exact_end =
      exact_bind (λ _. nothing x) (λ _. nothing x) never (λ _. pure x) (exact_word effort kind never) (λ _. exact_pure effort x never)
      (λ _. ([], x, (refl, refl))) (λ at b y rest d stop. never_stops (b ++ rest))

  pub exact_closed : (look_of kind ≡ l.Newline → ⊥) → Exact effort Any (closed (look_of kind) x) (closed (look_of kind) x) never (read_closed effort.turns (look_of kind) x)
  exact_closed other =
      exact_bind (λ _. f.◌>>=◌ (word (look_of kind)) (λ _. nothing x)) (λ _. f.◌>>=◌ (word (look_of kind)) (λ _. nothing x)) never (λ _. expect (look_of kind) >> pure x)
      (exact_separators effort) (λ _. exact_end) (λ _. (a_token kind ∷ [], x, a_word kind x))
      (λ u b y rest d stop. first_led false (look_of kind) (seen l.Newline) (λ _. nothing x) (not_seen _ _ other) b y rest d)

pub some_closed : {A : Type 0} (kind : TokenKind) (x : A) → closed (look_of kind) x (a_token kind ∷ []) x
some_closed kind x = ([], a_token kind ∷ [], tt, refl, no_seps, a_word kind x)

pub closed_fails : {A : Type 0} (g : Test) (close : TokenLook) (x : A) → Not l.Newline g → Not close g → Fails g (closed close x)
closed_fails g close x line lets = seps_fails g line _ (λ u. first_led false close g _ lets)

-- ---- what may be there

module _ {A : Type 0} where
  optional_out : (Q : Form A) (w : List Token) (o : Option A) → (f.◌>>=◌ Q (λ x. nothing (Some x)) <|> nothing None) w o → maybe Q w o
  optional_out Q w o (inl c) =
      let a = made_out Q (λ x. Some x) w o c in
      subst (λ v. maybe Q w v) (sym a.2) a.1
  optional_out Q w o (inr c) = subst (λ v. maybe Q w v) (sym c.1) c.0

  optional_back : (Q : Form A) (w : List Token) (o : Option A) → maybe Q w o → (f.◌>>=◌ Q (λ x. nothing (Some x)) <|> nothing None) w o
  optional_back Q w None c = inr (c, refl)
  optional_back Q w (Some x) c = inl (w, [], x, sym (append-nil w), c, (refl, refl))

-- [ R ], where the reader is exact if R comes
pub exact_optional_where : (effort : Effort) {A : Type 0} (R C : Form A) (g : Test) (p : Reader A) (test : Test)
    → Exact effort (Passing test) R C g p → Heads test C → Moves test p → Exact effort Any (maybe R) (maybe C) (either test g) (optional test p)
exact_optional_where effort R C g p test ep heads moves =
    exact_map (maybe R) (maybe C) (optional_out R) (optional_back C)
    (exact_choose effort test (f.◌>>=◌ R (λ x. nothing (Some x))) (f.◌>>=◌ C (λ x. nothing (Some x))) (nothing None) (nothing None) (either test g)
    (p >>= λ x. pure (Some x)) (pure None)
    (exact_bind (λ x. nothing (Some x)) (λ x. nothing (Some x)) (either test g) (λ x. pure (Some x)) ep
    (λ x. exact_pure effort (Some x) (either test g)) (λ x. ([], Some x, (refl, refl)))
    (λ x b y rest d stop. subst (λ (t : List Token). Stops g (t ++ rest)) (sym d.0) (stops_right test g rest stop)))
    (weaken _ (exact_pure effort None (either test g)))
    (first_bind true test C (λ x. nothing (Some x)) heads)
    (λ w x rest d stop. subst (λ (t : List Token). Stops test (t ++ rest)) (sym d.0) (stops_left test g rest stop))
    (λ x s d clear is. (moves_bind moves (λ y. advances_pure (Some y))).beyond s clear is))

passes_same : (test a : Test) → ((found : TokenLook) (spaced : Bool) → test found spaced ≡ a found spaced) → (ts : List Token) → passes test ts ≡ passes a ts
passes_same test a same [] = refl
passes_same test a same (t ∷ ts) = same (look_of t.kind) t.spaced

same_choice : {A B : Type 0} (b : Bool) (a : Test) (p q : Reader A) (k : A → Reader B) (r : Reader B) (s : State) → passes a s.rest ≡ b → cond b (p >>= k) r s ≡ cond b (choose a p q >>= k) r s
same_choice true a p q k r s e = ap (λ c. and_then (cond c p q s) k) (sym e)
same_choice false a p q k r s e = refl

-- Where the one test passes as the other does, a choice by the other is made already.
pub optional_same : {A : Type 0} (test a : Test) → ((found : TokenLook) (spaced : Bool) → test found spaced ≡ a found spaced) → (p q : Reader A) (s : State) → optional a p s ≡ optional test (choose a p q) s
optional_same test a same p q s =
    same_choice (passes a s.rest) a p q (λ x. pure (Some x)) (pure None) s refl
    ∙ ap (λ c. cond c (choose a p q >>= λ x. pure (Some x)) (pure None) s) (sym (passes_same test a same s.rest))

-- ---- tight

passes_tight : (look : TokenLook) (w rest : List Token) → is_tight w ≡ true → passes (seen look) (w ++ rest) ≡ true → passes (tight_seen look) (w ++ rest) ≡ true
passes_tight opening [] rest tight is = absurd cc
passes_tight opening (t ∷ ts) rest tight is = and_from (not t.spaced) _ tight is

not_empty : (test : Test) (w : List Token) → passes test (w ++ []) ≡ true → w ≡ [] → ⊥
not_empty test [] is e = cc
not_empty test (t ∷ ts) is e = absurd cc

pub tight_heads : {A : Type 0} (look : TokenLook) (C : Form A) → Heads (seen look) C → Heads (tight_seen look) (tight C)
tight_heads look C heads w x rest c = passes_tight look w rest c.0 (heads w x rest c.1)

-- any tight token
abbrev tight_only : Test
tight_only found spaced = not spaced

tight_same : (w : List Token) → passes tight_only w ≡ is_tight w
tight_same [] = refl
tight_same (t ∷ ts) = refl

tight_of : (look : TokenLook) (ts : List Token) → passes (tight_seen look) ts ≡ true → passes tight_only ts ≡ true
tight_of opening [] is = absurd cc
tight_of opening (t ∷ ts) is = (and_parts (not t.spaced) _ is).0

-- The reader of a form that begins with a word is exact for it where that is tight.
pub exact_tight : {effort : Effort} {A : Type 0} {R C : Form A} {g : Test} {p : Reader A} (look : TokenLook) → Heads (seen look) R
    → (w0 : List Token) (x0 : A) → R w0 x0 → is_tight w0 ≡ true → Exact effort Any R C g p → Exact effort (Passing (tight_seen look)) (tight R) (tight C) g p
exact_tight {R = R} {C = C} look heads w0 x0 some first ep =
    exact_map (tight R) (tight C) (λ w x c. (sym (tight_same w) ∙ c.0, c.1)) (λ w x c. (tight_same w ∙ c.0, c.1))
    (exact_passing (Passing (tight_seen look)) tight_only (tight_of look) (λ w x r. not_empty (seen look) w (heads w x [] r)) w0 x0 some (tight_same w0 ∙ first) ep)

pub exact_tight_word : (effort : Effort) (kind : TokenKind) (g : Test)
    → Exact effort (Passing (tight_seen (look_of kind))) (tight (word (look_of kind))) (tight (word (look_of kind))) g (expect (look_of kind))
exact_tight_word effort kind g =
    exact_tight (look_of kind) (word_passes (look_of kind)) (a_token kind ∷ []) 0 (a_token kind, refl, (refl, refl)) refl (exact_word effort kind g)

pub exact_maybe_word : (effort : Effort) (kind : TokenKind)
    → Exact effort Any (maybe (tight (word (look_of kind)))) (maybe (tight (word (look_of kind)))) (either (tight_seen (look_of kind)) never) (optional (tight_seen (look_of kind)) (expect (look_of kind)))
exact_maybe_word effort kind =
    exact_optional_where effort (tight (word (look_of kind))) (tight (word (look_of kind))) never (expect (look_of kind)) (tight_seen (look_of kind))
    (exact_tight_word effort kind never) (tight_heads (look_of kind) (word (look_of kind)) (word_passes (look_of kind)))
    (moves_tight (look_of kind) (moves_word (look_of kind)))

-- ---- lists

module _ (effort : Effort) {A : Type 0} (R C : Form A) (g : Test) (p : Reader A) (ep : Exact effort Any R C g p) where
  -- [ R ]
  pub exact_optional : (test : Test) → Heads test C → Moves test p → Exact effort Any (maybe R) (maybe C) (either test g) (optional test p)
  exact_optional test heads moves = exact_optional_where effort R C g p test (weaken _ ep) heads moves

  pub parenthesized_moves : Moves (seen l.OpenParenthesis) (parenthesized effort.turns p)
  parenthesized_moves =
      moves_bind (moves_word l.OpenParenthesis) (λ _. advances_bind (never_back (exact_separators effort)) (λ _. advances_bind (never_back ep)
      (λ x. never_back (exact_closed effort (k.Plain l.CloseParenthesis) x (λ e. cc)))))

  module _ (lineless : NoLine C) (w0 : List Token) (x0 : A) (some : R w0 x0) where
    one_more : Exact effort Any (f.◌>>◌ f.comma R) (f.◌>>◌ f.comma C) g (comma effort.turns >> p)
    one_more = exact_bind (λ _. R) (λ _. C) g (λ _. p) (exact_comma effort) (λ _. ep) (λ _. (w0, x0, some)) (λ u b y rest d stop. lineless b y rest d)

    -- R { "," R }
    pub exact_listed : Apart (seen l.Comma) g → Exact effort Any (f.listed R) (f.listed C) (either (seen l.Comma) g) (listed effort.turns p)
    exact_listed apart =
        exact_bind (λ x. f.◌>>=◌ (f.many (f.◌>>◌ f.comma R)) (λ xs. nothing (x ∷ xs))) (λ x. f.◌>>=◌ (f.many (f.◌>>◌ f.comma C)) (λ xs. nothing (x ∷ xs))) (either (seen l.Comma) g)
        (λ x. many (seen l.Comma) (comma effort.turns >> p) effort.turns >>= λ xs. pure (x ∷ xs))
        ep
        (λ x. exact_bind (λ xs. nothing (x ∷ xs)) (λ xs. nothing (x ∷ xs)) (either (seen l.Comma) g) (λ xs. pure (x ∷ xs))
        (exact_many effort (seen l.Comma) g apart (f.◌>>◌ f.comma R) (f.◌>>◌ f.comma C) (comma effort.turns >> p) (weaken _ one_more)
        (first_bind true (seen l.Comma) f.comma (λ _. C) (led_heads l.Comma (λ _. f.seps)))
        (moves_bind (moves_bind (moves_word l.Comma) (λ _. never_back (exact_separators effort))) (λ _. never_back ep)))
        (λ xs. exact_pure effort (x ∷ xs) (either (seen l.Comma) g))
        (λ xs. ([], x ∷ xs, (refl, refl)))
        (λ xs b y rest d stop. subst (λ (t : List Token). Stops (either (seen l.Comma) g) (t ++ rest)) (sym d.0) stop))
        (λ x. ([], x ∷ [], ([], [], [], refl, refl, (refl, refl))))
        (λ x b y rest d stop.
        let a = made_out (f.many (f.◌>>◌ f.comma C)) (λ xs. x ∷ xs) b y d in
        many_stop g (f.◌>>◌ f.comma C) (first_bind false g f.comma (λ _. C) (first_led false l.Comma g (λ _. f.seps) (λ spaced. apart l.Comma spaced (look_is_same l.Comma l.Comma refl))))
        b a.0 rest a.1 (stops_right (seen l.Comma) g rest stop))

    abbrev inner : TokenLook → Form A → Form A
    inner close Q = f.◌>>=◌ Q (λ x. closed close x)

    some_inner : (closes : TokenKind) → inner (look_of closes) R (w0 ++ (a_token closes ∷ [])) x0
    some_inner closes = (w0, a_token closes ∷ [], x0, refl, some, some_closed closes x0)

    pub exact_between : (opens closes : TokenKind) → (look_of closes ≡ l.Newline → ⊥) → Not l.Newline g → Not (look_of closes) g
        → Exact effort Any (between (look_of opens) (look_of closes) R) (between (look_of opens) (look_of closes) C) never
        (expect (look_of opens) >> (separators effort.turns >> (p >>= λ x. read_closed effort.turns (look_of closes) x)))
    exact_between opens closes other line close =
        exact_bind (λ _. f.◌>>=◌ f.seps (λ _. inner (look_of closes) R)) (λ _. f.◌>>=◌ f.seps (λ _. inner (look_of closes) C)) never (λ _. separators effort.turns >> (p >>= λ x. read_closed effort.turns (look_of closes) x))
        (exact_word effort opens never)
        (λ _. exact_bind (λ _. inner (look_of closes) R) (λ _. inner (look_of closes) C) never (λ _. p >>= λ x. read_closed effort.turns (look_of closes) x)
        (exact_separators effort)
        (λ _. exact_bind (λ x. closed (look_of closes) x) (λ x. closed (look_of closes) x) never (λ x. read_closed effort.turns (look_of closes) x)
        ep (λ x. exact_closed effort closes x other) (λ x. (a_token closes ∷ [], x, some_closed closes x))
        (λ x b y rest d stop. closed_fails g (look_of closes) x line close b y rest d))
        (λ _. (w0 ++ (a_token closes ∷ []), x0, some_inner closes))
        (λ u b y rest d stop. first_bind false (seen l.Newline) C (λ x. closed (look_of closes) x) lineless b y rest d))
        (λ _. (w0 ++ (a_token closes ∷ []), x0, ([], w0 ++ (a_token closes ∷ []), tt, refl, no_seps, some_inner closes)))
        (λ at b y rest d stop. never_stops (b ++ rest))

    -- "(" R ")"
    pub exact_parenthesized : Not l.Newline g → Not l.CloseParenthesis g → Exact effort Any (f.parenthesized R) (f.parenthesized C) never (parenthesized effort.turns p)
    exact_parenthesized line close = exact_between (k.Plain l.OpenParenthesis) (k.Plain l.CloseParenthesis) (λ e. cc) line close

    some_parenthesized : f.parenthesized R (a_token (k.Plain l.OpenParenthesis) ∷ (w0 ++ (a_token (k.Plain l.CloseParenthesis) ∷ []))) x0
    some_parenthesized = (
      a_token (k.Plain l.OpenParenthesis) ∷ [],
      w0 ++ (a_token (k.Plain l.CloseParenthesis) ∷ []),
      0,
      refl,
      (a_token (k.Plain l.OpenParenthesis), refl, (refl, refl)),
      ([], w0 ++ (a_token (k.Plain l.CloseParenthesis) ∷ []), tt, refl, no_seps, some_inner (k.Plain l.CloseParenthesis)),
    )

    pub tight_parenthesized : Not l.Newline g → Not l.CloseParenthesis g
        → Exact effort (Passing (tight_seen l.OpenParenthesis)) (tight (f.parenthesized R)) (tight (f.parenthesized C)) never (parenthesized effort.turns p)
    tight_parenthesized line close = exact_tight l.OpenParenthesis (led_heads l.OpenParenthesis _) _ x0 some_parenthesized refl (exact_parenthesized line close)

    -- [ tight "(" R ")" ]
    pub exact_maybe_tight : Not l.Newline g → Not l.CloseParenthesis g
        → Exact effort Any (maybe (tight (f.parenthesized R))) (maybe (tight (f.parenthesized C))) (tight_seen l.OpenParenthesis) (optional (tight_seen l.OpenParenthesis) (parenthesized effort.turns p))
    exact_maybe_tight line close =
        exact_goes (tight_seen l.OpenParenthesis) (λ look spaced e. rw e refl)
        (exact_optional_where effort (tight (f.parenthesized R)) (tight (f.parenthesized C)) never (parenthesized effort.turns p) (tight_seen l.OpenParenthesis)
        (tight_parenthesized line close) (tight_heads l.OpenParenthesis (f.parenthesized C) (led_heads l.OpenParenthesis _))
        (moves_tight l.OpenParenthesis parenthesized_moves))

    -- tight "(" R ")"
    pub exact_only_tight : Not l.Newline g → Not l.CloseParenthesis g
        → Exact effort Any (tight (f.parenthesized R)) (tight (f.parenthesized C)) never (only (tight_seen l.OpenParenthesis) (parenthesized effort.turns p))
    exact_only_tight line close =
        exact_only (tight_seen l.OpenParenthesis) (parenthesized effort.turns p) (tight_parenthesized line close)
        (tight_heads l.OpenParenthesis (f.parenthesized C) (led_heads l.OpenParenthesis _)) _ x0 (refl, some_parenthesized)
