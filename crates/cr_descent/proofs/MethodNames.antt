-- The names of methods are read exactly, and the words that hold a name.
use Rattle.std.proofs.Common.{◌≡◌, ℕ, Bool, true, false, not, List, [], ◌∷◌, ◌++◌, inl, inr, refl, ap, ◌∙◌}
use Rattle.std.proofs.lemmas.Bool.{both_ways, or_parts}
use Rattle.std.specs.Prelude.{Option, Some, is_some, codes}
use Rattle.cr_syntax.specs.declared.look.TokenLook.{TokenLook}
use Rattle.cr_syntax.specs.declared.look.TokenLook.TheVariants as l
use Rattle.cr_syntax.specs.declared.token.Token.{Token}
use Rattle.cr_syntax.specs.declared.token.TokenKind.{TokenKind}
use Rattle.cr_syntax.specs.declared.token.TokenKind.TheVariants as k
use Rattle.cr_syntax.specs.Look.{look_of}
use Rattle.cr_grammar.specs.declared.word.Word.{Word}
use Rattle.cr_grammar.specs.Forms.{Form, nothing}
use Rattle.cr_grammar.specs.Forms as f
use Rattle.cr_grammar.specs.Operators as o
use Rattle.cr_readers.specs.Reader.{Test, passes, pure, choose, expect, only, either, seen, tight_seen, never, ◌>>◌}
use Rattle.cr_exact.specs.Exact.{Effort, Exact, Stops}
use Rattle.cr_readers.specs.Words.{ident, constant, instance_variable}
use Rattle.cr_readers.specs.Declarations as declarations
use Rattle.cr_exact.proofs.TokenTests.{stops_left, at_seen, look_apart, not_seen, never_stops, not_tight_seen, other_look}
use Rattle.cr_exact.proofs.Sequence.{exact_bind, exact_pure, exact_goes, weaken}
use Rattle.cr_exact.proofs.Tokens.{Passing, a_token, exact_take, exact_choose, exact_only}
use Rattle.cr_exact.proofs.Forms.{spelled_held}
use Rattle.cr_exact.proofs.Lists.{exact_tight_word}
use Rattle.cr_exact.proofs.Steps.{Starts, Reads, starts_word, starts_holding, starts_bind, starts_or, starts_tight, starts_passing, starts_led, reads_word, reads_pure, reads_sure, reads_goes, reads_as, reads_choose, reads_or_nothing}
use Rattle.cr_exact.proofs.Moves.{Moves, moves_bind, moves_word, moves_tight, advances_pure}
use Rattle.cr_descent.proofs.Words.{exact_ident, exact_constant, exact_instance_variable}

-- a word that must be tight, and a value
abbrev tight_word : {A : Type 0} → TokenLook → A → Form A
tight_word a x = f.◌>>=◌ (f.tight (f.word a)) (λ _. nothing x)

-- a tight word comes, and a value for it
exact_tight_value : (effort : Effort) (kind : TokenKind) {A : Type 0} (x : A)
    → Exact effort (Passing (tight_seen (look_of kind))) (tight_word (look_of kind) x) (tight_word (look_of kind) x) never (expect (look_of kind) >> pure x)
exact_tight_value effort kind x =
    exact_bind (λ _. nothing x) (λ _. nothing x) never (λ _. pure x) (exact_tight_word effort kind never) (λ _. exact_pure effort x never)
    (λ _. ([], x, (refl, refl))) (λ _ b y rest d stop. never_stops (b ++ rest))

tight_value_moves : (a : TokenLook) {A : Type 0} (x : A) → Moves (tight_seen a) (expect a >> pure x)
tight_value_moves a x = moves_tight a (moves_bind (moves_word a) (λ _. advances_pure x))

starts_tight_word : (a : TokenLook) {A : Type 0} (x : A) → Starts true (tight_seen a) (tight_word a x)
starts_tight_word a x = starts_bind (λ _. nothing x) (starts_tight a (starts_word a (at_seen a)))

-- a word that must be tight
reads_tight_word : (effort : Effort) (kind : TokenKind) (g : Test) → Reads effort (f.tight (f.word (look_of kind))) (f.tight (f.word (look_of kind))) g (only (tight_seen (look_of kind)) (expect (look_of kind)))
reads_tight_word effort kind g = (
  exact_only (tight_seen (look_of kind)) (expect (look_of kind)) (exact_tight_word effort kind g)
      (starts_tight (look_of kind) (starts_word (look_of kind) (at_seen (look_of kind)))).first
      (a_token kind ∷ []) 0 (refl, (a_token kind, refl, (refl, refl))),
  (a_token kind ∷ [], 0, (refl, (a_token kind, refl, (refl, refl)))),
)

pub reads_ident : (effort : Effort) (g : Test) → Reads effort f.ident f.ident g ident
reads_ident effort g = (exact_ident effort g, spelled_held (λ text. k.Ident text))

pub reads_constant : (effort : Effort) (g : Test) → Reads effort f.constant f.constant g constant
reads_constant effort g = (exact_constant effort g, spelled_held (λ text. k.Constant text))

pub reads_variable : (effort : Effort) (g : Test) → Reads effort f.instance_variable f.instance_variable g instance_variable
reads_variable effort g = (exact_instance_variable effort g, spelled_held (λ text. k.InstanceVariable text))

-- ---- the name of a method

-- a `=` or a `?` that is tight goes on
abbrev pub goes_name : Test
goes_name = either (tight_seen l.Equal) (tight_seen l.Question)

abbrev setter : Word → List ℕ
setter name = name.text ++ 61 ∷ []

abbrev name_rest : Word → Bool → Form (List ℕ)
name_rest name marked = f.◌<|>◌ (nothing name.text) (f.◌>>=◌ (f.where_true (not marked) (f.tight (f.word l.Equal))) (λ _. nothing (setter name)))

reads_name_rest : (effort : Effort) (name : Word) (marked : Bool) → Reads effort (name_rest name marked) (name_rest name marked) (tight_seen l.Equal) (declarations.name_from name marked)
reads_name_rest effort name true =
    reads_as (name_rest name true) (name_rest name true) (λ w x c. inl c) none (reads_pure effort name.text (tight_seen l.Equal)) where
      none : (w : List Token) (x : List ℕ) → name_rest name true w x → nothing name.text w x
      none w x (inl c) = c
      none w x (inr c) = absurd (both_ways _ refl c.4.0)
reads_name_rest effort name false =
    reads_as (name_rest name false) (name_rest name false) out back
    (reads_or_nothing (tight_seen l.Equal) name.text (starts_tight_word l.Equal (setter name)) (exact_tight_value effort (k.Plain l.Equal) (setter name)) (tight_value_moves l.Equal (setter name))) where
      out : (w : List Token) (x : List ℕ) → (f.◌<|>◌ (tight_word l.Equal (setter name)) (nothing name.text)) w x → name_rest name false w x
      out w x (inl c) = inr (c.0, c.1, c.2, c.3, (refl, c.4), c.5)
      out w x (inr c) = inl c

      back : (w : List Token) (x : List ℕ) → name_rest name false w x → (f.◌<|>◌ (tight_word l.Equal (setter name)) (nothing name.text)) w x
      back w x (inl c) = inr c
      back w x (inr c) = inl (c.0, c.1, c.2, c.3, c.4.1, c.5)

abbrev plain_name : Form (List ℕ)
plain_name = f.◌>>=◌ f.ident (λ name. name_rest name (o.is_marked name.text))

reads_plain_name : (effort : Effort) → Reads effort plain_name plain_name (tight_seen l.Equal) declarations.plain_name
reads_plain_name effort = reads_sure (reads_ident effort never) (λ name. reads_name_rest effort name (o.is_marked name.text))

-- what may stand behind the brackets
abbrev index_rest : Form (List ℕ)
index_rest = f.◌<|>◌ (nothing o.index_name) (f.◌<|>◌ (f.◌>>◌ (f.tight (f.word l.Equal)) (nothing o.index_set_name))
    (f.◌>>◌ (f.tight (f.word l.Question)) (nothing o.index_question_name)))

-- the same in the order in which it is tried
abbrev index_tried : Form (List ℕ)
index_tried = f.◌<|>◌ (tight_word l.Equal o.index_set_name) (f.◌<|>◌ (tight_word l.Question o.index_question_name) (nothing o.index_name))

abbrev question_or_none : Form (List ℕ)
question_or_none = f.◌<|>◌ (tight_word l.Question o.index_question_name) (nothing o.index_name)

index_out : (w : List Token) (x : List ℕ) → index_tried w x → index_rest w x
index_out w x (inl c) = inr (inl c)
index_out w x (inr (inl c)) = inr (inr c)
index_out w x (inr (inr c)) = inl c

index_back : (w : List Token) (x : List ℕ) → index_rest w x → index_tried w x
index_back w x (inl c) = inr (inr c)
index_back w x (inr (inl c)) = inl c
index_back w x (inr (inr c)) = inr (inl c)

no_equal : (w : List Token) (x : List ℕ) (rest : List Token) → question_or_none w x → Stops goes_name rest → Stops (tight_seen l.Equal) (w ++ rest)
no_equal w x rest (inl c) stop = (starts_led l.Question false (tight_seen l.Equal) (not_tight_seen l.Question l.Equal (other_look l.Question l.Equal (λ e. cc)))
    (starts_bind (λ _. nothing o.index_question_name) (starts_passing f.is_tight (starts_word l.Question (at_seen l.Question))))).first w x rest c
no_equal w x rest (inr c) stop = ap (λ (v : List Token). passes (tight_seen l.Equal) (v ++ rest)) c.0 ∙ stops_left (tight_seen l.Equal) (tight_seen l.Question) rest
    stop

reads_index_rest : (effort : Effort) → Reads effort index_rest index_rest goes_name
    (choose (tight_seen l.Equal) (expect l.Equal >> pure o.index_set_name)
    (choose (tight_seen l.Question) (expect l.Question >> pure o.index_question_name) (pure o.index_name)))
reads_index_rest effort =
    reads_as index_rest index_rest index_out index_back (
      exact_choose effort (tight_seen l.Equal) (tight_word l.Equal o.index_set_name) (tight_word l.Equal o.index_set_name) question_or_none question_or_none
          goes_name _ _
          (exact_goes goes_name (λ a spaced stop. refl) (exact_tight_value effort (k.Plain l.Equal) o.index_set_name))
          (weaken _ (exact_goes goes_name (λ a spaced stop. (or_parts _ _ stop).1)
          (reads_or_nothing (tight_seen l.Question) o.index_name (starts_tight_word l.Question o.index_question_name)
          (exact_tight_value effort (k.Plain l.Question) o.index_question_name) (tight_value_moves l.Question o.index_question_name)).0))
          (starts_tight_word l.Equal o.index_set_name).first no_equal
          (λ x s d clear is. (tight_value_moves l.Equal o.index_set_name).beyond s clear is),
      ([], o.index_name, inr (inr (refl, refl))),
    )

abbrev index_names : Form (List ℕ)
index_names = f.◌>>◌ (f.◌>>◌ (f.word l.OpenBracket) (f.tight (f.word l.CloseBracket))) index_rest

reads_index_names : (effort : Effort) → Reads effort index_names index_names goes_name declarations.index_names
reads_index_names effort =
    reads_sure (reads_sure (reads_word effort (k.Plain l.OpenBracket) never) (λ _. reads_tight_word effort (k.Plain l.CloseBracket) never)) (λ _. reads_index_rest effort)

abbrev operator : Form (List ℕ)
operator = f.one (λ t x. o.operator_name (look_of t.kind) ≡ Some x)

reads_operator : (effort : Effort) (g : Test) → Reads effort operator operator g declarations.operator
reads_operator effort g = (
  exact_take effort (λ t x. o.operator_name (look_of t.kind) ≡ Some x) g (λ t. o.operator_name (look_of t.kind)) (λ t x e. e) (λ t x e. e) (a_token (k.Plain l.Plus))
      (codes "+") refl,
  (a_token (k.Plain l.Plus) ∷ [], codes "+", (a_token (k.Plain l.Plus), refl, refl)),
)

-- what is no operator does not begin one
starts_operator : (a : TokenLook) → is_some (o.operator_name a) ≡ false → Starts false (seen a) operator
starts_operator a not = record {
  first = λ w x rest c. ap (λ (v : List Token). passes (seen a) (v ++ rest)) c.1
      ∙ look_apart (λ b. is_some (o.operator_name b)) a not (look_of c.0.kind) c.0.spaced (ap (λ (v : Option (List ℕ)). is_some v) c.2);
}

-- the lines of the name, in the order in which they are tried
abbrev pub name_tried : Form (List ℕ)
name_tried = f.◌<|>◌ plain_name (f.◌<|>◌ index_names operator)

pub reads_name_tried : (effort : Effort) → Reads effort name_tried name_tried goes_name declarations.method_name
reads_name_tried effort =
    reads_choose (seen l.Ident) (starts_bind _ (starts_holding (λ text. k.Ident text) l.Ident (λ text. refl) (at_seen l.Ident)))
    (starts_or (starts_bind _ (starts_bind _ (starts_word l.OpenBracket (not_seen l.OpenBracket l.Ident (λ e. cc))))) (starts_operator l.Ident refl))
    (reads_goes goes_name (λ a spaced stop. (or_parts _ _ stop).0) (reads_plain_name effort))
    (reads_choose (seen l.OpenBracket) (starts_bind _ (starts_bind _ (starts_word l.OpenBracket (at_seen l.OpenBracket)))) (starts_operator l.OpenBracket refl)
    (reads_index_names effort) (reads_operator effort goes_name))
