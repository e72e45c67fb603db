-- Whole statements are read exactly.
use Rattle.std.proofs.Common.{◌≡◌, ℕ, Bool, true, false, ◌&&◌, ◌||◌, List, [], ◌∷◌, ◌++◌, inl, inr, refl, sym, ap, subst, ◌∙◌}
use Rattle.std.proofs.lemmas.Bool.{and_from, and_parts}
use Rattle.std.specs.Prelude.{not, Option, Some, None}
use Rattle.std.proofs.lemmas.List.{append-nil}
use Rattle.cr_syntax.specs.declared.look.TokenLook.{TokenLook}
use Rattle.cr_syntax.specs.declared.look.TokenLook.TheVariants as l
use Rattle.cr_syntax.specs.declared.token.Token.{Token}
use Rattle.cr_syntax.specs.declared.token.TokenKind.{TokenKind}
use Rattle.cr_syntax.specs.declared.token.TokenKind.TheVariants as k
use Rattle.cr_syntax.specs.Look.{look_of}
use Rattle.cr_grammar.specs.declared.operator.Assignment.{Assignment}
use Rattle.cr_grammar.specs.declared.tree.Tree.{Tree}
use Rattle.cr_grammar.specs.declared.tree.Tree.TheVariants as tree
use Rattle.cr_grammar.specs.declared.within.Within.{Within}
use Rattle.cr_grammar.specs.Forms.{Form, nothing, ◌<|>◌, passing, maybe, from_first, word, with_last}
use Rattle.cr_grammar.specs.Forms as f
use Rattle.cr_grammar.specs.Operators as o
use Rattle.cr_grammar.specs.declared.wanted.Wanted.{Wanted}
use Rattle.cr_grammar.specs.declared.wanted.Wanted.TheVariants.{Or}
use Rattle.cr_grammar.specs.Laws.{first_is, begins_or}
use Rattle.cr_grammar.specs.Expressions as ex
use Rattle.cr_grammar.specs.Grammar as gr
use Rattle.cr_grammar.proofs.Derive as derive
use Rattle.cr_readers.specs.Reader.{Reader, Test, passes, same_look, seen, either, never, choose, ◌>>=◌, ◌>>◌, pure, grow, wrap, part}
use Rattle.cr_readers.specs.Lists.{optional}
use Rattle.cr_exact.specs.Exact.{Stops, Effort, Exact, Any}
use Rattle.cr_readers.specs.Goes as g
use Rattle.cr_readers.specs.declared.operand.Operand.{Operand}
use Rattle.cr_readers.specs.declared.operand.Operand.TheVariants.{Name, Field, Element, Variable, Yielding, Above, Passing, Whole}
use Rattle.cr_readers.specs.Operand.{whole}
use Rattle.cr_readers.specs.Operations as operations
use Rattle.cr_readers.specs.Statements as statements
use Rattle.cr_exact.proofs.TokenTests.{never_stops, not_seen, Less, stops_less}
use Rattle.cr_exact.proofs.Sequence.{exact_bind, exact_pure, exact_map, exact_goes, weaken}
use Rattle.cr_exact.proofs.Tokens.{Passing as NextPasses, Branch, Led, exact_word, exact_choose, exact_by, branch_where}
use Rattle.cr_exact.proofs.Forms.{spelled_nothing, made_in, made_out, begins_some, append_none}
use Rattle.cr_exact.proofs.Heads.{led_at, led_real, led_seen, led_first}
use Rattle.cr_exact.proofs.Follows.{Follows, follows_nothing}
use Rattle.cr_exact.proofs.Nodes.{exact_silent, silent_grow, silent_wrap, exact_part, exact_last}
use Rattle.cr_exact.proofs.Places.{exact_here}
use Rattle.cr_exact.proofs.Lists.{exact_passing, exact_optional_where}
use Rattle.cr_descent.proofs.OperationForms.{or_rest, or_rest_none, level_begins, or_level}
use Rattle.cr_descent.proofs.Operations.{exact_or, or_rest_stops}
use Rattle.cr_descent.proofs.Links.{exact_postfix}
use Rattle.cr_descent.proofs.StatementForms as forms
use Rattle.cr_exact.proofs.Moves.{Moves, moves_bind, moves_word, moves_part, moves_opened, advances_bind, advances_next, advances_pure}
use Rattle.cr_exact.proofs.Sequence.{never_back}
use Rattle.cr_exact.proofs.TwoTokens.{Settled, tight_nil}
use Rattle.cr_descent.proofs.Statements.{simple_or, argument_begins, assignment_other, field_is_any, exact_behind}
use Rattle.cr_descent.proofs.StatementClaims.{Premises}

-- What ends a statement ends one without modifier.
pub stmt_simple : Less g.goes_simple g.goes_stmt
stmt_simple l.Newline spaced e = refl
stmt_simple l.CloseParenthesis spaced e = refl
stmt_simple l.KeywordEnd spaced e = refl
stmt_simple l.CloseBrace spaced e = refl
stmt_simple l.Else spaced e = refl
stmt_simple l.Elsif spaced e = refl
stmt_simple l.In spaced e = refl
stmt_simple l.When spaced e = refl
stmt_simple l.End spaced e = refl
stmt_simple _ spaced e = absurd cc

pub stmt_modifier : (look : TokenLook) (spaced : Bool) → g.goes_stmt look spaced ≡ false → (seen l.If look spaced ≡ false) × (seen l.Unless look spaced ≡ false)
unfolding same_look
stmt_modifier l.Newline spaced e = (refl, refl)
stmt_modifier l.CloseParenthesis spaced e = (refl, refl)
stmt_modifier l.KeywordEnd spaced e = (refl, refl)
stmt_modifier l.CloseBrace spaced e = (refl, refl)
stmt_modifier l.Else spaced e = (refl, refl)
stmt_modifier l.Elsif spaced e = (refl, refl)
stmt_modifier l.In spaced e = (refl, refl)
stmt_modifier l.When spaced e = (refl, refl)
stmt_modifier l.End spaced e = (refl, refl)
stmt_modifier _ spaced e = absurd cc

-- What ends a statement begins no value, but for a modifier.
simple_value : (turns : ℕ) (rec : Wanted → Reader Tree) (within : Within) → Less (g.begins_left within) g.goes_simple
simple_value turns rec within l.If spaced e = refl
simple_value turns rec within l.Unless spaced e = refl
simple_value turns rec within l.Then spaced e = refl
simple_value turns rec within l.Newline spaced e = refl
simple_value turns rec within l.CloseParenthesis spaced e = refl
simple_value turns rec within l.KeywordEnd spaced e = refl
simple_value turns rec within l.CloseBrace spaced e = refl
simple_value turns rec within l.Else spaced e = refl
simple_value turns rec within l.Elsif spaced e = refl
simple_value turns rec within l.In spaced e = refl
simple_value turns rec within l.When spaced e = refl
simple_value turns rec within l.End spaced e = refl
simple_value turns rec within _ spaced e = absurd cc

module _ {effort : Effort} {sure : Type 0} {rec : Wanted → Reader Tree} {S T U : Wanted → Form Tree} {within : Within} (premises : Premises effort sure rec S T U within) where
  -- ---- a statement that begins with a postfix

  abbrev pub At : (Wanted → Form Tree) → ℕ → Form Tree
  At Q at = f.◌>>=◌ (with_last (forms.P Q within)) (forms.behind Q within at)

  pub postfix_real : (Q : Wanted → Form Tree) → forms.Apart Q within → (w : List Token) (x : Operand) → forms.P Q within w x → w ≡ [] → ⊥
  postfix_real Q apart w x p = begins_some forms.is_postfix_look w (apart.begins w (whole x) (apart.tree_of w x p))

  pub at_real : (Q : Wanted → Form Tree) → forms.Apart Q within → (at : ℕ) (w : List Token) (x : Tree) → At Q at w x → w ≡ [] → ⊥
  at_real Q apart at w x c none = postfix_real Q apart c.0 c.2.0 c.4.0 (append_none c.0 c.1 (sym c.3 ∙ none)).0

  -- the same assignment, at another place
  assigned_moves : (at there : ℕ) (target : Tree) (table : TokenLook → Option Assignment) (w : List Token) (y : Tree) → forms.assigned_rest S within at target table w y
      → (z : Tree) × forms.assigned_rest S within there target table w z
  assigned_moves at there target table w y c =
      let d = c.5 in
      (tree.Assign there target c.2.1 c.2.0 d.2, (c.0, c.1, c.2, c.3, c.4, (d.0, d.1, d.2, d.3, d.4, (d.5.0, refl))))

  behind_moves : (at there : ℕ) (x : Operand × TokenLook) (w : List Token) (y : Tree) → forms.behind S within at x w y → (z : Tree) × forms.behind S within there x w z
  behind_moves at there (Name name, seen) w y (inl c) = let m = assigned_moves at there (whole (Name name)) o.any_assignment w y c in (m.0, inl m.1)
  behind_moves at there (Name name, seen) w y (inr c) = (y, inr c)
  behind_moves at there (Field x name, seen) w y (inl c) = let m = assigned_moves at there (whole (Field x name)) o.field_assignment w y c in (m.0, inl m.1)
  behind_moves at there (Field x name, seen) w y (inr c) = (y, inr c)
  behind_moves at there (Element place x xs, seen) w y (inl c) = let m = assigned_moves at there (whole (Element place x xs)) o.field_assignment w y c in (m.0, inl m.1)
  behind_moves at there (Element place x xs, seen) w y (inr c) = (y, inr c)
  behind_moves at there (Variable name, seen) w y (inl c) = let m = assigned_moves at there (whole (Variable name)) o.any_assignment w y c in (m.0, inl m.1)
  behind_moves at there (Variable name, seen) w y (inr c) = (y, inr c)
  behind_moves at there (Yielding place, seen) w y c = (y, c)
  behind_moves at there (Above place, seen) w y c = (y, c)
  behind_moves at there (Passing name x value, seen) w y c = (y, c)
  behind_moves at there (Whole x, seen) w y c = (y, c)

  -- ---- before what follows an operand the operand ends

  assigned_follows : (at : ℕ) (target : Tree) (table : TokenLook → Option Assignment) → ((look : TokenLook) (a : Assignment) → table look ≡ Some a → o.any_assignment look ≡ Some a)
      → (w : List Token) (y : Tree) (rest : List Token) → forms.assigned_rest T within at target table w y → Stops (g.goes_operand true) (w ++ rest)
  assigned_follows at target table any w y rest c =
      let a = c.4 in
      ap (λ (v : List Token). passes (g.goes_operand true) (v ++ rest)) (c.3 ∙ ap (λ (v : List Token). v ++ c.1) a.1)
      ∙ assignment_other (look_of a.0.kind) c.2.1 (any (look_of a.0.kind) c.2.1 a.2.0) a.0.spaced

  operated_follows : (x : Tree × TokenLook) (w : List Token) (y : Tree) (rest : List Token) → forms.operated T within x w y → Stops g.goes_simple rest → Stops (g.goes_operand true) (w ++ rest)
  operated_follows x w y rest c stop =
      let n = made_out (or_rest T within true x) (λ (v : Tree × TokenLook). v.0) w y c in
      or_rest_stops premises.given within true x w n.0 rest n.1 (stops_less (g.goes_or true) g.goes_simple (simple_or true) rest stop)

  or_follows : (K : Form Tree) (x : Tree × TokenLook) (w : List Token) (y : Tree) (rest : List Token) → forms.or_operated T within K x w y → Stops g.goes_simple rest → Stops (g.goes_operand true) (w ++ rest)
  or_follows K x w y rest (inl c) stop = (argument_begins w rest c.0).1
  or_follows K x w y rest (inr c) stop = operated_follows x w y rest c stop

  pub behind_follows : (at : ℕ) (x : Operand × TokenLook) → Follows (g.goes_operand true) (forms.behind T within at x) g.goes_simple
  behind_follows at (Name name, seen) w y rest (inl c) stop = assigned_follows at _ o.any_assignment (λ a b e. e) w y rest c
  behind_follows at (Name name, seen) w y rest (inr c) stop = or_follows (forms.command_rest T within (forms.call_of T within None name)) (whole (Name name), l.Ident) w y rest c stop
  behind_follows at (Field x name, seen) w y rest (inl c) stop = assigned_follows at _ o.field_assignment field_is_any w y rest c
  behind_follows at (Field x name, seen) w y rest (inr c) stop = or_follows (forms.command_rest T within (forms.call_of T within (Some x) name)) (whole (Field x name), l.Ident) w y rest c stop
  behind_follows at (Element place x xs, seen) w y rest (inl c) stop = assigned_follows at _ o.field_assignment field_is_any w y rest c
  behind_follows at (Element place x xs, seen) w y rest (inr c) stop = operated_follows _ w y rest c stop
  behind_follows at (Variable name, seen) w y rest (inl c) stop = assigned_follows at _ o.any_assignment (λ a b e. e) w y rest c
  behind_follows at (Variable name, seen) w y rest (inr c) stop = operated_follows _ w y rest c stop
  behind_follows at (Yielding place, seen) w y rest c stop = or_follows (forms.passing_rest T within (λ xs. tree.Yield place xs)) (whole (Yielding place), l.Yield) w y rest c stop
  behind_follows at (Above place, seen) w y rest c stop = or_follows (forms.passing_rest T within (λ xs. tree.Super place xs)) (whole (Above place), l.Super) w y rest c stop
  behind_follows at (Passing name x value, seen) w y rest c stop = operated_follows _ w y rest c stop
  behind_follows at (Whole x, seen) w y rest c stop = operated_follows _ w y rest c stop

  exact_from_postfix : Exact effort Any (forms.from_postfix S within) (forms.from_postfix T within) g.goes_simple (statements.from_postfix effort.turns rec within)
  exact_from_postfix =
      exact_here (At S) (At T) g.goes_simple _
      (λ at. exact_bind (forms.behind S within at) (forms.behind T within at) g.goes_simple (statements.behind effort.turns rec within at)
      (exact_last _ (exact_postfix premises.given within true) (postfix_real S premises.apart_s) (postfix_real T premises.apart_t))
      (exact_behind premises at)
      (λ x. (
        [],
        whole x.0,
        forms.operated_behind S within at x.0 x.1 [] (whole x.0)
            (made_in (or_rest S within true (whole x.0, forms.seen_of x.0 x.1)) (λ (v : Tree × TokenLook). v.0) [] (whole x.0, forms.seen_of x.0 x.1) (or_rest_none S within true (whole x.0, forms.seen_of x.0 x.1))),
      ))
      (behind_follows at))
      (at_real S premises.apart_s) (at_real T premises.apart_t)
      (λ at there w x c. let m = behind_moves at there c.2 c.1 x c.5 in (m.0, (c.0, c.1, c.2, c.3, c.4, m.1)))

  -- ---- jumps

  abbrev pub BeginsValue : Test
  BeginsValue = g.begins_left within

  pub or_begins : (Q : Wanted → Form Tree) (w : List Token) (x : Tree) → ex.or Q within true w x → first_is (begins_or within) w ≡ true
  or_begins Q w x c = level_begins Q within true (ex.or Q within true) (or_rest Q within true) (or_level Q within true) w x c

  or_real : (Q : Wanted → Form Tree) (w : List Token) (x : Tree) → ex.or Q within true w x → w ≡ [] → ⊥
  or_real Q w x c = begins_some (begins_or within) w (or_begins Q w x c)

  no_modifier_out : (w : List Token) → passes BeginsValue w ≡ true → o.begins_no_modifier w ≡ true
  no_modifier_out [] is = absurd cc
  no_modifier_out (t ∷ w) is = (and_parts (begins_or within (look_of t.kind)) _ is).1

  pub no_modifier_back : (w rest : List Token) → first_is (begins_or within) w ≡ true → o.begins_no_modifier w ≡ true → passes BeginsValue (w ++ rest) ≡ true
  no_modifier_back [] rest begins is = absurd cc
  no_modifier_back (t ∷ w) rest begins is = and_from (begins_or within (look_of t.kind)) _ begins is

  abbrev pub Value : (Wanted → Form Tree) → Form Tree
  Value Q = passing o.begins_no_modifier (ex.or Q within true)

  nil_or : (Q : Wanted → Form Tree) → ex.or Q within true (tight_nil ∷ []) (tree.Nil 0)
  nil_or Q = derive.or_of_primary Q within true _ _ (inr (inr (inl (inl (tight_nil ∷ [], [], 0, refl, (tight_nil, refl, (refl, refl)), (refl, refl))))))

  -- a value that begins with no modifier, where one begins
  exact_value : Exact effort (NextPasses BeginsValue) (Value S) (Value T) (g.goes_or true) (part (operations.or effort.turns rec within true))
  exact_value =
      exact_map (Value S) (Value T)
      (λ w x c. (no_modifier_out w c.0, c.1))
      (λ w x c. (sym (ap (passes BeginsValue) (append-nil w)) ∙ no_modifier_back w [] (or_begins T w x c.1) c.0, c.1))
      (exact_passing (NextPasses BeginsValue) BeginsValue (λ ts is. is) (or_real S) (tight_nil ∷ []) (tree.Nil 0) (nil_or S) refl
      (exact_part _ (exact_or premises.given within true)))

  value_moves : Moves BeginsValue (part (operations.or effort.turns rec within true))
  value_moves =
      moves_part (operations.or effort.turns rec within true)
      (moves_opened BeginsValue (operations.or effort.turns rec within true) (exact_or premises.other within true) (or_real S)
      (λ t full is. premises.opened t full (and_parts (begins_or within (look_of t.kind)) _ is).0))

  pub value_less : Less (either BeginsValue (g.goes_or true)) g.goes_simple
  value_less look spaced e = rw (simple_value effort.turns rec within look spaced e, simple_or true look spaced e) refl

  exact_leaving : (kind : TokenKind) (make : ℕ → Option Tree → Tree)
      → Exact effort Any (gr.leaving S within (look_of kind) make) (gr.leaving T within (look_of kind) make) g.goes_simple (statements.leaving effort.turns rec within (look_of kind) make)
  exact_leaving kind make =
      exact_bind (λ at. f.◌>>=◌ (maybe (Value S)) (λ value. nothing (make at value))) (λ at. f.◌>>=◌ (maybe (Value T)) (λ value. nothing (make at value))) g.goes_simple
      (λ at. grow at >> (optional BeginsValue (part (operations.or effort.turns rec within true)) >>= λ value. pure (make at value)))
      (exact_word effort kind never)
      (λ at. exact_silent (grow at) (silent_grow at) _
      (exact_bind (λ value. nothing (make at value)) (λ value. nothing (make at value)) g.goes_simple (λ value. pure (make at value))
      (exact_optional_where effort (Value S) (Value T) (g.goes_or true) (part (operations.or effort.turns rec within true)) BeginsValue exact_value
      (λ w x rest c. no_modifier_back w rest (or_begins T w x c.1) c.0) value_moves)
      (λ value. exact_pure effort (make at value) g.goes_simple) (λ value. spelled_nothing (make at value))
      (λ value. follows_nothing (either BeginsValue (g.goes_or true)) g.goes_simple (make at value) value_less)))
      (λ at. ([], make at None, ([], [], None, refl, refl, (refl, refl))))
      (λ at b y rest d stop. never_stops (b ++ rest))

  abbrev pub Breaking : Form Tree
  Breaking = f.◌>>=◌ (word l.Break) (λ at. nothing (tree.Break at))

  exact_breaking : Exact effort Any Breaking Breaking g.goes_simple (statements.breaking effort.turns rec within)
  exact_breaking =
      exact_bind (λ at. nothing (tree.Break at)) (λ at. nothing (tree.Break at)) g.goes_simple (λ at. grow at >> pure (tree.Break at))
      (exact_word effort (k.Plain l.Break) never)
      (λ at. exact_silent (grow at) (silent_grow at) _ (exact_pure effort (tree.Break at) g.goes_simple))
      (λ at. spelled_nothing (tree.Break at)) (λ at b y rest d stop. never_stops (b ++ rest))

  -- ---- a statement without modifier

  abbrev AnyOr : Exact effort Any (ex.or S within true) (ex.or T within true) g.goes_simple (operations.or effort.turns rec within true)
  AnyOr = exact_goes g.goes_simple (simple_or true) (exact_or premises.given within true)

  simple_branch : (look : TokenLook) → Branch effort look (gr.simple S within) (forms.simple_by T within look) g.goes_simple (statements.simple_by effort.turns rec within look)
  simple_branch l.Return = branch_where l.Return (within.method && not within.block) (gr.simple S within) _ g.goes_simple _
      (λ is. weaken _ (exact_map (gr.simple S within) _ (λ w x c. inr (inr (inl (inl (is, c))))) (λ w x c. c) (exact_leaving (k.Plain l.Return) (λ at value. tree.Return at value))))
  simple_branch l.Next = branch_where l.Next (within.in_loop || within.block) (gr.simple S within) _ g.goes_simple _
      (λ is. weaken _ (exact_map (gr.simple S within) _ (λ w x c. inr (inr (inl (inr (inl (is, c)))))) (λ w x c. c) (exact_leaving (k.Plain l.Next) (λ at value. tree.Next at value))))
  simple_branch l.Break = branch_where l.Break within.in_loop (gr.simple S within) _ g.goes_simple _
      (λ is. weaken _ (exact_map (gr.simple S within) _ (λ w x c. inr (inr (inl (inr (inr (is, c)))))) (λ w x c. c) exact_breaking))
  simple_branch l.Bang = inl (weaken _ (exact_map (gr.simple S within) (ex.or T within true) (λ w x c. inr (inr (inr c))) (λ w x c. c) AnyOr))
  simple_branch l.Minus = inl (weaken _ (exact_map (gr.simple S within) (ex.or T within true) (λ w x c. inr (inr (inr c))) (λ w x c. c) AnyOr))
  simple_branch _ = inl (weaken _ (exact_map (gr.simple S within) (forms.from_postfix T within) (forms.from_postfix_out S within premises.apart_s premises.s_settled) (λ w x c. c) exact_from_postfix))

  pub exact_simple : Exact effort Any (gr.simple S within) (gr.simple T within) g.goes_simple (statements.simple effort.turns rec within)
  exact_simple =
      exact_map (gr.simple S within) (gr.simple T within) (λ w x c. c) (forms.simple_in T within premises.apart_t premises.t_settled)
      (exact_by effort (statements.simple_by effort.turns rec within) (gr.simple S within) (forms.simple_by T within) g.goes_simple simple_branch
      (tight_nil ∷ []) (tree.Nil 0) (inr (inr (inr (nil_or S)))))

  -- ---- a statement

  abbrev pub Modified : (Wanted → Form Tree) → ℕ → Tree → TokenLook → Bool → Form Tree
  Modified Q at x look unless = f.◌>>=◌ (word look) (λ _. f.◌>>=◌ (gr.simple Q within) (λ c. nothing (tree.If at unless c (x ∷ []) [] None)))

  abbrev pub Tail : (Wanted → Form Tree) → ℕ → Tree → Form Tree
  Tail Q at x = Modified Q at x l.If false <|> (Modified Q at x l.Unless true <|> nothing x)

  abbrev pub Whole_at : (Wanted → Form Tree) → ℕ → Form Tree
  Whole_at Q at = f.◌>>=◌ (gr.simple Q within) (Tail Q at)

  pub modified_led : (at : ℕ) (x : Tree) (look : TokenLook) (unless : Bool) (w : List Token) (y : Tree) → Modified T at x look unless w y → Led look w
  modified_led at x look unless w y c = led_at look w c.0 c.1 c.2 c.3 c.4

  exact_modified : (at : ℕ) (x : Tree) (kind : TokenKind) (unless : Bool)
      → Exact effort Any (Modified S at x (look_of kind) unless) (Modified T at x (look_of kind) unless) g.goes_stmt (statements.modified effort.turns rec within at x (look_of kind) unless)
  exact_modified at x kind unless =
      let make : Tree → Tree = λ c. tree.If at unless c (x ∷ []) [] None in
      exact_bind (λ _. f.◌>>=◌ (gr.simple S within) (λ c. nothing (make c))) (λ _. f.◌>>=◌ (gr.simple T within) (λ c. nothing (make c))) g.goes_stmt
      (λ place. wrap place >> (part (statements.simple effort.turns rec within) >>= λ c. pure (make c)))
      (exact_word effort kind never)
      (λ place. exact_silent (wrap place) (silent_wrap place) _
      (exact_bind (λ c. nothing (make c)) (λ c. nothing (make c)) g.goes_stmt (λ c. pure (make c)) (exact_part _ exact_simple)
      (λ c. exact_pure effort (make c) g.goes_stmt) (λ c. spelled_nothing (make c)) (λ c. follows_nothing g.goes_simple g.goes_stmt (make c) stmt_simple)))
      (λ place. (tight_nil ∷ [], make (tree.Nil 0), made_in (gr.simple S within) make (tight_nil ∷ []) (tree.Nil 0) (inr (inr (inr (nil_or S))))))
      (λ place b y rest d stop. never_stops (b ++ rest))

  pub no_if : (at : ℕ) (x : Tree) (w : List Token) (y : Tree) (rest : List Token) → (Modified T at x l.Unless true <|> nothing x) w y → Stops g.goes_stmt rest → passes (seen l.If) (w ++ rest) ≡ false
  no_if at x w y rest (inl c) stop = led_first false l.Unless (seen l.If) (not_seen l.Unless l.If (λ e. cc)) w rest (modified_led at x l.Unless true w y c)
  no_if at x w y rest (inr d) stop = rw d.0 (stops_less (seen l.If) g.goes_stmt (λ look spaced e. (stmt_modifier look spaced e).0) rest stop)

  modified_move : (at : ℕ) (x : Tree) (sought : TokenLook) (unless : Bool) → Moves (seen sought) (statements.modified effort.turns rec within at x sought unless)
  modified_move at x sought unless =
      moves_bind (moves_word sought) (λ place. advances_next (silent_wrap place) (advances_bind (never_back (exact_part _ exact_simple)) (λ c. advances_pure _)))

  exact_tail : (at : ℕ) (x : Tree) → Exact effort Any (Tail S at x) (Tail T at x) g.goes_stmt
      (choose (seen l.If) (statements.modified effort.turns rec within at x l.If false) (choose (seen l.Unless) (statements.modified effort.turns rec within at x l.Unless true) (pure x)))
  exact_tail at x =
      exact_choose effort (seen l.If) (Modified S at x l.If false) (Modified T at x l.If false) (Modified S at x l.Unless true <|> nothing x) (Modified T at x l.Unless true <|> nothing x) g.goes_stmt _ _
      (weaken _ (exact_modified at x (k.Plain l.If) false))
      (weaken _ (exact_choose effort (seen l.Unless) (Modified S at x l.Unless true) (Modified T at x l.Unless true) (nothing x) (nothing x) g.goes_stmt _ _
      (weaken _ (exact_modified at x (k.Plain l.Unless) true)) (weaken _ (exact_pure effort x g.goes_stmt))
      (λ w y rest c. led_seen l.Unless w rest (modified_led at x l.Unless true w y c))
      (λ w y rest d stop. rw d.0 (stops_less (seen l.Unless) g.goes_stmt (λ look spaced e. (stmt_modifier look spaced e).1) rest stop))
      (λ y s d clear is. (modified_move at x l.Unless true).beyond s clear is)))
      (λ w y rest c. led_seen l.If w rest (modified_led at x l.If false w y c))
      (no_if at x)
      (λ y s d clear is. (modified_move at x l.If false).beyond s clear is)

  pub tail_follows : (at : ℕ) (x : Tree) → Follows g.goes_simple (Tail T at x) g.goes_stmt
  tail_follows at x w y rest (inl c) stop = led_first false l.If g.goes_simple (λ spaced. refl) w rest (modified_led at x l.If false w y c)
  tail_follows at x w y rest (inr (inl c)) stop = led_first false l.Unless g.goes_simple (λ spaced. refl) w rest (modified_led at x l.Unless true w y c)
  tail_follows at x w y rest (inr (inr d)) stop = rw d.0 (stops_less g.goes_simple g.goes_stmt stmt_simple rest stop)

  simple_real : (Q : Wanted → Form Tree) → forms.Apart Q within → ((w : List Token) (x : Tree) → Q (Or within false) w x → Settled w) → (w : List Token) (x : Tree) → gr.simple Q within w x → w ≡ [] → ⊥
  simple_real Q apart settled w x c = let by = forms.simple_in Q within apart settled w x c in led_real by.0 w by.1

  pub whole_real : (Q : Wanted → Form Tree) → forms.Apart Q within → ((w : List Token) (x : Tree) → Q (Or within false) w x → Settled w) → (at : ℕ) (w : List Token) (x : Tree) → Whole_at Q at w x → w ≡ [] → ⊥
  whole_real Q apart settled at w x c none = simple_real Q apart settled c.0 c.2 c.4 (append_none c.0 c.1 (sym c.3 ∙ none)).0

  modified_moves : (at there : ℕ) (x : Tree) (modifier : TokenLook) (unless : Bool) (w : List Token) (y : Tree) → Modified S at x modifier unless w y → (z : Tree) × Modified S there x modifier unless w z
  modified_moves at there x modifier unless w y c =
      let d = c.5 in
      (tree.If there unless d.2 (x ∷ []) [] None, (c.0, c.1, c.2, c.3, c.4, (d.0, d.1, d.2, d.3, d.4, (d.5.0, refl))))

  tail_moves : (at there : ℕ) (x : Tree) (w : List Token) (y : Tree) → Tail S at x w y → (z : Tree) × Tail S there x w z
  tail_moves at there x w y (inl c) = let m = modified_moves at there x l.If false w y c in (m.0, inl m.1)
  tail_moves at there x w y (inr (inl c)) = let m = modified_moves at there x l.Unless true w y c in (m.0, inr (inl m.1))
  tail_moves at there x w y (inr (inr c)) = (y, inr (inr c))

  stmt_out : (w : List Token) (y : Tree) → from_first (Whole_at S) w y → gr.stmt S within w y
  stmt_out w y (a, b, x, e, c, inl d) = inr (inl (a, b, x, e, c, d))
  stmt_out w y (a, b, x, e, c, inr (inl d)) = inr (inr (a, b, x, e, c, d))
  stmt_out w y (a, b, x, e, c, inr (inr d)) =
      inl (subst (λ v. gr.simple S within w v) (sym d.1) (subst (λ (v : List Token). gr.simple S within v x) (sym (e ∙ ap (λ (v : List Token). a ++ v) d.0 ∙ append-nil a)) c))

  pub stmt_in : (w : List Token) (y : Tree) → gr.stmt T within w y → from_first (Whole_at T) w y
  stmt_in w y (inl c) = (w, [], y, sym (append-nil w), c, inr (inr (refl, refl)))
  stmt_in w y (inr (inl (a, b, x, e, c, d))) = (a, b, x, e, c, inl d)
  stmt_in w y (inr (inr (a, b, x, e, c, d))) = (a, b, x, e, c, inr (inl d))

  pub exact_stmt : Exact effort Any (gr.stmt S within) (gr.stmt T within) g.goes_stmt (statements.stmt effort.turns rec within)
  exact_stmt =
      exact_map (gr.stmt S within) (gr.stmt T within) stmt_out stmt_in
      (exact_here (Whole_at S) (Whole_at T) g.goes_stmt _
      (λ at. exact_bind (Tail S at) (Tail T at) g.goes_stmt _ exact_simple (exact_tail at) (λ x. ([], x, inr (inr (refl, refl)))) (tail_follows at))
      (whole_real S premises.apart_s premises.s_settled) (whole_real T premises.apart_t premises.t_settled)
      (λ at there w y c. let m = tail_moves at there c.2 c.1 y c.5 in (m.0, (c.0, c.1, c.2, c.3, c.4, m.1))))
