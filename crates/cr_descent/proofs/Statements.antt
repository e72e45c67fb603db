-- Statements are read exactly.
use Rattle.std.proofs.Common.{◌≡◌, ℕ, Bool, true, false, ◌&&◌, ◌||◌, List, [], ◌∷◌, ◌++◌, ◌⊎◌, inl, inr, refl, sym, ap, ◌∙◌}
use Rattle.std.proofs.lemmas.Bool.{and_left}
use Rattle.std.specs.Prelude.{not, IsTrue, Option, Some, None, is_some}
use Rattle.std.proofs.lemmas.List.{append-nil}
use Rattle.cr_syntax.specs.declared.look.TokenLook.{TokenLook}
use Rattle.cr_syntax.specs.declared.look.TokenLook.TheVariants as l
use Rattle.cr_syntax.specs.declared.token.Token.{Token}
use Rattle.cr_syntax.specs.declared.token.TokenKind.TheVariants as k
use Rattle.cr_syntax.specs.Look.{look_of}
use Rattle.cr_grammar.specs.declared.operator.Assignment.{Assignment}
use Rattle.cr_grammar.specs.declared.operator.Assignment.TheVariants as assignments
use Rattle.cr_grammar.specs.declared.tree.Tree.{Tree}
use Rattle.cr_grammar.specs.declared.tree.Tree.TheVariants as tree
use Rattle.cr_grammar.specs.declared.within.Within.{Within}
use Rattle.cr_grammar.specs.Forms.{Form, nothing, ◌<|>◌, maybe, listed}
use Rattle.cr_grammar.specs.Forms as f
use Rattle.cr_grammar.specs.Operators as o
use Rattle.cr_grammar.specs.declared.wanted.Wanted.{Wanted}
use Rattle.cr_grammar.specs.declared.wanted.Wanted.TheVariants.{Or, Simple}
use Rattle.cr_grammar.specs.Expressions as ex
use Rattle.cr_grammar.specs.declared.operator.Binary.TheVariants as binary
use Rattle.cr_grammar.proofs.Derive as derive
use Rattle.cr_readers.specs.Reader.{Reader, Test, passes, same_look, seen, either, never, take, choose, ◌>>=◌, ◌>>◌, pure, wrap, part}
use Rattle.cr_exact.specs.Exact.{Stops, Effort, Exact, Any}
use Rattle.cr_readers.specs.Goes as g
use Rattle.cr_readers.specs.declared.operand.Operand.{Operand}
use Rattle.cr_readers.specs.declared.operand.Operand.TheVariants.{Name, Field, Element, Variable, Yielding, Above, Passing, Whole}
use Rattle.cr_readers.specs.Operand.{whole}
use Rattle.cr_readers.specs.Statements as statements
use Rattle.cr_readers.specs.Statements.{assigning_of, is_assigning}
use Rattle.cr_readers.specs.Lists.{optional}
use Rattle.cr_readers.specs.Bodies.{doblock}
use Rattle.cr_exact.proofs.TokenTests.{Not, never_stops, Less, Apart, seen_apart}
use Rattle.cr_exact.proofs.Sequence.{exact_bind, exact_pure, exact_goes, weaken}
use Rattle.cr_exact.proofs.Tokens.{exact_take, exact_choose, a_token, some_one}
use Rattle.cr_exact.proofs.Forms.{Spelled, spelled_listed, spelled_nothing, spelled_bind, spelled_maybe, made_in, one_listed, made_out}
use Rattle.cr_exact.proofs.Heads.{Heads, LedBy, led_at, led_seen}
use Rattle.cr_exact.proofs.Follows.{Follows, follows_nothing, follows_maybe, follows_led}
use Rattle.cr_exact.proofs.Nodes.{exact_silent, silent_wrap, exact_part}
use Rattle.cr_exact.proofs.Lists.{exact_listed, exact_optional}
use Rattle.cr_descent.proofs.OperationForms.{or_rest, sum_rest, shift_rest, cmp_rest, and_rest}
use Rattle.cr_descent.proofs.Operated.{Operated, rest_fine, neither, passes_front}
use Rattle.cr_descent.proofs.StatementForms as forms
use Rattle.cr_descent.proofs.StatementForms.{bind_settled, listed_settled}
use Rattle.cr_grammar.specs.Laws.{begins_or}
use Rattle.cr_descent.proofs.Arguments.{argument_value}
use Rattle.cr_exact.proofs.Lists.{listed_moves}
use Rattle.cr_exact.proofs.Moves.{Moves, moves_bind, moves_take, moves_part, advances_bind, advances_choose, advances_next, advances_pure}
use Rattle.cr_exact.proofs.Sequence.{never_back}
use Rattle.cr_descent.proofs.Bodies.{doblock_moves}
use Rattle.cr_descent.proofs.Claims as claims
use Rattle.cr_descent.proofs.Bodies.{exact_doblock, or_fails}
use Rattle.cr_descent.proofs.Operations.{exact_or_from}
use Rattle.cr_exact.proofs.TwoTokens.{Settled, tight_nil, spaced_nil, exact_unless}
use Rattle.cr_descent.proofs.StatementClaims.{Premises}

-- ---- what may follow

-- What ends a statement goes on by no operator, and assigns nothing.
pub simple_or : (free : Bool) (look : TokenLook) (spaced : Bool) → g.goes_simple look spaced ≡ false → g.goes_or free look spaced ≡ false
simple_or free l.If spaced e = refl
simple_or free l.Unless spaced e = refl
simple_or free l.Then spaced e = refl
simple_or free l.Newline spaced e = refl
simple_or free l.CloseParenthesis spaced e = refl
simple_or free l.KeywordEnd spaced e = refl
simple_or free l.CloseBrace spaced e = refl
simple_or free l.Else spaced e = refl
simple_or free l.Elsif spaced e = refl
simple_or free l.In spaced e = refl
simple_or free l.When spaced e = refl
simple_or free l.End spaced e = refl
simple_or free _ spaced e = absurd cc

-- nor does it begin an argument, or go on with one
pub simple_other : (look : TokenLook) (spaced : Bool) → g.goes_simple look spaced ≡ false
    → (o.begins_value look ≡ false) × (o.is_minus look ≡ false) × (is_some (o.any_assignment look) ≡ false)
simple_other l.If spaced e = (refl, refl, refl)
simple_other l.Unless spaced e = (refl, refl, refl)
simple_other l.Then spaced e = (refl, refl, refl)
simple_other l.Newline spaced e = (refl, refl, refl)
simple_other l.CloseParenthesis spaced e = (refl, refl, refl)
simple_other l.KeywordEnd spaced e = (refl, refl, refl)
simple_other l.CloseBrace spaced e = (refl, refl, refl)
simple_other l.Else spaced e = (refl, refl, refl)
simple_other l.Elsif spaced e = (refl, refl, refl)
simple_other l.In spaced e = (refl, refl, refl)
simple_other l.When spaced e = (refl, refl, refl)
simple_other l.End spaced e = (refl, refl, refl)
simple_other _ spaced e = absurd cc

pub simple_word : (look : TokenLook) (spaced : Bool) → g.goes_simple look spaced ≡ false → (seen l.Do look spaced ≡ false) × (seen l.Comma look spaced ≡ false)
unfolding same_look
simple_word l.If spaced e = (refl, refl)
simple_word l.Unless spaced e = (refl, refl)
simple_word l.Then spaced e = (refl, refl)
simple_word l.Newline spaced e = (refl, refl)
simple_word l.CloseParenthesis spaced e = (refl, refl)
simple_word l.KeywordEnd spaced e = (refl, refl)
simple_word l.CloseBrace spaced e = (refl, refl)
simple_word l.Else spaced e = (refl, refl)
simple_word l.Elsif spaced e = (refl, refl)
simple_word l.In spaced e = (refl, refl)
simple_word l.When spaced e = (refl, refl)
simple_word l.End spaced e = (refl, refl)
simple_word _ spaced e = absurd cc

-- ---- a token that assigns

assigns_out : (t : Token) (found : Option Assignment) (x : ℕ × Assignment) → assigning_of t found ≡ Some x → (found ≡ Some x.1) × (x.0 ≡ t.span.first)
assigns_out t None x e = absurd cc
assigns_out t (Some a) x e =
    let same : (t.span.first, a) ≡ x = some_one _ x e in
    (ap (λ (v : ℕ × Assignment). Some v.1) same, sym (ap (λ (v : ℕ × Assignment). v.0) same))

abbrev Assigning : (TokenLook → Option Assignment) → Token → ℕ × Assignment → Type 0
Assigning table t x = (table (look_of t.kind) ≡ Some x.1) × (x.0 ≡ t.span.first)

pub exact_assigning : (effort : Effort) (table : TokenLook → Option Assignment) → table l.Equal ≡ Some assignments.Plain → (h : Test)
    → Exact effort Any (f.one (Assigning table)) (f.one (Assigning table)) h (take (λ t. assigning_of t (table (look_of t.kind))))
exact_assigning effort table equal h = exact_take effort (Assigning table) h (λ t. assigning_of t (table (look_of t.kind)))
    (λ t x e. assigns_out t (table (look_of t.kind)) x e)
    (λ t x e. ap (assigning_of t) e.0 ∙ ap (λ (n : ℕ). Some (n, x.1)) (sym e.1))
    (a_token (k.Plain l.Equal)) (0, assignments.Plain) (equal, refl)

-- ---- what begins an argument, or follows an operand

-- What begins an argument assigns nothing, and goes on no operand.
value_other : (look : TokenLook) → (o.begins_value look ≡ true) ⊎ (o.is_minus look ≡ true) → (is_some (o.any_assignment look) ≡ false) × (g.goes_operand true look true ≡ false)
value_other l.Int32 e = (refl, refl)
value_other l.Int64 e = (refl, refl)
value_other l.Text e = (refl, refl)
value_other l.TextFirst e = (refl, refl)
value_other l.Ident e = (refl, refl)
value_other l.Constant e = (refl, refl)
value_other l.InstanceVariable e = (refl, refl)
value_other l.Nil e = (refl, refl)
value_other l.True e = (refl, refl)
value_other l.False e = (refl, refl)
value_other l.KeywordSelf e = (refl, refl)
value_other l.Yield e = (refl, refl)
value_other l.Super e = (refl, refl)
value_other l.OpenParenthesis e = (refl, refl)
value_other l.OpenBracket e = (refl, refl)
value_other l.Bang e = (refl, refl)
value_other l.Minus e = (refl, refl)
value_other _ (inl e) = absurd cc
value_other _ (inr e) = absurd cc

begun_by : (spaced value minus next : Bool) → (spaced && value) || (minus && spaced && next) ≡ true → (spaced ≡ true) × ((value ≡ true) ⊎ (minus ≡ true))
begun_by true true minus next e = (refl, inl refl)
begun_by true false true next e = (refl, inr refl)
begun_by true false false next e = absurd cc
begun_by false value true next e = absurd cc
begun_by false value false next e = absurd cc

begun_alone : (spaced value : Bool) → (spaced && value) || false ≡ true → (spaced ≡ true) × ((value ≡ true) ⊎ (value ≡ true))
begun_alone true true e = (refl, inl refl)
begun_alone true false e = absurd cc
begun_alone false value e = absurd cc

pub argument_begins : (w rest : List Token) → o.begins_argument w ≡ true → (passes (is_assigning o.any_assignment) (w ++ rest) ≡ false) × (passes (g.goes_operand true) (w ++ rest) ≡ false)
argument_begins [] rest is = absurd cc
argument_begins (t ∷ []) rest is =
    let b = begun_alone t.spaced (o.begins_value (look_of t.kind)) is in
    let v = value_other (look_of t.kind) (inl (elim b.1 [ inl e ↦ e | inr e ↦ e ])) in
    (v.0, ap (λ s. g.goes_operand true (look_of t.kind) s) b.0 ∙ v.1)
argument_begins (t ∷ u ∷ w) rest is =
    let b = begun_by t.spaced (o.begins_value (look_of t.kind)) (o.is_minus (look_of t.kind)) (not u.spaced) is in
    let v = value_other (look_of t.kind) b.1 in
    (v.0, ap (λ s. g.goes_operand true (look_of t.kind) s) b.0 ∙ v.1)

-- a table of less assigns less
field_less : (look : TokenLook) → is_some (o.any_assignment look) ≡ false → is_some (o.field_assignment look) ≡ false
field_less l.OrOrEqual e = refl
field_less _ e = e

-- What assigns goes on no operand.
pub assignment_other : (look : TokenLook) (a : Assignment) → o.any_assignment look ≡ Some a → (spaced : Bool) → g.goes_operand true look spaced ≡ false
assignment_other l.Equal a e spaced = refl
assignment_other l.PlusEqual a e spaced = refl
assignment_other l.MinusEqual a e spaced = refl
assignment_other l.StarEqual a e spaced = refl
assignment_other l.SlashSlashEqual a e spaced = refl
assignment_other l.PercentEqual a e spaced = refl
assignment_other l.OrOrEqual a e spaced = refl
assignment_other _ a e spaced = absurd cc

pub field_is_any : (look : TokenLook) (a : Assignment) → o.field_assignment look ≡ Some a → o.any_assignment look ≡ Some a
field_is_any l.OrOrEqual a e = absurd cc
field_is_any _ a e = e

pub closed : (rest : List Token) → Stops g.goes_simple rest → o.begins_argument rest ≡ false
closed [] stop = refl
closed (t ∷ []) stop = let e = simple_other (look_of t.kind) t.spaced stop in neither t.spaced _ _ e.0 refl
closed (t ∷ u ∷ rest) stop =
    let e = simple_other (look_of t.kind) t.spaced stop in
    neither t.spaced _ _ e.0 (and_left (o.is_minus (look_of t.kind) && t.spaced) (not u.spaced) (and_left (o.is_minus (look_of t.kind)) t.spaced e.1))

simple_assigns : (rest : List Token) → Stops g.goes_simple rest → passes (is_assigning o.any_assignment) rest ≡ false
simple_assigns [] stop = refl
simple_assigns (t ∷ rest) stop = (simple_other (look_of t.kind) t.spaced stop).2

-- No argument without parentheses goes on by a comma.
pub comma_apart : Apart (seen l.Comma) (g.goes_or false)
comma_apart = seen_apart l.Comma (g.goes_or false) (λ spaced. refl)

-- ---- the pieces

module _ {effort : Effort} {rec : Wanted → Reader Tree} {S T : Wanted → Form Tree} (given : claims.Given effort rec S T) (within : Within) where
  abbrev turns : ℕ
  turns = effort.turns

  -- ( "=" | .. ) simple
  pub exact_assignment : (at : ℕ) (target : Tree) (table : TokenLook → Option Assignment) → table l.Equal ≡ Some assignments.Plain
      → Exact effort Any (forms.assigned_rest S within at target table) (forms.assigned_rest T within at target table) g.goes_simple (statements.assignment turns rec within at target table)
  exact_assignment at target table equal =
      let make : ℕ × Assignment → Tree → Tree = λ found value. tree.Assign at target found.1 found.0 value in
      let some = given.some (Simple within) in
      exact_bind (λ found. f.◌>>=◌ (S (Simple within)) (λ value. nothing (make found value))) (λ found. f.◌>>=◌ (T (Simple within)) (λ value. nothing (make found value))) g.goes_simple
      (λ found. wrap found.0 >> (part (rec (Simple within)) >>= λ value. pure (make found value)))
      (exact_assigning effort table equal never)
      (λ found. exact_silent (wrap found.0) (silent_wrap found.0) (part (rec (Simple within)) >>= λ value. pure (make found value))
      (exact_bind (λ value. nothing (make found value)) (λ value. nothing (make found value)) g.goes_simple (λ value. pure (make found value))
      (exact_part _ (given.exact (Simple within)))
      (λ value. exact_pure effort (make found value) g.goes_simple)
      (λ value. ([], make found value, (refl, refl)))
      (λ value b y rest d stop. rw d.0 stop)))
      (λ found. (some.0, make found some.1, made_in (S (Simple within)) (make found) some.0 some.1 some.2))
      (λ found b y rest d stop. never_stops (b ++ rest))

  abbrev Arguments : (Wanted → Form Tree) → Form (List Tree)
  Arguments Q = listed (Q (Or within false))

  abbrev goes_arguments : Test
  goes_arguments = either (seen l.Comma) (g.goes_or false)

  pub exact_arguments : Exact effort Any (Arguments S) (Arguments T) goes_arguments (statements.bare_arguments turns rec within)
  exact_arguments =
      let some = given.some (Or within false) in
      exact_listed effort (S (Or within false)) (T (Or within false)) (g.goes_or false) (part (rec (Or within false))) (exact_part _ (given.exact (Or within false)))
      (or_fails given within false l.Newline refl) some.0 some.1 some.2 comma_apart

  pub arguments_less : Less goes_arguments g.goes_simple
  arguments_less look spaced e = rw ((simple_word look spaced e).1, simple_or false look spaced e) refl

  some_arguments : Spelled (Arguments S)
  some_arguments = spelled_listed (given.some (Or within false))

  -- args
  pub exact_passing_on : (make : List Tree → Tree)
      → Exact effort Any (forms.passing_rest S within make) (forms.passing_rest T within make) g.goes_simple (statements.passing_on turns rec within make)
  exact_passing_on make =
      exact_bind (λ xs. nothing (make xs)) (λ xs. nothing (make xs)) g.goes_simple (λ xs. pure (make xs)) exact_arguments
      (λ xs. exact_pure effort (make xs) g.goes_simple) (λ xs. spelled_nothing (make xs))
      (λ xs. follows_nothing goes_arguments g.goes_simple (make xs) arguments_less)

  pub block_led : LedBy l.Do (ex.doblock T within)
  block_led w x c = led_at l.Do w c.0 c.1 c.2 c.3 c.4

  do_stops : Not l.Do goes_arguments
  unfolding same_look
  do_stops spaced = refl

  -- before `do`, or what ends a statement
  pub follows_block : (make : Option Tree → Tree) → Follows goes_arguments (f.◌>>=◌ (maybe (ex.doblock T within)) (λ b. nothing (make b))) g.goes_simple
  follows_block make b y rest d stop =
      let n = made_out (maybe (ex.doblock T within)) make b y d in
      follows_maybe goes_arguments g.goes_simple (ex.doblock T within) arguments_less
      (follows_led l.Do goes_arguments g.goes_simple (ex.doblock T within) do_stops block_led) b n.0 rest n.1 stop

  -- args [ doblock ]
  pub exact_command : (make : List Tree → Option Tree → Tree)
      → Exact effort Any (forms.command_rest S within make) (forms.command_rest T within make) g.goes_simple (statements.command turns rec within make)
  exact_command make =
      let block = exact_optional effort (ex.doblock S within) (ex.doblock T within) never (doblock turns rec within) (exact_doblock given within)
      (seen l.Do) (λ w x rest c. led_seen l.Do w rest (block_led w x c)) (doblock_moves given within) in
      exact_bind (λ xs. f.◌>>=◌ (maybe (ex.doblock S within)) (λ b. nothing (make xs b))) (λ xs. f.◌>>=◌ (maybe (ex.doblock T within)) (λ b. nothing (make xs b))) g.goes_simple
      (λ xs. optional (seen l.Do) (doblock turns rec within) >>= λ b. pure (make xs b))
      exact_arguments
      (λ xs. exact_bind (λ b. nothing (make xs b)) (λ b. nothing (make xs b)) g.goes_simple (λ b. pure (make xs b)) block
      (λ b. exact_pure effort (make xs b) g.goes_simple) (λ b. spelled_nothing (make xs b))
      (λ b. follows_nothing (either (seen l.Do) never) g.goes_simple (make xs b) (λ look spaced e. rw ((simple_word look spaced e).0) refl)))
      (λ xs. spelled_bind (spelled_maybe (ex.doblock S within)) (λ b. spelled_nothing (make xs b)))
      (λ xs. follows_block (make xs))

  pub arguments_move : Moves (λ found _. begins_or within found) (statements.bare_arguments turns rec within)
  arguments_move = listed_moves (part (rec (Or within false))) (exact_part _ (given.exact (Or within false))) (moves_part (rec (Or within false)) (given.or_moves within false))

  pub passing_moves : (make : List Tree → Tree) → Moves (λ found _. begins_or within found) (statements.passing_on turns rec within make)
  passing_moves make = moves_bind arguments_move (λ xs. advances_pure (make xs))

  pub command_moves : (make : List Tree → Option Tree → Tree) → Moves (λ found _. begins_or within found) (statements.command turns rec within make)
  command_moves make =
      moves_bind arguments_move (λ xs. advances_bind
      (advances_choose (seen l.Do) (advances_bind (never_back (exact_doblock given within)) (λ b. advances_pure (Some b))) (advances_pure None)) (λ b. advances_pure (make xs b)))

  -- ---- what follows an operand

  pub exact_operated : (x : Tree × TokenLook) → Exact effort Any (forms.operated S within x) (forms.operated T within x) g.goes_simple (statements.operation_behind turns rec within x)
  exact_operated x =
      exact_bind (λ (y : Tree × TokenLook). nothing y.0) (λ (y : Tree × TokenLook). nothing y.0) g.goes_simple (λ (y : Tree × TokenLook). pure y.0)
      (exact_goes g.goes_simple (simple_or true) (exact_or_from given within true x))
      (λ y. exact_pure effort y.0 g.goes_simple) (λ y. spelled_nothing y.0)
      (λ y. follows_nothing g.goes_simple g.goes_simple y.0 (λ look spaced e. e))

-- ---- behind an operand

pub minus_look : (look : TokenLook) → o.is_minus look ≡ true → look ≡ l.Minus
minus_look l.Minus e = refl
minus_look _ e = absurd cc

no_sign_here : (name minus spaced : Bool) → IsTrue (not (name && (minus && spaced && false)))
no_sign_here true true true = refl
no_sign_here true true false = refl
no_sign_here true false spaced = refl
no_sign_here false minus spaced = refl

assigning_read : (t : Token) (found : Option Assignment) → is_some found ≡ true → (x : ℕ × Assignment) × (assigning_of t found ≡ Some x)
assigning_read t None is = absurd cc
assigning_read t (Some found) is = (_, refl)

-- Besides T, a second relation U, which is known to spell a `-` before `nil`: it tells that no reader refuses at a `-`.
module _ {effort : Effort} {sure : Type 0} {rec : Wanted → Reader Tree} {S T U : Wanted → Form Tree} {within : Within} (premises : Premises effort sure rec S T U within) where
  abbrev again : Effort
  again = record { deep = sure; turns = effort.turns }

  list_settled : (Q : Wanted → Form Tree) → ((w : List Token) (x : Tree) → Q (Or within false) w x → Settled w) → (w : List Token) (xs : List Tree) → listed (Q (Or within false)) w xs → Settled w
  list_settled Q settled = listed_settled (Q (Or within false)) settled

  pub behind_settled : {A : Type 0} (Q : Wanted → Form Tree) → ((w : List Token) (x : Tree) → Q (Or within false) w x → Settled w) → (K : List Tree → Form A)
      → (w : List Token) (y : A) → f.◌>>=◌ (listed (Q (Or within false))) K w y → Settled w
  behind_settled Q settled K w y c = bind_settled (listed (Q (Or within false))) K (list_settled Q settled) w y c

  pub operated_settled : (Q : Wanted → Form Tree) (x : Tree × TokenLook) (w : List Token) (y : Tree) → forms.operated Q within x w y → (w ≡ []) ⊎ Operated x.1 w
  operated_settled Q x w y c =
      let n = made_out (or_rest Q within true x) (λ (v : Tree × TokenLook). v.0) w y c in
      elim (rest_fine Q within true x w n.0 n.1) [ inl none ↦ inl none.0 | inr is ↦ inr is ]

  -- a `-` and a spaced `nil`, behind any operand
  minus_nil : (x : Tree × TokenLook) (t : Token) → o.is_minus (look_of t.kind) ≡ true → (y : Tree) × forms.operated U within x (t ∷ spaced_nil ∷ []) y
  minus_nil x t minus =
      let nil : ex.prod U within true (spaced_nil ∷ []) (tree.Nil 0) =
      derive.prod_of_unary U within true _ _ (derive.unary_of_primary U within true _ _ (inr (inr (inl (inl
      (spaced_nil ∷ [], [], 0, refl, (spaced_nil, refl, (refl, refl)), (refl, refl))))))) in
      let y : Tree × TokenLook = (tree.Binary t.span.first binary.Minus x.0 (tree.Nil 0), l.Nil) in
      let w = t ∷ spaced_nil ∷ [] in
      let once = derive.once U within true o.sum_operator (ex.prod U within true) x t (spaced_nil ∷ []) (tree.Nil 0) binary.Minus nil
      (ap o.sum_operator (minus_look (look_of t.kind) minus)) (no_sign_here _ _ t.spaced) in
      let sum : sum_rest U within true x w y = ([], w, x, refl, (0, (refl, refl)), (1, (w, [], y, sym (append-nil w), once, (refl, refl)))) in
      let shift : shift_rest U within true x w y = (w, [], y, sym (append-nil w), sum, (0, (refl, refl))) in
      let cmp : cmp_rest U within true x w y = (w, [], y, sym (append-nil w), shift, inr (refl, refl)) in
      let and : and_rest U within true x w y = (w, [], y, sym (append-nil w), cmp, (0, (refl, refl))) in
      let or : or_rest U within true x w y = (w, [], y, sym (append-nil w), and, (0, (refl, refl))) in
      (y.0, made_in (or_rest U within true x) (λ (v : Tree × TokenLook). v.0) w y or)

  module _ (x : Tree × TokenLook) (named : o.is_name x.1 ≡ true) (KS KT KU : Form Tree) (p : Reader Tree)
      (ek : Exact effort Any KS KT g.goes_simple p) (eku : Exact again Any KS KU g.goes_simple p)
      (ks_settled : (w : List Token) (y : Tree) → KS w y → Settled w) (kt_settled : (w : List Token) (y : Tree) → KT w y → Settled w)
      (y0 : Tree) (some : KS (spaced_nil ∷ []) y0)
      (signed : (t : Token) → o.is_minus (look_of t.kind) ≡ true → (y : Tree) × KS (t ∷ tight_nil ∷ []) y)
      (signed_u : (t : Token) → o.is_minus (look_of t.kind) ≡ true → (y : Tree) × KU (t ∷ tight_nil ∷ []) y)
      (moves : Moves (λ found _. begins_or within found) p) where
    exact_or_operated : Exact effort Any (forms.or_operated S within KS x) (forms.or_operated T within KT x) g.goes_simple (statements.unless_operation effort.turns rec within p x)
    exact_or_operated =
        exact_unless effort KS KT (forms.operated S within x) (forms.operated T within x) g.goes_simple p (statements.operation_behind effort.turns rec within x)
        ek (exact_operated premises.given within x)
        ks_settled kt_settled
        (λ w y c. elim (operated_settled S x w y c) [ inl none ↦ inl none | inr is ↦ inr is.settled ])
        (λ w y c. elim (operated_settled T x w y c) [ inl none ↦ inl none | inr is ↦ inr (is.settled, is.no_argument named) ])
        again KU (forms.operated U within x) g.goes_simple eku
        (exact_operated premises.other within x)
        signed_u (minus_nil x)
        (spaced_nil ∷ []) y0 some refl signed closed
        (λ s is clear. moves.beyond s clear (argument_value within s.rest is clear))

  -- ---- an operand, and what follows it

  -- an assignment, or what begins otherwise
  pub assigned_heads : (at : ℕ) (target : Tree) (table : TokenLook → Option Assignment) → Heads (is_assigning table) (forms.assigned_rest T within at target table)
  assigned_heads at target table w y rest c =
      let a = c.4 in
      ap (λ (v : List Token). passes (is_assigning table) (v ++ rest)) (c.3 ∙ ap (λ (v : List Token). v ++ c.1) a.1) ∙ ap is_some a.2.0

  pub operated_assigns : (x : Tree × TokenLook) (w : List Token) (y : Tree) (rest : List Token) → forms.operated T within x w y → Stops g.goes_simple rest → passes (is_assigning o.any_assignment) (w ++ rest) ≡ false
  operated_assigns x w y rest c stop = elim (operated_settled T x w y c) [
    | inl none ↦ ap (λ (v : List Token). passes (is_assigning o.any_assignment) (v ++ rest)) none ∙ simple_assigns rest stop
    | inr is ↦ passes_front (is_assigning o.any_assignment) w rest is.settled ∙ is.no_assignment
  ]

  pub or_assigns : (K : Form Tree) (x : Tree × TokenLook) (w : List Token) (y : Tree) (rest : List Token) → forms.or_operated T within K x w y → Stops g.goes_simple rest
      → passes (is_assigning o.any_assignment) (w ++ rest) ≡ false
  or_assigns K x w y rest (inl c) stop = (argument_begins w rest c.0).0
  or_assigns K x w y rest (inr c) stop = operated_assigns x w y rest c stop

  pub field_assigns : (w : List Token) → passes (is_assigning o.any_assignment) w ≡ false → passes (is_assigning o.field_assignment) w ≡ false
  field_assigns [] e = refl
  field_assigns (t ∷ w) e = field_less (look_of t.kind) e

  -- a name, a link or a bare word, behind which arguments may stand
  module _ (x : Tree × TokenLook) (named : o.is_name x.1 ≡ true) where
    commanded : (make : List Tree → Option Tree → Tree)
        → Exact effort Any (forms.or_operated S within (forms.command_rest S within make) x) (forms.or_operated T within (forms.command_rest T within make) x) g.goes_simple
        (statements.unless_operation effort.turns rec within (statements.command effort.turns rec within make) x)
    commanded make =
        let block : (Q : Wanted → Form Tree) → List Tree → Form Tree = λ Q xs. f.◌>>=◌ (maybe (ex.doblock Q within)) (λ b. nothing (make xs b)) in
        let alone : (Q : Wanted → Form Tree) (w : List Token) (y : Tree) → Q (Or within false) w y → forms.command_rest Q within make w (make (y ∷ []) None) =
        λ Q w y c. (w, [], y ∷ [], sym (append-nil w), one_listed (Q (Or within false)) w y c, ([], [], None, refl, refl, (refl, refl))) in
        exact_or_operated x named (forms.command_rest S within make) (forms.command_rest T within make) (forms.command_rest U within make)
        (statements.command effort.turns rec within make) (exact_command premises.given within make) (exact_command premises.other within make)
        (behind_settled S premises.s_settled (block S)) (behind_settled T premises.t_settled (block T))
        (make (premises.plain.0 ∷ []) None) (alone S _ premises.plain.0 premises.plain.1)
        (λ t minus. let y = premises.s_signed t minus in (make (y.0 ∷ []) None, alone S _ y.0 y.1))
        (λ t minus. let y = premises.u_signed t minus in (make (y.0 ∷ []) None, alone U _ y.0 y.1))
        (command_moves premises.given within make)

    passed_on : (make : List Tree → Tree)
        → Exact effort Any (forms.or_operated S within (forms.passing_rest S within make) x) (forms.or_operated T within (forms.passing_rest T within make) x) g.goes_simple
        (statements.unless_operation effort.turns rec within (statements.passing_on effort.turns rec within make) x)
    passed_on make =
        let alone : (Q : Wanted → Form Tree) (w : List Token) (y : Tree) → Q (Or within false) w y → forms.passing_rest Q within make w (make (y ∷ [])) =
        λ Q w y c. (w, [], y ∷ [], sym (append-nil w), one_listed (Q (Or within false)) w y c, (refl, refl)) in
        exact_or_operated x named (forms.passing_rest S within make) (forms.passing_rest T within make) (forms.passing_rest U within make)
        (statements.passing_on effort.turns rec within make) (exact_passing_on premises.given within make) (exact_passing_on premises.other within make)
        (behind_settled S premises.s_settled (λ xs. nothing (make xs))) (behind_settled T premises.t_settled (λ xs. nothing (make xs)))
        (make (premises.plain.0 ∷ [])) (alone S _ premises.plain.0 premises.plain.1)
        (λ t minus. let y = premises.s_signed t minus in (make (y.0 ∷ []), alone S _ y.0 y.1))
        (λ t minus. let y = premises.u_signed t minus in (make (y.0 ∷ []), alone U _ y.0 y.1))
        (passing_moves premises.given within make)

  assignment_moves : (at : ℕ) (target : Tree) (table : TokenLook → Option Assignment) → Moves (is_assigning table) (statements.assignment effort.turns rec within at target table)
  assignment_moves at target table =
      moves_bind (moves_take (is_assigning table) (λ t. assigning_of t (table (look_of t.kind))) (λ t full is. assigning_read t (table (look_of t.kind)) is))
      (λ found. advances_next (silent_wrap found.0) (advances_bind (never_back (exact_part _ (premises.given.exact (Simple within)))) (λ value. advances_pure _)))

  -- an assignment, or else what begins otherwise
  assigned_or : (at : ℕ) (target : Tree) (table : TokenLook → Option Assignment) → table l.Equal ≡ Some assignments.Plain → (Q D : Form Tree) (q : Reader Tree)
      → Exact effort Any Q D g.goes_simple q
      → ((w : List Token) (y : Tree) (rest : List Token) → D w y → Stops g.goes_simple rest → passes (is_assigning table) (w ++ rest) ≡ false)
      → Exact effort Any (forms.assigned_rest S within at target table <|> Q) (forms.assigned_rest T within at target table <|> D) g.goes_simple
      (choose (is_assigning table) (statements.assignment effort.turns rec within at target table) q)
  assigned_or at target table equal Q D q eq others =
      exact_choose effort (is_assigning table) (forms.assigned_rest S within at target table) (forms.assigned_rest T within at target table) Q D g.goes_simple
      (statements.assignment effort.turns rec within at target table) q
      (weaken _ (exact_assignment premises.given within at target table equal)) (weaken _ eq) (assigned_heads at target table) others
      (λ y s d clear is. (assignment_moves at target table).beyond s clear is)

  pub exact_behind : (at : ℕ) (x : Operand × TokenLook) → Exact effort Any (forms.behind S within at x) (forms.behind T within at x) g.goes_simple (statements.behind effort.turns rec within at x)
  exact_behind at (Name name, seen) =
      assigned_or at (whole (Name name)) o.any_assignment refl _ _ _ (commanded (whole (Name name), l.Ident) refl (forms.call_of T within None name))
      (or_assigns (forms.command_rest T within (forms.call_of T within None name)) (whole (Name name), l.Ident))
  exact_behind at (Field x name, seen) =
      assigned_or at (whole (Field x name)) o.field_assignment refl _ _ _ (commanded (whole (Field x name), l.Ident) refl (forms.call_of T within (Some x) name))
      (λ w y rest c stop. field_assigns (w ++ rest) (or_assigns (forms.command_rest T within (forms.call_of T within (Some x) name)) (whole (Field x name), l.Ident) w y rest c stop))
  exact_behind at (Element place x xs, seen) =
      assigned_or at (whole (Element place x xs)) o.field_assignment refl _ _ _ (exact_operated premises.given within (whole (Element place x xs), seen))
      (λ w y rest c stop. field_assigns (w ++ rest) (operated_assigns (whole (Element place x xs), seen) w y rest c stop))
  exact_behind at (Variable name, seen) =
      assigned_or at (whole (Variable name)) o.any_assignment refl _ _ _ (exact_operated premises.given within (whole (Variable name), seen))
      (operated_assigns (whole (Variable name), seen))
  exact_behind at (Yielding place, seen) = passed_on (whole (Yielding place), l.Yield) refl (λ xs. tree.Yield place xs)
  exact_behind at (Above place, seen) = passed_on (whole (Above place), l.Super) refl (λ xs. tree.Super place xs)
  exact_behind at (Passing name x value, seen) = exact_operated premises.given within (whole (Passing name x value), seen)
  exact_behind at (Whole x, seen) = exact_operated premises.given within (x, seen)
