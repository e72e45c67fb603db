-- Operators and their operands are read exactly.
use Rattle.std.proofs.lemmas.Bool.{both_ways}
use Rattle.std.proofs.Common.{◌≡◌, ℕ, Bool, true, false, ◌&&◌, cond, List, [], ◌∷◌, ◌++◌, inl, inr, refl, sym, ap, subst, ◌∙◌, append_assoc}
use Rattle.std.proofs.lemmas.Bool.{or_parts}
use Rattle.std.specs.Prelude.{Option, Some, is_some}
use Rattle.cr_syntax.specs.declared.look.TokenLook.{TokenLook}
use Rattle.cr_syntax.specs.declared.look.TokenLook.TheVariants as l
use Rattle.cr_syntax.specs.declared.token.Token.{Token}
use Rattle.cr_syntax.specs.declared.token.TokenKind.{TokenKind}
use Rattle.cr_syntax.specs.declared.token.TokenKind.TheVariants as k
use Rattle.cr_syntax.specs.Look.{look_of}
use Rattle.cr_grammar.specs.declared.operator.Binary.{Binary}
use Rattle.cr_grammar.specs.declared.operator.Binary.TheVariants as binary
use Rattle.cr_grammar.specs.declared.operator.Unary.TheVariants as prefix
use Rattle.cr_grammar.specs.declared.tree.Tree.{Tree}
use Rattle.cr_grammar.specs.declared.tree.Tree.TheVariants as tree
use Rattle.cr_grammar.specs.declared.within.Within.{Within}
use Rattle.cr_grammar.specs.Forms.{Form, nothing, ◌<|>◌, repeated_of, with_last, last_look}
use Rattle.cr_grammar.specs.Forms as f
use Rattle.cr_grammar.specs.Operators as o
use Rattle.cr_grammar.specs.declared.wanted.Wanted.{Wanted}
use Rattle.cr_grammar.specs.declared.wanted.Wanted.TheVariants.{Unary}
use Rattle.cr_grammar.specs.Laws.{first_is, begins_or}
use Rattle.cr_grammar.specs.Expressions as ex
use Rattle.cr_readers.specs.Reader.{State, Reader, and_then, ◌>>=◌, ◌>>◌, pure, refuse, Test, passes, look_at, seen, either, never, choose, only, repeated, grow, wrap, part}
use Rattle.cr_readers.specs.Reader as r
use Rattle.cr_readers.specs.Lists.{separators}
use Rattle.cr_exact.specs.Exact.{Stops, Effort, Exact, Any}
use Rattle.cr_readers.specs.Goes as g
use Rattle.cr_readers.specs.Operand.{whole}
use Rattle.cr_readers.specs.Primaries as primaries
use Rattle.cr_readers.specs.Links as links
use Rattle.cr_readers.specs.Operations as operations
use Rattle.cr_readers.specs.declared.operand.Operator.{Operator}
use Rattle.cr_readers.specs.Operations.{operator_of}
use Rattle.cr_exact.proofs.TokenTests.{Apart, apart_stops, stops_left, stops_right, never_stops, look_apart, not_seen}
use Rattle.cr_exact.proofs.Sequence.{exact_bind, exact_pure, exact_map, exact_goes, weaken}
use Rattle.cr_exact.proofs.Tokens.{Passing, exact_take, exact_word, exact_choose, exact_only, a_token, never_begins}
use Rattle.cr_exact.proofs.Forms.{begins_some, bind_in, bind_out, made_in, made_out, Real, Included}
use Rattle.cr_exact.proofs.Heads.{Heads, led_heads, led_first, led_at, tested, other_first, passes_more, repeated_stop, heads_fails}
use Rattle.cr_exact.proofs.Loops.{exact_repeated}
use Rattle.cr_exact.proofs.Nodes.{exact_silent, exact_part, exact_last, silent_grow, silent_wrap}
use Rattle.cr_exact.proofs.Lists.{exact_separators, exact_passing}
use Rattle.cr_exact.proofs.Closed.{exact_same}
use Rattle.cr_descent.proofs.Links.{exact_postfix_tree}
use Rattle.cr_descent.proofs.OperationForms as forms
use Rattle.cr_descent.proofs.OperationForms.{Ended}
use Rattle.std.specs.Prelude.{None}
use Rattle.cr_exact.proofs.Moves.{Moves, moves_bind, moves_take, advances_next}
use Rattle.cr_exact.proofs.Sequence.{never_back}
use Rattle.cr_descent.proofs.Claims as claims

-- ---- first tokens

-- a line of the grammar, and what follows the first operand of one, from the relation of the constructs in it
abbrev pub Line : Type 1
Line = (Wanted → Form Tree) → Form Tree

abbrev pub Following : Type 1
Following = (Wanted → Form Tree) → Ended → Form Ended

-- ---- an operator is none of what a level below goes on by

pub apart_prod : (free : Bool) → Apart (g.is_operator o.prod_operator) (g.goes_operand free)
apart_prod free l.Star spaced is = refl
apart_prod free l.SlashSlash spaced is = refl
apart_prod free l.Percent spaced is = refl
apart_prod free l.WrappingStar spaced is = refl
apart_prod free other spaced is = absurd cc

pub apart_sum : (free : Bool) → Apart (g.is_operator o.sum_operator) (g.goes_prod free)
apart_sum free l.Plus spaced is = refl
apart_sum free l.Minus spaced is = refl
apart_sum free l.WrappingPlus spaced is = refl
apart_sum free l.WrappingMinus spaced is = refl
apart_sum free other spaced is = absurd cc

pub apart_shift : (free : Bool) → Apart (g.is_operator o.shift_operator) (g.goes_sum free)
apart_shift free l.ShiftLeft spaced is = refl
apart_shift free other spaced is = absurd cc

pub apart_cmp : (free : Bool) → Apart (g.is_operator o.cmp_operator) (g.goes_shift free)
apart_cmp free l.EqualEqual spaced is = refl
apart_cmp free l.NotEqual spaced is = refl
apart_cmp free l.Less spaced is = refl
apart_cmp free l.LessEqual spaced is = refl
apart_cmp free l.Greater spaced is = refl
apart_cmp free l.GreaterEqual spaced is = refl
apart_cmp free other spaced is = absurd cc

pub apart_and : (free : Bool) → Apart (g.is_operator o.and_operator) (g.goes_cmp free)
apart_and free l.AndAnd spaced is = refl
apart_and free other spaced is = absurd cc

pub apart_or : (free : Bool) → Apart (g.is_operator o.or_operator) (g.goes_and free)
apart_or free l.OrOr spaced is = refl
apart_or free other spaced is = absurd cc

-- ---- only where no sign stands

-- nothing, only where the test is passed, and then the rest
pub only_then : {A : Type 0} (b : Bool) (p : Reader A) (s : State) → let none : Reader (Unit {0}) = pure tt in and_then (cond b none refuse s) (λ _. p) ≡ cond b p refuse s
only_then true p s = refl
only_then false p s = refl

module _ {effort : Effort} {A : Type 0} {R C : Form A} {g : Test} {p : Reader A} (real : Real R) (w0 : List Token) (x0 : A) (some : R w0 x0)
    (spaced : passes operations.is_spaced w0 ≡ true) (ep : Exact effort Any R C g p) where
  exact_guarded : (b : Bool) → Exact effort Any (forms.guarded b R) (forms.guarded b C) g (operations.no_sign b >> p)
  exact_guarded false = ep
  exact_guarded true =
      exact_same (only operations.is_spaced p) (only operations.is_spaced (pure tt) >> p) (λ s. sym (only_then (passes operations.is_spaced s.rest) p s))
      (exact_only operations.is_spaced p
      (exact_passing (Passing operations.is_spaced) operations.is_spaced (λ ts is. is) real w0 x0 some spaced ep)
      (λ w x rest c. passes_more operations.is_spaced w rest c.0) w0 x0 (spaced, some))

operator_read : (t : Token) (found : Option Binary) → is_some found ≡ true → (x : Operator) × (operator_of t found ≡ Some x)
operator_read t None is = absurd cc
operator_read t (Some found) is = (_, refl)

module _ {effort : Effort} {rec : Wanted → Reader Tree} {S T : Wanted → Form Tree} (given : claims.Given effort rec S T) where
  -- ---- `!` and `-` before an operand

  module _ (within : Within) (free : Bool) where
    exact_prefix : (kind : TokenKind) (make : ℕ → Tree → Tree)
        → Exact effort Any (ex.unary_of S within free (look_of kind) make) (ex.unary_of T within free (look_of kind) make) (g.goes_operand free)
        (operations.unary_of effort.turns rec within free (look_of kind) make)
    exact_prefix kind make =
        exact_bind (λ at. f.◌>>=◌ (S (Unary within free)) (λ x. nothing (make at x))) (λ at. f.◌>>=◌ (T (Unary within free)) (λ x. nothing (make at x))) (g.goes_operand free)
        (λ at. grow at >> (part (rec (Unary within free)) >>= λ x. pure (make at x)))
        (exact_word effort kind never)
        (λ at. exact_silent (grow at) (silent_grow at) _
        (exact_bind (λ x. nothing (make at x)) (λ x. nothing (make at x)) (g.goes_operand free) (λ x. pure (make at x))
        (exact_part (rec (Unary within free)) (given.exact (Unary within free)))
        (λ x. exact_pure effort (make at x) (g.goes_operand free))
        (λ x. ([], make at x, (refl, refl)))
        (λ x b y rest d stop. rw d.0 stop)))
        (λ at. let s = given.some (Unary within free) in (s.0, make at s.1, made_in (S (Unary within free)) (make at) s.0 s.1 s.2))
        (λ at b y rest d stop. never_stops (b ++ rest))

    abbrev pub postfix : Reader Tree
    postfix = links.postfix effort.turns rec within free >>= λ x. pure (whole x)

    -- the postfix, where its first token looks so
    abbrev postfix_by : TokenLook → Reader Tree
    postfix_by found s =
        and_then (and_then (primaries.primary_by effort.turns rec within free found s) (repeated (g.is_link) (links.link effort.turns rec within free) effort.turns))
        (λ x. pure (whole x))

    -- A postfix begins with neither `!` nor `-`.
    not_bang : (w : List Token) (x : Tree) → ex.postfix T within free w x → look_at w ≡ l.Bang → ⊥
    not_bang = never_begins postfix (exact_postfix_tree given within free) l.Bang (λ s is. ap (λ found. postfix_by found s) is)

    pub not_minus : (w : List Token) (x : Tree) → ex.postfix T within free w x → look_at w ≡ l.Minus → ⊥
    not_minus = never_begins postfix (exact_postfix_tree given within free) l.Minus (λ s is. ap (λ found. postfix_by found s) is)

    pub postfix_some : (w : List Token) (x : Tree) → ex.postfix T within free w x → w ≡ [] → ⊥
    postfix_some w x c = forms.first_real T within free w x (inr (inr c))

    abbrev negate : ℕ → Tree → Tree
    negate at x = tree.Unary at prefix.Negate x

    exact_signed : Exact effort Any (ex.unary_of S within free l.Minus negate <|> ex.postfix S within free) (ex.unary_of T within free l.Minus negate <|> ex.postfix T within free)
        (g.goes_operand free) (choose (seen l.Minus) (operations.unary_of effort.turns rec within free l.Minus negate) postfix)
    exact_signed =
        exact_choose effort (seen l.Minus) (ex.unary_of S within free l.Minus negate) (ex.unary_of T within free l.Minus negate) (ex.postfix S within free) (ex.postfix T within free)
        (g.goes_operand free) (operations.unary_of effort.turns rec within free l.Minus negate) postfix
        (weaken _ (exact_prefix (k.Plain l.Minus) negate)) (weaken _ (exact_postfix_tree given within free))
        (led_heads l.Minus _)
        (λ w x rest d stop. other_first l.Minus w rest (postfix_some w x d) (not_minus w x d))
        (λ x s d clear is. absurd (postfix_some [] x d refl))

    pub other_than_bang : (w : List Token) (x : Tree) (rest : List Token) → (ex.unary_of T within free l.Minus negate <|> ex.postfix T within free) w x → Stops (seen l.Bang) (w ++ rest)
    other_than_bang w x rest (inl c) =
        led_first false l.Minus (seen l.Bang) (not_seen l.Minus l.Bang (λ e. cc)) w rest (led_at l.Minus w c.0 c.1 c.2 c.3 c.4)
    other_than_bang w x rest (inr c) = other_first l.Bang w rest (postfix_some w x c) (not_bang w x c)

  pub exact_unary : (within : Within) (free : Bool) → claims.UnaryTree effort rec S T within free
  exact_unary within free =
      let not_ : ℕ → Tree → Tree = λ at x. tree.Unary at prefix.Not x in
      exact_choose effort (seen l.Bang) (ex.unary_of S within free l.Bang not_) (ex.unary_of T within free l.Bang not_)
      (ex.unary_of S within free l.Minus (negate within free) <|> ex.postfix S within free) (ex.unary_of T within free l.Minus (negate within free) <|> ex.postfix T within free)
      (g.goes_operand free) (operations.unary_of effort.turns rec within free l.Bang not_)
      (choose (seen l.Minus) (operations.unary_of effort.turns rec within free l.Minus (negate within free)) (postfix within free))
      (weaken _ (exact_prefix within free (k.Plain l.Bang) not_)) (weaken _ (exact_signed within free))
      (led_heads l.Bang _)
      (λ w x rest d stop. other_than_bang within free w x rest d)
      (λ x s d clear is. absurd (both_ways _ (other_than_bang within free [] x s.rest d) is))

  -- ---- an operator and its operand

  module _ (within : Within) (free : Bool) where
    -- A spaced `nil` is an operand of each level.
    abbrev a_nil : List Token
    a_nil = record { kind = (k.Plain l.Nil); span = record { first = 0; past = 0 }; spaced = true } ∷ []

    abbrev nil_ended : Ended
    nil_ended = (tree.Nil 0, l.Nil)

    -- A reader of operands, which are a line L of the grammar.
    pub record Operand (L : Line) (h : Test) (p : Reader Ended) : Type 0 where
      pub exact : Exact effort Any (with_last (L S)) (with_last (L T)) h p
      some : L S a_nil (tree.Nil 0)
      real : Real (L S)
      pub begins : (w : List Token) (x : Tree) → L T w x → first_is (begins_or within) w ≡ true

    module _ (table : TokenLook → Option Binary) (L : Line) (h : Test) (p : Reader Ended) (operand : Operand L h p) (x : Ended) where
      abbrev behind : (Wanted → Form Tree) → Operator → Form Ended
      behind V found = forms.operand_behind (L V) x found

      abbrev node : Operator → Ended → Ended
      node found y = (tree.Binary found.at found.operator x.0 y.0, y.1)

      nil_behind : (found : Operator) → behind S found a_nil (node found nil_ended)
      nil_behind found =
          ([], a_nil, tt, refl, ([], [], [], refl, refl, (refl, refl)), made_in (with_last (L S)) (node found) a_nil nil_ended (operand.some, refl))

      exact_behind : (found : Operator) → Exact effort Any (behind S found) (behind T found) h (separators effort.turns >> (part p >>= λ y. pure (node found y)))
      exact_behind found =
          exact_bind (λ _. f.◌>>=◌ (with_last (L S)) (λ y. nothing (node found y))) (λ _. f.◌>>=◌ (with_last (L T)) (λ y. nothing (node found y))) h
          (λ _. part p >>= λ y. pure (node found y))
          (exact_separators effort)
          (λ _. exact_bind (λ y. nothing (node found y)) (λ y. nothing (node found y)) h (λ y. pure (node found y)) (exact_part p operand.exact)
          (λ y. exact_pure effort (node found y) h) (λ y. ([], node found y, (refl, refl))) (λ y b z rest d stop. rw d.0 stop))
          (λ _. (a_nil, node found nil_ended, made_in (with_last (L S)) (node found) a_nil nil_ended (operand.some, refl)))
          (λ _ b z rest d stop. let n = made_out (with_last (L T)) (node found) b z d in tested false (begins_or within) (seen l.Newline) (look_apart (begins_or within) l.Newline refl) b rest (operand.begins b n.0.0 n.1.0))

      guarded_exact : (found : Operator) → Exact effort Any (forms.guarded (o.is_name x.1 && found.spaced_minus) (behind S found)) (forms.guarded (o.is_name x.1 && found.spaced_minus) (behind T found)) h
          (operations.no_sign (o.is_name x.1 && found.spaced_minus) >> (separators effort.turns >> (part p >>= λ y. pure (node found y))))
      guarded_exact found =
          exact_guarded (forms.behind_real (L S) x operand.real found) a_nil (node found nil_ended) (nil_behind found) refl (exact_behind found) (o.is_name x.1 && found.spaced_minus)

      module _ (kind : TokenKind) (operator : Binary) (is : table (look_of kind) ≡ Some operator) where
        exact_operation : Exact effort Any (ex.operation S within free table (L S) x) (ex.operation T within free table (L T) x) h (operations.operation effort.turns rec within free table p x)
        exact_operation =
            exact_map (ex.operation S within free table (L S) x) (ex.operation T within free table (L T) x)
            (forms.operation_in S within free table (L S) operand.real x) (forms.operation_out T within free table (L T) (λ w y c. begins_some (begins_or within) w (operand.begins w y c)) x)
            (exact_bind (λ found. forms.guarded (o.is_name x.1 && found.spaced_minus) (behind S found)) (λ found. forms.guarded (o.is_name x.1 && found.spaced_minus) (behind T found)) h
            (λ found. wrap found.at >> (operations.no_sign (o.is_name x.1 && found.spaced_minus) >> (separators effort.turns >> (part p >>= λ y. pure (node found y)))))
            (exact_take effort (λ t found. operator_of t (table (look_of t.kind)) ≡ Some found) never (λ t. operator_of t (table (look_of t.kind))) (λ t found e. e) (λ t found e. e)
            (a_token kind) (record { at = 0; operator = operator; spaced_minus = o.is_minus (look_of kind) && false }) (ap (operator_of (a_token kind)) is))
            (λ found. exact_silent (wrap found.at) (silent_wrap found.at) _
            (exact_guarded (forms.behind_real (L S) x operand.real found) a_nil (node found nil_ended) (nil_behind found) refl (exact_behind found) (o.is_name x.1 && found.spaced_minus)))
            (λ found. (a_nil, node found nil_ended, forms.guard_in (o.is_name x.1 && found.spaced_minus) (behind S found) a_nil (node found nil_ended) (λ _. refl) (nil_behind found)))
            (λ found b y rest d stop. never_stops (b ++ rest)))

    -- operations of this table behind an operand, one time and again
    module _ (table : TokenLook → Option Binary) (kind : TokenKind) (operator : Binary) (is : table (look_of kind) ≡ Some operator)
        (L : Line) (h : Test) (apart : Apart (g.is_operator table) h) (p : Reader Ended) (operand : Operand L h p) where
      abbrev one_more : Ended → Reader Ended
      one_more = operations.operation effort.turns rec within free table p

      pub operation_exact : (x : Ended) → Exact effort Any (ex.operation S within free table (L S) x) (ex.operation T within free table (L T) x) h (one_more x)
      operation_exact x = exact_operation table L h p operand x kind operator is

      operation_moves : (x : Ended) → Moves (g.is_operator table) (one_more x)
      operation_moves x =
          moves_bind (moves_take (g.is_operator table) (λ t. operator_of t (table (look_of t.kind))) (λ t full is. operator_read t (table (look_of t.kind)) is))
          (λ found. advances_next (silent_wrap found.at) (never_back (guarded_exact table L h p operand x found)))

      pub operation_heads : (x : Ended) → Heads (g.is_operator table) (ex.operation T within free table (L T) x)
      operation_heads x w y rest c =
          let d = c.1 in
          let t = forms.operator_out T within free table d.0 d.2 d.4 in
          passes_more (g.is_operator table) w rest
          (ap (passes (g.is_operator table)) (d.3 ∙ ap (λ (v : List Token). v ++ d.1) t.2) ∙ ap is_some t.3)

      exact_chain : (x : Ended) → Exact effort Any (forms.chain S within free table (L S) x) (forms.chain T within free table (L T) x) (either (g.is_operator table) h)
          (operations.operations effort.turns rec within free table p x)
      exact_chain = exact_repeated effort (g.is_operator table) h apart (ex.operation S within free table (L S)) (ex.operation T within free table (L T)) one_more
          (λ x. weaken _ (operation_exact x)) operation_heads operation_moves

      pub chain_stops : (n : ℕ) (x : Ended) (w : List Token) (y : Ended) (rest : List Token) → repeated_of n (ex.operation T within free table (L T)) x w y
          → Stops (either (g.is_operator table) h) rest → Stops h (w ++ rest)
      chain_stops n x w y rest c stop =
          repeated_stop h (ex.operation T within free table (L T)) (λ x. heads_fails (g.is_operator table) h _ (operation_heads x) apart) n x w y rest c (stops_right (g.is_operator table) h rest stop)

      exact_single : (x : Ended) → Exact effort Any (forms.at_most_one S within free table (L S) x) (forms.at_most_one T within free table (L T) x) (either (g.is_operator table) h)
          (choose (g.is_operator table) (one_more x) (pure x))
      exact_single x =
          exact_choose effort (g.is_operator table) (ex.operation S within free table (L S) x) (ex.operation T within free table (L T) x) (nothing x) (nothing x)
          (either (g.is_operator table) h) (one_more x) (pure x)
          (weaken _ (exact_goes (either (g.is_operator table) h) (λ found spaced no. (or_parts _ _ no).1) (operation_exact x))) (weaken _ (exact_pure effort x _))
          (operation_heads x)
          (λ w y rest d stop. rw d.0 (stops_left (g.is_operator table) h rest stop))
          (λ y s d clear is. (operation_moves x).beyond s clear is)

      pub single_stops : (x : Ended) (w : List Token) (y : Ended) (rest : List Token) → forms.at_most_one T within free table (L T) x w y
          → Stops (either (g.is_operator table) h) rest → Stops h (w ++ rest)
      single_stops x w y rest (inl c) stop = apart_stops (g.is_operator table) h apart (w ++ rest) (operation_heads x w y rest c)
      single_stops x w y rest (inr c) stop = rw c.0 (stops_right (g.is_operator table) h rest stop)

    -- ---- levels

    abbrev pub first : Reader Ended
    first = r.with_last (operations.unary effort.turns rec within free)

    pub exact_first : Exact effort Any (with_last (ex.unary S within free)) (with_last (ex.unary T within free)) (g.goes_operand free) first
    exact_first = exact_last (operations.unary effort.turns rec within free) (exact_unary within free) (forms.first_real S within free) (forms.first_real T within free)

    pub first_operand : Operand (λ V. ex.unary V within free) (g.goes_operand free) first
    first_operand = record {
      exact = exact_first;
      some = inr (inr (a_nil, [], tree.Nil 0, refl, inr (inr (inl (inl (a_nil, [], 0, refl, (_, refl, (refl, refl)), (refl, refl))))), (0, (refl, refl))));
      real = forms.first_real S within free;
      begins = forms.first_begins T within free;
    }

    -- a line L of the grammar as its first operand and what follows that, F, and the reader of that
    pub record Level (L : Line) (F : Following) (h : Test) (from : Ended → Reader Ended) : Type 0 where
      here : forms.Splits S within free (L S) (F S)
      pub there : forms.Splits T within free (L T) (F T)
      pub exact : (x : Ended) → Exact effort Any (F S x) (F T x) h (from x)
      pub stops : (x : Ended) (b : List Token) (y : Ended) (rest : List Token) → F T x b y → Stops h rest → Stops (g.goes_operand free) (b ++ rest)

    module _ {L : Line} {F : Following} {h : Test} {from : Ended → Reader Ended} (level : Level L F h from) where
      pub operand_of : Operand L h (first >>= from)
      operand_of = record {
        exact = exact_map (with_last (L S)) (with_last (L T)) level.here.back level.there.out
            (exact_bind (F S) (F T) h from exact_first level.exact (λ x. ([], x, level.here.none x)) level.stops);
        some = (level.here.back a_nil nil_ended (a_nil, [], nil_ended, refl, (first_operand.some, refl), level.here.none nil_ended)).0;
        real = forms.level_real S within free (L S) (F S) level.here;
        begins = forms.level_begins T within free (L T) (F T) level.there;
      }

      level_above : (H : Line) (M : Following) (wide : Test) (m : Ended → Reader Ended)
          → forms.Splits S within free (H S) (λ x. f.◌>>=◌ (F S x) (M S)) → forms.Splits T within free (H T) (λ x. f.◌>>=◌ (F T x) (M T))
          → ((x : Ended) → M S x [] x) → ((x : Ended) → Exact effort Any (M S x) (M T x) wide (m x))
          → ((x : Ended) (b : List Token) (y : Ended) (rest : List Token) → M T x b y → Stops wide rest → Stops h (b ++ rest))
          → Level H (λ V x. f.◌>>=◌ (F V x) (M V)) wide (λ x. from x >>= m)
      level_above H M wide m here there none more stops = record {
        here = here;
        there = there;
        exact = λ x. exact_bind (M S) (M T) wide m (level.exact x) more (λ y. ([], y, none y)) stops;
        stops = λ x b y rest c stop.
            subst (Stops (g.goes_operand free)) (sym (ap (λ (t : List Token). t ++ rest) c.3 ∙ append_assoc c.0 c.1 rest))
            (level.stops x c.0 c.2 (c.1 ++ rest) c.4 (stops c.2 c.1 y rest c.5 stop));
      }

      module _ (table : TokenLook → Option Binary) (kind : TokenKind) (operator : Binary) (is : table (look_of kind) ≡ Some operator) (apart : Apart (g.is_operator table) h) where
        chain_above : Level (λ V. ex.operations V within free table (L V)) (λ V x. f.◌>>=◌ (F V x) (forms.chain V within free table (L V))) (either (g.is_operator table) h)
            (λ x. from x >>= operations.operations effort.turns rec within free table (first >>= from))
        chain_above =
            level_above (λ V. ex.operations V within free table (L V)) (λ V. forms.chain V within free table (L V)) (either (g.is_operator table) h)
            (operations.operations effort.turns rec within free table (first >>= from))
            (forms.chain_above S within free table (L S) (F S) level.here) (forms.chain_above T within free table (L T) (F T) level.there)
            (λ x. (0, (refl, refl)))
            (exact_chain table kind operator is L h apart (first >>= from) operand_of)
            (λ x b y rest c stop. chain_stops table kind operator is L h apart (first >>= from) operand_of c.0 x b y rest c.1 stop)

        single_above : Level (λ V. ex.one_operation V within free table (L V)) (λ V x. f.◌>>=◌ (F V x) (forms.at_most_one V within free table (L V))) (either (g.is_operator table) h)
            (λ x. from x >>= λ y. choose (g.is_operator table) (operations.operation effort.turns rec within free table (first >>= from) y) (pure y))
        single_above =
            level_above (λ V. ex.one_operation V within free table (L V)) (λ V. forms.at_most_one V within free table (L V)) (either (g.is_operator table) h)
            (λ y. choose (g.is_operator table) (operations.operation effort.turns rec within free table (first >>= from) y) (pure y))
            (forms.single_above S within free table (L S) (F S) level.here) (forms.single_above T within free table (L T) (F T) level.there)
            (λ x. inr (refl, refl))
            (exact_single table kind operator is L h apart (first >>= from) operand_of)
            (single_stops table kind operator is L h apart (first >>= from) operand_of)

    -- ---- each level of the grammar

    pub prod_level : Level (λ V. ex.prod V within free) (λ V. forms.prod_rest V within free) (g.goes_prod free) (operations.prod_from effort.turns rec within free)
    prod_level =
        let L : Line = λ V. ex.unary V within free in
        record {
          here = forms.prod_splits S within free;
          there = forms.prod_splits T within free;
          exact = exact_chain o.prod_operator (k.Plain l.Star) binary.Star refl L (g.goes_operand free) (apart_prod free) first first_operand;
          stops = λ x b y rest c stop. chain_stops o.prod_operator (k.Plain l.Star) binary.Star refl L (g.goes_operand free) (apart_prod free) first first_operand c.0 x b y rest c.1 stop;
        }

    pub sum_level : Level (λ V. ex.sum V within free) (λ V. forms.sum_rest V within free) (g.goes_sum free) (operations.sum_from effort.turns rec within free)
    sum_level = chain_above prod_level o.sum_operator (k.Plain l.Plus) binary.Plus refl (apart_sum free)

    pub shift_level : Level (λ V. ex.shift V within free) (λ V. forms.shift_rest V within free) (g.goes_shift free) (operations.shift_from effort.turns rec within free)
    shift_level = chain_above sum_level o.shift_operator (k.Plain l.ShiftLeft) binary.ShiftLeft refl (apart_shift free)

    pub cmp_level : Level (λ V. ex.cmp V within free) (λ V. forms.cmp_rest V within free) (g.goes_cmp free) (operations.cmp_from effort.turns rec within free)
    cmp_level = single_above shift_level o.cmp_operator (k.Plain l.Less) binary.Less refl (apart_cmp free)

    pub and_level : Level (λ V. ex.and V within free) (λ V. forms.and_rest V within free) (g.goes_and free) (operations.and_from effort.turns rec within free)
    and_level = chain_above cmp_level o.and_operator (k.Plain l.AndAnd) binary.And refl (apart_and free)

    or_level : Level (λ V. ex.or V within free) (λ V. forms.or_rest V within free) (g.goes_or free) (operations.or_from effort.turns rec within free)
    or_level = chain_above and_level o.or_operator (k.Plain l.OrOr) binary.Or refl (apart_or free)

    abbrev pub or_tree : (Wanted → Form Tree) → Ended → Form Tree
    or_tree V x = f.◌>>=◌ (forms.or_rest V within free x) (λ y. nothing y.0)

    or_tree_exact : (x : Ended) → Exact effort Any (or_tree S x) (or_tree T x) (g.goes_or free) (operations.or_from effort.turns rec within free x >>= λ y. pure y.0)
    or_tree_exact x = exact_bind (λ y. nothing y.0) (λ y. nothing y.0) (g.goes_or free) (λ y. pure y.0) (or_level.exact x) (λ y. exact_pure effort y.0 (g.goes_or free))
        (λ y. ([], y.0, (refl, refl))) (λ y b z rest d stop. rw d.0 stop)

    or_tree_out : (V : Wanted → Form Tree) → Included (f.◌>>=◌ (with_last (ex.unary V within free)) (or_tree V)) (ex.or V within free)
    or_tree_out V w z c =
        let n = made_out (f.◌>>=◌ (with_last (ex.unary V within free)) (forms.or_rest V within free)) (λ y. y.0) w z
        (bind_in (with_last (ex.unary V within free)) (forms.or_rest V within free) (λ y. nothing y.0) w z c) in
        subst (ex.or V within free w) (sym n.2) (forms.or_joins V within free w n.0 n.1).0

    pub or_tree_back : (V : Wanted → Form Tree) → Included (ex.or V within free) (f.◌>>=◌ (with_last (ex.unary V within free)) (or_tree V))
    or_tree_back V w z c =
        bind_out (with_last (ex.unary V within free)) (forms.or_rest V within free) (λ y. nothing y.0) w z
        (made_in (f.◌>>=◌ (with_last (ex.unary V within free)) (forms.or_rest V within free)) (λ y. y.0) w (z, last_look w) (forms.or_splits V within free w z c))

  -- What follows the first operand of an `or` is read exactly.
  pub exact_or_from : (within : Within) (free : Bool) (x : Ended)
      → Exact effort Any (forms.or_rest S within free x) (forms.or_rest T within free x) (g.goes_or free) (operations.or_from effort.turns rec within free x)
  exact_or_from within free x = (or_level within free).exact x

  -- An operand ends where what follows it begins.
  pub or_rest_stops : (within : Within) (free : Bool) (x : Ended) (b : List Token) (y : Ended) (rest : List Token)
      → forms.or_rest T within free x b y → Stops (g.goes_or free) rest → Stops (g.goes_operand free) (b ++ rest)
  or_rest_stops within free = (or_level within free).stops

  pub exact_or : (within : Within) (free : Bool) → claims.OrTree effort rec S T within free
  exact_or within free =
      exact_map (ex.or S within free) (ex.or T within free) (or_tree_out within free S) (or_tree_back within free T)
      (exact_bind (or_tree within free S) (or_tree within free T) (g.goes_or free) (λ x. operations.or_from effort.turns rec within free x >>= λ y. pure y.0)
      (exact_first within free) (or_tree_exact within free)
      (λ x. ([], x.0, made_in (forms.or_rest S within free x) (λ y. y.0) [] x (forms.or_rest_none S within free x)))
      (λ x b z rest d stop. let n = made_out (forms.or_rest T within free x) (λ y. y.0) b z d in or_rest_stops within free x b n.0 rest n.1 stop))
