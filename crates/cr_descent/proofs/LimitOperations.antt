-- What is counted of operators and their operands.
use Rattle.std.proofs.Common.{◌≡◌, ℕ, ◌+◌, max, Bool, true, false, ◌&&◌, ◌++◌, refl, sym, ap, subst, arith}
use Rattle.std.specs.Prelude.{Option, Some}
use Rattle.cr_syntax.specs.declared.look.TokenLook.{TokenLook}
use Rattle.cr_syntax.specs.declared.look.TokenLook.TheVariants as l
use Rattle.cr_syntax.specs.declared.token.TokenKind.{TokenKind}
use Rattle.cr_syntax.specs.declared.token.TokenKind.TheVariants as k
use Rattle.cr_syntax.specs.Look.{look_of}
use Rattle.cr_grammar.specs.declared.operator.Binary.{Binary}
use Rattle.cr_grammar.specs.declared.operator.Binary.TheVariants as binary
use Rattle.cr_grammar.specs.declared.operator.Unary.{Unary as Prefix}
use Rattle.cr_grammar.specs.declared.operator.Unary.TheVariants as prefix
use Rattle.cr_grammar.specs.declared.tree.Tree.{Tree, the_lemmas}
use Rattle.cr_grammar.specs.declared.tree.Tree.TheVariants as tree
use Rattle.cr_grammar.specs.declared.within.Within.{Within}
use Rattle.cr_grammar.specs.Count.{nodes, nesting}
use Rattle.cr_grammar.specs.Forms.{Form, nothing, ◌<|>◌, with_last}
use Rattle.cr_grammar.specs.Forms as f
use Rattle.cr_grammar.specs.Laws.{begins_or}
use Rattle.cr_grammar.specs.Operators as o
use Rattle.cr_grammar.specs.declared.wanted.Wanted.{Wanted}
use Rattle.cr_grammar.specs.declared.wanted.Wanted.TheVariants.{Unary}
use Rattle.cr_grammar.specs.Expressions as ex
use Rattle.cr_readers.specs.Reader.{Reader, ◌>>=◌, ◌>>◌, pure, Test, passes, seen, either, never, choose, only, part}
use Rattle.cr_readers.specs.Lists.{separators}
use Rattle.cr_exact.specs.Exact.{Effort, Any}
use Rattle.cr_exact.specs.Limits.{Tally, known, Counts, Whole}
use Rattle.cr_readers.specs.Goes as g
use Rattle.cr_readers.specs.Operations as operations
use Rattle.cr_readers.specs.declared.operand.Operator.{Operator}
use Rattle.cr_readers.specs.Operations.{operator_of}
use Rattle.cr_exact.proofs.TokenTests.{Apart, stops_left, stops_right, never_stops, look_apart}
use Rattle.cr_exact.proofs.Sequence.{weaken}
use Rattle.cr_exact.proofs.Tokens.{Passing, Failing, exact_take, exact_word, a_token}
use Rattle.cr_exact.proofs.Forms.{begins_some, made_out}
use Rattle.cr_exact.proofs.Heads.{led_seen, led_at, other_first, tested}
use Rattle.cr_exact.proofs.Lists.{exact_separators}
use Rattle.cr_exact.proofs.Limits.{counts_bind, counts_bind_quiet, counts_pure, counts_silent, counts_weaken, counts_map, counts_goes, still_pure}
use Rattle.cr_exact.proofs.LimitSteps.{counts_grown, counts_wrapped}
use Rattle.cr_exact.proofs.LimitChoices.{passing_same, failing_same, counts_choose, counts_only, counts_last}
use Rattle.cr_exact.proofs.LimitLoops.{counts_repeated}
use Rattle.cr_exact.proofs.LimitParts.{known_is, rises_part}
use Rattle.cr_exact.proofs.LimitLists.{still_separators}
use Rattle.cr_descent.proofs.Claims as claims
use Rattle.cr_descent.proofs.LimitClaims as limits
use Rattle.cr_descent.proofs.LimitTable as table
use Rattle.cr_descent.proofs.LimitLinks.{counts_postfix_tree}
use Rattle.cr_descent.proofs.OperationForms as forms
use Rattle.cr_descent.proofs.OperationForms.{Ended}
use Rattle.cr_descent.proofs.Operations as ops

-- ---- the nodes of an operation

unary_is : (at : ℕ) (operator : Prefix) (x : Tree) → nodes (tree.Unary at operator x) ≡ 1 + nodes x
unary_is at operator x = grind (arith, the_lemmas)

unary_nests : (at : ℕ) (operator : Prefix) (x : Tree) → nesting (tree.Unary at operator x) ≡ 1 + nesting x
unary_nests at operator x = grind (arith, the_lemmas)

binary_is : (at : ℕ) (operator : Binary) (x y : Tree) → nodes (tree.Binary at operator x y) ≡ 1 + (nodes x + nodes y)
binary_is at operator x y = grind (arith, the_lemmas)

binary_nests : (at : ℕ) (operator : Binary) (x y : Tree) → nesting (tree.Binary at operator x y) ≡ 1 + max (nesting x) (nesting y)
binary_nests at operator x y = grind (arith, the_lemmas)

-- what is counted with a tree, on top of so many nodes
abbrev told : ℕ → Ended → Tally
told n x = known (n + nodes x.0) (nesting x.0)

-- only where no sign stands
counts_guarded : {A : Type 0} (b : Bool) (C : Form A) (goes : Test) (p : Reader A) {from : Tally} {to : A → Tally}
    → Counts Any C goes from to p → Counts Any (forms.guarded b C) goes from to (operations.no_sign b >> p)
counts_guarded false C goes p cp = cp
counts_guarded true C goes p {from = from} {to = to} cp =
    let same : only operations.is_spaced p ≡ (only operations.is_spaced (pure tt) >> p) = λ i s. sym (ops.only_then (passes operations.is_spaced s.rest) p s) i in
    subst (λ q. Counts Any (forms.guarded true C) goes from to q) same
    (counts_only operations.is_spaced p
    (counts_weaken (Passing operations.is_spaced) (passing_same operations.is_spaced) (counts_map (forms.guarded true C) (λ w x c. c.1) cp)))

module _ {effort : Effort} {rec : Wanted → Reader Tree} {S T : Wanted → Form Tree} (given : claims.Given effort rec S T) (counts : limits.GivenCounts rec T) where
  -- ---- `!` and `-` before an operand

  module _ (within : Within) (free : Bool) where
    counts_prefix : (kind : TokenKind) (operator : Prefix)
        → limits.Trees (ex.unary_of T within free (look_of kind) (λ at x. tree.Unary at operator x)) (g.goes_operand free)
        (operations.unary_of effort.turns rec within free (look_of kind) (λ at x. tree.Unary at operator x))
    counts_prefix kind operator n =
        counts_grown (λ at. f.◌>>=◌ (T (Unary within free)) (λ x. nothing (tree.Unary at operator x))) (g.goes_operand free) (λ at. at)
        (λ at. part (rec (Unary within free)) >>= λ x. pure (tree.Unary at operator x)) (λ x. known (n + nodes x) (nesting x))
        (λ t at e. sym e.1) (exact_word effort kind never) (λ at b y rest d stop. never_stops (b ++ rest)) n
        (λ at. counts_bind_quiet (λ x. nothing (tree.Unary at operator x)) (g.goes_operand free) (λ x. pure (tree.Unary at operator x)) (λ x. known (n + nodes x) (nesting x))
        (rises_part nodes nesting (counts.unary within free) (n + 1) 1)
        (λ x. counts_pure (tree.Unary at operator x) (g.goes_operand free) (known (n + 1 + nodes x) (max 1 (nesting x + 1))) (λ x. known (n + nodes x) (nesting x))
        (let a = unary_is at operator x in let b = unary_nests at operator x in known_is _ _ _ _ (omega (arith, a)) (omega (arith, b))))
        (λ x. (still_pure (tree.Unary at operator x)).lets)
        (λ x b y rest d stop. rw d.0 stop))

    abbrev negate : ℕ → Tree → Tree
    negate at x = tree.Unary at prefix.Negate x

    abbrev postfix : Reader Tree
    postfix = ops.postfix given within free

    counts_signed : limits.Trees (ex.unary_of T within free l.Minus negate <|> ex.postfix T within free) (g.goes_operand free)
        (choose (seen l.Minus) (operations.unary_of effort.turns rec within free l.Minus negate) postfix)
    counts_signed n =
        counts_choose (seen l.Minus) (ex.unary_of T within free l.Minus negate) (ex.postfix T within free) (g.goes_operand free)
        (operations.unary_of effort.turns rec within free l.Minus negate) postfix
        (counts_weaken (Passing (seen l.Minus)) (passing_same (seen l.Minus)) (counts_prefix (k.Plain l.Minus) prefix.Negate n))
        (counts_weaken (Failing (seen l.Minus)) (failing_same (seen l.Minus)) (counts_postfix_tree given counts within free n))
        (λ w x rest c. led_seen l.Minus w rest (led_at l.Minus w c.0 c.1 c.2 c.3 c.4))
        (λ w x rest d stop. other_first l.Minus w rest (ops.postfix_some given within free w x d) (ops.not_minus given within free w x d))

  pub counts_unary : (within : Within) (free : Bool) → table.UnaryTree effort rec T within free
  counts_unary within free n =
      let not_ : ℕ → Tree → Tree = λ at x. tree.Unary at prefix.Not x in
      counts_choose (seen l.Bang) (ex.unary_of T within free l.Bang not_) (ex.unary_of T within free l.Minus (negate within free) <|> ex.postfix T within free) (g.goes_operand free)
      (operations.unary_of effort.turns rec within free l.Bang not_)
      (choose (seen l.Minus) (operations.unary_of effort.turns rec within free l.Minus (negate within free)) (postfix within free))
      (counts_weaken (Passing (seen l.Bang)) (passing_same (seen l.Bang)) (counts_prefix within free (k.Plain l.Bang) prefix.Not n))
      (counts_weaken (Failing (seen l.Bang)) (failing_same (seen l.Bang)) (counts_signed within free n))
      (λ w x rest c. led_seen l.Bang w rest (led_at l.Bang w c.0 c.1 c.2 c.3 c.4))
      (λ w x rest d stop. ops.other_than_bang given within free w x rest d)

  -- ---- an operator and its operand

  module _ (within : Within) (free : Bool) where
    abbrev Operand : ops.Line → Test → Reader Ended → Type 0
    Operand = ops.Operand given within free

    -- A reader of operands counts their nodes.
    abbrev Sized : ops.Line → Test → Reader Ended → Type 0
    Sized L h p = Whole (λ x. nodes x.0) (λ x. nesting x.0) Any (with_last (L T)) h p

    module _ (tabled : TokenLook → Option Binary) (L : ops.Line) (h : Test) (p : Reader Ended) (operand : Operand L h p) (sized : Sized L h p) (x : Ended) (n : ℕ) where
      abbrev behind : Operator → Form Ended
      behind found = forms.operand_behind (L T) x found

      abbrev node : Operator → Ended → Ended
      node found y = (tree.Binary found.at found.operator x.0 y.0, y.1)

      counts_behind : (found : Operator) → Counts Any (behind found) h (known (n + nodes x.0 + 1) (nesting x.0 + 1)) (told n) (separators effort.turns >> (part p >>= λ y. pure (node found y)))
      counts_behind found =
          counts_bind (λ _. f.◌>>=◌ (with_last (L T)) (λ y. nothing (node found y))) h (λ _. part p >>= λ y. pure (node found y)) (told n)
          (exact_separators effort) (counts_silent f.seps (seen l.Newline) (known (n + nodes x.0 + 1) (nesting x.0 + 1)) (still_separators effort.turns))
          (λ _. counts_bind_quiet (λ y. nothing (node found y)) h (λ y. pure (node found y)) (told n)
          (rises_part (λ y. nodes y.0) (λ y. nesting y.0) sized (n + nodes x.0 + 1) (nesting x.0 + 1))
          (λ y. counts_pure (node found y) h (known (n + nodes x.0 + 1 + nodes y.0) (max (nesting x.0 + 1) (nesting y.0 + 1))) (told n)
          (let a = binary_is found.at found.operator x.0 y.0 in let b = binary_nests found.at found.operator x.0 y.0 in known_is _ _ _ _ (omega (arith, a)) (omega (arith, b))))
          (λ y. (still_pure (node found y)).lets)
          (λ y b z rest d stop. rw d.0 stop))
          (λ _ b z rest d stop. let m = made_out (with_last (L T)) (node found) b z d in tested false (begins_or within) (seen l.Newline) (look_apart (begins_or within) l.Newline refl) b rest (operand.begins b m.0.0 m.1.0))

      counts_operation : (kind : TokenKind) (operator : Binary) → tabled (look_of kind) ≡ Some operator
          → Counts Any (ex.operation T within free tabled (L T) x) h (told n x) (told n) (operations.operation effort.turns rec within free tabled p x)
      counts_operation kind operator is =
          counts_map (ex.operation T within free tabled (L T) x)
          (forms.operation_out T within free tabled (L T) (λ w y c. begins_some (begins_or within) w (operand.begins w y c)) x)
          (counts_wrapped (λ found. forms.guarded (o.is_name x.1 && found.spaced_minus) (behind found)) h (λ (found : Operator). found.at)
          (λ found. operations.no_sign (o.is_name x.1 && found.spaced_minus) >> (separators effort.turns >> (part p >>= λ y. pure (node found y)))) (told n)
          (λ t found e. sym (forms.operator_is t (tabled (look_of t.kind)) found e).1)
          (exact_take effort (λ t found. operator_of t (tabled (look_of t.kind)) ≡ Some found) never (λ t. operator_of t (tabled (look_of t.kind))) (λ t found e. e) (λ t found e. e)
          (a_token kind) (record { at = 0; operator = operator; spaced_minus = o.is_minus (look_of kind) && false }) (ap (operator_of (a_token kind)) is))
          (λ found b y rest d stop. never_stops (b ++ rest)) (n + nodes x.0) (nesting x.0)
          (λ found. counts_guarded (o.is_name x.1 && found.spaced_minus) (behind found) h (separators effort.turns >> (part p >>= λ y. pure (node found y))) (counts_behind found)))

    -- operations of this table behind an operand, one time and again
    module _ (tabled : TokenLook → Option Binary) (kind : TokenKind) (operator : Binary) (is : tabled (look_of kind) ≡ Some operator)
        (L : ops.Line) (h : Test) (apart : Apart (g.is_operator tabled) h) (p : Reader Ended) (operand : Operand L h p) (sized : Sized L h p) where
      abbrev one_more : Ended → Reader Ended
      one_more = operations.operation effort.turns rec within free tabled p

      more_counts : (n : ℕ) (x : Ended) → Counts (Passing (g.is_operator tabled)) (ex.operation T within free tabled (L T) x) h (told n x) (told n) (one_more x)
      more_counts n x = counts_weaken (Passing (g.is_operator tabled)) (passing_same (g.is_operator tabled)) (counts_operation tabled L h p operand sized x n kind operator is)

      counts_chain : (n : ℕ) (x : Ended) → Counts Any (forms.chain T within free tabled (L T) x) (either (g.is_operator tabled) h) (told n x) (told n)
          (operations.operations effort.turns rec within free tabled p x)
      counts_chain n x =
          counts_repeated effort (g.is_operator tabled) h apart (ex.operation S within free tabled (L S)) (ex.operation T within free tabled (L T)) one_more
          (λ x. weaken _ (ops.operation_exact given within free tabled kind operator is L h apart p operand x))
          (ops.operation_heads given within free tabled kind operator is L h apart p operand)
          (told n) (more_counts n) effort.turns x

      counts_single : (n : ℕ) (x : Ended) → Counts Any (forms.at_most_one T within free tabled (L T) x) (either (g.is_operator tabled) h) (told n x) (told n)
          (choose (g.is_operator tabled) (one_more x) (pure x))
      counts_single n x =
          counts_choose (g.is_operator tabled) (ex.operation T within free tabled (L T) x) (nothing x) (either (g.is_operator tabled) h) (one_more x) (pure x)
          (counts_goes (either (g.is_operator tabled) h) (stops_right (g.is_operator tabled) h) (more_counts n x))
          (counts_weaken (Failing (g.is_operator tabled)) (failing_same (g.is_operator tabled)) (counts_pure x _ (told n x) (told n) refl))
          (ops.operation_heads given within free tabled kind operator is L h apart p operand x)
          (λ w y rest d stop. rw d.0 (stops_left (g.is_operator tabled) h rest stop))

    -- ---- levels

    abbrev first : Reader Ended
    first = ops.first given within free

    counts_first : Sized (λ V. ex.unary V within free) (g.goes_operand free) first
    counts_first n = counts_last (operations.unary effort.turns rec within free) (counts_unary within free n)

    abbrev Level : ops.Line → ops.Following → Test → (Ended → Reader Ended) → Type 0
    Level = ops.Level given within free

    -- What follows the first operand of a level is counted.
    abbrev Follow : ops.Following → Test → (Ended → Reader Ended) → Type 0
    Follow F h from = (n : ℕ) (x : Ended) → Counts Any (F T x) h (told n x) (told n) (from x)

    module _ {L : ops.Line} {F : ops.Following} {h : Test} {from : Ended → Reader Ended} (level : Level L F h from) (follow : Follow F h from) where
      sized_of : Sized L h (first >>= from)
      sized_of n =
          counts_map (with_last (L T)) level.there.out
          (counts_bind (F T) h from (told n) (ops.exact_first given within free) (counts_first n) (follow n) level.stops)

      module _ (tabled : TokenLook → Option Binary) (kind : TokenKind) (operator : Binary) (is : tabled (look_of kind) ≡ Some operator) (apart : Apart (g.is_operator tabled) h) where
        chain_above : Follow (λ V x. f.◌>>=◌ (F V x) (forms.chain V within free tabled (L V))) (either (g.is_operator tabled) h)
            (λ x. from x >>= operations.operations effort.turns rec within free tabled (first >>= from))
        chain_above n x =
            counts_bind (forms.chain T within free tabled (L T)) (either (g.is_operator tabled) h) (operations.operations effort.turns rec within free tabled (first >>= from)) (told n)
            (level.exact x) (follow n x)
            (counts_chain tabled kind operator is L h apart (first >>= from) (ops.operand_of given within free level) sized_of n)
            (λ x b y rest c stop. ops.chain_stops given within free tabled kind operator is L h apart (first >>= from) (ops.operand_of given within free level) c.0 x b y rest c.1 stop)

        single_above : Follow (λ V x. f.◌>>=◌ (F V x) (forms.at_most_one V within free tabled (L V))) (either (g.is_operator tabled) h)
            (λ x. from x >>= λ y. choose (g.is_operator tabled) (operations.operation effort.turns rec within free tabled (first >>= from) y) (pure y))
        single_above n x =
            counts_bind (forms.at_most_one T within free tabled (L T)) (either (g.is_operator tabled) h)
            (λ y. choose (g.is_operator tabled) (operations.operation effort.turns rec within free tabled (first >>= from) y) (pure y)) (told n)
            (level.exact x) (follow n x)
            (counts_single tabled kind operator is L h apart (first >>= from) (ops.operand_of given within free level) sized_of n)
            (ops.single_stops given within free tabled kind operator is L h apart (first >>= from) (ops.operand_of given within free level))

    -- ---- each level of the grammar

    prod_follow : Follow (λ V. forms.prod_rest V within free) (g.goes_prod free) (operations.prod_from effort.turns rec within free)
    prod_follow =
        counts_chain o.prod_operator (k.Plain l.Star) binary.Star refl (λ V. ex.unary V within free) (g.goes_operand free) (ops.apart_prod free) first
        (ops.first_operand given within free) counts_first

    sum_follow : Follow (λ V. forms.sum_rest V within free) (g.goes_sum free) (operations.sum_from effort.turns rec within free)
    sum_follow = chain_above (ops.prod_level given within free) prod_follow o.sum_operator (k.Plain l.Plus) binary.Plus refl (ops.apart_sum free)

    shift_follow : Follow (λ V. forms.shift_rest V within free) (g.goes_shift free) (operations.shift_from effort.turns rec within free)
    shift_follow = chain_above (ops.sum_level given within free) sum_follow o.shift_operator (k.Plain l.ShiftLeft) binary.ShiftLeft refl (ops.apart_shift free)

    cmp_follow : Follow (λ V. forms.cmp_rest V within free) (g.goes_cmp free) (operations.cmp_from effort.turns rec within free)
    cmp_follow = single_above (ops.shift_level given within free) shift_follow o.cmp_operator (k.Plain l.Less) binary.Less refl (ops.apart_cmp free)

    and_follow : Follow (λ V. forms.and_rest V within free) (g.goes_and free) (operations.and_from effort.turns rec within free)
    and_follow = chain_above (ops.cmp_level given within free) cmp_follow o.and_operator (k.Plain l.AndAnd) binary.And refl (ops.apart_and free)

    or_follow : Follow (λ V. forms.or_rest V within free) (g.goes_or free) (operations.or_from effort.turns rec within free)
    or_follow = chain_above (ops.and_level given within free) and_follow o.or_operator (k.Plain l.OrOr) binary.Or refl (ops.apart_or free)

  pub counts_or_from : (within : Within) (free : Bool) → table.OrFrom effort rec T within free
  counts_or_from within free x n = or_follow within free n x

  pub counts_or : (within : Within) (free : Bool) → table.OrTree effort rec T within free
  counts_or within free n =
      counts_map (ex.or T within free) (ops.or_tree_back given within free T)
      (counts_bind (ops.or_tree given within free T) (g.goes_or free) (λ x. operations.or_from effort.turns rec within free x >>= λ y. pure y.0) (λ x. known (n + nodes x) (nesting x))
      (ops.exact_first given within free) (counts_first within free n)
      (λ x. counts_bind_quiet (λ y. nothing y.0) (g.goes_or free) (λ y. pure y.0) (λ x. known (n + nodes x) (nesting x))
      (counts_or_from within free x n)
      (λ y. counts_pure y.0 (g.goes_or free) (told n y) (λ x. known (n + nodes x) (nesting x)) refl)
      (λ y. (still_pure y.0).lets)
      (λ y b z rest d stop. rw d.0 stop))
      (λ x b z rest d stop. let m = made_out (forms.or_rest T within free x) (λ y. y.0) b z d in ops.or_rest_stops given within free x b m.0 rest m.1 stop))
