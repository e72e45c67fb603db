-- What is counted in whole statements.
use Rattle.std.proofs.Common.{◌≡◌, ℕ, ◌+◌, max, Bool, true, false, ◌&&◌, ◌||◌, List, [], ◌∷◌, ◌++◌, Option, Some, None, inl, inr, refl, sym, ap, ◌∙◌, arith}
use Rattle.std.proofs.lemmas.List.Sums.{sum_by-cons}
use Rattle.std.specs.Prelude.{not, sum}
use Rattle.cr_syntax.specs.declared.look.TokenLook.{TokenLook}
use Rattle.cr_syntax.specs.declared.look.TokenLook.TheVariants as l
use Rattle.cr_syntax.specs.declared.token.Token.{Token}
use Rattle.cr_syntax.specs.declared.token.TokenKind.{TokenKind}
use Rattle.cr_syntax.specs.declared.token.TokenKind.TheVariants as k
use Rattle.cr_syntax.specs.Look.{look_of}
use Rattle.cr_grammar.specs.declared.operator.Assignment.{Assignment}
use Rattle.cr_grammar.specs.declared.operator.Assignment.TheVariants as assignments
use Rattle.cr_grammar.specs.declared.tree.Tree.{Tree, the_lemmas}
use Rattle.cr_grammar.specs.declared.tree.Tree.TheVariants as tree
use Rattle.cr_grammar.specs.declared.within.Within.{Within}
use Rattle.cr_grammar.specs.Count.{nodes, nesting}
use Rattle.cr_grammar.specs.Forms.{Form, nothing, ◌<|>◌, maybe, from_first, word}
use Rattle.cr_grammar.specs.Forms as f
use Rattle.cr_grammar.specs.Operators as o
use Rattle.cr_grammar.specs.declared.wanted.Wanted.{Wanted}
use Rattle.cr_grammar.specs.Expressions as ex
use Rattle.cr_grammar.specs.Grammar as gr
use Rattle.cr_readers.specs.Reader.{Reader, Test, passes, seen, either, never, choose, part, pure, ◌>>=◌}
use Rattle.cr_readers.specs.Lists.{optional}
use Rattle.cr_exact.specs.Exact.{Stops, Effort, Any}
use Rattle.cr_exact.specs.Limits.{known, unknown, Counts, tall, if_some}
use Rattle.cr_readers.specs.Goes as g
use Rattle.cr_readers.specs.declared.operand.Operand.{Operand}
use Rattle.cr_readers.specs.declared.operand.Operand.TheVariants.{Name, Field, Element, Variable, Yielding, Above, Passing, Whole}
use Rattle.cr_readers.specs.Operand.{whole}
use Rattle.cr_readers.specs.Operations as operations
use Rattle.cr_readers.specs.Statements as statements
use Rattle.cr_readers.specs.Statements.{is_assigning}
use Rattle.cr_exact.proofs.TokenTests.{never_stops, stops_less}
use Rattle.cr_exact.proofs.Tokens.{Passing as NextPasses, Failing, Looks, exact_word}
use Rattle.cr_exact.proofs.Heads.{led_seen}
use Rattle.cr_exact.proofs.Follows.{follows_nothing}
use Rattle.cr_exact.proofs.Nodes.{exact_last}
use Rattle.cr_exact.proofs.Limits.{counts_bind, counts_bind_quiet, counts_pure, counts_map, counts_goes, counts_weaken, still_pure}
use Rattle.cr_exact.proofs.LimitSteps.{counts_grown, counts_wrapped}
use Rattle.cr_exact.proofs.LimitChoices.{Way, counts_choose, counts_by, counts_allowed, counts_last, counts_here, passing_same, failing_same, looks_same}
use Rattle.cr_exact.proofs.LimitParts.{tall_cons, known_is, rises_part, rises_optional}
use Rattle.cr_descent.proofs.StatementForms as forms
use Rattle.cr_descent.proofs.LimitClaims as limits
use Rattle.cr_descent.proofs.LimitTable.{part_height}
use Rattle.cr_exact.proofs.TwoTokens.{Settled, settled_same}
use Rattle.cr_descent.proofs.Statements as st
use Rattle.cr_descent.proofs.Statements.{simple_or, closed}
use Rattle.cr_descent.proofs.Simple as simples
use Rattle.cr_descent.proofs.Links.{exact_postfix}
use Rattle.cr_exact.proofs.LimitTwoTokens.{counts_unless}
use Rattle.cr_descent.proofs.LimitLinks.{counts_postfix}
use Rattle.cr_descent.proofs.LimitOperations.{counts_or}
use Rattle.cr_descent.proofs.LimitStatements.{passing_told, yield_is, yield_nests, super_is, super_nests, bare_is, bare_nests, counts_assignment, counts_command, counts_passing, counts_operated}
use Rattle.cr_descent.proofs.LimitNodes.{held, maybe_told, told}
use Rattle.cr_descent.proofs.StatementClaims.{Premises}

-- ---- the nodes of jumps and modifiers

return_is : (at : ℕ) (value : Option Tree) → nodes (tree.Return at value) ≡ 1 + sum (held nodes value)
return_is at None = search the_lemmas
return_is at (Some x) = search the_lemmas

return_nests : (at : ℕ) (value : Option Tree) → nesting (tree.Return at value) ≡ 1 + tall (held nesting value)
return_nests at None = search the_lemmas
return_nests at (Some x) = search the_lemmas

next_is : (at : ℕ) (value : Option Tree) → nodes (tree.Next at value) ≡ 1 + sum (held nodes value)
next_is at None = search the_lemmas
next_is at (Some x) = search the_lemmas

next_nests : (at : ℕ) (value : Option Tree) → nesting (tree.Next at value) ≡ 1 + tall (held nesting value)
next_nests at None = search the_lemmas
next_nests at (Some x) = search the_lemmas

break_is : (at : ℕ) → nodes (tree.Break at) ≡ 1
break_is at = grind (arith, the_lemmas)

break_nests : (at : ℕ) → nesting (tree.Break at) ≡ 1
break_nests at = grind (arith, the_lemmas)

-- a condition and one statement
modified_is : (at : ℕ) (unless : Bool) (c x : Tree) → nodes (tree.If at unless c (x ∷ []) [] None) ≡ 1 + sum (nodes c ∷ nodes x ∷ [])
modified_is at unless c x = search the_lemmas

modified_nests : (at : ℕ) (unless : Bool) (c x : Tree) → nesting (tree.If at unless c (x ∷ []) [] None) ≡ 1 + tall (nesting c ∷ nesting x ∷ [])
modified_nests at unless c x = search the_lemmas

modified_told : (n at : ℕ) (unless : Bool) (c x : Tree)
    → told n (tree.If at unless c (x ∷ []) [] None) ≡ known (n + nodes x + 1 + nodes c) (max (nesting x + 1) (nesting c + 1))
modified_told n at unless c x =
    let a = modified_is at unless c x in
    let b = sum_by-cons (λ n. n) (nodes c) (nodes x ∷ []) in
    let d = sum_by-cons (λ n. n) (nodes x) [] in
    let e = modified_nests at unless c x in
    let h = tall_cons (nesting c) (nesting x ∷ []) in
    let i = tall_cons (nesting x) [] in
    known_is _ _ _ _ (omega (arith, a, b, d)) (omega (arith, e, h, i))

module _ {effort : Effort} {sure : Type 0} {rec : Wanted → Reader Tree} {S T U : Wanted → Form Tree} {within : Within} (premises : Premises effort sure rec S T U within) (counts : limits.GivenCounts rec T) where
  -- ---- behind an operand

  no_argument : (x : Tree × TokenLook) → o.is_name x.1 ≡ true → (w rest : List Token) (y : Tree) → forms.operated T within x w y → Stops g.goes_simple rest → o.begins_argument (w ++ rest) ≡ false
  no_argument x named w rest y c stop = elim (st.operated_settled premises T x w y c) [
    | inl none ↦ ap (λ (v : List Token). o.begins_argument (v ++ rest)) none ∙ closed rest stop
    | inr is ↦ settled_same w rest is.settled ∙ is.no_argument named
  ]

  counts_or_operated : (n : ℕ) (x : Tree × TokenLook) → o.is_name x.1 ≡ true → (K : Form Tree) (p : Reader Tree) → ((w : List Token) (y : Tree) → K w y → Settled w)
      → Counts Any K g.goes_simple (told n x.0) (told n) p
      → Counts Any (forms.or_operated T within K x) g.goes_simple (told n x.0) (told n) (statements.unless_operation effort.turns rec within p x)
  counts_or_operated n x named K p settled cp =
      counts_unless K (forms.operated T within x) g.goes_simple p (statements.operation_behind effort.turns rec within x) cp
      (counts_operated premises.given counts within n x) settled (no_argument x named)

  counts_assigned_or : (n : ℕ) (at : ℕ) (target : Tree) (table : TokenLook → Option Assignment) → table l.Equal ≡ Some assignments.Plain → (D : Form Tree) (q : Reader Tree)
      → Counts Any D g.goes_simple (told n target) (told n) q
      → ((w : List Token) (y : Tree) (rest : List Token) → D w y → Stops g.goes_simple rest → passes (is_assigning table) (w ++ rest) ≡ false)
      → Counts Any (forms.assigned_rest T within at target table <|> D) g.goes_simple (told n target) (told n)
      (choose (is_assigning table) (statements.assignment effort.turns rec within at target table) q)
  counts_assigned_or n at target table equal D q cq others =
      counts_choose (is_assigning table) (forms.assigned_rest T within at target table) D g.goes_simple (statements.assignment effort.turns rec within at target table) q
      (counts_weaken (NextPasses (is_assigning table)) (passing_same (is_assigning table)) (counts_assignment premises.given counts within n at target table equal))
      (counts_weaken (Failing (is_assigning table)) (failing_same (is_assigning table)) cq)
      (st.assigned_heads premises at target table) others

  command_settled : (make : List Tree → Option Tree → Tree) (w : List Token) (y : Tree) → forms.command_rest T within make w y → Settled w
  command_settled make = st.behind_settled premises T premises.t_settled (λ xs. f.◌>>=◌ (maybe (ex.doblock T within)) (λ b. nothing (make xs b)))

  passing_settled : (make : List Tree → Tree) (w : List Token) (y : Tree) → forms.passing_rest T within make w y → Settled w
  passing_settled make = st.behind_settled premises T premises.t_settled (λ xs. nothing (make xs))

  or_assigns : (K : Form Tree) (x : Tree × TokenLook) (w : List Token) (y : Tree) (rest : List Token) → forms.or_operated T within K x w y → Stops g.goes_simple rest
      → passes (is_assigning o.any_assignment) (w ++ rest) ≡ false
  or_assigns = st.or_assigns premises

  operated_assigns : (x : Tree × TokenLook) (w : List Token) (y : Tree) (rest : List Token) → forms.operated T within x w y → Stops g.goes_simple rest → passes (is_assigning o.any_assignment) (w ++ rest) ≡ false
  operated_assigns = st.operated_assigns premises

  field_assigns : (w : List Token) → passes (is_assigning o.any_assignment) w ≡ false → passes (is_assigning o.field_assignment) w ≡ false
  field_assigns = st.field_assigns premises

  counts_behind : (n at : ℕ) (x : Operand × TokenLook) → Counts Any (forms.behind T within at x) g.goes_simple (told n (whole x.0)) (told n) (statements.behind effort.turns rec within at x)
  counts_behind n at (Name name, seen) =
      let make = forms.call_of T within None name in
      counts_assigned_or n at (whole (Name name)) o.any_assignment refl _ _
      (counts_or_operated n (whole (Name name), l.Ident) refl (forms.command_rest T within make) _ (command_settled make) (counts_command premises.given counts within n None name))
      (or_assigns (forms.command_rest T within make) (whole (Name name), l.Ident))
  counts_behind n at (Field x name, seen) =
      let make = forms.call_of T within (Some x) name in
      counts_assigned_or n at (whole (Field x name)) o.field_assignment refl _ _
      (counts_or_operated n (whole (Field x name), l.Ident) refl (forms.command_rest T within make) _ (command_settled make) (counts_command premises.given counts within n (Some x) name))
      (λ w y rest c stop. field_assigns (w ++ rest) (or_assigns (forms.command_rest T within make) (whole (Field x name), l.Ident) w y rest c stop))
  counts_behind n at (Element place x xs, seen) =
      counts_assigned_or n at (whole (Element place x xs)) o.field_assignment refl _ _ (counts_operated premises.given counts within n (whole (Element place x xs), seen))
      (λ w y rest c stop. field_assigns (w ++ rest) (operated_assigns (whole (Element place x xs), seen) w y rest c stop))
  counts_behind n at (Variable name, seen) =
      counts_assigned_or n at (whole (Variable name)) o.any_assignment refl _ _ (counts_operated premises.given counts within n (whole (Variable name), seen))
      (operated_assigns (whole (Variable name), seen))
  counts_behind n at (Yielding place, seen) =
      counts_or_operated n (whole (Yielding place), l.Yield) refl (forms.passing_rest T within (λ xs. tree.Yield place xs)) _ (passing_settled (λ xs. tree.Yield place xs))
      (counts_passing premises.given counts within n (tree.Yield place []) (λ xs. tree.Yield place xs)
      (λ xs. passing_told n (tree.Yield place xs) (tree.Yield place []) xs (yield_is place xs) (yield_nests place xs) (yield_is place []) (yield_nests place [])))
  counts_behind n at (Above place, seen) =
      counts_or_operated n (whole (Above place), l.Super) refl (forms.passing_rest T within (λ xs. tree.Super place xs)) _ (passing_settled (λ xs. tree.Super place xs))
      (counts_passing premises.given counts within n (tree.BareSuper place) (λ xs. tree.Super place xs)
      (λ xs. passing_told n (tree.Super place xs) (tree.BareSuper place) xs (super_is place xs) (super_nests place xs) (bare_is place) (bare_nests place)))
  counts_behind n at (Passing name x value, seen) = counts_operated premises.given counts within n (whole (Passing name x value), seen)
  counts_behind n at (Whole x, seen) = counts_operated premises.given counts within n (x, seen)

  counts_from_postfix : (n : ℕ) → Counts Any (forms.from_postfix T within) g.goes_simple (unknown n) (told n) (statements.from_postfix effort.turns rec within)
  counts_from_postfix n =
      counts_here (simples.At premises T) g.goes_simple _
      (λ at. counts_bind (forms.behind T within at) g.goes_simple (statements.behind effort.turns rec within at) (told n)
      (exact_last _ (exact_postfix premises.given within true)
      (simples.postfix_real premises S premises.apart_s)
      (simples.postfix_real premises T premises.apart_t))
      (counts_last _ (counts_postfix premises.given counts within true n))
      (λ x. counts_behind n at x)
      (simples.behind_follows premises at))
      (simples.at_real premises T premises.apart_t)

  -- ---- jumps

  abbrev Value : Form Tree
  Value = simples.Value premises T

  abbrev BeginsValue : Test
  BeginsValue = simples.BeginsValue premises

  counts_leaving : (n : ℕ) (kind : TokenKind) (make : ℕ → Option Tree → Tree) → ((at : ℕ) (value : Option Tree) → told n (make at value) ≡ known (n + 1 + if_some nodes value) (max 1 (if_some part_height value)))
      → Counts Any (gr.leaving T within (look_of kind) make) g.goes_simple (unknown n) (told n) (statements.leaving effort.turns rec within (look_of kind) make)
  counts_leaving n kind make is =
      counts_grown (λ at. f.◌>>=◌ (maybe Value) (λ value. nothing (make at value))) g.goes_simple (λ (at : ℕ). at)
      (λ at. optional BeginsValue (part (operations.or effort.turns rec within true)) >>= λ value. pure (make at value)) (told n)
      (λ t at p. sym p.1) (exact_word effort kind never) (λ at b y rest d stop. never_stops (b ++ rest)) n
      (λ at. counts_bind_quiet (λ value. nothing (make at value)) g.goes_simple (λ value. pure (make at value)) (told n)
      (rises_optional Value (g.goes_or true) (part (operations.or effort.turns rec within true)) BeginsValue nodes part_height
      (λ w x rest c. simples.no_modifier_back premises w rest
      (simples.or_begins premises T w x c.1) c.0)
      (λ all height. counts_weaken (NextPasses BeginsValue) (passing_same BeginsValue) (counts_map Value (λ w x c. c.1) (rises_part nodes nesting (counts_or premises.given counts within true) all height)))
      (n + 1) 1)
      (λ value. counts_pure (make at value) g.goes_simple _ (told n) (is at value))
      (λ value. (still_pure (make at value)).lets)
      (λ value. follows_nothing (either BeginsValue (g.goes_or true)) g.goes_simple (make at value) (simples.value_less premises)))

  counts_breaking : (n : ℕ) → Counts Any (simples.Breaking premises) g.goes_simple (unknown n) (told n) (statements.breaking effort.turns rec within)
  counts_breaking n =
      counts_grown (λ at. nothing (tree.Break at)) g.goes_simple (λ (at : ℕ). at) (λ at. pure (tree.Break at)) (told n)
      (λ t at p. sym p.1) (exact_word effort (k.Plain l.Break) never) (λ at b y rest d stop. never_stops (b ++ rest)) n
      (λ at. counts_pure (tree.Break at) g.goes_simple (known (n + 1) 1) (told n) (known_is _ _ _ _ (let a = break_is at in omega (arith, a)) (break_nests at)))

  -- ---- a statement without modifier

  any_or : (n : ℕ) → Counts Any (ex.or T within true) g.goes_simple (unknown n) (told n) (operations.or effort.turns rec within true)
  any_or n = counts_goes g.goes_simple (λ rest stop. stops_less (g.goes_or true) g.goes_simple (simple_or true) rest stop) (counts_or premises.given counts within true n)

  simple_way : (n : ℕ) (look : TokenLook) → Way look (forms.simple_by T within look) g.goes_simple (unknown n) (told n) (statements.simple_by effort.turns rec within look)
  simple_way n l.Return = inl (counts_allowed (within.method && not within.block) _ g.goes_simple _ (counts_weaken (Looks l.Return) (looks_same l.Return)
      (counts_leaving n (k.Plain l.Return) (λ at value. tree.Return at value) (λ at value. maybe_told n (tree.Return at value) value (return_is at value) (return_nests at value)))))
  simple_way n l.Next = inl (counts_allowed (within.in_loop || within.block) _ g.goes_simple _ (counts_weaken (Looks l.Next) (looks_same l.Next)
      (counts_leaving n (k.Plain l.Next) (λ at value. tree.Next at value) (λ at value. maybe_told n (tree.Next at value) value (next_is at value) (next_nests at value)))))
  simple_way n l.Break = inl (counts_allowed within.in_loop _ g.goes_simple _ (counts_weaken (Looks l.Break) (looks_same l.Break) (counts_breaking n)))
  simple_way n l.Bang = inl (counts_weaken (Looks l.Bang) (looks_same l.Bang) (any_or n))
  simple_way n l.Minus = inl (counts_weaken (Looks l.Minus) (looks_same l.Minus) (any_or n))
  simple_way n first = inl (counts_weaken (Looks first) (looks_same first) (counts_from_postfix n))

  pub counts_simple : limits.Trees (gr.simple T within) g.goes_simple (statements.simple effort.turns rec within)
  counts_simple n = counts_map (gr.simple T within) (forms.simple_in T within premises.apart_t premises.t_settled) (counts_by (statements.simple_by effort.turns rec within) (forms.simple_by T within) g.goes_simple (simple_way n))

  -- ---- a statement

  abbrev Modified : ℕ → Tree → TokenLook → Bool → Form Tree
  Modified = simples.Modified premises T

  abbrev Tail : ℕ → Tree → Form Tree
  Tail = simples.Tail premises T

  counts_modified : (n at : ℕ) (x : Tree) (kind : TokenKind) (unless : Bool)
      → Counts Any (Modified at x (look_of kind) unless) g.goes_stmt (told n x) (told n) (statements.modified effort.turns rec within at x (look_of kind) unless)
  counts_modified n at x kind unless =
      let make : Tree → Tree = λ c. tree.If at unless c (x ∷ []) [] None in
      counts_wrapped (λ _. f.◌>>=◌ (gr.simple T within) (λ c. nothing (make c))) g.goes_stmt (λ (place : ℕ). place)
      (λ place. part (statements.simple effort.turns rec within) >>= λ c. pure (make c)) (told n)
      (λ t place p. sym p.1) (exact_word effort kind never) (λ place b y rest d stop. never_stops (b ++ rest)) (n + nodes x) (nesting x)
      (λ place. counts_bind_quiet (λ c. nothing (make c)) g.goes_stmt (λ c. pure (make c)) (told n)
      (rises_part nodes nesting counts_simple (n + nodes x + 1) (nesting x + 1))
      (λ c. counts_pure (make c) g.goes_stmt _ (told n) (modified_told n at unless c x))
      (λ c. (still_pure (make c)).lets)
      (λ c. follows_nothing g.goes_simple g.goes_stmt (make c) simples.stmt_simple))

  counts_tail : (n at : ℕ) (x : Tree) → Counts Any (Tail at x) g.goes_stmt (told n x) (told n)
      (choose (seen l.If) (statements.modified effort.turns rec within at x l.If false) (choose (seen l.Unless) (statements.modified effort.turns rec within at x l.Unless true) (pure x)))
  counts_tail n at x =
      counts_choose (seen l.If) (Modified at x l.If false) (Modified at x l.Unless true <|> nothing x) g.goes_stmt _ _
      (counts_weaken (NextPasses (seen l.If)) (passing_same (seen l.If)) (counts_modified n at x (k.Plain l.If) false))
      (counts_weaken (Failing (seen l.If)) (failing_same (seen l.If))
      (counts_choose (seen l.Unless) (Modified at x l.Unless true) (nothing x) g.goes_stmt _ _
      (counts_weaken (NextPasses (seen l.Unless)) (passing_same (seen l.Unless)) (counts_modified n at x (k.Plain l.Unless) true))
      (counts_weaken (Failing (seen l.Unless)) (failing_same (seen l.Unless)) (counts_pure x g.goes_stmt (told n x) (told n) refl))
      (λ w y rest c. led_seen l.Unless w rest (simples.modified_led premises at x l.Unless true w y c))
      (λ w y rest d stop. rw d.0 (stops_less (seen l.Unless) g.goes_stmt (λ look spaced e. (simples.stmt_modifier look spaced e).1) rest stop))))
      (λ w y rest c. led_seen l.If w rest (simples.modified_led premises at x l.If false w y c))
      (simples.no_if premises at x)

  pub counts_stmt : limits.Trees (gr.stmt T within) g.goes_stmt (statements.stmt effort.turns rec within)
  counts_stmt n =
      counts_map (gr.stmt T within) (simples.stmt_in premises)
      (counts_here (simples.Whole_at premises T) g.goes_stmt _
      (λ at. counts_bind (Tail at) g.goes_stmt _ (told n) (simples.exact_simple premises) (counts_simple n) (λ x. counts_tail n at x) (simples.tail_follows premises at))
      (simples.whole_real premises T premises.apart_t premises.t_settled))
