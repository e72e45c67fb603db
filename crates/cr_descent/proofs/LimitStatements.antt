-- What is counted behind an operand that begins a statement.
use Rattle.std.proofs.Common.{◌≡◌, ℕ, ◌+◌, ◌<◌, max, true, false, List, [], ◌++◌, map, Option, Some, None, refl, sym, arith}
use Rattle.std.proofs.lemmas.List.Sums.{sum_by-append}
use Rattle.std.specs.Prelude.{sum}
use Rattle.cr_syntax.specs.declared.look.TokenLook.{TokenLook}
use Rattle.cr_syntax.specs.declared.look.TokenLook.TheVariants as l
use Rattle.cr_grammar.specs.declared.operator.Assignment.{Assignment}
use Rattle.cr_grammar.specs.declared.operator.Assignment.TheVariants as assignments
use Rattle.cr_grammar.specs.declared.tree.Tree.{Tree, the_lemmas}
use Rattle.cr_grammar.specs.declared.tree.Tree.TheVariants as tree
use Rattle.cr_grammar.specs.declared.within.Within.{Within}
use Rattle.cr_grammar.specs.Count.{nodes, nesting}
use Rattle.cr_grammar.specs.declared.word.Word.{Word}
use Rattle.cr_grammar.specs.Forms.{Form, nothing, maybe, listed}
use Rattle.cr_grammar.specs.Forms as f
use Rattle.cr_grammar.specs.declared.wanted.Wanted.{Wanted}
use Rattle.cr_grammar.specs.declared.wanted.Wanted.TheVariants.{Or, Simple}
use Rattle.cr_grammar.specs.Expressions as ex
use Rattle.cr_readers.specs.Reader.{Reader, seen, either, never, part, pure, ◌>>=◌}
use Rattle.cr_readers.specs.Lists.{optional}
use Rattle.cr_exact.specs.Exact.{Effort, Any}
use Rattle.cr_exact.specs.Limits.{known, Counts, tall, size_of_all, top_of_all, if_some}
use Rattle.cr_readers.specs.Goes as g
use Rattle.cr_readers.specs.Bodies.{doblock}
use Rattle.cr_readers.specs.Statements as statements
use Rattle.cr_exact.proofs.TokenTests.{never_stops, stops_less}
use Rattle.cr_exact.proofs.Tokens.{Passing}
use Rattle.cr_exact.proofs.Heads.{led_seen}
use Rattle.cr_exact.proofs.Follows.{follows_nothing}
use Rattle.cr_exact.proofs.Nodes.{exact_part}
use Rattle.cr_exact.proofs.Limits.{counts_bind, counts_bind_quiet, counts_pure, counts_goes, counts_weaken, still_pure}
use Rattle.cr_exact.proofs.LimitSteps.{counts_wrapped}
use Rattle.cr_exact.proofs.LimitChoices.{passing_same}
use Rattle.cr_exact.proofs.LimitParts.{tall_append, known_is, rises_part, rises_optional}
use Rattle.cr_exact.proofs.LimitLists.{rises_listed_parts}
use Rattle.cr_descent.proofs.Claims as claims
use Rattle.cr_descent.proofs.LimitClaims as limits
use Rattle.cr_descent.proofs.LimitBodies.{counts_doblock}
use Rattle.cr_descent.proofs.LimitOperations.{counts_or_from}
use Rattle.cr_descent.proofs.StatementForms as forms
use Rattle.cr_descent.proofs.Statements.{simple_or, simple_word, exact_assigning, exact_arguments, comma_apart, block_led, follows_block, arguments_less}
use Rattle.cr_descent.proofs.LimitTable.{part_height}
use Rattle.cr_descent.proofs.LimitNodes.{told, parts_high, held, held_sum, held_high, call_nodes, call_nesting}
use Rattle.cr_descent.proofs.Bodies.{or_fails}

-- ---- the nodes of calls and assignments

abbrev call : Option Tree → ℕ → List ℕ → List Tree → Option Tree → Tree
call receiver at name arguments block = tree.Call at receiver name arguments block

-- a call part by part, and as a whole
call_is : (receiver : Option Tree) (at : ℕ) (name : List ℕ) (arguments : List Tree) (block : Option Tree)
    → nodes (call receiver at name arguments block) ≡ nodes (call receiver at name [] None) + size_of_all nodes arguments + if_some nodes block
call_is receiver at name arguments block =
    let whole = call_nodes at receiver name arguments block in
    let bare = call_nodes at receiver name [] None in
    let a = sum_by-append (λ n. n) (held nodes receiver ++ map nodes arguments) (held nodes block) in
    let b = sum_by-append (λ n. n) (held nodes receiver) (map nodes arguments) in
    let c = held_sum block in
    let d = sum_by-append (λ n. n) (held nodes receiver ++ []) [] in
    let e = sum_by-append (λ n. n) (held nodes receiver) [] in
    omega (arith, whole, bare, a, b, c, d, e)

call_nests : (receiver : Option Tree) (at : ℕ) (name : List ℕ) (arguments : List Tree) (block : Option Tree)
    → nesting (call receiver at name arguments block) ≡ max (max (nesting (call receiver at name [] None)) (top_of_all part_height arguments)) (if_some part_height block)
call_nests receiver at name arguments block =
    let whole = call_nesting at receiver name arguments block in
    let bare = call_nesting at receiver name [] None in
    let a = tall_append (held nesting receiver ++ map nesting arguments) (held nesting block) in
    let b = tall_append (held nesting receiver) (map nesting arguments) in
    let d = tall_append (held nesting receiver ++ []) [] in
    let i = tall_append (held nesting receiver) [] in
    let height = nesting (call receiver at name [] None) in
    let some : 0 < height = omega (arith, bare) in
    let e = parts_high height arguments some in
    let h = held_high (max height (top_of_all part_height arguments)) block (omega (arith, some)) in
    omega (arith, whole, bare, a, b, d, e, h, i)

assign_is : (at : ℕ) (target : Tree) (operator : Assignment) (operator_at : ℕ) (value : Tree)
    → nodes (tree.Assign at target operator operator_at value) ≡ 1 + nodes target + nodes value
assign_is at target operator operator_at value = grind (arith, the_lemmas)

assign_nests : (at : ℕ) (target : Tree) (operator : Assignment) (operator_at : ℕ) (value : Tree)
    → nesting (tree.Assign at target operator operator_at value) ≡ 1 + max (nesting target) (nesting value)
assign_nests at target operator operator_at value = grind (arith, the_lemmas)

pub yield_is : (at : ℕ) (arguments : List Tree) → nodes (tree.Yield at arguments) ≡ 1 + sum (map nodes arguments)
yield_is at arguments = search the_lemmas

pub yield_nests : (at : ℕ) (arguments : List Tree) → nesting (tree.Yield at arguments) ≡ 1 + tall (map nesting arguments)
yield_nests at arguments = search the_lemmas

pub super_is : (at : ℕ) (arguments : List Tree) → nodes (tree.Super at arguments) ≡ 1 + sum (map nodes arguments)
super_is at arguments = search the_lemmas

pub super_nests : (at : ℕ) (arguments : List Tree) → nesting (tree.Super at arguments) ≡ 1 + tall (map nesting arguments)
super_nests at arguments = search the_lemmas

pub bare_is : (at : ℕ) → nodes (tree.BareSuper at) ≡ 1
bare_is at = grind (arith, the_lemmas)

pub bare_nests : (at : ℕ) → nesting (tree.BareSuper at) ≡ 1
bare_nests at = grind (arith, the_lemmas)

-- ---- what is counted with a statement, on top of so many nodes

assign_told : (n : ℕ) (at : ℕ) (target : Tree) (operator : Assignment) (operator_at : ℕ) (value : Tree)
    → told n (tree.Assign at target operator operator_at value) ≡ known (n + nodes target + 1 + nodes value) (max (nesting target + 1) (nesting value + 1))
assign_told n at target operator operator_at value =
    let a = assign_is at target operator operator_at value in
    let b = assign_nests at target operator operator_at value in
    known_is _ _ _ _ (omega (arith, a)) (omega (arith, b))

call_told : (n : ℕ) (receiver : Option Tree) (at : ℕ) (name : List ℕ) (arguments : List Tree) (block : Option Tree)
    → told n (call receiver at name arguments block)
    ≡ known (n + nodes (call receiver at name [] None) + size_of_all nodes arguments + if_some nodes block)
    (max (max (nesting (call receiver at name [] None)) (top_of_all part_height arguments)) (if_some part_height block))
call_told n receiver at name arguments block =
    let a = call_is receiver at name arguments block in
    known_is _ _ _ _ (omega (arith, a)) (call_nests receiver at name arguments block)

-- a node with arguments alone, which stands for a bare word
pub passing_told : (n : ℕ) (x bare : Tree) (arguments : List Tree) → nodes x ≡ 1 + sum (map nodes arguments) → nesting x ≡ 1 + tall (map nesting arguments) → nodes bare ≡ 1 → nesting bare ≡ 1
    → told n x ≡ known (n + nodes bare + size_of_all nodes arguments) (max (nesting bare) (top_of_all part_height arguments))
passing_told n x bare arguments many high one flat =
    let a = parts_high (nesting bare) arguments (omega (arith, flat)) in
    known_is _ _ _ _ (omega (arith, many, one)) (omega (arith, high, flat, a))

-- ---- what follows an operand

module _ {effort : Effort} {rec : Wanted → Reader Tree} {S T : Wanted → Form Tree} (given : claims.Given effort rec S T) (counts : limits.GivenCounts rec T) (within : Within) where
  pub counts_assignment : (n : ℕ) (at : ℕ) (target : Tree) (table : TokenLook → Option Assignment) → table l.Equal ≡ Some assignments.Plain
      → Counts Any (forms.assigned_rest T within at target table) g.goes_simple (told n target) (told n) (statements.assignment effort.turns rec within at target table)
  counts_assignment n at target table equal =
      let make : ℕ × Assignment → Tree → Tree = λ found value. tree.Assign at target found.1 found.0 value in
      counts_wrapped (λ found. f.◌>>=◌ (T (Simple within)) (λ value. nothing (make found value))) g.goes_simple (λ (found : ℕ × Assignment). found.0)
      (λ found. part (rec (Simple within)) >>= λ value. pure (make found value)) (told n)
      (λ t found p. sym p.1) (exact_assigning effort table equal never) (λ found b y rest d stop. never_stops (b ++ rest))
      (n + nodes target) (nesting target)
      (λ found. counts_bind_quiet (λ value. nothing (make found value)) g.goes_simple (λ value. pure (make found value)) (told n)
      (rises_part nodes nesting (counts.simple within) (n + nodes target + 1) (nesting target + 1))
      (λ value. counts_pure (make found value) g.goes_simple _ (told n) (assign_told n at target found.1 found.0 value))
      (λ value. (still_pure (make found value)).lets)
      (λ value b y rest d stop. rw d.0 stop))

  -- args
  counts_arguments : (n height : ℕ) → Counts Any (listed (T (Or within false))) (either (seen l.Comma) (g.goes_or false)) (known n height)
      (λ xs. known (n + size_of_all nodes xs) (max height (top_of_all part_height xs))) (statements.bare_arguments effort.turns rec within)
  counts_arguments n height =
      let some = given.some (Or within false) in
      rises_listed_parts effort (S (Or within false)) (T (Or within false)) (g.goes_or false) (part (rec (Or within false))) (exact_part _ (given.exact (Or within false)))
      (or_fails given within false l.Newline refl) some.0 some.1 some.2 comma_apart nodes part_height (rises_part nodes nesting (counts.or within false)) n height

  -- args [ doblock ]
  pub counts_command : (n : ℕ) (receiver : Option Tree) (name : Word)
      → Counts Any (forms.command_rest T within (forms.call_of T within receiver name)) g.goes_simple (told n (call receiver name.at name.text [] None)) (told n)
      (statements.command effort.turns rec within (forms.call_of T within receiver name))
  counts_command n receiver name =
      let make : List Tree → Option Tree → Tree = forms.call_of T within receiver name in
      let bare = call receiver name.at name.text [] None in
      counts_bind (λ xs. f.◌>>=◌ (maybe (ex.doblock T within)) (λ b. nothing (make xs b))) g.goes_simple
      (λ xs. optional (seen l.Do) (doblock effort.turns rec within) >>= λ b. pure (make xs b)) (told n)
      (exact_arguments given within) (counts_arguments (n + nodes bare) (nesting bare))
      (λ xs. counts_bind_quiet (λ b. nothing (make xs b)) g.goes_simple (λ b. pure (make xs b)) (told n)
      (rises_optional (ex.doblock T within) never (doblock effort.turns rec within) (seen l.Do) nodes part_height
      (λ w x rest c. led_seen l.Do w rest (block_led given within w x c))
      (λ all height. counts_weaken (Passing (seen l.Do)) (passing_same (seen l.Do)) (counts_doblock given counts within all height))
      (n + nodes bare + size_of_all nodes xs) (max (nesting bare) (top_of_all part_height xs)))
      (λ b. counts_pure (make xs b) g.goes_simple _ (told n) (call_told n receiver name.at name.text xs b))
      (λ b. (still_pure (make xs b)).lets)
      (λ b. follows_nothing (either (seen l.Do) never) g.goes_simple (make xs b) (λ look spaced e. rw ((simple_word look spaced e).0) refl)))
      (λ xs. follows_block given within (make xs))

  -- args, behind a bare word
  pub counts_passing : (n : ℕ) (bare : Tree) (make : List Tree → Tree) → ((xs : List Tree) → told n (make xs) ≡ known (n + nodes bare + size_of_all nodes xs) (max (nesting bare) (top_of_all part_height xs)))
      → Counts Any (forms.passing_rest T within make) g.goes_simple (told n bare) (told n) (statements.passing_on effort.turns rec within make)
  counts_passing n bare make is =
      counts_bind_quiet (λ xs. nothing (make xs)) g.goes_simple (λ xs. pure (make xs)) (told n)
      (counts_arguments (n + nodes bare) (nesting bare))
      (λ xs. counts_pure (make xs) g.goes_simple _ (told n) (is xs))
      (λ xs. (still_pure (make xs)).lets)
      (λ xs. follows_nothing (either (seen l.Comma) (g.goes_or false)) g.goes_simple (make xs) (arguments_less given within))

  pub counts_operated : (n : ℕ) (x : Tree × TokenLook) → Counts Any (forms.operated T within x) g.goes_simple (told n x.0) (told n) (statements.operation_behind effort.turns rec within x)
  counts_operated n x =
      counts_bind_quiet (λ (y : Tree × TokenLook). nothing y.0) g.goes_simple (λ (y : Tree × TokenLook). pure y.0) (told n)
      (counts_goes g.goes_simple (λ rest stop. stops_less (g.goes_or true) g.goes_simple (simple_or true) rest stop) (counts_or_from given counts within true x n))
      (λ y. counts_pure y.0 g.goes_simple _ (told n) refl)
      (λ y. (still_pure y.0).lets)
      (λ y. follows_nothing g.goes_simple g.goes_simple y.0 (λ look spaced e. e))
