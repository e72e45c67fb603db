-- What is counted in a postfix, and in a clause of `select`.
use Rattle.std.proofs.Common.{◌≡◌, ℕ, ◌+◌, max, Bool, true, false, List, ◌∷◌, ◌++◌, map, inl, inr, refl, sym, ap, subst, ◌∙◌, arith}
use Rattle.std.proofs.lemmas.List.Sums.{sum_by-cons, sum_by-append}
use Rattle.std.specs.Prelude.{sum, Option, Some, None, is_some}
use Rattle.std.specs.Str.{bytes_eq}
use Rattle.cr_syntax.specs.declared.look.TokenLook.{TokenLook}
use Rattle.cr_syntax.specs.declared.look.TokenLook.TheVariants as l
use Rattle.cr_syntax.specs.declared.token.TokenKind.TheVariants as k
use Rattle.cr_grammar.specs.declared.tree.Tree.{Tree, the_lemmas}
use Rattle.cr_grammar.specs.declared.tree.Tree.TheVariants as tree
use Rattle.cr_grammar.specs.declared.within.Within.{Within}
use Rattle.cr_grammar.specs.Count.{nodes, nesting}
use Rattle.cr_grammar.specs.declared.word.Word.{Word}
use Rattle.cr_grammar.specs.Forms.{Form, nothing, ◌<|>◌, maybe, tight, word, seps, parenthesized}
use Rattle.cr_grammar.specs.Forms as f
use Rattle.cr_grammar.specs.Laws.{begins_type, begins_or}
use Rattle.cr_grammar.specs.Operators as names
use Rattle.cr_grammar.specs.declared.wanted.Wanted.{Wanted}
use Rattle.cr_grammar.specs.declared.wanted.Wanted.TheVariants.{Written, Or}
use Rattle.cr_grammar.specs.Expressions as ex
use Rattle.cr_readers.specs.Reader.{Reader, Test, seen, tight_seen, never, expect, choose, only, by_look, repeated, part, pure, ◌>>=◌, ◌>>◌}
use Rattle.cr_readers.specs.Lists.{optional, separators}
use Rattle.cr_readers.specs.Lists as lists
use Rattle.cr_exact.specs.Exact.{Effort, Any}
use Rattle.cr_exact.specs.Limits.{Tally, known, Counts, Still, Rises, tall, size_of_all, top_of_all, if_some}
use Rattle.cr_readers.specs.Goes as g
use Rattle.cr_readers.specs.Bodies as bodies
use Rattle.cr_readers.specs.declared.operand.Operand.{Operand}
use Rattle.cr_readers.specs.declared.operand.Operand.TheVariants.{Name, Field, Passing, Whole}
use Rattle.cr_readers.specs.Operand.{whole, linked, indexed}
use Rattle.cr_readers.specs.Links as links
use Rattle.cr_readers.specs.Primaries.{listed_of}
use Rattle.cr_exact.proofs.TokenTests.{never_stops, not_seen, look_apart, stops_less}
use Rattle.cr_exact.proofs.Tokens.{Passing as Passes, Failing, by_first, exact_word}
use Rattle.cr_exact.proofs.Forms.{made_in}
use Rattle.cr_exact.proofs.Heads.{Fails, led_seen, first_tested, led, first_bind, led_first}
use Rattle.cr_exact.proofs.Follows.{follows_bind, follows_ahead, follows_nothing}
use Rattle.cr_exact.proofs.Nodes.{exact_part}
use Rattle.cr_exact.proofs.Lists.{exact_separators}
use Rattle.cr_exact.proofs.Limits.{counts_bind, counts_bind_quiet, counts_still_then, counts_pure, counts_silent, counts_weaken, counts_map, counts_goes, still_pure, still_bind, still_choose}
use Rattle.cr_exact.proofs.LimitSteps.{counts_wrapped}
use Rattle.cr_exact.proofs.LimitChoices.{Way, passing_same, failing_same, looks_same, counts_choose, counts_only, counts_by, counts_allowed, counts_refuse}
use Rattle.cr_exact.proofs.LimitLoops.{counts_repeated}
use Rattle.cr_exact.proofs.LimitParts.{tall_cons, tall_append, known_is, rises_part}
use Rattle.cr_exact.proofs.LimitLists.{still_word, still_separators, still_optional, counts_parenthesized, counts_tight}
use Rattle.cr_descent.proofs.Words.{exact_ident}
use Rattle.cr_descent.proofs.Claims as claims
use Rattle.cr_descent.proofs.Operands as operands
use Rattle.cr_descent.proofs.PostfixForms.{whole_linked, whole_indexed, tree_postfix}
use Rattle.cr_descent.proofs.OperandForms.{is_receive}
use Rattle.cr_descent.proofs.Bodies.{exact_then, exact_arguments, block_less, parenthesis_less}
use Rattle.cr_descent.proofs.Primaries.{exact_primary}
use Rattle.cr_descent.proofs.Links as exact
use Rattle.cr_descent.proofs.Clauses as clauses
use Rattle.cr_descent.proofs.Links.{exact_postfix}
use Rattle.cr_descent.proofs.LimitClaims as limits
use Rattle.cr_descent.proofs.LimitTable as table
use Rattle.cr_descent.proofs.LimitTable.{part_height}
use Rattle.cr_descent.proofs.LimitBodies.{counts_body, counts_maybe_block, counts_plain, counts_inside, counts_arguments}
use Rattle.cr_descent.proofs.LimitPrimaries.{counts_primary}
use Rattle.cr_descent.proofs.LimitNodes.{told as tree_told, parts_high, held, held_sum, held_high, call_nodes, call_nesting}
use Rattle.cr_descent.proofs.LimitClasses.{listed_are, listed_nest}

-- ---- the nodes of links and of clauses

isa_is : (at : ℕ) (x of : Tree) → nodes (tree.IsA at x of) ≡ 1 + (nodes x + nodes of)
isa_is at x of = grind (arith, the_lemmas)

isa_nests : (at : ℕ) (x of : Tree) → nesting (tree.IsA at x of) ≡ 1 + max (nesting x) (nesting of)
isa_nests at x of = grind (arith, the_lemmas)

isnil_is : (at : ℕ) (x : Tree) → nodes (tree.IsNil at x) ≡ 1 + nodes x
isnil_is at x = grind (arith, the_lemmas)

isnil_nests : (at : ℕ) (x : Tree) → nesting (tree.IsNil at x) ≡ 1 + nesting x
isnil_nests at x = grind (arith, the_lemmas)

spawn_is : (at : ℕ) (x : Tree) (body : List Tree) → nodes (tree.Spawn at (Some x) body) ≡ 1 + sum (nodes x ∷ map nodes body)
spawn_is at x body = search the_lemmas

spawn_nests : (at : ℕ) (x : Tree) (body : List Tree) → nesting (tree.Spawn at (Some x) body) ≡ 1 + tall (nesting x ∷ map nesting body)
spawn_nests at x body = search the_lemmas

index_is : (at : ℕ) (x : Tree) (arguments : List Tree) (question : Bool) → nodes (tree.Index at x arguments question) ≡ 1 + sum (nodes x ∷ map nodes arguments)
index_is at x arguments question = search the_lemmas

index_nests : (at : ℕ) (x : Tree) (arguments : List Tree) (question : Bool) → nesting (tree.Index at x arguments question) ≡ 1 + tall (nesting x ∷ map nesting arguments)
index_nests at x arguments question = search the_lemmas

nothing_on : (n : ℕ) → 0 + n ≡ n
nothing_on n = omega arith

when_into_is : (at : ℕ) (target operation : Tree) (body : List Tree) → nodes (tree.When at (Some target) operation body) ≡ 0 + sum (nodes target ∷ (nodes operation ∷ map nodes body))
when_into_is at target operation body = search the_lemmas

when_into_nests : (at : ℕ) (target operation : Tree) (body : List Tree) → nesting (tree.When at (Some target) operation body) ≡ 0 + tall (nesting target ∷ (nesting operation ∷ map nesting body))
when_into_nests at target operation body = search the_lemmas

when_is : (at : ℕ) (target : Option Tree) (operation : Tree) (body : List Tree) → nodes (tree.When at target operation body) ≡ sum (held nodes target ++ (nodes operation ∷ map nodes body))
when_is at None operation body = grind (arith, the_lemmas)
when_is at (Some target) operation body = when_into_is at target operation body ∙ nothing_on _

when_nests : (at : ℕ) (target : Option Tree) (operation : Tree) (body : List Tree) → nesting (tree.When at target operation body) ≡ tall (held nesting target ++ (nesting operation ∷ map nesting body))
when_nests at None operation body = grind (arith, the_lemmas)
when_nests at (Some target) operation body = when_into_nests at target operation body ∙ nothing_on _

-- ---- what is counted of an operand, on top of so many nodes

abbrev told : ℕ → Operand → Tally
told n z = known (n + nodes (whole z)) (nesting (whole z))

linked_told : (n : ℕ) (x : Tree) (name : Word) (arguments : Option (List Tree)) (block : Option Tree)
    → told n (linked x name arguments block)
    ≡ known (n + nodes x + 1 + if_some (size_of_all nodes) arguments + if_some nodes block) (max (max (nesting x + 1) (if_some (top_of_all part_height) arguments)) (if_some part_height block))
linked_told n x name arguments block =
    let listed = listed_of arguments in
    let a = call_nodes name.at (Some x) name.text listed block in
    let b = sum_by-cons (λ n. n) (nodes x) (map nodes listed ++ held nodes block) in
    let c = sum_by-append (λ n. n) (map nodes listed) (held nodes block) in
    let d = listed_are arguments in
    let e = held_sum block in
    let a' = call_nesting name.at (Some x) name.text listed block in
    let b' = tall_cons (nesting x) (map nesting listed ++ held nesting block) in
    let c' = tall_append (map nesting listed) (held nesting block) in
    let d' = listed_nest arguments in
    let h' = parts_high (nesting x + 1) listed (omega arith) in
    let e' = held_high (nesting x + 1) block (omega arith) in
    ap (λ v. tree_told n v) (whole_linked x name arguments block)
    ∙ known_is _ _ _ _ (omega (arith, a, b, c, d, e)) (omega (arith, a', b', c', d', e', h'))

indexed_told : (n at : ℕ) (x : Tree) (arguments : List Tree) (question : Option ℕ)
    → told n (indexed at x arguments question) ≡ known (n + nodes x + 1 + size_of_all nodes arguments) (max (nesting x + 1) (top_of_all part_height arguments))
indexed_told n at x arguments question =
    let a = index_is at x arguments (is_some question) in
    let b = sum_by-cons (λ n. n) (nodes x) (map nodes arguments) in
    let a' = index_nests at x arguments (is_some question) in
    let b' = tall_cons (nesting x) (map nesting arguments) in
    let c' = parts_high (nesting x + 1) arguments (omega arith) in
    ap (λ v. tree_told n v) (whole_indexed at x arguments question)
    ∙ known_is _ _ _ _ (omega (arith, a, b)) (omega (arith, a', b', c'))

spawned_told : (n at : ℕ) (x : Tree) (body : List Tree)
    → tree_told n (tree.Spawn at (Some x) body) ≡ known (n + nodes x + 1 + size_of_all nodes body) (max (nesting x + 1) (top_of_all part_height body))
spawned_told n at x body =
    let a = spawn_is at x body in
    let b = sum_by-cons (λ n. n) (nodes x) (map nodes body) in
    let a' = spawn_nests at x body in
    let b' = tall_cons (nesting x) (map nesting body) in
    let c' = parts_high (nesting x + 1) body (omega arith) in
    known_is _ _ _ _ (omega (arith, a, b)) (omega (arith, a', b', c'))

asked_told : (n at : ℕ) (x of : Tree) → tree_told n (tree.IsA at x of) ≡ known (n + nodes x + 1 + nodes of) (max (nesting x + 1) (nesting of + 1))
asked_told n at x of =
    let a = isa_is at x of in
    let b = isa_nests at x of in
    known_is _ _ _ _ (omega (arith, a)) (omega (arith, b))

asked_nil_told : (n at : ℕ) (x : Tree) → tree_told n (tree.IsNil at x) ≡ known (n + nodes x + 1) (nesting x + 1)
asked_nil_told n at x =
    let a = isnil_is at x in
    let b = isnil_nests at x in
    known_is _ _ _ _ (omega (arith, a)) (omega (arith, b))

-- A clause is no node: its parts are parts of the `select`.
when_told : (n height at : ℕ) (target : Option Tree) (operation : Tree) (body : List Tree)
    → known (n + nodes (tree.When at target operation body)) (max height (part_height (tree.When at target operation body)))
    ≡ known (n + if_some nodes target + nodes operation + size_of_all nodes body)
    (max (max (max height (if_some part_height target)) (part_height operation)) (top_of_all part_height body))
when_told n height at target operation body =
    let a = when_is at target operation body in
    let b = sum_by-append (λ n. n) (held nodes target) (nodes operation ∷ map nodes body) in
    let c = sum_by-cons (λ n. n) (nodes operation) (map nodes body) in
    let d = held_sum target in
    let a' = when_nests at target operation body in
    let b' = tall_append (held nesting target) (nesting operation ∷ map nesting body) in
    let c' = tall_cons (nesting operation) (map nesting body) in
    let d' = held_high (max height (part_height operation)) target (omega arith) in
    let e' = parts_high (max (max height (if_some part_height target)) (part_height operation)) body (omega arith) in
    known_is _ _ _ _ (omega (arith, a, b, c, d)) (omega (arith, a', b', c', d', e'))

module _ {effort : Effort} {rec : Wanted → Reader Tree} {S T : Wanted → Form Tree} (given : claims.Given effort rec S T) (counts : limits.GivenCounts rec T) where
  module _ (within : Within) (free : Bool) where
    abbrev turns : ℕ
    turns = effort.turns

    abbrev goes : Test
    goes = g.goes_primary free

    -- ---- each link behind its first token

    module _ (x : Tree) (n : ℕ) where
      counts_called : Counts Any (exact.called T within free x) goes (tree_told n x) (told n) (links.called turns rec within free x)
      counts_called =
          counts_wrapped (exact.with_arguments T within free x) goes (λ (name : Word). name.at)
          (λ name. bodies.arguments turns rec within >>= λ arguments. bodies.maybe_block turns rec within free >>= λ block. pure (linked x name arguments block)) (told n)
          (λ t name e. sym e.1) (exact_ident effort never) (λ name b y rest d stop. never_stops (b ++ rest)) (n + nodes x) (nesting x)
          (λ name. counts_bind (exact.with_block T within free x name) goes (λ arguments. bodies.maybe_block turns rec within free >>= λ block. pure (linked x name arguments block)) (told n)
          (exact_arguments given within free) (counts_arguments given counts within free (n + nodes x + 1) (nesting x + 1))
          (λ arguments. counts_bind_quiet (λ block. nothing (linked x name arguments block)) goes (λ block. pure (linked x name arguments block)) (told n)
          (counts_maybe_block given counts within free (n + nodes x + 1 + if_some (size_of_all nodes) arguments) (max (nesting x + 1) (if_some (top_of_all part_height) arguments)))
          (λ block. counts_pure (linked x name arguments block) goes _ (told n) (linked_told n x name arguments block))
          (λ block. (still_pure (linked x name arguments block)).lets)
          (λ block. follows_nothing (g.begins_block free) goes (linked x name arguments block) (block_less turns rec free)))
          (λ arguments. follows_bind (tight_seen l.OpenParenthesis) goes (maybe (ex.block T within free)) (λ block. nothing (linked x name arguments block))
          (exact.block_follows given within free)
          (λ block. follows_nothing (tight_seen l.OpenParenthesis) goes (linked x name arguments block) (parenthesis_less free))))

      counts_asked : Counts Any (exact.asked T within free x) goes (tree_told n x) (told n) (links.asked turns rec within free x)
      counts_asked =
          counts_wrapped (exact.asked_of T within free x) goes (λ at. at)
          (λ at. only (tight_seen l.OpenParenthesis) (lists.parenthesized turns (part (rec (Written false)))) >>= λ of. pure (Whole (tree.IsA at x of))) (told n)
          (λ t at e. sym e.1) (exact_word effort (k.Plain l.IsA) never) (λ at b y rest d stop. never_stops (b ++ rest)) (n + nodes x) (nesting x)
          (λ at. counts_bind_quiet (λ of. nothing (Whole (tree.IsA at x of))) goes (λ of. pure (Whole (tree.IsA at x of))) (told n)
          (counts_only (tight_seen l.OpenParenthesis) (lists.parenthesized turns (part (rec (Written false))))
          (counts_tight l.OpenParenthesis
          (counts_parenthesized effort (S (Written false)) (T (Written false)) g.goes_type (part (rec (Written false)))
          (exact_part (rec (Written false)) (given.exact (Written false)))
          (first_tested false begins_type (seen l.Newline) (T (Written false)) (look_apart begins_type l.Newline refl) (given.type_begins false))
          (λ spaced. refl) (λ spaced. refl)
          (known (n + nodes x + 1) (nesting x + 1)) (λ of. known (n + nodes x + 1 + nodes of) (max (nesting x + 1) (nesting of + 1)))
          (rises_part nodes nesting (counts.written false) (n + nodes x + 1) (nesting x + 1)))))
          (λ of. counts_pure (Whole (tree.IsA at x of)) goes _ (told n) (asked_told n at x of))
          (λ of. (still_pure (Whole (tree.IsA at x of))).lets)
          (λ of b y rest d stop. never_stops (b ++ rest)))

      counts_asked_nil : Counts Any (exact.asked_nil T within free x) goes (tree_told n x) (told n) (links.asked_nil turns rec within free x)
      counts_asked_nil =
          counts_wrapped (λ at. nothing (Whole (tree.IsNil at x))) goes (λ at. at) (λ at. pure (Whole (tree.IsNil at x))) (told n)
          (λ t at e. sym e.1) (exact_word effort (k.Plain l.IsNil) never) (λ at b y rest d stop. never_stops (b ++ rest)) (n + nodes x) (nesting x)
          (λ at. counts_pure (Whole (tree.IsNil at x)) goes (known (n + nodes x + 1) (nesting x + 1)) (told n) (asked_nil_told n at x))

      counts_spawned_in : Counts Any (exact.spawned_in T within free x) goes (tree_told n x) (told n) (links.spawned_in turns rec within free x)
      counts_spawned_in =
          counts_wrapped (exact.spawned_of T within free x) goes (λ at. at) (λ at. bodies.plain turns rec within free >>= λ body. pure (Whole (tree.Spawn at (Some x) body))) (told n)
          (λ t at e. sym e.1) (exact_word effort (k.Plain l.Spawn) never) (λ at b y rest d stop. never_stops (b ++ rest)) (n + nodes x) (nesting x)
          (λ at. counts_bind_quiet (λ body. nothing (Whole (tree.Spawn at (Some x) body))) goes (λ body. pure (Whole (tree.Spawn at (Some x) body))) (told n)
          (counts_plain given counts within free (n + nodes x + 1) (nesting x + 1))
          (λ body. counts_pure (Whole (tree.Spawn at (Some x) body)) goes _ (told n) (spawned_told n at x body))
          (λ body. (still_pure (Whole (tree.Spawn at (Some x) body))).lets)
          (λ body b y rest d stop. never_stops (b ++ rest)))

      -- what closes an index, and maybe a `?`
      abbrev asking : ℕ → List Tree → Reader Operand
      asking at arguments = optional (tight_seen l.Question) (expect l.Question) >>= λ question. pure (indexed at x arguments question)

      abbrev closing : ℕ → List Tree → Reader Operand
      closing at arguments = separators turns >> (expect l.CloseBracket >> asking at arguments)

      still_asking : (at : ℕ) (arguments : List Tree) → Still (asking at arguments)
      still_asking at arguments = still_bind (still_optional (tight_seen l.Question) (still_word l.Question)) (λ question. still_pure (indexed at x arguments question))

      still_closing : (at : ℕ) (arguments : List Tree) → Still (closing at arguments)
      still_closing at arguments = still_bind (still_separators turns) (λ u. still_bind (still_word l.CloseBracket) (λ at'. still_asking at arguments))

      abbrev indices_told : List Tree → Tally
      indices_told arguments = known (n + nodes x + 1 + size_of_all nodes arguments) (max (nesting x + 1) (top_of_all part_height arguments))

      counts_closing : (at : ℕ) (arguments : List Tree) → Counts Any (f.◌>>◌ seps (exact.closed T within free x at arguments)) goes (indices_told arguments) (told n) (closing at arguments)
      counts_closing at arguments =
          counts_still_then seps (λ _. exact.closed T within free x at arguments) goes (λ _. expect l.CloseBracket >> asking at arguments) (indices_told arguments) (told n) (still_separators turns)
          (λ _. counts_still_then (word l.CloseBracket) (λ _. exact.question_of T within free x at arguments) goes (λ _. asking at arguments) (indices_told arguments) (told n) (still_word l.CloseBracket)
          (λ _. counts_still_then (maybe (tight (word l.Question))) (λ question. nothing (indexed at x arguments question)) goes (λ question. pure (indexed at x arguments question))
          (indices_told arguments) (told n) (still_optional (tight_seen l.Question) (still_word l.Question))
          (λ question. counts_pure (indexed at x arguments question) goes (indices_told arguments) (told n) (indexed_told n at x arguments question))
          (λ question. (still_pure (indexed at x arguments question)).lets))
          (λ _. (still_asking at arguments).lets))
          (λ _. (still_bind (still_word l.CloseBracket) (λ at'. still_asking at arguments)).lets)

      counts_index : Counts Any (exact.at_index T within free x) goes (tree_told n x) (told n) (links.at_index turns rec within free x)
      counts_index =
          counts_wrapped (λ at. f.◌>>◌ seps (exact.indices_of T within free x at)) goes (λ at. at) (λ at. separators turns >> (bodies.inside turns rec within >>= closing at)) (told n)
          (λ t at e. sym e.1) (exact_word effort (k.Plain l.OpenBracket) never) (λ at b y rest d stop. never_stops (b ++ rest)) (n + nodes x) (nesting x)
          (λ at. counts_bind (λ _. exact.indices_of T within free x at) goes (λ _. bodies.inside turns rec within >>= closing at) (told n)
          (exact_separators effort) (counts_silent seps (seen l.Newline) (known (n + nodes x + 1) (nesting x + 1)) (still_separators turns))
          (λ _. counts_bind_quiet (λ arguments. f.◌>>◌ seps (exact.closed T within free x at arguments)) goes (closing at) (told n)
          (counts_inside given counts within free (n + nodes x + 1) (nesting x + 1))
          (counts_closing at)
          (λ arguments. (still_closing at arguments).lets)
          (exact.separated_follows given within free x at))
          (λ _. follows_ahead (seen l.Newline) goes (exact.indices_of T within free x at) (first_bind false (seen l.Newline) (ex.inside T within free) _
          (first_bind false (seen l.Newline) (T (Or within true)) _ value_ahead)))) where
            value_ahead : Fails (seen l.Newline) (T (Or within true))
            value_ahead = first_tested false (begins_or within) (seen l.Newline) (T (Or within true)) (look_apart (begins_or within) l.Newline refl) (given.or_begins within true)

      -- ---- any link

      dot_way : (look : TokenLook) → Way look (exact.behind_by T within free x look) goes (tree_told n x) (told n) (links.behind_dot turns rec within free x look)
      dot_way l.Ident = inl (counts_weaken _ (looks_same l.Ident) counts_called)
      dot_way l.IsA = inl (counts_weaken _ (looks_same l.IsA) counts_asked)
      dot_way l.IsNil = inl (counts_weaken _ (looks_same l.IsNil) counts_asked_nil)
      dot_way l.Spawn = inl (counts_weaken _ (looks_same l.Spawn) counts_spawned_in)
      dot_way other = inr (refl, λ w o led c. c)

      abbrev dotted_by : Form Operand
      dotted_by = f.◌>>◌ (word l.Dot) (by_first (exact.behind_by T within free x))

      counts_dotted : Counts Any dotted_by goes (tree_told n x) (told n) (expect l.Dot >> by_look (links.behind_dot turns rec within free x))
      counts_dotted =
          counts_bind (λ _. by_first (exact.behind_by T within free x)) goes (λ _. by_look (links.behind_dot turns rec within free x)) (told n)
          (exact_word effort (k.Plain l.Dot) never) (counts_silent (word l.Dot) never (tree_told n x) (still_word l.Dot))
          (λ _. counts_by (links.behind_dot turns rec within free x) (exact.behind_by T within free x) goes dot_way)
          (λ _ b y rest d stop. never_stops (b ++ rest))

      counts_either : Counts Any (dotted_by <|> exact.at_index T within free x) goes (tree_told n x) (told n)
          (choose (seen l.Dot) (expect l.Dot >> by_look (links.behind_dot turns rec within free x)) (links.at_index turns rec within free x))
      counts_either =
          counts_choose (seen l.Dot) dotted_by (exact.at_index T within free x) goes
          (expect l.Dot >> by_look (links.behind_dot turns rec within free x)) (links.at_index turns rec within free x)
          (counts_weaken (Passes (seen l.Dot)) (passing_same (seen l.Dot)) counts_dotted)
          (counts_weaken (Failing (seen l.Dot)) (failing_same (seen l.Dot)) counts_index)
          (λ w o rest c. led_seen l.Dot w rest (led l.Dot (λ _. by_first (exact.behind_by T within free x)) w o c))
          (λ w o rest c stop. led_first false l.OpenBracket (seen l.Dot) (not_seen l.OpenBracket l.Dot (λ e. cc)) w rest (exact.led_index T within free x w o c))

    abbrev is_link : Test
    is_link = g.is_link

    counts_link : (n : ℕ) (z : Operand) → Counts (Passes is_link) (operands.link T within free z) goes (told n z) (told n) (links.link turns rec within free z)
    counts_link n z =
        counts_weaken (Passes is_link) (passing_same is_link)
        (counts_map (operands.link T within free z) (λ w o c. (exact.link_in given within free z w o c).1) (counts_either (whole z) n))

  pub counts_postfix : (within : Within) (free : Bool) → table.Postfix effort rec T within free
  counts_postfix within free n =
      counts_bind (f.repeated (operands.link T within free)) (g.goes_operand free) (repeated g.is_link (links.link effort.turns rec within free) effort.turns) (told n)
      (exact_primary given within free) (counts_primary given counts within free n)
      (λ x. counts_goes (g.goes_operand free) (stops_less _ (g.goes_operand free) (exact.less_postfix given within free))
      (counts_repeated effort (is_link within free) (goes within free) (exact.link_apart given within free) (operands.link S within free) (operands.link T within free)
      (links.link effort.turns rec within free) (exact.exact_link given within free) (λ z w o rest c. exact.link_passes given within free z w o rest c)
      (told n) (counts_link within free n) effort.turns x))
      (λ x w o rest d stop. exact.links_follow given within free d.0 x w o rest d.1 stop)

  pub counts_postfix_tree : (within : Within) (free : Bool) → table.PostfixTree effort rec T within free
  counts_postfix_tree within free n =
      counts_map (ex.postfix T within free)
      (λ w x c. let r = tree_postfix T within free w x c in
      subst (λ y. (f.◌>>=◌ (operands.postfix T within free) (λ o. nothing (whole o))) w y) r.2 (made_in (operands.postfix T within free) whole w r.0 r.1))
      (counts_bind_quiet (λ o. nothing (whole o)) (g.goes_operand free) (λ o. pure (whole o)) (tree_told n)
      (counts_postfix within free n)
      (λ o. counts_pure (whole o) (g.goes_operand free) (told n o) (tree_told n) refl)
      (λ o. (still_pure (whole o)).lets)
      (λ o. follows_nothing (g.goes_operand free) (g.goes_operand free) (whole o) (λ look spaced e. e)))

  -- ---- a clause of `select`

  rises_postfix : (within : Within) (free : Bool)
      → Rises (λ x. nodes (whole x)) (λ x. part_height (whole x)) Any (operands.postfix T within free) (g.goes_operand free) (part (links.postfix effort.turns rec within free))
  rises_postfix within free = rises_part (λ x. nodes (whole x)) (λ x. nesting (whole x)) (counts_postfix within free)

  module _ (within : Within) (free : Bool) (n height : ℕ) where
    abbrev read_postfix : Reader Operand
    read_postfix = links.postfix effort.turns rec within free

    -- with a clause, in a `select` with so many nodes and of this height
    abbrev clause_told : Tree → Tally
    clause_told y = known (n + nodes y) (max height (part_height y))

    -- with what is read before the body of a clause
    abbrev begun : Option Tree → Tree → Tally
    begun target operation = known (n + if_some nodes target + nodes operation) (max (max height (if_some part_height target)) (part_height operation))

    still_then : Still (bodies.then effort.turns rec)
    still_then = still_choose (seen l.Newline) (still_word l.Newline) (still_word l.Then)

    counts_clause_body : (at : ℕ) (target : Option Tree) (operation : Tree)
        → Counts Any (clauses.clause_body T within free at target operation) g.goes_body (begun target operation) clause_told (links.when_body effort.turns rec within free at target operation)
    counts_clause_body at target operation =
        counts_bind (λ _. f.◌>>=◌ (ex.body T within) (λ body. nothing (tree.When at target operation body))) g.goes_body
        (λ _. bodies.body effort.turns rec within >>= λ body. pure (tree.When at target operation body)) clause_told
        (exact_then given) (counts_silent (ex.then T) never (begun target operation) still_then)
        (λ _. counts_bind_quiet (λ body. nothing (tree.When at target operation body)) g.goes_body (λ body. pure (tree.When at target operation body)) clause_told
        (counts_body given counts within (n + if_some nodes target + nodes operation) (max (max height (if_some part_height target)) (part_height operation)))
        (λ body. counts_pure (tree.When at target operation body) g.goes_body _ clause_told (when_told n height at target operation body))
        (λ body. (still_pure (tree.When at target operation body)).lets)
        (λ body. follows_nothing g.goes_body g.goes_body (tree.When at target operation body) (λ look spaced e. e)))
        (λ _ b y rest d stop. never_stops (b ++ rest))

    -- what was read is a receive, or no clause
    counts_received : (at : ℕ) (target : Option Tree) (x : Operand)
        → Counts Any (clauses.received_by T within free at target x) g.goes_body (begun target (whole x)) clause_told (links.when_received effort.turns rec within free at target x)
    counts_received at target (Field channel name) =
        counts_allowed (is_receive T within free name.text) (clauses.clause_body T within free at target (whole (Field channel name))) g.goes_body
        (links.when_body effort.turns rec within free at target (whole (Field channel name))) (counts_clause_body at target (whole (Field channel name)))
    counts_received at target other = counts_refuse g.goes_body (begun target (whole other)) clause_told

    -- Without a target only the operation is read before the body.
    begun_plain : (operation : Tree) → begun None operation ≡ known (n + nodes operation) (max height (part_height operation))
    begun_plain operation = known_is _ _ _ _ (omega arith) (omega arith)

    counts_plainly : (operation : Tree) (C : Form Tree) (p : Reader Tree) → Counts Any C g.goes_body (begun None operation) clause_told p
        → Counts Any C g.goes_body (known (n + nodes operation) (max height (part_height operation))) clause_told p
    counts_plainly operation C p cp = subst (λ v. Counts Any C g.goes_body v clause_told p) (begun_plain operation) cp

    counts_clause : (at : ℕ) (x : Operand)
        → Counts Any (clauses.clause_by T within free at x) g.goes_body (known (n + nodes (whole x)) (max height (part_height (whole x)))) clause_told (links.when_by effort.turns rec within free at x)
    counts_clause at (Name name) =
        let target = whole (Name name) in
        let from = known (n + nodes target) (max height (part_height target)) in
        counts_bind (λ _. f.◌>>=◌ (operands.postfix T within free) (clauses.received_by T within free at (Some target))) g.goes_body
        (λ _. part read_postfix >>= links.when_received effort.turns rec within free at (Some target)) clause_told
        (exact_word effort (k.Plain l.Equal) never) (counts_silent (word l.Equal) never from (still_word l.Equal))
        (λ _. counts_bind (clauses.received_by T within free at (Some target)) g.goes_body (links.when_received effort.turns rec within free at (Some target)) clause_told
        (exact_part read_postfix (exact_postfix given within free)) (rises_postfix within free (n + nodes target) (max height (part_height target)))
        (counts_received at (Some target))
        (λ x b y rest d stop. clauses.received_ahead T within free at (Some target) x b y rest d))
        (λ _ b y rest d stop. never_stops (b ++ rest))
    counts_clause at (Passing name channel value) =
        let operation = whole (Passing name channel value) in
        counts_allowed (bytes_eq name.text names.send_name) (clauses.clause_body T within free at None operation) g.goes_body (links.when_body effort.turns rec within free at None operation)
        (counts_plainly operation (clauses.clause_body T within free at None operation) (links.when_body effort.turns rec within free at None operation) (counts_clause_body at None operation))
    counts_clause at other =
        counts_plainly (whole other) (clauses.received_by T within free at None other) (links.when_received effort.turns rec within free at None other) (counts_received at None other)

  pub counts_when : (within : Within) (free : Bool) → table.WhenClause effort rec T within free
  counts_when within free n height =
      counts_map (ex.when T within free) (clauses.clause_back T within free)
      (counts_bind (λ at. f.◌>>=◌ (operands.postfix T within free) (clauses.clause_by T within free at)) g.goes_body
      (λ at. part (links.postfix effort.turns rec within free) >>= links.when_by effort.turns rec within free at) (clause_told within free n height)
      (exact_word effort (k.Plain l.When) never) (counts_silent (word l.When) never (known n height) (still_word l.When))
      (λ at. counts_bind (clauses.clause_by T within free at) g.goes_body (links.when_by effort.turns rec within free at) (clause_told within free n height)
      (exact_part (links.postfix effort.turns rec within free) (exact_postfix given within free)) (rises_postfix within free n height)
      (counts_clause within free n height at)
      (λ x b y rest d stop. clauses.clause_ahead T within free at x b y rest d))
      (λ _ b y rest d stop. never_stops (b ++ rest)))
