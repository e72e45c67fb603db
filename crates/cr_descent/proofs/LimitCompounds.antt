-- What is counted in `if`, `while`, `case` and `select`.
use Rattle.std.proofs.Common.{◌≡◌, ℕ, ◌+◌, ◌<◌, max, Bool, true, false, List, [], ◌∷◌, ◌++◌, map, Option, Some, None, refl, ap, ◌∙◌, arith}
use Rattle.std.proofs.lemmas.List.Sums.{sum_by-cons, sum_by-append}
use Rattle.std.specs.Prelude.{sum}
use Rattle.cr_syntax.specs.declared.look.TokenLook.{TokenLook}
use Rattle.cr_syntax.specs.declared.look.TokenLook.TheVariants as l
use Rattle.cr_syntax.specs.declared.token.TokenKind.{TokenKind}
use Rattle.cr_syntax.specs.declared.token.TokenKind.TheVariants as k
use Rattle.cr_syntax.specs.Look.{look_of}
use Rattle.cr_grammar.specs.declared.tree.Tree.{Tree, the_lemmas}
use Rattle.cr_grammar.specs.declared.tree.Tree.TheVariants as tree
use Rattle.cr_grammar.specs.declared.within.Within.{Within}
use Rattle.cr_grammar.specs.Count.{nodes, nesting}
use Rattle.cr_grammar.specs.Forms.{Form, nothing, word, many}
use Rattle.cr_grammar.specs.Forms as f
use Rattle.cr_grammar.specs.declared.wanted.Wanted.{Wanted}
use Rattle.cr_grammar.specs.declared.wanted.Wanted.TheVariants.{Written, When, Simple}
use Rattle.cr_grammar.specs.Wanted.{in_loop}
use Rattle.cr_grammar.specs.Expressions as ex
use Rattle.cr_readers.specs.Reader.{Reader, Test, either, seen, never, expect, pure, part, grow, ◌>>=◌, ◌>>◌}
use Rattle.cr_readers.specs.Reader as r
use Rattle.cr_exact.specs.Exact.{Effort, Any}
use Rattle.cr_exact.specs.Limits.{Tally, known, Still, Rises, tall, size_of_all, top_of_all, if_some}
use Rattle.cr_readers.specs.Goes as g
use Rattle.cr_readers.specs.Bodies as bodies
use Rattle.cr_readers.specs.Compounds as compounds
use Rattle.cr_exact.proofs.TokenTests.{stops_right, seen_apart, Not, not_seen, at_seen}
use Rattle.cr_exact.proofs.Sequence.{weaken}
use Rattle.cr_exact.proofs.Tokens.{Passing}
use Rattle.cr_exact.proofs.Forms.{made_out}
use Rattle.cr_exact.proofs.Heads.{heads_fails, led_heads, many_stop}
use Rattle.cr_exact.proofs.Nodes.{exact_part}
use Rattle.cr_exact.proofs.Steps.{Begins, Starts, starts_word, starts_bind, starts_or, starts_nothing, starts_many, Reads, reads_separators, reads_part, reads_listed, reads_pure, reads_many, reads_some}
use Rattle.cr_exact.proofs.Limits.{counts_bind, counts_weaken, still_choose}
use Rattle.cr_exact.proofs.LimitChoices.{passing_same}
use Rattle.cr_exact.proofs.LimitParts.{tall_cons, tall_append, known_is, rises_part, rises_pure, rises_many}
use Rattle.cr_exact.proofs.LimitLists.{still_word, still_separators, counts_end, rises_listed_parts, rises_above, counts_word, counts_begun, counts_made}
use Rattle.cr_exact.proofs.LimitReads.{counts_then, counts_past, counts_over}
use Rattle.cr_descent.proofs.Compounds as c
use Rattle.cr_descent.proofs.Claims as claims
use Rattle.cr_descent.proofs.LimitClaims as limits
use Rattle.cr_descent.proofs.LimitTable as table
use Rattle.cr_descent.proofs.LimitTable.{part_height, ManyParts}
use Rattle.cr_descent.proofs.LimitBodies as b
use Rattle.cr_descent.proofs.LimitNodes.{parts_high}

-- ---- one after the other

-- R { R }
pub rises_some : {effort : Effort} {A : Type 0} {R C : Form A} {g : Test} {p : Reader A} (look : TokenLook) (size top : A → ℕ) → Not look g → Starts true (seen look) C → Reads effort R C g p
    → Rises size top Any C g p → Rises (size_of_all size) (top_of_all top) Any (f.some C) (either (seen look) g) (compounds.some_of effort.turns look p)
rises_some {effort = effort} {A = A} {R = R} {C = C} {g = g} {p = p} look size top not heads first rp n height =
    counts_bind (λ x. f.◌>>=◌ (many C) (λ xs. nothing (x ∷ xs))) h (λ x. r.many (seen look) p effort.turns >>= λ xs. pure (x ∷ xs)) to first.0 (rp n height)
    (λ x. counts_made (λ xs. x ∷ xs)
    (rises_many effort (seen look) g (seen_apart look g not) R C p (weaken _ first.0) heads.first size top
    (λ m high. counts_weaken (Passing (seen look)) (passing_same (seen look)) (rp m high)) effort.turns (n + size x) (max height (top x)))
    (λ xs. let a = sum_by-cons (λ n. n) (size x) (map size xs) in let b = tall_cons (top x) (map top xs) in known_is _ _ _ _ (omega (arith, a)) (omega (arith, b))))
    (λ x b y rest d stop. let a = made_out (many C) (λ xs. x ∷ xs) b y d in
    many_stop g C (heads_fails (seen look) g C heads.first (seen_apart look g not)) b a.0 rest a.1 (stops_right (seen look) g rest stop)) where
      h : Test
      h = either (seen look) g

      to : List A → Tally
      to xs = known (n + size_of_all size xs) (max height (top_of_all top xs))

-- ---- nodes

while_is : (at : ℕ) (until : Bool) (condition : Tree) (body : List Tree) → (nodes (tree.While at until condition body) ≡ 1 + sum (nodes condition ∷ map nodes body))
    × (nesting (tree.While at until condition body) ≡ 1 + tall (nesting condition ∷ map nesting body))
while_is at until condition body = (search the_lemmas, search the_lemmas)

branch_is : (at : ℕ) (condition : Tree) (body : List Tree) → (nodes (tree.Branch at condition body) ≡ sum (nodes condition ∷ map nodes body))
    × (nesting (tree.Branch at condition body) ≡ tall (nesting condition ∷ map nesting body))
branch_is at condition body = (grind (arith, the_lemmas), grind (arith, the_lemmas))

in_is : (at : ℕ) (types body : List Tree) → (nodes (tree.In at types body) ≡ sum (map nodes types ++ map nodes body)) × (nesting (tree.In at types body) ≡ tall (map nesting types ++ map nesting body))
in_is at types body = (grind (arith, the_lemmas), grind (arith, the_lemmas))

case_is : (at : ℕ) (value : Tree) (clauses : List Tree) → (nodes (tree.Case at value clauses) ≡ 1 + sum (nodes value ∷ map nodes clauses))
    × (nesting (tree.Case at value clauses) ≡ 1 + tall (nesting value ∷ map nesting clauses))
case_is at value clauses = (search the_lemmas, search the_lemmas)

if_none : (at : ℕ) (unless : Bool) (condition : Tree) (body others : List Tree) → (nodes (tree.If at unless condition body others None) ≡ 1 + sum (nodes condition ∷ (map nodes body ++ map nodes others ++ [])))
    × (nesting (tree.If at unless condition body others None) ≡ 1 + tall (nesting condition ∷ (map nesting body ++ map nesting others ++ [])))
if_none at unless condition body others = (search the_lemmas, search the_lemmas)

if_some_is : (at : ℕ) (unless : Bool) (condition : Tree) (body others otherwise : List Tree)
    → (nodes (tree.If at unless condition body others (Some otherwise)) ≡ 1 + sum (nodes condition ∷ (map nodes body ++ map nodes others ++ map nodes otherwise)))
    × (nesting (tree.If at unless condition body others (Some otherwise)) ≡ 1 + tall (nesting condition ∷ (map nesting body ++ map nesting others ++ map nesting otherwise)))
if_some_is at unless condition body others otherwise = (search the_lemmas, search the_lemmas)

select_none : (at : ℕ) (clauses : List Tree) → (nodes (tree.Select at clauses None) ≡ 1 + sum (map nodes clauses ++ []))
    × (nesting (tree.Select at clauses None) ≡ 1 + tall (map nesting clauses ++ []))
select_none at clauses = (search the_lemmas, search the_lemmas)

select_some : (at : ℕ) (clauses otherwise : List Tree) → (nodes (tree.Select at clauses (Some otherwise)) ≡ 1 + sum (map nodes clauses ++ map nodes otherwise))
    × (nesting (tree.Select at clauses (Some otherwise)) ≡ 1 + tall (map nesting clauses ++ map nesting otherwise))
select_some at clauses otherwise = (search the_lemmas, search the_lemmas)

-- the sum and the greatest of three lists behind a number
three_sum : (x : ℕ) (xs ys zs : List ℕ) → sum (x ∷ (xs ++ ys ++ zs)) ≡ x + sum xs + sum ys + sum zs
three_sum x xs ys zs =
    let a = sum_by-cons (λ n. n) x (xs ++ ys ++ zs) in
    let b = sum_by-append (λ n. n) (xs ++ ys) zs in
    let c = sum_by-append (λ n. n) xs ys in
    omega (arith, a, b, c)

three_tall : (x : ℕ) (xs ys zs : List ℕ) → tall (x ∷ (xs ++ ys ++ zs)) ≡ max (max (max x (tall xs)) (tall ys)) (tall zs)
three_tall x xs ys zs =
    let a = tall_cons x (xs ++ ys ++ zs) in
    let b = tall_append (xs ++ ys) zs in
    let c = tall_append xs ys in
    omega (arith, a, b, c)

-- ---- what is counted part by part is counted of the whole

abbrev counted : ℕ → Tree → Tally
counted n x = known (n + nodes x) (nesting x)

while_told : (n at : ℕ) (until : Bool) (condition : Tree) (body : List Tree)
    → counted n (tree.While at until condition body) ≡ known (n + 1 + nodes condition + size_of_all nodes body) (max (max 1 (part_height condition)) (top_of_all part_height body))
while_told n at until condition body =
    let a = while_is at until condition body in
    let b = sum_by-cons (λ n. n) (nodes condition) (map nodes body) in
    let c = tall_cons (nesting condition) (map nesting body) in
    let d = parts_high 1 body (omega arith) in
    known_is _ _ _ _ (omega (arith, a.0, b)) (omega (arith, a.1, c, d))

branch_told : (n height at : ℕ) (condition : Tree) (body : List Tree)
    → known (n + nodes (tree.Branch at condition body)) (max height (part_height (tree.Branch at condition body)))
    ≡ known (n + nodes condition + size_of_all nodes body) (max (max height (part_height condition)) (top_of_all part_height body))
branch_told n height at condition body =
    let a = branch_is at condition body in
    let b = sum_by-cons (λ n. n) (nodes condition) (map nodes body) in
    let c = tall_cons (nesting condition) (map nesting body) in
    let d = parts_high 1 body (omega arith) in
    known_is _ _ _ _ (omega (arith, a.0, b)) (omega (arith, a.1, c, d))

in_told : (n height at : ℕ) (types body : List Tree) → 0 < height
    → known (n + nodes (tree.In at types body)) (max height (part_height (tree.In at types body)))
    ≡ known (n + size_of_all nodes types + size_of_all nodes body) (max (max height (top_of_all part_height types)) (top_of_all part_height body))
in_told n height at types body some =
    let a = in_is at types body in
    let b = sum_by-append (λ n. n) (map nodes types) (map nodes body) in
    let c = tall_append (map nesting types) (map nesting body) in
    let d = parts_high 1 types (omega arith) in
    let e = parts_high 1 body (omega arith) in
    known_is _ _ _ _ (omega (arith, a.0, b)) (omega (arith, some, a.1, c, d, e))

case_told : (n at : ℕ) (value : Tree) (clauses : List Tree)
    → counted n (tree.Case at value clauses) ≡ known (n + 1 + nodes value + size_of_all nodes clauses) (max (max 1 (part_height value)) (top_of_all part_height clauses))
case_told n at value clauses =
    let a = case_is at value clauses in
    let b = sum_by-cons (λ n. n) (nodes value) (map nodes clauses) in
    let c = tall_cons (nesting value) (map nesting clauses) in
    let d = parts_high 1 clauses (omega arith) in
    known_is _ _ _ _ (omega (arith, a.0, b)) (omega (arith, a.1, c, d))

-- More parts raise a node as they raise its nesting.
raised : (x height : ℕ) (xs : List Tree) → x + 1 ≡ height → max x (tall (map nesting xs)) + 1 ≡ max height (top_of_all part_height xs)
raised x height xs is = let a = parts_high height xs (omega (arith, is)) in omega (arith, a, is)

if_told : (n at : ℕ) (unless : Bool) (condition : Tree) (body others : List Tree) (otherwise : Option (List Tree))
    → counted n (tree.If at unless condition body others otherwise)
    ≡ known (n + 1 + nodes condition + size_of_all nodes body + size_of_all nodes others + if_some (size_of_all nodes) otherwise)
    (max (max (max (max 1 (part_height condition)) (top_of_all part_height body)) (top_of_all part_height others)) (if_some (top_of_all part_height) otherwise))
if_told n at unless condition body others None =
    let a = if_none at unless condition body others in
    let b = three_sum (nodes condition) (map nodes body) (map nodes others) [] in
    let c = three_tall (nesting condition) (map nesting body) (map nesting others) [] in
    let d = parts_high 1 body (omega arith) in
    let e = parts_high 1 others (omega arith) in
    known_is _ _ _ _ (omega (arith, a.0, b)) (omega (arith, a.1, c, d, e))
if_told n at unless condition body others (Some otherwise) =
    let a = if_some_is at unless condition body others otherwise in
    let b = three_sum (nodes condition) (map nodes body) (map nodes others) (map nodes otherwise) in
    let c = three_tall (nesting condition) (map nesting body) (map nesting others) (map nesting otherwise) in
    let d = raised (nesting condition) (max 1 (part_height condition)) body (omega arith) in
    let e = raised _ _ others d in
    let i = raised _ _ otherwise e in
    known_is _ _ _ _ (omega (arith, a.0, b)) (a.1 ∙ one_more _ ∙ ap (λ v. v + 1) c ∙ i) where
      one_more : (m : ℕ) → 1 + m ≡ m + 1
      one_more m = omega arith

select_told : (n at : ℕ) (clauses : List Tree) (otherwise : Option (List Tree))
    → counted n (tree.Select at clauses otherwise)
    ≡ known (n + 1 + size_of_all nodes clauses + if_some (size_of_all nodes) otherwise) (max (max 1 (top_of_all part_height clauses)) (if_some (top_of_all part_height) otherwise))
select_told n at clauses None =
    let a = select_none at clauses in
    let b = sum_by-append (λ n. n) (map nodes clauses) [] in
    let c = tall_append (map nesting clauses) [] in
    let d = parts_high 1 clauses (omega arith) in
    known_is _ _ _ _ (omega (arith, a.0, b)) (omega (arith, a.1, c, d))
select_told n at clauses (Some otherwise) =
    let a = select_some at clauses otherwise in
    let b = sum_by-append (λ n. n) (map nodes clauses) (map nodes otherwise) in
    let c = tall_append (map nesting clauses) (map nesting otherwise) in
    let d = parts_high 1 clauses (omega arith) in
    let e = parts_high 1 otherwise (omega arith) in
    known_is _ _ _ _ (omega (arith, a.0, b)) (omega (arith, a.1, c, d, e))

module _ {effort : Effort} {rec : Wanted → Reader Tree} {S T : Wanted → Form Tree} (given : claims.Given effort rec S T) (counts : limits.GivenCounts rec T) where
  rises_simple : (within : Within) → Rises nodes part_height Any (T (Simple within)) g.goes_simple (part (rec (Simple within)))
  rises_simple within = rises_part nodes nesting (counts.simple within)

  rises_body : (within : Within) → ManyParts (ex.body T within) g.goes_body (bodies.body effort.turns rec within)
  rises_body within = b.counts_body given counts within

  rises_otherwise : (within : Within) → table.MaybeParts (ex.otherwise T within) (either (seen l.Else) g.goes_body) (bodies.otherwise effort.turns rec within)
  rises_otherwise within = b.counts_otherwise given counts within

  still_then : Still (bodies.then effort.turns rec)
  still_then = still_choose (seen l.Newline) (still_word l.Newline) (still_word l.Then)

  reads_simple : (within : Within) → Reads effort (S (Simple within)) (T (Simple within)) g.goes_simple (part (rec (Simple within)))
  reads_simple within = reads_part (c.reads_rec given (Simple within))

  module _ (within : Within) (free : Bool) where
    looping : (kind : TokenKind) (until : Bool) → limits.Trees (ex.looping_of T within free (look_of kind) until) never (compounds.looping effort.turns rec within free (look_of kind) until)
    looping kind until n =
        counts_begun effort kind _ n (λ at.
        counts_then (reads_simple (in_loop within)) (rises_simple (in_loop within) (n + 1) 1) (λ condition.
        counts_word effort (k.Plain l.Newline) _ _ _ (λ _.
        counts_then (c.reads_body given (in_loop within)) (rises_body (in_loop within) (n + 1 + nodes condition) (max 1 (part_height condition))) (λ body.
        counts_end l.KeywordEnd (tree.While at until condition body) never _ (counted n) (while_told n at until condition body))
        (λ body. c.begins_end given g.goes_body (λ spaced. refl) _)))
        (λ condition. starts_bind _ (starts_word l.Newline (λ spaced. refl))))

    elsif : limits.Parts (ex.elsif T within free) g.goes_body (compounds.elsif effort.turns rec within free)
    elsif n height =
        counts_word effort (k.Plain l.Elsif) _ _ _ (λ at.
        counts_then (reads_simple within) (rises_simple within n height) (λ condition.
        counts_over (c.reads_then given) still_then (λ _.
        counts_made (λ body. tree.Branch at condition body) (rises_body within (n + nodes condition) (max height (part_height condition))) (λ body. branch_told n height at condition body)))
        (λ condition. starts_bind _ (c.begins_then given)))

    -- `if` and `unless`, with or without branches of `elsif`
    conditional : (kind : TokenKind) (unless : Bool) (R C : Form (List Tree))
        → Reads effort R C (either (seen l.Elsif) g.goes_body) (compounds.branches effort.turns rec within free unless)
        → ManyParts C (either (seen l.Elsif) g.goes_body) (compounds.branches effort.turns rec within free unless)
        → ((D : List Tree → Form Tree) → ((xs : List Tree) → Begins g.goes_body (D xs)) → Begins g.goes_body (f.◌>>=◌ C D))
        → limits.Trees (ex.conditional_of T within free (look_of kind) unless C) never (compounds.conditional effort.turns rec within free (look_of kind) unless)
    conditional kind unless R C others rises_others begins_others n =
        counts_begun effort kind _ n (λ at.
        counts_then (reads_simple within) (rises_simple within (n + 1) 1) (λ condition.
        counts_over (c.reads_then given) still_then (λ _.
        counts_then (c.reads_body given within) (rises_body within _ _) (λ body.
        counts_then others (rises_others _ _) (λ others.
        counts_then (c.reads_otherwise given within) (rises_otherwise within _ _) (λ otherwise.
        counts_end l.KeywordEnd (tree.If at unless condition body others otherwise) never _ (counted n) (if_told n at unless condition body others otherwise))
        (λ otherwise. c.begins_end given (either (seen l.Else) g.goes_body) (c.end_else given) _))
        (λ others. c.begins_otherwise given within free (either (seen l.Elsif) g.goes_body) (c.else_elsif given) _
        (λ x. c.begins_end given (either (seen l.Elsif) g.goes_body) (c.end_elsif given) _)))
        (λ body. begins_others _ (λ others. c.begins_otherwise given within free g.goes_body (λ spaced. refl) _
        (λ x. c.begins_end given g.goes_body (λ spaced. refl) _)))))
        (λ condition. starts_bind _ (c.begins_then given)))

    branches : ManyParts (many (ex.elsif T within free)) (either (seen l.Elsif) g.goes_body) (compounds.branches effort.turns rec within free false)
    branches =
        rises_many effort (seen l.Elsif) g.goes_body (seen_apart l.Elsif g.goes_body (λ spaced. refl)) (ex.elsif S within free) (ex.elsif T within free) (compounds.elsif effort.turns rec within free)
        (weaken _ (c.elsif given within free).0) (led_heads l.Elsif _) nodes part_height
        (λ n height. counts_weaken (Passing (seen l.Elsif)) (passing_same (seen l.Elsif)) (elsif n height)) effort.turns

    in_clause : limits.Parts (ex.in_clause T within free) g.goes_body (compounds.in_clause effort.turns rec within free)
    in_clause =
        let some = given.some (Written false) in
        rises_above nodes part_height (λ n height positive.
        counts_word effort (k.Plain l.In) _ _ _ (λ at.
        counts_then (reads_listed (λ spaced. refl) (c.types_lineless given within free) (reads_part (c.reads_rec given (Written false))))
        (rises_listed_parts effort (S (Written false)) (T (Written false)) g.goes_type (part (rec (Written false))) (exact_part (rec (Written false)) (given.exact (Written false)))
        (c.types_lineless given within free).first some.0 some.1 some.2 (seen_apart l.Comma g.goes_type (λ spaced. refl))
        nodes part_height (rises_part nodes nesting (counts.written false)) n height) (λ types.
        counts_over (c.reads_then given) still_then (λ _.
        counts_made (λ body. tree.In at types body) (rises_body within _ _) (λ body. in_told n height at types body positive)))
        (λ types. starts_bind _ (starts_or (starts_word l.Newline (c.line_type given)) (starts_word l.Then (c.then_type given))))))

  pub counts_conditional : (within : Within) (free : Bool) → table.Conditional effort rec T within free
  counts_conditional within free = (
    conditional within free (k.Plain l.If) false (many (ex.elsif S within free)) (many (ex.elsif T within free))
        (reads_many l.Elsif (λ spaced. refl) (starts_bind _ (starts_word l.Elsif (at_seen l.Elsif))) (c.elsif given within free)
        (c.elsif_moves given within free))
        (branches within free)
        (λ D next. starts_many D (starts_bind _ (starts_word l.Elsif (λ spaced. refl))) next),
    conditional within free (k.Plain l.Unless) true (nothing []) (nothing []) (reads_pure effort [] (either (seen l.Elsif) g.goes_body))
        (rises_pure (size_of_all nodes) (top_of_all part_height) (either (seen l.Elsif) g.goes_body) [] refl refl)
        (λ D next. starts_nothing [] D (next [])),
  )

  pub counts_looping : (within : Within) (free : Bool) → table.Looping effort rec T within free
  counts_looping within free = (looping within free (k.Plain l.While) false, looping within free (k.Plain l.Until) true)

  pub counts_cases : (within : Within) (free : Bool) → table.Cases effort rec T within free
  counts_cases within free n =
      let clause = c.in_clause given within free in
      let begins : Starts true (seen l.In) (ex.in_clause T within free) = starts_bind _ (starts_word l.In (at_seen l.In)) in
      counts_begun effort (k.Plain l.Case) _ n (λ at.
      counts_then (reads_simple within) (rises_simple within (n + 1) 1) (λ value.
      counts_word effort (k.Plain l.Newline) _ _ _ (λ _.
      counts_past (reads_separators effort) (still_separators effort.turns) (λ _.
      counts_then (reads_some l.In (λ spaced. refl) begins clause (c.in_moves given within free)) (rises_some l.In nodes part_height (λ spaced. refl) begins clause (in_clause within free) _ _) (λ clauses.
      counts_end l.KeywordEnd (tree.Case at value clauses) never _ (counted n) (case_told n at value clauses))
      (λ clauses. c.begins_end given (either (seen l.In) g.goes_body) (c.end_in given) _))
      (λ _. starts_bind _ (starts_bind _ (starts_bind _ (starts_word l.In (not_seen l.In l.Newline (λ e. cc))))))))
      (λ value. starts_bind _ (starts_word l.Newline (λ spaced. refl))))

  pub counts_select : (within : Within) (free : Bool) → table.Select effort rec T within free
  counts_select within free n =
      let clause = c.reads_rec given (When within free) in
      let begins = c.when_heads given within free in
      counts_begun effort (k.Plain l.Select) _ n (λ at.
      counts_word effort (k.Plain l.Newline) _ _ _ (λ _.
      counts_past (reads_separators effort) (still_separators effort.turns) (λ _.
      counts_then (reads_some l.When (λ spaced. refl) begins clause (given.when_moves within free)) (rises_some l.When nodes part_height (λ spaced. refl) begins clause (counts.when within free) (n + 1) 1) (λ clauses.
      counts_then (c.reads_otherwise given within) (rises_otherwise within _ _) (λ otherwise.
      counts_end l.KeywordEnd (tree.Select at clauses otherwise) never _ (counted n) (select_told n at clauses otherwise))
      (λ otherwise. c.begins_end given (either (seen l.Else) g.goes_body) (c.end_else given) _))
      (λ clauses. c.begins_otherwise given within free (either (seen l.When) g.goes_body) (c.else_when given) _
      (λ x. c.begins_end given (either (seen l.When) g.goes_body) (c.end_when given) _)))
      (λ _. starts_bind _ (starts_bind _ (c.begins_when given within free)))))
