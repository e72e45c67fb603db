-- What is counted in numbers, texts, arrays and hashes.
use Rattle.std.proofs.Common.{◌≡◌, ℕ, ◌+◌, max, Bool, true, false, List, [], ◌∷◌, ◌++◌, map, Option, Some, None, inl, inr, refl, sym, ap, subst, ◌∙◌, append_assoc, arith}
use Rattle.std.proofs.lemmas.List.Sums.{sum_by-cons, sum_by_push}
use Rattle.std.specs.Prelude.{sum}
use Rattle.std.proofs.lemmas.List.{append-nil}
use Rattle.std.proofs.lemmas.Simd.{map-map}
use Rattle.cr_syntax.specs.declared.look.TokenLook.TheVariants as l
use Rattle.cr_syntax.specs.declared.token.Token.{Token}
use Rattle.cr_syntax.specs.declared.token.TokenKind.TheVariants as k
use Rattle.cr_grammar.specs.declared.tree.Tree.{Tree, the_lemmas}
use Rattle.cr_grammar.specs.declared.tree.Tree.TheVariants as tree
use Rattle.cr_grammar.specs.declared.within.Within.{Within}
use Rattle.cr_grammar.specs.Count.{nodes, nesting}
use Rattle.cr_grammar.specs.declared.word.Word.{Word}
use Rattle.cr_grammar.specs.Forms.{Form, nothing}
use Rattle.cr_grammar.specs.Forms as f
use Rattle.cr_grammar.specs.declared.wanted.Wanted.{Wanted}
use Rattle.cr_grammar.specs.declared.wanted.Wanted.TheVariants.{Written, Or}
use Rattle.cr_grammar.specs.Laws.{begins_type}
use Rattle.cr_grammar.specs.Expressions as ex
use Rattle.cr_readers.specs.Reader.{Reader, Test, seen, same_look, either, never, expect, holder, many, pure, part, ◌>>=◌, ◌>>◌}
use Rattle.cr_readers.specs.Lists.{optional, unless_closed, separators, listed}
use Rattle.cr_exact.specs.Exact.{Effort, Exact, Any}
use Rattle.cr_exact.specs.Limits.{Tally, known, Counts, Rises, tall, size_of_all, top_of_all, if_some}
use Rattle.cr_readers.specs.Goes.{goes_type, goes_or, goes_primary}
use Rattle.cr_readers.specs.Words as w
use Rattle.cr_readers.specs.Bodies as bodies
use Rattle.cr_readers.specs.Primaries as primaries
use Rattle.cr_exact.proofs.TokenTests.{Not, seen_apart, Less, look_apart}
use Rattle.cr_exact.proofs.Sequence.{weaken}
use Rattle.cr_exact.proofs.Tokens.{exact_word}
use Rattle.cr_exact.proofs.Forms.{no_seps, seps_append, bind_out}
use Rattle.cr_exact.proofs.Heads.{NoLine, seps_fails, led, led_at, first_bind, led_bind, led_seen, first_tested, led_first, LedBy}
use Rattle.cr_exact.proofs.Follows.{Follows, follows_ahead, follows_nothing, follows_never, follows_led, follows_bind, follows_many, follows_or}
use Rattle.cr_exact.proofs.Nodes.{exact_part}
use Rattle.cr_exact.proofs.Closed.{empty_or_in}
use Rattle.cr_exact.proofs.Limits.{counts_bind, counts_bind_quiet, counts_still_then, counts_pure, counts_silent, counts_weaken, counts_map, still_pure, still_take, still_bind, counts_as_spelled}
use Rattle.cr_exact.proofs.LimitSteps.{counts_grown}
use Rattle.cr_exact.proofs.LimitChoices.{passing_same}
use Rattle.cr_exact.proofs.LimitParts.{tall_cons, known_is, rises_part, rises_many, rises_optional, tall_last}
use Rattle.cr_exact.proofs.LimitLists.{rises_listed_parts, counts_word, rises_behind, counts_separated, counts_once, counts_one}
use Rattle.cr_descent.proofs.Words as words
use Rattle.cr_descent.proofs.Claims as claims
use Rattle.cr_descent.proofs.Bodies.{exact_inside, or_fails}
use Rattle.cr_descent.proofs.Literals as literals
use Rattle.cr_descent.proofs.LimitClaims as limits
use Rattle.cr_descent.proofs.LimitTable.{part_height}
use Rattle.cr_descent.proofs.LimitBodies.{counts_inside}
use Rattle.cr_descent.proofs.LimitNodes.{node_told, node_with_told}

-- ---- the nodes of a literal

insertions_are : (at : ℕ) (texts : List (List ℕ)) (inserted : List Tree) → nodes (tree.Insertions at texts inserted) ≡ 1 + sum (map nodes inserted)
insertions_are at texts inserted = search the_lemmas

insertions_nest : (at : ℕ) (texts : List (List ℕ)) (inserted : List Tree) → nesting (tree.Insertions at texts inserted) ≡ 1 + tall (map nesting inserted)
insertions_nest at texts inserted = search the_lemmas

array_are : (at : ℕ) (elements : List Tree) (element : Option Tree) → nodes (tree.Array at elements element) ≡ 1 + sum (map nodes elements) + if_some nodes element
array_are at elements None =
    let a : nodes (tree.Array at elements None) ≡ 1 + sum (map nodes elements ++ []) = search the_lemmas in
    let b = ap (λ (v : List ℕ). sum v) (append-nil (map nodes elements)) in
    omega (arith, a, b)
array_are at elements (Some x) =
    let a : nodes (tree.Array at elements (Some x)) ≡ 1 + sum (map nodes elements ++ nodes x ∷ []) = search the_lemmas in
    let b = sum_by_push (λ n. n) (map nodes elements) (nodes x) in
    omega (arith, a, b)

array_nests : (at : ℕ) (elements : List Tree) (element : Option Tree) → nesting (tree.Array at elements element) ≡ 1 + max (tall (map nesting elements)) (if_some nesting element)
array_nests at elements None =
    let a : nesting (tree.Array at elements None) ≡ 1 + tall (map nesting elements ++ []) = search the_lemmas in
    let b = ap (λ (v : List ℕ). tall v) (append-nil (map nesting elements)) in
    omega (arith, a, b)
array_nests at elements (Some x) =
    let a : nesting (tree.Array at elements (Some x)) ≡ 1 + tall (map nesting elements ++ nesting x ∷ []) = search the_lemmas in
    let b = tall_last (map nesting elements) (nesting x) in
    omega (arith, a, b)

hash_are : (at : ℕ) (entries : List Tree) (entry : Option Tree) → nodes (tree.Hash at entries entry) ≡ 1 + sum (map nodes entries) + if_some nodes entry
hash_are at entries None =
    let a : nodes (tree.Hash at entries None) ≡ 1 + sum (map nodes entries ++ []) = search the_lemmas in
    let b = ap (λ (v : List ℕ). sum v) (append-nil (map nodes entries)) in
    omega (arith, a, b)
hash_are at entries (Some x) =
    let a : nodes (tree.Hash at entries (Some x)) ≡ 1 + sum (map nodes entries ++ nodes x ∷ []) = search the_lemmas in
    let b = sum_by_push (λ n. n) (map nodes entries) (nodes x) in
    omega (arith, a, b)

hash_nests : (at : ℕ) (entries : List Tree) (entry : Option Tree) → nesting (tree.Hash at entries entry) ≡ 1 + max (tall (map nesting entries)) (if_some nesting entry)
hash_nests at entries None =
    let a : nesting (tree.Hash at entries None) ≡ 1 + tall (map nesting entries ++ []) = search the_lemmas in
    let b = ap (λ (v : List ℕ). tall v) (append-nil (map nesting entries)) in
    omega (arith, a, b)
hash_nests at entries (Some x) =
    let a : nesting (tree.Hash at entries (Some x)) ≡ 1 + tall (map nesting entries ++ nesting x ∷ []) = search the_lemmas in
    let b = tall_last (map nesting entries) (nesting x) in
    omega (arith, a, b)

pair_are : (key value : Tree) → nodes (tree.Pair key value) ≡ nodes key + nodes value
pair_are key value = grind (arith, the_lemmas)

pair_nests : (key value : Tree) → nesting (tree.Pair key value) ≡ max (nesting key) (nesting value)
pair_nests key value = grind (arith, the_lemmas)

-- What is counted of a key and a value is counted of the two.
pair_told : (n h : ℕ) (key value : Tree)
    → known (n + nodes (tree.Pair key value)) (max h (part_height (tree.Pair key value))) ≡ known (n + nodes key + nodes value) (max (max h (part_height key)) (part_height value))
pair_told n h key value =
    let a = pair_are key value in
    let c = pair_nests key value in
    known_is _ _ _ _ (omega (arith, a)) (omega (arith, c))

-- the same of a text with insertions
insertions_told : (n at : ℕ) (texts : List (List ℕ)) (value : Tree) (more : List (Tree × List ℕ))
    → let x = tree.Insertions at texts (value ∷ map (λ (x : Tree × List ℕ). x.0) more) in
    known (n + nodes x) (nesting x) ≡ known (n + 1 + nodes value + size_of_all (λ x. nodes x.0) more) (max (max 1 (part_height value)) (top_of_all (λ x. part_height x.0) more))
insertions_told n at texts value more =
    let values = map (λ (x : Tree × List ℕ). x.0) more in
    let a = node_told n (tree.Insertions at texts (value ∷ values)) (value ∷ values) (insertions_are at texts (value ∷ values)) (insertions_nest at texts (value ∷ values)) in
    let c = sum_by-cons (λ n. n) (nodes value) (map nodes values) in
    let d = tall_cons (part_height value) (map part_height values) in
    let e = ap (λ (v : List ℕ). sum v) (map-map nodes (λ (x : Tree × List ℕ). x.0) more) in
    let h = ap (λ (v : List ℕ). tall v) (map-map part_height (λ (x : Tree × List ℕ). x.0) more) in
    a ∙ known_is _ _ _ _ (omega (arith, c, e)) (omega (arith, d, h))

module _ {effort : Effort} {rec : Wanted → Reader Tree} {S T : Wanted → Form Tree} (given : claims.Given effort rec S T) (counts : limits.GivenCounts rec T) (within : Within) (free : Bool) where
  abbrev turns : ℕ
  turns = effort.turns

  abbrev goes : Test
  goes = goes_primary free

  abbrev told : ℕ → Tree → Tally
  told n x = known (n + nodes x) (nesting x)

  -- ---- numbers and texts

  number_one : (w : List Token) (x : Tree) → ex.number T within free w x → (nodes x ≡ 1) × (nesting x ≡ 1)
  number_one w x (t, is, inl c) = (ap nodes c.2 ∙ search the_lemmas, ap nesting c.2 ∙ search the_lemmas)
  number_one w x (t, is, inr c) = (ap nodes c.2 ∙ search the_lemmas, ap nesting c.2 ∙ search the_lemmas)

  pub counts_number : limits.Trees (ex.number T within free) never (primaries.number_node turns rec within free)
  counts_number n =
      counts_as_spelled (told n) (literals.exact_number_node given within free)
      (λ w x c. let one = number_one w x c in known_is _ _ _ _ (let a = one.0 in omega (arith, a)) (sym one.1))
      (λ w x c. let one = number_one w x c in known_is _ _ _ _ (let a = one.0 in omega (arith, a)) (sym one.1))
      (counts_map (ex.number T within free) (literals.number_back given within free)
      (counts_grown (λ (found : ℕ × Tree). nothing found.1) never (λ (found : ℕ × Tree). found.0) (λ (found : ℕ × Tree). pure found.1) (λ x. known (n + 1) 1)
      (λ t x e. sym e.0) (words.exact_number effort never) (λ found. follows_never (nothing found.1) never) n
      (λ found. counts_pure found.1 never (known (n + 1) 1) (λ x. known (n + 1) 1) refl)))

  pub counts_text : limits.Trees (literals.whole_text given within free) never (primaries.text turns rec within free)
  counts_text =
      counts_one (λ (text : Word). text.at) (λ (text : Word). tree.Text text.at text.text) never nodes nesting (λ t x e. sym e.1) (words.exact_whole_text effort never)
      (λ text. search the_lemmas) (λ text. search the_lemmas)

  -- ---- texts with insertions

  pub rises_inserted : limits.Parts (T (Or within free)) (goes_or free) (primaries.inserted turns rec within free)
  rises_inserted = rises_part nodes nesting (counts.or within free)

  abbrev part_of : Word → Tree → Tree × List ℕ
  part_of text value = (value, text.text)

  rises_part_behind : Rises (λ (x : Tree × List ℕ). nodes x.0) (λ (x : Tree × List ℕ). part_height x.0) Any (ex.part_behind T within free) (goes_or free) (primaries.part_behind turns rec within free)
  rises_part_behind n h =
      let to : Tree × List ℕ → Tally = λ x. known (n + nodes x.0) (max h (part_height x.0)) in
      counts_bind (λ text. f.◌>>=◌ (T (Or within free)) (λ value. nothing (part_of text value))) (goes_or free) _ to (words.exact_middle_text effort never) (counts_silent _ never (known n h) (still_take _))
      (λ text. counts_bind_quiet (λ value. nothing (part_of text value)) (goes_or free) (λ value. pure (part_of text value)) to (rises_inserted n h)
      (λ value. counts_pure (part_of text value) (goes_or free) (known (n + nodes value) (max h (part_height value))) to refl)
      (λ value. (still_pure (part_of text value)).lets)
      (λ value. follows_nothing (goes_or free) (goes_or free) (part_of text value) (λ look spaced e. e)))
      (λ text. follows_never (f.◌>>=◌ (T (Or within free)) (λ value. nothing (part_of text value))) (goes_or free))

  abbrev insertions_of : Word → Tree → List (Tree × List ℕ) → Word → Tree
  insertions_of = literals.insertions_of given within free

  abbrev last_part : Word → Tree → List (Tree × List ℕ) → Form Tree
  last_part = literals.last_part given within free

  abbrev parts_behind : Word → Tree → Form Tree
  parts_behind first value = f.◌>>=◌ (f.many (ex.part_behind T within free)) (last_part first value)

  abbrev values_behind : Word → Form Tree
  values_behind first = f.◌>>=◌ (T (Or within free)) (parts_behind first)

  abbrev goes_parts : Test
  goes_parts = either (seen l.TextMiddle) (goes_or free)

  led_middle : LedBy l.TextMiddle (ex.part_behind T within free)
  led_middle = literals.led_middle given within free

  led_last : (first : Word) (value : Tree) (more : List (Tree × List ℕ)) → LedBy l.TextLast (last_part first value more)
  led_last = literals.led_last given within free

  pub counts_insertions : limits.Trees (ex.insertions T within free) never (primaries.insertions turns rec within free)
  unfolding same_look
  counts_insertions n =
      counts_grown values_behind never (λ (first : Word). first.at) _ (told n) (λ t x e. sym e.1) (words.exact_first_text effort never) (λ first. follows_never (values_behind first) never) n
      (λ first. counts_bind (parts_behind first) never _ (told n) (literals.exact_inserted given within free) (rises_inserted (n + 1) 1)
      (λ value. counts_bind_quiet (last_part first value) never (λ more. holder w.last_text >>= λ last. pure (insertions_of first value more last)) (told n)
      (rises_many effort (seen l.TextMiddle) (goes_or free) (seen_apart l.TextMiddle (goes_or free) (λ spaced. refl)) (ex.part_behind S within free) (ex.part_behind T within free)
      (primaries.part_behind turns rec within free) (weaken _ (literals.exact_part_behind given within free)) (λ w x rest c. led_seen l.TextMiddle w rest (led_middle w x c))
      (λ x. nodes x.0) (λ x. part_height x.0) (λ m h. counts_weaken _ (passing_same (seen l.TextMiddle)) (rises_part_behind m h)) turns (n + 1 + nodes value) (max 1 (part_height value)))
      (λ more. counts_still_then (f.holding (λ text. k.TextLast text)) (λ last. nothing (insertions_of first value more last)) never (λ last. pure (insertions_of first value more last)) _ (told n)
      (still_take _) (λ last. counts_pure (insertions_of first value more last) never _ (told n) (insertions_told n first.at _ value more))
      (λ last. (still_pure (insertions_of first value more last)).lets))
      (λ more. (still_bind (still_take _) (λ last. still_pure (insertions_of first value more last))).lets)
      (λ more. follows_led l.TextLast goes_parts never (last_part first value more) (λ spaced. refl) (led_last first value more)))
      (λ value. follows_bind (goes_or free) never (f.many (ex.part_behind T within free)) (last_part first value)
      (follows_many (goes_or free) (ex.part_behind T within free) (follows_led l.TextMiddle (goes_or free) (goes_or free) (ex.part_behind T within free) (λ spaced. refl) led_middle))
      (λ more. follows_led l.TextLast (goes_or free) never (last_part first value more) (λ spaced. refl) (led_last first value more))))

  -- ---- arrays

  abbrev goes_inside : Test
  goes_inside = either (seen l.Comma) (goes_or true)

  abbrev goes_of : Test
  goes_of = either (seen l.Of) goes_type

  -- what is counted behind so many parts
  abbrev parted : ℕ → List Tree → Tally
  parted n parts = known (n + 1 + size_of_all nodes parts) (max 1 (top_of_all part_height parts))

  parted_none : (n : ℕ) → parted n [] ≡ known (n + 1) 1
  parted_none n = known_is _ _ _ _ (omega arith) refl

  -- behind `of`
  rises_of : (C : Form Tree) (p : Reader Tree) → limits.Parts C goes_type p
      → Rises (if_some nodes) (if_some part_height) Any (f.maybe (f.◌>>◌ (f.word l.Of) C)) goes_of (optional (seen l.Of) (expect l.Of >> p))
  rises_of C p rp =
      rises_optional (f.◌>>◌ (f.word l.Of) C) goes_type (expect l.Of >> p) (seen l.Of) nodes part_height (λ w x rest c. led_seen l.Of w rest (led_at l.Of w c.0 c.1 c.2 c.3 c.4))
      (λ n h. counts_weaken _ (passing_same (seen l.Of)) (rises_behind effort (k.Plain l.Of) C goes_type p nodes part_height rp n h))

  of_less : Less goes_of goes
  of_less = literals.of_less given within free

  -- the node with its parts, and what stands behind `of`
  counts_of : (n : ℕ) (parts : List Tree) (C : Form Tree) (p : Reader Tree) (make : Option Tree → Tree) → limits.Parts C goes_type p
      → ((o : Option Tree) → nodes (make o) ≡ 1 + sum (map nodes parts) + if_some nodes o) → ((o : Option Tree) → nesting (make o) ≡ 1 + max (tall (map nesting parts)) (if_some nesting o))
      → Counts Any (f.◌>>=◌ (f.maybe (f.◌>>◌ (f.word l.Of) C)) (λ o. nothing (make o))) goes (parted n parts) (told n) (optional (seen l.Of) (expect l.Of >> p) >>= λ o. pure (make o))
  counts_of n parts C p make rp many high =
      counts_bind_quiet (λ o. nothing (make o)) goes (λ o. pure (make o)) (told n) (rises_of C p rp (n + 1 + size_of_all nodes parts) (max 1 (top_of_all part_height parts)))
      (λ o. counts_pure (make o) goes _ (told n) (node_with_told n (make o) parts o (many o) (high o)))
      (λ o. (still_pure (make o)).lets)
      (λ o. follows_nothing goes_of goes (make o) of_less)

  abbrev elements_behind : ℕ → List Tree → Form Tree
  elements_behind at elements = f.◌>>=◌ (f.maybe (f.◌>>◌ (f.word l.Of) (T (Written true)))) (λ element. nothing (tree.Array at elements element))

  abbrev read_elements : ℕ → List Tree → Reader Tree
  read_elements at elements = optional (seen l.Of) (expect l.Of >> part (rec (Written true))) >>= λ element. pure (tree.Array at elements element)

  -- the closing bracket, and what follows it
  abbrev array_end : ℕ → List Tree → Form Tree
  array_end at elements = f.◌>>◌ (f.word l.CloseBracket) (elements_behind at elements)

  abbrev array_tail : ℕ → List Tree → Form Tree
  array_tail at elements = f.◌>>◌ f.seps (array_end at elements)

  abbrev array_once : ℕ → Form Tree
  array_once at = f.◌<|>◌ (array_end at []) (f.◌>>=◌ (ex.inside T within free) (array_tail at))

  abbrev array_behind : ℕ → Form Tree
  array_behind at = f.◌>>◌ f.seps (f.◌>>=◌ (f.or_none (ex.inside T within free)) (array_tail at))

  array_back : (at : ℕ) (w : List Token) (x : Tree) → array_behind at w x → f.◌>>◌ f.seps (array_once at) w x
  array_back at w x (a, c, u, e, d, (m, r, xs, i, inl q, end)) = (a, c, u, e, d, inr (m, r, xs, i, q, end))
  array_back at w x (a, c, u, e, d, (m, r, xs, i, inr none, (v, z, y, j, s, end))) = (
    a ++ v,
    z,
    tt,
    e ∙ ap (λ (t : List Token). a ++ t) (i ∙ ap (λ (t : List Token). t ++ r) none.0 ∙ j) ∙ sym (append_assoc a v z),
    seps_append a v u y d s,
    inl (subst (λ (xs : List Tree). array_end at xs z x) none.1 end),
  )

  counts_array_end : (n at : ℕ) (elements : List Tree) → Counts Any (array_end at elements) goes (parted n elements) (told n) (expect l.CloseBracket >> read_elements at elements)
  counts_array_end n at elements =
      counts_word effort (k.Plain l.CloseBracket) (λ _. elements_behind at elements) goes (λ _. read_elements at elements)
      (λ _. counts_of n elements (T (Written true)) (part (rec (Written true))) (λ element. tree.Array at elements element) (rises_part nodes nesting (counts.written true)) (array_are at elements) (array_nests at elements))

  counts_array_tail : (n at : ℕ) (elements : List Tree) → Counts Any (array_tail at elements) goes (parted n elements) (told n) (separators turns >> (expect l.CloseBracket >> read_elements at elements))
  unfolding same_look
  counts_array_tail n at elements =
      counts_separated effort (array_end at elements) goes _ (parted n elements) (told n) (follows_led l.CloseBracket (seen l.Newline) goes (array_end at elements) (λ spaced. refl) (led l.CloseBracket _))
      (counts_array_end n at elements)

  array_follows : (at : ℕ) → Follows (seen l.Newline) (array_once at) goes
  unfolding same_look
  array_follows at =
      follows_or (seen l.Newline) goes (array_end at []) (f.◌>>=◌ (ex.inside T within free) (array_tail at))
      (follows_led l.CloseBracket (seen l.Newline) goes (array_end at []) (λ spaced. refl) (led l.CloseBracket _))
      (follows_ahead (seen l.Newline) goes (f.◌>>=◌ (ex.inside T within free) (array_tail at))
      (first_bind false (seen l.Newline) (ex.inside T within free) (array_tail at) (first_bind false (seen l.Newline) (T (Or within true)) _ (or_fails given within true l.Newline refl))))

  tail_follows : (at : ℕ) (elements : List Tree) → Follows goes_inside (array_tail at elements) goes
  unfolding same_look
  tail_follows at elements w x rest c stop =
      seps_fails goes_inside (λ spaced. refl) (λ _. array_end at elements) (λ _ v y more d. led_first false l.CloseBracket goes_inside (λ spaced. refl) v more (led l.CloseBracket (λ _. elements_behind at elements) v y d)) w x rest c

  counts_array_once : (n at : ℕ) → Counts Any (array_once at) goes (known (n + 1) 1) (told n)
      (unless_closed l.CloseBracket (bodies.inside turns rec within) >>= λ elements. separators turns >> (expect l.CloseBracket >> read_elements at elements))
  counts_array_once n at =
      counts_once l.CloseBracket (ex.inside S within free) (ex.inside T within free) goes_inside (bodies.inside turns rec within) (array_end at []) (array_tail at) goes _
      (known (n + 1) 1) (parted n) (told n) (exact_inside given within free) (counts_inside given counts within free (n + 1) 1)
      (counts_array_tail n at)
      (counts_map (array_end at []) (λ w x c. ([], w, tt, refl, no_seps, c))
      (subst (λ (t : Tally). Counts Any (array_tail at []) goes t (told n) (separators turns >> (expect l.CloseBracket >> read_elements at []))) (parted_none n) (counts_array_tail n at [])))
      (led l.CloseBracket _)
      (first_bind false (seen l.CloseBracket) (T (Or within true)) _ (or_fails given within true l.CloseBracket refl))
      (tail_follows at)

  pub counts_array : limits.Trees (ex.array T within free) goes (primaries.array turns rec within free)
  counts_array n =
      counts_grown array_behind goes (λ at. at) _ (told n) (λ t x e. sym e.1) (exact_word effort (k.Plain l.OpenBracket) never) (λ at. follows_never (array_behind at) goes) n
      (λ at. counts_map (array_behind at) (array_back at) (counts_separated effort (array_once at) goes _ (known (n + 1) 1) (told n) (array_follows at) (counts_array_once n at)))

  -- ---- hashes

  module _ (R C : Form Tree) (g : Test) (p : Reader Tree) (ep : Exact effort Any R C g p) (ahead : NoLine C) (rp : limits.Parts C g p) where
    abbrev value_behind : Tree → Form Tree
    value_behind key = f.◌>>=◌ C (λ value. nothing (tree.Pair key value))

    abbrev arrow_behind : Tree → Form Tree
    arrow_behind key = f.◌>>=◌ (ex.arrow T within free) (λ _. value_behind key)

    counts_value : (n h : ℕ) (key : Tree) → Counts Any (value_behind key) g (known (n + nodes key) (max h (part_height key))) (λ x. known (n + nodes x) (max h (part_height x))) (p >>= λ value. pure (tree.Pair key value))
    counts_value n h key =
        counts_bind_quiet (λ value. nothing (tree.Pair key value)) g (λ value. pure (tree.Pair key value)) _ (rp (n + nodes key) (max h (part_height key)))
        (λ value. counts_pure (tree.Pair key value) g _ _ (pair_told n h key value))
        (λ value. (still_pure (tree.Pair key value)).lets)
        (λ value. follows_nothing g g (tree.Pair key value) (λ look spaced e. e))

    rises_pair : Not l.Arrow g → limits.Parts (ex.pair T within free C) g (primaries.pair turns rec within free p)
    rises_pair stops n h =
        let to : Tree → Tally = λ x. known (n + nodes x) (max h (part_height x)) in
        counts_bind arrow_behind g _ to ep (rp n h)
        (λ key.
        let from = known (n + nodes key) (max h (part_height key)) in
        counts_map (arrow_behind key) (bind_out (f.word l.Arrow) (λ _. f.seps) (λ _. value_behind key))
        (counts_word effort (k.Plain l.Arrow) (λ _. f.◌>>◌ f.seps (value_behind key)) g _
        (λ _. counts_separated effort (value_behind key) g _ from to (follows_ahead (seen l.Newline) g (value_behind key) (first_bind false (seen l.Newline) C _ ahead)) (counts_value n h key))))
        (λ key. follows_led l.Arrow g g (arrow_behind key) stops (led_bind l.Arrow (ex.arrow T within free) (λ _. value_behind key) (led l.Arrow (λ _. f.seps))))

  abbrev goes_pairs : Test
  goes_pairs = either (seen l.Comma) (goes_or free)

  abbrev pairs_of : (Wanted → Form Tree) → Form (List Tree)
  pairs_of Q = f.listed (ex.pair Q within free (Q (Or within free)))

  abbrev read_pairs : Reader (List Tree)
  read_pairs = listed turns (primaries.pair turns rec within free (part (rec (Or within free))))

  rises_pairs : Rises (size_of_all nodes) (top_of_all part_height) Any (pairs_of T) goes_pairs read_pairs
  unfolding same_look
  rises_pairs =
      let some = literals.pair_some given within free (S (Or within free)) (given.some (Or within free)) in
      rises_listed_parts effort (ex.pair S within free (S (Or within free))) (ex.pair T within free (T (Or within free))) (goes_or free) (primaries.pair turns rec within free (part (rec (Or within free))))
      (literals.exact_pair given within free (S (Or within free)) (T (Or within free)) (goes_or free) (part (rec (Or within free)))
      (literals.exact_inserted given within free) (or_fails given within free l.Newline refl) (given.some (Or within free)) (λ spaced. refl))
      (first_bind false (seen l.Newline) (T (Or within free)) _ (or_fails given within free l.Newline refl)) some.0 some.1 some.2
      (seen_apart l.Comma (goes_or free) (λ spaced. refl)) nodes part_height
      (rises_pair (S (Or within free)) (T (Or within free)) (goes_or free) (part (rec (Or within free))) (literals.exact_inserted given within free) (or_fails given within free l.Newline refl)
      rises_inserted (λ spaced. refl))

  rises_type_pair : limits.Parts (ex.pair T within free (T (Written true))) goes_type (primaries.pair turns rec within free (part (rec (Written true))))
  rises_type_pair =
      rises_pair (S (Written true)) (T (Written true)) goes_type (part (rec (Written true))) (exact_part (rec (Written true)) (given.exact (Written true)))
      (first_tested false begins_type (seen l.Newline) (T (Written true)) (look_apart begins_type l.Newline refl) (given.type_begins true))
      (rises_part nodes nesting (counts.written true)) (λ spaced. refl)

  abbrev hash_end : ℕ → List Tree → Form Tree
  hash_end at entries = f.◌>>◌ (f.word l.CloseBrace) (f.◌>>=◌ (f.maybe (f.◌>>◌ (f.word l.Of) (ex.pair T within free (T (Written true))))) (λ entry. nothing (tree.Hash at entries entry)))

  abbrev read_hash_end : ℕ → List Tree → Reader Tree
  read_hash_end at entries = expect l.CloseBrace >> (optional (seen l.Of) (expect l.Of >> primaries.pair turns rec within free (part (rec (Written true)))) >>= λ entry. pure (tree.Hash at entries entry))

  counts_hash_end : (n at : ℕ) (entries : List Tree) → Counts Any (hash_end at entries) goes (parted n entries) (told n) (read_hash_end at entries)
  counts_hash_end n at entries =
      counts_word effort (k.Plain l.CloseBrace) _ goes _
      (λ _. counts_of n entries (ex.pair T within free (T (Written true))) _ (λ entry. tree.Hash at entries entry) rises_type_pair (hash_are at entries) (hash_nests at entries))

  counts_entries : (n at : ℕ) → Counts Any (f.◌>>=◌ (f.or_none (pairs_of T)) (hash_end at)) goes (known (n + 1) 1) (told n) (unless_closed l.CloseBrace read_pairs >>= read_hash_end at)
  unfolding same_look
  counts_entries n at =
      counts_map (f.◌>>=◌ (f.or_none (pairs_of T)) (hash_end at)) (empty_or_in (pairs_of T) (hash_end at))
      (counts_once l.CloseBrace (pairs_of S) (pairs_of T) goes_pairs read_pairs (hash_end at []) (hash_end at) goes (read_hash_end at) (known (n + 1) 1) (parted n) (told n)
      (literals.exact_pairs given within free) (rises_pairs (n + 1) 1) (counts_hash_end n at)
      (subst (λ (t : Tally). Counts Any (hash_end at []) goes t (told n) (read_hash_end at [])) (parted_none n) (counts_hash_end n at []))
      (led l.CloseBrace _)
      (first_bind false (seen l.CloseBrace) (ex.pair T within free (T (Or within free))) _ (first_bind false (seen l.CloseBrace) (T (Or within free)) _ (or_fails given within free l.CloseBrace refl)))
      (λ entries. follows_led l.CloseBrace goes_pairs goes (hash_end at entries) (λ spaced. refl) (led l.CloseBrace _)))

  pub counts_hash : limits.Trees (ex.hash T within free) goes (primaries.hash turns rec within free)
  counts_hash n =
      counts_grown hash_behind goes (λ at. at) _ (told n) (λ t x e. sym e.1) (exact_word effort (k.Plain l.OpenBrace) never) (λ at. follows_never (hash_behind at) goes) n
      (λ at. counts_separated effort (f.◌>>=◌ (f.or_none (pairs_of T)) (hash_end at)) goes _ (known (n + 1) 1) (told n) (literals.entries_follow given within free at) (counts_entries n at)) where
        hash_behind : ℕ → Form Tree
        hash_behind at = f.◌>>◌ f.seps (f.◌>>=◌ (f.or_none (pairs_of T)) (hash_end at))
