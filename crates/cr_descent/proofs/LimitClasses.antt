-- What is counted in `A.new` and `Fiber.yield`.
use Rattle.std.proofs.Common.{◌≡◌, ℕ, ◌+◌, ◌<◌, max, Bool, true, false, List, [], ◌∷◌, ◌++◌, map, Option, Some, None, inl, inr, refl, sym, ap, ◌∙◌, arith}
use Rattle.std.proofs.lemmas.List.Sums.{sum_by-cons, sum_by-append}
use Rattle.std.proofs.lemmas.Bool.{both_ways}
use Rattle.std.specs.Prelude.{sum}
use Rattle.std.proofs.lemmas.List.{append-nil}
use Rattle.cr_syntax.specs.declared.look.TokenLook.{TokenLook}
use Rattle.cr_syntax.specs.declared.look.TokenLook.TheVariants as l
use Rattle.cr_syntax.specs.declared.token.TokenKind.TheVariants as k
use Rattle.cr_grammar.specs.declared.tree.Tree.{Tree, the_lemmas}
use Rattle.cr_grammar.specs.declared.tree.Tree.TheVariants as tree
use Rattle.cr_grammar.specs.declared.within.Within.{Within}
use Rattle.cr_grammar.specs.Count.{nodes, nesting}
use Rattle.cr_grammar.specs.Forms.{Form, nothing}
use Rattle.cr_grammar.specs.Forms as f
use Rattle.cr_grammar.specs.Operators as o
use Rattle.cr_grammar.specs.declared.wanted.Wanted.{Wanted}
use Rattle.cr_grammar.specs.declared.word.Atom.{Atom}
use Rattle.cr_grammar.specs.Expressions as ex
use Rattle.cr_readers.specs.Reader.{Reader, Test, tight_seen, never, by_look, pure}
use Rattle.cr_exact.specs.Exact.{Effort, Any}
use Rattle.cr_exact.specs.Limits.{Tally, known, unknown, Counts, tall, size_of_all, top_of_all, if_some}
use Rattle.cr_readers.specs.Goes.{goes_type, goes_primary}
use Rattle.cr_readers.specs.Types as read
use Rattle.cr_readers.specs.Primaries as primaries
use Rattle.cr_exact.proofs.TokenTests.{stops_less}
use Rattle.cr_exact.proofs.Tokens.{Looks}
use Rattle.cr_exact.proofs.Heads.{led}
use Rattle.cr_exact.proofs.Follows.{follows_bind, follows_never, follows_led, follows_nothing}
use Rattle.cr_exact.proofs.Limits.{counts_bind, counts_bind_quiet, counts_pure, counts_weaken, counts_map, counts_goes, counts_as, still_pure}
use Rattle.cr_exact.proofs.LimitSteps.{counts_wrapped}
use Rattle.cr_exact.proofs.LimitChoices.{Way, counts_by, looks_same, way_where}
use Rattle.cr_exact.proofs.LimitParts.{tall_cons, tall_append, known_is}
use Rattle.cr_exact.proofs.LimitLists.{counts_word}
use Rattle.cr_descent.proofs.Words.{exact_exactly_ident}
use Rattle.cr_descent.proofs.Claims as claims
use Rattle.cr_descent.proofs.Types.{atom_less, exact_atom}
use Rattle.cr_descent.proofs.Bodies.{exact_arguments, parenthesis_less}
use Rattle.cr_descent.proofs.Classes as classes
use Rattle.cr_descent.proofs.LimitClaims as limits
use Rattle.cr_descent.proofs.LimitTable as table
use Rattle.cr_descent.proofs.LimitTable.{part_height}
use Rattle.cr_descent.proofs.LimitTypes.{counts_atom_alone}
use Rattle.cr_descent.proofs.LimitTypes as types
use Rattle.cr_descent.proofs.LimitBodies as block
use Rattle.cr_descent.proofs.LimitBodies.{counts_plain, counts_arguments}
use Rattle.cr_descent.proofs.LimitNodes.{parts_high, maybe_high}

-- ---- the nodes of `A.new`

new_are : (at : ℕ) (class : Tree) (question : Bool) (arguments : List Tree) (block : Option Tree)
    → nodes (tree.New at class question arguments block) ≡ 1 + nodes class + sum (map nodes arguments) + if_some nodes block
new_are at class question arguments None =
    let a : nodes (tree.New at class question arguments None) ≡ 1 + sum (nodes class ∷ map nodes arguments ++ []) = search the_lemmas in
    let c = sum_by-cons (λ n. n) (nodes class) (map nodes arguments ++ []) in
    let d = ap (λ (v : List ℕ). sum v) (append-nil (map nodes arguments)) in
    omega (arith, a, c, d)
new_are at class question arguments (Some x) =
    let a : nodes (tree.New at class question arguments (Some x)) ≡ 1 + sum (nodes class ∷ map nodes arguments ++ nodes x ∷ []) = search the_lemmas in
    let c = sum_by-cons (λ n. n) (nodes class) (map nodes arguments ++ nodes x ∷ []) in
    let d = sum_by-append (λ n. n) (map nodes arguments) (nodes x ∷ []) in
    let e = sum_by-cons (λ n. n) (nodes x) [] in
    omega (arith, a, c, d, e)

new_nests : (at : ℕ) (class : Tree) (question : Bool) (arguments : List Tree) (block : Option Tree)
    → nesting (tree.New at class question arguments block) ≡ 1 + max (nesting class) (max (tall (map nesting arguments)) (if_some nesting block))
new_nests at class question arguments None =
    let a : nesting (tree.New at class question arguments None) ≡ 1 + tall (nesting class ∷ map nesting arguments ++ []) = search the_lemmas in
    let c = tall_cons (nesting class) (map nesting arguments ++ []) in
    let d = ap (λ (v : List ℕ). tall v) (append-nil (map nesting arguments)) in
    omega (arith, a, c, d)
new_nests at class question arguments (Some x) =
    let a : nesting (tree.New at class question arguments (Some x)) ≡ 1 + tall (nesting class ∷ map nesting arguments ++ nesting x ∷ []) = search the_lemmas in
    let c = tall_cons (nesting class) (map nesting arguments ++ nesting x ∷ []) in
    let d = tall_append (map nesting arguments) (nesting x ∷ []) in
    let e = tall_cons (nesting x) [] in
    omega (arith, a, c, d, e)

-- What is counted of the class, the arguments and the block is counted of the whole.
new_told : (n at : ℕ) (class : Tree) (question : Bool) (arguments : List Tree) (block : Option Tree)
    → let x = tree.New at class question arguments block in
    known (n + nodes x) (nesting x)
    ≡ known (n + nodes class + 1 + size_of_all nodes arguments + if_some nodes block) (max (max (nesting class + 1) (top_of_all part_height arguments)) (if_some part_height block))
new_told n at class question arguments block =
    let a = new_are at class question arguments block in
    let c = new_nests at class question arguments block in
    let d = parts_high (nesting class + 1) arguments (omega arith) in
    let e = maybe_high (nesting class + 1) block (omega arith) in
    known_is _ _ _ _ (omega (arith, a)) (omega (arith, c, d, e))

-- the parts of a body are those of the block
block_told : (n h : ℕ) (body : List Tree) → 0 < h
    → known (n + size_of_all nodes body) (max h (top_of_all part_height body)) ≡ known (n + nodes (tree.Block [] body)) (max h (part_height (tree.Block [] body)))
block_told n h body some = known_is _ _ _ _ (omega arith) (omega arith) ∙ sym (block.block_told n h [] body some)

-- the arguments are an empty list where no parentheses stand
pub listed_are : (found : Option (List Tree)) → if_some (size_of_all nodes) found ≡ size_of_all nodes (primaries.listed_of found)
listed_are None = refl
listed_are (Some xs) = refl

pub listed_nest : (found : Option (List Tree)) → if_some (top_of_all part_height) found ≡ top_of_all part_height (primaries.listed_of found)
listed_nest None = refl
listed_nest (Some xs) = refl

module _ {effort : Effort} {rec : Wanted → Reader Tree} {S T : Wanted → Form Tree} (given : claims.Given effort rec S T) (counts : limits.GivenCounts rec T) (within : Within) (free : Bool) where
  abbrev turns : ℕ
  turns = effort.turns

  abbrev goes : Test
  goes = goes_primary free

  abbrev told : ℕ → Tree → Tally
  told n x = known (n + nodes x) (nesting x)

  -- ---- the block of `Isolated.new`

  abbrev with_block : ℕ → ℕ → Option Tree → Tally
  with_block n h block = known (n + if_some nodes block) (max h (if_some part_height block))

  counts_block : (path : List (List ℕ)) (flag : Bool) → primaries.is_path path o.isolated_path ≡ flag → (n h : ℕ) → 0 < h
      → Counts Any (ex.new_block T within free path) never (known n h) (with_block n h) (primaries.new_block turns rec within free flag)
  counts_block path true is n h some =
      counts_map (ex.new_block T within free path) (classes.block_back given within free path (classes.path_is _ _ is))
      (counts_bind_quiet (λ body. nothing (Some (tree.Block [] body))) never (λ body. pure (Some (tree.Block [] body))) (with_block n h)
      (counts_plain given counts within free n h)
      (λ body. counts_pure (Some (tree.Block [] body)) never _ (with_block n h) (sym (block_told n h body some)))
      (λ body. (still_pure (Some (tree.Block [] body))).lets)
      (λ body. follows_never (nothing (Some (tree.Block [] body))) never))
  counts_block path false is n h some =
      counts_map (ex.new_block T within free path) (classes.no_block given within free path (λ same. both_ways _ is (classes.path_same _ _ same)))
      (counts_pure None never (known n h) (with_block n h) (known_is _ _ _ _ (omega arith) (omega arith)))

  -- ---- `new`

  -- what is counted behind the class
  abbrev behind : ℕ → Atom → Tally
  behind n class = told n (ex.atom_tree class)

  abbrev new_of : Atom → ℕ → List Tree → Option Tree → Tree
  new_of class at arguments block = classes.new_of given within free class at arguments block

  abbrev new_end : Atom → ℕ → List Tree → Form Tree
  new_end class at arguments = f.◌>>=◌ (ex.new_block T within free class.path.names) (λ block. nothing (new_of class at arguments block))

  abbrev new_behind : Atom → ℕ → Form Tree
  new_behind class at = f.◌>>=◌ (ex.arguments T within free) (new_end class at)

  counts_new_end : (n : ℕ) (class : Atom) (at : ℕ) → Counts Any (new_behind class at) goes (known (n + nodes (ex.atom_tree class) + 1) (nesting (ex.atom_tree class) + 1)) (told n)
      (classes.new_reader given within free class at)
  counts_new_end n class at =
      let m = n + nodes (ex.atom_tree class) + 1 in
      let h = nesting (ex.atom_tree class) + 1 in
      let last_of : Option (List Tree) → Option Tree → Tree = λ found block. new_of class at (primaries.listed_of found) block in
      counts_map (new_behind class at) (classes.arguments_back given within free (new_end class at))
      (counts_bind (λ found. new_end class at (primaries.listed_of found)) goes _ (told n) (exact_arguments given within free) (counts_arguments given counts within free m h)
      (λ found. counts_bind_quiet (λ block. nothing (last_of found block)) goes (λ block. pure (last_of found block)) (told n)
      (counts_block class.path.names _ refl (m + if_some (size_of_all nodes) found) (max h (if_some (top_of_all part_height) found)) (omega arith))
      (λ block. counts_pure (last_of found block) goes _ (told n) (last_told n class at found block))
      (λ block. (still_pure (last_of found block)).lets)
      (λ block. follows_never (nothing (last_of found block)) goes))
      (λ found. follows_bind (tight_seen l.OpenParenthesis) goes (ex.new_block T within free class.path.names) (λ block. nothing (last_of found block))
      (classes.block_follows given within free class.path.names)
      (λ block. follows_nothing (tight_seen l.OpenParenthesis) goes (last_of found block) (parenthesis_less free)))) where
        last_told : (n : ℕ) (class : Atom) (at : ℕ) (found : Option (List Tree)) (block : Option Tree)
            → told n (new_of class at (primaries.listed_of found) block)
            ≡ with_block (n + nodes (ex.atom_tree class) + 1 + if_some (size_of_all nodes) found) (max (nesting (ex.atom_tree class) + 1) (if_some (top_of_all part_height) found)) block
        last_told n class at found block =
            let a = listed_are found in
            let c = listed_nest found in
            new_told n at (ex.atom_tree class) _ (primaries.listed_of found) block ∙ known_is _ _ _ _ (omega (arith, a)) (omega (arith, c))

  counts_made : (n : ℕ) (class : Atom) → Counts Any (classes.made_tail given within free T class) goes (behind n class) (told n) (primaries.made turns rec within free class)
  counts_made n class =
      counts_wrapped (new_behind class) goes (λ at. at) (classes.new_reader given within free class) (told n) (λ t x e. sym e.1) (exact_exactly_ident effort never o.new_name)
      (λ at. follows_never (new_behind class at) goes) (n + nodes (ex.atom_tree class)) (nesting (ex.atom_tree class)) (λ at. counts_new_end n class at)

  -- ---- `yield`

  -- The name `Fiber` alone counts as much as the pause.
  pause_told : (n : ℕ) (class : Atom) → class.arguments ≡ [] → told n (tree.Pause class.path.at) ≡ behind n class
  pause_told n class none =
      let a : nodes (tree.Pause class.path.at) ≡ 1 = search the_lemmas in
      let c : nesting (tree.Pause class.path.at) ≡ 1 = search the_lemmas in
      let d = types.atom_is class.path.at class.path.names class.arguments in
      let e = types.atom_nests class.path.at class.path.names class.arguments in
      let i : sum (map nodes class.arguments) ≡ 0 = ap (λ (v : List Tree). sum (map nodes v)) none in
      let j : tall (map nesting class.arguments) ≡ 0 = ap (λ (v : List Tree). tall (map nesting v)) none in
      known_is _ _ _ _ (omega (arith, a, d, i)) (omega (arith, c, e, j))

  abbrev is_fiber : Atom → Bool
  is_fiber class = primaries.is_fiber turns rec within free class

  counts_pause : (n : ℕ) (class : Atom) → is_fiber class ≡ true
      → Counts Any (classes.pause_tail given within free class) goes (behind n class) (told n) (primaries.pause turns rec within free class)
  counts_pause n class is =
      counts_word effort (k.Plain l.Yield) (λ _. nothing (tree.Pause class.path.at)) goes (λ _. pure (tree.Pause class.path.at))
      (λ _. counts_pure (tree.Pause class.path.at) goes (behind n class) (told n) (pause_told n class (classes.fiber_is given within free class is).1))

  -- ---- the one or the other, behind an atom and its `.`

  abbrev tail_by : Atom → TokenLook → Form Tree
  tail_by class look = classes.tail_by given within free T class look

  abbrev tail : Atom → Form Tree
  tail class = classes.tail given within free T class

  way : (n : ℕ) (class : Atom) (look : TokenLook) → Way look (tail_by class look) goes (behind n class) (told n) (primaries.made_by turns rec within free class look)
  way n class l.Ident = inl (counts_weaken (Looks l.Ident) (looks_same l.Ident) (counts_made n class))
  way n class l.Yield =
      way_where l.Yield (is_fiber class) _ goes _ (behind n class) (told n) (λ is. counts_weaken (Looks l.Yield) (looks_same l.Yield) (counts_pause n class is))
  way n class other = inr (refl, λ w x led c. c)

  counts_tail : (n : ℕ) (class : Atom) → Counts Any (tail class) goes (behind n class) (told n) (by_look (primaries.made_by turns rec within free class))
  counts_tail n class =
      counts_map (tail class) (classes.tail_led given within free class)
      (counts_by (primaries.made_by turns rec within free class) (tail_by class) goes (way n class))

  -- ---- the class

  class_told : (n : ℕ) (class : Atom) → types.alone given counts n class ≡ behind n class
  class_told n class =
      let a = types.atom_is class.path.at class.path.names class.arguments in
      let c = types.atom_nests class.path.at class.path.names class.arguments in
      let d = parts_high 1 class.arguments (omega arith) in
      known_is _ _ _ _ (omega (arith, a)) (omega (arith, c, d))

  counts_class : (n : ℕ) → Counts Any (ex.atom T true) goes_type (unknown n) (behind n) (read.atom turns rec true)
  counts_class n =
      counts_goes goes_type (stops_less (types.goes_atom given counts) goes_type (atom_less given))
      (counts_as (behind n) (class_told n) (counts_atom_alone given counts true n))

  -- ---- the whole

  abbrev behind_atom : Atom → Form Tree
  behind_atom class = f.◌>>◌ (f.word l.Dot) (tail class)

  counts_whole : table.OfClass effort rec T within free
  counts_whole n =
      counts_map (f.◌<|>◌ (ex.made T within free) (ex.pause T within free)) (classes.back given within free)
      (counts_bind behind_atom goes _ (told n) (exact_atom given true) (counts_class n)
      (λ class. counts_word effort (k.Plain l.Dot) (λ _. tail class) goes (λ _. by_look (primaries.made_by turns rec within free class)) (λ _. counts_tail n class))
      (λ class. follows_led l.Dot goes_type goes (behind_atom class) (λ spaced. refl) (led l.Dot _)))

module _ {effort : Effort} {rec : Wanted → Reader Tree} {S T : Wanted → Form Tree} (given : claims.Given effort rec S T) (counts : limits.GivenCounts rec T) where
  pub counts_of_class : (within : Within) (free : Bool) → table.OfClass effort rec T within free
  counts_of_class within free = counts_whole given counts within free
