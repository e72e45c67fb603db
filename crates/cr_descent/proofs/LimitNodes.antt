-- What is counted of a node is counted of its parts: of a list of them, and of one that may be there.
use Rattle.std.proofs.Common.{◌≡◌, ℕ, ◌+◌, ◌<◌, max, List, [], ◌∷◌, map, Option, Some, None, refl, sym, ap, ◌∙◌, arith, ◌++◌}
use Rattle.std.proofs.lemmas.List.Sums.{sum_by-cons}
use Rattle.std.specs.Prelude.{sum}
use Rattle.std.proofs.lemmas.Simd.{map-map}
use Rattle.cr_grammar.specs.declared.tree.Tree.{Tree, the_lemmas}
use Rattle.cr_grammar.specs.declared.tree.Tree.TheVariants as tree
use Rattle.cr_grammar.specs.Count.{nodes, nesting}
use Rattle.cr_exact.specs.Limits.{Tally, known, tall, size_of_all, top_of_all, if_some}
use Rattle.cr_exact.proofs.LimitParts.{tall_cons, tall_above, known_is}
use Rattle.cr_descent.proofs.LimitTable.{part_height}

-- what is counted with a tree, on top of so many nodes
abbrev pub told : ℕ → Tree → Tally
told n x = known (n + nodes x) (nesting x)

pub parts_high : (height : ℕ) (xs : List Tree) → 0 < height → max height (top_of_all part_height xs) ≡ max height (tall (map nesting xs) + 1)
parts_high height xs some =
    ap (λ (v : List ℕ). max height (tall v)) (sym (map-map (λ n. n + 1) nesting xs)) ∙ tall_above height (map nesting xs) some

pub maybe_high : (height : ℕ) (o : Option Tree) → 0 < height → max height (if_some part_height o) ≡ max height (if_some nesting o + 1)
maybe_high height None some = omega arith
maybe_high height (Some x) some = refl

-- ---- one that may be there

abbrev pub held : (Tree → ℕ) → Option Tree → List ℕ
held f None = []
held f (Some x) = f x ∷ []

pub held_sum : (x : Option Tree) → sum (held nodes x) ≡ if_some nodes x
held_sum None = refl
held_sum (Some x) = let a = sum_by-cons (λ n. n) (nodes x) [] in omega (arith, a)

pub held_tall : (x : Option Tree) → tall (held nesting x) ≡ if_some nesting x
held_tall None = refl
held_tall (Some x) = let a = tall_cons (nesting x) [] in omega (arith, a)

pub held_high : (height : ℕ) (x : Option Tree) → 0 < height → max height (if_some part_height x) ≡ max height (tall (held nesting x) + 1)
held_high height None some = omega (arith, some)
held_high height (Some x) some = let a = tall_cons (nesting x) [] in omega (arith, a)

-- ---- a node and its parts

-- What is counted of a node part by part is counted of it as a whole.
pub node_told : (n : ℕ) (x : Tree) (parts : List Tree) → nodes x ≡ 1 + sum (map nodes parts) → nesting x ≡ 1 + tall (map nesting parts)
    → known (n + nodes x) (nesting x) ≡ known (n + 1 + size_of_all nodes parts) (max 1 (top_of_all part_height parts))
node_told n x parts many high =
    let a = parts_high 1 parts (omega arith) in
    known_is _ _ _ _ (omega (arith, many)) (omega (arith, high, a))

-- the same of a node with parts, and with one that may be there
pub node_with_told : (n : ℕ) (x : Tree) (parts : List Tree) (last : Option Tree) → nodes x ≡ 1 + sum (map nodes parts) + if_some nodes last
    → nesting x ≡ 1 + max (tall (map nesting parts)) (if_some nesting last)
    → known (n + nodes x) (nesting x) ≡ known (n + 1 + size_of_all nodes parts + if_some nodes last) (max (max 1 (top_of_all part_height parts)) (if_some part_height last))
node_with_told n x parts last many high =
    let a = parts_high 1 parts (omega arith) in
    let c = maybe_high 1 last (omega arith) in
    known_is _ _ _ _ (omega (arith, many)) (omega (arith, high, a, c))

-- the same of a node with at most one part
pub maybe_told : (n : ℕ) (x : Tree) (part : Option Tree) → nodes x ≡ 1 + sum (held nodes part) → nesting x ≡ 1 + tall (held nesting part)
    → told n x ≡ known (n + 1 + if_some nodes part) (max 1 (if_some part_height part))
maybe_told n x part many high =
    let a = held_sum part in
    let b = held_high 1 part (omega arith) in
    known_is _ _ _ _ (omega (arith, many, a)) (omega (arith, high, b))

-- ---- calls and statements

pub call_nodes : (at : ℕ) (receiver : Option Tree) (name : List ℕ) (arguments : List Tree) (block : Option Tree)
    → nodes (tree.Call at receiver name arguments block) ≡ 1 + sum (held nodes receiver ++ map nodes arguments ++ held nodes block)
call_nodes at None name arguments None = search the_lemmas
call_nodes at None name arguments (Some block) = search the_lemmas
call_nodes at (Some x) name arguments None = search the_lemmas
call_nodes at (Some x) name arguments (Some block) = search the_lemmas

pub call_nesting : (at : ℕ) (receiver : Option Tree) (name : List ℕ) (arguments : List Tree) (block : Option Tree)
    → nesting (tree.Call at receiver name arguments block) ≡ 1 + tall (held nesting receiver ++ map nesting arguments ++ held nesting block)
call_nesting at None name arguments None = search the_lemmas
call_nesting at None name arguments (Some block) = search the_lemmas
call_nesting at (Some x) name arguments None = search the_lemmas
call_nesting at (Some x) name arguments (Some block) = search the_lemmas

-- A list of statements is no node of its own.
pub statements_told : (n height : ℕ) (list : List Tree)
    → known (n + nodes (tree.Statements list)) (max height (nesting (tree.Statements list))) ≡ known (n + size_of_all nodes list) (max height (top_of_all nesting list))
statements_told n height list =
    let a : nodes (tree.Statements list) ≡ sum (map nodes list) = grind (arith, the_lemmas) in
    let b : nesting (tree.Statements list) ≡ tall (map nesting list) = grind (arith, the_lemmas) in
    known_is _ _ _ _ (omega (arith, a)) (omega (arith, b))
