-- The tree of the prelude: a definition a method, with the place of each construct in the text.
use Rattle.std.specs.Prelude.{ℕ, ◌+◌, pos, false, List, [], ◌∷◌, codes, Some, None}
use Rattle.cr_grammar.specs.declared.operator.Assignment.{Assignment}
use Rattle.cr_grammar.specs.declared.operator.Assignment.TheVariants as assignment
use Rattle.cr_grammar.specs.declared.operator.Binary.{Binary}
use Rattle.cr_grammar.specs.declared.operator.Binary.TheVariants as binary
use Rattle.cr_grammar.specs.declared.tree.Tree.{Tree}
use Rattle.cr_grammar.specs.declared.tree.Tree.TheVariants as tree

-- ---- lines of several methods, by the place where they begin

-- a name alone
unfoldable pub name : ℕ → List ℕ → Tree
name at text = tree.Call at None text [] None

-- `i`
unfoldable pub counter : ℕ → Tree
counter at = name at (codes "i")

-- `r[x]`, by the place of its `[`
unfoldable pub element : ℕ → Tree → List ℕ → Tree
element at receiver text = tree.Index at receiver (name (at + 1) text ∷ []) false

-- `i = v`
unfoldable pub begin_at : ℕ → Tree → Tree
begin_at at value = tree.Assign at (counter at) assignment.Plain (at + 2) value

-- `i = 0`
unfoldable pub begin_at_0 : ℕ → Tree
begin_at_0 at = begin_at at (tree.Int32 (at + 4) (pos 0))

-- `i += 1`, or `i -= 1`
unfoldable pub step : ℕ → Assignment → Tree
step at operator = tree.Assign at (counter at) operator (at + 2) (tree.Int32 (at + 5) (pos 1))

-- `while i < limit`
unfoldable pub while_below : ℕ → Tree → List Tree → Tree
while_below at limit body = tree.While at false (tree.Binary (at + 8) binary.Less (counter (at + 6)) limit) body

-- `def name` without parameters
unfoldable pub method : ℕ → List ℕ → List Tree → Tree
method at text body = tree.Def at text [] None body

-- `class Name(A, B)`
unfoldable pub class : ℕ → List ℕ → List (List ℕ) → List Tree → Tree
class at text parameters methods = tree.Class at text parameters None methods

-- ---- `Object` and `Nil`

unfoldable pub object : Tree
object = class 0 (codes "Object") [] (method 15 (codes "not_nil!") (tree.KeywordSelf 32 ∷ []) ∷ [])

unfoldable pub message : Tree
message = tree.Text 82 (codes "Nil assertion failed")

unfoldable pub raises : Tree
raises = tree.Call 76 None (codes "raise") (message ∷ []) None

unfoldable pub nil : Tree
nil = class 47 (codes "Nil") [] (method 59 (codes "not_nil!") (raises ∷ []) ∷ [])

-- ---- `Int32`

unfoldable pub times : Tree
times = method 129 (codes "times")
    (begin_at_0 143
    ∷ while_below 153 (tree.KeywordSelf 163) (tree.Yield 174 (counter 180 ∷ []) ∷ step 188 assignment.Plus ∷ [])
    ∷ tree.Nil 207
    ∷ [])

-- `i`, the comparison and `last`
unfoldable pub compared_with_last : ℕ → ℕ → Binary → ℕ → Tree
compared_with_last at operator_at comparison last_at = tree.Binary operator_at comparison (counter at) (name last_at (codes "last"))

-- `break if i == last`
unfoldable pub break_at_last : ℕ → Tree
break_at_last at = tree.If at false (compared_with_last (at + 9) (at + 11) binary.Equal (at + 14)) (tree.Break at ∷ []) [] None

-- `while true`, and below it `yield i`, `break if i == last` and the step
unfoldable pub until_last : ℕ → Assignment → Tree
until_last at operator = tree.While at false (tree.True (at + 6))
    (tree.Yield (at + 19) (counter (at + 25) ∷ []) ∷ break_at_last (at + 35) ∷ step (at + 62) operator ∷ [])

-- `if i <= last` or `if i >= last`, and the loop below it
unfoldable pub towards_last : ℕ → Binary → Assignment → Tree
towards_last at comparison operator = tree.If at false (compared_with_last (at + 3) (at + 5) comparison (at + 8)) (until_last (at + 19) operator ∷ []) [] None

-- `Int32`, as a type
unfoldable pub int32_type : ℕ → Tree
int32_type at = tree.Union (tree.Atom at (codes "Int32" ∷ []) [] ∷ [])

-- `last : Int32`
unfoldable pub last_parameter : ℕ → Tree
last_parameter at = tree.Parameter at false (codes "last") (Some (int32_type (at + 7)))

-- `def name(last : Int32)`
unfoldable pub method_to_last : ℕ → List ℕ → ℕ → List Tree → Tree
method_to_last at text parameter_at body = tree.Def at text (last_parameter parameter_at ∷ []) None body

unfoldable pub upto : Tree
upto = method_to_last 219 (codes "upto") 228
    (begin_at 246 (tree.KeywordSelf 250) ∷ towards_last 259 binary.LessEqual assignment.Plus ∷ tree.Nil 369 ∷ [])

unfoldable pub downto : Tree
downto = method_to_last 381 (codes "downto") 392
    (begin_at 410 (tree.KeywordSelf 414) ∷ towards_last 423 binary.GreaterEqual assignment.Minus ∷ tree.Nil 533 ∷ [])

unfoldable pub int32 : Tree
int32 = class 115 (codes "Int32") [] (times ∷ upto ∷ downto ∷ [])

-- ---- `Array` and `Hash`

unfoldable pub array_each : Tree
array_each = method 564 (codes "each")
    (begin_at_0 577
    ∷ while_below 587 (name 597 (codes "size"))
    (tree.Yield 608 (element 618 (tree.KeywordSelf 614) (codes "i") ∷ []) ∷ step 628 assignment.Plus ∷ [])
    ∷ tree.Nil 647
    ∷ [])

-- `yield self[i], i`
unfoldable pub yields_item_and_index : Tree
yields_item_and_index = tree.Yield 714 (element 724 (tree.KeywordSelf 720) (codes "i") ∷ counter 729 ∷ [])

unfoldable pub lines_with_index : List Tree
lines_with_index =
    begin_at_0 683
    ∷ while_below 693 (name 703 (codes "size")) (yields_item_and_index ∷ step 737 assignment.Plus ∷ [])
    ∷ tree.Nil 756
    ∷ []

unfoldable pub array_each_with_index : Tree
array_each_with_index = method 659 (codes "each_with_index") lines_with_index

unfoldable pub array : Tree
array = class 547 (codes "Array") (codes "T" ∷ []) (array_each ∷ array_each_with_index ∷ [])

-- `list = keys`
unfoldable pub keys_in_list : Tree
keys_in_list = tree.Assign 802 (name 802 (codes "list")) assignment.Plain 807 (name 809 (codes "keys"))

-- `list.size`
unfoldable pub list_size : Tree
list_size = tree.Call 843 (Some (name 838 (codes "list"))) (codes "size") [] None

-- `k = list[i]`
unfoldable pub next_key : Tree
next_key = tree.Assign 854 (name 854 (codes "k")) assignment.Plain 856 (element 862 (name 858 (codes "list")) (codes "i"))

-- `yield k, self[k]`
unfoldable pub yields_entry : Tree
yields_entry = tree.Yield 872 (name 878 (codes "k") ∷ element 885 (tree.KeywordSelf 881) (codes "k") ∷ [])

unfoldable pub hash_each : Tree
hash_each = method 789 (codes "each")
    (keys_in_list
    ∷ begin_at_0 818
    ∷ while_below 828 list_size (next_key ∷ yields_entry ∷ step 895 assignment.Plus ∷ [])
    ∷ tree.Nil 914
    ∷ [])

unfoldable pub hash : Tree
hash = class 770 (codes "Hash") (codes "K" ∷ codes "V" ∷ []) (hash_each ∷ [])

-- ---- the whole

unfoldable pub prelude_tree : Tree
prelude_tree = tree.Statements (object ∷ nil ∷ int32 ∷ array ∷ hash ∷ [])
