-- The examples: what the readers compute, and what exactness makes of it.
use Rattle.std.proofs.Common.{◌≡◌, ℕ, List, [], ◌∷◌, ◌++◌, refl, sym, ap, subst, ◌∙◌, arith, true, false}
use Rattle.std.specs.Prelude.{pos, Option, Some, None, is_some, map}
use Rattle.std.proofs.lemmas.List.{append-nil}
use Rattle.cr_syntax.specs.declared.look.TokenLook.TheVariants as l
use Rattle.cr_syntax.specs.declared.token.Token.{Token}
use Rattle.cr_grammar.specs.declared.operator.Binary.{Binary}
use Rattle.cr_grammar.specs.declared.operator.Binary.TheVariants as binary
use Rattle.cr_grammar.specs.declared.tree.Tree.{Tree, out-Tree, the_lemmas}
use Rattle.cr_grammar.specs.declared.tree.Tree.TheVariants as tree
use Rattle.cr_grammar.specs.declared.wanted.Wanted.TheVariants.{Program}
use Rattle.cr_grammar.specs.Grammar.{Spells}
use Rattle.cr_readers.specs.declared.fault.ParseFault.TheVariants.{Unexpected}
use Rattle.cr_readers.specs.Reader.{State, Outcome, Found, Failed, same_look, next, grow, wrap, part, beside}
use Rattle.cr_readers.specs.Descent.{read}
use Rattle.cr_descent.specs.Laws.{IsFirstUnexpected}
use Rattle.cr_descent.specs.Examples as e
use Rattle.cr_descent.specs.Examples.{Row}
use Rattle.cr_descent.specs.Trees as t
use Rattle.cr_descent.specs.Trees.{TreeRow}
use Rattle.cr_descent.proofs.Consequences.{first_unexpected, longest_front, one_tree}

-- before all tokens, without limits
abbrev start : List Token → State
start w = record { before = l.Newline; rest = w; depth = 0; nodes = 0; height = 0; limited = false }

-- what the reader of programs comes to, with enough turns and constructs in one another for any example
abbrev pub outcome : List Token → Outcome Tree
outcome w = read 1000 1000 Program (start w)

-- ---- a computed fault

abbrev pub fault : Outcome Tree → Option ℕ
fault (Failed (Unexpected place) s) = Some place
fault other = None

unfoldable pub refusal : List Token → Option ℕ
refusal w = fault (outcome w)

fault_of : (o : Outcome Tree) (place : ℕ) → fault o ≡ Some place → (s : State) × (o ≡ Failed (Unexpected place) s)
fault_of (Found x s) place e = absurd cc
fault_of (Failed (Unexpected n) s) place e = (s, cc)
fault_of (Failed other s) place e = absurd cc

pub refused : (w : List Token) (place : ℕ) → refusal w ≡ Some place → IsFirstUnexpected Program w place
unfolding refusal
refused w place e =
    let found = fault_of (outcome w) place e in
    first_unexpected 1000 1000 Program (start w) found.0 place found.1

-- ---- a computed tree

-- the tree, where no token is left
abbrev pub if_done : List Token → Tree → Option Tree
if_done [] x = Some x
if_done (t ∷ ts) x = None

abbrev pub whole : Outcome Tree → Option Tree
whole (Found x s) = if_done s.rest x
whole other = None

unfoldable pub acceptance : List Token → Option Tree
acceptance w = whole (outcome w)

done_of : (w : List Token) (y x : Tree) → if_done w y ≡ Some x → (y ≡ x) × (w ≡ [])
done_of [] y x e = (cc, refl)
done_of (t ∷ ts) y x e = absurd cc

tree_of : (o : Outcome Tree) (x : Tree) → whole o ≡ Some x → (s : State) × (o ≡ Found x s) × (s.rest ≡ [])
tree_of (Found y s) x e =
    let done = done_of s.rest y x e in
    (s, ap (λ v. Found v s) done.0, done.1)
tree_of (Failed other s) x e = absurd cc

front_is_all : (w front rest : List Token) (x : Tree) → w ≡ front ++ rest → rest ≡ [] → Spells Program front x → Spells Program w x
front_is_all w front rest x parts none spelled =
    let same : w ≡ front = parts ∙ (ap (λ v. front ++ v) none ∙ append-nil front) in
    subst (λ (v : List Token). Spells Program v x) (sym same) spelled

pub spelled : (w : List Token) (x : Tree) → acceptance w ≡ Some x → Spells Program w x
unfolding acceptance
spelled w x e =
    let found = tree_of (outcome w) x e in
    let longest = longest_front 1000 1000 Program (start w) found.0 x found.1 in
    front_is_all w longest.front found.0.rest x longest.parts found.2 longest.spelled

-- A tree is found, though not told.
some_of : (found : Option Tree) → is_some found ≡ true → (x : Tree) × (found ≡ Some x)
some_of (Some x) e = (x, refl)
some_of None e = absurd cc

pub some_spelled : (w : List Token) → is_some (acceptance w) ≡ true → (x : Tree) × Spells Program w x
some_spelled w e =
    let found = some_of (acceptance w) e in
    (found.0, spelled w found.0 found.1)

-- What is spelled is no other tree.
pub only : (w : List Token) (x y : Tree) → acceptance w ≡ Some x → Spells Program w y → x ≡ y
only w x y e other = one_tree Program w x y (spelled w x e) other

-- ---- tables

first_equal : {A : Type 0} → (a b : A) (xs ys : List A) → a ∷ xs ≡ b ∷ ys → a ≡ b
first_equal a b xs ys e = cc

rest_equal : {A : Type 0} → (a b : A) (xs ys : List A) → a ∷ xs ≡ b ∷ ys → xs ≡ ys
rest_equal a b xs ys e = cc

abbrev pub refusals : List Row → List (Option ℕ)
refusals = map (λ row. refusal row.0)

abbrev pub places : List Row → List (Option ℕ)
places = map (λ row. Some row.1)

pub all_refused : (rows : List Row) → refusals rows ≡ places rows → e.Refused rows
all_refused [] same = tt
all_refused (row ∷ rows) same = (
  refused row.0 row.1 (first_equal (refusal row.0) (Some row.1) (refusals rows) (places rows) same),
  all_refused rows (rest_equal (refusal row.0) (Some row.1) (refusals rows) (places rows) same),
)

abbrev pub acceptances : List TreeRow → List (Option Tree)
acceptances = map (λ row. acceptance row.0)

abbrev pub trees : List TreeRow → List (Option Tree)
trees = map (λ row. Some row.1)

pub all_spelled : (rows : List TreeRow) → acceptances rows ≡ trees rows → t.Spelled rows
all_spelled [] same = tt
all_spelled (row ∷ rows) same = (
  spelled row.0 row.1 (first_equal (acceptance row.0) (Some row.1) (acceptances rows) (trees rows) same),
  all_spelled rows (rest_equal (acceptance row.0) (Some row.1) (acceptances rows) (trees rows) same),
)

pub refused_texts : e.Refused e.refusals
unfolding refusal read same_look next grow wrap part beside
refused_texts = all_refused e.refusals refl

pub spelled_texts : t.Spelled t.trees
unfolding acceptance read same_look next grow wrap part beside
spelled_texts = all_spelled t.trees refl

-- ---- another tree

-- one statement alone
abbrev alone : Tree → Tree
alone x = tree.Statements (x ∷ [])

same_alone : (x y : Tree) → alone x ≡ alone y → x ≡ y
same_alone x y e =
    let same : out-Tree (alone x) ≡ out-Tree (alone y) = ap (λ (v : Tree). out-Tree v) e in
    grind (arith, the_lemmas, same)

same_place : (i j : ℕ) (o p : Binary) (a b c d : Tree) → tree.Binary i o a b ≡ tree.Binary j p c d → i ≡ j
same_place i j o p a b c d e =
    let same : out-Tree (tree.Binary i o a b) ≡ out-Tree (tree.Binary j p c d) = ap (λ (v : Tree). out-Tree v) e in
    grind (arith, the_lemmas, same)

-- 1 - 2 - 3
abbrev to_the_left : Tree
to_the_left = tree.Binary 6 binary.Minus (tree.Binary 2 binary.Minus (tree.Int32 0 (pos 1)) (tree.Int32 4 (pos 2))) (tree.Int32 8 (pos 3))

left_is_read : acceptance t.two_differences ≡ Some (alone to_the_left)
unfolding acceptance read same_look next grow wrap part beside
left_is_read = refl

pub groups_not_right : t.GroupsNotRight
groups_not_right other =
    let same = same_alone _ _ (only t.two_differences _ _ left_is_read other) in
    let places : 6 ≡ 2 = same_place _ _ _ _ _ _ _ _ same in
    absurd (omega (arith, places))

-- ---- a whole program

pub workers_are_spelled : t.WorkersAreSpelled
unfolding acceptance read same_look next grow wrap part beside
workers_are_spelled = some_spelled t.workers refl
