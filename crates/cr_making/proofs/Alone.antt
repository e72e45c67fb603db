-- Lists of no argument, of one alone, and of more.
use Rattle.std.proofs.Common.{◌≡◌, ℕ, ◌≤◌, false, List, [], ◌∷◌, length, get_or, map, refl, sym, ap, ◌∙◌, subst, arith}
use Rattle.cr_grammar.specs.declared.tree.Tree.{Tree}
use Rattle.cr_making.specs.declared.words.Word.{Word}
use Rattle.cr_making.specs.Making.{Making, nothing}
use Rattle.cr_making.specs.Words.{word_of}
use Rattle.cr_making.specs.Part.{Part, own_of, terms}
use Rattle.cr_making.specs.Terms.{called, name_alone, with_one_by, bare_call}
use Rattle.cr_making.specs.Control.{send, send_value}
use Rattle.cr_making.specs.Table.{part, parts}

none : (xs : List Tree) → length xs ≡ 0 → xs ≡ []
none [] e = refl
none (x ∷ xs) e = absurd (omega arith)

alone : (xs : List Tree) (x : Tree) → length xs ≡ 1 → x ≡ get_or xs 0 x → xs ≡ x ∷ []
alone [] x e is = absurd (omega arith)
alone (y ∷ []) x e is = ap (λ (z : Tree). z ∷ []) (sym is)
alone (y ∷ z ∷ xs) x e is = absurd (omega arith)

pub bare_none : (at : ℕ) (name : List ℕ) (xs ys : List Tree) → xs ≡ ys → length xs ≡ 0 → name_alone at name ≡ bare_call at name (parts ys)
bare_none at name xs ys same e = ap (λ (ts : List Tree). bare_call at name (parts ts)) (sym (none xs e) ∙ same)

pub bare_one : (at : ℕ) (name : List ℕ) (xs ys : List Tree) (x : Tree) (w : Word) → xs ≡ ys → length xs ≡ 1 → x ≡ get_or xs 0 x → w ≡ word_of name → with_one_by w at name (part x) ≡ bare_call at name (parts ys)
bare_one at name xs ys x w same e is word =
    ap (λ (v : Word). with_one_by v at name (part x)) word
    ∙ ap (λ (ts : List Tree). bare_call at name (parts ts)) (sym (alone xs x e is) ∙ same)

more : (at : ℕ) (name : List ℕ) (xs : List Tree) → 2 ≤ length xs → called at name false false (terms (parts xs)) ≡ bare_call at name (parts xs)
more at name [] h = absurd (omega arith)
more at name (x ∷ []) h = absurd (omega arith)
more at name (x ∷ y ∷ xs) h = refl

pub bare_more : (at : ℕ) (name : List ℕ) (xs ys : List Tree) → xs ≡ ys → 2 ≤ length xs → called at name false false (terms (parts ys)) ≡ bare_call at name (parts ys)
bare_more at name xs ys same h = more at name ys (subst (λ (ts : List Tree). 2 ≤ length ts) same h)

pub send_one : (mark at : ℕ) (channel : Making) (xs ys : List Tree) (x : Tree) (list : List Part) → xs ≡ ys → length xs ≡ 1 → x ≡ get_or xs 0 x → send_value mark at channel (part x).own list ≡ send mark at channel (map own_of (parts ys)) list
send_one mark at channel xs ys x list same e is = ap (λ (ts : List Tree). send mark at channel (map own_of (parts ts)) list) (sym (alone xs x e is) ∙ same)

not_one : (mark at : ℕ) (channel : Making) (xs : List Tree) (list : List Part) → (length xs ≡ 1 → ⊥) → nothing ≡ send mark at channel (map own_of (parts xs)) list
not_one mark at channel [] list other = refl
not_one mark at channel (x ∷ []) list other = absurd (other refl)
not_one mark at channel (x ∷ y ∷ xs) list other = refl

pub send_none : (mark at : ℕ) (channel : Making) (xs ys : List Tree) (list : List Part) → xs ≡ ys → (length xs ≡ 1 → ⊥) → nothing ≡ send mark at channel (map own_of (parts ys)) list
send_none mark at channel xs ys list same other = not_one mark at channel ys list (subst (λ (ts : List Tree). length ts ≡ 1 → ⊥) same other)
