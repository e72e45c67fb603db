-- The parts of a text as they are gathered, beside the reader that puts each before what follows.
use Rattle.std.proofs.Common.{◌≡◌, ℕ, zero, suc, Bool, true, false, cond, List, [], ◌∷◌, ◌++◌, map, refl, sym, ap, ◌∙◌, append_assoc}
use Rattle.std.proofs.lemmas.List.{append-nil}
use Rattle.cr_grammar.specs.declared.tree.Tree.{Tree}
use Rattle.cr_grammar.specs.declared.tree.Tree.TheVariants as tree
use Rattle.cr_grammar.specs.declared.within.Within.{Within}
use Rattle.cr_grammar.specs.declared.wanted.Wanted.{Wanted}
use Rattle.cr_syntax.specs.declared.look.TokenLook.TheVariants as l
use Rattle.cr_grammar.specs.declared.word.Word.{Word}
use Rattle.cr_readers.specs.Reader.{State, Outcome, Found, Failed, Reader, ◌>>=◌, ◌>>◌, pure, grow, holder, Test, passes, seen, and_then, many, repeated}
use Rattle.cr_readers.specs.Words.{first_text, last_text}
use Rattle.cr_readers.specs.Primaries.{insertions, part_behind, inserted}
use Rattle.cr_parse.specs.declared.literals.Parts.{Parts}
use Rattle.cr_parse.specs.Parts.{behind, step, another, insertions_behind}

behind_more : (found : Parts) (x : Tree × List ℕ) (xs : List (Tree × List ℕ)) → behind (behind found (x ∷ [])) xs ≡ behind found (x ∷ xs)
behind_more found x xs = rw (append_assoc found.texts (x.1 ∷ []) (map (λ (x : Tree × List ℕ). x.1) xs), append_assoc found.inserted (x.0 ∷ []) (map (λ (x : Tree × List ℕ). x.0) xs)) refl

behind_none : (found : Parts) → behind found [] ≡ found
behind_none found = rw (append-nil found.texts, append-nil found.inserted) refl

regroup : (found : Parts) (x : Tree × List ℕ) (o : Outcome (List (Tree × List ℕ)))
    → and_then {B = Parts} (and_then o (λ xs s. Found (x ∷ xs) s)) (λ xs s. Found (behind found xs) s) ≡ and_then {B = Parts} o (λ xs s. Found (behind (behind found (x ∷ [])) xs) s)
regroup found x (Found xs s) = ap (λ ys. Found ys s) (sym (behind_more found x xs))
regroup found x (Failed e s) = refl

module _ (test : Test) (p : Reader (Tree × List ℕ)) where
  abbrev Gathers : ℕ → Type 0
  Gathers n = (found : Parts) (s : State) → and_then {B = Parts} (many test p n s) (λ xs s. Found (behind found xs) s) ≡ repeated test (step p) n found s

  turned : (n : ℕ) → Gathers n → (found : Parts) (o : Outcome (Tree × List ℕ))
      → and_then {B = Parts} (and_then {B = List (Tree × List ℕ)} o (λ x s. and_then {B = List (Tree × List ℕ)} (many test p n s) (λ xs s. Found (x ∷ xs) s))) (λ xs s. Found (behind found xs) s)
      ≡ and_then {B = Parts} (and_then {B = Parts} o (λ x s. Found (behind found (x ∷ [])) s)) (repeated test (step p) n)
  turned n gathers found (Found x s) = regroup found x (many test p n s) ∙ gathers (behind found (x ∷ [])) s
  turned n gathers found (Failed e s) = refl

  chosen : (n : ℕ) → Gathers n → (found : Parts) (s : State) (b : Bool)
      → and_then {B = Parts} (cond {A = Reader (List (Tree × List ℕ))} b (p >>= λ x. many test p n >>= λ xs. pure (x ∷ xs)) (pure []) s) (λ xs s. Found (behind found xs) s)
      ≡ cond {A = Reader Parts} b (step p found >>= repeated test (step p) n) (pure found) s
  chosen n gathers found s true = turned n gathers found (p s)
  chosen n gathers found s false = ap (λ ys. Found ys s) (behind_none found)

  gathered : (n : ℕ) → Gathers n
  gathered zero found s = refl
  gathered (suc n) found s = chosen n (gathered n) found s (passes test s.rest)

regrouped : (o : Outcome (List (Tree × List ℕ))) (found : Parts) (k : Parts → Reader Tree)
    → and_then {B = Tree} o (λ more s. k (behind found more) s) ≡ and_then {B = Tree} (and_then {B = Parts} o (λ more s. Found (behind found more) s)) k
regrouped (Found xs s) found k = refl
regrouped (Failed e s) found k = refl

module _ (turns : ℕ) (rec : Wanted → Reader Tree) (within : Within) (free : Bool) where
  abbrev begun : Word → Tree → Parts
  begun first value = record { texts = first.text ∷ []; inserted = value ∷ [] }

  abbrev ended : Word → Parts → Reader Tree
  ended first parts = holder last_text >>= λ last. pure (tree.Insertions first.at (parts.texts ++ last.text ∷ []) parts.inserted)

  behind_value : (first : Word) (value : Tree) (s : State)
      → and_then {B = Tree} (many (seen l.TextMiddle) (part_behind turns rec within free) turns s) (λ more. ended first (behind (begun first value) more))
      ≡ and_then {B = Tree} (repeated (seen l.TextMiddle) (step (part_behind turns rec within free)) turns (begun first value) s) (ended first)
  behind_value first value s =
      regrouped (many (seen l.TextMiddle) (part_behind turns rec within free) turns s) (begun first value) (ended first)
      ∙ ap (λ o. and_then o (ended first)) (gathered (seen l.TextMiddle) (part_behind turns rec within free) turns (begun first value) s)

  pub insertions_are : (s : State)
      → insertions turns rec within free s ≡ and_then (holder first_text s) (λ first s. and_then (grow first.at s) (λ _ s. insertions_behind turns rec within free first s))
  unfolding another
  insertions_are s = λ i. and_then (holder first_text s) (λ first s. and_then (grow first.at s) (λ _ s. and_then (inserted turns rec within free s) (λ value s. behind_value first value s i)))
