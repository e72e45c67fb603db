-- A tree that is there already, and what is read behind it, are put together at the end.
use Rattle.std.proofs.Common.{◌≡◌, ℕ, Bool, List, [], ◌∷◌, Option, None, refl, sym}
use Rattle.cr_syntax.specs.declared.look.TokenLook.{TokenLook}
use Rattle.cr_grammar.specs.declared.operator.Assignment.{Assignment}
use Rattle.cr_grammar.specs.declared.tree.Tree.{Tree}
use Rattle.cr_grammar.specs.declared.tree.Tree.TheVariants as tree
use Rattle.cr_grammar.specs.declared.within.Within.{Within}
use Rattle.cr_grammar.specs.declared.wanted.Wanted.{Wanted}
use Rattle.cr_grammar.specs.declared.wanted.Wanted.TheVariants.{Simple}
use Rattle.cr_syntax.specs.Look.{look_of}
use Rattle.cr_readers.specs.Reader.{Reader, State, Outcome, Found, Failed, and_then, pure, take, expect, wrap, part}
use Rattle.cr_readers.specs.Statements.{assigning_of, assignment, modified, simple}
use Rattle.cr_parse.specs.Rest.{assigned, assigned_of, condition, value_at}

-- what is read behind two steps that are one
and_then_assoc : {A B C : Type 0} (o : Outcome A) (f : A → Reader B) (g : B → Reader C)
    → and_then (and_then o f) g ≡ and_then o (λ x s. and_then (f x s) g)
and_then_assoc (Found x s) f g = refl
and_then_assoc (Failed e s) f g = refl

module _ (turns : ℕ) (rec : Wanted → Reader Tree) (within : Within) where
  behind_word : (at : ℕ) (x : Tree) (unless : Bool) (o : Outcome ℕ)
      → and_then o (λ place s. and_then (wrap place s) (λ _ s. and_then (part (simple turns rec within) s) (λ y s. Found (tree.If at unless y (x ∷ []) [] None) s)))
      ≡ and_then (and_then o (λ place s. and_then (wrap place s) (λ _ s. part (simple turns rec within) s))) (λ y s. Found (tree.If at unless y (x ∷ []) [] None) s)
  behind_word at x unless (Failed e s) = refl
  behind_word at x unless (Found place s) = sym (and_then_assoc (wrap place s) (λ _ s. part (simple turns rec within) s) (λ y s. Found (tree.If at unless y (x ∷ []) [] None) s))

  pub modified_steps : (at : ℕ) (x : Tree) (look : TokenLook) (unless : Bool) (s : State)
      → modified turns rec within at x look unless s ≡ and_then (condition turns rec within look s) (λ y s. Found (tree.If at unless y (x ∷ []) [] None) s)
  modified_steps at x look unless s = behind_word at x unless (expect look s)

  behind_value : (at : ℕ) (x : Tree) (place : ℕ) (operator : Assignment) (o : Outcome Tree)
      → and_then o (λ value s. Found (tree.Assign at x operator place value) s)
      ≡ and_then (and_then o (λ value s. Found (assigned_of place operator value) s)) (λ found s. Found (tree.Assign at x found.operator found.place found.value) s)
  behind_value at x place operator (Found value s) = refl
  behind_value at x place operator (Failed e s) = refl

  behind_wrap : (at : ℕ) (x : Tree) (place : ℕ) (operator : Assignment) (o : Outcome (Unit {0}))
      → and_then o (λ _ s. and_then (part (rec (Simple within)) s) (λ value s. Found (tree.Assign at x operator place value) s))
      ≡ and_then (and_then (and_then o (λ _ s. part (rec (Simple within)) s)) (λ value s. Found (assigned_of place operator value) s)) (λ found s. Found (tree.Assign at x found.operator found.place found.value) s)
  behind_wrap at x place operator (Found u s) = behind_value at x place operator (part (rec (Simple within)) s)
  behind_wrap at x place operator (Failed e s) = refl

  behind_operator : (at : ℕ) (x : Tree) (o : Outcome (ℕ × Assignment))
      → and_then o (λ found s. and_then (wrap found.0 s) (λ _ s. and_then (part (rec (Simple within)) s) (λ value s. Found (tree.Assign at x found.1 found.0 value) s)))
      ≡ and_then (and_then o (λ found s. and_then (value_at turns rec within found.0 s) (λ value s. Found (assigned_of found.0 found.1 value) s))) (λ found s. Found (tree.Assign at x found.operator found.place found.value) s)
  behind_operator at x (Found found s) = behind_wrap at x found.0 found.1 (wrap found.0 s)
  behind_operator at x (Failed e s) = refl

  pub assignment_steps : (at : ℕ) (x : Tree) (table : TokenLook → Option Assignment) (s : State)
      → assignment turns rec within at x table s ≡ and_then (assigned turns rec within table s) (λ found s. Found (tree.Assign at x found.operator found.place found.value) s)
  assignment_steps at x table s = behind_operator at x (take (λ t. assigning_of t (table (look_of t.kind))) s)
