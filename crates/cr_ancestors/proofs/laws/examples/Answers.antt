use Rattle.std.proofs.Common.{ℕ, [], ◌∷◌, ◌++◌, List, ◌≡◌, refl, sym, subst}
use Rattle.cr_base.specs.declared.ids.ClassId.{ClassId}
use Rattle.cr_ancestors.specs.Above.{ups_of}
use Rattle.cr_ancestors.specs.Line as lines
use Rattle.cr_ancestors.specs.Line.{Line, Lines}
use Rattle.cr_ancestors.specs.Examples.{number, numbers}
use Rattle.cr_ancestors.proofs.laws.examples.Goals as goal

-- above which nothing stands
alone : (hierarchy : List (List ClassId)) (n : ℕ) → ups_of hierarchy (number n) ≡ [] → Line hierarchy (number n) (number n ∷ [])
alone hierarchy n none = lines.line (number n) [] (subst (λ (l : List ClassId). Lines hierarchy l []) (sym none) lines.none)

pub returns-clause-last_included_first : goal.returns-clause-last_included_first
returns-clause-last_included_first c = record {
  written = numbers (1 ∷ 3 ∷ 2 ∷ 0 ∷ []);
  line = lines.line _ _ (lines.some _ _ _ _ (alone _ 3 refl) (lines.some _ _ _ _ (alone _ 2 refl) (lines.some _ _ _ _ (alone _ 0 refl) lines.none)));
  once = refl;
}

pub returns-clause-kept_where_it_first_stands : goal.returns-clause-kept_where_it_first_stands
returns-clause-kept_where_it_first_stands c = record {
  written = numbers (1 ∷ 3 ∷ 4 ∷ 2 ∷ 4 ∷ 0 ∷ []);
  line = lines.line _ _ (lines.some _ _ _ _ (lines.line (number 3) _ (lines.some _ _ _ _ (alone _ 4 refl) lines.none))
      (lines.some _ _ _ _ (lines.line (number 2) _ (lines.some _ _ _ _ (alone _ 4 refl) lines.none)) (lines.some _ _ _ _ (alone _ 0 refl) lines.none)));
  once = refl;
}

pub returns-clause-modules_before_the_superclass : goal.returns-clause-modules_before_the_superclass
returns-clause-modules_before_the_superclass c = record {
  written = numbers (1 ∷ 3 ∷ 2 ∷ 3 ∷ 0 ∷ []);
  line = lines.line _ _ (lines.some _ _ _ _ (alone _ 3 refl)
      (lines.some _ _ _ _ (lines.line (number 2) _ (lines.some _ _ _ _ (alone _ 3 refl) (lines.some _ _ _ _ (alone _ 0 refl) lines.none))) lines.none));
  once = refl;
}
