-- The laws of ancestors.
use Rattle.std.proofs.Common.{◌≡◌, List, [], ◌∷◌, ◌++◌, Some, refl, sym, ap, ◌∙◌, subst}
use Rattle.std.specs.Prelude.{slice_get}
use Rattle.cr_base.specs.declared.ids.ClassId.{ClassId}
use Rattle.cr_ancestors.specs.Above.{ups_of}
use Rattle.cr_ancestors.specs.Line as lines
use Rattle.cr_ancestors.specs.Line.{Line, Lines, kept, IsOnce, AreAncestors}
use Rattle.cr_ancestors.proofs.Kept.{kept_front, kept_once, once_none}

begins : (hierarchy : List (List ClassId)) (class : ClassId) (written : List ClassId) → Line hierarchy class written → slice_get (kept [] written) 0 ≡ Some class
begins hierarchy class written (lines.line one above parts) =
    let more = kept_front (class ∷ []) above in ap (λ (l : List ClassId). slice_get l 0) more.1

pub first : (hierarchy : List (List ClassId)) (class : ClassId) (ancestors : List ClassId) → AreAncestors hierarchy class ancestors → slice_get ancestors 0 ≡ Some class
first hierarchy class ancestors are = ap (λ (l : List ClassId). slice_get l 0) are.once ∙ begins hierarchy class are.written are.line

pub once : (hierarchy : List (List ClassId)) (class : ClassId) (ancestors : List ClassId) → AreAncestors hierarchy class ancestors → IsOnce ancestors
once hierarchy class ancestors are = subst IsOnce (sym are.once) (kept_once [] are.written once_none)

mutual
  pub line_one : (hierarchy : List (List ClassId)) (class : ClassId) (a b : List ClassId) → Line hierarchy class a → Line hierarchy class b → a ≡ b
  line_one hierarchy class a b (lines.line one above p) (lines.line other above' q) = ap (λ (l : List ClassId). class ∷ l) (lines_one hierarchy (ups_of hierarchy class) above above' p q)

  lines_one : (hierarchy : List (List ClassId)) (classes a b : List ClassId) → Lines hierarchy classes a → Lines hierarchy classes b → a ≡ b
  lines_one hierarchy classes a b lines.none lines.none = refl
  lines_one hierarchy classes a b (lines.some c cs its others one rest) (lines.some c' cs' its' others' one' rest') =
      ap (λ (l : List ClassId). l ++ others) (line_one hierarchy c its its' one one') ∙ ap (λ (l : List ClassId). its' ++ l) (lines_one hierarchy cs others others' rest rest')

pub only : (hierarchy : List (List ClassId)) (class : ClassId) (ancestors others : List ClassId) → AreAncestors hierarchy class ancestors → AreAncestors hierarchy class others → ancestors ≡ others
only hierarchy class ancestors others are also =
    are.once ∙ ap (kept []) (line_one hierarchy class are.written also.written are.line also.line) ∙ sym also.once
