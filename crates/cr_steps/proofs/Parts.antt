-- The parts of a row that come to values, by the table of parts.
use Rattle.std.proofs.Common.{◌≡◌, ℕ, zero, suc, ◌<◌, true, List, [], ◌∷◌, length, Some, refl, sym, subst, ◌∙◌}
use Rattle.std.specs.Prelude.{slice_get}
use Rattle.std.proofs.lemmas.Option.{slice_get_within, same_Some}
use Rattle.cr_base.specs.declared.ids.NodeId.{NodeId}
use Rattle.cr_core.specs.declared.row.Row.{Row}
use Rattle.cr_core.specs.declared.row.Within.{Within}
use Rattle.cr_core.specs.Arena.{inside}
use Rattle.cr_core.specs.Shape.{Role, Term, Portion, one, many, pairs, Fits, portions}
use Rattle.cr_core.specs.Standing.{AreParts}
use Rattle.cr_core.specs.Tree.{Contents, IsCore}
use Rattle.cr_stack.specs.Neat.{IsTerm}
use Rattle.cr_steps.specs.Step.{is_term, term_at, AreTerms}

role_term : (k : Role) → is_term k ≡ true → k ≡ Term
role_term Term e = refl
role_term k e = absurd (cc)

part_in : (rows : List Row) (r : Row) (w : Within) (low : ℕ) (ns : List NodeId) (ks : List Role) (ps : List Portion) (k : ℕ)
    → Fits ps ks → AreParts rows w low ns ks → term_at ps k ≡ true → (n : NodeId) × (slice_get ns k ≡ Some n) × IsTerm rows n
part_in rows r w low ns ks [] k fit are at = absurd (cc)
part_in rows r w low ns ks (many j ∷ ps) k fit are at = absurd (cc)
part_in rows r w low ns ks (pairs j ∷ ps) k fit are at = absurd (cc)
part_in rows r w low ns [] (one j ∷ ps) k fit are at = absurd fit
part_in rows r w low [] (i ∷ ks) (one j ∷ ps) k fit are at = absurd are
part_in rows r w low (n ∷ ns) (i ∷ ks) (one j ∷ ps) zero fit are at =
    (n, refl, record { row = are.1.row; stands = are.1.stands; role_is = are.1.role_is ∙ fit.0 ∙ role_term j at })
part_in rows r w low (n ∷ ns) (i ∷ ks) (one j ∷ ps) (suc k) fit are at = part_in rows r w (suc n.0) ns ks ps k fit.1 are.2 at

part_there : (t : Contents) → IsCore t → (n : NodeId) (r : Row) (k : ℕ) → slice_get t.rows n.0 ≡ Some r → term_at (portions r.form) k ≡ true → (p : NodeId) × (slice_get r.parts k ≡ Some p) × IsTerm t.rows p
part_there t core n r k at is =
    let row = core.arena.each n.0 r at in
    part_in t.rows r (inside r.form n.0 r.within) (suc n.0) r.parts row.there_for (portions r.form) k row.shape row.parts is

pub part_within : (t : Contents) → IsCore t → (n : NodeId) (r : Row) (k : ℕ) → slice_get t.rows n.0 ≡ Some r → term_at (portions r.form) k ≡ true → k < length r.parts
part_within t core n r k at is = let found = part_there t core n r k at is in slice_get_within r.parts k found.0 found.1

pub parts_are : (t : Contents) → IsCore t → (n : NodeId) (r : Row) → slice_get t.rows n.0 ≡ Some r → AreTerms t.rows r
parts_are t core n r at = λ k p is stands. let found = part_there t core n r k at is in subst (IsTerm t.rows) (same_Some found.0 p (sym found.1 ∙ stands)) found.2
