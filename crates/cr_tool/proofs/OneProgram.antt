-- A source spells one list of sums.
use Rattle.std.proofs.Common.{◌≡◌, ℕ, List, [], ◌∷◌, length, map, Option, None, Some, IfSome, sym, ap, ◌∙◌, arith, refl}
use Rattle.std.specs.List.{AllByRecursion}
use Rattle.std.specs.Fmt.{decimal}
use Rattle.std.proofs.lemmas.Fmt.{decimal_injective}
use Rattle.std.proofs.lemmas.List.{length-append, get_or_append_left}
use Rattle.cr_tool.specs.declared.sums.Sum.{Sum}
use Rattle.cr_tool.specs.declared.sums.Line.{Line}
use Rattle.cr_tool.specs.declared.sums.Line.TheVariants.{Blank, Puts}
use Rattle.cr_tool.specs.Sums.{IsFirst, IsLiteral, IsSum, plus, sum_text, HasForm, spelling, Spells}
use Rattle.cr_tool.proofs.Literals.{literal_no_space}
use Rattle.cr_tool.proofs.SumTexts.{at_seam, plus_space, sum_parts}

-- the first space of a sum's text stands behind its first literal
space_of : (s : Sum) → IsSum s → IsFirst 32 (sum_text s) (length (decimal s.first))
space_of s form = record {
  within = omega (arith, length-append (decimal s.first) (plus s.second));
  before = λ k early is. literal_no_space s.first form.0 k early (sym (get_or_append_left (decimal s.first) (plus s.second) 0 k early) ∙ is);
  found = λ more. at_seam (decimal s.first) (plus s.second) ∙ plus_space s.second (omega (arith, more, length-append (decimal s.first) (plus s.second)));
}

plus_injective : (a b : Option ℕ) → IfSome a IsLiteral → IfSome b IsLiteral → plus a ≡ plus b → a ≡ b
plus_injective None None small_a small_b is = refl
plus_injective None (Some n) small_a small_b is = cc
plus_injective (Some m) None small_a small_b is = cc
plus_injective (Some m) (Some n) small_a small_b is =
    let digits : decimal m ≡ decimal n = cc in
    ap (λ (k : ℕ). Some k) (decimal_injective m n (omega arith) (omega arith) digits)

abbrev sum_by : ℕ × Option ℕ → Sum
sum_by parts = record { first = parts.0; second = parts.1 }

sum_injective : (s t : Sum) → IsSum s → IsSum t → sum_text s ≡ sum_text t → s ≡ t
sum_injective s t form_s form_t is =
    let i = length (decimal s.first) in
    let of_s = sum_parts s (sum_text s) i form_s refl (space_of s form_s) in
    let of_t = sum_parts t (sum_text s) i form_t is (space_of s form_s) in
    let first : s.first ≡ t.first = decimal_injective s.first t.first (omega (arith, form_s.0)) (omega (arith, form_t.0)) (sym of_s.0 ∙ of_t.0) in
    let second : s.second ≡ t.second = plus_injective s.second t.second form_s.1 form_t.1 (sym of_s.1 ∙ of_t.1) in
    let both : ◌≡◌ {A = ℕ × Option ℕ} (s.first, s.second) (t.first, t.second) = rw (first, second) refl in
    ap sum_by both

line_injective : (a b : Line) → HasForm a → HasForm b → spelling a ≡ spelling b → a ≡ b
line_injective Blank Blank form_a form_b is = refl
line_injective Blank (Puts t) form_a form_b is = cc
line_injective (Puts s) Blank form_a form_b is = cc
line_injective (Puts s) (Puts t) form_a form_b is =
    let texts : sum_text s ≡ sum_text t = cc in
    ap (λ (u : Sum). Puts u) (sum_injective s t form_a form_b texts)

lines_injective : (xs ys : List Line) → AllByRecursion HasForm xs → AllByRecursion HasForm ys → map spelling xs ≡ map spelling ys → xs ≡ ys
lines_injective [] [] form_x form_y is = refl
lines_injective [] (y ∷ ys) form_x form_y is = cc
lines_injective (x ∷ xs) [] form_x form_y is = cc
lines_injective (x ∷ xs) (y ∷ ys) form_x form_y is =
    let heads : spelling x ≡ spelling y = cc in
    let tails : map spelling xs ≡ map spelling ys = cc in
    let first = line_injective x y form_x.0 form_y.0 heads in
    let rest = lines_injective xs ys form_x.1 form_y.1 tails in
    cc

pub one_program : (source : List ℕ) (xs ys : List Line) → Spells source xs → Spells source ys → xs ≡ ys
one_program source xs ys one two = lines_injective xs ys one.form two.form (sym one.text ∙ two.text)
