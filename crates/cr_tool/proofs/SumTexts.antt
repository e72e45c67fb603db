-- Where a sum's text has its first space.
use Rattle.std.proofs.Common.{◌≡◌, ℕ, ◌<◌, List, [], ◌∷◌, ◌∙◌, ◌++◌, length, get_or, take, drop, Option, None, Some, inl, inr, ◌⊎◌, arith, refl}
use Rattle.std.proofs.lemmas.List.{length-append, get_or_append_left}
use Rattle.std.proofs.Math.Seq.{take-append_seam, drop-append_seam}
use Rattle.std.specs.Fmt.{decimal}
use Rattle.cr_tool.specs.declared.sums.Sum.{Sum}
use Rattle.cr_tool.specs.Sums.{IsFirst, IsLiteral, IsSum, plus, sum_text}
use Rattle.cr_tool.proofs.Literals.{literal_no_space}

-- nothing, or a space first
abbrev Ends : List ℕ → Type 0
Ends rest = (length rest ≡ 0) ⊎ ((0 < length rest) × (get_or rest 0 0 ≡ 32))

plus_ends : (n : Option ℕ) → Ends (plus n)
plus_ends None = inl refl
plus_ends (Some n) = inr (omega arith, refl)

pub at_seam : (xs ys : List ℕ) → get_or (xs ++ ys) (length xs) 0 ≡ get_or ys 0 0
at_seam [] ys = refl
at_seam (x ∷ xs) ys = at_seam xs ys

-- what follows a literal begins with a space
pub plus_space : (n : Option ℕ) → 0 < length (plus n) → get_or (plus n) 0 0 ≡ 32
plus_space None some = absurd (omega arith)
plus_space (Some n) some = refl

-- the first space stands behind the literal
first_space : (n i : ℕ) (rest : List ℕ) → IsLiteral n → Ends rest → IsFirst 32 (decimal n ++ rest) i → i ≡ length (decimal n)
first_space n i rest small (inl none) space =
    let all = length-append (decimal n) rest in
    let clash : i < length (decimal n) → ⊥ = λ early. literal_no_space n small i early (rw (← get_or_append_left (decimal n) rest 0 i early) (space.found (omega arith))) in
    grind (arith, space.within, clash)
first_space n i rest small (inr some) space =
    let all = length-append (decimal n) rest in
    let early : i < length (decimal n) → ⊥ = λ early. literal_no_space n small i early (rw (← get_or_append_left (decimal n) rest 0 i early) (space.found (omega arith))) in
    let late : length (decimal n) < i → ⊥ = λ late. space.before (length (decimal n)) late (at_seam (decimal n) rest ∙ some.1) in
    grind (arith, space.within, early, late)

-- the first space of a sum's text parts it
pub sum_parts : (s : Sum) (text : List ℕ) (i : ℕ) → IsSum s → text ≡ sum_text s → IsFirst 32 text i → (take i text ≡ decimal s.first) × (drop i text ≡ plus s.second)
sum_parts s text i form is space =
    let at = first_space s.first i (plus s.second) form.0 (plus_ends s.second) (rw is at space) in
    (rw (is, at) (take-append_seam (decimal s.first) (plus s.second)), rw (is, at) (drop-append_seam (decimal s.first) (plus s.second)))
