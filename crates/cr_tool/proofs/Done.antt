-- The sums that are done, one line after another.
use Rattle.std.proofs.Common.{◌≡◌, ℕ, ◌+◌, ◌<◌, ◌≤◌, List, [], ◌∷◌, ◌++◌, length, get_or, take, drop, Option, Some, None, sym, ap, ◌∙◌, arith, refl}
use Rattle.std.proofs.lemmas.List.{append-nil, append_assoc, take_more, take-append-drop}
use Rattle.std.proofs.lemmas.List.Concat.{flat_map-append}
use Rattle.cr_io.specs.Sink.{Appends, AppendsFront}
use Rattle.cr_tool.specs.declared.sums.Sum.{Sum}
use Rattle.cr_tool.specs.declared.sums.Line.{Line}
use Rattle.cr_tool.specs.declared.sums.Line.TheVariants.{Blank, Puts}
use Rattle.cr_tool.specs.declared.evaluation.Stop.{Stop}
use Rattle.cr_tool.specs.declared.evaluation.Stop.TheVariants as stop
use Rattle.cr_tool.specs.declared.evaluation.Evaluated.{Evaluated}
use Rattle.cr_tool.specs.Program.{sums_of}
use Rattle.cr_tool.specs.Writing.{output_line, output_of, additions, turns, turns_at, turns_of}
use Rattle.cr_tool.specs.Evaluated.{HasWritten}

sums_of-append : (xs ys : List Line) → sums_of (xs ++ ys) ≡ sums_of xs ++ sums_of ys
sums_of-append [] ys = refl
sums_of-append (Blank ∷ xs) ys = sums_of-append xs ys
sums_of-append (Puts s ∷ xs) ys = ap (λ (ss : List Sum). s ∷ ss) (sums_of-append xs ys)

turns_of-append : (xs ys : List Sum) → turns_of (xs ++ ys) ≡ turns_of xs + turns_of ys
turns_of-append [] ys = omega arith
turns_of-append (x ∷ xs) ys = omega (arith, turns_of-append xs ys)

additions_few : (n : Option ℕ) → additions n ≤ 1
additions_few None = omega arith
additions_few (Some n) = omega arith

pub turns_few : (s : Sum) → turns s ≤ 3
turns_few s = omega (arith, additions_few s.second)

pub turns_more : (xs : List Sum) (s : Sum) → turns_of (xs ++ s ∷ []) ≡ turns_of xs + turns s
turns_more xs s = omega (arith, turns_of-append xs (s ∷ []))

pub output_more : (xs : List Sum) (s : Sum) → output_of (xs ++ s ∷ []) ≡ output_of xs ++ output_line s
output_more xs s = flat_map-append output_line xs (s ∷ []) ∙ ap (λ (t : List ℕ). output_of xs ++ t) (append-nil (output_line s))

pub blank_more : (lines : List Line) (i : ℕ) → i < length lines → get_or lines i Blank ≡ Blank → sums_of (take (i + 1) lines) ≡ sums_of (take i lines)
blank_more lines i within is =
    ap sums_of (take_more lines i Blank within ∙ ap (λ (l : Line). take i lines ++ l ∷ []) is) ∙ sums_of-append (take i lines) (Blank ∷ []) ∙ append-nil (sums_of (take i lines))

pub puts_more : (lines : List Line) (i : ℕ) (s : Sum) → i < length lines → get_or lines i Blank ≡ Puts s → sums_of (take (i + 1) lines) ≡ sums_of (take i lines) ++ s ∷ []
puts_more lines i s within is =
    ap sums_of (take_more lines i Blank within ∙ ap (λ (l : Line). take i lines ++ l ∷ []) is) ∙ sums_of-append (take i lines) (Puts s ∷ [])

-- the sums of the first lines, and those of the rest
parts : (lines : List Line) (i : ℕ) → sums_of lines ≡ sums_of (take i lines) ++ sums_of (drop i lines)
parts lines i = sym (sym (sums_of-append (take i lines) (drop i lines)) ∙ ap sums_of (take-append-drop i lines))

pub appends_more : (old mid new : Option (List ℕ)) (a b : List ℕ) → Appends old a mid → Appends mid b new → Appends old (a ++ b) new
appends_more None mid new a b first then = tt
appends_more (Some bytes) mid new a b first then =
    let there : Appends (Some (bytes ++ a)) b new = rw first at then in
    there ∙ ap (λ (t : List ℕ). Some t) (append_assoc bytes a b)

appends_part : (old mid new : Option (List ℕ)) (a b : List ℕ) → Appends old a mid → AppendsFront mid b new → (n : ℕ) × Appends old (a ++ take n b) new
appends_part None mid new a b first then = (0, tt)
appends_part (Some bytes) mid new a b first then =
    let there : AppendsFront (Some (bytes ++ a)) b new = rw first at then in
    (there.0, there.1 ∙ ap (λ (t : List ℕ). Some t) (append_assoc bytes a (take there.0 b)))

-- An evaluation that stops at the sum of line i.
pub stopped_at : (lines : List Line) (i : ℕ) (s : Sum) (why : Stop) (old mid new : Option (List ℕ)) (turns : ℕ) (result : Evaluated) → i < length lines → get_or lines i Blank ≡ Puts s → turns ≡ turns_of (sums_of (take i lines)) → Appends old (output_of (sums_of (take i lines))) mid → result.stop ≡ Some why → result.turns ≡ turns + turns_at why s → (why ≡ stop.NoMemory → new ≡ mid) → (why ≡ stop.Failed → AppendsFront mid (output_line s) new) → HasWritten (sums_of lines) old new result
stopped_at lines i s stop.NoMemory old mid new turns result within is so_far wrote why count same failed = record {
  front = sums_of (take i lines);
  rest = sums_of (drop i lines);
  parts = parts lines i;
  all = λ end. absurd (let never : ⊥ = cc in never);
  turns_are = omega arith;
  writes = rw (why, same refl) wrote;
}
stopped_at lines i s stop.Failed old mid new turns result within is so_far wrote why count same failed =
    let part = appends_part old mid new (output_of (sums_of (take i lines))) (output_line s) wrote (failed refl) in
    record {
      front = sums_of (take (i + 1) lines);
      rest = sums_of (drop (i + 1) lines);
      parts = parts lines (i + 1);
      all = λ end. absurd (let never : ⊥ = cc in never);
      turns_are = omega (arith, ap turns_of (puts_more lines i s within is), turns_more (sums_of (take i lines)) s);
      writes = rw why (record { done = sums_of (take i lines); last = s; parts = puts_more lines i s within is; came = part.0; written = part.1 });
    }

-- an evaluation that stops for want of memory leaves the count of faults as it was
pub steady_at : (why : Stop) (answer : Option Stop) (first mid last : ℕ) → answer ≡ Some why → mid ≡ first → (why ≡ stop.NoMemory → last ≡ mid) → (answer ≡ Some stop.Failed → ⊥) → last ≡ first
steady_at stop.NoMemory answer first mid last is so_far same other = same refl ∙ so_far
steady_at stop.Failed answer first mid last is so_far same other = absurd (other is)
