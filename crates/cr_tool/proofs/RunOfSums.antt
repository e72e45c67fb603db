-- What a list of sums does along its history.
use Rattle.std.proofs.Common.{◌≡◌, ◌≢◌, ℕ, zero, suc, ◌+◌, ◌-◌, ◌<◌, ◌^◌, pos, ◌+ℤ◌, true, false, List, [], ◌∷◌, ◌++◌, map, Option, Some, None, IfSome, option_and_then, ap, ◌∙◌, subst, arith, refl, zero-add, suc-add}
use Rattle.std.proofs.lemmas.List.{append-nil, append_assoc}
use Rattle.std.specs.List.{AllByRecursion}
use Rattle.std.proofs.lemmas.Bool.{ne_eqb, lt-ltb}
use Rattle.std.proofs.lemmas.Str.Parse.{digit_from_value}
use Rattle.std.specs.Char.{digit_value}
use Rattle.std.specs.Str.Parse.{AllDigits}
use Rattle.std.specs.Fmt.{decimal}
use Rattle.cr_value.specs.declared.value.Value.TheVariants.{Nil}
use Rattle.cr_schedule.specs.declared.entry.Entry.{Entry}
use Rattle.cr_schedule.specs.declared.entry.Entry.TheVariants.{Steps}
use Rattle.cr_tool.specs.declared.sums.Sum.{Sum}
use Rattle.cr_tool.specs.declared.sums.Line.{Line}
use Rattle.cr_tool.specs.declared.sums.Line.TheVariants.{Blank, Puts}
use Rattle.cr_tool.specs.Sums.{IsLiteral, IsSum, HasForm}
use Rattle.cr_tool.specs.Term.{Term, value, puts, seq, is_int32, ended}
use Rattle.cr_tool.specs.State.{State, status_with, start, reduce, reductions, run, without_last, done, main_status}
use Rattle.cr_tool.specs.Program.{literal, operand, statement, sequence, sums_of, program}
use Rattle.cr_tool.specs.Writing.{total_of, output_line, output_of, additions, turns_of, history_of}
use Rattle.cr_tool.proofs.Literals.{own}
use Rattle.cr_tool.proofs.Done.{turns_more}
use Rattle.std.proofs.lemmas.Fmt.{digits_decimal}

-- main alone, at this term, after this output
abbrev pub at : Term → List ℕ → State
at term output = record { fibers = record { term = term; context = 0; status = status_with term } ∷ []; output = output; errors = [] }

-- ---- one statement

digit_not_ten : (c : ℕ) → digit_value c < 10 → c ≢ 10
digit_not_ten c digit is = omega (arith, (digit_from_value c digit).0)

ended-digits : (text : List ℕ) → AllDigits 10 text → ended text ≡ text ++ 10 ∷ []
ended-digits [] digits = refl
ended-digits (c ∷ []) digits = rw (ne_eqb c 10 (λ is. digit_not_ten c digits.0 is)) refl
ended-digits (c ∷ d ∷ cs) digits = ap (λ (t : List ℕ). c ∷ t) (ended-digits (d ∷ cs) digits.1)

pub ended-decimal : (n : ℕ) → n < 2 ^ 64 → ended (decimal n) ≡ decimal n ++ 10 ∷ []
ended-decimal n small = ended-digits (decimal n) (digits_decimal own n small)

-- the reductions of a statement alone
abbrev pub cost : Sum → ℕ
cost s = additions s.second + 1

fits : (a b : ℕ) → IsLiteral a → IsLiteral b → is_int32 (pos a +ℤ pos b) ≡ true
fits a b small_a small_b = lt-ltb (a + b) 2147483648 (omega arith)

wrote : (output : List ℕ) (n : ℕ) → n < 2 ^ 64 → output ++ [] ++ ended (decimal n) ≡ output ++ (decimal n ++ 10 ∷ [])
wrote output n small = ap (λ (o : List ℕ). o ++ ended (decimal n)) (append-nil output) ∙ ap (λ (t : List ℕ). output ++ t) (ended-decimal n small)

alone : (first : ℕ) (second : Option ℕ) (output : List ℕ) → IsLiteral first → IfSome second IsLiteral → reductions (additions second + 1) (at (puts (operand first second)) output) 0 ≡ Some (at (value Nil) (output ++ (decimal (total_of first second) ++ 10 ∷ [])))
alone first None output small none = ap (λ (text : List ℕ). Some (at (value Nil) (output ++ text))) (ended-decimal first (omega arith))
alone first (Some second) output small_first small_second =
    let whole : is_int32 (pos first +ℤ pos second) ≡ true = fits first second small_first small_second in
    rw whole (ap (λ (o : List ℕ). Some (at (value Nil) o)) (wrote output (first + second) (omega arith)))

before : (first : ℕ) (second : Option ℕ) (rest : Term) (output : List ℕ) → IsLiteral first → IfSome second IsLiteral → reductions (additions second + 1) (at (seq (puts (operand first second)) rest) output) 0 ≡ Some (at (seq (value Nil) rest) (output ++ (decimal (total_of first second) ++ 10 ∷ [])))
before first None rest output small none = ap (λ (text : List ℕ). Some (at (seq (value Nil) rest) (output ++ text))) (ended-decimal first (omega arith))
before first (Some second) rest output small_first small_second =
    let whole : is_int32 (pos first +ℤ pos second) ≡ true = fits first second small_first small_second in
    rw whole (ap (λ (o : List ℕ). Some (at (seq (value Nil) rest) o)) (wrote output (first + second) (omega arith)))

going_on : (rest : Term) (output : List ℕ) → reduce (at (seq (value Nil) rest) output) 0 ≡ Some (at rest output)
going_on rest output = ap (λ (o : List ℕ). Some (at rest o)) (append-nil output)

-- ---- some statements in a row

reductions-add : (m n : ℕ) (s t : State) (f : ℕ) → reductions m s f ≡ Some t → reductions (m + n) s f ≡ reductions n t f
reductions-add zero n s t f is =
    let same : s ≡ t = cc in
    rw zero-add (ap (λ (x : State). reductions n x f) same)
reductions-add (suc m) n s t f is = rw suc-add (
    elim (reduce s f) as (λ o. option_and_then (λ mid. reductions m mid f) o ≡ Some t → option_and_then (λ mid. reductions (m + n) mid f) o ≡ reductions n t f) [
      | None ↦ λ never. absurd (let no_state : ⊥ = cc in no_state)
      | Some mid ↦ λ rest. reductions-add m n mid t f rest
    ] is)

-- the term behind some statements
abbrev pub behind : List Sum → Term
behind [] = value Nil
behind (s ∷ ss) = seq (value Nil) (sequence (map statement (s ∷ ss)))

abbrev pub AreSums : List Sum → Type 0
AreSums sums = AllByRecursion IsSum sums

one : (s : Sum) (rest : List Sum) (output : List ℕ) → IsSum s → reductions (cost s) (at (sequence (map statement (s ∷ rest))) output) 0 ≡ Some (at (behind rest) (output ++ output_line s))
one s [] output form = alone s.first s.second output form.0 form.1
one s (r ∷ rs) output form = before s.first s.second (sequence (map statement (r ∷ rs))) output form.0 form.1

pub evaluates : (s : Sum) (front rest : List Sum) (output : List ℕ) → AreSums (s ∷ front) → reductions (turns_of (s ∷ front) - 1) (at (sequence (map statement (s ∷ front ++ rest))) output) 0 ≡ Some (at (behind rest) (output ++ output_of (s ∷ front)))
evaluates s [] rest output form =
    let count : turns_of (s ∷ []) - 1 ≡ cost s = omega arith in
    rw (count, append-nil) (one s rest output form.0)
evaluates s (t ∷ ts) rest output form =
    let count : turns_of (s ∷ t ∷ ts) - 1 ≡ cost s + suc (turns_of (t ∷ ts) - 1) = omega arith in
    rw count (
    reductions-add (cost s) (suc (turns_of (t ∷ ts) - 1)) _ _ 0 (one s (t ∷ ts ++ rest) output form.0)
    ∙ ap (option_and_then (λ mid. reductions (turns_of (t ∷ ts) - 1) mid 0)) (going_on (sequence (map statement (t ∷ ts ++ rest))) (output ++ output_line s))
    ∙ evaluates t ts rest (output ++ output_line s) form.1
    ∙ ap (λ (o : List ℕ). Some (at (behind rest) o)) (append_assoc output (output_line s) (output_of (t ∷ ts))))

-- ---- the history of a list of sums

sums_form : (lines : List Line) → AllByRecursion HasForm lines → AreSums (sums_of lines)
sums_form [] form = tt
sums_form (Blank ∷ lines) form = sums_form lines form.1
sums_form (Puts s ∷ lines) form = (form.0, sums_form lines form.1)

front_form : (front rest : List Sum) → AreSums (front ++ rest) → AreSums front
front_form [] rest form = tt
front_form (s ∷ ss) rest form = (form.0, front_form ss rest form.1)

-- what a history leads to
pub record Reaches (lines : List Line) (history : List Entry) (front rest : List Sum) : Type 0 where
  pub end : State
  pub legal : run (start (program lines)) history ≡ Some end
  pub output : end.output ≡ output_of front
  pub no_errors : end.errors ≡ []
  pub ended : rest ≡ [] → main_status end ≡ Some (done false)

legal_run : (s : State) (n : ℕ) (end : State) → reductions (suc n) s 0 ≡ Some end → run s (Steps (record { 0 = 0 }) (suc n) None None None ∷ []) ≡ Some end
legal_run s n end is = ap (option_and_then (λ mid. Some mid)) is

pub reaches : (lines : List Line) (front rest : List Sum) → AllByRecursion HasForm lines → sums_of lines ≡ front ++ rest → Reaches lines (history_of (turns_of front)) front rest
reaches lines [] rest form is = record {
  end = start (program lines);
  legal = refl;
  output = refl;
  no_errors = refl;
  ended = λ none. ap (λ (sums : List Sum). Some (status_with (sequence (map statement sums)))) (is ∙ none);
}
reaches lines (s ∷ ss) rest form is =
    let more = additions s.second + turns_of ss in
    let count : turns_of (s ∷ ss) ≡ suc (suc more) = omega arith in
    let same_count : suc more ≡ turns_of (s ∷ ss) - 1 = omega arith in
    let evaluated : reductions (suc more) (start (program lines)) 0 ≡ Some (at (behind rest) (output_of (s ∷ ss))) =
    ap (λ (sums : List Sum). reductions (suc more) (at (sequence (map statement sums)) []) 0) is
    ∙ ap (λ (n : ℕ). reductions n (at (sequence (map statement (s ∷ ss ++ rest))) []) 0) same_count
    ∙ evaluates s ss rest [] (front_form (s ∷ ss) rest (subst AreSums is (sums_form lines form)))
    in
    record {
      end = at (behind rest) (output_of (s ∷ ss));
      legal = ap (λ n. run (start (program lines)) (history_of n)) count ∙ legal_run (start (program lines)) more _ evaluated;
      output = refl;
      no_errors = refl;
      ended = λ none. rw none refl;
    }

pub turns_whole : (sums : List Sum) → turns_of sums ≢ 1
turns_whole [] is = omega arith
turns_whole (s ∷ ss) is = omega arith

-- ---- up to the last reduction

-- the term of some statements, of which the first has its number and is to write it
abbrev pub counted : Sum → List Sum → Term
counted s [] = puts (literal (total_of s.first s.second))
counted s (r ∷ rs) = seq (puts (literal (total_of s.first s.second))) (sequence (map statement (r ∷ rs)))

adds_alone : (first : ℕ) (second : Option ℕ) (output : List ℕ) → IsLiteral first → IfSome second IsLiteral → reductions (additions second) (at (puts (operand first second)) output) 0 ≡ Some (at (puts (literal (total_of first second))) output)
adds_alone first None output small none = refl
adds_alone first (Some second) output small_first small_second =
    let whole : is_int32 (pos first +ℤ pos second) ≡ true = fits first second small_first small_second in
    rw whole (ap (λ (o : List ℕ). Some (at (puts (literal (first + second))) o)) (append-nil output))

adds_before : (first : ℕ) (second : Option ℕ) (rest : Term) (output : List ℕ) → IsLiteral first → IfSome second IsLiteral → reductions (additions second) (at (seq (puts (operand first second)) rest) output) 0 ≡ Some (at (seq (puts (literal (total_of first second))) rest) output)
adds_before first None rest output small none = refl
adds_before first (Some second) rest output small_first small_second =
    let whole : is_int32 (pos first +ℤ pos second) ≡ true = fits first second small_first small_second in
    rw whole (ap (λ (o : List ℕ). Some (at (seq (puts (literal (first + second))) rest) o)) (append-nil output))

adds : (s : Sum) (rest : List Sum) (output : List ℕ) → IsSum s → reductions (additions s.second) (at (sequence (map statement (s ∷ rest))) output) 0 ≡ Some (at (counted s rest) output)
adds s [] output form = adds_alone s.first s.second output form.0 form.1
adds s (r ∷ rs) output form = adds_before s.first s.second (sequence (map statement (r ∷ rs))) output form.0 form.1

up_to : (before : List Sum) (last : Sum) (rest : List Sum) → AreSums before → reductions (turns_of before) (at (sequence (map statement (before ++ last ∷ rest))) []) 0 ≡ Some (at (sequence (map statement (last ∷ rest))) (output_of before))
up_to [] last rest form = refl
up_to (s ∷ ss) last rest form =
    let count : turns_of (s ∷ ss) ≡ turns_of (s ∷ ss) - 1 + 1 = omega arith in
    ap (λ (n : ℕ). reductions n (at (sequence (map statement (s ∷ ss ++ last ∷ rest))) []) 0) count
    ∙ reductions-add (turns_of (s ∷ ss) - 1) 1 _ _ 0 (evaluates s ss (last ∷ rest) [] form)
    ∙ ap (option_and_then (λ (mid : State). Some mid)) (going_on (sequence (map statement (last ∷ rest))) (output_of (s ∷ ss)))

last_form : (before : List Sum) (last : Sum) (rest : List Sum) → AreSums (before ++ last ∷ rest) → IsSum last
last_form [] last rest form = form.0
last_form (s ∷ ss) last rest form = last_form ss last rest form.1

all_but_last : (s : State) (n : ℕ) (end : State) → reductions n s 0 ≡ Some end → run s (without_last (history_of (suc (suc n)))) ≡ Some end
all_but_last s zero end is = is
all_but_last s (suc n) end is = legal_run s n end is

-- what a history leads to without its last reduction, which writes the line of its last sum
pub record ReachesBefore (lines : List Line) (history : List Entry) (before : List Sum) : Type 0 where
  pub end : State
  pub legal : run (start (program lines)) (without_last history) ≡ Some end
  pub output : end.output ≡ output_of before

pub reaches_before : (lines : List Line) (before : List Sum) (last : Sum) (rest : List Sum) → AllByRecursion HasForm lines → sums_of lines ≡ before ++ last ∷ rest → ReachesBefore lines (history_of (turns_of (before ++ last ∷ []))) before
reaches_before lines before last rest form is =
    let forms = subst AreSums is (sums_form lines form) in
    let most = turns_of before + additions last.second in
    let count : turns_of (before ++ last ∷ []) ≡ suc (suc most) = omega (arith, turns_more before last) in
    let reached : reductions most (start (program lines)) 0 ≡ Some (at (counted last rest) (output_of before)) =
    ap (λ (sums : List Sum). reductions most (at (sequence (map statement sums)) []) 0) is
    ∙ reductions-add (turns_of before) (additions last.second) _ _ 0 (up_to before last rest (front_form before (last ∷ rest) forms))
    ∙ adds last rest (output_of before) (last_form before last rest forms)
    in
    record {
      end = at (counted last rest) (output_of before);
      legal = ap (λ (n : ℕ). run (start (program lines)) (without_last (history_of n))) count ∙ all_but_last (start (program lines)) most _ reached;
      output = refl;
    }
