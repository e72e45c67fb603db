-- One text is the trace of at most one history, or has at most one first bad line.
use Rattle.std.proofs.Common.{◌≡◌, ℕ, ◌+◌, true, false, eqb, List, [], ◌∷◌, ◌++◌, length, All, Some, refl, sym, ap, ◌∙◌, append_assoc, arith, length-append}
use Rattle.std.proofs.lemmas.Bool.{eqb-true, eqb-false}
use Rattle.std.proofs.lemmas.Grind.{flat_map-append}
use Rattle.std.proofs.lemmas.List.{append-nil, nil_from_length}
use Rattle.cr_schedule.specs.declared.trace_line.TheConstants.{LINE_FEED}
use Rattle.std.proofs.lemmas.List.Elements.{All-head, All-tail, All-cons, All-nil, All-append}
use Rattle.cr_schedule.specs.declared.entry.Entry.{Entry}
use Rattle.cr_schedule.specs.Entry.{HasLine}
use Rattle.cr_schedule.specs.Trace.{line, ended_line, trace, IsTrace, BeginsNoLine, IsFirstBad}
use Rattle.cr_schedule.specs.Reading.{entry_at}
use Rattle.cr_schedule.proofs.Lines.{entry_again}

some_is : {A : Type 0} (x y : A) → Some x ≡ Some y → x ≡ y
some_is x y e = cc

-- a line and what follows it are told from the text
same_line : (e f : Entry) (r s : List ℕ) → HasLine e → HasLine f → ended_line e ++ r ≡ ended_line f ++ s → (e ≡ f) × (r ≡ s)
same_line e f r s has_e has_f is =
    let x : Entry × List ℕ = (e, r) in
    let y : Entry × List ℕ = (f, s) in
    let same : x ≡ y = some_is x y (sym (entry_again e r has_e) ∙ ap entry_at is ∙ entry_again f s has_f) in
    (ap (λ (z : Entry × List ℕ). z.0) same, ap (λ (z : Entry × List ℕ). z.1) same)

trace-cons : (e : Entry) (es : List Entry) (rest : List ℕ) → trace (e ∷ es) ++ rest ≡ ended_line e ++ (trace es ++ rest)
trace-cons e es rest = append_assoc (ended_line e) (trace es) rest

-- lines up to e place where none begins are told from the text
pub same_lines : (es fs : List Entry) (r s : List ℕ) → All HasLine es → All HasLine fs → BeginsNoLine r → BeginsNoLine s → trace es ++ r ≡ trace fs ++ s → (es ≡ fs) × (r ≡ s)
same_lines [] [] r s has_e has_f stop_r stop_s is = (refl, is)
same_lines [] (f ∷ fs) r s has_e has_f stop_r stop_s is = absurd (stop_r f (trace fs ++ s) (All-head HasLine f fs has_f) (is ∙ trace-cons f fs s))
same_lines (e ∷ es) [] r s has_e has_f stop_r stop_s is = absurd (stop_s e (trace es ++ r) (All-head HasLine e es has_e) (sym is ∙ trace-cons e es r))
same_lines (e ∷ es) (f ∷ fs) r s has_e has_f stop_r stop_s is =
    let first = same_line e f (trace es ++ r) (trace fs ++ s) (All-head HasLine e es has_e) (All-head HasLine f fs has_f) (sym (trace-cons e es r) ∙ is ∙ trace-cons f fs s) in
    let others = same_lines es fs r s (All-tail HasLine e es has_e) (All-tail HasLine f fs has_f) stop_r stop_s first.1 in
    let one : e ≡ f = first.0 in
    let more : es ≡ fs = others.0 in
    (cc, others.1)

begins_nothing : BeginsNoLine []
begins_nothing entry more has is = absurd (omega (arith, ap length is, length-append (line entry) (LINE_FEED ∷ []), length-append (ended_line entry) more))

pub same_history : (bytes : List ℕ) (es fs : List Entry) → IsTrace bytes es → IsTrace bytes fs → es ≡ fs
same_history bytes es fs is_e is_f =
    (same_lines es fs [] [] is_e.lines is_f.lines begins_nothing begins_nothing (append-nil (trace es) ∙ sym is_e.text ∙ is_f.text ∙ sym (append-nil (trace fs)))).0

pub same_bad_line : (bytes : List ℕ) (j k : ℕ) → IsFirstBad bytes j → IsFirstBad bytes k → j ≡ k
same_bad_line bytes j k is_j is_k =
    let same = same_lines is_j.before is_k.before is_j.rest is_k.rest is_j.lines is_k.lines is_j.bad is_k.bad (sym is_j.text ∙ is_k.text) in
    is_j.number_is ∙ ap (λ (es : List Entry). length es + 1) same.0 ∙ sym is_k.number_is

pub not_both : (bytes : List ℕ) (es : List Entry) (k : ℕ) → IsTrace bytes es → IsFirstBad bytes k → ⊥
not_both bytes es k is bad =
    let same = same_lines es bad.before [] bad.rest is.lines bad.lines begins_nothing bad.bad (append-nil (trace es) ∙ sym is.text ∙ bad.text) in
    omega (arith, ap length same.1, bad.some)

-- ---- reading line after line

pub bad_here : (bytes : List ℕ) (es : List Entry) (rest : List ℕ) (number : ℕ) → bytes ≡ trace es ++ rest → All HasLine es → eqb (length rest) 0 ≡ false → BeginsNoLine rest → number ≡ length es → IsFirstBad bytes (number + 1)
bad_here bytes es rest number text lines more bad is = record {
  before = es;
  rest = rest;
  lines = lines;
  text = text;
  number_is = ap (λ (n : ℕ). n + 1) is;
  some = omega (arith, eqb-false (length rest) 0 more);
  bad = bad;
}

pub whole_here : (bytes : List ℕ) (es : List Entry) (rest : List ℕ) → bytes ≡ trace es ++ rest → All HasLine es → eqb (length rest) 0 ≡ true → IsTrace bytes es
whole_here bytes es rest text lines ended = record {
  lines = lines;
  text = text ∙ ap (λ (t : List ℕ). trace es ++ t) (nil_from_length rest (eqb-true (length rest) 0 ended)) ∙ append-nil (trace es);
}

-- one line more
pub line_more : (bytes : List ℕ) (es : List Entry) (rest : List ℕ) (e : Entry) (after : List ℕ) (new : List Entry) → bytes ≡ trace es ++ rest → All HasLine es → HasLine e → rest ≡ ended_line e ++ after → new ≡ es ++ e ∷ [] → (bytes ≡ trace new ++ after) × All HasLine new
line_more bytes es rest e after new text lines has is pushed =
    let both : trace new ≡ trace es ++ ended_line e = ap trace pushed ∙ flat_map-append ended_line es (e ∷ []) ∙ ap (λ (t : List ℕ). trace es ++ t) (append-nil (ended_line e)) in
    let joined : trace new ++ after ≡ trace es ++ (ended_line e ++ after) = ap (λ (t : List ℕ). t ++ after) both ∙ append_assoc (trace es) (ended_line e) after in
    let last : All HasLine (e ∷ []) = All-cons HasLine e [] has (All-nil HasLine) in
    (text ∙ ap (λ (t : List ℕ). trace es ++ t) is ∙ sym joined, rw pushed (All-append HasLine es (e ∷ []) lines last))
