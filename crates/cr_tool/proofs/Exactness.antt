-- Endings come exactly where their causes hold.
use Rattle.std.proofs.Common.{◌≡◌, ℕ, ◌<◌, ◌≤◌, List, [], ◌∷◌, ◌++◌, length, map, sym, ap, ◌∙◌, arith, refl, inl, inr}
use Rattle.std.specs.List.{AllByRecursion}
use Rattle.std.proofs.lemmas.Bool.{cases_lt}
use Rattle.std.proofs.lemmas.List.{length-append}
use Rattle.cr_schedule.specs.declared.entry.Entry.{Entry}
use Rattle.cr_tool.specs.declared.ending.Ending.{Ending}
use Rattle.cr_tool.specs.declared.ending.Ending.TheVariants as ending
use Rattle.cr_tool.specs.declared.sums.Line.{Line}
use Rattle.cr_tool.specs.Sums.{IsUnbuilt, HasForm, spelling, text_of, most_lines}
use Rattle.cr_tool.specs.State.{State}
use Rattle.cr_tool.specs.Outside.{Outside, FailsWriting, IsWhole}
use Rattle.cr_tool.specs.Refusals.{Demand, list_of_sums, Takes, RefusalsAreExact}
use Rattle.cr_tool.specs.Answer.{CauseBefore, IsExact}
use Rattle.cr_tool.specs.Run.{CauseAfter, Cause, IsRun}

-- ---- a source is refused at one place

-- a line that has the form
abbrev IsGood : List ℕ → Type 0
IsGood text = (line : Line) × HasForm line × (text ≡ spelling line)

-- Of two ways to part the same lines, the shorter has a good line for its bad one; two of one length begin alike.
parts_agree : (good others : List Line) (bad other : List ℕ) (more rest : List (List ℕ)) → map spelling good ++ bad ∷ more ≡ map spelling others ++ other ∷ rest → AllByRecursion HasForm good → AllByRecursion HasForm others → (length good < length others → IsGood bad) × (length others < length good → IsGood other) × (length good ≡ length others → length (text_of good) ≡ length (text_of others))
parts_agree [] [] bad other more rest is form forms = (λ less. absurd (omega arith), λ less. absurd (omega arith), λ same. refl)
parts_agree [] (g ∷ gs) bad other more rest is form forms = (λ less. (g, forms.0, cc), λ less. absurd (omega arith), λ same. absurd (omega arith))
parts_agree (g ∷ gs) [] bad other more rest is form forms = (λ less. absurd (omega arith), λ less. (g, form.0, cc), λ same. absurd (omega arith))
parts_agree (g ∷ gs) (h ∷ hs) bad other more rest is form forms =
    let heads : spelling g ≡ spelling h = cc in
    let tails : map spelling gs ++ bad ∷ more ≡ map spelling hs ++ other ∷ rest = cc in
    let agree = parts_agree gs hs bad other more rest tails form.1 forms.1 in
    (λ less. agree.0 (omega arith), λ less. agree.1 (omega arith), λ same. omega (arith, agree.2 (omega arith), ap length heads, length-append (spelling g ++ 10 ∷ []) (text_of gs), length-append (spelling h ++ 10 ∷ []) (text_of hs), length-append (spelling g) (10 ∷ []), length-append (spelling h) (10 ∷ [])))

few_good : (source : List ℕ) (p : ℕ) (un : IsUnbuilt source p) → length un.good ≤ most_lines
few_good source p un = elim un.cause [ inl full ↦ omega arith | inr unlike ↦ omega (arith, unlike.0) ]

-- a bad line behind fewer than the most lines is not good
not_good : (source : List ℕ) (p : ℕ) (un : IsUnbuilt source p) → length un.good < most_lines → IsGood un.bad → ⊥
not_good source p un less good = elim un.cause [ inl full ↦ omega arith | inr unlike ↦ unlike.1 good.0 good.1 good.2 ]

pub one_place : (source : List ℕ) (p q : ℕ) → IsUnbuilt source p → IsUnbuilt source q → p ≡ q
one_place source p q one two =
    let agree = parts_agree one.good two.good one.bad two.bad one.more two.more (sym one.text ∙ two.text) one.form two.form in
    elim (cases_lt (length one.good) (length two.good)) [
      | inl less ↦ absurd (not_good source p one (omega (arith, less, few_good source q two)) (agree.0 less))
      | inr not_less ↦ elim (cases_lt (length two.good) (length one.good)) [
        | inl more ↦ absurd (not_good source q two (omega (arith, more, few_good source p one)) (agree.1 more))
        | inr not_more ↦ omega (arith, one.place, two.place, agree.2 (omega (arith, not_less, not_more)))
      ]
    ]

-- ---- each ending

pub exact_before : RefusalsAreExact → (demand : Demand) (done e : Ending) (bytes : List ℕ) (outside : Outside) → CauseBefore demand e bytes outside.source → IsExact demand done e bytes outside
exact_before law demand done (ending.Refused refusal) bytes outside cause = record {
  taken = λ takes short read write. absurd (law.never_both demand bytes refusal cause.0 takes);
  refused = λ other short read. inl (refusal, cause.0, refl);
  too_long = λ long read. absurd (omega (arith, cause.1.short));
}
exact_before law demand done ending.SourceTooLong bytes outside cause = record {
  taken = λ takes short read write. absurd (omega (arith, short, cause.0));
  refused = λ other short read. absurd (omega (arith, short, cause.0));
  too_long = λ long read. inl refl;
}
exact_before law demand done (ending.ReadFault place) bytes outside cause = record {
  taken = λ takes short read write. absurd (read cause.1);
  refused = λ other short read. absurd (read cause.1);
  too_long = λ long read. absurd (read cause.1);
}
exact_before law demand done ending.NoMemory bytes outside cause = record {
  taken = λ takes short read write. inr refl;
  refused = λ other short read. inr refl;
  too_long = λ long read. inr refl;
}
exact_before law demand done ending.Told bytes outside cause = absurd cause
exact_before law demand done ending.Finished bytes outside cause = absurd cause
exact_before law demand done ending.Usage bytes outside cause = absurd cause
exact_before law demand done (ending.WriteFault place) bytes outside cause = absurd cause

-- what a command did its work on is taken, and so is not refused
pub exact_done : (demand : Demand) (done : Ending) (bytes : List ℕ) (outside : Outside) → Takes demand bytes → IsWhole bytes outside.source → IsExact demand done done bytes outside
exact_done demand done bytes outside takes whole = record {
  taken = λ taken short read write. inl refl;
  refused = λ other short read. absurd (other takes);
  too_long = λ long read. absurd (omega (arith, long, whole.short));
}

pub exact_failed : (demand : Demand) (done e : Ending) (bytes : List ℕ) (outside : Outside) → Takes demand bytes → IsWhole bytes outside.source → FailsWriting outside.out → IsExact demand done e bytes outside
exact_failed demand done e bytes outside takes whole fails = record {
  taken = λ taken short read write. absurd (write fails);
  refused = λ other short read. absurd (other takes);
  too_long = λ long read. absurd (omega (arith, long, whole.short));
}

exact_after : (e : Ending) (bytes : List ℕ) (budget : ℕ) (outside : Outside) (history : List Entry) (errors : List ℕ) (begin end : State) → IsRun bytes budget outside history errors begin end → CauseAfter e budget outside.out history begin end → IsExact list_of_sums ending.Finished e bytes outside
exact_after ending.Finished bytes budget outside history errors begin end ran cause =
    exact_done list_of_sums ending.Finished bytes outside (ran.begins.lines, ran.begins.spelled) ran.whole
exact_after (ending.WriteFault place) bytes budget outside history errors begin end ran cause =
    exact_failed list_of_sums ending.Finished (ending.WriteFault place) bytes outside (ran.begins.lines, ran.begins.spelled) ran.whole cause.1
exact_after ending.NoMemory bytes budget outside history errors begin end ran cause = record {
  taken = λ takes short read write. inr refl;
  refused = λ other short read. inr refl;
  too_long = λ long read. inr refl;
}
exact_after ending.Told bytes budget outside history errors begin end ran cause = absurd cause
exact_after ending.Usage bytes budget outside history errors begin end ran cause = absurd cause
exact_after (ending.Refused refusal) bytes budget outside history errors begin end ran cause = absurd cause
exact_after ending.SourceTooLong bytes budget outside history errors begin end ran cause = absurd cause
exact_after (ending.ReadFault place) bytes budget outside history errors begin end ran cause = absurd cause

pub exact : RefusalsAreExact → (e : Ending) (bytes : List ℕ) (budget : ℕ) (outside : Outside) (history : List Entry) (errors : List ℕ) → Cause e bytes budget outside history errors → IsExact list_of_sums ending.Finished e bytes outside
exact law e bytes budget outside history errors (inl before) = exact_before law list_of_sums ending.Finished e bytes outside before.0
exact law e bytes budget outside history errors (inr ran) = exact_after e bytes budget outside history errors ran.0 ran.1 ran.2 ran.3
