-- Writes to a sink, one after another.
use Rattle.std.proofs.Common.{◌≡◌, ℕ, ◌+◌, ◌-◌, List, ◌++◌, length, take, drop, Option, Some, None, Result, Ok, Err, OnErr, subst, append_assoc}
use Rattle.std.proofs.Math.Seq.{take-append-add}
use Rattle.std.proofs.lemmas.List.{take-append-drop, take_rest}
use Rattle.cr_io.specs.Sink.{Appends, AppendsFront}

-- Two texts were written, one after the other.
pub Appends-append : (w w' w'' : Option (List ℕ)) (first second : List ℕ) → Appends w first w' → Appends w' second w'' → Appends w (first ++ second) w''
Appends-append None w' w'' first second a a' = tt
Appends-append (Some b) w' w'' first second a a' =
    let P : Option (List ℕ) → Type 0 = λ v. Appends v second w'' in
    let e : w'' ≡ Some ((b ++ first) ++ second) = subst P a a' in
    rw (← append_assoc) e

-- A text was written, and then a front of the next: a front of both.
pub AppendsFront-append : (w w' w'' : Option (List ℕ)) (first second both : List ℕ) → both ≡ first ++ second → Appends w first w' → AppendsFront w' second w'' → AppendsFront w both w''
AppendsFront-append None w' w'' first second both e a f = tt
AppendsFront-append (Some b) w' w'' first second both e a f =
    let P : Option (List ℕ) → Type 0 = λ v. AppendsFront v second w'' in
    let g = subst P a f in
    (length first + g.0, rw (e, take-append-add first second g.0, ← append_assoc) g.1)

-- A further front is done, and the rest of the text is left.
pub done_more : (text done rest : List ℕ) (n : ℕ) → text ≡ done ++ rest → text ≡ (done ++ take n rest) ++ take (length rest - n) (drop n rest)
done_more text done rest n e = rw (take_rest rest n, append_assoc, take-append-drop n rest) e

pub OnErr-any : {T E P : Type 0} (r : Result T E) → P → OnErr r P
OnErr-any (Ok x) p = tt
OnErr-any (Err e) p = p
