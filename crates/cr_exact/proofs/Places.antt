-- A form that names the place of its first token.
use Rattle.std.proofs.Common.{◌≡◌, ℕ, List, [], ◌∷◌, ◌++◌, refl, sym, ap, subst, ◌∙◌}
use Rattle.cr_syntax.specs.declared.token.Token.{Token}
use Rattle.cr_grammar.specs.Forms.{Form, place_of, from_first}
use Rattle.cr_readers.specs.declared.fault.ParseFault.TheVariants.{Unexpected}
use Rattle.cr_readers.specs.declared.fault.ParseFault.{ParseFault}
use Rattle.cr_readers.specs.Reader.{State, Found, Failed, Reader, Test, ◌>>=◌, place_at, here}
use Rattle.cr_exact.specs.Exact.{at, head, last_from, Stops, Effort, Enough, Ends, Finds, Refuses, Begins, Exact, Any}
use Rattle.cr_exact.specs.Exact.{Reaches, Clear}
use Rattle.cr_exact.proofs.Sequence.{head-place, same-head}

pub first_place : (w rest : List Token) → (w ≡ [] → ⊥) → place_at (w ++ rest) ≡ place_of w
first_place [] rest real = absurd (real refl)
first_place (t ∷ w) rest real = refl

-- What is spelled with one place is spelled with another.
module _ {effort : Effort} {A : Type 0} (R C : ℕ → Form A) (g : Test) (p : ℕ → Reader A) (ep : (place : ℕ) → Exact effort Any (R place) (C place) g (p place))
    (real : (place : ℕ) (w : List Token) (x : A) → R place w x → w ≡ [] → ⊥) (sure : (place : ℕ) (w : List Token) (x : A) → C place w x → w ≡ [] → ⊥)
    (moves : (place other : ℕ) (w : List Token) (x : A) → R place w x → (y : A) × R other w y) where
  abbrev now : Reader A
  now = here >>= p

  kept : (s s' : State) (front rest : List Token) → s.rest ≡ front ++ s'.rest → head rest ≡ head s'.rest → place_at (front ++ rest) ≡ place_at s.rest
  kept s s' front rest parts same = head-place _ _ (same-head s s' front rest parts same)

  here-found : (s : State) (x : A) (s' : State) → now s ≡ Found x s' → Finds (from_first R) now s x s'
  here-found s x s' e =
      let F = (ep (place_at s.rest)).found s x s' tt e in
      let is : place_at s.rest ≡ place_of F.front = ap place_at F.parts ∙ first_place F.front s'.rest (real _ F.front x F.spelled) in
      record {
        front = F.front;
        parts = F.parts;
        ends = F.ends;
        spelled = subst (λ v. R v F.front x) is F.spelled;
        again = λ rest same. ap (λ v. p v (at s (F.front ++ rest))) (kept s s' F.front rest F.parts same) ∙ F.again rest same;
      }

  here-refused : (s : State) (n : ℕ) (s' : State) → now s ≡ Failed (Unexpected n) s' → Refuses (from_first R) now s n s'
  here-refused s n s' e =
      let F = (ep (place_at s.rest)).refused s n s' tt e in
      let there = moves _ (place_of (F.front ++ F.more)) (F.front ++ F.more) F.value F.begins in
      record {
        front = F.front;
        parts = F.parts;
        place = F.place;
        more = F.more;
        value = there.0;
        begins = there.1;
        again = λ rest same. ap (λ v. p v (at s (F.front ++ rest))) (kept s s' F.front rest F.parts same) ∙ F.again rest same;
      }

  here-begun : (s : State) (e : ParseFault) (s' : State) → now s ≡ Failed e s' → Begins (from_first R) s s'
  here-begun s e s' failed =
      let F = (ep (place_at s.rest)).begun s e s' tt failed in
      record {
        front = F.front;
        parts = F.parts;
        begins = λ real.
            let B = F.begins real in
            let there = moves _ (place_of (F.front ++ B.0)) (F.front ++ B.0) B.1 B.2 in
            (B.0, there.0, there.1);
      }

  here-complete : (w : List Token) (x : A) (s : State) (rest : List Token) → from_first C w x → s.rest ≡ w ++ rest → Stops g rest
      → Ends (Enough effort s) (now s) x (last_from s.before w) rest s.limited
  here-complete w x s rest c e stop =
      let is : place_at s.rest ≡ place_of w = ap place_at e ∙ first_place w rest (sure _ w x c) in
      subst (λ v. Ends (Enough effort s) (p v s) x (last_from s.before w) rest s.limited) (sym is)
      ((ep (place_of w)).complete w x s rest tt c e stop)

  here-reaches : (w : List Token) (x : A) (s : State) (rest : List Token) → from_first C w x → s.rest ≡ w ++ rest → Clear rest → Reaches (now s) x rest
  here-reaches w x s rest c e clear =
      let is : place_at s.rest ≡ place_of w = ap place_at e ∙ first_place w rest (sure _ w x c) in
      subst (λ v. Reaches (p v s) x rest) (sym is) ((ep (place_of w)).reaches w x s rest tt c e clear)

  pub exact_here : Exact effort Any (from_first R) (from_first C) g now
  exact_here = record {
    found = λ s x s' pre e. here-found s x s' e;
    refused = λ s n s' pre e. here-refused s n s' e;
    begun = λ s d s' pre e. here-begun s d s' e;
    complete = λ w x s rest pre c e stop. here-complete w x s rest c e stop;
    reaches = λ w x s rest pre c e clear. here-reaches w x s rest c e clear;
  }
