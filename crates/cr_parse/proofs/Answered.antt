-- What is answered at a cursor: behind it stands what the reader left, and it is what is spelled within the limits, where anything is.
use Rattle.std.proofs.Common.{◌≡◌, ℕ, ◌<◌, ◌-◌, List, ◌++◌, length, drop, take, Result, Ok, Err, sym, ap, ◌∙◌, refl, subst, arith, length-append, append_assoc}
use Rattle.std.proofs.lemmas.List.{drop_at, length-drop, take-append-drop}
use Rattle.cr_syntax.specs.declared.token.Token.{Token}
use Rattle.cr_grammar.specs.declared.tree.Tree.{Tree}
use Rattle.cr_grammar.specs.declared.wanted.Wanted.{Wanted}
use Rattle.cr_readers.specs.declared.fault.ParseFault.{ParseFault}
use Rattle.cr_readers.specs.declared.fault.ParseFault.TheVariants.{Unexpected, TooDeep, TooManyNodes, NoMemory}
use Rattle.cr_readers.specs.Descent.{read}
use Rattle.cr_readers.specs.Reader.{State, Outcome, Found, Failed}
use Rattle.cr_readers.specs.Reads.{Reads}
use Rattle.cr_descent.specs.LimitLaws.{IsFoundIf, WithinIsFound}
use Rattle.cr_descent.specs.Programs.{IsOnly}
use Rattle.cr_parse.specs.Calls.{Accepts, IsDeepEnough}

-- ---- the place

-- all but the rest stands before the rest
behind_front : {A : Type 0} (start rest : List A) → drop (length (start ++ rest) - length rest) (start ++ rest) ≡ rest
behind_front start rest = drop_at start rest (length (start ++ rest) - length rest) (omega (arith, length-append start rest))

-- a rest of what is left is a rest of all
rest_of : {A : Type 0} (at : ℕ) (list front rest : List A) → drop at list ≡ front ++ rest → drop (length list - length rest) list ≡ rest
rest_of {A = A} at list front rest parts =
    let whole : take at list ++ front ++ rest ≡ list = append_assoc (take at list) front rest ∙ ap (λ l. take at list ++ l) (sym parts) ∙ take-append-drop at list in
    subst (λ l. drop (length l - length rest) l ≡ rest) whole (behind_front (take at list ++ front) rest)

-- the same where the rest is what another list has left
pub same_left : {A : Type 0} (at : ℕ) (list : List A) (place : ℕ) (ahead front : List A) → drop at list ≡ front ++ drop place ahead → drop (length list - (length ahead - place)) list ≡ drop place ahead
same_left at list place ahead front parts = subst (λ n. drop (length list - n) list ≡ drop place ahead) (length-drop place ahead) (rest_of at list front (drop place ahead) parts)

-- ---- what is spelled within the limits

only_failed : (o : Outcome Tree) (s : State) (e : ParseFault) (x : Tree) (rest : List Token) (enough : Type 0) → o ≡ Failed e s → IsFoundIf enough o x rest → e ≡ NoMemory
only_failed o s e x rest enough is found = (subst (λ (p : Outcome Tree). IsFoundIf enough p x rest) is found).0

only_found : (o : Outcome Tree) (s : State) (r : Result Tree ParseFault) (x : Tree) (rest : List Token) (enough : Type 0) → Reads o r s → IsFoundIf enough o x rest → IsOnly x r
only_found o s (Ok y) x rest enough reads found = (subst (λ (p : Outcome Tree). IsFoundIf enough p x rest) reads found).0
only_found o s (Err (Unexpected place)) x rest enough reads found = only_failed o s (Unexpected place) x rest enough (reads (λ is. cc)) found
only_found o s (Err (TooDeep place)) x rest enough reads found = only_failed o s (TooDeep place) x rest enough (reads (λ is. cc)) found
only_found o s (Err (TooManyNodes place)) x rest enough reads found = only_failed o s (TooManyNodes place) x rest enough (reads (λ is. cc)) found
only_found o s (Err NoMemory) x rest enough reads found = refl

found_if : (o : Outcome Tree) (x : Tree) (enough : Type 0) (rest : List Token) → IsFoundIf enough o x rest → enough → (s : State) × (o ≡ Found x s) × (s.rest ≡ rest)
found_if (Found y s) x enough rest is have = (s, ap (λ v. Found v s) is.0, is.1)
found_if (Failed e s) x enough rest is have = absurd (is.1 have)

module _ (found : WithinIsFound) (turns n : ℕ) (wanted : Wanted) (s : State) where
  pub accepts : (s' : State) (r : Result Tree ParseFault) → Reads (read turns n wanted s) r s' → Accepts wanted s r
  accepts s' r reads w rest x spelled parts stops within = only_found (read turns n wanted s) s' r x rest _ reads (found turns n spelled.0 wanted w rest x s spelled.1 parts stops within)

  pub is_deep_enough : length s.rest < turns → IsDeepEnough turns n wanted s
  is_deep_enough many m w rest x spelled parts stops within deep = found_if (read turns n wanted s) x _ rest (found turns n m wanted w rest x s spelled parts stops within) (deep, many)
