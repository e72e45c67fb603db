-- How the ancestors of all classes and modules are made: each from those of what stands directly above it.
use Rattle.std.specs.Prelude.{◌≡◌, ℕ, ◌<◌, ◌≤◌, ◌⊎◌, Bool, true, false, not, ◌&&◌, List, [], ◌∷◌, Some, length, slice_get, slice_set, count_by, Contains}
use Rattle.std.specs.List.{list_all}
use Rattle.cr_base.specs.declared.ids.ClassId.{ClassId}
use Rattle.cr_ancestors.specs.Above.{ups_of, IsAbove}
use Rattle.cr_ancestors.specs.Line.{kept, IsOnce, AreAncestors}

abbrev pub class_id : ℕ → ClassId
class_id n = record { 0 = n }

-- A list that is still empty is not made yet: each list of ancestors begins with its class.
abbrev pub is_made : List ClassId → Bool
is_made [] = false
is_made (class ∷ classes) = true

abbrev pub is_open : List ClassId → Bool
is_open list = not (is_made list)

-- the list of a class, where these are the lists of all
abbrev pub list_of : List (List ClassId) → ClassId → List ClassId
list_of lists class = ups_of lists class

-- whether the lists of all that stands directly above are made
abbrev pub is_ready : List (List ClassId) → List ClassId → Bool
is_ready lists ups = list_all (λ up. is_made (list_of lists up)) ups

-- the list with those of all that stands directly above, each place kept where it first stands
abbrev pub joined : List (List ClassId) → List ClassId → List ClassId → List ClassId
joined lists list [] = list
joined lists list (up ∷ ups) = joined lists (kept list (list_of lists up)) ups

-- how many lists are not made yet
abbrev pub open_count : List (List ClassId) → ℕ
open_count lists = count_by is_open lists

-- the lists that are made are those of their classes
pub record IsPartial (hierarchy lists : List (List ClassId)) : Type 0 where
  pub many : length lists ≡ length hierarchy
  pub each : (class : ClassId) (list : List ClassId) → slice_get lists class.0 ≡ Some list → (list ≡ []) ⊎ AreAncestors hierarchy class list

-- whether the list of class n can be made now
abbrev pub is_due : List (List ClassId) → ℕ → List ClassId → Bool
is_due lists n ups = is_open (list_of lists (class_id n)) && is_ready lists ups

-- no list of the first n can be made
abbrev pub IsIdle : List (List ClassId) → List (List ClassId) → ℕ → Type 0
IsIdle hierarchy lists n = (k : ℕ) (ups : List ClassId) → k < n → slice_get hierarchy k ≡ Some ups → is_due lists k ups ≡ false

-- what a round over the first n leaves: fewer lists to be made, or none of these could be made
pub record IsRound (hierarchy old : List (List ClassId)) (n : ℕ) (new : List (List ClassId)) : Type 0 where
  pub partial : IsPartial hierarchy new
  pub progress : (open_count new < open_count old) ⊎ ((new ≡ old) × IsIdle hierarchy old n)

-- the list of class n is made where it is due
pub record IsMadeAt (n : ℕ) (ups : List ClassId) (old new : List (List ClassId)) : Type 0 where
  pub due : is_due old n ups ≡ true → new ≡ slice_set old n (joined old (class_id n ∷ []) ups)
  pub not_due : is_due old n ups ≡ false → new ≡ old

-- How what is above is found: so much was found, of which so many were followed upwards.
pub record IsClosing (hierarchy : List (List ClassId)) (class : ClassId) (found : List ClassId) (done : ℕ) : Type 0 where
  pub sound : (above : ClassId) → Contains found above → IsAbove hierarchy class above
  pub first : (above : ClassId) → Contains (ups_of hierarchy class) above → Contains found above
  pub closed : (j : ℕ) (up above : ClassId) → j < done → slice_get found j ≡ Some up → Contains (ups_of hierarchy up) above → Contains found above
  pub once : IsOnce found
  pub done_within : done ≤ length found
