-- The choice of a method.
use Rattle.std.specs.Prelude.{◌≡◌, ℕ, ◌<◌, List, [], Option, Some, None, length, slice_get, unwrap_or}
use Rattle.cr_base.specs.declared.ids.ClassId.{ClassId}
use Rattle.cr_base.specs.declared.ids.MethodId.{MethodId}
use Rattle.cr_lookup.specs.declared.method.Method.{Method}
use Rattle.cr_lookup.specs.declared.method.Place.{Place}
use Rattle.cr_lookup.specs.declared.method.Sought.{Sought}
use Rattle.cr_lookup.specs.Methods.{Matches, IsBelow}

-- The method at i is the pointwise least match among the first so many.
pub record IsLeast (classes : ℕ) (methods : List Method) (sought : Sought) (args : List ClassId) (many i : ℕ) : Type 0 where
  pub method : Method
  pub before : i < many
  pub there : slice_get methods i ≡ Some method
  pub fit : Matches method sought args
  pub least : (j : ℕ) (other : Method) → j < many → slice_get methods j ≡ Some other → Matches other sought args → IsBelow classes method other

-- none of the first so many matches
abbrev pub HasNoMatch : List Method → Sought → List ClassId → ℕ → Type 0
HasNoMatch methods sought args many = (j : ℕ) (other : Method) → j < many → slice_get methods j ≡ Some other → ¬ (Matches other sought args)

abbrev pub IsLeastIfAny : ℕ → List Method → Sought → List ClassId → ℕ → Option ℕ → Type 0
IsLeastIfAny classes methods sought args many None = HasNoMatch methods sought args many
IsLeastIfAny classes methods sought args many (Some i) = IsLeast classes methods sought args many i

-- the methods of a place, where these are those of all places
abbrev pub methods_of : List (List Method) → Place → List Method
methods_of methods place = unwrap_or (slice_get methods place.0) []

-- the pointwise least match of a place
pub record IsLeastAt (classes : ℕ) (methods : List Method) (sought : Sought) (args : List ClassId) (id : MethodId) : Type 0 where
  pub place : ℕ
  pub is : IsLeast classes methods sought args (length methods) place
  pub number : is.method.id ≡ id

abbrev pub HasNone : List Method → Sought → List ClassId → Type 0
HasNone methods sought args = HasNoMatch methods sought args (length methods)

abbrev pub IsLeastAtIfAny : ℕ → List Method → Sought → List ClassId → Option MethodId → Type 0
IsLeastAtIfAny classes methods sought args None = HasNone methods sought args
IsLeastAtIfAny classes methods sought args (Some id) = IsLeastAt classes methods sought args id

-- The pointwise least match of the first of these places that has a match.
pub record IsChosen (classes : ℕ) (methods : List (List Method)) (places : List Place) (sought : Sought) (args : List ClassId) (id : MethodId) : Type 0 where
  pub nth : ℕ
  pub place : Place
  pub there : slice_get places nth ≡ Some place
  pub least : IsLeastAt classes (methods_of methods place) sought args id
  pub none_before : (k : ℕ) (earlier : Place) → k < nth → slice_get places k ≡ Some earlier → HasNone (methods_of methods earlier) sought args

-- there, or nothing where no place has a match
abbrev pub IsChoice : ℕ → List (List Method) → List Place → Sought → List ClassId → Option MethodId → Type 0
IsChoice classes methods places sought args None = (k : ℕ) (place : Place) → slice_get places k ≡ Some place → HasNone (methods_of methods place) sought args
IsChoice classes methods places sought args (Some id) = IsChosen classes methods places sought args id
