-- Methods: which calls they match, and how two of them compare.
use Rattle.std.specs.Prelude.{◌≡◌, ℕ, ◌<◌, Bool, true, false, List, Some, length, slice_get}
use Rattle.cr_base.specs.declared.ids.ClassId.{ClassId}
use Rattle.cr_ancestors.specs.Line.{has}
use Rattle.cr_lookup.specs.declared.method.Takes.{Takes}
use Rattle.cr_lookup.specs.declared.method.Takes.TheVariants.{Any, Only}
use Rattle.cr_lookup.specs.declared.method.Method.{Method}
use Rattle.cr_lookup.specs.declared.method.Sought.{Sought}

-- whether a parameter takes a class
abbrev pub fits : Takes → ClassId → Bool
fits Any class = true
fits (Only classes) class = has classes class

-- each argument is taken by the parameter in its place
abbrev pub FitsAll : List Takes → List ClassId → Type 0
FitsAll parameters args = (i : ℕ) (takes : Takes) (class : ClassId) → slice_get parameters i ≡ Some takes → slice_get args i ≡ Some class → fits takes class ≡ true

-- The name, the number of parameters, the use of a block and the classes of the arguments agree, and the lookup of the receiver's class
-- does not pass the method over.
pub record Matches (method : Method) (sought : Sought) (args : List ClassId) : Type 0 where
  pub name_is : method.name ≡ sought.name
  pub block_is : method.block ≡ sought.block
  pub looked_at : has method.passed_over sought.receiver ≡ false
  pub count : length args ≡ length method.parameters
  pub fit : FitsAll method.parameters args

-- each of so many classes that the first takes, the second takes
abbrev pub IsWithin : ℕ → Takes → Takes → Type 0
IsWithin classes a b = (class : ClassId) → class.0 < classes → fits a class ≡ true → fits b class ≡ true

-- one of so many classes is taken by both
pub record Meets (classes : ℕ) (a b : Takes) : Type 0 where
  pub class : ClassId
  pub within : class.0 < classes
  pub first : fits a class ≡ true
  pub second : fits b class ≡ true

-- parameters at one place are so related
abbrev pub EachPair : (Takes → Takes → Type 0) → List Takes → List Takes → Type 0
EachPair Related first second = (i : ℕ) (a b : Takes) → slice_get first i ≡ Some a → slice_get second i ≡ Some b → Related a b

-- as many parameters, each pair of them so related
pub record ArePairs (Related : Takes → Takes → Type 0) (first second : List Takes) : Type 0 where
  pub many : length first ≡ length second
  pub each : EachPair Related first second

-- the first is at least as special as the second, parameter by parameter
abbrev pub IsBelow : ℕ → Method → Method → Type 0
IsBelow classes m n = ArePairs (IsWithin classes) m.parameters n.parameters

-- some arguments match both
abbrev pub Overlaps : ℕ → Method → Method → Type 0
Overlaps classes m n = ArePairs (Meets classes) m.parameters n.parameters

-- Two overloads clash: they overlap, and neither is below the other.
pub record Clash (classes : ℕ) (m n : Method) : Type 0 where
  pub name : m.name ≡ n.name
  pub block : m.block ≡ n.block
  pub overlap : Overlaps classes m n
  pub not_below : ¬ (IsBelow classes m n)
  pub not_above : ¬ (IsBelow classes n m)

-- The nth method of a place clashes with one before it.
pub record ClashesAt (classes : ℕ) (methods : List Method) (n : ℕ) : Type 0 where
  pub earlier : ℕ
  pub m : Method
  pub later : Method
  pub before : earlier < n
  pub first : slice_get methods earlier ≡ Some m
  pub second : slice_get methods n ≡ Some later
  pub clash : Clash classes m later

-- no two methods of a place clash
abbrev pub IsCalm : ℕ → List Method → Type 0
IsCalm classes methods = (n : ℕ) → ¬ (ClashesAt classes methods n)
