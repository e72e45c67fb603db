-- What stands above a class or module.
use Rattle.std.specs.Prelude.{ℕ, ◌<◌, ◌≤◌, ◌^◌, List, [], ◌++◌, reverse, length, slice_get, All, Contains}
use Rattle.std.specs.Option.{unwrap_or}
use Rattle.cr_base.specs.declared.ids.ClassId.{ClassId}
use Rattle.cr_ancestors.specs.declared.parents.Parents.{Parents}

-- What stands directly above, in the order of lookup: the modules, the last included first, and then the superclass.
abbrev pub ups : Parents → List ClassId
ups parents = reverse parents.modules ++ parents.superclasses

-- what stands directly above a class or module, where these lists say so for each
abbrev pub ups_of : List (List ClassId) → ClassId → List ClassId
ups_of hierarchy class = unwrap_or (slice_get hierarchy class.0) []

-- the second stands above the first
pub data IsAbove (hierarchy : List (List ClassId)) (class : ClassId) : ClassId → Type 0 where
  directly : (up : ClassId) → Contains (ups_of hierarchy class) up → IsAbove hierarchy class up
  further : (up above : ClassId) → IsAbove hierarchy class up → Contains (ups_of hierarchy up) above → IsAbove hierarchy class above

-- each class or module that stands above another is one of them, and they have numbers
pub record IsWithin (hierarchy : List (List ClassId)) : Type 0 where
  pub few : length hierarchy ≤ 2 ^ 32
  pub each : All (All (λ up. up.0 < length hierarchy)) hierarchy
