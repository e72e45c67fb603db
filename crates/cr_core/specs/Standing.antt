-- Where core trees stand in rows, and what is known of each row of an arena.
use Rattle.std.specs.Prelude.{◌≡◌, ℕ, suc, ◌+◌, ◌<◌, ◌≤◌, List, [], ◌∷◌, Option, Some, slice_get, Contains, IfSome}
use Rattle.cr_base.specs.declared.ids.NodeId.{NodeId}
use Rattle.cr_core.specs.declared.form.Form.{Form}
use Rattle.cr_core.specs.declared.form.Form.TheVariants as f
use Rattle.cr_core.specs.declared.form.ScopeId.{ScopeId}
use Rattle.cr_core.specs.declared.row.Row.{Row}
use Rattle.cr_core.specs.declared.row.Within.{Within}
use Rattle.cr_core.specs.Core.{Core, none, node, size}
use Rattle.cr_core.specs.Shape.{Role, role, portions, Fits}
use Rattle.cr_core.specs.Arena.{node_id, inside, starts}

-- these core trees stand in the rows from row n on, in what surrounds them
abbrev pub Stands : List Row → Within → ℕ → Core → Type 0
Stands rs w n none = Unit {0}
Stands rs w n (node form at ps rest) =
    (slice_get rs n ≡ Some (record { form = form; place = at; within = w; parts = starts (suc n) ps }))
    × Stands rs (inside form n w) (suc n) ps
    × Stands rs w (suc (n + size ps)) rest

-- what the trees are there for, one after the other
abbrev pub roles : Core → List Role
roles none = []
roles (node form at ps rest) = role form ∷ roles rest

-- each node has the parts that its form wants
abbrev pub Shaped : Core → Type 0
Shaped none = Unit {0}
Shaped (node form at ps rest) = Fits (portions form) (roles ps) × Shaped ps × Shaped rest

-- a row stands there, in these surroundings, and is there for this
pub record IsPart (rs : List Row) (w : Within) (p : NodeId) (k : Role) : Type 0 where
  pub row : Row
  pub stands : slice_get rs p.0 ≡ Some row
  pub surrounded : row.within ≡ w
  pub role_is : role row.form ≡ k

-- they stand from `low` on, each behind the one before, in these surroundings, and are there for these
abbrev pub AreParts : List Row → Within → ℕ → List NodeId → List Role → Type 0
AreParts rs w low [] [] = Unit {0}
AreParts rs w low (p ∷ ps) (k ∷ ks) = (low ≤ p.0) × IsPart rs w p k × AreParts rs w (suc p.0) ps ks
AreParts rs w low ps ks = ⊥

-- row n is a part of the row p, which stands before it
pub record IsParent (rs : List Row) (n : ℕ) (p : NodeId) : Type 0 where
  pub row : Row
  pub stands : slice_get rs p.0 ≡ Some row
  pub before : p.0 < n
  pub part : Contains row.parts (node_id n)

-- the row t is a loop of this scope, which begins before row n
pub record IsTurn (rs : List Row) (n : ℕ) (scope : ScopeId) (t : NodeId) : Type 0 where
  pub row : Row
  pub stands : slice_get rs t.0 ≡ Some row
  pub before : t.0 < n
  pub loop : row.form ≡ f.While
  pub same_scope : row.within.scope ≡ scope

-- What is known of a row: its parts stand behind it and are what its form wants, and what surrounds it is there.
pub record IsRow (rs : List Row) (n : ℕ) (r : Row) : Type 0 where
  pub there_for : List Role
  pub shape : Fits (portions r.form) there_for
  pub parts : AreParts rs (inside r.form n r.within) (suc n) r.parts there_for
  pub parent : IfSome r.within.parent (IsParent rs n)
  pub turn : IfSome r.within.turn (IsTurn rs n r.within.scope)

pub record IsArena (rs : List Row) : Type 0 where
  pub each : (n : ℕ) (r : Row) → slice_get rs n ≡ Some r → IsRow rs n r
