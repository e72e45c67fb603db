-- The statements of a body, one after the other.
use Rattle.std.specs.Prelude.{◌≡◌, ◌≤◌, ℕ, Bool, true, false, Option, Some, None, List, length}
use Rattle.cr_base.specs.declared.ids.NameId.{NameId}
use Rattle.cr_base.specs.declared.ids.NodeId.{NodeId}
use Rattle.cr_core.specs.declared.row.Row.{Row}
use Rattle.cr_flow.specs.declared.variable.Variable.TheVariants.{Field}
use Rattle.cr_flow.specs.declared.chain.Trail.{Trail}
use Rattle.cr_flow.specs.declared.outs.Outs.{Outs}
use Rattle.cr_flow.specs.declared.steps.Step.{Step}
use Rattle.cr_flow.specs.Uses.{asked}
use Rattle.cr_flow.specs.Outs.{none, join, decided, finished, reach}
use Rattle.cr_flow.specs.Under.{higher, past, IsClearFrom}

-- what a node leads to without an assignment to the instance variable
abbrev pub field_reach : List Row → List (Option ℕ) → NameId → NodeId → Outs
field_reach rows ranks k n = reach rows (asked rows None ranks (Field k)) (Field k) n

-- A body leads to what went before a statement of it and to what is left: for each variable that what went before does not name.
pub record IsStep (rows : List Row) (ranks : List (Option ℕ)) (z : NameId) (body : NodeId) (s : Step) : Type 0 where
  pub later : body.0 ≤ s.at.0
  pub plain : s.inside ≡ false → s.all ≡ none
  pub same : (k : NameId) → IsClearFrom rows k body.0 s.past → IsClearFrom rows z body.0 s.past → field_reach rows ranks k body ≡ finished s.inside s.all (field_reach rows ranks k s.at)

-- a statement, and no condition
abbrev pub is_plain : Option NodeId → Bool
is_plain None = true
is_plain (Some a) = false

-- behind one more statement
abbrev pub advanced : List Row → ℕ → List ℕ → List (Option ℕ) → NameId → Step → Trail → Outs → Step
advanced rows end pasts ranks z s w first = record {
  at = w.rest;
  all = join s.all (decided (asked rows None ranks (Field z) s.at) first);
  inside = true;
  past = higher s.past (past (length rows) end pasts w.first.0);
}
