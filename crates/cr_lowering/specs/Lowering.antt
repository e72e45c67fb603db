-- The core tree of a program with its prelude.
use Rattle.std.specs.Prelude.{◌≡◌, List, map, Option}
use Rattle.cr_base.specs.declared.ids.NameId.{NameId}
use Rattle.cr_grammar.specs.declared.tree.Tree.{Tree}
use Rattle.cr_core.specs.declared.scope.Scope.{Scope}
use Rattle.cr_core.specs.declared.scope.Slot.{Slot}
use Rattle.cr_core.specs.Arena.{rows as rows_of}
use Rattle.cr_core.specs.Tree.{Contents}
use Rattle.cr_making.specs.Naming.{settled}
use Rattle.cr_rewrite.specs.Whole.{made}

-- the names of a scope's locals, slot by slot
abbrev pub slot_names : Scope → List (Option NameId)
slot_names scope = map (λ (slot : Slot). slot.name) scope.slots

-- The rows are those of the core form of prelude and program by the table of rewritings, and the names, texts and locals are those
-- behind it.
pub record IsLowering (prelude tree : Tree) (t : Contents) : Type 0 where
  pub rows : t.rows ≡ rows_of (made prelude tree).value
  pub locals : map slot_names t.scopes ≡ settled (made prelude tree).after.inner (made prelude tree).after.scopes
  pub names : t.names ≡ (made prelude tree).after.names
  pub texts : t.texts ≡ (made prelude tree).after.texts
