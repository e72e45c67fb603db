-- Scopes that have their locals alone.
use Rattle.std.specs.Prelude.{List, map, Option, None, false}
use Rattle.cr_base.specs.declared.ids.NameId.{NameId}
use Rattle.cr_core.specs.declared.scope.Scope.{Scope}
use Rattle.cr_core.specs.declared.scope.ScopeKind.TheVariants.{Main}
use Rattle.cr_core.specs.declared.scope.Slot.{Slot}
use Rattle.cr_core.specs.Arena.{node_id}

abbrev pub free_slot : Option NameId → Slot
free_slot name = record { name = name; captured = false }

abbrev pub blank : List (Option NameId) → Scope
blank names = record { kind = Main; home = None; site = node_id 0; body = node_id 0; parameters = 0; slots = map free_slot names }
