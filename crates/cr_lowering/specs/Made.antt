-- How a core tree is made of a rewriting.
use Rattle.std.specs.Prelude.{◌≡◌, List}
use Rattle.cr_core.specs.declared.row.Row.{Row}
use Rattle.cr_core.specs.declared.scope.Scope.{Scope}
use Rattle.cr_core.specs.Scopes.{AreSettled}
use Rattle.cr_core.specs.Tree.{Contents}
use Rattle.cr_rewrite.specs.declared.rewritten.Rewritten.{Rewritten}
use Rattle.cr_lowering.specs.Marking.{marked_from}

-- the scopes as the rows tell them, with the captured locals marked
pub record AreTold (rs : List Row) (old new : List Scope) : Type 0 where
  pub told : List Scope
  pub settled : AreSettled rs old told
  pub marked : new ≡ marked_from rs told

-- a rewriting with its scopes
abbrev pub contents : Rewritten → List Scope → Contents
contents r scopes = record { rows = r.rows.items; scopes = scopes; names = r.names; texts = r.texts }
