-- The core form of a program with its prelude.
use Rattle.std.specs.Prelude.{◌≡◌, [], ◌∷◌, map, false}
use Rattle.cr_grammar.specs.declared.tree.Tree.{Tree}
use Rattle.cr_core.specs.declared.form.Form.TheVariants as f
use Rattle.cr_core.specs.declared.form.ScopeId.{ScopeId}
use Rattle.cr_core.specs.Core.{Core}
use Rattle.cr_core.specs.Arena.{rows as rows_of}
use Rattle.cr_making.specs.Naming.{State, Given, settled}
use Rattle.cr_making.specs.Making.{Making, ◌▸◌, wrapped, in_prelude, ahead, nest, sequence}
use Rattle.cr_making.specs.Part.{Part}
use Rattle.cr_making.specs.Table.{part}
use Rattle.cr_rewrite.specs.declared.rewritten.Rewritten.{Rewritten}

abbrev pub first_scope : ScopeId
first_scope = record { 0 = 0 }

-- The prelude's declarations, those of the source, and the statements. The prelude's stand before the source's.
unfoldable pub program : Part → Part → Making
program prelude source = wrapped (f.Program first_scope) 0 (
    in_prelude prelude.list_members
    ▸ source.list_members
    ▸ nest f.Seq (map (λ (m : Making). ahead 0 (in_prelude m)) prelude.list_statements) (sequence 0 source.list_statements))

-- nothing is rewritten yet, and the top level's scope is open
abbrev pub begin : State
begin = record {
  names = [];
  texts = [];
  scopes = [] ∷ [];
  inner = record { number = first_scope; slots = []; parameters = 0 };
  around = [];
  prelude = false;
}

-- the core tree, and the names behind it
abbrev pub made : Tree → Tree → Given Core
made prelude tree = program (part prelude) (part tree) begin

-- The rows are those of the core form, and the names, texts and locals are those behind it.
pub record IsRewriting (prelude tree : Tree) (r : Rewritten) : Type 0 where
  pub rows : r.rows.items ≡ rows_of (made prelude tree).value
  pub scopes : r.scopes.items ≡ settled (made prelude tree).after.inner (made prelude tree).after.scopes
  pub names : r.names ≡ (made prelude tree).after.names
  pub texts : r.texts ≡ (made prelude tree).after.texts
