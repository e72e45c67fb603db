use Rattle.std.proofs.Common.{◌≡◌, ℕ, false, List, [], ◌∷◌, ◌++◌, Some, None, subst, refl, sym, ap, ◌∙◌}
use Rattle.cr_core.specs.declared.row.Row.{Row}
use Rattle.cr_core.specs.declared.scope.Scope.{Scope}
use Rattle.std.specs.Prelude.{codes}
use Rattle.cr_syntax.specs.Names.{with_name}
use Rattle.cr_core.specs.declared.scope.ScopeKind.TheVariants.{Main}
use Rattle.cr_core.specs.declared.scope.Slot.{Slot}
use Rattle.cr_core.specs.Arena.{node_id}
use Rattle.cr_core.specs.Tree.{Contents, IsCore}
use Rattle.cr_core.proofs.Sample.{trees, contents, is_core}
use Rattle.cr_flow.proofs.tests.sample.Goals as goal

abbrev of : List Row → List Scope → List (List ℕ) → List (List ℕ) → Contents
of rows scopes names texts = record { rows = rows; scopes = scopes; names = names; texts = texts }

abbrev with_slots : List Slot → Scope
with_slots slots = record { kind = Main; home = None; site = node_id 0; body = node_id 2; parameters = 0; slots = slots }

pub new-requires : goal.new-requires
new-requires c =
    let rows_are : c.in_ok-rows.rows.items ≡ contents.rows = c.in_ok-rows.ensures.rows trees refl in
    let scopes_are : c.push-2.new.self.items ≡ contents.scopes =
    c.in_ok-push-2.ensures.items
    ∙ ap (λ (scopes : List Scope). scopes ++ with_slots c.push.new.self ∷ []) c.new-scopes.ensures.items
    ∙ ap (λ (slots : List Slot). with_slots slots ∷ []) (c.in_ok-push.ensures.ok ∙ ap (λ (slots : List Slot). slots ++ record { name = Some (record { 0 = 0 }); captured = false } ∷ []) c.new-slots.ensures) in
    let names_are : c.intern.new.self ≡ contents.names = c.in_ok-intern.ensures.ok ∙ ap (λ (names : List (List ℕ)). with_name names (codes "x")) c.new-names.ensures in
    let texts_are : c.intern-2.new.self ≡ contents.texts = c.in_ok-intern-2.ensures.ok ∙ ap (λ (names : List (List ℕ)). with_name names (codes "a")) c.new-texts.ensures in
    let same : of c.in_ok-rows.rows.items c.push-2.new.self.items c.intern.new.self c.intern-2.new.self ≡ contents =
    ap (λ (rows : List Row). of rows c.push-2.new.self.items c.intern.new.self c.intern-2.new.self) rows_are
    ∙ ap (λ (scopes : List Scope). of contents.rows scopes c.intern.new.self c.intern-2.new.self) scopes_are
    ∙ ap (λ (names : List (List ℕ)). of contents.rows contents.scopes names c.intern-2.new.self) names_are
    ∙ ap (λ (texts : List (List ℕ)). of contents.rows contents.scopes contents.names texts) texts_are in
    subst IsCore (sym same) is_core
