-- What is made of a rewriting is the core tree of the program.
use Rattle.std.specs.Prelude.{slice_get, option_map, ◌^◌}
use Rattle.std.proofs.Common.{◌≡◌, ℕ, suc, ◌<◌, ◌≤◌, List, [], ◌∷◌, length, map, Option, Some, refl, sym, ap, ◌∙◌, subst, arith}
use Rattle.std.proofs.lemmas.Option.{slice_get-map, slice_get_within, same_Some}
use Rattle.cr_base.specs.declared.ids.NameId.{NameId}
use Rattle.cr_grammar.specs.declared.tree.Tree.{Tree}
use Rattle.cr_core.specs.declared.form.ScopeId.{ScopeId}
use Rattle.cr_core.specs.declared.row.Row.{Row}
use Rattle.cr_core.specs.declared.scope.Scope.{Scope}
use Rattle.cr_core.specs.declared.scope.Slot.{Slot}
use Rattle.cr_core.specs.Arena.{outermost}
use Rattle.cr_core.specs.Scopes.{OpensOnce}
use Rattle.cr_core.specs.Standing.{Stands}
use Rattle.cr_core.specs.Tree.{Contents, IsCore}
use Rattle.cr_core.proofs.Standing.{rows_stand}
use Rattle.cr_rewrite.specs.declared.rewritten.Rewritten.{Rewritten}
use Rattle.cr_making.specs.Naming.{settled}
use Rattle.cr_rewrite.specs.Whole.{made, IsRewriting}
use Rattle.cr_lowering.specs.Blank.{blank}
use Rattle.cr_lowering.specs.Lowering.{slot_names, IsLowering}
use Rattle.cr_lowering.specs.Laws.{NamedAreTold}
use Rattle.cr_lowering.specs.Made.{AreTold, contents}
use Rattle.cr_lowering.proofs.Grows.{Slotted}
use Rattle.cr_lowering.proofs.Told.{InEnded, teller_of}
use Rattle.cr_lowering.proofs.Known.{opens_once, Opener, opener_of}
use Rattle.cr_lowering.proofs.Begin.{IsWell, made_well}
use Rattle.cr_lowering.proofs.Backing.{scopes_many, opened_at, is_core}

pub opened_once : (prelude tree : Tree) (r : Rewritten) → IsRewriting prelude tree r → OpensOnce r.rows.items
opened_once prelude tree r h = subst OpensOnce (sym h.rows) (opens_once (made prelude tree).value (made_well prelude tree).once)

well_made : (prelude tree : Tree) (r : Rewritten) → IsRewriting prelude tree r → IsWell (length r.names) (length r.texts) r.scopes.items (made prelude tree).value
well_made prelude tree r h =
    let s = (made prelude tree).after in
    let c = (made prelude tree).value in
    let ss = settled s.inner s.scopes in
    let w1 = subst (λ (names : List (List ℕ)). IsWell (length names) (length s.texts) ss c) (sym h.names) (made_well prelude tree) in
    let w2 = subst (λ (texts : List (List ℕ)). IsWell (length r.names) (length texts) ss c) (sym h.texts) w1 in
    subst (λ (xs : List Slotted). IsWell (length r.names) (length r.texts) xs c) (sym h.scopes) w2

-- a list whose elements come from those of another
mapped : {A B : Type 0} (g : A → B) (xs : List A) (ys : List B) → length xs ≡ length ys → ((k : ℕ) (y : B) → slice_get ys k ≡ Some y → (x : A) × (slice_get xs k ≡ Some x) × (g x ≡ y)) → map g xs ≡ ys
mapped g [] [] e h = refl
mapped g [] (y ∷ ys) e h = absurd (omega (arith, e))
mapped g (x ∷ xs) [] e h = absurd (omega (arith, e))
mapped g (x ∷ xs) (y ∷ ys) e h =
    let first = h 0 y refl in
    let here : g x ≡ y = ap g (same_Some x first.0 first.1) ∙ first.2 in
    ap (λ (z : _). z ∷ map g xs) here ∙ ap (λ (zs : List _). y ∷ zs) (mapped g xs ys (omega (arith, e)) (λ k z at. h (suc k) z at))

locals_are : (rs : List Row) (ss : List Slotted) (scopes : List Scope) → AreTold rs (map blank ss) scopes → ((k : ScopeId) → k.0 < length ss → Opener rs k) → map slot_names scopes ≡ ss
locals_are rs ss scopes a opener = mapped slot_names scopes ss (scopes_many rs ss scopes a) (λ k xs at.
    let x = opener (record { 0 = k }) (slice_get_within ss k xs at) in
    let y = opened_at rs ss scopes a x.number x.row (record { 0 = k }) xs x.stands x.opens at in
    (y.scope, y.stands, y.names))

pub lowering_is : (prelude tree : Tree) (r : Rewritten) (scopes : List Scope) → IsRewriting prelude tree r → AreTold r.rows.items (map blank r.scopes.items) scopes → IsLowering prelude tree (contents r scopes)
lowering_is prelude tree r scopes h a =
    let c = (made prelude tree).value in
    let w = well_made prelude tree r h in
    let stands : Stands r.rows.items outermost 0 c = subst (λ (rs : List Row). Stands rs outermost 0 c) (sym h.rows) (rows_stand c) in
    record {
      rows = h.rows;
      locals = locals_are r.rows.items r.scopes.items scopes a (λ k lt. opener_of r.rows.items outermost 0 c k stands (w.covers k lt)) ∙ h.scopes;
      names = h.names;
      texts = h.texts;
    }

pub core_is : (prelude tree : Tree) (r : Rewritten) (scopes : List Scope) → IsRewriting prelude tree r → AreTold r.rows.items (map blank r.scopes.items) scopes → length r.rows.items ≤ 2 ^ 32 → length r.scopes.items ≤ 2 ^ 32 → IsCore (contents r scopes)
core_is prelude tree r scopes h a few_rows few_scopes =
    let many = scopes_many r.rows.items r.scopes.items scopes a in
    is_core (contents r scopes) r.scopes.items (made prelude tree).value (well_made prelude tree r h) h.rows a few_rows (omega (arith, many, few_scopes))

pub named_told : (prelude tree : Tree) (t : Contents) → IsLowering prelude tree t → NamedAreTold t
named_told prelude tree t h k s i slot name there at is =
    let c = (made prelude tree).value in
    let after = (made prelude tree).after in
    let ss = settled after.inner after.scopes in
    let stands : Stands t.rows outermost 0 c = subst (λ (rs : List Row). Stands rs outermost 0 c) (sym h.rows) (rows_stand c) in
    let name_of = λ (x : Slot). x.name in
    let bears : slice_get (slot_names s) i ≡ Some (Some name) = slice_get-map name_of s.slots i ∙ ap (option_map name_of) at ∙ ap (λ (x : Option NameId). Some x) is in
    let slots : slice_get ss k.0 ≡ Some (slot_names s) = ap (λ (xs : List Slotted). slice_get xs k.0) (sym h.locals) ∙ slice_get-map slot_names t.scopes k.0 ∙ ap (option_map slot_names) there in
    let ended : InEnded (slice_get ss k.0) i = subst (λ (x : Option Slotted). InEnded x i) (sym slots) (record { name = name; bears = bears }) in
    teller_of t.rows outermost 0 c k i stands ((made_well prelude tree).told outermost.scope k i ended)
