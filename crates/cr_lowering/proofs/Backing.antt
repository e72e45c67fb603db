-- The rows of a program's core tree with the scopes that are made for them are a core tree.
use Rattle.std.specs.Prelude.{slice_get, option_map, IfSome, ◌^◌}
use Rattle.std.proofs.Common.{◌≡◌, ℕ, ◌<◌, ◌≤◌, Bool, List, [], ◌∷◌, length, map, Option, Some, None, refl, sym, ap, ◌∙◌, subst, arith}
use Rattle.std.proofs.lemmas.List.{length-map}
use Rattle.std.proofs.lemmas.Option.{slice_get-map, slice_get_within, same_Some}
use Rattle.cr_base.specs.declared.ids.NameId.{NameId}
use Rattle.cr_core.specs.declared.form.Form.TheVariants as f
use Rattle.cr_core.specs.declared.form.ScopeId.{ScopeId}
use Rattle.cr_core.specs.declared.row.Row.{Row}
use Rattle.cr_core.specs.declared.scope.Scope.{Scope}
use Rattle.cr_core.specs.declared.scope.Slot.{Slot}
use Rattle.cr_core.specs.Core.{Core, one}
use Rattle.cr_core.specs.Arena.{Opens, opening, outermost, rows}
use Rattle.cr_core.specs.Standing.{Stands, IsArena}
use Rattle.cr_core.specs.Tree.{Contents, HasName, scope_of, is_captured, IsScope, IsCore}
use Rattle.cr_core.proofs.Standing.{rows_stand, rows_are_an_arena}
use Rattle.cr_lowering.specs.Blank.{free_slot, blank}
use Rattle.cr_lowering.specs.Lowering.{slot_names}
use Rattle.cr_lowering.specs.Made.{AreTold}
use Rattle.cr_lowering.proofs.Grows.{Slotted, AreNamed}
use Rattle.cr_lowering.proofs.Fresh.{Known, Placed}
use Rattle.cr_lowering.proofs.Known.{Opener, opener_of, get_there, Backs, RowKnown, whole_rows, rooted}
use Rattle.cr_lowering.proofs.Marked.{slotless, slotless_kept, names_kept, told_many, captured_same, slot_in, slot_at, flag, marks}
use Rattle.cr_lowering.proofs.Begin.{IsWell}

-- ---- what is at a place of two lists with equal images

some_of : {A B : Type 0} (g : A → B) (o : Option A) (b : B) → option_map g o ≡ Some b → (x : A) × (o ≡ Some x) × (g x ≡ b)
some_of g None b e = absurd cc
some_of g (Some x) b e = (x, refl, same_Some (g x) b e)

image_at : {A B : Type 0} (g : A → B) (xs ys : List A) (k : ℕ) (y : A) → map g xs ≡ map g ys → slice_get ys k ≡ Some y → option_map g (slice_get xs k) ≡ Some (g y)
image_at g xs ys k y same at = sym (slice_get-map g xs k) ∙ ap (λ (zs : List _). slice_get zs k) same ∙ slice_get-map g ys k ∙ ap (option_map g) at

-- ---- the scopes

abbrev restored : Scope → List Slot → Scope
restored q xs = record { kind = q.kind; home = q.home; site = q.site; body = q.body; parameters = q.parameters; slots = xs }

free_names : (xs : Slotted) → slot_names (blank xs) ≡ xs
free_names [] = refl
free_names (x ∷ xs) = ap (λ (ys : Slotted). x ∷ ys) (free_names xs)

-- a scope that a row opens
pub record IsOpened (rs : List Row) (scopes : List Scope) (n : ℕ) (r : Row) (k : ScopeId) (xs : Slotted) : Type 0 where
  pub scope : Scope
  pub stands : slice_get scopes k.0 ≡ Some scope
  pub told : scope ≡ scope_of rs n r scope.slots
  pub names : slot_names scope ≡ xs

blank_at : (ss : List Slotted) (k : ℕ) (xs : Slotted) → slice_get ss k ≡ Some xs → slice_get (map blank ss) k ≡ Some (blank xs)
blank_at ss k xs at = slice_get-map blank ss k ∙ ap (option_map blank) at

told_at : (rs : List Row) (ss : List Slotted) (scopes : List Scope) (a : AreTold rs (map blank ss) scopes) (n : ℕ) (r : Row) (k : ScopeId) (xs : Slotted)
    → slice_get rs n ≡ Some r → opening r.form ≡ Opens k → slice_get ss k.0 ≡ Some xs → slice_get a.told k.0 ≡ Some (scope_of rs n r (blank xs).slots)
told_at rs ss scopes a n r k xs is o at = a.settled.opened n r k (blank xs) is o (blank_at ss k.0 xs at)

pub opened_at : (rs : List Row) (ss : List Slotted) (scopes : List Scope) → AreTold rs (map blank ss) scopes → (n : ℕ) (r : Row) (k : ScopeId) (xs : Slotted)
    → slice_get rs n ≡ Some r → opening r.form ≡ Opens k → slice_get ss k.0 ≡ Some xs → IsOpened rs scopes n r k xs
opened_at rs ss scopes a n r k xs is o at =
    let t = scope_of rs n r (blank xs).slots in
    let there : slice_get a.told k.0 ≡ Some t = told_at rs ss scopes a n r k xs is o at in
    let bare : map slotless scopes ≡ map slotless a.told = ap (map slotless) a.marked ∙ slotless_kept rs a.told in
    let named : map slot_names scopes ≡ map slot_names a.told = ap (map slot_names) a.marked ∙ names_kept rs a.told in
    let x = some_of slotless (slice_get scopes k.0) (slotless t) (image_at slotless scopes a.told k.0 t bare there) in
    let names : Some (slot_names x.0) ≡ Some (slot_names t) = ap (option_map slot_names) (sym x.1) ∙ image_at slot_names scopes a.told k.0 t named there in
    record {
      scope = x.0;
      stands = x.1;
      told = ap (λ (q : Scope). restored q x.0.slots) x.2;
      names = same_Some (slot_names x.0) (slot_names t) names ∙ free_names xs;
    }

pub scopes_many : (rs : List Row) (ss : List Slotted) (scopes : List Scope) → AreTold rs (map blank ss) scopes → length scopes ≡ length ss
scopes_many rs ss scopes a = told_many rs (map blank ss) scopes a ∙ length-map ss blank

slots_long : (s : Scope) (xs : Slotted) → slot_names s ≡ xs → length s.slots ≡ length xs
slots_long s xs e = sym (length-map s.slots (λ (slot : Slot). slot.name)) ∙ ap (λ (ys : Slotted). length ys) e

backs : (rs : List Row) (ss : List Slotted) (scopes : List Scope) → AreTold rs (map blank ss) scopes → ((k : ScopeId) → k.0 < length ss → Opener rs k) → Backs rs ss scopes
backs rs ss scopes a opener = record {
  many = scopes_many rs ss scopes a;
  each = λ k xs at.
      let x = opener (record { 0 = k }) (slice_get_within ss k xs at) in
      let y = opened_at rs ss scopes a x.number x.row (record { 0 = k }) xs x.stands x.opens at in
      (y.scope, y.stands, slots_long y.scope xs y.names);
  told = λ n r k s is o there.
      let many = scopes_many rs ss scopes a in
      let lt = slice_get_within scopes k.0 s there in
      let x = get_there ss k.0 (omega (arith, many, lt)) in
      let y = opened_at rs ss scopes a n r k x.0 is o x.1 in
      let same : y.scope ≡ s = same_Some y.scope s (sym y.stands ∙ there) in
      subst (λ (q : Scope). q ≡ scope_of rs n r q.slots) same y.told;
}

-- ---- the slots

named_there : (t : Contents) (xs : Slotted) (i : ℕ) (name : Option NameId) → AreNamed (length t.names) xs → slice_get xs i ≡ Some name → IfSome name (HasName t)
named_there t xs i None h is = tt
named_there t xs i (Some name) h is = h.named i name is

flag_is : (b : Bool) (slot : Slot) → Some slot ≡ option_map (flag b) (Some (free_slot slot.name)) → slot.captured ≡ b
flag_is b slot e = ap (λ (s : Slot). s.captured) (same_Some slot (flag b (free_slot slot.name)) e)

captured_is : (rs : List Row) (ss : List Slotted) (scopes : List Scope) (a : AreTold rs (map blank ss) scopes) (n : ℕ) (r : Row) (k : ScopeId) (xs : Slotted) (s : Scope) (i : ℕ) (slot : Slot)
    → slice_get rs n ≡ Some r → opening r.form ≡ Opens k → slice_get ss k.0 ≡ Some xs → slice_get scopes k.0 ≡ Some s → slice_get s.slots i ≡ Some slot → slice_get xs i ≡ Some slot.name
    → slot.captured ≡ is_captured rs scopes k i
captured_is rs ss scopes a n r k xs s i slot is o at there slot_there name_there =
    let t = scope_of rs n r (blank xs).slots in
    let old : slice_get a.told k.0 ≡ Some t = told_at rs ss scopes a n r k xs is o at in
    let before : slot_at a.told k.0 i ≡ Some (free_slot slot.name) = ap (λ (q : Option Scope). slot_in i q) old ∙ slice_get-map free_slot xs i ∙ ap (option_map free_slot) name_there in
    let now : slot_at scopes k.0 i ≡ Some slot = ap (λ (q : Option Scope). slot_in i q) there ∙ slot_there in
    let marked : slot_at scopes k.0 i ≡ option_map (flag (is_captured rs a.told k i)) (slot_at a.told k.0 i) = ap (λ (qs : List Scope). slot_at qs k.0 i) a.marked ∙ marks rs a.told k i in
    let bare : map slotless a.told ≡ map slotless scopes = sym (ap (map slotless) a.marked ∙ slotless_kept rs a.told) in
    flag_is (is_captured rs a.told k i) slot (sym now ∙ marked ∙ ap (option_map (flag (is_captured rs a.told k i))) before)
    ∙ captured_same rs a.told scopes bare k i

-- ---- the whole

scope_is : (t : Contents) (ss : List Slotted) (k : ℕ) (s : Scope) → AreTold t.rows (map blank ss) t.scopes → ((k : ScopeId) → k.0 < length ss → Opener t.rows k) → ((k : ℕ) (xs : Slotted) → slice_get ss k ≡ Some xs → AreNamed (length t.names) xs)
    → ((n : ℕ) (r : Row) → slice_get t.rows n ≡ Some r → RowKnown t n r) → slice_get t.scopes k ≡ Some s → IsScope t k s
scope_is t ss k s a opener named known there =
    let id : ScopeId = record { 0 = k } in
    let many = scopes_many t.rows ss t.scopes a in
    let lt = slice_get_within t.scopes k s there in
    let xs = get_there ss k (omega (arith, many, lt)) in
    let o = opener id (omega (arith, many, lt)) in
    let y = opened_at t.rows ss t.scopes a o.number o.row id xs.0 o.stands o.opens xs.1 in
    let same : y.scope ≡ s = same_Some y.scope s (sym y.stands ∙ there) in
    let names : slot_names s ≡ xs.0 = subst (λ (q : Scope). slot_names q ≡ xs.0) same y.names in
    let tells = (known o.number o.row o.stands).tells in
    record {
      opener = o.number;
      row = o.row;
      stands = o.stands;
      opened = o.opens;
      home = tells.home id s o.opens there;
      parameters = tells.parameters id s o.opens there;
      slot = λ i slot is.
          let name : slice_get xs.0 i ≡ Some slot.name = ap (λ (ys : Slotted). slice_get ys i) (sym names) ∙ slice_get-map (λ (slot : Slot). slot.name) s.slots i ∙ ap (option_map (λ (slot : Slot). slot.name)) is in
          (named_there t xs.0 i slot.name (named k xs.0 xs.1) name, captured_is t.rows ss t.scopes a o.number o.row id xs.0 s i slot o.stands o.opens xs.1 there is name);
    }

pub is_core : (t : Contents) (ss : List Slotted) (c : Core) → IsWell (length t.names) (length t.texts) ss c → t.rows ≡ rows c → AreTold t.rows (map blank ss) t.scopes → length t.rows ≤ 2 ^ 32 → length t.scopes ≤ 2 ^ 32 → IsCore t
is_core t ss c w is_rows a few_rows few_scopes =
    let stands : Stands t.rows outermost 0 c = subst (λ (rs : List Row). Stands rs outermost 0 c) (sym is_rows) (rows_stand c) in
    let opener = λ (k : ScopeId) (lt : k.0 < length ss). opener_of t.rows outermost 0 c k stands (w.covers k lt) in
    let program = one (f.Program (record { 0 = 0 })) w.place w.parts in
    let program_rows : t.rows ≡ rows program = is_rows ∙ ap rows w.is in
    let known : (n : ℕ) (r : Row) → slice_get t.rows n ≡ Some r → RowKnown t n r =
    whole_rows t ss w.place w.parts program_rows (subst (Stands t.rows outermost 0) w.is stands) (backs t.rows ss t.scopes a opener)
    (subst (Known (length t.names) (length t.texts) ss []) w.is w.known) (subst Placed w.is w.placed) in
    record {
      arena = subst (λ (rs : List Row). IsArena rs) (sym is_rows) (rows_are_an_arena c w.shaped);
      rooted = rooted t.rows w.place w.parts program_rows;
      rows = λ n r is. (known n r is).known;
      scopes = λ k s there. scope_is t ss k s a opener w.named known there;
      few_rows = few_rows;
      few_scopes = few_scopes;
    }
