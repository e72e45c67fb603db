-- The rows of well formed core trees, with their scopes, are a core tree.
use Rattle.std.specs.Prelude.{slice_get, is_some, IfSome, IsNone}
use Rattle.std.proofs.Common.{◌≡◌, ℕ, zero, suc, ◌+◌, ◌<◌, ◌≤◌, ◌⊎◌, inl, inr, Bool, true, false, List, [], ◌∷◌, ◌++◌, length, Option, Some, None, refl, sym, ap, ◌∙◌, subst, arith, length-append}
use Rattle.std.proofs.lemmas.Bool.{false≢true}
use Rattle.std.proofs.lemmas.Option.{IfSome_then, slice_get_within}
use Rattle.cr_base.specs.declared.ids.NodeId.{NodeId}
use Rattle.cr_core.specs.declared.form.Form.{Form}
use Rattle.cr_core.specs.declared.form.Form.TheVariants as f
use Rattle.cr_core.specs.declared.form.Local.{Local}
use Rattle.cr_core.specs.declared.form.ScopeId.{ScopeId}
use Rattle.cr_core.specs.declared.row.Place.{Place}
use Rattle.cr_core.specs.declared.row.Row.{Row}
use Rattle.cr_core.specs.declared.row.Within.{Within}
use Rattle.cr_core.specs.declared.scope.Scope.{Scope}
use Rattle.cr_core.specs.declared.scope.Slot.{Slot}
use Rattle.cr_core.specs.Core.{Core, none, node, one, size}
use Rattle.cr_core.specs.Arena.{node_id, Opening, Opens, Turns, Plain, opening, inside_opening, inside, starts, layout, outermost, rows}
use Rattle.cr_core.specs.Standing.{Stands}
use Rattle.cr_core.specs.Scopes.{OpensOnce}
use Rattle.cr_core.specs.Tree.{Contents, local_of, home_by, outwards, IsLocal, form_of, form_at, kind_by, kind_of, scope_of_kind, scope_of, one_parameter, parameters_of, IsKnown, IsRooted}
use Rattle.cr_lowering.proofs.Grows.{Slotted, Frame, IsSeen, IsBelow, IsKnownForm, parameter_slot}
use Rattle.cr_lowering.proofs.Fresh.{slots_at, frame_at, frames_by, frames_in, sees_out, StandsBefore, OpensWell, Known, OpensIn, Once, ParametersFrom, Placed}

length_layout : (w : Within) (n : ℕ) (c : Core) → length (layout w n c) ≡ size c
length_layout w n none = refl
length_layout w n (node form at ps rest) =
    let a = layout (inside form n w) (suc n) ps in
    let b = layout w (suc (n + size ps)) rest in
    let both = length-append a b in
    let x = length_layout (inside form n w) (suc n) ps in
    let y = length_layout w (suc (n + size ps)) rest in
    omega arith

-- an element of two lists in a row
abbrev pub IsEither : {A : Type 0} → List A → List A → ℕ → A → Type 0
IsEither xs ys i y = (slice_get xs i ≡ Some y) ⊎ ((k : ℕ) × (i ≡ length xs + k) × (slice_get ys k ≡ Some y))

pub get_either : {A : Type 0} (xs ys : List A) (i : ℕ) (y : A) → slice_get (xs ++ ys) i ≡ Some y → IsEither xs ys i y
get_either [] ys i y e = inr (i, omega arith, e)
get_either (x ∷ xs) ys zero y e = inl e
get_either (x ∷ xs) ys (suc i) y e = later (get_either xs ys i y e)
  where
    later : IsEither xs ys i y → IsEither (x ∷ xs) ys (suc i) y
    later (inl h) = inl h
    later (inr h) = inr (h.0, omega (arith, h.1), h.2)

-- a row of a node's parts, or of what stands beside it
abbrev RowBehind : Within → ℕ → Form → Core → Core → ℕ → Row → Type 0
RowBehind w n form ps rest i r = IsEither (layout (inside form n w) (suc n) ps) (layout w (suc (n + size ps)) rest) i r

row_behind : (w : Within) (n : ℕ) (form : Form) (ps rest : Core) (i : ℕ) (r : Row) → slice_get (layout (inside form n w) (suc n) ps ++ layout w (suc (n + size ps)) rest) i ≡ Some r → RowBehind w n form ps rest i r
row_behind w n form ps rest i r is = get_either (layout (inside form n w) (suc n) ps) (layout w (suc (n + size ps)) rest) i r is

-- ---- each scope is opened by one row

opened_in : (w : Within) (n : ℕ) (c : Core) (i : ℕ) (r : Row) (k : ScopeId) → slice_get (layout w n c) i ≡ Some r → opening r.form ≡ Opens k → OpensIn k c
opened_in w n none i r k is o = absurd cc
opened_in w n (node form at ps rest) zero r k is o =
    let here : record { form = form; place = at; within = w; parts = starts (suc n) ps } ≡ r = cc in
    inl (ap (λ (q : Row). opening q.form) here ∙ o)
opened_in w n (node form at ps rest) (suc i) r k is o = by_side (λ g. opened_in (inside form n w) (suc n) ps i r k g o) (λ j g. opened_in w (suc (n + size ps)) rest j r k g o) (row_behind w n form ps rest i r is)
  where
    by_side : (slice_get (layout (inside form n w) (suc n) ps) i ≡ Some r → OpensIn k ps) → ((j : ℕ) → slice_get (layout w (suc (n + size ps)) rest) j ≡ Some r → OpensIn k rest) → RowBehind w n form ps rest i r → OpensIn k (node form at ps rest)
    by_side inner beside (inl h) = inr (inl (inner h))
    by_side inner beside (inr h) = inr (inr (beside h.0 h.2))

once_at : (w : Within) (n : ℕ) (c : Core) → Once c → (i j : ℕ) (q r : Row) (k : ScopeId) → slice_get (layout w n c) i ≡ Some q → slice_get (layout w n c) j ≡ Some r → opening q.form ≡ Opens k → opening r.form ≡ Opens k → i ≡ j
once_at w n none h i j q r k a b x y = absurd cc
once_at w n (node form at ps rest) h zero zero q r k a b x y = refl
once_at w n (node form at ps rest) h zero (suc j) q r k a b x y = absurd (by_side (row_behind w n form ps rest j r b))
  where
    own : opening form ≡ Opens k
    own = let here : record { form = form; place = at; within = w; parts = starts (suc n) ps } ≡ q = cc in ap (λ (z : Row). opening z.form) here ∙ x

    by_side : RowBehind w n form ps rest j r → ⊥
    by_side (inl g) = h.0 k own (opened_in (inside form n w) (suc n) ps j r k g y)
    by_side (inr g) = h.1 k own (opened_in w (suc (n + size ps)) rest g.0 r k g.2 y)
once_at w n (node form at ps rest) h (suc i) zero q r k a b x y = absurd (by_side (row_behind w n form ps rest i q a))
  where
    own : opening form ≡ Opens k
    own = let here : record { form = form; place = at; within = w; parts = starts (suc n) ps } ≡ r = cc in ap (λ (z : Row). opening z.form) here ∙ y

    by_side : RowBehind w n form ps rest i q → ⊥
    by_side (inl g) = h.0 k own (opened_in (inside form n w) (suc n) ps i q k g x)
    by_side (inr g) = h.1 k own (opened_in w (suc (n + size ps)) rest g.0 q k g.2 x)
once_at w n (node form at ps rest) h (suc i) (suc j) q r k a b x y =
    ap suc (by_sides (λ g e. once_at (inside form n w) (suc n) ps h.3 i j q r k g e x y) (λ l m g e. once_at w (suc (n + size ps)) rest h.4 l m q r k g e x y) (row_behind w n form ps rest i q a) (row_behind w n form ps rest j r b))
  where
    by_sides : (slice_get (layout (inside form n w) (suc n) ps) i ≡ Some q → slice_get (layout (inside form n w) (suc n) ps) j ≡ Some r → i ≡ j)
        → ((l m : ℕ) → slice_get (layout w (suc (n + size ps)) rest) l ≡ Some q → slice_get (layout w (suc (n + size ps)) rest) m ≡ Some r → l ≡ m)
        → RowBehind w n form ps rest i q → RowBehind w n form ps rest j r → i ≡ j
    by_sides inner beside (inl g) (inl e) = inner g e
    by_sides inner beside (inl g) (inr e) = absurd (h.2 k (opened_in (inside form n w) (suc n) ps i q k g x) (opened_in w (suc (n + size ps)) rest e.0 r k e.2 y))
    by_sides inner beside (inr g) (inl e) = absurd (h.2 k (opened_in (inside form n w) (suc n) ps j r k e y) (opened_in w (suc (n + size ps)) rest g.0 q k g.2 x))
    by_sides inner beside (inr g) (inr e) = let same = beside g.0 e.0 g.2 e.2 in omega (arith, g.1, e.1, same)

pub opens_once : (c : Core) → Once c → OpensOnce (rows c)
opens_once c h = record { once = λ m n q r k a b x y. once_at outermost 0 c h m n q r k a b x y }

-- some row opens the scope
pub record Opener (rs : List Row) (k : ScopeId) : Type 0 where
  pub number : ℕ
  pub row : Row
  pub stands : slice_get rs number ≡ Some row
  pub opens : opening row.form ≡ Opens k

pub opener_of : (rs : List Row) (w : Within) (n : ℕ) (c : Core) (k : ScopeId) → Stands rs w n c → OpensIn k c → Opener rs k
opener_of rs w n none k h o = absurd o
opener_of rs w n (node form at ps rest) k h (inl e) = record { number = n; row = record { form = form; place = at; within = w; parts = starts (suc n) ps }; stands = h.0; opens = e }
opener_of rs w n (node form at ps rest) k h (inr (inl o)) = opener_of rs (inside form n w) (suc n) ps k h.1 o
opener_of rs w n (node form at ps rest) k h (inr (inr o)) = opener_of rs w (suc (n + size ps)) rest k h.2 o

-- ---- parameters

form_there : (rs : List Row) (w : Within) (n : ℕ) (form : Form) (at : Place) (ps rest : Core) → Stands rs w n (node form at ps rest) → form_at rs (Some (node_id n)) ≡ Some form
form_there rs w n form at ps rest h = ap form_of h.0

slot_is : (form : Form) (i slot : ℕ) (restricted : Bool) → IfSome (parameter_slot form) (λ (k : ℕ). k ≡ i) → form ≡ f.Parameter slot restricted → slot ≡ i
slot_is form i slot restricted h e = subst (λ (x : Form). IfSome (parameter_slot x) (λ (k : ℕ). k ≡ i)) e h

parameter_at : (rs : List Row) (w : Within) (n j : ℕ) (c : Core) → Stands rs w n c → ParametersFrom j c → (i slot : ℕ) (restricted : Bool) (p : NodeId) → slice_get (starts n c) i ≡ Some p → form_at rs (Some p) ≡ Some (f.Parameter slot restricted) → slot ≡ j + i
parameter_at rs w n j none h x i slot restricted p is e = absurd cc
parameter_at rs w n j (node form at ps rest) h x zero slot restricted p is e =
    let here : node_id n ≡ p = cc in
    let both : Some form ≡ Some (f.Parameter slot restricted) = sym (form_there rs w n form at ps rest h) ∙ ap (λ (q : NodeId). form_at rs (Some q)) here ∙ e in
    let same : form ≡ f.Parameter slot restricted = cc in
    let first = slot_is form j slot restricted x.0 same in
    omega arith
parameter_at rs w n j (node form at ps rest) h x (suc i) slot restricted p is e =
    let later = parameter_at rs w (suc (n + size ps)) (suc j) rest h.2 x.1 i slot restricted p is e in
    omega arith

-- how many parameters stand first
abbrev leading_by : Option ℕ → ℕ → ℕ
leading_by None more = 0
leading_by (Some slot) more = suc more

abbrev leading : Core → ℕ
leading none = 0
leading (node form at ps rest) = leading_by (parameter_slot form) (leading rest)

one_is : (form : Form) (more : ℕ) → one_parameter (Some form) more ≡ leading_by (parameter_slot form) more
one_is (f.Parameter slot restricted) more = refl
one_is other more = refl

leading_of : (rs : List Row) (w : Within) (n : ℕ) (c : Core) → Stands rs w n c → parameters_of rs (starts n c) ≡ leading c
leading_of rs w n none h = refl
leading_of rs w n (node form at ps rest) h =
    ap (λ (x : Option Form). one_parameter x (parameters_of rs (starts (suc (n + size ps)) rest))) (form_there rs w n form at ps rest h)
    ∙ one_is form (parameters_of rs (starts (suc (n + size ps)) rest))
    ∙ ap (leading_by (parameter_slot form)) (leading_of rs w (suc (n + size ps)) rest h.2)

leading_few : (n t : ℕ) (ss : List Slotted) (x : Frame) (fs : List Frame) (j : ℕ) (c : Core) → Known n t ss (x ∷ fs) c → ParametersFrom j c → j ≤ x.count → j + leading c ≤ x.count
leading_few n t ss x fs j none h p le = omega arith
leading_few n t ss x fs j (node form at ps rest) h p le = by_slot (leading_few n t ss x fs (suc j) rest h.3 p.1) (parameter_slot form) h.0.parameter p.0
  where
    by_slot : (suc j ≤ x.count → suc j + leading rest ≤ x.count) → (o : Option ℕ) → IfSome o (IsBelow (x ∷ fs)) → IfSome o (λ (k : ℕ). k ≡ j) → j + leading_by o (leading rest) ≤ x.count
    by_slot further None b e = omega arith
    by_slot further (Some slot) b e = let later = further (omega (arith, b, e)) in omega arith

-- ---- the scopes behind the rows

-- scopes that are as the rows tell, with these slots
pub record Backs (rs : List Row) (ss : List Slotted) (scopes : List Scope) : Type 0 where
  pub many : length scopes ≡ length ss
  pub each : (k : ℕ) (xs : Slotted) → slice_get ss k ≡ Some xs → (s : Scope) × (slice_get scopes k ≡ Some s) × (length s.slots ≡ length xs)
  pub told : (n : ℕ) (r : Row) (k : ScopeId) (s : Scope) → slice_get rs n ≡ Some r → opening r.form ≡ Opens k → slice_get scopes k.0 ≡ Some s → s ≡ scope_of rs n r s.slots

pub get_there : {A : Type 0} (xs : List A) (i : ℕ) → i < length xs → (x : A) × (slice_get xs i ≡ Some x)
get_there [] i lt = absurd (omega (arith, lt))
get_there (x ∷ xs) zero lt = (x, refl)
get_there (x ∷ xs) (suc i) lt = get_there xs i (omega (arith, lt))

-- a scope as one sees it from a frame
record IsBacked (scopes : List Scope) (from : ScopeId) (i : ℕ) (x : Frame) : Type 0 where
  pub out : outwards scopes i (Some from) ≡ Some x.number
  pub scope : Scope
  pub stands : slice_get scopes x.number.0 ≡ Some scope
  pub wide : x.count ≤ length scope.slots

-- what surrounds a row is what the frames say
record Surrounds (scopes : List Scope) (fs : List Frame) (w : Within) : Type 0 where
  pub scope : Scope
  pub there : slice_get scopes w.scope.0 ≡ Some scope
  pub seen : (i : ℕ) (x : Frame) → slice_get fs i ≡ Some x → IsBacked scopes w.scope i x
  pub first : (k : ℕ) → StandsBefore k fs → w.scope.0 < k

home_block : (form : Form) (around : Option Form) (rs : List Row) (n : ℕ) (r : Row) (xs : List Slot) → sees_out form ≡ true → (scope_of_kind (kind_of form around) rs n r xs).home ≡ Some r.within.scope
home_block (f.Block scope) around rs n r xs e = by_around around
  where
    of_form : (form : Form) → (scope_of_kind (kind_by (Some form)) rs n r xs).home ≡ Some r.within.scope
    of_form (f.Call name receiver block) = refl
    of_form other = refl

    by_around : (x : Option Form) → (scope_of_kind (kind_by x) rs n r xs).home ≡ Some r.within.scope
    by_around None = refl
    by_around (Some form) = of_form form
home_block other around rs n r xs e = absurd cc

home_none : (form : Form) (k : ScopeId) (around : Option Form) (rs : List Row) (n : ℕ) (r : Row) (xs : List Slot) → opening form ≡ Opens k → sees_out form ≡ false → (scope_of_kind (kind_of form around) rs n r xs).home ≡ None
home_none (f.Program scope) k around rs n r xs o e = refl
home_none (f.Def name scope result written) k around rs n r xs o e = refl
home_none (f.Block scope) k around rs n r xs o e = absurd cc
home_none other k around rs n r xs o e = absurd cc

-- a frame of a scope that is opened
own_frame : (rs : List Row) (ss : List Slotted) (scopes : List Scope) (k : ScopeId) → Backs rs ss scopes → k.0 < length ss → IsBacked scopes k 0 (frame_at ss k)
own_frame rs ss scopes k b lt =
    let r = get_there ss k.0 lt in
    let s = b.each k.0 r.0 r.1 in
    let count : length (slots_at (slice_get ss k.0)) ≡ length r.0 = ap (λ (x : Option Slotted). length (slots_at x)) r.1 in
    record { out = refl; scope = s.0; stands = s.1; wide = omega (arith, s.2, count) }

-- a scope further out
further : (scopes : List Scope) (k from : ScopeId) (s : Scope) (i : ℕ) (x : Frame) → slice_get scopes k.0 ≡ Some s → s.home ≡ Some from → IsBacked scopes from i x → IsBacked scopes k (suc i) x
further scopes k from s i x is home b = record {
  out = ap (λ (o : Option Scope). outwards scopes i (home_by o)) is ∙ ap (outwards scopes i) home ∙ b.out;
  scope = b.scope;
  stands = b.stands;
  wide = b.wide;
}

-- what a scope that sees none surrounds
surrounds_alone : (rs : List Row) (ss : List Slotted) (scopes : List Scope) (w : Within) (n : ℕ) (k : ScopeId) → Backs rs ss scopes → k.0 < length ss → Surrounds scopes (frame_at ss k ∷ []) (inside_opening (Opens k) n w)
surrounds_alone rs ss scopes w n k b lt =
    let r1 = get_there ss k.0 lt in
    let s = b.each k.0 r1.0 r1.1 in
    record { scope = s.0; there = s.1; seen = λ i x at. by_place i x at; first = λ j before. before }
  where
    by_place : (i : ℕ) (x : Frame) → slice_get (frame_at ss k ∷ []) i ≡ Some x → IsBacked scopes k i x
    by_place zero x at = let here : frame_at ss k ≡ x = cc in subst (IsBacked scopes k 0) here (own_frame rs ss scopes k b lt)
    by_place (suc i) x at = absurd cc

surrounds_opened : (rs : List Row) (ss : List Slotted) (scopes : List Scope) (fs : List Frame) (w : Within) (form : Form) (n : ℕ) (r : Row) (k : ScopeId) (out : Bool)
    → Backs rs ss scopes → slice_get rs n ≡ Some r → r.form ≡ form → r.within ≡ w → opening form ≡ Opens k → sees_out form ≡ out → OpensWell (Opens k) out ss fs → Surrounds scopes fs w
    → Surrounds scopes (frames_by (Opens k) out ss fs) (inside_opening (Opens k) n w)
surrounds_opened rs ss scopes fs w form n r k true b is of in_w o sees well env =
    let r1 = get_there ss k.0 well.0 in
    let s = b.each k.0 r1.0 r1.1 in
    let told : s.0 ≡ scope_of rs n r s.0.slots = b.told n r k s.0 is (ap opening of ∙ o) s.1 in
    let home : s.0.home ≡ Some w.scope = ap (λ (z : Scope). z.home) told ∙ home_block r.form (form_at rs r.within.parent) rs n r s.0.slots (ap sees_out of ∙ sees) ∙ ap (λ (z : Within). Some z.scope) in_w in
    record { scope = s.0; there = s.1; seen = λ i x at. by_place i x at s.0 s.1 home; first = λ j before. before }
  where
    by_place : (i : ℕ) (x : Frame) → slice_get (frame_at ss k ∷ fs) i ≡ Some x → (s : Scope) → slice_get scopes k.0 ≡ Some s → s.home ≡ Some w.scope → IsBacked scopes k i x
    by_place zero x at s there home = let here : frame_at ss k ≡ x = cc in subst (IsBacked scopes k 0) here (own_frame rs ss scopes k b well.0)
    by_place (suc i) x at s there home = further scopes k w.scope s i x there home (env.seen i x at)
surrounds_opened rs ss scopes fs w form n r k false b is of in_w o sees well env = surrounds_alone rs ss scopes w n k b well.0

surrounds_inside : (rs : List Row) (ss : List Slotted) (scopes : List Scope) (fs : List Frame) (w : Within) (form : Form) (n : ℕ) (r : Row) (o : Opening)
    → Backs rs ss scopes → slice_get rs n ≡ Some r → r.form ≡ form → r.within ≡ w → opening form ≡ o → OpensWell o (sees_out form) ss fs → Surrounds scopes fs w
    → Surrounds scopes (frames_by o (sees_out form) ss fs) (inside_opening o n w)
surrounds_inside rs ss scopes fs w form n r (Opens k) b is of in_w e well env = surrounds_opened rs ss scopes fs w form n r k (sees_out form) b is of in_w e refl well env
surrounds_inside rs ss scopes fs w form n r Turns b is of in_w e well env = record { scope = env.scope; there = env.there; seen = env.seen; first = env.first }
surrounds_inside rs ss scopes fs w form n r Plain b is of in_w e well env = record { scope = env.scope; there = env.there; seen = env.seen; first = env.first }

-- ---- each row

-- what a row tells of the scope that it opens
pub record TellsScope (t : Contents) (n : ℕ) (r : Row) : Type 0 where
  pub home : (k : ScopeId) (s : Scope) → opening r.form ≡ Opens k → slice_get t.scopes k.0 ≡ Some s → IfSome s.home (λ (h : ScopeId). h.0 < k.0)
  pub parameters : (k : ScopeId) (s : Scope) → opening r.form ≡ Opens k → slice_get t.scopes k.0 ≡ Some s → s.parameters ≤ length s.slots

pub record RowKnown (t : Contents) (n : ℕ) (r : Row) : Type 0 where
  pub known : IsKnown t n r
  pub tells : TellsScope t n r

local_there : (t : Contents) (fs : List Frame) (w : Within) (l : Local) → Surrounds t.scopes fs w → IsSeen fs l → IsLocal t w.scope l
local_there t fs w l env h =
    let b = env.seen l.up h.seen h.stands in
    record {
      resolved = b.out ∙ ap (λ (k : ScopeId). Some k) h.number;
      scope = b.scope;
      stands = ap (λ (k : ScopeId). slice_get t.scopes k.0) (sym h.number) ∙ b.stands;
      slot = omega (arith, h.slot, b.wide);
    }

home_low : (rs : List Row) (ss : List Slotted) (form : Form) (around : Option Form) (n : ℕ) (r : Row) (xs : List Slot) (k : ScopeId) (fs : List Frame) (out : Bool) → opening form ≡ Opens k → sees_out form ≡ out → OpensWell (Opens k) out ss fs → (out ≡ true → (j : ℕ) → StandsBefore j fs → r.within.scope.0 < j) → IfSome ((scope_of_kind (kind_of form around) rs n r xs).home) (λ (h : ScopeId). h.0 < k.0)
home_low rs ss form around n r xs k fs true o e well first = subst (λ (x : Option ScopeId). IfSome x (λ (h : ScopeId). h.0 < k.0)) (sym (home_block form around rs n r xs e)) (first refl k.0 well.1)
home_low rs ss form around n r xs k fs false o e well first = subst (λ (x : Option ScopeId). IfSome x (λ (h : ScopeId). h.0 < k.0)) (sym (home_none form k around rs n r xs o e)) tt

well_at : (form : Form) (k : ScopeId) (ss : List Slotted) (fs : List Frame) → opening form ≡ Opens k → OpensWell (opening form) (sees_out form) ss fs → OpensWell (Opens k) (sees_out form) ss fs
well_at form k ss fs e well = subst (λ (o : Opening). OpensWell o (sees_out form) ss fs) e well

well_within : (k : ScopeId) (out : Bool) (ss : List Slotted) (fs : List Frame) → OpensWell (Opens k) out ss fs → k.0 < length ss
well_within k true ss fs h = h.0
well_within k false ss fs h = h.0

first_frame : (o : Opening) (k : ScopeId) (out : Bool) (ss : List Slotted) (fs : List Frame) → o ≡ Opens k → (gs : List Frame) × (frames_by o out ss fs ≡ frame_at ss k ∷ gs)
first_frame o k true ss fs e = (fs, ap (λ (x : Opening). frames_by x true ss fs) e)
first_frame o k false ss fs e = ([], ap (λ (x : Opening). frames_by x false ss fs) e)

row_known : (t : Contents) (ss : List Slotted) (fs : List Frame) (w : Within) (n : ℕ) (form : Form) (at : Place) (ps : Core)
    → Backs t.rows ss t.scopes
    → slice_get t.rows n ≡ Some (record { form = form; place = at; within = w; parts = starts (suc n) ps })
    → Stands t.rows (inside form n w) (suc n) ps
    → w.scope.0 < length t.scopes
    → IfSome (local_of form) (IsLocal t w.scope)
    → (sees_out form ≡ true → (j : ℕ) → StandsBefore j fs → w.scope.0 < j)
    → IsKnownForm (length t.names) (length t.texts) fs form → OpensWell (opening form) (sees_out form) ss fs → Known (length t.names) (length t.texts) ss (frames_in form ss fs) ps → ParametersFrom 0 ps
    → RowKnown t n (record { form = form; place = at; within = w; parts = starts (suc n) ps })
row_known t ss fs w n form at ps b is stands scope local first known well inside_known from =
    let r : Row = record { form = form; place = at; within = w; parts = starts (suc n) ps } in
    record {
      known = record {
        scope = scope;
        names = known.names;
        text = known.text;
        local = local;
        opens = λ k o.
            let x = get_there ss k.0 (well_within k (sees_out form) ss fs (well_at form k ss fs o well)) in
            let s = b.each k.0 x.0 x.1 in
            (s.0, s.1, b.told n r k s.0 is o s.1);
        parameters = λ i slot restricted p there e. let told = parameter_at t.rows (inside form n w) (suc n) 0 ps stands from i slot restricted p there e in omega (arith, told);
      };
      tells = record {
        home = λ k s o there.
            let told : s ≡ scope_of t.rows n r s.slots = b.told n r k s is o there in
            subst (λ (x : Option ScopeId). IfSome x (λ (h : ScopeId). h.0 < k.0)) (sym (ap (λ (z : Scope). z.home) told))
            (home_low t.rows ss form (form_at t.rows w.parent) n r s.slots k fs (sees_out form) o refl (well_at form k ss fs o well) first);
        parameters = λ k s o there.
            let told : s ≡ scope_of t.rows n r s.slots = b.told n r k s is o there in
            let many : s.parameters ≡ leading ps = ap (λ (z : Scope). z.parameters) told ∙ leading_of t.rows (inside form n w) (suc n) ps stands in
            let x = get_there ss k.0 (well_within k (sees_out form) ss fs (well_at form k ss fs o well)) in
            let y = b.each k.0 x.0 x.1 in
            let same : Some y.0 ≡ Some s = sym y.1 ∙ there in
            let scope_same : y.0 ≡ s = cc in
            let long : length s.slots ≡ length x.0 = ap (λ (z : Scope). length z.slots) (sym scope_same) ∙ y.2 in
            let count : (frame_at ss k).count ≡ length x.0 = ap (λ (z : Option Slotted). length (slots_at z)) x.1 in
            let front = first_frame (opening form) k (sees_out form) ss fs o in
            let few = leading_few (length t.names) (length t.texts) ss (frame_at ss k) front.0 0 ps (subst (λ (gs : List Frame). Known (length t.names) (length t.texts) ss gs ps) front.1 inside_known) from (omega arith) in
            omega (arith, many, long, count, few);
      };
    }

each_row : (t : Contents) (ss : List Slotted) (fs : List Frame) (w : Within) (n : ℕ) (c : Core) → Backs t.rows ss t.scopes → Stands t.rows w n c → Known (length t.names) (length t.texts) ss fs c → Placed c → Surrounds t.scopes fs w
    → (i : ℕ) (r : Row) → slice_get (layout w n c) i ≡ Some r → RowKnown t (n + i) r
each_row t ss fs w n none b h known placed env i r is = absurd cc
each_row t ss fs w n (node form at ps rest) b h known placed env zero r is =
    let row : Row = record { form = form; place = at; within = w; parts = starts (suc n) ps } in
    let here : row ≡ r = cc in
    let number : n ≡ n + 0 = omega arith in
    let made = row_known t ss fs w n form at ps b h.0 h.1 (slice_get_within t.scopes w.scope.0 env.scope env.there)
    (IfSome_then (local_of form) known.0.local (λ (l : Local) seen. local_there t fs w l env seen)) (λ out. env.first) known.0 known.1 known.2 placed.0 in
    subst (λ (q : Row). RowKnown t (n + 0) q) here (subst (λ (m : ℕ). RowKnown t m row) number made)
each_row t ss fs w n (node form at ps rest) b h known placed env (suc i) r is = by_side (row_behind w n form ps rest i r is)
    (λ g.
    let around = surrounds_inside t.rows ss t.scopes fs w form n (record { form = form; place = at; within = w; parts = starts (suc n) ps }) (opening form) b h.0 refl refl refl known.1 env in
    each_row t ss (frames_in form ss fs) (inside form n w) (suc n) ps b h.1 known.2 placed.1 around i r g)
    (λ j g. each_row t ss fs w (suc (n + size ps)) rest b h.2 known.3 placed.2 env j r g)
  where
    by_side : RowBehind w n form ps rest i r → (slice_get (layout (inside form n w) (suc n) ps) i ≡ Some r → RowKnown t (suc n + i) r) → ((j : ℕ) → slice_get (layout w (suc (n + size ps)) rest) j ≡ Some r → RowKnown t (suc (n + size ps) + j) r) → RowKnown t (n + suc i) r
    by_side (inl g) inner beside =
        let number : suc n + i ≡ n + suc i = omega arith in
        subst (λ (m : ℕ). RowKnown t m r) number (inner g)
    by_side (inr g) inner beside =
        let long = length_layout (inside form n w) (suc n) ps in
        let number : suc (n + size ps) + g.0 ≡ n + suc i = omega (arith, g.1, long) in
        subst (λ (m : ℕ). RowKnown t m r) number (beside g.0 g.2)

-- ---- the program's row, and those below it

abbrev pub first_id : ScopeId
first_id = record { 0 = 0 }

pub whole_rows : (t : Contents) (ss : List Slotted) (at : Place) (ps : Core)
    → t.rows ≡ rows (one (f.Program first_id) at ps) → Stands t.rows outermost 0 (one (f.Program first_id) at ps) → Backs t.rows ss t.scopes
    → Known (length t.names) (length t.texts) ss [] (one (f.Program first_id) at ps) → Placed (one (f.Program first_id) at ps)
    → (n : ℕ) (r : Row) → slice_get t.rows n ≡ Some r → RowKnown t n r
whole_rows t ss at ps is_rows h b known placed n r is = by_number n (ap (λ (rs : List Row). slice_get rs n) (sym is_rows) ∙ is)
  where
    by_side : (i : ℕ) → (slice_get (layout (inside (f.Program first_id) 0 outermost) 1 ps) i ≡ Some r) ⊎ ((j : ℕ) × (i ≡ length (layout (inside (f.Program first_id) 0 outermost) 1 ps) + j) × (slice_get (layout outermost (suc (0 + size ps)) none) j ≡ Some r)) → RowKnown t (suc i) r
    by_side i (inl g) =
        let number : 1 + i ≡ suc i = omega arith in
        let around = surrounds_alone t.rows ss t.scopes outermost 0 first_id b known.1.0 in
        subst (λ (m : ℕ). RowKnown t m r) number (each_row t ss (frame_at ss first_id ∷ []) (inside (f.Program first_id) 0 outermost) 1 ps b h.1 known.2 placed.1 around i r g)
    by_side i (inr g) = let none_there : slice_get [] g.0 ≡ Some r = g.2 in absurd cc

    by_number : (n : ℕ) → slice_get (layout outermost 0 (one (f.Program first_id) at ps)) n ≡ Some r → RowKnown t n r
    by_number zero e =
        let row : Row = record { form = f.Program first_id; place = at; within = outermost; parts = starts 1 ps } in
        let same : row ≡ r = cc in
        let there : 0 < length t.scopes = omega (arith, b.many, known.1.0) in
        subst (λ (q : Row). RowKnown t 0 q) same
        (row_known t ss [] outermost 0 (f.Program first_id) at ps b h.0 h.1 there tt (λ out. absurd (false≢true out)) known.0 known.1 known.2 placed.0)
    by_number (suc i) e = by_side i (row_behind outermost 0 (f.Program first_id) ps none i r e)

has_parent : (o : Opening) (n : ℕ) (w : Within) → is_some (inside_opening o n w).parent ≡ true
has_parent (Opens k) n w = refl
has_parent Turns n w = refl
has_parent Plain n w = refl

all_parents : (w : Within) (n : ℕ) (c : Core) → is_some w.parent ≡ true → (i : ℕ) (r : Row) → slice_get (layout w n c) i ≡ Some r → is_some r.within.parent ≡ true
all_parents w n none h i r is = absurd cc
all_parents w n (node form at ps rest) h zero r is =
    let here : record { form = form; place = at; within = w; parts = starts (suc n) ps } ≡ r = cc in
    ap (λ (q : Row). is_some q.within.parent) (sym here) ∙ h
all_parents w n (node form at ps rest) h (suc i) r is = by_side (row_behind w n form ps rest i r is) (all_parents (inside form n w) (suc n) ps (has_parent (opening form) n w) i r) (λ j. all_parents w (suc (n + size ps)) rest h j r)
  where
    by_side : RowBehind w n form ps rest i r → (slice_get (layout (inside form n w) (suc n) ps) i ≡ Some r → is_some r.within.parent ≡ true) → ((j : ℕ) → slice_get (layout w (suc (n + size ps)) rest) j ≡ Some r → is_some r.within.parent ≡ true) → is_some r.within.parent ≡ true
    by_side (inl g) inner beside = inner g
    by_side (inr g) inner beside = beside g.0 g.2

pub rooted : (rs : List Row) (at : Place) (ps : Core) → rs ≡ rows (one (f.Program first_id) at ps) → IsRooted rs
rooted rs at ps is = subst IsRooted (sym is) (record {
  root = record { form = f.Program first_id; place = at; within = outermost; parts = starts 1 ps };
  stands = refl;
  program = refl;
  alone = λ n r there none_around. by_number n r there none_around;
})
  where
    by_side : (i : ℕ) (r : Row) → (slice_get (layout (inside (f.Program first_id) 0 outermost) 1 ps) i ≡ Some r) ⊎ ((j : ℕ) × (i ≡ length (layout (inside (f.Program first_id) 0 outermost) 1 ps) + j) × (slice_get (layout outermost (suc (0 + size ps)) none) j ≡ Some r)) → is_some r.within.parent ≡ true
    by_side i r (inl g) = all_parents (inside (f.Program first_id) 0 outermost) 1 ps refl i r g
    by_side i r (inr g) = let none_there : slice_get [] g.0 ≡ Some r = g.2 in absurd cc

    by_number : (n : ℕ) (r : Row) → slice_get (layout outermost 0 (one (f.Program first_id) at ps)) n ≡ Some r → IsNone r.within.parent → n ≡ 0
    by_number zero r e lone = refl
    by_number (suc i) r e lone =
        let has = by_side i r (row_behind outermost 0 (f.Program first_id) ps none i r e) in
        absurd (false≢true (sym lone ∙ has))
