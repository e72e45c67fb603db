-- Core trees whose names are there, whose scopes are opened once, and whose nodes have the parts that their forms want.
use Rattle.std.specs.Prelude.{slice_get, IfSome}
use Rattle.std.proofs.Common.{◌≡◌, ℕ, suc, ◌+◌, ◌<◌, ◌≤◌, ◌⊎◌, inl, inr, Bool, true, false, List, [], ◌∷◌, ◌++◌, length, Option, Some, None, refl, sym, ap, ◌∙◌, subst, arith, length-append, append_assoc}
use Rattle.std.proofs.lemmas.Bool.{cases_lt}
use Rattle.cr_core.specs.declared.form.Form.{Form}
use Rattle.cr_core.specs.declared.form.Form.TheVariants as f
use Rattle.cr_core.specs.declared.form.ScopeId.{ScopeId}
use Rattle.cr_core.specs.declared.row.Place.{Place}
use Rattle.cr_core.specs.Core.{Core, none, node, one, ◌⊕◌}
use Rattle.cr_core.specs.Arena.{Opening, Opens, Turns, Plain, opening}
use Rattle.cr_core.specs.Shape as sh
use Rattle.cr_core.specs.Shape.{Role, role, Portion, portions, Are, Fits}
use Rattle.cr_core.specs.Standing.{roles, Shaped}
use Rattle.cr_lowering.proofs.Grows.{Slotted, Frame, AreWider, IsKnownForm, form_wider, parameter_slot}

-- ---- names, texts and locals

abbrev pub slots_at : Option Slotted → Slotted
slots_at None = []
slots_at (Some xs) = xs

abbrev pub frame_at : List Slotted → ScopeId → Frame
frame_at ss k = record { number = k; count = length (slots_at (slice_get ss k.0)) }

-- a block sees what is around it
abbrev pub sees_out : Form → Bool
sees_out (f.Block scope) = true
sees_out other = false

abbrev pub frames_by : Opening → Bool → List Slotted → List Frame → List Frame
frames_by (Opens k) true ss fs = frame_at ss k ∷ fs
frames_by (Opens k) false ss fs = frame_at ss k ∷ []
frames_by Turns out ss fs = fs
frames_by Plain out ss fs = fs

-- what the parts of a form see
abbrev pub frames_in : Form → List Slotted → List Frame → List Frame
frames_in form ss fs = frames_by (opening form) (sees_out form) ss fs

-- the innermost of the scopes stands before this number
abbrev pub StandsBefore : ℕ → List Frame → Type 0
StandsBefore k [] = Unit {0}
StandsBefore k (x ∷ xs) = x.number.0 < k

abbrev pub OpensWell : Opening → Bool → List Slotted → List Frame → Type 0
OpensWell (Opens k) true ss fs = (k.0 < length ss) × StandsBefore k.0 fs
OpensWell (Opens k) false ss fs = (k.0 < length ss) × Unit {0}
OpensWell Turns out ss fs = Unit {0}
OpensWell Plain out ss fs = Unit {0}

abbrev pub Known : ℕ → ℕ → List Slotted → List Frame → Core → Type 0
Known n t ss fs none = Unit {0}
Known n t ss fs (node form at ps rest) =
    IsKnownForm n t fs form × OpensWell (opening form) (sees_out form) ss fs × Known n t ss (frames_in form ss fs) ps × Known n t ss fs rest

-- the scope is opened somewhere in the trees
abbrev pub OpensIn : ScopeId → Core → Type 0
OpensIn k none = ⊥
OpensIn k (node form at ps rest) = (opening form ≡ Opens k) ⊎ (OpensIn k ps ⊎ OpensIn k rest)

before_wider : (k : ℕ) (xs ys : List Frame) → AreWider xs ys → StandsBefore k xs → StandsBefore k ys
before_wider k [] [] w b = tt
before_wider k [] (y ∷ ys) w b = absurd w
before_wider k (x ∷ xs) [] w b = absurd w
before_wider k (x ∷ xs) (y ∷ ys) w b = let e = ap (λ (z : ScopeId). z.0) w.0 in omega (arith, e, b)

frame_same : (ss ts : List Slotted) (k : ScopeId) → slice_get ts k.0 ≡ slice_get ss k.0 → (frame_at ss k).count ≤ (frame_at ts k).count
frame_same ss ts k e = let same = ap (λ (o : Option Slotted). length (slots_at o)) e in omega arith

opens_wider : (o : Opening) (out : Bool) (ss ts : List Slotted) (fs gs : List Frame) → length ss ≤ length ts → AreWider fs gs → OpensWell o out ss fs → OpensWell o out ts gs
opens_wider (Opens k) true ss ts fs gs le w h = (omega (arith, h.0), before_wider k.0 fs gs w h.1)
opens_wider (Opens k) false ss ts fs gs le w h = (omega (arith, h.0), tt)
opens_wider Turns out ss ts fs gs le w h = tt
opens_wider Plain out ss ts fs gs le w h = tt

frames_wider : (o : Opening) (out : Bool) (ss ts : List Slotted) (fs gs : List Frame) → ((k : ScopeId) → o ≡ Opens k → slice_get ts k.0 ≡ slice_get ss k.0) → AreWider fs gs → AreWider (frames_by o out ss fs) (frames_by o out ts gs)
frames_wider (Opens k) true ss ts fs gs kept w = (refl, frame_same ss ts k (kept k refl), w)
frames_wider (Opens k) false ss ts fs gs kept w = (refl, frame_same ss ts k (kept k refl), tt)
frames_wider Turns out ss ts fs gs kept w = w
frames_wider Plain out ss ts fs gs kept w = w

-- what is known stays known
pub known_more : (n n' t t' : ℕ) (ss ts : List Slotted) (fs gs : List Frame) (c : Core) → n ≤ n' → t ≤ t' → length ss ≤ length ts → ((k : ScopeId) → OpensIn k c → slice_get ts k.0 ≡ slice_get ss k.0) → AreWider fs gs → Known n t ss fs c → Known n' t' ts gs c
known_more n n' t t' ss ts fs gs none le le' more kept w h = tt
known_more n n' t t' ss ts fs gs (node form at ps rest) le le' more kept w h = (
  form_wider n n' t t' fs gs form le le' w h.0,
  opens_wider (opening form) (sees_out form) ss ts fs gs more w h.1,
  known_more n n' t t' ss ts (frames_in form ss fs) (frames_in form ts gs) ps le le' more (λ k o. kept k (inr (inl o))) (frames_wider (opening form) (sees_out form) ss ts fs gs (λ k e. kept k (inl e)) w) h.2,
  known_more n n' t t' ss ts fs gs rest le le' more (λ k o. kept k (inr (inr o))) w h.3,
)

pub known_join : (n t : ℕ) (ss : List Slotted) (fs : List Frame) (a b : Core) → Known n t ss fs a → Known n t ss fs b → Known n t ss fs (a ⊕ b)
known_join n t ss fs none b x y = y
known_join n t ss fs (node form at ps rest) b x y = (x.0, x.1, x.2, known_join n t ss fs rest b x.3 y)

-- ---- scopes, each opened once

abbrev pub Once : Core → Type 0
Once none = Unit {0}
Once (node form at ps rest) =
    ((k : ScopeId) → opening form ≡ Opens k → OpensIn k ps → ⊥)
    × ((k : ScopeId) → opening form ≡ Opens k → OpensIn k rest → ⊥)
    × ((k : ScopeId) → OpensIn k ps → OpensIn k rest → ⊥)
    × Once ps × Once rest

-- the trees open the scopes from `low` up to `high`, and each once
pub record OpensAll (low high : ℕ) (c : Core) : Type 0 where
  pub within : (k : ScopeId) → OpensIn k c → (low ≤ k.0) × (k.0 < high)
  pub covers : (k : ScopeId) → low ≤ k.0 → k.0 < high → OpensIn k c
  pub once : Once c

in_left : (k : ScopeId) (a b : Core) → OpensIn k a → OpensIn k (a ⊕ b)
in_left k none b o = absurd o
in_left k (node form at ps rest) b (inl e) = inl e
in_left k (node form at ps rest) b (inr (inl o)) = inr (inl o)
in_left k (node form at ps rest) b (inr (inr o)) = inr (inr (in_left k rest b o))

in_right : (k : ScopeId) (a b : Core) → OpensIn k b → OpensIn k (a ⊕ b)
in_right k none b o = o
in_right k (node form at ps rest) b o = inr (inr (in_right k rest b o))

in_either : (k : ScopeId) (a b : Core) → OpensIn k (a ⊕ b) → OpensIn k a ⊎ OpensIn k b
in_either k none b o = inr o
in_either k (node form at ps rest) b (inl e) = inl (inl e)
in_either k (node form at ps rest) b (inr (inl o)) = inl (inr (inl o))
in_either k (node form at ps rest) b (inr (inr o)) = later (in_either k rest b o)
  where
    later : OpensIn k rest ⊎ OpensIn k b → OpensIn k (node form at ps rest) ⊎ OpensIn k b
    later (inl x) = inl (inr (inr x))
    later (inr y) = inr y

once_join : (a b : Core) → Once a → Once b → ((k : ScopeId) → OpensIn k a → OpensIn k b → ⊥) → Once (a ⊕ b)
once_join none b x y apart = y
once_join (node form at ps rest) b x y apart = (
  x.0,
  λ k e o. by_side k (in_either k rest b o) (x.1 k e) (λ q. apart k (inl e) q),
  λ k p o. by_side k (in_either k rest b o) (x.2 k p) (λ q. apart k (inr (inl p)) q),
  x.3,
  once_join rest b x.4 y (λ k p q. apart k (inr (inr p)) q),
)
  where
    by_side : (k : ScopeId) → OpensIn k rest ⊎ OpensIn k b → (OpensIn k rest → ⊥) → (OpensIn k b → ⊥) → ⊥
    by_side k (inl o) l r = l o
    by_side k (inr o) l r = r o

pub all_none : (low : ℕ) → OpensAll low low none
all_none low = record { within = λ k o. absurd o; covers = λ k le lt. absurd (omega (arith, le, lt)); once = tt }

pub all_join : (low middle high : ℕ) (a b : Core) → low ≤ middle → middle ≤ high → OpensAll low middle a → OpensAll middle high b → OpensAll low high (a ⊕ b)
all_join low middle high a b le le' x y = record {
  within = λ k o. inside k (in_either k a b o);
  covers = λ k l h. cover k l h (cases_lt k.0 middle);
  once = once_join a b x.once y.once (λ k p q. let r = x.within k p in let s = y.within k q in absurd (omega (arith, r.1, s.0)));
}
  where
    inside : (k : ScopeId) → OpensIn k a ⊎ OpensIn k b → (low ≤ k.0) × (k.0 < high)
    inside k (inl o) = let r = x.within k o in (r.0, omega (arith, r.1))
    inside k (inr o) = let r = y.within k o in (omega (arith, r.0), r.1)

    cover : (k : ScopeId) → low ≤ k.0 → k.0 < high → (k.0 < middle) ⊎ (middle ≤ k.0) → OpensIn k (a ⊕ b)
    cover k l h (inl lt) = in_left k a b (x.covers k l lt)
    cover k l h (inr ge) = in_right k a b (y.covers k ge h)

-- the same the other way round
pub all_flipped : (low middle high : ℕ) (a b : Core) → low ≤ middle → middle ≤ high → OpensAll low middle a → OpensAll middle high b → OpensAll low high (b ⊕ a)
all_flipped low middle high a b le le' x y = record {
  within = λ k o. inside k (in_either k b a o);
  covers = λ k l h. cover k l h (cases_lt k.0 middle);
  once = once_join b a y.once x.once (λ k q p. let r = x.within k p in let s = y.within k q in absurd (omega (arith, r.1, s.0)));
}
  where
    inside : (k : ScopeId) → OpensIn k b ⊎ OpensIn k a → (low ≤ k.0) × (k.0 < high)
    inside k (inl o) = let r = y.within k o in (omega (arith, r.0), r.1)
    inside k (inr o) = let r = x.within k o in (r.0, omega (arith, r.1))

    cover : (k : ScopeId) → low ≤ k.0 → k.0 < high → (k.0 < middle) ⊎ (middle ≤ k.0) → OpensIn k (b ⊕ a)
    cover k l h (inl lt) = in_right k b a (x.covers k l lt)
    cover k l h (inr ge) = in_left k b a (y.covers k ge h)

-- whether something opens a scope
abbrev pub opens_none : Opening → Type 0
opens_none (Opens k) = ⊥
opens_none Turns = Unit {0}
opens_none Plain = Unit {0}

opens_no : (o : Opening) (k : ScopeId) → opens_none o → o ≡ Opens k → ⊥
opens_no (Opens j) k no_scope e = no_scope
opens_no Turns k no_scope e = absurd cc
opens_no Plain k no_scope e = absurd cc

pub opens_well_none : (o : Opening) (out : Bool) (ss : List Slotted) (fs : List Frame) → opens_none o → OpensWell o out ss fs
opens_well_none (Opens k) out ss fs no_scope = absurd no_scope
opens_well_none Turns out ss fs no_scope = tt
opens_well_none Plain out ss fs no_scope = tt

pub frames_none : (o : Opening) (out : Bool) (ss : List Slotted) (fs : List Frame) → opens_none o → frames_by o out ss fs ≡ fs
frames_none (Opens k) out ss fs no_scope = absurd no_scope
frames_none Turns out ss fs no_scope = refl
frames_none Plain out ss fs no_scope = refl

-- a node that opens no scope
pub all_node : (low high : ℕ) (form : Form) (at : Place) (c : Core) → opens_none (opening form) → OpensAll low high c → OpensAll low high (one form at c)
all_node low high form at c no_scope x = record {
  within = λ k o. inside k o;
  covers = λ k l h. inr (inl (x.covers k l h));
  once = (λ k e o. opens_no (opening form) k no_scope e, λ k e o. o, λ k p o. o, x.once, tt);
}
  where
    inside : (k : ScopeId) → OpensIn k (one form at c) → (low ≤ k.0) × (k.0 < high)
    inside k (inl e) = absurd (opens_no (opening form) k no_scope e)
    inside k (inr (inl o)) = x.within k o
    inside k (inr (inr o)) = absurd o

-- a node that opens the first of the scopes
pub all_opened : (low high : ℕ) (form : Form) (at : Place) (c : Core) → low < high → opening form ≡ Opens (record { 0 = low }) → OpensAll (suc low) high c → OpensAll low high (one form at c)
all_opened low high form at c lt is x = record {
  within = λ k o. inside k o;
  covers = λ k l h. cover k l h (cases_lt low k.0);
  once = (λ k e o. let r = x.within k o in let same = number k e in absurd (omega (arith, r.0, same)), λ k e o. o, λ k p o. o, x.once, tt);
}
  where
    number : (k : ScopeId) → opening form ≡ Opens k → k.0 ≡ low
    number k e = let same : Opens k ≡ Opens (record { 0 = low }) = sym e ∙ is in let at_low : k ≡ record { 0 = low } = cc in ap (λ (z : ScopeId). z.0) at_low

    inside : (k : ScopeId) → OpensIn k (one form at c) → (low ≤ k.0) × (k.0 < high)
    inside k (inl e) = let same = number k e in (omega arith, omega arith)
    inside k (inr (inl o)) = let r = x.within k o in (omega (arith, r.0), r.1)
    inside k (inr (inr o)) = absurd o

    cover : (k : ScopeId) → low ≤ k.0 → k.0 < high → (low < k.0) ⊎ (k.0 ≤ low) → OpensIn k (one form at c)
    cover k l h (inl above) = inr (inl (x.covers k (omega (arith, above)) h))
    cover k l h (inr below) = let same : low ≡ k.0 = omega (arith, l, below) in inl (is ∙ ap (λ (n : ℕ). Opens (record { 0 = n })) same)

-- ---- parts

-- the parameters among the trees have their places as slots
abbrev pub ParametersFrom : ℕ → Core → Type 0
ParametersFrom i none = Unit {0}
ParametersFrom i (node form at ps rest) = IfSome (parameter_slot form) (λ (slot : ℕ). slot ≡ i) × ParametersFrom (suc i) rest

abbrev pub Placed : Core → Type 0
Placed none = Unit {0}
Placed (node form at ps rest) = ParametersFrom 0 ps × Placed ps × Placed rest

pub placed_join : (a b : Core) → Placed a → Placed b → Placed (a ⊕ b)
placed_join none b x y = y
placed_join (node form at ps rest) b x y = (x.0, x.1, placed_join rest b x.2 y)

pub shaped_join : (a b : Core) → Shaped a → Shaped b → Shaped (a ⊕ b)
shaped_join none b x y = y
shaped_join (node form at ps rest) b x y = (x.0, x.1, shaped_join rest b x.2 y)

pub roles_join : (a b : Core) → roles (a ⊕ b) ≡ roles a ++ roles b
roles_join none b = refl
roles_join (node form at ps rest) b = ap (λ (ks : List Role). role form ∷ ks) (roles_join rest b)

-- how many trees there are beside one another
abbrev pub count : Core → ℕ
count none = 0
count (node form at ps rest) = suc (count rest)

pub count_join : (a b : Core) → count (a ⊕ b) ≡ count a + count b
count_join none b = omega arith
count_join (node form at ps rest) b = let more = count_join rest b in omega (arith, more)

pub parameters_join : (i : ℕ) (a b : Core) → ParametersFrom i a → ParametersFrom (i + count a) b → ParametersFrom i (a ⊕ b)
parameters_join i none b x y = let e : i + 0 ≡ i = omega arith in subst (λ (n : ℕ). ParametersFrom n b) e y
parameters_join i (node form at ps rest) b x y =
    let e : i + suc (count rest) ≡ suc i + count rest = omega arith in
    (x.0, parameters_join (suc i) rest b x.1 (subst (λ (n : ℕ). ParametersFrom n b) e y))

-- no part is a parameter
abbrev pub is_parameter : Role → Bool
is_parameter sh.Parameter = true
is_parameter other = false

abbrev pub NoParameter : List Portion → Type 0
NoParameter [] = Unit {0}
NoParameter (sh.one k ∷ ps) = (is_parameter k ≡ false) × NoParameter ps
NoParameter (sh.many k ∷ ps) = (is_parameter k ≡ false) × NoParameter ps
NoParameter (sh.pairs k ∷ ps) = (is_parameter k ≡ false) × NoParameter ps

abbrev NoneIs : List Role → Type 0
NoneIs [] = Unit {0}
NoneIs (k ∷ ks) = (is_parameter k ≡ false) × NoneIs ks

none_append : (js ks : List Role) → NoneIs js → NoneIs ks → NoneIs (js ++ ks)
none_append [] ks x y = y
none_append (j ∷ js) ks x y = (x.0, none_append js ks x.1 y)

none_are : (k : Role) (js : List Role) → is_parameter k ≡ false → Are k js → NoneIs js
none_are k [] no_one a = tt
none_are k (j ∷ js) no_one a = (ap is_parameter a.0 ∙ no_one, none_are k js no_one a.1)

none_fits : (ps : List Portion) (ks : List Role) → NoParameter ps → Fits ps ks → NoneIs ks
none_fits [] [] x y = tt
none_fits [] (k ∷ ks) x y = absurd y
none_fits (sh.one k ∷ ps) [] x y = absurd y
none_fits (sh.one k ∷ ps) (j ∷ ks) x y = (ap is_parameter y.0 ∙ x.0, none_fits ps ks x.1 y.1)
none_fits (sh.many k ∷ ps) ks x y = subst NoneIs (sym y.2) (none_append y.0 y.1 (none_are k y.0 x.0 y.3) (none_fits ps y.1 x.1 y.4))
none_fits (sh.pairs k ∷ ps) ks x y = subst NoneIs (sym y.3) (none_append y.0 y.1 (none_are k y.0 x.0 y.5) (none_fits ps y.1 x.1 y.6))

no_slot : (form : Form) → is_parameter (role form) ≡ false → parameter_slot form ≡ None
no_slot (f.Parameter slot restricted) e = absurd cc
no_slot other e = refl

none_from : (i : ℕ) (c : Core) → NoneIs (roles c) → ParametersFrom i c
none_from i none x = tt
none_from i (node form at ps rest) x = (subst (λ (o : Option ℕ). IfSome o (λ (slot : ℕ). slot ≡ i)) (sym (no_slot form x.0)) tt, none_from (suc i) rest x.1)

pub no_parameters : (i : ℕ) (ps : List Portion) (c : Core) → NoParameter ps → Fits ps (roles c) → ParametersFrom i c
no_parameters i ps c no_one fits = none_from i c (none_fits ps (roles c) no_one fits)

-- ---- portions one after the other

pub fits_append : (ps qs : List Portion) (js ks : List Role) → Fits ps js → Fits qs ks → Fits (ps ++ qs) (js ++ ks)
fits_append [] qs [] ks x y = y
fits_append [] qs (j ∷ js) ks x y = absurd x
fits_append (sh.one k ∷ ps) qs [] ks x y = absurd x
fits_append (sh.one k ∷ ps) qs (j ∷ js) ks x y = (x.0, fits_append ps qs js ks x.1 y)
fits_append (sh.many k ∷ ps) qs js ks x y =
    (x.0, x.1 ++ ks, ap (λ (l : List Role). l ++ ks) x.2 ∙ append_assoc x.0 x.1 ks, x.3, fits_append ps qs x.1 ks x.4 y)
fits_append (sh.pairs k ∷ ps) qs js ks x y =
    (x.0, x.1 ++ ks, x.2, ap (λ (l : List Role). l ++ ks) x.3 ∙ append_assoc x.0 x.1 ks, x.4, x.5, fits_append ps qs x.1 ks x.6 y)

pub fits_join : (ps qs : List Portion) (a b : Core) → Fits ps (roles a) → Fits qs (roles b) → Fits (ps ++ qs) (roles (a ⊕ b))
fits_join ps qs a b x y = subst (Fits (ps ++ qs)) (sym (roles_join a b)) (fits_append ps qs (roles a) (roles b) x y)

pub are_append : (k : Role) (js ks : List Role) → Are k js → Are k ks → Are k (js ++ ks)
are_append k [] ks x y = y
are_append k (j ∷ js) ks x y = (x.0, are_append k js ks x.1 y)

pub are_of : (k : Role) (ks : List Role) → Fits (sh.many k ∷ []) ks → Are k ks
are_of k ks x = by_rest x.1 x.2 x.4
  where
    by_rest : (rest : List Role) → ks ≡ x.0 ++ rest → Fits [] rest → Are k ks
    by_rest [] e y = subst (Are k) (sym e) (are_append k x.0 [] x.3 tt)
    by_rest (j ∷ rest) e y = absurd y

pub fits_many : (k : Role) (ks : List Role) → Are k ks → Fits (sh.many k ∷ []) ks
fits_many k ks x = (ks, [], append_nil_sym ks, x, tt)
  where
    append_nil_sym : (l : List Role) → l ≡ l ++ []
    append_nil_sym [] = refl
    append_nil_sym (y ∷ l) = ap (λ (z : List Role). y ∷ z) (append_nil_sym l)

pub one_many : (k : Role) (ks : List Role) → Fits (sh.one k ∷ []) ks → Fits (sh.many k ∷ []) ks
one_many k [] x = absurd x
one_many k (j ∷ []) x = fits_many k (j ∷ []) (x.0, tt)
one_many k (j ∷ i ∷ ks) x = absurd x.1

-- pairs, so many
record ArePairs (k : Role) (ks : List Role) : Type 0 where
  pub half : ℕ
  pub many : length ks ≡ half + half
  pub are : Are k ks

pairs_of : (k : Role) (ks : List Role) → Fits (sh.pairs k ∷ []) ks → ArePairs k ks
pairs_of k ks x = by_rest x.1 x.3 x.6
  where
    by_rest : (rest : List Role) → ks ≡ x.0 ++ rest → Fits [] rest → ArePairs k ks
    by_rest [] e y =
        let long = ap (λ (l : List Role). length l) e in
        record { half = x.2; many = omega (arith, x.4, length-append x.0 (let none_left : List Role = [] in none_left)); are = subst (Are k) (sym e) (are_append k x.0 [] x.5 tt) }
    by_rest (j ∷ rest) e y = absurd y

fits_pairs : (k : Role) (ks : List Role) → ArePairs k ks → Fits (sh.pairs k ∷ []) ks
fits_pairs k ks x = (ks, [], x.half, append_nil_sym ks, x.many, x.are, tt)
  where
    append_nil_sym : (l : List Role) → l ≡ l ++ []
    append_nil_sym [] = refl
    append_nil_sym (y ∷ l) = ap (λ (z : List Role). y ∷ z) (append_nil_sym l)

pub pairs_none : (k : Role) → Fits (sh.pairs k ∷ []) []
pairs_none k = fits_pairs k [] (record { half = 0; many = refl; are = tt })

pub merge_pairs : (k : Role) (ks : List Role) → Fits (sh.pairs k ∷ sh.pairs k ∷ []) ks → Fits (sh.pairs k ∷ []) ks
merge_pairs k ks x =
    let q = pairs_of k x.1 x.6 in
    let long = ap (λ (l : List Role). length l) x.3 in
    let both = length-append x.0 x.1 in
    fits_pairs k ks (record { half = x.2 + q.half; many = omega (arith, x.4, q.many, long, both); are = subst (Are k) (sym x.3) (are_append k x.0 x.1 x.5 q.are) })

pub pairs_two : (k : Role) (ks : List Role) → Fits (sh.one k ∷ sh.one k ∷ []) ks → Fits (sh.pairs k ∷ []) ks
pairs_two k [] x = absurd x
pairs_two k (j ∷ []) x = absurd x.1
pairs_two k (j ∷ i ∷ []) x = fits_pairs k (j ∷ i ∷ []) (record { half = 1; many = refl; are = (x.0, (x.1.0, tt)) })
pairs_two k (j ∷ i ∷ l ∷ ks) x = absurd x.1.1
