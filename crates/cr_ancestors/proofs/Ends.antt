-- The ancestors of a class end with the root.
use Rattle.std.proofs.Common.{◌≡◌, ℕ, zero, suc, ◌+◌, ◌<◌, ◌≤◌, ◌⊎◌, inl, inr, Bool, true, false, eqb, List, [], ◌∷◌, ◌++◌, length, map, reverse, get_or, Option, Some, None, Contains, refl, sym, ap, ◌∙◌, subst, arith, append_assoc, length-append, eqb-true}
use Rattle.std.specs.Prelude.{slice_get, unwrap_or, ◌≢◌, ◌||◌}
use Rattle.std.proofs.lemmas.List.Elements.{Contains-append_cases, Contains-append_left, Contains-append_right}
use Rattle.std.proofs.lemmas.List.Sorted.{IsPermutation-reverse, list_any-IsPermutation}
use Rattle.std.proofs.lemmas.Option.{slice_get-map, slice_get-get_or}
use Rattle.cr_base.specs.declared.ids.ClassId.{ClassId}
use Rattle.cr_ancestors.specs.declared.parents.Parents.{Parents}
use Rattle.cr_ancestors.specs.Above.{ups, ups_of}
use Rattle.cr_ancestors.specs.Line as lines
use Rattle.cr_ancestors.specs.Line.{Line, Lines, has, with_one, kept, AreAncestors}
use Rattle.cr_ancestors.specs.Rooted.{IsRooted, HasSuperclass}
use Rattle.std.specs.Option.{option_map}
use Rattle.cr_ancestors.proofs.Members.{bool_cases, or_from, none_in, in_head, in_tail, in_cases, class_same, has_from, contains_from}
use Rattle.cr_ancestors.proofs.Kept.{one_there, one_new, kept_append, kept_has}
use Rattle.cr_ancestors.proofs.Closing.{kept_from}
use Rattle.cr_ancestors.proofs.Lookup.{line_one}

-- the root stands there, and behind its first place only what stands before
record Ends (root : ClassId) (written : List ClassId) : Type 0 where
  front : List ClassId
  rest : List ClassId
  is : written ≡ front ++ root ∷ rest
  new : Contains front root → ⊥
  old : (x : ClassId) → Contains rest x → Contains (front ++ root ∷ []) x

kept_nothing : (out l : List ClassId) → ((x : ClassId) → Contains l x → Contains out x) → kept out l ≡ out
kept_nothing out [] all = refl
kept_nothing out (y ∷ l) all =
    ap (λ (o : List ClassId). kept o l) (one_there out y (has_from out y (all y (in_head y l))))
    ∙ kept_nothing out l (λ x h. all x (in_tail y x l h))

kept_ends : (root : ClassId) (written : List ClassId) → Ends root written → (front : List ClassId) × (kept [] written ≡ front ++ root ∷ [])
kept_ends root written ends = (
  kept [] ends.front,
  ap (kept []) ends.is ∙ kept_append [] ends.front (root ∷ ends.rest) ∙ ap (λ (l : List ClassId). kept l ends.rest) (one_new (kept [] ends.front) root lacks)
      ∙ kept_nothing (kept [] ends.front ++ root ∷ []) ends.rest there,
)
  where
    lacks : has (kept [] ends.front) root ≡ false
    lacks = elim (bool_cases (has (kept [] ends.front) root)) [
      | inl e ↦ absurd (elim (kept_from [] ends.front root (contains_from (kept [] ends.front) root e)) [ inl never ↦ none_in root never | inr h ↦ ends.new h ])
      | inr e ↦ e
    ]

    there : (x : ClassId) → Contains ends.rest x → Contains (kept [] ends.front ++ root ∷ []) x
    there x h = elim (Contains-append_cases ends.front (root ∷ []) x (ends.old x h)) [
      | inl before ↦ Contains-append_left (kept [] ends.front) (root ∷ []) x (contains_from (kept [] ends.front) x (kept_has [] ends.front x (has_from ends.front x before)))
      | inr last ↦ Contains-append_right (kept [] ends.front) (root ∷ []) x last
    ]

split : (hierarchy : List (List ClassId)) (xs ys l : List ClassId) → Lines hierarchy (xs ++ ys) l → (a : List ClassId) × (b : List ClassId) × (l ≡ a ++ b) × Lines hierarchy xs a × Lines hierarchy ys b
split hierarchy [] ys l parts = ([], l, refl, lines.none, parts)
split hierarchy (x ∷ xs) ys l (lines.some c cs its others one rest) =
    let more = split hierarchy xs ys others rest in
    (its ++ more.0, more.1, ap (λ (m : List ClassId). its ++ m) more.2 ∙ sym (append_assoc its more.0 more.1), lines.some x xs its more.0 one more.3, more.4)

-- lines of one class have nothing that its line has not
again_in : (hierarchy : List (List ClassId)) (class : ClassId) (its : List ClassId) → Line hierarchy class its → (classes l : List ClassId) → Lines hierarchy classes l → ((other : ClassId) → Contains classes other → other ≡ class) → (x : ClassId) → Contains l x → Contains its x
again_in hierarchy class its line classes l lines.none same x h = absurd (none_in x h)
again_in hierarchy class its line classes l (lines.some c cs one others first rest) same x h = elim (Contains-append_cases one others x h) [
  | inl here ↦
      let e = same c (in_head c cs) in
      let equal = line_one hierarchy class one its (subst (λ (d : ClassId). Line hierarchy d one) e first) line in
      subst (λ (m : List ClassId). Contains m x) equal here
  | inr later ↦ again_in hierarchy class its line cs others rest (λ other there. same other (in_tail c other cs there)) x later
]

module _ (parents : List Parents) (is_class : ClassId → Bool) (root : ClassId) (rooted : IsRooted parents is_class root) where
  ups_at : (class : ClassId) (its : Parents) → slice_get parents class.0 ≡ Some its → ups_of (map ups parents) class ≡ reverse its.modules ++ its.superclasses
  ups_at class its at = ap (λ (o : Option (List ClassId)). unwrap_or o []) (slice_get-map ups parents class.0 ∙ ap (option_map ups) at)

  from_reverse : (xs : List ClassId) (x : ClassId) → Contains (reverse xs) x → Contains xs x
  from_reverse xs x h =
      contains_from xs x (list_any-IsPermutation (λ (other : ClassId). eqb other.0 x.0) xs (reverse xs) (IsPermutation-reverse xs) ∙ has_from (reverse xs) x h)

  ups_plain : (module' : ClassId) → is_class module' ≡ false → (up : ClassId) → Contains (ups_of (map ups parents) module') up → is_class up ≡ false
  ups_plain module' plain up there = by (slice_get parents module'.0) refl
    where
      by : (o : Option Parents) → slice_get parents module'.0 ≡ o → is_class up ≡ false
      by None e = absurd (none_in up (subst (λ (l : List ClassId). Contains l up) (ap (λ (o : Option (List ClassId)). unwrap_or o []) (slice_get-map ups parents module'.0 ∙ ap (option_map ups) e)) there))
      by (Some its) e = elim (Contains-append_cases (reverse its.modules) its.superclasses up (subst (λ (l : List ClassId). Contains l up) (ups_at module' its e) there)) [
        | inl included ↦ rooted.included module' up its e (from_reverse its.modules up included)
        | inr never ↦ absurd (none_in up (subst (λ (l : List ClassId). Contains l up) (rooted.module_alone module' its e plain) never))
      ]

  mutual
    module_line : (module' : ClassId) (l : List ClassId) → Line (map ups parents) module' l → is_class module' ≡ false → (x : ClassId) → Contains l x → is_class x ≡ false
    module_line module' l (lines.line one above parts) plain x there = elim (in_cases module' x above there) [
      | inl e ↦ subst (λ (c : ClassId). is_class c ≡ false) e plain
      | inr more ↦ module_lines (ups_of (map ups parents) module') above parts (ups_plain module' plain) x more
    ]

    module_lines : (modules l : List ClassId) → Lines (map ups parents) modules l → ((one : ClassId) → Contains modules one → is_class one ≡ false) → (x : ClassId) → Contains l x → is_class x ≡ false
    module_lines modules l lines.none plain x there = absurd (none_in x there)
    module_lines modules l (lines.some c cs its others one rest) plain x there = elim (Contains-append_cases its others x there) [
      | inl here ↦ module_line c its one (plain c (in_head c cs)) x here
      | inr later ↦ module_lines cs others rest (λ other h. plain other (in_tail c other cs h)) x later
    ]

  joins : (class : ClassId) (a f g others : List ClassId) → (class ≡ root → ⊥) → (Contains a root → ⊥) → (Contains f root → ⊥) → ((x : ClassId) → Contains g x → Contains (f ++ root ∷ []) x) → ((x : ClassId) → Contains others x → Contains (f ++ root ∷ g) x)
      → Ends root (class ∷ (a ++ ((f ++ root ∷ g) ++ others)))
  joins class a f g others not_root a_lacks f_lacks g_old others_old = record {
    front = class ∷ (a ++ f);
    rest = g ++ others;
    is = ap (λ (l : List ClassId). class ∷ l) (ap (λ (l : List ClassId). a ++ l) (append_assoc f (root ∷ g) others) ∙ sym (append_assoc a f (root ∷ (g ++ others))));
    new = λ h. elim (in_cases class root (a ++ f) h) [
      | inl e ↦ not_root e
      | inr more ↦ elim (Contains-append_cases a f root more) [ inl in_a ↦ a_lacks in_a | inr in_f ↦ f_lacks in_f ]
    ];
    old = λ x h. elim (Contains-append_cases g others x h) [
      | inl in_g ↦ longer x (g_old x in_g)
      | inr in_others ↦ elim (Contains-append_cases f (root ∷ g) x (others_old x in_others)) [
        | inl in_f ↦ longer x (Contains-append_left f (root ∷ []) x in_f)
        | inr behind ↦ elim (in_cases root x g behind) [
          | inl e ↦ longer x (Contains-append_right f (root ∷ []) x (subst (Contains (root ∷ [])) e (in_head root [])))
          | inr in_g ↦ longer x (g_old x in_g)
        ]
      ]
    ];
  }
    where
      longer : (x : ClassId) → Contains (f ++ root ∷ []) x → Contains ((class ∷ (a ++ f)) ++ root ∷ []) x
      longer x h = elim (Contains-append_cases f (root ∷ []) x h) [
        | inl in_f ↦ Contains-append_left (class ∷ (a ++ f)) (root ∷ []) x (in_tail class x (a ++ f) (Contains-append_right a f x in_f))
        | inr last ↦ Contains-append_right (class ∷ (a ++ f)) (root ∷ []) x last
      ]

  at_root : (class : ClassId) (above : List ClassId) → class ≡ root → Lines (map ups parents) [] above → Ends root (class ∷ above)
  at_root class above e lines.none = record {
    front = [];
    rest = [];
    is = ap (λ (c : ClassId). c ∷ []) e;
    new = λ h. none_in root h;
    old = λ x h. absurd (none_in x h);
  }

  class_line : (bound : ℕ) (class : ClassId) (l : List ClassId) → length l ≤ bound → Line (map ups parents) class l → class.0 < length parents → is_class class ≡ true → Ends root l
  class_line zero class l le (lines.line one above parts) low is_one = absurd (omega (arith, le))
  class_line (suc bound) class l le (lines.line one above parts) low is_one =
      let its = get_or parents class.0 (record { modules = []; superclasses = [] }) in
      let at : slice_get parents class.0 ≡ Some its = slice_get-get_or parents class.0 (record { modules = []; superclasses = [] }) low in
      elim (bool_cases (eqb class.0 root.0)) [
        | inl e ↦
            let same = class_same class root (eqb-true class.0 root.0 e) in
            let none = ups_at class its at ∙ rooted.top its (ap (λ (c : ClassId). slice_get parents c.0) (sym same) ∙ at) in
            at_root class above same (subst (λ (us : List ClassId). Lines (map ups parents) us above) none parts)
        | inr e ↦
            let not_root : class ≡ root → ⊥ = λ same. apart same e in
            let super = rooted.class_below class its at is_one not_root in
            let here = ups_at class its at ∙ ap (λ (us : List ClassId). reverse its.modules ++ us) super.named in
            let both = split (map ups parents) (reverse its.modules) (super.superclass ∷ super.again) above (subst (λ (us : List ClassId). Lines (map ups parents) us above) here parts) in
            let modules_lack : Contains both.0 root → ⊥ = λ h. lacks (module_lines (reverse its.modules) both.0 both.3 (λ m there. rooted.included class m its at (from_reverse its.modules m there)) root h) in
            subst (λ (m : List ClassId). Ends root (class ∷ m)) (sym both.2)
            (behind bound class both.0 both.1 super.superclass super.again (let len = length-append both.0 both.1 in let same = ap length both.2 in omega (arith, le, len, same)) both.4 not_root modules_lack super.within super.is_one super.no_other (class_line bound))
      ]
    where
      apart : class ≡ root → eqb class.0 root.0 ≡ false → ⊥
      apart same e = let t : has (root ∷ []) root ≡ true = has_from (root ∷ []) root (in_head root []) in
          let f : has (class ∷ []) root ≡ false = ap (λ (b : Bool). b || false) e in
          let g : has (root ∷ []) root ≡ false = ap (λ (c : ClassId). has (c ∷ []) root) (sym same) ∙ f in cc

      lacks : is_class root ≡ false → ⊥
      lacks e = let t = rooted.root_is_class in cc

      behind : (bound : ℕ) (class : ClassId) (a b : List ClassId) (superclass : ClassId) (again : List ClassId) → length b ≤ bound → Lines (map ups parents) (superclass ∷ again) b → (class ≡ root → ⊥) → (Contains a root → ⊥)
          → superclass.0 < length parents → is_class superclass ≡ true → ((other : ClassId) → Contains again other → other ≡ superclass)
          → ((class : ClassId) (l : List ClassId) → length l ≤ bound → Line (map ups parents) class l → class.0 < length parents → is_class class ≡ true → Ends root l)
          → Ends root (class ∷ (a ++ b))
      behind bound class a b superclass again le (lines.some c cs its others one rest) not_root modules_lack within is_one same above =
          let len = length-append its others in
          let ends = above superclass its (omega (arith, le, len)) one within is_one in
          let whole = joins class a ends.front ends.rest others not_root modules_lack ends.new ends.old
          (λ x h. subst (λ (m : List ClassId). Contains m x) ends.is (again_in (map ups parents) superclass its one again others rest same x h)) in
          subst (λ (m : List ClassId). Ends root (class ∷ (a ++ (m ++ others)))) (sym ends.is) whole

  pub ends_with_root : (class : ClassId) (ancestors : List ClassId) → class.0 < length parents → is_class class ≡ true → AreAncestors (map ups parents) class ancestors → (front : List ClassId) × (ancestors ≡ front ++ root ∷ [])
  ends_with_root class ancestors low is_one are =
      let ends = kept_ends root are.written (class_line (length are.written) class are.written (omega arith) are.line low is_one) in
      (ends.0, are.once ∙ ends.1)
