-- A line that is read is the line of an entry, and the line of an entry is read again.
use Rattle.std.proofs.Common.{◌≡◌, ℕ, ◌≤◌, Bool, true, false, cond, ◌&&◌, ◌||◌, eqb, List, [], ◌∷◌, ◌++◌, Option, Some, None, refl, sym, ap, subst, ◌∙◌, arith, append_assoc, ◌⊎◌, inl, inr, Bor}
use Rattle.std.specs.Prelude.{IfSome, IfNone, IsSome, is_some, is_none}
use Rattle.std.specs.Option.{option_map}
use Rattle.std.specs.Fmt.{decimal}
use Rattle.std.proofs.lemmas.Bool.{eqb-true, eqb-false, ne_eqb}
use Rattle.cr_base.specs.declared.ids.FiberId.{FiberId}
use Rattle.cr_schedule.specs.declared.entry.Entry.{Entry}
use Rattle.cr_schedule.specs.declared.entry.Entry.TheVariants.{Steps, Wait, Resume}
use Rattle.cr_schedule.specs.declared.entry.TheConstants.{LAST_FIBER, LAST_CLAUSE, MOST_STEPS}
use Rattle.cr_schedule.specs.declared.trace_line.TheConstants.{SPACE, LINE_FEED, STEPS, WAIT, RESUME}
use Rattle.cr_schedule.specs.Entry.{HasLine, IsFiber}
use Rattle.cr_schedule.specs.Trace.{optional, optional_fiber, ended_line, BeginsNoLine}
use Rattle.cr_schedule.specs.Reading.{◌>>=◌, byte_at, number_at, optional_at, fiber_of, steps_at, fiber_at, fields_at, entry_at}
use Rattle.cr_schedule.proofs.Numbers.{bind_some, byte_takes, number_takes, number_again, optional_takes, optional_again}

-- ---- the tests of an entry of steps

cond_none : {A : Type 0} (b : Bool) (x y : A) → cond b None (Some x) ≡ Some y → (b ≡ false) × (x ≡ y)
cond_none true x y e = absurd cc
cond_none false x y e = (refl, cc)

neither : (a b : Bool) → (a || b) ≡ false → (a ≡ false) × (b ≡ false)
neither true b e = absurd cc
neither false b e = (refl, e)

-- a partner's clause without a partner
abbrev is_alone : Option ℕ → Option ℕ → Bool
is_alone partner partner_clause = is_none partner && is_some partner_clause

of_partner : (partner partner_clause : Option ℕ) → is_alone partner partner_clause ≡ false → IsSome partner_clause → IsSome (option_map fiber_of partner)
of_partner (Some p) q alone is = refl
of_partner None None alone is = is
of_partner None (Some q) alone is = absurd cc

not_alone : (partner partner_clause : Option ℕ) → (IsSome partner_clause → IsSome (option_map fiber_of partner)) → is_alone partner partner_clause ≡ false
not_alone (Some p) q of = refl
not_alone None None of = refl
not_alone None (Some q) of = sym (of refl)

partner_takes : (o : Option ℕ) → IfSome o (λ n. n ≤ LAST_FIBER) → IfSome (option_map fiber_of o) IsFiber
partner_takes None is = tt
partner_takes (Some n) is = is

optional_fiber-of : (o : Option ℕ) → optional_fiber (option_map fiber_of o) ≡ optional o
optional_fiber-of None = refl
optional_fiber-of (Some n) = refl

-- ---- the fields of an entry of steps, one after another

abbrev made : ℕ → ℕ → Option ℕ → Option ℕ → Option ℕ → Entry
made fiber count clause partner partner_clause = Steps (fiber_of fiber) count clause (option_map fiber_of partner) partner_clause

abbrev finish : ℕ → ℕ → Option ℕ → Option ℕ → Option ℕ × List ℕ → Option (Entry × List ℕ)
finish fiber count clause partner last = cond (eqb count 0 || is_alone partner last.0) None (Some (made fiber count clause partner last.0, last.1))

abbrev after_partner : ℕ → ℕ → Option ℕ → Option ℕ × List ℕ → Option (Entry × List ℕ)
after_partner fiber count clause partner = optional_at LAST_CLAUSE LINE_FEED partner.1 >>= finish fiber count clause partner.0

abbrev after_clause : ℕ → ℕ → Option ℕ × List ℕ → Option (Entry × List ℕ)
after_clause fiber count clause = optional_at LAST_FIBER SPACE clause.1 >>= after_partner fiber count clause.0

abbrev after_count : ℕ → ℕ × List ℕ → Option (Entry × List ℕ)
after_count fiber count = optional_at LAST_CLAUSE SPACE count.1 >>= after_clause fiber count.0

abbrev after_fiber : ℕ × List ℕ → Option (Entry × List ℕ)
after_fiber fiber = number_at MOST_STEPS SPACE fiber.1 >>= after_count fiber.0

-- the text behind `s `
abbrev steps_text : ℕ → ℕ → Option ℕ → Option ℕ → Option ℕ → List ℕ → List ℕ
steps_text fiber count clause partner partner_clause rest =
    decimal fiber ++ SPACE ∷ (decimal count ++ SPACE ∷ (optional clause ++ SPACE ∷ (optional partner ++ SPACE ∷ (optional partner_clause ++ LINE_FEED ∷ rest))))

after_field : (a x y s : List ℕ) (c : ℕ) → x ++ s ≡ y → (a ++ c ∷ x) ++ s ≡ a ++ c ∷ y
after_field a x y s c e = append_assoc a (c ∷ x) s ∙ ap (λ (t : List ℕ). a ++ c ∷ t) e

-- five fields, and what ends the last
pub five_fields : (a b c d f rest : List ℕ) (space feed : ℕ)
    → ((a ++ space ∷ (b ++ space ∷ (c ++ space ∷ (d ++ space ∷ f)))) ++ feed ∷ []) ++ rest ≡ a ++ space ∷ (b ++ space ∷ (c ++ space ∷ (d ++ space ∷ (f ++ feed ∷ rest))))
five_fields a b c d f rest space feed =
    append_assoc (a ++ space ∷ (b ++ space ∷ (c ++ space ∷ (d ++ space ∷ f)))) (feed ∷ []) rest
    ∙ after_field a (b ++ space ∷ (c ++ space ∷ (d ++ space ∷ f))) (b ++ space ∷ (c ++ space ∷ (d ++ space ∷ (f ++ feed ∷ rest)))) (feed ∷ rest) space
    (after_field b (c ++ space ∷ (d ++ space ∷ f)) (c ++ space ∷ (d ++ space ∷ (f ++ feed ∷ rest))) (feed ∷ rest) space
    (after_field c (d ++ space ∷ f) (d ++ space ∷ (f ++ feed ∷ rest)) (feed ∷ rest) space
    (after_field d f (f ++ feed ∷ rest) (feed ∷ rest) space refl)))

steps_line : (fiber count : ℕ) (clause partner partner_clause : Option ℕ) (rest : List ℕ) → ended_line (made fiber count clause partner partner_clause) ++ rest ≡ STEPS ∷ SPACE ∷ steps_text fiber count clause partner partner_clause rest
steps_line fiber count clause partner partner_clause rest =
    ap (λ (p : List ℕ). STEPS ∷ SPACE ∷ (((decimal fiber ++ SPACE ∷ (decimal count ++ SPACE ∷ (optional clause ++ SPACE ∷ (p ++ SPACE ∷ optional partner_clause)))) ++ LINE_FEED ∷ []) ++ rest)) (optional_fiber-of partner)
    ∙ ap (λ (t : List ℕ). STEPS ∷ SPACE ∷ t) (five_fields (decimal fiber) (decimal count) (optional clause) (optional partner) (optional partner_clause) rest SPACE LINE_FEED)

finish_takes : (fiber count : ℕ) (clause partner : Option ℕ) (last : Option ℕ × List ℕ) (x : Entry × List ℕ) → finish fiber count clause partner last ≡ Some x → (1 ≤ count) × (is_alone partner last.0 ≡ false) × ((made fiber count clause partner last.0, last.1) ≡ x)
finish_takes fiber count clause partner last x e =
    let g = cond_none (eqb count 0 || is_alone partner last.0) (made fiber count clause partner last.0, last.1) x e in
    let n = neither (eqb count 0) (is_alone partner last.0) g.0 in
    let some : 1 ≤ count = omega (arith, eqb-false count 0 n.0) in
    (some, n.1, g.1)

steps_takes : (bytes : List ℕ) (x : Entry × List ℕ) → steps_at bytes ≡ Some x → HasLine x.0 × (STEPS ∷ SPACE ∷ bytes ≡ ended_line x.0 ++ x.1)
unfolding steps_at
steps_takes bytes x e =
    let a = bind_some (number_at LAST_FIBER SPACE bytes) after_fiber x e in
    let b = bind_some (number_at MOST_STEPS SPACE a.0.1) (after_count a.0.0) x a.2 in
    let c = bind_some (optional_at LAST_CLAUSE SPACE b.0.1) (after_clause a.0.0 b.0.0) x b.2 in
    let d = bind_some (optional_at LAST_FIBER SPACE c.0.1) (after_partner a.0.0 b.0.0 c.0.0) x c.2 in
    let f = bind_some (optional_at LAST_CLAUSE LINE_FEED d.0.1) (finish a.0.0 b.0.0 c.0.0 d.0.0) x d.2 in
    let g = finish_takes a.0.0 b.0.0 c.0.0 d.0.0 f.0 x f.2 in
    let ta = number_takes LAST_FIBER SPACE bytes a.0.0 a.0.1 (omega arith) a.1 in
    let tb = number_takes MOST_STEPS SPACE a.0.1 b.0.0 b.0.1 (omega arith) b.1 in
    let tc = optional_takes LAST_CLAUSE SPACE b.0.1 c.0.0 c.0.1 (omega arith) c.1 in
    let td = optional_takes LAST_FIBER SPACE c.0.1 d.0.0 d.0.1 (omega arith) d.1 in
    let tf = optional_takes LAST_CLAUSE LINE_FEED d.0.1 f.0.0 f.0.1 (omega arith) f.1 in
    let text : bytes ≡ steps_text a.0.0 b.0.0 c.0.0 d.0.0 f.0.0 f.0.1 = joined bytes a.0.0 a.0.1 b.0.0 b.0.1 c.0.0 c.0.1 d.0.0 d.0.1 f.0.0 f.0.1 ta.1 tb.1 tc.1 td.1 tf.1 in
    let whole = ap (λ (t : List ℕ). STEPS ∷ SPACE ∷ t) text ∙ sym (steps_line a.0.0 b.0.0 c.0.0 d.0.0 f.0.0 f.0.1) in
    let has : HasLine (made a.0.0 b.0.0 c.0.0 d.0.0 f.0.0) = record {
      fiber_is = ta.0;
      some = g.0;
      most = tb.0;
      clause_is = tc.0;
      partner_is = partner_takes d.0.0 td.0;
      partner_clause_is = tf.0;
      of_partner = of_partner d.0.0 f.0.0 g.1;
    } in
    subst (λ (y : Entry × List ℕ). HasLine y.0 × (STEPS ∷ SPACE ∷ bytes ≡ ended_line y.0 ++ y.1)) g.2 (has, whole)
  where
    joined : (bytes : List ℕ) (fiber : ℕ) (t0 : List ℕ) (count : ℕ) (t1 : List ℕ) (clause : Option ℕ) (t2 : List ℕ) (partner : Option ℕ) (t3 : List ℕ) (partner_clause : Option ℕ) (t4 : List ℕ)
        → bytes ≡ decimal fiber ++ SPACE ∷ t0 → t0 ≡ decimal count ++ SPACE ∷ t1 → t1 ≡ optional clause ++ SPACE ∷ t2 → t2 ≡ optional partner ++ SPACE ∷ t3 → t3 ≡ optional partner_clause ++ LINE_FEED ∷ t4
        → bytes ≡ steps_text fiber count clause partner partner_clause t4
    joined bytes fiber t0 count t1 clause t2 partner t3 partner_clause t4 e0 e1 e2 e3 e4 = cc

partner_within : (o : Option ℕ) → IfSome (option_map fiber_of o) IsFiber → IfSome o (λ n. n ≤ LAST_FIBER)
partner_within None is = tt
partner_within (Some n) is = is

steps_again : (fiber count : ℕ) (clause partner partner_clause : Option ℕ) (rest : List ℕ) → HasLine (made fiber count clause partner partner_clause) → steps_at (steps_text fiber count clause partner partner_clause rest) ≡ Some (made fiber count clause partner partner_clause, rest)
unfolding steps_at
steps_again fiber count clause partner partner_clause rest has =
    let last = optional partner_clause ++ LINE_FEED ∷ rest in
    let fourth = optional partner ++ SPACE ∷ last in
    let third = optional clause ++ SPACE ∷ fourth in
    let second = decimal count ++ SPACE ∷ third in
    let counted : eqb count 0 ≡ false = ne_eqb count 0 (λ e. omega (arith, has.some)) in
    rw (
      number_again LAST_FIBER SPACE fiber second (omega arith) refl has.fiber_is,
      number_again MOST_STEPS SPACE count third (omega arith) refl has.most,
      optional_again LAST_CLAUSE SPACE clause fourth (omega arith) refl has.clause_is,
      optional_again LAST_FIBER SPACE partner last (omega arith) refl (partner_within partner has.partner_is),
      optional_again LAST_CLAUSE LINE_FEED partner_clause rest (omega arith) refl has.partner_clause_is,
      counted,
      not_alone partner partner_clause has.of_partner,
    ) refl

-- ---- the other entries

fiber_line : (fiber rest : List ℕ) (letter space feed : ℕ) → ((letter ∷ space ∷ fiber) ++ feed ∷ []) ++ rest ≡ letter ∷ space ∷ (fiber ++ feed ∷ rest)
fiber_line fiber rest letter space feed = ap (λ (t : List ℕ). letter ∷ space ∷ t) (append_assoc fiber (feed ∷ []) rest)

fiber_takes : (entry : FiberId → Entry) (bytes : List ℕ) (x : Entry × List ℕ) → fiber_at entry bytes ≡ Some x → (fiber : FiberId) × IsFiber fiber × (bytes ≡ decimal fiber.0 ++ LINE_FEED ∷ x.1) × (entry fiber ≡ x.0)
unfolding fiber_at
fiber_takes entry bytes x e =
    let a = bind_some (number_at LAST_FIBER LINE_FEED bytes) (λ fiber. Some (entry (fiber_of fiber.0), fiber.1)) x e in
    let t = number_takes LAST_FIBER LINE_FEED bytes a.0.0 a.0.1 (omega arith) a.1 in
    let found : (entry (fiber_of a.0.0), a.0.1) ≡ x = some_is (entry (fiber_of a.0.0), a.0.1) x a.2 in
    (fiber_of a.0.0, t.0, t.1 ∙ ap (λ (y : Entry × List ℕ). decimal a.0.0 ++ LINE_FEED ∷ y.1) found, ap (λ (y : Entry × List ℕ). y.0) found)
  where
    some_is : {A : Type 0} (x y : A) → Some x ≡ Some y → x ≡ y
    some_is x y e = cc

fiber_again : (entry : FiberId → Entry) (fiber : FiberId) (rest : List ℕ) → IsFiber fiber → fiber_at entry (decimal fiber.0 ++ LINE_FEED ∷ rest) ≡ Some (entry fiber, rest)
unfolding fiber_at
fiber_again entry fiber rest has = rw (number_again LAST_FIBER LINE_FEED fiber.0 rest (omega arith) refl has) refl

-- ---- a line

-- which side a test took
chosen : {A : Type 0} (b : Bool) (x y z : A) → cond b x y ≡ z → ((b ≡ true) × (x ≡ z)) ⊎ ((b ≡ false) × (y ≡ z))
chosen true x y z e = inl (refl, e)
chosen false x y z e = inr (refl, e)

-- the fields behind a letter and a space make this line
abbrev Makes : ℕ → List ℕ → Entry × List ℕ → Type 0
Makes letter bytes x = HasLine x.0 × (letter ∷ SPACE ∷ bytes ≡ ended_line x.0 ++ x.1)

wait_makes : (bytes : List ℕ) (x : Entry × List ℕ) → fiber_at Wait bytes ≡ Some x → Makes WAIT bytes x
wait_makes bytes x e =
    let t = fiber_takes Wait bytes x e in
    let text = ap (λ (u : List ℕ). WAIT ∷ SPACE ∷ u) t.2 ∙ sym (fiber_line (decimal t.0.0) x.1 WAIT SPACE LINE_FEED) in
    subst (λ (entry : Entry). HasLine entry × (WAIT ∷ SPACE ∷ bytes ≡ ended_line entry ++ x.1)) t.3 (t.1, text)

resume_makes : (bytes : List ℕ) (x : Entry × List ℕ) → fiber_at Resume bytes ≡ Some x → Makes RESUME bytes x
resume_makes bytes x e =
    let t = fiber_takes Resume bytes x e in
    let text = ap (λ (u : List ℕ). RESUME ∷ SPACE ∷ u) t.2 ∙ sym (fiber_line (decimal t.0.0) x.1 RESUME SPACE LINE_FEED) in
    subst (λ (entry : Entry). HasLine entry × (RESUME ∷ SPACE ∷ bytes ≡ ended_line entry ++ x.1)) t.3 (t.1, text)

makes_at : (letter known : ℕ) (bytes : List ℕ) (x : Entry × List ℕ) → eqb letter known ≡ true → Makes known bytes x → Makes letter bytes x
makes_at letter known bytes x is makes = subst (λ (k : ℕ). Makes k bytes x) (sym (eqb-true letter known is)) makes

fields_take : (letter : ℕ) (bytes : List ℕ) (x : Entry × List ℕ) → fields_at letter bytes ≡ Some x → Makes letter bytes x
fields_take letter bytes x e =
    let other = cond (eqb letter RESUME) (fiber_at Resume bytes) None in
    elim (chosen (eqb letter STEPS) (steps_at bytes) (cond (eqb letter WAIT) (fiber_at Wait bytes) other) (Some x) e) [
      | inl s ↦ makes_at letter STEPS bytes x s.0 (steps_takes bytes x s.1)
      | inr not_s ↦
          elim (chosen (eqb letter WAIT) (fiber_at Wait bytes) other (Some x) not_s.1) [
            | inl w ↦ makes_at letter WAIT bytes x w.0 (wait_makes bytes x w.1)
            | inr not_w ↦
                elim (chosen (eqb letter RESUME) (fiber_at Resume bytes) None (Some x) not_w.1) [
                  | inl r ↦ makes_at letter RESUME bytes x r.0 (resume_makes bytes x r.1)
                  | inr none ↦ absurd cc
                ]
          ]
    ]

pub entry_takes : (bytes : List ℕ) (x : Entry × List ℕ) → entry_at bytes ≡ Some x → HasLine x.0 × (bytes ≡ ended_line x.0 ++ x.1)
unfolding entry_at
entry_takes [] x e = absurd cc
entry_takes (letter ∷ bytes) x e =
    let a = bind_some (byte_at SPACE bytes) (fields_at letter) x e in
    let t = fields_take letter a.0 x a.2 in
    (t.0, ap (λ (u : List ℕ). letter ∷ u) (byte_takes SPACE bytes a.0 a.1) ∙ t.1)

pub entry_again : (entry : Entry) (rest : List ℕ) → HasLine entry → entry_at (ended_line entry ++ rest) ≡ Some (entry, rest)
unfolding entry_at
entry_again (Steps fiber count clause None partner_clause) rest has =
    ap entry_at (steps_line fiber.0 count clause None partner_clause rest) ∙ steps_again fiber.0 count clause None partner_clause rest has
entry_again (Steps fiber count clause (Some partner) partner_clause) rest has =
    ap entry_at (steps_line fiber.0 count clause (Some partner.0) partner_clause rest) ∙ steps_again fiber.0 count clause (Some partner.0) partner_clause rest has
entry_again (Wait fiber) rest has = ap entry_at (fiber_line (decimal fiber.0) rest WAIT SPACE LINE_FEED) ∙ fiber_again Wait fiber rest has
entry_again (Resume fiber) rest has = ap entry_at (fiber_line (decimal fiber.0) rest RESUME SPACE LINE_FEED) ∙ fiber_again Resume fiber rest has

pub none_begins : (bytes : List ℕ) → entry_at bytes ≡ None → BeginsNoLine bytes
none_begins bytes none entry more has is =
    let read : entry_at bytes ≡ Some (entry, more) = ap entry_at is ∙ entry_again entry more has in
    absurd cc

-- ---- what a call gave

pub found_is : (bytes : List ℕ) (r : Option (Entry × Bor (List ℕ))) → option_map (λ x. (x.0, x.1.now)) r ≡ entry_at bytes → IfSome r (λ x. HasLine x.0 × (bytes ≡ ended_line x.0 ++ x.1.now))
found_is bytes None e = tt
found_is bytes (Some x) e = entry_takes bytes (x.0, x.1.now) (sym e)

pub none_is : (bytes : List ℕ) (r : Option (Entry × Bor (List ℕ))) → option_map (λ x. (x.0, x.1.now)) r ≡ entry_at bytes → IfNone r (BeginsNoLine bytes)
none_is bytes None e = none_begins bytes (sym e)
none_is bytes (Some x) e = tt
