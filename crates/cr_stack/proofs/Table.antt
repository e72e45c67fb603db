-- The parts of each form that are reduced before it: they are there, and come to values, or are the clauses of a choice.
use Rattle.std.proofs.Common.{◌≡◌, ℕ, zero, suc, ◌+◌, ◌<◌, ◌≤◌, Bool, true, false, List, [], ◌∷◌, ◌++◌, length, Some, refl, sym, ap, ◌∙◌, subst, arith, length-append}
use Rattle.std.specs.Prelude.{slice_get}
use Rattle.cr_base.specs.declared.ids.NodeId.{NodeId}
use Rattle.cr_core.specs.declared.form.Form.{Form}
use Rattle.cr_core.specs.declared.form.Form.TheVariants as f
use Rattle.cr_core.specs.declared.row.Row.{Row}
use Rattle.cr_core.specs.declared.row.Within.{Within}
use Rattle.cr_core.specs.Shape.{Role, Term, Clause, Block, Union, Atom, role, Portion, one, many, pairs, where_told, portions, Are, Fits}
use Rattle.cr_core.specs.Arena.{inside}
use Rattle.cr_core.specs.Standing.{AreParts, IsArena}
use Rattle.cr_meaning.specs.Redex.{less, skipped, last_reduced}
use Rattle.cr_stack.specs.Neat.{until, is_choice, Stands}

-- what the parts of a form that are reduced before it are there for
abbrev pub reduced_role : Form → Role
reduced_role (f.Select otherwise) = Clause
reduced_role other = Term

record FirstAre (k : Role) (m : ℕ) (ks : List Role) : Type 0 where
  within : m ≤ length ks
  each : (i : ℕ) → i < m → slice_get ks i ≡ Some k

first_of_front : (k : Role) (front rest : List Role) → Are k front → (i : ℕ) → i < length front → slice_get (front ++ rest) i ≡ Some k
first_of_front k [] rest h i lt = absurd (omega arith)
first_of_front k (j ∷ front) rest h zero lt = ap (λ x. Some x) h.0
first_of_front k (j ∷ front) rest h (suc i) lt = first_of_front k front rest h.1 i (omega arith)

front_is : (k : Role) (front rest ks : List Role) → ks ≡ front ++ rest → Are k front → FirstAre k (length front) ks
front_is k front rest ks e h =
    subst (FirstAre k (length front)) (sym e) (record { within = omega (arith, length-append front rest); each = first_of_front k front rest h })

told : Bool → ℕ
told true = 1
told false = 0

told_length : (b : Bool) (j : Role) (ks : List Role) → Fits (where_told b j) ks → length ks ≡ told b
unfolding told
told_length false j [] h = refl
told_length false j (k ∷ ks) h = absurd h
told_length true j [] h = absurd h
told_length true j (k ∷ []) h = refl
told_length true j (k ∷ l ∷ ks) h = absurd h.1

-- how many of them
record Fronts (k : Role) (more : ℕ) (ks : List Role) : Type 0 where
  many_are : ℕ
  length_is : length ks ≡ many_are + more
  are : FirstAre k many_are ks

many_told : (k j : Role) (b : Bool) (ks : List Role) → Fits (many k ∷ where_told b j) ks → Fronts k (told b) ks
many_told k j b ks h =
    record {
      many_are = length h.0;
      length_is = omega (arith, ap length h.2, length-append h.0 h.1, told_length b j h.1 h.4);
      are = front_is k h.0 h.1 ks h.2 h.3;
    }

both_told : (b : Bool) (j : Role) (ks : List Role) → Fits (where_told b j ++ where_told b j) ks → length ks ≡ told b + told b
unfolding told
both_told false j [] h = refl
both_told false j (k ∷ ks) h = absurd h
both_told true j [] h = absurd h
both_told true j (k ∷ []) h = absurd h.1
both_told true j (k ∷ l ∷ []) h = refl
both_told true j (k ∷ l ∷ m ∷ ks) h = absurd h.1.1

pairs_told : (k j : Role) (b : Bool) (ks : List Role) → Fits (pairs k ∷ (where_told b j ++ where_told b j)) ks → Fronts k (told b + told b) ks
pairs_told k j b ks h =
    record {
      many_are = length h.0;
      length_is = omega (arith, ap length h.3, length-append h.0 h.1, both_told b j h.1 h.6);
      are = front_is k h.0 h.1 ks h.3 h.5;
    }

less_one : (b : Bool) (n m : ℕ) → n ≡ m + told b → less 1 b n ≡ m
unfolding told
less_one true n m e = omega arith
less_one false n m e = omega arith

less_two : (b : Bool) (n m : ℕ) → n ≡ m + (told b + told b) → less 2 b n ≡ m
unfolding told
less_two true n m e = omega arith
less_two false n m e = omega arith

one_more : (k j : Role) (m : ℕ) (ks : List Role) → j ≡ k → FirstAre k m ks → FirstAre k (suc m) (j ∷ ks)
one_more k j m ks e h = record { within = let w = h.within in omega (arith, w); each = each }
  where
    each : (i : ℕ) → i < suc m → slice_get (j ∷ ks) i ≡ Some k
    each zero lt = ap (λ x. Some x) e
    each (suc i) lt = h.each i (omega arith)

no_more : (k : Role) (ks : List Role) → FirstAre k 0 ks
no_more k ks = record { within = omega arith; each = λ i lt. absurd (omega arith) }

-- the first parts that such roles stand for
pub record Firsts (form : Form) (ks : List Role) : Type 0 where
  pub from : skipped form ≤ last_reduced form (length ks)
  pub upto : last_reduced form (length ks) ≤ length ks
  pub roles : (i : ℕ) → skipped form ≤ i → i < last_reduced form (length ks) → slice_get ks i ≡ Some (reduced_role form)

firsts_by : (form : Form) (ks : List Role) (m : ℕ) → last_reduced form (length ks) ≡ m → skipped form ≡ 0 → FirstAre (reduced_role form) m ks → Firsts form ks
firsts_by form ks m e s h =
    record {
      from = omega arith;
      upto = let w = h.within in omega (arith, w);
      roles = λ i ge lt. h.each i (omega arith);
    }

-- one part that comes to a value, whatever follows
first_one : (ps : List Portion) (ks : List Role) → Fits (one Term ∷ ps) ks → FirstAre Term 1 ks
first_one ps [] h = absurd h
first_one ps (j ∷ ks) h = one_more Term j 0 ks h.0 (no_more Term ks)

first_two : (ps : List Portion) (ks : List Role) → Fits (one Term ∷ one Term ∷ ps) ks → FirstAre Term 2 ks
first_two ps [] h = absurd h
first_two ps (j ∷ []) h = absurd h.1
first_two ps (j ∷ k ∷ ks) h = one_more Term j 1 (k ∷ ks) h.0 (one_more Term k 0 ks h.1.0 (no_more Term ks))

of_call : (form : Form) (block : Bool) (ks : List Role) → last_reduced form (length ks) ≡ less 1 block (length ks) → skipped form ≡ 0 → (k : Role) → k ≡ reduced_role form → Fronts k (told block) ks → Firsts form ks
of_call form block ks e s k is h =
    firsts_by form ks h.many_are (e ∙ less_one block (length ks) h.many_are h.length_is) s (subst (λ r. FirstAre r h.many_are ks) is h.are)

call_with : (k j : Role) (b : Bool) (ks : List Role) → Fits (one k ∷ many k ∷ where_told b j) ks → Fronts k (told b) ks
call_with k j b [] h = absurd h
call_with k j b (i ∷ ks) h =
    let m = many_told k j b ks h.1 in
    record { many_are = suc m.many_are; length_is = let l = m.length_is in omega (arith, l); are = one_more k i m.many_are ks h.0 m.are }

new_firsts : (question block : Bool) (ks : List Role) → Fits (one Atom ∷ many Term ∷ where_told block Block) ks → Firsts (f.New question block) ks
new_firsts question block [] h = absurd h
new_firsts question block (i ∷ ks) h =
    let m = many_told Term Block block ks h.1 in
    let l : length (i ∷ ks) ≡ suc m.many_are + told block = let a = m.length_is in omega (arith, a) in
    let e : less 1 block (length (i ∷ ks)) ≡ suc m.many_are = less_one block (length (i ∷ ks)) (suc m.many_are) l in
    record {
      from = omega arith;
      upto = let w = m.are.within in omega (arith, w);
      roles = λ x ge lt. by m.many_are m.are x ge (omega (arith, e));
    }
  where
    by : (n : ℕ) → FirstAre Term n ks → (x : ℕ) → 1 ≤ x → x < suc n → slice_get (i ∷ ks) x ≡ Some Term
    by n a zero ge lt = absurd (omega arith)
    by n a (suc x) ge lt = a.each x (omega arith)

pub firsts : (form : Form) (ks : List Role) → Fits (portions form) ks → Firsts form ks
firsts (f.Set local) ks h = firsts_by (f.Set local) ks 1 refl refl (first_one [] ks h)
firsts (f.SetField name) ks h = firsts_by (f.SetField name) ks 1 refl refl (first_one [] ks h)
firsts f.Seq ks h = firsts_by f.Seq ks 1 refl refl (first_one (one Term ∷ []) ks h)
firsts f.If ks h = firsts_by f.If ks 1 refl refl (first_one (one Term ∷ one Term ∷ []) ks h)
firsts f.And ks h = firsts_by f.And ks 1 refl refl (first_one (one Term ∷ []) ks h)
firsts f.Or ks h = firsts_by f.Or ks 1 refl refl (first_one (one Term ∷ []) ks h)
firsts f.Not ks h = firsts_by f.Not ks 1 refl refl (first_one [] ks h)
firsts f.IsA ks h = firsts_by f.IsA ks 1 refl refl (first_one (many Atom ∷ []) ks h)
firsts f.Return ks h = firsts_by f.Return ks 1 refl refl (first_one [] ks h)
firsts f.Next ks h = firsts_by f.Next ks 1 refl refl (first_one [] ks h)
firsts (f.Call name false block) ks h = of_call (f.Call name false block) block ks refl refl Term refl (many_told Term Block block ks h)
firsts (f.Call name true block) ks h = of_call (f.Call name true block) block ks refl refl Term refl (call_with Term Block block ks h)
firsts f.Super ks h = of_call f.Super false ks refl refl Term refl (many_told Term Block false ks h)
firsts (f.New question block) ks h = new_firsts question block ks h
firsts f.Yield ks h = of_call f.Yield false ks refl refl Term refl (many_told Term Block false ks h)
firsts (f.Spawn false) ks h = firsts_by (f.Spawn false) ks 0 refl refl (no_more Term ks)
firsts (f.Spawn true) ks h = firsts_by (f.Spawn true) ks 1 refl refl (first_one (one Block ∷ []) ks h)
firsts f.Raise ks h = firsts_by f.Raise ks 1 refl refl (first_one [] ks h)
firsts f.Puts ks h = firsts_by f.Puts ks 1 refl refl (first_one [] ks h)
firsts (f.Array of) ks h = of_call (f.Array of) of ks refl refl Term refl (many_told Term Union of ks h)
firsts (f.Hash of) ks h =
    let m = pairs_told Term Union of ks h in
    firsts_by (f.Hash of) ks m.many_are (less_two of (length ks) m.many_are m.length_is) refl m.are
firsts (f.Select otherwise) ks h = of_call (f.Select otherwise) otherwise ks refl refl Clause refl (many_told Clause Term otherwise ks h)
firsts f.Send ks h = firsts_by f.Send ks 2 refl refl (first_two (one Term ∷ []) ks h)
firsts f.Receive ks h = firsts_by f.Receive ks 1 refl refl (first_one (one Term ∷ []) ks h)
firsts f.ReceiveOrNil ks h = firsts_by f.ReceiveOrNil ks 1 refl refl (first_one (one Term ∷ []) ks h)
firsts other ks h = firsts_by other ks 0 refl refl (no_more (reduced_role other) ks)

-- ---- the parts of a row

parts_length : (rs : List Row) (w : Within) (low : ℕ) (ps : List NodeId) (ks : List Role) → AreParts rs w low ps ks → length ps ≡ length ks
parts_length rs w low [] [] h = refl
parts_length rs w low [] (k ∷ ks) h = absurd h
parts_length rs w low (p ∷ ps) [] h = absurd h
parts_length rs w low (p ∷ ps) (k ∷ ks) h = let e = parts_length rs w (suc p.0) ps ks h.2 in omega (arith, e)

-- a part that stands there and is there for this
pub record PartAt (rs : List Row) (ps : List NodeId) (i : ℕ) (k : Role) : Type 0 where
  pub it : NodeId
  pub there : slice_get ps i ≡ Some it
  pub stands : Stands rs it k

part_with : (rs : List Row) (w : Within) (low : ℕ) (ps : List NodeId) (ks : List Role) → AreParts rs w low ps ks → (i : ℕ) (k : Role) → slice_get ks i ≡ Some k → PartAt rs ps i k
part_with rs w low [] [] h i k e = absurd (cc)
part_with rs w low [] (j ∷ ks) h i k e = absurd h
part_with rs w low (p ∷ ps) [] h i k e = absurd h
part_with rs w low (p ∷ ps) (j ∷ ks) h zero k e =
    let s : j ≡ k = cc in
    let part = h.1 in
    record { it = p; there = refl; stands = record { row = part.row; stands = part.stands; role_is = part.role_is ∙ s } }
part_with rs w low (p ∷ ps) (j ∷ ks) h (suc i) k e =
    let r = part_with rs w (suc p.0) ps ks h.2 i k e in record { it = r.it; there = r.there; stands = r.stands }

-- what is known of a row's parts
pub record HasParts (rs : List Row) (r : Row) : Type 0 where
  pub from : skipped r.form ≤ until r
  pub upto : until r ≤ length r.parts
  pub part : (i : ℕ) → skipped r.form ≤ i → i < until r → PartAt rs r.parts i (reduced_role r.form)

pub has_parts : (rs : List Row) (n : ℕ) (r : Row) → IsArena rs → slice_get rs n ≡ Some r → HasParts rs r
has_parts rs n r arena e =
    let is = arena.each n r e in
    let fits = firsts r.form is.there_for is.shape in
    let same : length is.there_for ≡ length r.parts = sym (parts_length rs (inside r.form n r.within) (suc n) r.parts is.there_for is.parts) in
    record {
      from = subst (λ l. skipped r.form ≤ last_reduced r.form l) same fits.from;
      upto = subst (λ l. last_reduced r.form l ≤ l) same fits.upto;
      part = λ i ge lt.
          part_with rs (inside r.form n r.within) (suc n) r.parts is.there_for is.parts i (reduced_role r.form)
          (fits.roles i ge (subst (λ l. i < last_reduced r.form l) (sym same) lt));
    }

pub plain_role : (form : Form) → is_choice form ≡ false → reduced_role form ≡ Term
plain_role (f.Select otherwise) e = absurd (cc)
plain_role other e = refl

pub choice_role : (form : Form) → is_choice form ≡ true → reduced_role form ≡ Clause
choice_role (f.Select otherwise) e = refl
choice_role other e = absurd (cc)

pub clause_is_plain : (form : Form) → role form ≡ Clause → is_choice form ≡ false
clause_is_plain (f.Select otherwise) e = absurd (cc)
clause_is_plain other e = refl

-- a clause skips none of its parts, and some of them are reduced
pub clause_has_some : (form : Form) (n : ℕ) → role form ≡ Clause → skipped form < last_reduced form n
clause_has_some f.Send n e = omega arith
clause_has_some f.Receive n e = omega arith
clause_has_some f.ReceiveOrNil n e = omega arith
clause_has_some other n e = absurd (cc)
