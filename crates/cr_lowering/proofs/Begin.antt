-- A program with its prelude is well formed.
use Rattle.std.specs.Prelude.{slice_get}
use Rattle.std.proofs.Common.{◌≡◌, ℕ, zero, suc, ◌<◌, ◌≤◌, inl, inr, List, [], ◌∷◌, ◌++◌, length, map, Option, Some, refl, sym, ap, ◌∙◌, subst, arith, append_assoc}
use Rattle.cr_grammar.specs.declared.tree.Tree.{Tree}
use Rattle.cr_core.specs.declared.form.Form.TheVariants as f
use Rattle.cr_core.specs.declared.form.ScopeId.{ScopeId}
use Rattle.cr_core.specs.declared.row.Place.{Place}
use Rattle.cr_core.specs.Core.{Core, one}
use Rattle.cr_core.specs.Shape as sh
use Rattle.cr_core.specs.Shape.{Role, Portion, Are, Fits}
use Rattle.cr_core.specs.Standing.{Shaped}
use Rattle.cr_making.specs.declared.naming.Opened.{Opened}
use Rattle.cr_making.specs.Naming.{Given, settled}
use Rattle.cr_making.specs.Making.{Making, ◌▸◌, wrapped, in_prelude, ahead, nest, sequence}
use Rattle.cr_making.specs.Part.{Part}
use Rattle.cr_making.specs.Table.{part}
use Rattle.cr_rewrite.specs.Whole.{first_scope, program, begin, made}
use Rattle.cr_lowering.proofs.Grows.{Slotted, frame, frames, AreWider, AreNamed, IsState}
use Rattle.cr_lowering.proofs.Fresh.{slots_at, frame_at, Known, OpensIn, known_more, Once, OpensAll, all_opened, Placed, no_parameters, are_append}
use Rattle.cr_lowering.proofs.Told.{ToldIn, InEnded, none_bears, ended_push, OldOrTold}
use Rattle.cr_lowering.proofs.Inside.{settled_length, settled_other, settled_here, settled_named, settled_older}
use Rattle.cr_lowering.proofs.Good.{Does, Good, Always, always_keeps, good_as, good_join, good_prelude, good_nest_seq, good_sequence, Goods, AheadGood, Term}
use Rattle.cr_lowering.proofs.Goods.{Members, GoodPart}
use Rattle.cr_lowering.proofs.Every.{every_tree}

none_named : (n : ℕ) → AreNamed n []
none_named n = record { named = λ i name is. absurd cc }

pub begin_state : IsState begin
begin_state = record { open_ = (omega arith, omega arith, none_named 0, tt); closed = λ k xs is. by_place k xs is }
  where
    by_place : (k : ℕ) (xs : Slotted) → slice_get ([] ∷ []) k ≡ Some xs → AreNamed 0 xs
    by_place zero xs is = let same : [] ≡ xs = cc in subst (AreNamed 0) same (none_named 0)
    by_place (suc k) xs is = absurd cc

two_many : (ks : List Role) → Fits (sh.many sh.Member ∷ sh.many sh.Member ∷ sh.one sh.Term ∷ []) ks → Fits (sh.many sh.Member ∷ sh.one sh.Term ∷ []) ks
two_many ks x = (x.0 ++ x.4.0, x.4.1, x.2 ∙ ap (λ (l : List Role). x.0 ++ l) x.4.2 ∙ sym (append_assoc x.0 x.4.0 x.4.1), are_append sh.Member x.0 x.4.0 x.3 x.4.3, x.4.4)

prelude_ahead : (ms : List Making) → Goods Always Term ms → AheadGood Always Term (map (λ (m : Making). ahead 0 (in_prelude m)) ms)
prelude_ahead [] h = tt
prelude_ahead (m ∷ ms) h = (good_prelude Term m h.0, prelude_ahead ms h.1)

inside_good : (p q : Part) → GoodPart p → GoodPart q → Good Always (sh.many sh.Member ∷ sh.one sh.Term ∷ []) (in_prelude p.list_members ▸ q.list_members ▸ nest f.Seq (map (λ (m : Making). ahead 0 (in_prelude m)) p.list_statements) (sequence 0 q.list_statements))
inside_good p q x y =
    let statements = nest f.Seq (map (λ (m : Making). ahead 0 (in_prelude m)) p.list_statements) (sequence 0 q.list_statements) in
    let good_statements = good_nest_seq Always (map (λ (m : Making). ahead 0 (in_prelude m)) p.list_statements) (sequence 0 q.list_statements) always_keeps (prelude_ahead p.list_statements x.list_statements) (good_sequence Always 0 q.list_statements always_keeps y.list_statements) in
    good_as Always (sh.many sh.Member ∷ sh.many sh.Member ∷ sh.one sh.Term ∷ []) (sh.many sh.Member ∷ sh.one sh.Term ∷ []) (in_prelude p.list_members ▸ q.list_members ▸ statements) two_many
    (good_join Always Members (sh.many sh.Member ∷ sh.one sh.Term ∷ []) (in_prelude p.list_members) (q.list_members ▸ statements) always_keeps (good_prelude Members p.list_members x.list_members)
    (good_join Always Members Term q.list_members statements always_keeps y.list_members good_statements))

-- ---- the whole

-- A program's core tree that is well formed: its names and texts are there, its scopes, which have these locals, are opened once
-- each, and the locals bear names that are there.
pub record IsWell (n t : ℕ) (ss : List Slotted) (c : Core) : Type 0 where
  pub place : Place
  pub parts : Core
  pub is : c ≡ one (f.Program first_scope) place parts
  pub shaped : Shaped c
  pub known : Known n t ss [] c
  pub placed : Placed c
  pub once : Once c
  pub covers : (k : ScopeId) → k.0 < length ss → OpensIn k c
  pub named : (k : ℕ) (xs : Slotted) → slice_get ss k ≡ Some xs → AreNamed n xs
  pub told : (w k : ScopeId) (i : ℕ) → InEnded (slice_get ss k.0) i → ToldIn w k i c

abbrev Inside : List Portion
Inside = sh.many sh.Member ∷ sh.one sh.Term ∷ []

-- no slot bears a name in the beginning
begin_told : (w k : ScopeId) (i : ℕ) (at : Place) (c : Core) → OldOrTold begin c k i → ToldIn w k i (one (f.Program first_scope) at c)
begin_told w k i at c (inl (inl (inl x))) = absurd (none_bears i x.1)
begin_told w k i at c (inl (inl (inr x))) = absurd x
begin_told w k i at c (inl (inr x)) = absurd (ended_push [] k.0 i x)
begin_told w k i at c (inr x) = inr (inl x)

whole_does : (at : Place) (g : Given Core) → Does Inside begin g → IsWell (length g.after.names) (length g.after.texts) (settled g.after.inner g.after.scopes) (one (f.Program first_scope) at g.value)
whole_does at g d =
    let t = g.after in
    let ss = settled t.inner t.scopes in
    let form = f.Program first_scope in
    let number : t.inner.number.0 ≡ 0 = ap (λ (k : ScopeId). k.0) d.extends.number in
    let many : length ss ≡ length t.scopes = settled_length t.inner t.scopes in
    let some : 1 ≤ length t.scopes = omega (arith, d.extends.scopes) in
    let first : slice_get ss 0 ≡ Some t.inner.slots = ap (slice_get ss) (sym number) ∙ settled_here t.inner t.scopes (omega (arith, number, some)) in
    let wider : AreWider (frames t) (frame_at ss first_scope ∷ []) = (
      sym d.extends.number,
      (let same = ap (λ (x : Option Slotted). length (slots_at x)) first in omega arith),
      subst (λ (ps : List Opened). AreWider (map frame ps) []) (sym d.extends.around) tt,
    ) in
    let inside : Known (length t.names) (length t.texts) ss (frame_at ss first_scope ∷ []) g.value =
    known_more (length t.names) (length t.names) (length t.texts) (length t.texts) t.scopes ss (frames t) (frame_at ss first_scope ∷ []) g.value
    (omega arith) (omega arith) (omega (arith, many))
    (λ k o. let r = d.opens.within k o in settled_other t.inner t.scopes k.0 (λ e. absurd (omega (arith, e, number, r.0))))
    wider d.known in
    let opens : OpensAll 0 (length t.scopes) (one form at g.value) = all_opened 0 (length t.scopes) form at g.value (omega (arith, some)) refl d.opens in
    record {
      place = at;
      parts = g.value;
      is = refl;
      shaped = (d.fits, d.shaped, tt);
      known = (record { names = λ k x lt. absurd (omega (arith, lt)); text = tt; local = tt; parameter = tt }, (omega (arith, many, some), tt), inside, tt);
      placed = (no_parameters 0 Inside g.value (refl, (refl, tt)) d.fits, d.placed, tt);
      once = opens.once;
      covers = λ k lt. opens.covers k (omega arith) (omega (arith, many, lt));
      named = settled_named t.inner t.scopes (length t.names) (omega (arith, number, some)) d.state.open_.2 d.state.closed;
      told = λ w k j x. begin_told w k j at g.value (d.told k j (settled_older t k j (omega (arith, number, some)) x));
    }

pub made_well : (prelude tree : Tree) → IsWell (length (made prelude tree).after.names) (length (made prelude tree).after.texts) (settled (made prelude tree).after.inner (made prelude tree).after.scopes) (made prelude tree).value
unfolding program wrapped
made_well prelude tree = whole_does _ _ ((inside_good (part prelude) (part tree) (every_tree prelude) (every_tree tree)).does begin begin_state tt)
