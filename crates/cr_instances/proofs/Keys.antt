-- Two keys that pass the derived test are equal.
use Rattle.std.proofs.Common.{◌≡◌, ◌&&◌, ◌==◌, Bool, true, Option, Some, None, refl, sym, ap, true≢false, eqb-true, eq-eqb}
use Rattle.std.specs.Bool.{Decides}
use Rattle.std.specs.Cmp.{first_so, second_so}
use Rattle.std.specs.Cmp.Lexicographic.{pointwise, pointwise_decides}
use Rattle.std.specs.Option.{option_eq}
use Rattle.cr_base.specs.declared.ids.AtomId.{AtomId}
use Rattle.cr_base.specs.declared.ids.NodeId.{NodeId}
use Rattle.cr_base.specs.declared.ids.InstanceId.{InstanceId}
use Rattle.cr_instances.specs.Same.{same_atom}
use Rattle.cr_instances.specs.declared.key.Key.{Key}

-- the test that the derive of `Key` makes
abbrev same_key : Key → Key → Bool
same_key a b = (a.method.0 == b.method.0) && ((a.receiver.0 == b.receiver.0) && (pointwise same_atom a.args b.args
    && (option_eq (λ (m n : NodeId). m.0 == n.0) a.block b.block && option_eq (λ (i j : InstanceId). i.0 == j.0) a.outer b.outer)))

atoms_decide : (a b : AtomId) → Decides (same_atom a b) (a ≡ b)
atoms_decide a b = (λ e. let n : a.0 ≡ b.0 = eqb-true a.0 b.0 e in λ i. record { 0 = n i }, λ e. eq-eqb a.0 b.0 (ap (λ (c : AtomId). c.0) e))

option_same : {A : Type 0} (E : A → A → Bool) → ((x y : A) → E x y ≡ true → x ≡ y) → (o p : Option A) → option_eq E o p ≡ true → o ≡ p
option_same E same None None e = refl
option_same E same None (Some y) e = absurd (true≢false (sym e))
option_same E same (Some x) None e = absurd (true≢false (sym e))
option_same E same (Some x) (Some y) e = ap Some (same x y e)

pub key_same : (a b : Key) → same_key a b ≡ true → a ≡ b
key_same a b e =
    let e1 = second_so (a.method.0 == b.method.0) _ e in
    let e2 = second_so (a.receiver.0 == b.receiver.0) _ e1 in
    let e3 = second_so (pointwise same_atom a.args b.args) _ e2 in
    let method : a.method.0 ≡ b.method.0 = eqb-true a.method.0 b.method.0 (first_so (a.method.0 == b.method.0) _ e) in
    let receiver : a.receiver ≡ b.receiver = (atoms_decide a.receiver b.receiver).0 (first_so (a.receiver.0 == b.receiver.0) _ e1) in
    let args : a.args ≡ b.args = (pointwise_decides atoms_decide a.args b.args).0 (first_so (pointwise same_atom a.args b.args) _ e2) in
    let block : a.block ≡ b.block = option_same _ (λ m n h. let is : m.0 ≡ n.0 = eqb-true m.0 n.0 h in λ i. record { 0 = is i }) a.block b.block (first_so _ _ e3) in
    let outer : a.outer ≡ b.outer = option_same _ (λ m n h. let is : m.0 ≡ n.0 = eqb-true m.0 n.0 h in λ i. record { 0 = is i }) a.outer b.outer (second_so _ _ e3) in
    λ i. record { method = record { 0 = method i }; receiver = receiver i; args = args i; block = block i; outer = outer i }
