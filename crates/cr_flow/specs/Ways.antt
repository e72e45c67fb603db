-- Ways through a scope: steps from moment to moment.
use Rattle.std.specs.Prelude.{ℕ, zero, suc, ◌≡◌, ◌⊎◌, Bool, true, false, ◌==◌, Option, Some, None, List, length, slice_get}
use Rattle.cr_base.specs.declared.ids.NodeId.{NodeId}
use Rattle.cr_core.specs.declared.form.ScopeId.{ScopeId}
use Rattle.cr_core.specs.declared.row.Row.{Row}
use Rattle.cr_core.specs.Arena.{Opens, opening}
use Rattle.cr_flow.specs.declared.variable.Variable.{Variable}
use Rattle.cr_flow.specs.declared.variable.Outcome.{Outcome}
use Rattle.cr_flow.specs.declared.variable.Outcome.TheVariants.{Yes, No}
use Rattle.cr_flow.specs.declared.variable.Arm.TheVariants.{Part, Give}
use Rattle.cr_flow.specs.Control.{is_test, arm, keeps, ends, is_break, begins_turn, is_next, is_return, assigns, has_arm, is_clause, is_choice, runs_apart, runs_again, heads, last}

-- A moment: a node begins, it acts after its parts, it has ended with this outcome, the scope has ended.
pub data Point : Type 0 where
  Before : NodeId → Point
  Acts : NodeId → Point
  After : NodeId → Outcome → Point
  End : Point

abbrev pub IsRow : List Row → NodeId → Row → Type 0
IsRow rows n r = slice_get rows n.0 ≡ Some r

abbrev pub IsHead : Row → ℕ → NodeId → Type 0
IsHead r i c = slice_get (heads r.form r.parts) i ≡ Some c

abbrev pub IsLast : Row → NodeId → Type 0
IsLast r c = last r.parts ≡ Some c

-- what the act of a row may run: its last part, or what a clause of a choice goes on as
pub data IsArm (rows : List Row) (r : Row) (b : NodeId) : Type 0 where
  own : has_arm r.form ≡ true → IsLast r b → IsArm rows r b
  clause : (i : ℕ) (c : NodeId) (s : Row) → is_choice r.form ≡ true → IsHead r i c → IsRow rows c s → is_clause s.form ≡ true → IsLast s b → IsArm rows r b

abbrev pub given : Bool → Bool → Outcome → Bool
given t u Yes = t
given t u No = u

-- one step in a scope with this body
pub data Step (rows : List Row) (scope : ScopeId) (body : NodeId) : Point → Point → Type 0 where
  -- into the first part, or at once to the act
  first : (n c : NodeId) (r : Row) → IsRow rows n r → IsHead r 0 c → Step rows scope body (Before n) (Before c)
  at_once : (n : NodeId) (r : Row) → IsRow rows n r → is_test r.form ≡ false → length (heads r.form r.parts) ≡ 0 → Step rows scope body (Before n) (Acts n)
  -- in order
  next : (n c d : NodeId) (i : ℕ) (r : Row) (e : Outcome) → IsRow rows n r → is_test r.form ≡ false → IsHead r i c → IsHead r (suc i) d → Step rows scope body (After c e) (Before d)
  last_part : (n c : NodeId) (i : ℕ) (r : Row) (e : Outcome) → IsRow rows n r → is_test r.form ≡ false → IsHead r i c → length (heads r.form r.parts) ≡ suc i → Step rows scope body (After c e) (Acts n)
  -- by the outcome of the first part
  branch : (n c d : NodeId) (j : ℕ) (r : Row) (e : Outcome) → IsRow rows n r → is_test r.form ≡ true → IsHead r 0 c → arm r.form e ≡ Part j → IsHead r j d → Step rows scope body (After c e) (Before d)
  gives : (n c : NodeId) (t u : Bool) (r : Row) (e g : Outcome) → IsRow rows n r → is_test r.form ≡ true → IsHead r 0 c → arm r.form e ≡ Give t u → given t u g ≡ true → Step rows scope body (After c e) (After n g)
  either : (n c : NodeId) (i : ℕ) (r : Row) (e g : Outcome) → IsRow rows n r → is_test r.form ≡ true → IsHead r (suc i) c → keeps r.form ≡ false → Step rows scope body (After c e) (After n g)
  same : (n c : NodeId) (i : ℕ) (r : Row) (e : Outcome) → IsRow rows n r → is_test r.form ≡ true → IsHead r (suc i) c → keeps r.form ≡ true → Step rows scope body (After c e) (After n e)
  -- such a row acts when its first part has come out: where that leads is told above, so its act is the end of a way
  decides : (n c : NodeId) (r : Row) (e : Outcome) → IsRow rows n r → is_test r.form ≡ true → IsHead r 0 c → Step rows scope body (After c e) (Acts n)
  -- acting
  plain : (n : NodeId) (r : Row) (e : Outcome) → IsRow rows n r → is_test r.form ≡ false → ends r.form e ≡ true → Step rows scope body (Acts n) (After n e)
  leaves : (n w : NodeId) (r : Row) (e : Outcome) → IsRow rows n r → is_break r.form ≡ true → r.within.turn ≡ Some w → Step rows scope body (Acts n) (After w e)
  again : (n w : NodeId) (r : Row) → IsRow rows n r → begins_turn r.form ≡ true → r.within.turn ≡ Some w → Step rows scope body (Acts n) (Before w)
  skips : (n b : NodeId) (r s : Row) (e : Outcome) → IsRow rows n r → is_next r.form ≡ true → r.within.turn ≡ None → (r.within.scope.0 == scope.0) ≡ false → IsRow rows b s → opening s.form ≡ Opens r.within.scope → Step rows scope body (Acts n) (After b e)
  skips_out : (n : NodeId) (r : Row) → IsRow rows n r → is_next r.form ≡ true → r.within.turn ≡ None → (r.within.scope.0 == scope.0) ≡ true → Step rows scope body (Acts n) End
  returns : (n : NodeId) (r : Row) → IsRow rows n r → is_return r.form ≡ true → Step rows scope body (Acts n) End
  -- what an act may run: a block any number of times, a spawned one beside, one of the arms of a choice
  runs : (n b : NodeId) (r : Row) → IsRow rows n r → IsArm rows r b → Step rows scope body (Acts n) (Before b)
  repeats : (n b : NodeId) (r : Row) (e : Outcome) → IsRow rows n r → IsArm rows r b → runs_again r.form ≡ true → Step rows scope body (After b e) (Before b)
  done : (n b : NodeId) (r : Row) (e g : Outcome) → IsRow rows n r → IsArm rows r b → runs_apart r.form ≡ false → Step rows scope body (After b e) (After n g)
  -- the scope's end
  over : (e : Outcome) → Step rows scope body (After body e) End

-- a step out of the scope: after its body there is its end alone
abbrev pub leaves_scope : NodeId → Point → Point → Type 0
leaves_scope body (After n e) End = ⊥
leaves_scope body (After n e) q = n ≡ body
leaves_scope body p q = ⊥

module _ (rows : List Row) (scope : ScopeId) (body : NodeId) where
  -- k steps lead from one moment to the other
  abbrev pub Way : ℕ → Point → Point → Type 0
  Way zero p q = p ≡ q
  Way (suc k) p q = (z : Point) × (Step rows scope body p z × ¬ (leaves_scope body p z)) × Way k z q

  -- the moment at which an assignment to the variable acts
  abbrev pub sets_in : Variable → Option Row → Bool
  sets_in x None = false
  sets_in x (Some r) = assigns r.form x

  abbrev pub sets : Variable → Point → Bool
  sets x (Acts n) = sets_in x (slice_get rows n.0)
  sets x p = false

  -- some step of the way is an assignment
  abbrev pub IsSetOn : Variable → (k : ℕ) (p q : Point) → Way k p q → Type 0
  IsSetOn x zero p q w = ⊥
  IsSetOn x (suc k) p q w = (sets x p ≡ true) ⊎ IsSetOn x k w.0 q w.2

  -- every way from the body's begin to this moment has an assignment to the variable
  abbrev pub IsSetBefore : Variable → Point → Type 0
  IsSetBefore x p = (k : ℕ) (w : Way k (Before body) p) → IsSetOn x k (Before body) p w
