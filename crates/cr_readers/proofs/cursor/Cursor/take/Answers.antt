use Rattle.std.proofs.Common.{arith, ◌≡◌, ◌+◌, ◌≤◌, ℕ, zero, suc, List, length, drop, refl, ap}
use Rattle.std.proofs.lemmas.List.{drop_all}
use Rattle.cr_syntax.specs.declared.token.Token.{Token}
use Rattle.cr_syntax.specs.declared.look.TokenLook.TheVariants.{End}
use Rattle.cr_readers.specs.Reader.{next, look_at}
use Rattle.cr_readers.specs.Cursor.{before_at}
use Rattle.cr_readers.proofs.Rest.{tail_drop}
use Rattle.cr_readers.proofs.cursor.Cursor.take.Goals as goal

before-next : (n : ℕ) (ts : List Token) → before_at (n + 1) ts ≡ look_at (drop n ts)
before-next n ts = let e : n + 1 ≡ suc n = omega arith in rw e refl

pub returns-then-self-clause-state : goal.returns-then-self-clause-state
unfolding next
returns-then-self-clause-state c = rw (tail_drop, before-next) refl

-- a step behind the end, the end stands before
before-past : (n : ℕ) (ts : List Token) → length ts + 1 ≤ n → before_at n ts ≡ End
before-past zero ts past = absurd (omega arith)
before-past (suc n) ts past = ap look_at (drop_all n ts (omega arith))

pub returns-else-self-clause-state : goal.returns-else-self-clause-state
unfolding next
returns-else-self-clause-state c =
    let ts = c.args.self.now.list.now in
    let n = c.args.self.now.at in
    rw (drop_all n ts (omega arith), before-past n ts (omega arith)) refl
