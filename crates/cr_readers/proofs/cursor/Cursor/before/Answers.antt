use Rattle.std.proofs.Common.{rules, arith, ◌≡◌, ◌-◌, ℕ, zero, suc, List, drop, refl}
use Rattle.cr_syntax.specs.declared.token.Token.{Token}
use Rattle.cr_readers.specs.Reader.{look_at}
use Rattle.cr_readers.specs.Cursor.{before_at}
use Rattle.cr_readers.proofs.cursor.Cursor.before.Goals as goal

before-here : (n : ℕ) (ts : List Token) → (n ≡ 0 → ⊥) → before_at n ts ≡ look_at (drop (n - 1) ts)
before-here zero ts behind = absurd (behind refl)
before-here (suc n) ts behind = let e : suc n - 1 ≡ n = omega arith in rw e refl

pub returns-in-Some : goal.returns-in-Some
returns-in-Some c = let s = c.args.self.now in rw (before-here s.at s.list.now (search rules)) (search rules)
