use Rattle.std.proofs.Common.{◌≡◌, ℕ, zero, suc, ◌-◌, ◌<◌, ap, sym, arith}
use Rattle.cr_grammar.specs.declared.wanted.Wanted.{Wanted}
use Rattle.cr_readers.specs.Cursor.{state_of}
use Rattle.cr_readers.specs.Descent.{read, reader}
use Rattle.cr_readers.specs.Reader.{State}
use Rattle.cr_parse.proofs.recursion.+read.Goals as goal

read_at : (turns n : ℕ) (wanted : Wanted) (s : State) → 0 < n → read turns n wanted s ≡ reader turns (read turns (n - 1)) wanted s
unfolding read
read_at turns zero wanted s some = absurd (omega (arith, some))
read_at turns (suc n) wanted s some = let e : suc n - 1 ≡ n = omega arith in ap (λ k. reader turns (read turns k) wanted s) (sym e)

pub returns : goal.returns
returns t c = rw (read_at c.args.turns c.args.deep c.args.wanted (state_of c.args.cursor.now) (omega arith)) c.construct.ensures
