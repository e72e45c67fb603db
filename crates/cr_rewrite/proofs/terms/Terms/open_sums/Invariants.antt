use Rattle.std.specs.Prelude.{true, false}
use Rattle.cr_core.specs.declared.form.Form.TheVariants as f
use Rattle.cr_rewrite.specs.Left.{Opens, twice}
use Rattle.cr_rewrite.proofs.terms.Terms.open_sums.Given as goal

abbrev pub invariant-loop-i : goal.invariant-loop-i
invariant-loop-i g l = Opens (twice l.i) (f.Call l.plus true false) l.at l.initial.maker l.maker
