use Rattle.std.proofs.Common.{◌≡◌, ℕ, ◌-◌, suc, Some, get_or, sym, subst, arith}
use Rattle.std.specs.Prelude.{slice_get}
use Rattle.std.proofs.lemmas.Option.{slice_get-get_or}
use Rattle.cr_flow.specs.Under.{AreFirsts}
use Rattle.cr_flow.proofs.Below.{firsts_lower}
use Rattle.cr_flow.proofs.under.firsts.Goals as goal

pub rows-preserved : goal.rows-preserved
rows-preserved c =
    let rows = c.args.rows.now in let q = get_or rows (c.rows.n - 1) c.index-rows-n.result in let within = c.rows.invariant.within in let more = c.rows-test.true in let end = c.requires in
    let at : slice_get rows (c.rows.n - 1) ≡ Some q = slice_get-get_or rows (c.rows.n - 1) c.index-rows-n.result (omega (arith, within, more, end)) in
    let one : suc (c.rows.n - 1) ≡ c.rows.n = omega (arith, more) in
    record {
      within = omega (arith, within);
      firsts = subst (AreFirsts rows (c.rows.n - 1)) (sym c.note.ensures) (firsts_lower rows (c.rows.n - 1) q at c.rows.firsts.items (subst (λ (k : ℕ). AreFirsts rows k c.rows.firsts.items) (sym one) c.rows.invariant.firsts));
    }
