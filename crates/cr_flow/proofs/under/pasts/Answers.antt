use Rattle.std.proofs.Common.{◌≡◌, ℕ, ◌-◌, suc, List, length, sym, ap, ◌∙◌, subst, arith}
use Rattle.std.proofs.lemmas.List.{length_push}
use Rattle.cr_flow.specs.Under.{furthest, ArePasts}
use Rattle.cr_flow.proofs.Below.{row_at, one_more}
use Rattle.cr_flow.proofs.under.pasts.Goals as goal

pub rows-preserved : goal.rows-preserved
rows-preserved c =
    let rows = c.args.rows.now in let told = c.rows.invariant.told in let more = c.rows-test.true in let end = c.requires.end in
    let w = row_at rows (c.rows.n - 1) (omega (arith, told, more, end)) in
    let items = c.in_ok-push.ensures.items in
    let is = c.own_past-past.ensures w.0 w.1 ∙ ap (λ (l : List ℕ). furthest (length rows) c.args.end l (suc (c.rows.n - 1)) w.0.parts) c.as_slice.ensures.value in
    record {
      told = let l = length_push c.rows.pasts.items c.own_past-past.result in let e = ap length items in omega (arith, told, more, l, e);
      pasts = subst (ArePasts rows c.args.end) (sym items) (one_more rows c.args.end c.rows.pasts.items c.own_past-past.result c.requires.forward c.rows.invariant.pasts (c.rows.n - 1) w.0 (omega (arith, told, more)) end w.1 is);
    }
