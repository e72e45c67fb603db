use Rattle.std.proofs.Common.{◌≡◌, ℕ, suc, sym, ap, refl, subst, ◌∙◌, Bool, Option, Some, None, true, false, arith, List, length, get_or}
use Rattle.std.specs.Prelude.{slice_get, map, option_map, not}
use Rattle.std.proofs.lemmas.Option.{slice_get-map, slice_get_read, slice_get_past, slice_get-get_or, same_Some}
use Rattle.cr_base.specs.declared.ids.NodeId.{NodeId}
use Rattle.cr_flow.specs.declared.outs.Outs.{Outs}
use Rattle.cr_flow.specs.Control.{heads, behind}
use Rattle.cr_flow.specs.Chain.{first_in, LeadsTo}
use Rattle.cr_flow.specs.Uses.{asked}
use Rattle.cr_flow.specs.Outs.{none, at_in, acted, arms_outs, chain, caught, goes_on, leads_on, reach}
use Rattle.cr_flow.proofs.Parts.{node_same}
use Rattle.cr_flow.proofs.Reaching.{reach_none, reach_test, reach_plain, trail_later, trail_on, trail_off, after_is, no_heads, leads_behind, above, chain_on, chain_off, behind_at}
use Rattle.cr_flow.proofs.reach.+reach.Goals as goal

pub reach-reach-first-requires : goal.reach-reach-first-requires
reach-reach-first-requires t c =
    let b = trail_later c.args.rows.now (asked c.args.rows.now c.args.only c.args.ranks.now c.args.x) c.args.x c.requires c.trails.at c.in-Some.trail (sym c.in-Some.ensures) in
    let u = b.0.later in let v = b.0.there in let w = c.trails.invariant.later in
    (omega (arith, u, v, w), c.requires)

pub reach-returns-then-not-leads_on : goal.reach-returns-then-not-leads_on
reach-returns-then-not-leads_on t c =
    trail_off c.args.rows.now (asked c.args.rows.now c.args.only c.args.ranks.now c.args.x) c.args.x c.requires c.trails.inside c.trails.all c.reach-first.result (reach c.args.rows.now (asked c.args.rows.now c.args.only c.args.ranks.now c.args.x) c.args.x c.args.n) c.led.result c.join-all.result c.trails.at c.in-Some.trail
    (sym c.in-Some.ensures) c.reach-first.ensures c.trails.invariant.same (sym c.leads_on.ensures ∙ c.if-not-leads_on.true) c.trails.invariant.plain c.led.ensures c.join-all.ensures

pub reach-trails-smaller : goal.reach-trails-smaller
reach-trails-smaller t c =
    let b = trail_later c.args.rows.now (asked c.args.rows.now c.args.only c.args.ranks.now c.args.x) c.args.x c.requires c.trails.at c.in-Some.trail (sym c.in-Some.ensures) in
    let u = b.1.later in let v = b.1.there in omega (arith, u, v)

pub reach-trails-preserved : goal.reach-trails-preserved
reach-trails-preserved t c =
    let b = trail_later c.args.rows.now (asked c.args.rows.now c.args.only c.args.ranks.now c.args.x) c.args.x c.requires c.trails.at c.in-Some.trail (sym c.in-Some.ensures) in
    let u = b.1.later in let w = c.trails.invariant.later in
    record {
      same = trail_on c.args.rows.now (asked c.args.rows.now c.args.only c.args.ranks.now c.args.x) c.args.x c.requires c.trails.inside c.trails.all c.reach-first.result (reach c.args.rows.now (asked c.args.rows.now c.args.only c.args.ranks.now c.args.x) c.args.x c.args.n) c.led.result c.join-all.result c.trails.at c.in-Some.trail
          (sym c.in-Some.ensures) c.reach-first.ensures c.trails.invariant.same (sym c.leads_on.ensures ∙ c.if-not-leads_on.false) c.trails.invariant.plain c.led.ensures c.join-all.ensures;
      later = omega (arith, u, w);
      plain = λ h. absurd (cc);
    }

pub after-returns : goal.after-returns
after-returns t c =
    let rows = c.args.rows.now in let r = c.in-Some.row.now in
    let is : slice_get rows c.args.n.0 ≡ Some r = slice_get_read rows (length rows) c.args.n.0 r refl c.in-Some.ensures.lookup.3.0 c.in-Some.ensures.lookup.1 in
    let f = after_is rows c.args.n c.requires.first.0 r is c.requires.first.1 in
    c.caught.ensures ∙ ap (caught r.form) c.in_order.ensures ∙ sym (reach_plain rows (asked c.args.rows.now c.args.only c.args.ranks.now c.args.x) c.args.x c.requires.forward c.args.n r is f.0)

pub base-returns-in_default : goal.base-returns-in_default
base-returns-in_default t c =
    let e : slice_get c.args.rows.now c.args.n.0 ≡ None = slice_get_past c.args.rows.now c.args.n.0 c.in_default.ensures.lookup.3 in
    c.none.ensures ∙ sym (reach_none c.args.rows.now (asked c.args.rows.now c.args.only c.args.ranks.now c.args.x) c.args.x c.requires.forward c.args.n e)

pub base-tested-requires : goal.base-tested-requires
base-tested-requires t c =
    let rows = c.args.rows.now in let r = c.in-Some.row.now in
    (omega arith, (c.requires.forward, slice_get_read rows (length rows) c.args.n.0 r refl c.in-Some.ensures.lookup.3.0 c.in-Some.ensures.lookup.1))

pub base-arms-requires : goal.base-arms-requires
base-arms-requires t c =
    let rows = c.args.rows.now in let r = c.in-Some.row.now in
    (omega arith, (c.requires.forward, slice_get_read rows (length rows) c.args.n.0 r refl c.in-Some.ensures.lookup.3.0 c.in-Some.ensures.lookup.1))

pub base-returns-then-is_test : goal.base-returns-then-is_test
base-returns-then-is_test t c =
    let rows = c.args.rows.now in let r = c.in-Some.row.now in
    let is : slice_get rows c.args.n.0 ≡ Some r = slice_get_read rows (length rows) c.args.n.0 r refl c.in-Some.ensures.lookup.3.0 c.in-Some.ensures.lookup.1 in
    c.caught.ensures ∙ ap (caught r.form) c.tested.ensures ∙ sym (reach_test rows (asked c.args.rows.now c.args.only c.args.ranks.now c.args.x) c.args.x c.requires.forward c.args.n r is (sym c.is_test.ensures ∙ c.if-is_test.true))

pub base-returns-else-is_test : goal.base-returns-else-is_test
base-returns-else-is_test t c =
    let rows = c.args.rows.now in let r = c.in-Some.row.now in
    let is : slice_get rows c.args.n.0 ≡ Some r = slice_get_read rows (length rows) c.args.n.0 r refl c.in-Some.ensures.lookup.3.0 c.in-Some.ensures.lookup.1 in
    let nt = sym c.is_test.ensures ∙ c.if-is_test.false in
    let empty = no_heads rows c.args.n r is nt c.requires.last in
    c.caught-else-is_test.ensures ∙ ap (caught r.form) (c.acted.ensures ∙ ap (λ (k : Option ℕ). acted k c.args.x r.form c.arms.result) c.asked.ensures ∙ ap (acted (asked c.args.rows.now c.args.only c.args.ranks.now c.args.x c.args.n) c.args.x r.form) c.arms.ensures)
    ∙ sym (reach_plain rows (asked c.args.rows.now c.args.only c.args.ranks.now c.args.x) c.args.x c.requires.forward c.args.n r is nt
    ∙ ap (λ (hs : List NodeId). caught r.form (chain none (acted (asked c.args.rows.now c.args.only c.args.ranks.now c.args.x c.args.n) c.args.x r.form (arms_outs (reach rows (asked c.args.rows.now c.args.only c.args.ranks.now c.args.x) c.args.x) rows r)) (map (reach rows (asked c.args.rows.now c.args.only c.args.ranks.now c.args.x) c.args.x) hs))) empty)

pub in_order-returns-then-not-goes_on : goal.in_order-returns-then-not-goes_on
in_order-returns-then-not-goes_on t c =
    let rows = c.args.rows.now in let r = c.args.row.now in
    c.jumps-all.ensures ∙ sym (chain_off (acted (asked c.args.rows.now c.args.only c.args.ranks.now c.args.x c.args.n) c.args.x r.form (arms_outs (reach rows (asked c.args.rows.now c.args.only c.args.ranks.now c.args.x) c.args.x) rows r)) c.args.first (reach rows (asked c.args.rows.now c.args.only c.args.ranks.now c.args.x) c.args.x) (heads r.form r.parts) c.requires.first (sym c.goes_on.ensures ∙ c.if-not-goes_on.true))

pub in_order-loop-p-init : goal.in_order-loop-p-init
in_order-loop-p-init t c =
    let rows = c.args.rows.now in let r = c.args.row.now in let T = reach rows (asked c.args.rows.now c.args.only c.args.ranks.now c.args.x) c.args.x in
    let end = acted (asked c.args.rows.now c.args.only c.args.ranks.now c.args.x c.args.n) c.args.x r.form (arms_outs (reach rows (asked c.args.rows.now c.args.only c.args.ranks.now c.args.x) c.args.x) rows r) in
    let items : c.behind-p-items.result.now ≡ behind (heads r.form r.parts) = c.behind-p-items.ensures ∙ ap behind (c.heads.ensures ∙ ap (heads r.form) c.as_slice.ensures) in
    chain_on end c.args.first T (heads r.form r.parts) c.requires.first (sym c.goes_on.ensures ∙ c.if-not-goes_on.false)
    ∙ ap (λ (o : Outs). chain o end (map T (behind (heads r.form r.parts)))) (sym c.jumps-all.ensures)
    ∙ ap (λ (hs : List NodeId). chain c.jumps-all.result end (map T hs)) (sym items)

pub in_order-reach-one-requires : goal.in_order-reach-one-requires
in_order-reach-one-requires t c =
    let r = c.args.row.now in let ps = c.behind-p-items.result.now in let i = c.loop-p.p-index in
    let p : NodeId = get_or ps i (record { 0 = 0 }) in
    let items : ps ≡ behind (heads r.form r.parts) = c.behind-p-items.ensures ∙ ap behind (c.heads.ensures ∙ ap (heads r.form) c.as_slice.ensures) in
    let e : slice_get (behind (heads r.form r.parts)) i ≡ Some p = ap (λ (hs : List NodeId). slice_get hs i) (sym items) ∙ slice_get-get_or ps i (record { 0 = 0 }) c.loop-p-test.true in
    let b = c.requires.forward.heads c.args.n p (suc i) r c.requires.row (behind_at (heads r.form r.parts) i p e) in
    let u = b.later in let v = b.there in
    (omega (arith, u, v), c.requires.forward)

pub led-reach-requires : goal.led-reach-requires
led-reach-requires t c =
    let b = trail_later c.args.rows.now (asked c.args.rows.now c.args.only c.args.ranks.now c.args.x) c.args.x c.requires.forward c.args.n c.args.trail c.requires.trail in
    let w = b.2 c.in-Some.branch c.in-Some.is in let u = w.later in let v = w.there in
    (omega (arith, u, v), c.requires.forward)

pub line-base-all-requires : goal.line-base-all-requires
line-base-all-requires t c =
    let l = leads_behind c.args.rows.now c.requires c.args.n c.foremost-at.result c.foremost-at.ensures.down in
    (omega (arith, l), (c.requires, c.foremost-at.ensures.last))

pub line-after-all-requires : goal.line-after-all-requires
line-after-all-requires t c =
    let rows = c.args.rows.now in
    let a = above rows c.requires c.args.n c.up.at c.up.invariant.leads (λ (h : c.up.at.0 ≡ c.args.n.0). omega arith) in
    let same : c.in-Some.around ≡ a.up = same_Some c.in-Some.around a.up (c.in-Some.ensures ∙ a.parent) in
    let g = ap (λ (v : NodeId). v.0) same in let u = a.behind in
    (omega (arith, u, g), (c.requires, (c.up.at, subst (λ (v : NodeId). first_in (slice_get rows v.0) ≡ Some c.up.at) (sym same) a.first, c.up.invariant.same)))

pub line-up-smaller : goal.line-up-smaller
line-up-smaller t c =
    let a = above c.args.rows.now c.requires c.args.n c.up.at c.up.invariant.leads (λ (h : c.up.at.0 ≡ c.args.n.0). omega arith) in
    let same : c.in-Some.around ≡ a.up = same_Some c.in-Some.around a.up (c.in-Some.ensures ∙ a.parent) in
    let g = ap (λ (v : NodeId). v.0) same in let u = a.before in
    omega (arith, u, g)

pub line-up-preserved : goal.line-up-preserved
line-up-preserved t c =
    let rows = c.args.rows.now in
    let a = above rows c.requires c.args.n c.up.at c.up.invariant.leads (λ (h : c.up.at.0 ≡ c.args.n.0). omega arith) in
    let same : c.in-Some.around ≡ a.up = same_Some c.in-Some.around a.up (c.in-Some.ensures ∙ a.parent) in
    record { leads = subst (λ (v : NodeId). LeadsTo rows c.args.n v) (sym same) a.leads; same = c.after-all.ensures }

pub line-returns : goal.line-returns
line-returns t c =
    let e : c.up.at.0 ≡ c.args.n.0 = omega arith in
    c.up.invariant.same ∙ ap (reach c.args.rows.now (asked c.args.rows.now c.args.only c.args.ranks.now c.args.x) c.args.x) (node_same c.up.at c.args.n e)

pub part-reach-requires : goal.part-reach-requires
part-reach-requires t c =
    let r = c.args.row.now in let hs = c.heads.result.now in let p = c.in-Some.part.now in
    let items : hs ≡ heads r.form r.parts = c.heads.ensures ∙ ap (heads r.form) c.as_slice.ensures in
    let e : slice_get (heads r.form r.parts) c.args.place ≡ Some p = ap (λ (l : List NodeId). slice_get l c.args.place) (sym items) ∙ slice_get_read hs (length hs) c.args.place p refl c.in-Some.ensures.lookup.3.0 c.in-Some.ensures.lookup.1 in
    let b = c.requires.forward.heads c.args.n p c.args.place r c.requires.row e in let u = b.later in let v = b.there in
    (omega (arith, u, v), c.requires.forward)

pub part-returns : goal.part-returns
part-returns t c =
    let r = c.args.row.now in let hs = c.heads.result.now in let p = c.in-Some.part.now in let T = reach c.args.rows.now (asked c.args.rows.now c.args.only c.args.ranks.now c.args.x) c.args.x in
    let items : hs ≡ heads r.form r.parts = c.heads.ensures ∙ ap (heads r.form) c.as_slice.ensures in
    let e : slice_get (heads r.form r.parts) c.args.place ≡ Some p = ap (λ (l : List NodeId). slice_get l c.args.place) (sym items) ∙ slice_get_read hs (length hs) c.args.place p refl c.in-Some.ensures.lookup.3.0 c.in-Some.ensures.lookup.1 in
    c.reach.ensures ∙ sym (ap at_in (slice_get-map T (heads r.form r.parts) c.args.place ∙ ap (option_map T) e))
