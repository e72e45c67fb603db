use Rattle.std.proofs.Common.{◌≡◌, ℕ, List, Option, None, length, ◌∙◌, ap}
use Rattle.std.proofs.Math.ListN.{replicate}
use Rattle.std.proofs.lemmas.Result.{IfOk-weaker}
use Rattle.cr_base.specs.declared.ids.NameId.{NameId}
use Rattle.cr_core.specs.declared.row.Row.{Row}
use Rattle.cr_names.specs.Names.{keys}
use Rattle.cr_names.specs.Tables.{noted_from}
use Rattle.cr_names.proofs.Noted.{first_told}
use Rattle.cr_names.proofs.firsts.first_rows.Goals as goal

pub returns : goal.returns
returns c =
    let kind = c.args.kind in
    let many : c.len.result ≡ length c.args.core.now.names = c.len.ensures.length ∙ ap (λ (l : List (List ℕ)). length l) c.names.ensures in
    let same : c.as_slice.result.now ≡ keys kind c.args.core.now.rows =
    c.as_slice.ensures.value ∙ c.in_ok-keys.ensures ∙ ap (λ (rows : List Row). keys kind rows) c.rows-rows.ensures.rows in
    IfOk-weaker c.first_places.result _ _ (λ table is. first_told c.args.core.now kind c.len.result table.items c.rows-rows.ensures.core many
    (is ∙ ap (λ (l : List (Option NameId)). noted_from (replicate c.len.result None) 0 l) same)) c.first_places.ensures
