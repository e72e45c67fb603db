use Rattle.std.proofs.Common.{◌≡◌, ℕ, List, Option, None, length, ◌∙◌, ap}
use Rattle.std.proofs.Math.ListN.{replicate}
use Rattle.std.proofs.lemmas.Result.{IfOk-weaker}
use Rattle.cr_base.specs.declared.ids.NameId.{NameId}
use Rattle.cr_names.specs.Names.{own_keys}
use Rattle.cr_names.specs.Tables.{noted_from}
use Rattle.cr_names.proofs.Owning.{own_told}
use Rattle.cr_names.proofs.names.places.Goals as goal

pub returns : goal.returns
returns c =
    let t = c.args.core.now in
    let many : c.len.result ≡ length t.names = c.len.ensures.length ∙ ap (λ (l : List (List ℕ)). length l) c.names.ensures in
    let same : c.as_slice.result.now ≡ own_keys c.args.own.now = c.as_slice.ensures.value ∙ c.in_ok-keys.ensures in
    IfOk-weaker c.first_places.result _ _ (λ table is. own_told t c.len.result c.args.own.now table.items c.rows.ensures.core c.requires many
    (is ∙ ap (λ (l : List (Option NameId)). noted_from (replicate c.len.result None) 0 l) same)) c.first_places.ensures
