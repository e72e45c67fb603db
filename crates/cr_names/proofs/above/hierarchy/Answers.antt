use Rattle.std.proofs.Common.{◌≡◌, [], ℕ, List, map, length, ap, ◌∙◌}
use Rattle.std.proofs.Math.ListN.{replicate}
use Rattle.cr_ancestors.specs.declared.parents.Parents.{Parents}
use Rattle.cr_ancestors.specs.Above.{ups}
use Rattle.cr_names.specs.Above.{edges}
use Rattle.cr_names.specs.Growing.{with_edges}
use Rattle.cr_names.proofs.Grown.{hierarchy_is}
use Rattle.cr_names.proofs.above.hierarchy.Goals as goal

pub returns-in-Ok : goal.returns-in-Ok
returns-in-Ok c =
    let t = c.args.lookup.now.core.now in
    let many : c.len.result ≡ length t.names = c.len.ensures.length ∙ ap (λ (l : List (List ℕ)). length l) c.names.ensures in
    let same : c.as_slice.result.now ≡ edges t = c.as_slice.ensures.value ∙ c.in_ok-edges.ensures in
    let lists : c.in_ok-lists.lists.items ≡ with_edges (replicate c.len.result []) c.as_slice.result.now = c.in_ok-lists.ensures in
    c.in-Ok.ensures.ok ∙ ap (λ (l : List Parents). map ups l) c.as_slice-3.ensures.value ∙ c.in_ok-parents.ensures ∙ c.as_slice-2.ensures.value
    ∙ hierarchy_is t c.len.result c.as_slice.result.now c.in_ok-lists.lists.items many same lists
