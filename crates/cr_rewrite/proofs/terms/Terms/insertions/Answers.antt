use Rattle.std.proofs.Common.{ℕ, List, ap, ◌∙◌}
use Rattle.cr_grammar.specs.declared.tree.Tree.{Tree}
use Rattle.cr_making.proofs.Done.{using_made, made_as}
use Rattle.cr_making.specs.Table.{parts}
use Rattle.cr_making.specs.Terms.{insertions, joined_text}
use Rattle.cr_rewrite.proofs.terms.Terms.insertions.Goals as goal

pub returns : goal.returns
unfolding insertions
returns g c =
    let at = c.args.at in
    let plus = c.in_ok-plus.plus in
    let to_s = c.in_ok-to_s.to_s in
    let same = ap (λ (ts : List (List ℕ)). joined_text at plus to_s ts (parts c.as_slice-2.result.now)) c.as_slice.ensures
    ∙ ap (λ (es : List Tree). joined_text at plus to_s c.args.texts.now (parts es)) c.as_slice-2.ensures in
    using_made _ c.in_ok-plus.ensures (using_made _ c.in_ok-to_s.ensures (made_as same c.in_ok-joined_text.ensures))
