use Rattle.std.proofs.Common.{◌≡◌, length, drop, rules}
use Rattle.std.specs.Prelude.{nat_eq}
use Rattle.std.specs.List.{starts_with}
use Rattle.std.proofs.lemmas.Slice.Eq.{starts_is}
use Rattle.std.proofs.lemmas.Bool.Decides.{Decides-eqb}
use Rattle.cr_value.proofs.text.Text.begins_with.Goals as goal

pub returns : goal.returns
returns c =
    let tested : c.starts_with.result ≡ starts_with nat_eq c.args.self.now c.args.front.now = search rules in
    let both = starts_is Decides-eqb c.args.self.now c.args.front.now c.starts_with.result tested in
    (λ t. (drop (length c.args.front.now) c.args.self.now, both.0 t), λ (rest, e). both.1 rest e)
