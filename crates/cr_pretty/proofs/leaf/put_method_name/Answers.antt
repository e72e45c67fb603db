use Rattle.std.proofs.Common.{List, ℕ, ◌++◌, ap, ◌∙◌}
use Rattle.cr_pieces.proofs.Written.{then}
use Rattle.cr_pretty.proofs.Written.{name_written}
use Rattle.cr_pretty.proofs.leaf.put_method_name.Goals as goal

pub returns : goal.returns
returns c = then c.put_bytes.result c.put_bytes.ensures (λ e. name_written c.args.name.now c.args.out.now.items c.put_bytes.new.out.items (e ∙ ap (λ (x : List ℕ). c.args.out.now.items ++ x) (c.as_bytes.ensures.value ∙ c.as_str.ensures)))
