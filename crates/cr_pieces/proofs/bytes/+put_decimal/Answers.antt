use Rattle.std.proofs.Common.{ℕ, List, ◌++◌, sym, ap, ◌∙◌, arith}
use Rattle.std.proofs.lemmas.Fmt.{decimal_digit}
use Rattle.cr_pieces.proofs.Written.{then, decimal_more}
use Rattle.cr_pieces.proofs.bytes.+put_decimal.Goals as goal

pub returns-then-number-lt10 : goal.returns-then-number-lt10
returns-then-number-lt10 t c = then c.put_byte.result c.put_byte.ensures (λ e. e ∙ ap (λ (v : List ℕ). c.args.out.now.items ++ v) (sym (decimal_digit c.args.number c.if-number-lt10.true)))

pub returns : goal.returns
returns t c = then c.put_byte-2.result c.put_byte-2.ensures (λ e. decimal_more c.args.number c.args.out.now.items c.put_decimal.new.out.items c.put_byte-2.new.out.items (omega arith) (omega arith) c.in_ok-put_decimal.ensures e)
