-- Tables of operators, by level.
use Rattle.std.specs.Prelude.{Option}
use Rattle.cr_syntax.specs.declared.look.TokenLook.{TokenLook}
use Rattle.cr_grammar.specs.declared.operator.Binary.{Binary}
use Rattle.cr_grammar.specs.Operators as o
use Rattle.cr_readers.specs.Reader.{Test, either}
use Rattle.cr_readers.specs.Goes.{is_operator}
use Rattle.cr_words.specs.declared.operators.Level.{Level}
use Rattle.cr_words.specs.declared.operators.Level.TheVariants as v

abbrev pub table : Level → TokenLook → Option Binary
table v.Or = o.or_operator
table v.And = o.and_operator
table v.Cmp = o.cmp_operator
table v.Shift = o.shift_operator
table v.Sum = o.sum_operator
table v.Prod = o.prod_operator

-- an operator of some level
abbrev pub of_some_level : Test
of_some_level =
    either (is_operator o.or_operator)
    (either (is_operator o.and_operator)
    (either (is_operator o.cmp_operator)
    (either (is_operator o.shift_operator)
    (either (is_operator o.sum_operator)
    (is_operator o.prod_operator)))))
