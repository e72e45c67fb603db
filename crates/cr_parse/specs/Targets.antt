-- What is assigned, and by which tokens.
use Rattle.std.specs.Prelude.{Option}
use Rattle.cr_syntax.specs.declared.look.TokenLook.{TokenLook}
use Rattle.cr_grammar.specs.declared.operator.Assignment.{Assignment}
use Rattle.cr_grammar.specs.Operators as o
use Rattle.cr_parse.specs.declared.assignments.Target.{Target}
use Rattle.cr_parse.specs.declared.assignments.Target.TheVariants as t

abbrev pub table : Target → TokenLook → Option Assignment
table t.Variable = o.any_assignment
table t.Link = o.field_assignment
