use Rattle.cr_parse.proofs.expressions.Expressions.stmt_behind.Goals as goal

pub returns-in-Field : goal.returns-in-Field
returns-in-Field g c = rw (c.in-Field.is) c.field_behind.ensures

pub returns-in-Element : goal.returns-in-Element
returns-in-Element g c = rw (c.in-Element.is) c.target_behind.ensures

pub returns-in-Variable : goal.returns-in-Variable
returns-in-Variable g c = rw (c.in-Variable.is) c.target_behind-in-Variable.ensures

pub returns-in-Passing : goal.returns-in-Passing
returns-in-Passing g c = rw (c.in-Passing.is) c.operand_behind.ensures

pub returns-in-Whole : goal.returns-in-Whole
returns-in-Whole g c = rw (c.in-Whole.is) c.operand_behind-in-Whole.ensures
