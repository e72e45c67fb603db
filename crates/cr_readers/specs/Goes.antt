-- The tokens by which a construct goes on. What may follow it is none of them.
use Rattle.std.specs.Prelude.{Bool, true, false, not, ◌&&◌, Option, is_some}
use Rattle.cr_syntax.specs.declared.look.TokenLook.{TokenLook}
use Rattle.cr_syntax.specs.declared.look.TokenLook.TheVariants as l
use Rattle.cr_grammar.specs.declared.operator.Binary.{Binary}
use Rattle.cr_grammar.specs.declared.within.Within.{Within}
use Rattle.cr_grammar.specs.Operators as o
use Rattle.cr_grammar.specs.declared.wanted.Wanted.{Wanted}
use Rattle.cr_grammar.specs.declared.wanted.Wanted.TheVariants.{Written, When, Unary, Or, Simple, Stmt, Stmts, Program}
use Rattle.cr_grammar.specs.Laws.{begins_or, begins_stmt}
use Rattle.cr_readers.specs.Reader.{Test, either, never}

-- an operator of this table
abbrev pub is_operator : (TokenLook → Option Binary) → Test
is_operator table found spaced = is_some (table found)

-- a statement begins
abbrev pub begins_line : Within → Test
begins_line within found spaced = begins_stmt within found

-- a value begins that is no `if` and no `unless`
abbrev pub begins_left : Within → Test
begins_left within found spaced = begins_or within found && not (o.is_modifier found)

-- a block begins; a `do` only where it is free
abbrev pub begins_block : Bool → Test
begins_block free l.OpenBrace spaced = true
begins_block free l.Do spaced = free
begins_block free other spaced = false

-- a link comes: a `.`, or a tight `[`
abbrev pub is_link : Test
is_link l.Dot spaced = true
is_link l.OpenBracket spaced = not spaced
is_link other spaced = false

abbrev pub goes_type : Test
goes_type l.ColonColon spaced = true
goes_type l.Pipe spaced = true
goes_type l.OpenParenthesis spaced = not spaced
goes_type l.Question spaced = not spaced
goes_type other spaced = false

-- the head of a postfix, or a link
abbrev pub goes_primary : Bool → Test
goes_primary free l.OpenBrace spaced = true
goes_primary free l.Do spaced = free
goes_primary free l.Of spaced = true
goes_primary free other spaced = goes_type other spaced

-- a postfix, or `!` and `-` before one
abbrev pub goes_operand : Bool → Test
goes_operand free l.Dot spaced = true
goes_operand free l.OpenBracket spaced = not spaced
goes_operand free other spaced = goes_primary free other spaced

abbrev pub goes_prod : Bool → Test
goes_prod free = either (is_operator o.prod_operator) (goes_operand free)

abbrev pub goes_sum : Bool → Test
goes_sum free = either (is_operator o.sum_operator) (goes_prod free)

abbrev pub goes_shift : Bool → Test
goes_shift free = either (is_operator o.shift_operator) (goes_sum free)

abbrev pub goes_cmp : Bool → Test
goes_cmp free = either (is_operator o.cmp_operator) (goes_shift free)

abbrev pub goes_and : Bool → Test
goes_and free = either (is_operator o.and_operator) (goes_cmp free)

abbrev pub goes_or : Bool → Test
goes_or free = either (is_operator o.or_operator) (goes_and free)

-- what follows the statements of a body
abbrev pub closes : TokenLook → Bool
closes l.KeywordEnd = true
closes l.CloseBrace = true
closes l.Else = true
closes l.Elsif = true
closes l.In = true
closes l.When = true
closes l.End = true
closes other = false

-- what follows a statement
abbrev pub ends_stmt : TokenLook → Bool
ends_stmt l.Newline = true
ends_stmt l.CloseParenthesis = true
ends_stmt other = closes other

-- what follows a statement without modifier, or a condition
abbrev pub ends_simple : TokenLook → Bool
ends_simple l.If = true
ends_simple l.Unless = true
ends_simple l.Then = true
ends_simple other = ends_stmt other

abbrev pub goes_body : Test
goes_body found spaced = not (closes found)

abbrev pub goes_stmt : Test
goes_stmt found spaced = not (ends_stmt found)

abbrev pub goes_simple : Test
goes_simple found spaced = not (ends_simple found)

abbrev pub goes_of : Wanted → Test
goes_of (Written with_arguments) = goes_type
goes_of (When within free) = goes_body
goes_of (Unary within free) = goes_operand free
goes_of (Or within free) = goes_or free
goes_of (Simple within) = goes_simple
goes_of (Stmt within) = goes_stmt
goes_of (Stmts within) = goes_body
goes_of Program = never
