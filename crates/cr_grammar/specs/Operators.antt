-- What single tokens stand for: operators, names of methods, and what may begin an argument.
use Rattle.std.specs.Prelude.{ℕ, Bool, true, false, not, ◌&&◌, ◌||◌, ◌==◌, List, [], ◌∷◌, codes, Option, Some, None}
use Rattle.cr_syntax.specs.declared.look.TokenLook.{TokenLook}
use Rattle.cr_syntax.specs.declared.look.TokenLook.TheVariants as l
use Rattle.cr_syntax.specs.declared.token.Token.{Token}
use Rattle.cr_syntax.specs.Look.{look_of}
use Rattle.cr_grammar.specs.declared.operator.Binary.{Binary}
use Rattle.cr_grammar.specs.declared.operator.Binary.TheVariants as binary
use Rattle.cr_grammar.specs.declared.operator.Assignment.{Assignment}
use Rattle.cr_grammar.specs.declared.operator.Assignment.TheVariants as assignment

-- ---- operators between operands, a table for each level

abbrev pub or_operator : TokenLook → Option Binary
or_operator l.OrOr = Some binary.Or
or_operator other = None

abbrev pub and_operator : TokenLook → Option Binary
and_operator l.AndAnd = Some binary.And
and_operator other = None

abbrev pub cmp_operator : TokenLook → Option Binary
cmp_operator l.EqualEqual = Some binary.Equal
cmp_operator l.NotEqual = Some binary.NotEqual
cmp_operator l.Less = Some binary.Less
cmp_operator l.LessEqual = Some binary.LessEqual
cmp_operator l.Greater = Some binary.Greater
cmp_operator l.GreaterEqual = Some binary.GreaterEqual
cmp_operator other = None

abbrev pub shift_operator : TokenLook → Option Binary
shift_operator l.ShiftLeft = Some binary.ShiftLeft
shift_operator other = None

abbrev pub sum_operator : TokenLook → Option Binary
sum_operator l.Plus = Some binary.Plus
sum_operator l.Minus = Some binary.Minus
sum_operator l.WrappingPlus = Some binary.WrappingPlus
sum_operator l.WrappingMinus = Some binary.WrappingMinus
sum_operator other = None

abbrev pub prod_operator : TokenLook → Option Binary
prod_operator l.Star = Some binary.Star
prod_operator l.SlashSlash = Some binary.SlashSlash
prod_operator l.Percent = Some binary.Percent
prod_operator l.WrappingStar = Some binary.WrappingStar
prod_operator other = None

-- ---- assignments

-- what assigns a local or an instance variable
abbrev pub any_assignment : TokenLook → Option Assignment
any_assignment l.Equal = Some assignment.Plain
any_assignment l.PlusEqual = Some assignment.Plus
any_assignment l.MinusEqual = Some assignment.Minus
any_assignment l.StarEqual = Some assignment.Star
any_assignment l.SlashSlashEqual = Some assignment.SlashSlash
any_assignment l.PercentEqual = Some assignment.Percent
any_assignment l.OrOrEqual = Some assignment.Or
any_assignment other = None

-- what assigns a field or an element: all but `||=`
abbrev pub field_assignment : TokenLook → Option Assignment
field_assignment l.OrOrEqual = None
field_assignment other = any_assignment other

-- ---- names

-- the operators that a method may be named after, as bytes
abbrev pub operator_name : TokenLook → Option (List ℕ)
operator_name l.Plus = Some (codes "+")
operator_name l.Minus = Some (codes "-")
operator_name l.Star = Some (codes "*")
operator_name l.SlashSlash = Some (codes "//")
operator_name l.Percent = Some (codes "%")
operator_name l.EqualEqual = Some (codes "==")
operator_name l.Less = Some (codes "<")
operator_name l.LessEqual = Some (codes "<=")
operator_name l.Greater = Some (codes ">")
operator_name l.GreaterEqual = Some (codes ">=")
operator_name l.ShiftLeft = Some (codes "<<")
operator_name other = None

abbrev pub index_name : List ℕ
index_name = codes "[]"

abbrev pub index_set_name : List ℕ
index_set_name = codes "[]="

abbrev pub index_question_name : List ℕ
index_question_name = codes "[]?"

abbrev pub new_name : List ℕ
new_name = codes "new"

abbrev pub send_name : List ℕ
send_name = codes "send"

abbrev pub receive_name : List ℕ
receive_name = codes "receive"

abbrev pub receive_question_name : List ℕ
receive_question_name = codes "receive?"

abbrev pub initialize_name : List ℕ
initialize_name = codes "initialize"

abbrev pub nil_name : List ℕ
nil_name = codes "Nil"

abbrev pub fiber_name : List ℕ
fiber_name = codes "Fiber"

abbrev pub isolated_path : List (List ℕ)
isolated_path = fiber_name ∷ codes "ExecutionContext" ∷ codes "Isolated" ∷ []

-- whether a name ends with `?` or `!`
abbrev pub is_marked : List ℕ → Bool
is_marked [] = false
is_marked (b ∷ []) = b == 63 || b == 33
is_marked (b ∷ c ∷ bs) = is_marked (c ∷ bs)

-- ---- arguments without parentheses

-- the tokens that begin an argument, but for `-`
abbrev pub begins_value : TokenLook → Bool
begins_value l.Int32 = true
begins_value l.Int64 = true
begins_value l.Text = true
begins_value l.TextFirst = true
begins_value l.Ident = true
begins_value l.Constant = true
begins_value l.InstanceVariable = true
begins_value l.Nil = true
begins_value l.True = true
begins_value l.False = true
begins_value l.KeywordSelf = true
begins_value l.Yield = true
begins_value l.Super = true
begins_value l.OpenParenthesis = true
begins_value l.OpenBracket = true
begins_value l.Bang = true
begins_value other = false

abbrev pub is_minus : TokenLook → Bool
is_minus l.Minus = true
is_minus other = false

-- a spaced `-` whose next token is tight
abbrev pub is_sign : List Token → Bool
is_sign [] = false
is_sign (t ∷ []) = false
is_sign (t ∷ u ∷ ts) = is_minus (look_of t.kind) && t.spaced && not u.spaced

-- a spaced token that begins an argument
abbrev pub begins_argument : List Token → Bool
begins_argument [] = false
begins_argument (t ∷ ts) = (t.spaced && begins_value (look_of t.kind)) || is_sign (t ∷ ts)

-- the names, behind which arguments may stand without parentheses: `new` is one too
abbrev pub is_name : TokenLook → Bool
is_name l.Ident = true
is_name l.Yield = true
is_name l.Super = true
is_name other = false

-- What stands behind a token of this look goes on as an operation: a sign behind a name would begin an argument.
abbrev pub is_operation : TokenLook → List Token → Bool
is_operation before ts = not (is_name before && is_sign ts)

abbrev pub is_modifier : TokenLook → Bool
is_modifier l.If = true
is_modifier l.Unless = true
is_modifier other = false

-- the tokens begin with no `if` and no `unless`
abbrev pub begins_no_modifier : List Token → Bool
begins_no_modifier [] = true
begins_no_modifier (t ∷ ts) = not (is_modifier (look_of t.kind))
