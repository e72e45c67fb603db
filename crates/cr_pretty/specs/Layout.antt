-- The layout of a tree: what is written of each construct, line by line. One item or statement stands on a line, and a level
-- is two spaces. What a tree does not hold is not written: remarks, empty lines, `then`, the form of a block, the `_` in
-- digits. Arguments stand in parentheses, and an empty list of them is left out.
use Rattle.std.specs.Prelude.{ℕ, suc, ◌-◌, ◌*◌, Bool, true, false, ◌||◌, if◌then◌else◌, ◌==◌, List, [], ◌∷◌, ◌++◌, length, take, map, Option, Some, None}
use Rattle.std.specs.Str.{bytes_eq}
use Rattle.cr_syntax.specs.declared.look.TokenLook.{TokenLook}
use Rattle.cr_syntax.specs.declared.look.TokenLook.TheVariants as l
use Rattle.cr_syntax.specs.declared.token.TokenKind.{TokenKind}
use Rattle.cr_syntax.specs.declared.token.TokenKind.TheVariants as k
use Rattle.cr_syntax.specs.Words.{is_digit, begins}
use Rattle.cr_grammar.specs.declared.operator.Binary.{Binary}
use Rattle.cr_grammar.specs.declared.operator.Binary.TheVariants as binary
use Rattle.cr_grammar.specs.declared.operator.Unary.{Unary}
use Rattle.cr_grammar.specs.declared.operator.Unary.TheVariants as prefix
use Rattle.cr_grammar.specs.declared.operator.Assignment.{Assignment}
use Rattle.cr_grammar.specs.declared.operator.Assignment.TheVariants as assignment
use Rattle.cr_grammar.specs.declared.tree.Tree.{Tree, fold-Tree}
use Rattle.cr_grammar.specs.declared.tree.Tree.TheOpen.{Tree-F}
use Rattle.cr_grammar.specs.Operators as o
use Rattle.cr_pieces.specs.Pieces.{Piece, Blank, Put, spelling, text_of}

-- ---- tokens

abbrev pub space : Piece
space = Blank 1

-- a keyword, an operator or the end of a line
abbrev pub word : TokenLook → Piece
word look = Put (k.Plain look)

abbrev pub parenthesized : List Piece → List Piece
parenthesized ps = word l.OpenParenthesis ∷ (ps ++ word l.CloseParenthesis ∷ [])

abbrev pub enclosed : Bool → List Piece → List Piece
enclosed true ps = parenthesized ps
enclosed false ps = ps

-- ---- parentheses

-- What a construct is, as far as its parentheses go: an operation is a binary, a `!`, a `-` or a compound form other than
-- `if` and `unless`, which are conditionals; what leaves is an assignment or a jump.
pub data Shape : Type 0 where
  Plain : Shape
  Operation : Shape
  Conditional : Shape
  Leaving : Shape

-- Beside those of arguments, parameters and types, parentheses are written in four cases. First, round an operand or a receiver
-- that is an operation, a conditional, or leaves:
abbrev pub operand_encloses : Shape → Bool
operand_encloses Plain = false
operand_encloses Operation = true
operand_encloses Conditional = true
operand_encloses Leaving = true

-- second, round an argument, an element, a key or a value of a hash literal, an inserted expression, or what `return` or `next`
-- gives, that leaves:
abbrev pub argument_encloses : Shape → Bool
argument_encloses Plain = false
argument_encloses Operation = false
argument_encloses Conditional = false
argument_encloses Leaving = true

-- third, round what `return` or `next` gives that is a conditional:
abbrev pub conditional_encloses : Shape → Bool
conditional_encloses Plain = false
conditional_encloses Operation = false
conditional_encloses Conditional = true
conditional_encloses Leaving = false

-- so that what they give is enclosed by the second case or the third;
abbrev pub given_encloses : Shape → Bool
given_encloses shape = argument_encloses shape || conditional_encloses shape

-- fourth, round what follows a unary `-` whose text begins with a digit.
abbrev pub negated_encloses : List Piece → Bool
negated_encloses ps = begins is_digit (text_of ps)

-- ---- what is written of a construct

-- Its pieces at each level: that of the statement which holds it.
pub data Laid : Type 0 where
  Lay : (shape : Shape) (at : ℕ → List Piece) → Laid

abbrev pub shape_of : Laid → Shape
shape_of (Lay shape at) = shape

-- as it is, at a level
abbrev pub bare : ℕ → Laid → List Piece
bare level (Lay shape at) = at level

abbrev pub operand : ℕ → Laid → List Piece
operand level x = enclosed (operand_encloses (shape_of x)) (bare level x)

abbrev pub argument : ℕ → Laid → List Piece
argument level x = enclosed (argument_encloses (shape_of x)) (bare level x)

abbrev pub given : ℕ → Laid → List Piece
given level x = enclosed (given_encloses (shape_of x)) (bare level x)

abbrev pub negated : List Piece → List Piece
negated ps = enclosed (negated_encloses ps) ps

-- ---- lines

-- a new line of a level
abbrev pub line : ℕ → List Piece
line level = word l.Newline ∷ Blank (2 * level) ∷ []

-- constructs of a level, each on a line of its own
abbrev pub lines : ℕ → List Laid → List Piece
lines level [] = []
lines level (x ∷ xs) = line level ++ (bare level x ++ lines level xs)

-- the line that ends a construct
abbrev pub end_line : ℕ → List Piece
end_line level = line level ++ word l.KeywordEnd ∷ []

-- the statements or members of a construct, one level below it, and its end
abbrev pub body : ℕ → List Laid → List Piece
body level list = lines (suc level) list ++ end_line level

-- an empty `else` is kept
abbrev pub else_lines : ℕ → Option (List Laid) → List Piece
else_lines level None = []
else_lines level (Some list) = line level ++ word l.Else ∷ lines (suc level) list

-- the items of a program, each with the end of its line
abbrev pub items : List Laid → List Piece
items [] = []
items (x ∷ xs) = bare 0 x ++ word l.Newline ∷ items xs

-- ---- lists

abbrev pub more_joined : List Piece → List (List Piece) → List Piece
more_joined between [] = []
more_joined between (ps ∷ more) = between ++ (ps ++ more_joined between more)

-- with the same pieces between any two
abbrev pub joined : List Piece → List (List Piece) → List Piece
joined between [] = []
joined between (ps ∷ more) = ps ++ more_joined between more

abbrev pub comma : List Piece
comma = word l.Comma ∷ space ∷ []

abbrev pub bar : List Piece
bar = space ∷ word l.Pipe ∷ space ∷ []

abbrev pub listed : List (List Piece) → List Piece
listed = joined comma

-- a list in parentheses; an empty one is left out
abbrev pub in_parentheses : List (List Piece) → List Piece
in_parentheses [] = []
in_parentheses (ps ∷ more) = parenthesized (listed (ps ∷ more))

abbrev pub arguments : ℕ → List Laid → List Piece
arguments level list = in_parentheses (map (argument level) list)

-- ---- parts that may be missing

abbrev pub receiver : ℕ → Option Laid → List Piece
receiver level None = []
receiver level (Some x) = operand level x ++ word l.Dot ∷ []

abbrev pub block : ℕ → Option Laid → List Piece
block level None = []
block level (Some x) = space ∷ bare level x

abbrev pub question_mark : Bool → List Piece
question_mark true = word l.Question ∷ []
question_mark false = []

-- `: T`
abbrev pub restriction : ℕ → Option Laid → List Piece
restriction level None = []
restriction level (Some x) = space ∷ word l.Colon ∷ space ∷ bare level x

-- `of T` behind a literal
abbrev pub of_type : ℕ → Option Laid → List Piece
of_type level None = []
of_type level (Some x) = space ∷ word l.Of ∷ space ∷ bare level x

-- what `return` or `next` gives
abbrev pub gift : ℕ → Option Laid → List Piece
gift level None = []
gift level (Some x) = space ∷ given level x

abbrev pub superclass_of : Option (List ℕ) → List Piece
superclass_of None = []
superclass_of (Some name) = space ∷ word l.Less ∷ space ∷ Put (k.Constant name) ∷ []

-- `x = ` in front of what is received
abbrev pub received_as : ℕ → Option Laid → List Piece
received_as level None = []
received_as level (Some x) = bare level x ++ space ∷ word l.Equal ∷ space ∷ []

-- the names of a block, between `|`
abbrev pub block_parameters : ℕ → List Laid → List Piece
block_parameters level [] = []
block_parameters level (x ∷ xs) = space ∷ word l.Pipe ∷ (listed (map (bare level) (x ∷ xs)) ++ word l.Pipe ∷ [])

-- ---- words and names

abbrev pub binary_look : Binary → TokenLook
binary_look binary.Or = l.OrOr
binary_look binary.And = l.AndAnd
binary_look binary.Equal = l.EqualEqual
binary_look binary.NotEqual = l.NotEqual
binary_look binary.Less = l.Less
binary_look binary.LessEqual = l.LessEqual
binary_look binary.Greater = l.Greater
binary_look binary.GreaterEqual = l.GreaterEqual
binary_look binary.ShiftLeft = l.ShiftLeft
binary_look binary.Plus = l.Plus
binary_look binary.Minus = l.Minus
binary_look binary.WrappingPlus = l.WrappingPlus
binary_look binary.WrappingMinus = l.WrappingMinus
binary_look binary.Star = l.Star
binary_look binary.SlashSlash = l.SlashSlash
binary_look binary.Percent = l.Percent
binary_look binary.WrappingStar = l.WrappingStar

abbrev pub assignment_look : Assignment → TokenLook
assignment_look assignment.Plain = l.Equal
assignment_look assignment.Plus = l.PlusEqual
assignment_look assignment.Minus = l.MinusEqual
assignment_look assignment.Star = l.StarEqual
assignment_look assignment.SlashSlash = l.SlashSlashEqual
assignment_look assignment.Percent = l.PercentEqual
assignment_look assignment.Or = l.OrOrEqual

abbrev pub if_look : Bool → TokenLook
if_look unless = if unless then l.Unless else l.If

abbrev pub while_look : Bool → TokenLook
while_look until = if until then l.Until else l.While

abbrev pub accessor_look : Bool → TokenLook
accessor_look property = if property then l.Property else l.Getter

abbrev pub parameter_kind : Bool → List ℕ → TokenKind
parameter_kind instance name = if instance then k.InstanceVariable name else k.Ident name

-- the operators that a method may be named after
abbrev pub operator_looks : List TokenLook
operator_looks =
    l.Plus ∷ l.Minus ∷ l.Star ∷ l.SlashSlash ∷ l.Percent ∷ l.EqualEqual ∷ l.Less ∷ l.LessEqual ∷ l.Greater ∷ l.GreaterEqual ∷ l.ShiftLeft ∷ []

-- whether the last byte is a `=`
abbrev pub is_setter : List ℕ → Bool
is_setter [] = false
is_setter (b ∷ []) = b == 61
is_setter (b ∷ c ∷ bs) = is_setter (c ∷ bs)

-- an operator that is written so, else a name, which may have a `=` behind it
abbrev pub name_among : List TokenLook → List ℕ → List Piece
name_among [] text = if is_setter text then Put (k.Ident (take (length text - 1) text)) ∷ word l.Equal ∷ [] else Put (k.Ident text) ∷ []
name_among (look ∷ looks) text = if bytes_eq (spelling look) text then word look ∷ [] else name_among looks text

-- the name in a `def`
abbrev pub method_name : List ℕ → List Piece
method_name text =
    if bytes_eq text o.index_name then word l.OpenBracket ∷ word l.CloseBracket ∷ []
    else (if bytes_eq text o.index_set_name then word l.OpenBracket ∷ word l.CloseBracket ∷ word l.Equal ∷ []
    else (if bytes_eq text o.index_question_name then word l.OpenBracket ∷ word l.CloseBracket ∷ word l.Question ∷ []
    else name_among operator_looks text))

-- ---- texts with insertions

-- what stands behind the first part: one part more than there are insertions
abbrev pub more_parts : ℕ → List (List ℕ) → List Laid → List Piece
more_parts level parts [] = []
more_parts level [] (x ∷ xs) = []
more_parts level (part ∷ []) (x ∷ xs) = argument level x ++ Put (k.TextLast part) ∷ []
more_parts level (part ∷ next ∷ parts) (x ∷ xs) = argument level x ++ Put (k.TextMiddle part) ∷ more_parts level (next ∷ parts) xs

abbrev pub text_parts : ℕ → List (List ℕ) → List Laid → List Piece
text_parts level [] xs = []
text_parts level (part ∷ parts) xs = Put (k.TextFirst part) ∷ more_parts level parts xs

-- ---- constructs

abbrev pub unary : Unary → List Piece → List Piece
unary prefix.Not ps = word l.Bang ∷ ps
unary prefix.Negate ps = word l.Minus ∷ negated ps

-- lists and parts of constructs
abbrev pub part_at : Tree-F Laid → ℕ → List Piece
part_at (Tree-F.Statements list) level = items list
part_at (Tree-F.Union atoms) level = joined bar (map (bare level) atoms)
part_at (Tree-F.Block parameters list) level = word l.Do ∷ (block_parameters level parameters ++ body level list)
part_at (Tree-F.Pair key value) level = argument level key ++ space ∷ word l.Arrow ∷ space ∷ argument level value
part_at (Tree-F.Branch at condition list) level = word l.Elsif ∷ space ∷ (bare level condition ++ lines (suc level) list)
part_at (Tree-F.In at types list) level = word l.In ∷ space ∷ (listed (map (bare level) types) ++ lines (suc level) list)
part_at (Tree-F.When at target operation list) level = word l.When ∷ space ∷ (received_as level target ++ (bare level operation ++ lines (suc level) list))
part_at (Tree-F.Atom at path parameters) level = joined (word l.ColonColon ∷ []) (map (λ name. Put (k.Constant name) ∷ []) path) ++ in_parentheses (map (bare level) parameters)
part_at (Tree-F.Parameter at instance name of) level = Put (parameter_kind instance name) ∷ restriction level of
part_at (Tree-F.Accessor at name of) level = Put (k.Ident name) ∷ restriction level of
part_at other level = []

-- literals, names and what is called
abbrev pub value_at : Tree-F Laid → ℕ → List Piece
value_at (Tree-F.Int32 at value) level = Put (k.Int32 value) ∷ []
value_at (Tree-F.Int64 at value) level = Put (k.Int64 value) ∷ []
value_at (Tree-F.Text at text) level = Put (k.Text text) ∷ []
value_at (Tree-F.Insertions at parts inserted) level = text_parts level parts inserted
value_at (Tree-F.Nil at) level = word l.Nil ∷ []
value_at (Tree-F.True at) level = word l.True ∷ []
value_at (Tree-F.False at) level = word l.False ∷ []
value_at (Tree-F.KeywordSelf at) level = word l.KeywordSelf ∷ []
value_at (Tree-F.InstanceVariable at name) level = Put (k.InstanceVariable name) ∷ []
value_at (Tree-F.Array at elements element) level = word l.OpenBracket ∷ (listed (map (argument level) elements) ++ word l.CloseBracket ∷ of_type level element)
value_at (Tree-F.Hash at entries entry) level = word l.OpenBrace ∷ (listed (map (bare level) entries) ++ word l.CloseBrace ∷ of_type level entry)
value_at (Tree-F.Call at context name list inner) level = receiver level context ++ Put (k.Ident name) ∷ (arguments level list ++ block level inner)
value_at (Tree-F.Index at value list question) level = operand level value ++ word l.OpenBracket ∷ (listed (map (argument level) list) ++ word l.CloseBracket ∷ question_mark question)
value_at (Tree-F.IsNil at value) level = operand level value ++ word l.Dot ∷ word l.IsNil ∷ []
value_at (Tree-F.IsA at value of) level = operand level value ++ word l.Dot ∷ word l.IsA ∷ parenthesized (bare level of)
value_at (Tree-F.New at class question list inner) level = bare level class ++ (question_mark question ++ word l.Dot ∷ Put (k.Ident o.new_name) ∷ (arguments level list ++ block level inner))
value_at (Tree-F.Pause at) level = Put (k.Constant o.fiber_name) ∷ word l.Dot ∷ word l.Yield ∷ []
value_at (Tree-F.Yield at list) level = word l.Yield ∷ arguments level list
value_at (Tree-F.Super at list) level = word l.Super ∷ parenthesized (listed (map (argument level) list))
value_at (Tree-F.BareSuper at) level = word l.Super ∷ []
value_at (Tree-F.Spawn at context list) level = receiver level context ++ word l.Spawn ∷ space ∷ word l.Do ∷ body level list
value_at other level = part_at other level

-- declarations
abbrev pub item_at : Tree-F Laid → ℕ → List Piece
item_at (Tree-F.Class at name parameters superclass members) level =
    word l.Class ∷ space ∷ Put (k.Constant name) ∷ (in_parentheses (map (λ parameter. Put (k.Constant parameter) ∷ []) parameters) ++ (superclass_of superclass ++ body level members))
item_at (Tree-F.Module at name members) level = word l.Module ∷ space ∷ Put (k.Constant name) ∷ body level members
item_at (Tree-F.Include at name) level = word l.Include ∷ space ∷ Put (k.Constant name) ∷ []
item_at (Tree-F.Declaration at name of) level = Put (k.InstanceVariable name) ∷ space ∷ word l.Colon ∷ space ∷ bare level of
item_at (Tree-F.Accessors at property accessors) level = word (accessor_look property) ∷ space ∷ listed (map (bare level) accessors)
item_at (Tree-F.Def at name parameters result list) level =
    word l.Def ∷ space ∷ (method_name name ++ (in_parentheses (map (bare level) parameters) ++ (restriction level result ++ body level list)))
item_at other level = value_at other level

abbrev pub laid_level : Tree-F Laid → Laid
laid_level (Tree-F.Binary at operator left right) = Lay Operation (λ level.
    operand level left ++ space ∷ word (binary_look operator) ∷ space ∷ operand level right)
laid_level (Tree-F.Unary at operator x) = Lay Operation (λ level. unary operator (operand level x))
laid_level (Tree-F.While at until condition list) = Lay Operation (λ level. word (while_look until) ∷ space ∷ (bare level condition ++ body level list))
laid_level (Tree-F.Case at value clauses) = Lay Operation (λ level. word l.Case ∷ space ∷ (bare level value ++ (lines level clauses ++ end_line level)))
laid_level (Tree-F.Select at clauses otherwise) = Lay Operation (λ level. word l.Select ∷ (lines level clauses ++ (else_lines level otherwise ++ end_line level)))
laid_level (Tree-F.If at unless condition list others otherwise) = Lay Conditional (λ level.
    word (if_look unless) ∷ space ∷ (bare level condition ++ (lines (suc level) list ++ (lines level others ++ (else_lines level otherwise ++ end_line level)))))
laid_level (Tree-F.Assign at target operator operator_at value) = Lay Leaving (λ level.
    bare level target ++ space ∷ word (assignment_look operator) ∷ space ∷ bare level value)
laid_level (Tree-F.Return at value) = Lay Leaving (λ level. word l.Return ∷ gift level value)
laid_level (Tree-F.Next at value) = Lay Leaving (λ level. word l.Next ∷ gift level value)
laid_level (Tree-F.Break at) = Lay Leaving (λ level. word l.Break ∷ [])
laid_level other = Lay Plain (item_at other)

abbrev pub laid : Tree → Laid
laid = fold-Tree Laid laid_level

-- the text of a program
abbrev pub layout : Tree → List ℕ
layout x = text_of (bare 0 (laid x))
