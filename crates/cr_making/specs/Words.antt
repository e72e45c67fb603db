-- The names of methods that operators and words stand for.
use Rattle.std.specs.Prelude.{ℕ, List, [], ◌∷◌, ◌++◌, codes, Bool, true, false}
use Rattle.std.specs.Str.{bytes_eq}
use Rattle.cr_making.specs.declared.words.Operation.{Operation}
use Rattle.cr_making.specs.declared.words.Operation.TheVariants.{Send, Receive, ReceiveOrNil, NoOperation}
use Rattle.cr_making.specs.declared.words.Word.{Word}
use Rattle.cr_making.specs.declared.words.Word.TheVariants.{Puts, Raise, NoWord}
use Rattle.cr_grammar.specs.declared.operator.Assignment.{Assignment}
use Rattle.cr_grammar.specs.declared.operator.Assignment.TheVariants as a
use Rattle.cr_grammar.specs.declared.operator.Binary.{Binary}
use Rattle.cr_grammar.specs.declared.operator.Binary.TheVariants as b

-- `!=` is the negation of `==`
abbrev pub operator : Binary → List ℕ
operator b.Or = codes "||"
operator b.And = codes "&&"
operator b.Equal = codes "=="
operator b.NotEqual = codes "=="
operator b.Less = codes "<"
operator b.LessEqual = codes "<="
operator b.Greater = codes ">"
operator b.GreaterEqual = codes ">="
operator b.ShiftLeft = codes "<<"
operator b.Plus = codes "+"
operator b.Minus = codes "-"
operator b.WrappingPlus = codes "&+"
operator b.WrappingMinus = codes "&-"
operator b.Star = codes "*"
operator b.SlashSlash = codes "//"
operator b.Percent = codes "%"
operator b.WrappingStar = codes "&*"

-- what a compound assignment calls
abbrev pub assigned_operator : Assignment → List ℕ
assigned_operator a.Plain = []
assigned_operator a.Plus = codes "+"
assigned_operator a.Minus = codes "-"
assigned_operator a.Star = codes "*"
assigned_operator a.SlashSlash = codes "//"
assigned_operator a.Percent = codes "%"
assigned_operator a.Or = codes "||"

abbrev pub index_name : Bool → List ℕ
index_name false = codes "[]"
index_name true = codes "[]?"

-- the method that `r.name = v` calls
abbrev pub setter : List ℕ → List ℕ
setter name = name ++ codes "="

abbrev pub variable : List ℕ → List ℕ
variable name = codes "@" ++ name

-- the path of a class in one name
abbrev pub path_behind : List (List ℕ) → List ℕ
path_behind [] = []
path_behind (name ∷ names) = codes "::" ++ (name ++ path_behind names)

abbrev pub path_name : List (List ℕ) → List ℕ
path_name [] = []
path_name (name ∷ names) = name ++ path_behind names

-- what the language knows by a word
abbrev pub raise_or : Bool → Word
raise_or true = Raise
raise_or false = NoWord

abbrev pub puts_or : Bool → Word → Word
puts_or true other = Puts
puts_or false other = other

abbrev pub word_of : List ℕ → Word
word_of name = puts_or (bytes_eq name (codes "puts")) (raise_or (bytes_eq name (codes "raise")))

-- the operations of a `when`
abbrev pub or_operation : Bool → Operation → Operation → Operation
or_operation true this other = this
or_operation false this other = other

abbrev pub operation_of : List ℕ → Operation
operation_of name =
    or_operation (bytes_eq name (codes "send")) Send
    (or_operation (bytes_eq name (codes "receive")) Receive
    (or_operation (bytes_eq name (codes "receive?")) ReceiveOrNil NoOperation))
