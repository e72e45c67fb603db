-- Lists of tokens, and the trees that they spell.
use Rattle.std.specs.Prelude.{◌≡◌, ℕ, pos, neg_ℤ, true, false, List, [], ◌∷◌, codes, Some, None}
use Rattle.cr_syntax.specs.declared.token.Token.{Token}
use Rattle.cr_syntax.specs.declared.token.TokenKind.{TokenKind}
use Rattle.cr_syntax.specs.declared.look.TokenLook.TheVariants as l
use Rattle.cr_syntax.specs.declared.token.TokenKind.TheVariants as k
use Rattle.cr_grammar.specs.declared.operator.Binary.TheVariants as binary
use Rattle.cr_grammar.specs.declared.operator.Unary.TheVariants as prefix
use Rattle.cr_grammar.specs.declared.operator.Assignment.TheVariants as assignment
use Rattle.cr_grammar.specs.declared.tree.Tree.{Tree}
use Rattle.cr_grammar.specs.declared.tree.Tree.TheVariants as tree
use Rattle.cr_grammar.specs.Count.{nodes, nesting}
use Rattle.cr_grammar.specs.declared.wanted.Wanted.TheVariants.{Written, Stmt, Program}
use Rattle.cr_grammar.specs.Wanted.{top, in_method}
use Rattle.cr_grammar.specs.Grammar.{Spells}

-- a token behind a separator
abbrev pub spaced_at : ℕ → ℕ → TokenKind → Token
spaced_at first past kind = record { kind = kind; span = record { first = first; past = past }; spaced = true }

-- a token directly behind another
abbrev pub tight_at : ℕ → ℕ → TokenKind → Token
tight_at first past kind = record { kind = kind; span = record { first = first; past = past }; spaced = false }

-- a name alone
abbrev pub name : ℕ → List ℕ → Tree
name at text = tree.Call at None text [] None

-- `puts -1 + 2*3` passes the whole sum, in which `*` binds tighter.
abbrev pub puts_sum : List Token
puts_sum =
    spaced_at 0 4 (k.Ident (codes "puts"))
    ∷ spaced_at 5 7 (k.Int32 (neg_ℤ (pos 1)))
    ∷ spaced_at 8 9 (k.Plain l.Plus)
    ∷ spaced_at 10 11 (k.Int32 (pos 2))
    ∷ tight_at 11 12 (k.Plain l.Star)
    ∷ tight_at 12 13 (k.Int32 (pos 3))
    ∷ []

abbrev pub puts_sum_tree : Tree
puts_sum_tree =
    tree.Call 0 None (codes "puts")
    (tree.Binary 8 binary.Plus (tree.Int32 5 (neg_ℤ (pos 1))) (tree.Binary 11 binary.Star (tree.Int32 10 (pos 2)) (tree.Int32 12 (pos 3))) ∷ []) None

abbrev pub PutsSum : Type 0
PutsSum = Spells (Stmt top) puts_sum puts_sum_tree

abbrev pub PutsSumCounts : Type 0
PutsSumCounts = (nodes puts_sum_tree ≡ 6) × (nesting puts_sum_tree ≡ 4)

-- `1 - 2 - 3` groups to the left.
abbrev pub GroupsLeft : Type 0
GroupsLeft = Spells (Stmt top)
    (spaced_at 0 1 (k.Int32 (pos 1)) ∷ spaced_at 2 3 (k.Plain l.Minus) ∷ spaced_at 4 5 (k.Int32 (pos 2)) ∷ spaced_at 6 7 (k.Plain l.Minus) ∷ spaced_at 8 9 (k.Int32 (pos 3)) ∷ [])
    (tree.Binary 6 binary.Minus (tree.Binary 2 binary.Minus (tree.Int32 0 (pos 1)) (tree.Int32 4 (pos 2))) (tree.Int32 8 (pos 3)))

-- `x -y` passes `-y`.
abbrev pub SignBehindName : Type 0
SignBehindName = Spells (Stmt top)
    (spaced_at 0 1 (k.Ident (codes "x")) ∷ spaced_at 2 3 (k.Plain l.Minus) ∷ tight_at 3 4 (k.Ident (codes "y")) ∷ [])
    (tree.Call 0 None (codes "x") (tree.Unary 2 prefix.Negate (name 3 (codes "y")) ∷ []) None)

-- `x -1`, in which the `-` belongs to the number, passes it too.
abbrev pub NumberBehindName : Type 0
NumberBehindName = Spells (Stmt top)
    (spaced_at 0 1 (k.Ident (codes "x")) ∷ spaced_at 2 4 (k.Int32 (neg_ℤ (pos 1))) ∷ [])
    (tree.Call 0 None (codes "x") (tree.Int32 2 (neg_ℤ (pos 1)) ∷ []) None)

-- `x - 1` is a difference.
abbrev pub Difference : Type 0
Difference = Spells (Stmt top)
    (spaced_at 0 1 (k.Ident (codes "x")) ∷ spaced_at 2 3 (k.Plain l.Minus) ∷ spaced_at 4 5 (k.Int32 (pos 1)) ∷ [])
    (tree.Binary 2 binary.Minus (name 0 (codes "x")) (tree.Int32 4 (pos 1)))

-- `a.b = 1` assigns a field.
abbrev pub FieldIsAssigned : Type 0
FieldIsAssigned = Spells (Stmt top)
    (spaced_at 0 1 (k.Ident (codes "a")) ∷ tight_at 1 2 (k.Plain l.Dot) ∷ tight_at 2 3 (k.Ident (codes "b")) ∷ spaced_at 4 5 (k.Plain l.Equal) ∷ spaced_at 6 7 (k.Int32 (pos 1)) ∷ [])
    (tree.Assign 0 (tree.Call 2 (Some (name 0 (codes "a"))) (codes "b") [] None) assignment.Plain 4 (tree.Int32 6 (pos 1)))

-- In `foo x do end` the block is that of `foo`.
abbrev pub DoBelongsToCommand : Type 0
DoBelongsToCommand = Spells (Stmt top)
    (spaced_at 0 3 (k.Ident (codes "foo")) ∷ spaced_at 4 5 (k.Ident (codes "x")) ∷ spaced_at 6 8 (k.Plain l.Do) ∷ spaced_at 9 12 (k.Plain l.KeywordEnd) ∷ [])
    (tree.Call 0 None (codes "foo") (name 4 (codes "x") ∷ []) (Some (tree.Block [] [])))

-- In `x = 1 if c` the modifier takes the whole assignment.
abbrev pub ModifierTakesStatement : Type 0
ModifierTakesStatement = Spells (Stmt top)
    (spaced_at 0 1 (k.Ident (codes "x")) ∷ spaced_at 2 3 (k.Plain l.Equal) ∷ spaced_at 4 5 (k.Int32 (pos 1)) ∷ spaced_at 6 8 (k.Plain l.If) ∷ spaced_at 9 10 (k.Ident (codes "c")) ∷ [])
    (tree.If 0 false (name 9 (codes "c")) (tree.Assign 0 (name 0 (codes "x")) assignment.Plain 2 (tree.Int32 4 (pos 1)) ∷ []) [] None)

-- `(a)` is `a`.
abbrev pub ParenthesesLeaveNoTrace : Type 0
ParenthesesLeaveNoTrace = Spells (Stmt top)
    (spaced_at 0 1 (k.Plain l.OpenParenthesis) ∷ tight_at 1 2 (k.Ident (codes "a")) ∷ tight_at 2 3 (k.Plain l.CloseParenthesis) ∷ [])
    (name 1 (codes "a"))

-- `foo()` is `foo`.
abbrev pub EmptyArgumentsLeaveNoTrace : Type 0
EmptyArgumentsLeaveNoTrace = Spells (Stmt top)
    (spaced_at 0 3 (k.Ident (codes "foo")) ∷ tight_at 3 4 (k.Plain l.OpenParenthesis) ∷ tight_at 4 5 (k.Plain l.CloseParenthesis) ∷ [])
    (name 0 (codes "foo"))

-- `{ 1 => 2 }` is a hash literal.
abbrev pub HashLiteral : Type 0
HashLiteral = Spells (Stmt top)
    (spaced_at 0 1 (k.Plain l.OpenBrace) ∷ spaced_at 2 3 (k.Int32 (pos 1)) ∷ spaced_at 4 6 (k.Plain l.Arrow) ∷ spaced_at 7 8 (k.Int32 (pos 2)) ∷ spaced_at 9 10 (k.Plain l.CloseBrace) ∷ [])
    (tree.Hash 0 (tree.Pair (tree.Int32 2 (pos 1)) (tree.Int32 7 (pos 2)) ∷ []) None)

-- Behind a name, as in `foo { 1 }`, braces are a block.
abbrev pub BlockBehindName : Type 0
BlockBehindName = Spells (Stmt top)
    (spaced_at 0 3 (k.Ident (codes "foo")) ∷ spaced_at 4 5 (k.Plain l.OpenBrace) ∷ spaced_at 6 7 (k.Int32 (pos 1)) ∷ spaced_at 8 9 (k.Plain l.CloseBrace) ∷ [])
    (tree.Call 0 None (codes "foo") [] (Some (tree.Block [] (tree.Int32 6 (pos 1) ∷ []))))

-- The type `T?` is `T | Nil`.
abbrev pub QuestionIsNil : Type 0
QuestionIsNil = Spells (Written true)
    (spaced_at 0 1 (k.Constant (codes "T")) ∷ tight_at 1 2 (k.Plain l.Question) ∷ [])
    (tree.Union (tree.Atom 0 (codes "T" ∷ []) [] ∷ tree.Atom 1 (codes "Nil" ∷ []) [] ∷ []))

-- A line of its own ends a program.
abbrev pub OneLine : Type 0
OneLine = Spells Program
    (spaced_at 0 1 (k.Ident (codes "x")) ∷ tight_at 1 2 (k.Plain l.Newline) ∷ spaced_at 2 2 (k.Plain l.End) ∷ [])
    (tree.Statements (name 0 (codes "x") ∷ []))

-- A class with `def x=(v)`, whose body is `@x = v`, each on a line of its own.
abbrev pub SetterInClass : Type 0
SetterInClass = Spells Program
    (spaced_at 0 5 (k.Plain l.Class)
    ∷ spaced_at 6 7 (k.Constant (codes "A"))
    ∷ tight_at 7 8 (k.Plain l.Newline)
    ∷ spaced_at 10 13 (k.Plain l.Def)
    ∷ spaced_at 14 15 (k.Ident (codes "x"))
    ∷ tight_at 15 16 (k.Plain l.Equal)
    ∷ tight_at 16 17 (k.Plain l.OpenParenthesis)
    ∷ tight_at 17 18 (k.Ident (codes "v"))
    ∷ tight_at 18 19 (k.Plain l.CloseParenthesis)
    ∷ tight_at 19 20 (k.Plain l.Newline)
    ∷ spaced_at 24 26 (k.InstanceVariable (codes "x"))
    ∷ spaced_at 27 28 (k.Plain l.Equal)
    ∷ spaced_at 29 30 (k.Ident (codes "v"))
    ∷ tight_at 30 31 (k.Plain l.Newline)
    ∷ spaced_at 33 36 (k.Plain l.KeywordEnd)
    ∷ tight_at 36 37 (k.Plain l.Newline)
    ∷ spaced_at 37 40 (k.Plain l.KeywordEnd)
    ∷ tight_at 40 40 (k.Plain l.End)
    ∷ [])
    (tree.Statements
    (tree.Class 0 (codes "A") [] None
    (tree.Def 10 (codes "x=") (tree.Parameter 17 false (codes "v") None ∷ []) None
    (tree.Assign 24 (tree.InstanceVariable 24 (codes "x")) assignment.Plain 27 (name 29 (codes "v")) ∷ [])
    ∷ [])
    ∷ []))

-- `select`, `when x = c.receive` and `end`, each on a line of its own.
abbrev pub SelectReceives : Type 0
SelectReceives = Spells (Stmt top)
    (spaced_at 0 6 (k.Plain l.Select)
    ∷ tight_at 6 7 (k.Plain l.Newline)
    ∷ spaced_at 7 11 (k.Plain l.When)
    ∷ spaced_at 12 13 (k.Ident (codes "x"))
    ∷ spaced_at 14 15 (k.Plain l.Equal)
    ∷ spaced_at 16 17 (k.Ident (codes "c"))
    ∷ tight_at 17 18 (k.Plain l.Dot)
    ∷ tight_at 18 25 (k.Ident (codes "receive"))
    ∷ tight_at 25 26 (k.Plain l.Newline)
    ∷ spaced_at 26 29 (k.Plain l.KeywordEnd)
    ∷ [])
    (tree.Select 0
    (tree.When 7 (Some (name 12 (codes "x"))) (tree.Call 18 (Some (name 16 (codes "c"))) (codes "receive") [] None) [] ∷ []) None)

-- `"a#{b}c"` has two parts and an insertion.
abbrev pub TextWithInsertion : Type 0
TextWithInsertion = Spells (Stmt top)
    (spaced_at 0 4 (k.TextFirst (codes "a")) ∷ tight_at 4 5 (k.Ident (codes "b")) ∷ tight_at 5 8 (k.TextLast (codes "c")) ∷ [])
    (tree.Insertions 0 (codes "a" ∷ codes "c" ∷ []) (name 4 (codes "b") ∷ []))

-- In a method, `return if x` leaves where `x` holds.
abbrev pub ReturnBeforeModifier : Type 0
ReturnBeforeModifier = Spells (Stmt (in_method false (codes "f")))
    (spaced_at 0 6 (k.Plain l.Return) ∷ spaced_at 7 9 (k.Plain l.If) ∷ spaced_at 10 11 (k.Ident (codes "x")) ∷ [])
    (tree.If 0 false (name 10 (codes "x")) (tree.Return 0 None ∷ []) [] None)

-- `if c then 1 else 2 end`
abbrev pub BothBranches : Type 0
BothBranches = Spells (Stmt top)
    (spaced_at 0 2 (k.Plain l.If)
    ∷ spaced_at 3 4 (k.Ident (codes "c"))
    ∷ spaced_at 5 9 (k.Plain l.Then)
    ∷ spaced_at 10 11 (k.Int32 (pos 1))
    ∷ spaced_at 12 16 (k.Plain l.Else)
    ∷ spaced_at 17 18 (k.Int32 (pos 2))
    ∷ spaced_at 19 22 (k.Plain l.KeywordEnd)
    ∷ [])
    (tree.If 0 false (name 3 (codes "c")) (tree.Int32 10 (pos 1) ∷ []) [] (Some (tree.Int32 17 (pos 2) ∷ [])))

-- what is no statement of the top level
abbrev pub IsNoStatement : List Token → Type 0
IsNoStatement w = (x : Tree) → Spells (Stmt top) w x → ⊥

-- Outside a loop `break` is no statement, outside a method `yield` and `return` are none, outside a class `self` is none,
-- and no tokens are none.
abbrev pub WordsOutOfPlace : Type 0
WordsOutOfPlace =
    IsNoStatement (spaced_at 0 5 (k.Plain l.Break) ∷ [])
    × IsNoStatement (spaced_at 0 5 (k.Plain l.Yield) ∷ [])
    × IsNoStatement (spaced_at 0 6 (k.Plain l.Return) ∷ [])
    × IsNoStatement (spaced_at 0 4 (k.Plain l.KeywordSelf) ∷ [])
    × IsNoStatement []
