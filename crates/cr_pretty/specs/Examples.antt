-- Trees and their text.
use Rattle.std.specs.Prelude.{◌≡◌, ℕ, pos, neg_ℤ, Bool, true, false, List, [], ◌∷◌, codes, Option, Some, None}
use Rattle.cr_grammar.specs.declared.operator.Binary.TheVariants as binary
use Rattle.cr_grammar.specs.declared.operator.Unary.TheVariants as prefix
use Rattle.cr_grammar.specs.declared.operator.Assignment.TheVariants as assignment
use Rattle.cr_grammar.specs.declared.tree.Tree.{Tree}
use Rattle.cr_grammar.specs.declared.tree.Tree.TheVariants as tree
use Rattle.cr_pretty.specs.Layout.{layout}

-- a program of one statement
abbrev pub program : Tree → Tree
program x = tree.Statements (x ∷ [])

-- a name alone
abbrev pub name : List ℕ → Tree
name text = tree.Call 0 None text [] None

abbrev pub call : List ℕ → List Tree → Tree
call text list = tree.Call 0 None text list None

abbrev pub number : ℕ → Tree
number n = tree.Int32 0 (pos n)

-- a class as a type
abbrev pub atom : List ℕ → Tree
atom text = tree.Atom 0 (text ∷ []) []

abbrev pub parameter : Bool → List ℕ → Option Tree → Tree
parameter instance text of = tree.Parameter 0 instance text of

abbrev pub assign : Tree → Tree → Tree
assign target value = tree.Assign 0 target assignment.Plain 0 value

abbrev pub if_so : Tree → List Tree → Tree
if_so condition list = tree.If 0 false condition list [] None

-- ---- parentheses

-- an operation that is an operand, also where it needs none
abbrev pub OperandEnclosed : Type 0
OperandEnclosed = layout (program (tree.Binary 0 binary.Plus (tree.Binary 0 binary.Star (name (codes "a")) (name (codes "b"))) (name (codes "c")))) ≡ codes "(a * b) + c\n"

abbrev pub ReceiverEnclosed : Type 0
ReceiverEnclosed = layout (program (tree.IsNil 0 (assign (name (codes "a")) (number 1)))) ≡ codes "(a = 1).nil?\n"

abbrev pub ArgumentEnclosed : Type 0
ArgumentEnclosed = layout (program (call (codes "f") (assign (name (codes "x")) (number 1) ∷ tree.Unary 0 prefix.Not (name (codes "y")) ∷ []))) ≡ codes "f((x = 1), !y)\n"

abbrev pub GivenEnclosed : Type 0
GivenEnclosed = layout (program (tree.Return 0 (Some (if_so (name (codes "c")) (number 1 ∷ []))))) ≡ codes "return (if c\n  1\nend)\n"

-- a loop that is given stands as it is
abbrev pub LoopGiven : Type 0
LoopGiven = layout (program (tree.Next 0 (Some (tree.While 0 true (name (codes "c")) [])))) ≡ codes "next until c\nend\n"

abbrev pub DigitEnclosed : Type 0
DigitEnclosed = layout (program (tree.Unary 0 prefix.Negate (tree.Call 0 (Some (number 1)) (codes "abs") [] None))) ≡ codes "-(1.abs)\n"

-- a number with a sign is no operation
abbrev pub SignStands : Type 0
SignStands = layout (program (tree.Unary 0 prefix.Negate (tree.Int32 0 (neg_ℤ (pos 1))))) ≡ codes "--1\n"

abbrev pub TwiceNot : Type 0
TwiceNot = layout (program (tree.Unary 0 prefix.Not (tree.Unary 0 prefix.Not (name (codes "a"))))) ≡ codes "!(!a)\n"

-- ---- lines

abbrev pub EmptyProgram : Type 0
EmptyProgram = layout (tree.Statements []) ≡ []

abbrev pub EmptyElseKept : Type 0
EmptyElseKept = layout (program (tree.If 0 true (name (codes "a")) (name (codes "b") ∷ []) [] (Some []))) ≡ codes "unless a\n  b\nelse\nend\n"

abbrev pub ElsifAtItsHead : Type 0
ElsifAtItsHead =
    layout (program (tree.If 0 false (name (codes "a")) (number 1 ∷ []) (tree.Branch 0 (name (codes "b")) (number 2 ∷ []) ∷ []) None)) ≡ codes "if a\n  1\nelsif b\n  2\nend\n"

-- the `if` within an assignment, in a loop
abbrev pub BelowTheStatement : Type 0
BelowTheStatement =
    layout (program (tree.While 0 false (name (codes "a")) (assign (name (codes "x")) (if_so (name (codes "c")) (number 1 ∷ [])) ∷ []))) ≡ codes "while a\n  x = if c\n    1\n  end\nend\n"

abbrev pub BlockWritten : Type 0
BlockWritten =
    layout (program (tree.Call 0 (Some (name (codes "a"))) (codes "each") (number 2 ∷ []) (Some (tree.Block (parameter false (codes "b") None ∷ parameter false (codes "c") None ∷ []) (name (codes "b") ∷ [])))))
    ≡ codes "a.each(2) do |b, c|\n  b\nend\n"

abbrev pub CaseWritten : Type 0
CaseWritten =
    layout (program (tree.Case 0 (name (codes "a")) (tree.In 0 (atom (codes "A") ∷ tree.Atom 0 (codes "B" ∷ codes "C" ∷ []) [] ∷ []) (number 1 ∷ []) ∷ []))) ≡ codes "case a\nin A, B::C\n  1\nend\n"

abbrev pub SelectWritten : Type 0
SelectWritten =
    layout (program (tree.Select 0 (tree.When 0 (Some (name (codes "x"))) (tree.Call 0 (Some (name (codes "c"))) (codes "receive") [] None) [] ∷ []) (Some (number 1 ∷ []))))
    ≡ codes "select\nwhen x = c.receive\nelse\n  1\nend\n"

-- ---- literals and calls

abbrev pub TextsWritten : Type 0
TextsWritten =
    layout (program (call (codes "f") (tree.Text 0 (codes "\"\n#{#") ∷ tree.Insertions 0 (codes "a" ∷ codes "b" ∷ []) (assign (name (codes "x")) (number 1) ∷ []) ∷ [])))
    ≡ codes "f(\"\\\"\\n\\#{#\", \"a#{(x = 1)}b\")\n"

abbrev pub HashWritten : Type 0
HashWritten =
    layout (program (call (codes "f") (tree.Hash 0 (tree.Pair (number 1) (tree.Int64 0 (pos 2)) ∷ []) None ∷ tree.Hash 0 [] (Some (tree.Pair (atom (codes "A")) (tree.Union (atom (codes "B") ∷ atom (codes "Nil") ∷ [])))) ∷ [])))
    ≡ codes "f({1 => 2_i64}, {} of A => B | Nil)\n"

abbrev pub NewWritten : Type 0
NewWritten = layout (program (tree.New 0 (tree.Atom 0 (codes "A" ∷ []) (atom (codes "B") ∷ [])) true (number 1 ∷ []) None)) ≡ codes "A(B)?.new(1)\n"

-- `super()` keeps its parentheses, and `yield` has none
abbrev pub EmptyArguments : Type 0
EmptyArguments = layout (program (tree.Array 0 (tree.Super 0 [] ∷ tree.BareSuper 0 ∷ tree.Yield 0 [] ∷ []) None)) ≡ codes "[super(), super, yield]\n"

-- ---- declarations

abbrev pub ClassWritten : Type 0
ClassWritten =
    layout (program (tree.Class 0 (codes "A") (codes "T" ∷ []) (Some (codes "B")) (
    tree.Declaration 0 (codes "x") (tree.Union (atom (codes "T") ∷ atom (codes "Nil") ∷ []))
    ∷ tree.Accessors 0 true (tree.Accessor 0 (codes "a") None ∷ tree.Accessor 0 (codes "b") (Some (atom (codes "T"))) ∷ [])
    ∷ tree.Def 0 (codes "x=") (parameter false (codes "v") (Some (atom (codes "T"))) ∷ []) (Some (atom (codes "T"))) (assign (tree.InstanceVariable 0 (codes "x")) (name (codes "v")) ∷ [])
    ∷ tree.Def 0 (codes "[]?") [] None [] ∷ []
    )))
    ≡ codes "class A(T) < B\n  @x : T | Nil\n  property a, b : T\n  def x=(v : T) : T\n    @x = v\n  end\n  def []?\n  end\nend\n"
