-- What is said of the grammar: the tokens with which a value, a statement and a type begin.
use Rattle.std.specs.Prelude.{◌≡◌, ℕ, Bool, true, false, not, ◌&&◌, ◌||◌, List, [], ◌∷◌, Option, None, IsTrue}
use Rattle.cr_syntax.specs.declared.look.TokenLook.{TokenLook}
use Rattle.cr_syntax.specs.declared.look.TokenLook.TheVariants as l
use Rattle.cr_syntax.specs.declared.token.Token.{Token}
use Rattle.cr_syntax.specs.Look.{look_of}
use Rattle.cr_grammar.specs.declared.tree.Tree.{Tree, out-Tree}
use Rattle.cr_grammar.specs.declared.tree.Tree.TheVariants as tree
use Rattle.cr_grammar.specs.declared.tree.Tree.TheOpen.{Tree-F}
use Rattle.cr_grammar.specs.declared.within.Within.{Within}
use Rattle.cr_grammar.specs.Operators.{begins_value}
use Rattle.cr_grammar.specs.declared.wanted.Wanted.{Wanted}
use Rattle.cr_grammar.specs.declared.wanted.Wanted.TheVariants.{Written, Or, Stmt}
use Rattle.cr_grammar.specs.Wanted.{in_object}
use Rattle.cr_grammar.specs.Expressions.{conditional, inside}
use Rattle.cr_grammar.specs.Grammar.{Spells, Spells_in, bare_arguments}

-- whether there is a first token, and it passes a test
abbrev pub first_is : (TokenLook → Bool) → List Token → Bool
first_is test [] = false
first_is test (t ∷ ts) = test (look_of t.kind)

-- The tokens that begin a value. `yield` and `super` stand in a method, `self` and an instance variable in one of a class
-- or module. Some values begin no argument without parentheses: `-`, `{`, `spawn` and the heads of compound constructs.
abbrev pub begins_or : Within → TokenLook → Bool
begins_or within l.Yield = within.method
begins_or within l.Super = within.method
begins_or within l.KeywordSelf = in_object within
begins_or within l.InstanceVariable = in_object within
begins_or within l.Minus = true
begins_or within l.OpenBrace = true
begins_or within l.Spawn = true
begins_or within l.If = true
begins_or within l.Unless = true
begins_or within l.While = true
begins_or within l.Until = true
begins_or within l.Case = true
begins_or within l.Select = true
begins_or within other = begins_value other

-- A statement begins as a value does, or leaves: `return` a method and no block of it, `next` a loop or a block, `break` a
-- loop.
abbrev pub begins_stmt : Within → TokenLook → Bool
begins_stmt within l.Return = within.method && not within.block
begins_stmt within l.Next = within.in_loop || within.block
begins_stmt within l.Break = within.in_loop
begins_stmt within other = begins_or within other

-- A type begins with the name of a class.
abbrev pub begins_type : TokenLook → Bool
begins_type l.Constant = true
begins_type other = false

abbrev pub Begin : (TokenLook → Bool) → Wanted → Type 0
Begin test wanted = (w : List Token) (x : Tree) → Spells wanted w x → IsTrue (first_is test w)

abbrev pub ValuesBegin : Type 0
ValuesBegin = (within : Within) (free : Bool) → Begin (begins_or within) (Or within free)

abbrev pub StatementsBegin : Type 0
StatementsBegin = (within : Within) → Begin (begins_stmt within) (Stmt within)

abbrev pub TypesBegin : Type 0
TypesBegin = (with_arguments : Bool) → Begin begins_type (Written with_arguments)

-- whether a tree is a call that passes something: arguments or a block
abbrev pub passes_level : Tree-F Tree → Bool
passes_level (Tree-F.Call at receiver name [] None) = false
passes_level (Tree-F.Call at receiver name arguments block) = true
passes_level other = false

abbrev pub passes : Tree → Bool
passes x = passes_level (out-Tree x)

abbrev pub any_passes : List Tree → Bool
any_passes [] = false
any_passes (x ∷ xs) = passes x || any_passes xs

-- what opens arguments or a block; a `do` only where it is free
abbrev pub opens : Bool → TokenLook → Bool
opens free l.OpenBrace = true
opens free l.OpenParenthesis = true
opens free l.Do = free
opens free other = false

abbrev pub none_opens : Bool → List Token → Bool
none_opens free [] = true
none_opens free (t ∷ ts) = not (opens free (look_of t.kind)) && none_opens free ts

-- In the arguments of a command, where neither a brace nor a parenthesis opens, no argument is itself a call that passes
-- something: a `do` is not theirs.
abbrev pub DoIsNotTheirs : Type 0
DoIsNotTheirs = (n : ℕ) (within : Within) (w : List Token) (xs : List Tree)
    → bare_arguments (Spells_in n) within w xs → IsTrue (none_opens false w) → any_passes xs ≡ false

-- Inside parentheses and brackets, where no brace, parenthesis or `do` opens, nothing is itself a call that passes something:
-- there is no command.
abbrev pub NoCommandInside : Type 0
NoCommandInside = (n : ℕ) (within : Within) (free : Bool) (w : List Token) (xs : List Tree)
    → inside (Spells_in n) within free w xs → IsTrue (none_opens true w) → any_passes xs ≡ false

-- An `unless` has no branches of `elsif`.
abbrev pub UnlessHasNoElsif : Type 0
UnlessHasNoElsif = (n : ℕ) (within : Within) (free : Bool) (w : List Token) (at : ℕ) (condition : Tree) (body others : List Tree) (otherwise : Option (List Tree))
    → conditional (Spells_in n) within free w (tree.If at true condition body others otherwise) → others ≡ []
