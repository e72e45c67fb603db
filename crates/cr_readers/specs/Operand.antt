-- A postfix as it is read, apart by what it may become: a name or a link alone may be assigned, or take arguments without
-- parentheses, and `c.send(v)` may be an operation of `select`.
use Rattle.std.specs.Prelude.{ℕ, true, false, List, [], ◌∷◌, Option, Some, None}
use Rattle.cr_grammar.specs.declared.tree.Tree.{Tree}
use Rattle.cr_grammar.specs.declared.tree.Tree.TheVariants as tree
use Rattle.cr_grammar.specs.declared.word.Word.{Word}
use Rattle.cr_readers.specs.declared.operand.Operand.{Operand}
use Rattle.cr_readers.specs.declared.operand.Operand.TheVariants.{Name, Field, Element, Variable, Yielding, Above, Passing, Whole}

abbrev pub whole : Operand → Tree
whole (Name name) = tree.Call name.at None name.text [] None
whole (Field receiver name) = tree.Call name.at (Some receiver) name.text [] None
whole (Element at receiver arguments) = tree.Index at receiver arguments false
whole (Variable name) = tree.InstanceVariable name.at name.text
whole (Yielding at) = tree.Yield at []
whole (Above at) = tree.BareSuper at
whole (Passing name receiver value) = tree.Call name.at (Some receiver) name.text (value ∷ []) None
whole (Whole x) = x

-- a name with the arguments in parentheses and the block that follow it
abbrev pub named : Word → Option (List Tree) → Option Tree → Operand
named name None None = Name name
named name None (Some block) = Whole (tree.Call name.at None name.text [] (Some block))
named name (Some arguments) block = Whole (tree.Call name.at None name.text arguments block)

-- `.f` behind a receiver, with the arguments in parentheses and the block that follow it
abbrev pub linked : Tree → Word → Option (List Tree) → Option Tree → Operand
linked receiver name None None = Field receiver name
linked receiver name None (Some block) = Whole (tree.Call name.at (Some receiver) name.text [] (Some block))
linked receiver name (Some (value ∷ [])) None = Passing name receiver value
linked receiver name (Some arguments) block = Whole (tree.Call name.at (Some receiver) name.text arguments block)

-- `[a]` behind a receiver, and maybe a `?`
abbrev pub indexed : ℕ → Tree → List Tree → Option ℕ → Operand
indexed at receiver arguments None = Element at receiver arguments
indexed at receiver arguments (Some question) = Whole (tree.Index at receiver arguments true)

-- `yield` and `super`, with the arguments in parentheses that follow them
abbrev pub yielded : ℕ → Option (List Tree) → Operand
yielded at None = Yielding at
yielded at (Some arguments) = Whole (tree.Yield at arguments)

abbrev pub above : ℕ → Option (List Tree) → Operand
above at None = Above at
above at (Some arguments) = Whole (tree.Super at arguments)
