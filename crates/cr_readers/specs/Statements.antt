-- Readers of statements.
use Rattle.std.specs.Prelude.{ℕ, Bool, true, false, not, ◌&&◌, ◌||◌, cond, List, [], ◌∷◌, Option, Some, None, is_some}
use Rattle.cr_syntax.specs.declared.look.TokenLook.{TokenLook}
use Rattle.cr_syntax.specs.declared.look.TokenLook.TheVariants as l
use Rattle.cr_syntax.specs.declared.token.Token.{Token}
use Rattle.cr_syntax.specs.Look.{look_of}
use Rattle.cr_grammar.specs.declared.operator.Assignment.{Assignment}
use Rattle.cr_grammar.specs.declared.tree.Tree.{Tree}
use Rattle.cr_grammar.specs.declared.tree.Tree.TheVariants as tree
use Rattle.cr_grammar.specs.declared.within.Within.{Within}
use Rattle.cr_grammar.specs.Operators as o
use Rattle.cr_grammar.specs.declared.wanted.Wanted.{Wanted}
use Rattle.cr_grammar.specs.declared.wanted.Wanted.TheVariants.{Or, Simple}
use Rattle.cr_readers.specs.Reader.{Reader, Test, ◌>>=◌, ◌>>◌, pure, seen, take, expect, choose, allow, by_look, here, with_last, grow, wrap, part}
use Rattle.cr_readers.specs.Lists.{optional, listed}
use Rattle.cr_readers.specs.declared.operand.Operand.{Operand}
use Rattle.cr_readers.specs.declared.operand.Operand.TheVariants.{Name, Field, Element, Variable, Yielding, Above, Passing, Whole}
use Rattle.cr_readers.specs.Operand.{whole}
use Rattle.cr_readers.specs.Goes.{begins_left}
use Rattle.cr_readers.specs.Bodies.{doblock}
use Rattle.cr_readers.specs.Links.{postfix}
use Rattle.cr_readers.specs.Operations.{or_from, or}

-- a token that assigns, and its place
abbrev pub assigning_of : Token → Option Assignment → Option (ℕ × Assignment)
assigning_of t None = None
assigning_of t (Some found) = Some (t.span.first, found)

abbrev pub is_assigning : (TokenLook → Option Assignment) → Test
is_assigning table found spaced = is_some (table found)

module _ (turns : ℕ) (rec : Wanted → Reader Tree) (within : Within) where
  -- In a statement a `do` is free.
  abbrev free : Bool
  free = true

  -- what follows a first operand
  abbrev pub operation_behind : Tree × TokenLook → Reader Tree
  operation_behind x = or_from turns rec within free x >>= λ y. pure y.0

  -- ( "=" | .. ) simple, behind a target
  abbrev pub assignment : ℕ → Tree → (TokenLook → Option Assignment) → Reader Tree
  assignment at target table = do
    found ← take (λ t. assigning_of t (table (look_of t.kind)))
    wrap found.0
    value ← part (rec (Simple within))
    pure (tree.Assign at target found.1 found.0 value)

  -- arguments without parentheses, in which a `do` is not free
  abbrev pub bare_arguments : Reader (List Tree)
  bare_arguments = listed turns (part (rec (Or within false)))

  -- args [ doblock ]
  abbrev pub command : (List Tree → Option Tree → Tree) → Reader Tree
  command make = do
    arguments ← bare_arguments
    block ← optional (seen l.Do) (doblock turns rec within)
    pure (make arguments block)

  -- args
  abbrev pub passing_on : (List Tree → Tree) → Reader Tree
  passing_on make = do
    arguments ← bare_arguments
    pure (make arguments)

  -- a command where an argument begins, else what follows a first operand
  abbrev pub unless_operation : Reader Tree → Tree × TokenLook → Reader Tree
  unless_operation p x = λ s. cond (o.begins_argument s.rest) p (operation_behind x) s

  -- what follows a postfix that begins a statement at this place, and that ends with a token of this look
  abbrev pub behind : ℕ → Operand × TokenLook → Reader Tree
  behind at (Name name, seen) =
      choose (is_assigning o.any_assignment) (assignment at (whole (Name name)) o.any_assignment)
      (unless_operation (command (λ arguments block. tree.Call name.at None name.text arguments block)) (whole (Name name), l.Ident))
  behind at (Field receiver name, seen) =
      choose (is_assigning o.field_assignment) (assignment at (whole (Field receiver name)) o.field_assignment)
      (unless_operation (command (λ arguments block. tree.Call name.at (Some receiver) name.text arguments block)) (whole (Field receiver name), l.Ident))
  behind at (Element place receiver arguments, seen) =
      choose (is_assigning o.field_assignment) (assignment at (whole (Element place receiver arguments)) o.field_assignment)
      (operation_behind (whole (Element place receiver arguments), seen))
  behind at (Variable name, seen) =
      choose (is_assigning o.any_assignment) (assignment at (whole (Variable name)) o.any_assignment) (operation_behind (whole (Variable name), seen))
  behind at (Yielding place, seen) = unless_operation (passing_on (λ arguments. tree.Yield place arguments)) (whole (Yielding place), l.Yield)
  behind at (Above place, seen) = unless_operation (passing_on (λ arguments. tree.Super place arguments)) (whole (Above place), l.Super)
  behind at (Passing name receiver value, seen) = operation_behind (whole (Passing name receiver value), seen)
  behind at (Whole x, seen) = operation_behind (x, seen)

  -- a statement that begins with a postfix
  abbrev pub from_postfix : Reader Tree
  from_postfix = do
    at ← here
    x ← with_last (postfix turns rec within free)
    behind at x

  -- a word, and maybe a value
  abbrev pub leaving : TokenLook → (ℕ → Option Tree → Tree) → Reader Tree
  leaving look make = do
    at ← expect look
    grow at
    value ← optional (begins_left within) (part (or turns rec within free))
    pure (make at value)

  abbrev pub breaking : Reader Tree
  breaking = do
    at ← expect l.Break
    grow at
    pure (tree.Break at)

  abbrev pub simple_by : TokenLook → Reader Tree
  simple_by l.Return = allow (within.method && not within.block) (leaving l.Return (λ at value. tree.Return at value))
  simple_by l.Next = allow (within.in_loop || within.block) (leaving l.Next (λ at value. tree.Next at value))
  simple_by l.Break = allow within.in_loop breaking
  simple_by l.Bang = or turns rec within free
  simple_by l.Minus = or turns rec within free
  simple_by other = from_postfix

  -- simple = target ( "=" | .. ) simple | command | jump | or
  abbrev pub simple : Reader Tree
  simple = by_look simple_by

  abbrev pub modified : ℕ → Tree → TokenLook → Bool → Reader Tree
  modified at x look unless = do
    place ← expect look
    wrap place
    condition ← part simple
    pure (tree.If at unless condition (x ∷ []) [] None)

  -- stmt = simple [ ( "if" | "unless" ) simple ]
  abbrev pub stmt : Reader Tree
  stmt = do
    at ← here
    x ← simple
    choose (seen l.If) (modified at x l.If false) (choose (seen l.Unless) (modified at x l.Unless true) (pure x))
