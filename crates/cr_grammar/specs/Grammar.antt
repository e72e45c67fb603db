-- The grammar of statements, declarations and programs, and the whole: which lists of tokens spell which trees.
use Rattle.std.specs.Prelude.{◌≡◌, ℕ, zero, suc, Bool, true, false, not, ◌&&◌, ◌||◌, List, [], ◌∷◌, ◌++◌, Option, Some, None}
use Rattle.std.specs.Str.{bytes_eq}
use Rattle.cr_syntax.specs.declared.look.TokenLook.{TokenLook}
use Rattle.cr_syntax.specs.declared.look.TokenLook.TheVariants as l
use Rattle.cr_syntax.specs.Look.{look_of}
use Rattle.cr_grammar.specs.declared.operator.Assignment.{Assignment}
use Rattle.cr_grammar.specs.declared.tree.Tree.{Tree}
use Rattle.cr_grammar.specs.declared.tree.Tree.TheVariants as tree
use Rattle.cr_grammar.specs.declared.within.Within.{Within}
use Rattle.cr_grammar.specs.Forms.{Form, nothing, ◌>>=◌, ◌>>◌, ◌<|>◌, where_true, passing, maybe, or_none, from_first, one, word, ident, constant, instance_variable, tight, listed, parenthesized, stmts}
use Rattle.cr_grammar.specs.Operators as o
use Rattle.cr_grammar.specs.declared.wanted.Wanted.{Wanted}
use Rattle.cr_grammar.specs.declared.wanted.Wanted.TheVariants.{Written, When, Unary, Or, Simple, Stmt, Stmts, Program}
use Rattle.cr_grammar.specs.Wanted.{in_method, top}
use Rattle.cr_grammar.specs.Expressions.{written, body, doblock, variable, indices, postfix, when, unary, or}

-- ---- statements

module _ (S : Wanted → Form Tree) (within : Within) where
  -- In a statement a `do` is free.
  abbrev free : Bool
  free = true

  -- Ident
  abbrev pub local : Form Tree
  local = do
    name ← ident
    nothing (tree.Call name.at None name.text [] None)

  -- postfix "." Ident | postfix tight "[" args "]"
  abbrev pub place : Form Tree
  place =
      (do x ← postfix S within free; word l.Dot; name ← ident; nothing (tree.Call name.at (Some x) name.text [] None))
      <|> (do x ← postfix S within free; found ← indices S within free; nothing (tree.Index found.0 x found.1 false))

  -- a token that assigns, with its place
  abbrev pub assigning : (TokenLook → Option Assignment) → Form (ℕ × Assignment)
  assigning table = one (λ t x. (table (look_of t.kind) ≡ Some x.1) × (x.0 ≡ t.span.first))

  abbrev pub assigned : Form Tree → (TokenLook → Option Assignment) → Form Tree
  assigned target table = from_first (λ at. do
    x ← target
    found ← assigning table
    value ← S (Simple within)
    nothing (tree.Assign at x found.1 found.0 value))

  -- target ( "=" | "+=" | "-=" | "*=" | "//=" | "%=" | "||=" ) simple; no `||=` on a field `.x` or an element
  abbrev pub assignment : Form Tree
  assignment = assigned (local <|> variable S within free) o.any_assignment <|> assigned place o.field_assignment

  -- Arguments without parentheses: the first token is spaced and begins an argument, and a `do` is not theirs.
  abbrev pub bare_arguments : Form (List Tree)
  bare_arguments = passing o.begins_argument (listed (S (Or within false)))

  -- command = ( Ident | postfix "." Ident ) args [ doblock ] | ( "yield" | "super" ) args
  abbrev pub command : Form Tree
  command =
      (do
        name ← ident
        arguments ← bare_arguments
        block ← maybe (doblock S within)
        nothing (tree.Call name.at None name.text arguments block))
      <|> (do
        x ← postfix S within free
        word l.Dot
        name ← ident
        arguments ← bare_arguments
        block ← maybe (doblock S within)
        nothing (tree.Call name.at (Some x) name.text arguments block))
      <|> where_true within.method (do at ← word l.Yield; arguments ← bare_arguments; nothing (tree.Yield at arguments))
      <|> where_true within.method (do at ← word l.Super; arguments ← bare_arguments; nothing (tree.Super at arguments))

  -- a word, and maybe a value that begins with no `if` and no `unless`
  abbrev pub leaving : TokenLook → (ℕ → Option Tree → Tree) → Form Tree
  leaving look make = do
    at ← word look
    value ← maybe (passing o.begins_no_modifier (or S within free))
    nothing (make at value)

  -- jump = ( "return" | "next" ) [ or ] | "break"
  abbrev pub jump : Form Tree
  jump =
      where_true (within.method && not within.block) (leaving l.Return (λ at value. tree.Return at value))
      <|> where_true (within.in_loop || within.block) (leaving l.Next (λ at value. tree.Next at value))
      <|> where_true within.in_loop (do at ← word l.Break; nothing (tree.Break at))

  -- simple = target .. simple | command | jump | or
  abbrev pub simple : Form Tree
  simple = assignment <|> command <|> jump <|> or S within free

  -- stmt = simple [ ( "if" | "unless" ) simple ]
  abbrev pub modified : TokenLook → Bool → Form Tree
  modified look unless = from_first (λ at. do
    x ← simple
    word look
    condition ← simple
    nothing (tree.If at unless condition (x ∷ []) [] None))

  abbrev pub stmt : Form Tree
  stmt = simple <|> modified l.If false <|> modified l.Unless true

-- ---- declarations

module _ (S : Wanted → Form Tree) where
  -- ":" type
  abbrev pub restriction : Form Tree
  restriction = word l.Colon >> S (Written true)

  -- param = ( Ident | IVar ) [ ":" type ]; an instance variable only in `initialize`
  abbrev pub param : Within → Form Tree
  param within =
      (do name ← ident; of ← maybe restriction; nothing (tree.Parameter name.at false name.text of))
      <|> where_true within.initialize (do name ← instance_variable; of ← maybe restriction; nothing (tree.Parameter name.at true name.text of))

  -- `[]`, `[]=` and `[]?`, each token after the first tight
  abbrev pub index_names : Form (List ℕ)
  index_names = word l.OpenBracket >> tight (word l.CloseBracket)
      >> (nothing o.index_name <|> (tight (word l.Equal) >> nothing o.index_set_name) <|> (tight (word l.Question) >> nothing o.index_question_name))

  -- name = Ident [ tight "=" ] | + | - | * | // | % | == | < | <= | > | >= | << | [] | []= | []?
  abbrev pub name : Form (List ℕ)
  name =
      (do name ← ident; nothing name.text)
      <|> (do name ← ident; where_true (not (o.is_marked name.text)) (tight (word l.Equal)); nothing (name.text ++ 61 ∷ []))
      <|> one (λ t x. o.operator_name (look_of t.kind) ≡ Some x)
      <|> index_names

  -- def = "def" name [ tight "(" [ param { "," param } ] ")" ] [ ":" type ] sep stmts "end"; `initialize` has no result
  -- type. The flag tells whether it stands in a class or module.
  abbrev pub def : Bool → Form Tree
  def class = do
    at ← word l.Def
    name ← name
    parameters ← tight (parenthesized (or_none (listed (param (in_method class name))))) <|> nothing []
    result ← nothing None <|> where_true (not (bytes_eq name o.initialize_name)) (maybe restriction)
    word l.Newline
    body ← body S (in_method class name)
    word l.KeywordEnd
    nothing (tree.Def at name parameters result body)

  -- "include" Const
  abbrev pub include : Form Tree
  include = do
    at ← word l.Include
    name ← constant
    nothing (tree.Include at name.text)

  -- acc = Ident [ ":" type ]
  abbrev pub acc : Form Tree
  acc = do
    name ← ident
    of ← maybe restriction
    nothing (tree.Accessor name.at name.text of)

  -- ( "getter" | "property" ) acc { "," acc }
  abbrev pub accessors : TokenLook → Bool → Form Tree
  accessors look property = do
    at ← word look
    found ← listed acc
    nothing (tree.Accessors at property found)

  -- member = def | "include" Const | IVar ":" type | ("getter" | "property") acc { "," acc }
  abbrev pub member : Form Tree
  member =
      def true
      <|> include
      <|> (do name ← instance_variable; of ← restriction; nothing (tree.Declaration name.at name.text of))
      <|> accessors l.Getter false
      <|> accessors l.Property true

  abbrev pub constant_text : Form (List ℕ)
  constant_text = do
    name ← constant
    nothing name.text

  -- class = "class" Const [ tight "(" Const { "," Const } ")" ] [ "<" Const ] sep stmts(member) "end"
  abbrev pub class : Form Tree
  class = do
    at ← word l.Class
    name ← constant
    parameters ← tight (parenthesized (listed constant_text)) <|> nothing []
    superclass ← maybe (word l.Less >> constant_text)
    word l.Newline
    members ← stmts member
    word l.KeywordEnd
    nothing (tree.Class at name.text parameters superclass members)

  -- module = "module" Const sep stmts(def | "include" Const) "end"
  abbrev pub module_of : Form Tree
  module_of = do
    at ← word l.Module
    name ← constant
    word l.Newline
    members ← stmts (def true <|> include)
    word l.KeywordEnd
    nothing (tree.Module at name.text members)

  -- item = class | module | def | stmt
  abbrev pub item : Form Tree
  item = class <|> module_of <|> def false <|> S (Stmt top)

  -- program = stmts(item) End
  abbrev pub program : Form Tree
  program = do
    items ← stmts item
    word l.End
    nothing (tree.Statements items)

-- ---- the whole

abbrev pub rule : (Wanted → Form Tree) → Wanted → Form Tree
rule S (Written with_arguments) = written S with_arguments
rule S (When within free) = when S within free
rule S (Unary within free) = unary S within free
rule S (Or within free) = or S within free
rule S (Simple within) = simple S within
rule S (Stmt within) = stmt S within
rule S (Stmts within) = do
  list ← body S within
  nothing (tree.Statements list)
rule S Program = program S

-- with at most so many constructs in one another
abbrev pub Spells_in : ℕ → Wanted → Form Tree
Spells_in zero wanted w x = ⊥
Spells_in (suc n) wanted w x = rule (Spells_in n) wanted w x

-- These tokens spell this tree.
abbrev pub Spells : Wanted → Form Tree
Spells wanted w x = (n : ℕ) × Spells_in n wanted w x
