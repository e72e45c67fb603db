-- Readers of declarations and of whole programs.
use Rattle.std.specs.Prelude.{ℕ, Bool, true, false, List, [], ◌∷◌, ◌++◌, Option, None}
use Rattle.std.specs.Str.{bytes_eq}
use Rattle.cr_syntax.specs.declared.look.TokenLook.{TokenLook}
use Rattle.cr_syntax.specs.declared.look.TokenLook.TheVariants as l
use Rattle.cr_syntax.specs.Look.{look_of}
use Rattle.cr_grammar.specs.declared.tree.Tree.{Tree}
use Rattle.cr_grammar.specs.declared.tree.Tree.TheVariants as tree
use Rattle.cr_grammar.specs.declared.within.Within.{Within}
use Rattle.cr_grammar.specs.declared.word.Word.{Word}
use Rattle.cr_grammar.specs.Operators as o
use Rattle.cr_grammar.specs.declared.wanted.Wanted.{Wanted}
use Rattle.cr_grammar.specs.declared.wanted.Wanted.TheVariants.{Written, Stmt}
use Rattle.cr_grammar.specs.Wanted.{in_method, top}
use Rattle.cr_grammar.specs.Laws.{begins_stmt}
use Rattle.cr_readers.specs.Reader.{Reader, Test, ◌>>=◌, ◌>>◌, pure, seen, tight_seen, take, expect, choose, only, grow, part, beside}
use Rattle.cr_readers.specs.Lists.{optional, unless_closed, listed, parenthesized, stmts}
use Rattle.cr_readers.specs.Words.{ident, constant, instance_variable}
use Rattle.cr_readers.specs.Bodies.{body}

-- ---- the name of a method

-- behind an Ident; the flag tells whether that is marked
abbrev pub name_from : Word → Bool → Reader (List ℕ)
name_from name true = pure name.text
name_from name false = choose (tight_seen l.Equal) (expect l.Equal >> pure (name.text ++ 61 ∷ [])) (pure name.text)

-- Ident [ tight "=" ]
abbrev pub plain_name : Reader (List ℕ)
plain_name = do
  name ← ident
  name_from name (o.is_marked name.text)

-- `[]`, `[]=` and `[]?`, each token after the first tight
abbrev pub index_names : Reader (List ℕ)
index_names = expect l.OpenBracket >> only (tight_seen l.CloseBracket) (expect l.CloseBracket)
    >> choose (tight_seen l.Equal) (expect l.Equal >> pure o.index_set_name)
    (choose (tight_seen l.Question) (expect l.Question >> pure o.index_question_name) (pure o.index_name))

-- an operator that a method may be named after
abbrev pub operator : Reader (List ℕ)
operator = take (λ t. o.operator_name (look_of t.kind))

-- name = Ident [ tight "=" ] | + | - | * | // | % | == | < | <= | > | >= | << | [] | []= | []?
abbrev pub method_name : Reader (List ℕ)
method_name = choose (seen l.Ident) plain_name (choose (seen l.OpenBracket) index_names operator)

-- ---- a constant, and `include`

-- Const, as a text
abbrev pub constant_name : Reader (List ℕ)
constant_name = do
  name ← constant
  pure name.text

-- "include" Const
abbrev pub include : Reader Tree
include = do
  at ← expect l.Include
  grow at
  name ← constant
  pure (tree.Include at name.text)

-- ---- how members and items begin

abbrev pub begins_member : Test
begins_member l.Def spaced = true
begins_member l.Include spaced = true
begins_member l.InstanceVariable spaced = true
begins_member l.Getter spaced = true
begins_member l.Property spaced = true
begins_member other spaced = false

-- in a module
abbrev pub begins_module_member : Test
begins_module_member l.Def spaced = true
begins_module_member l.Include spaced = true
begins_module_member other spaced = false

abbrev pub begins_item : Test
begins_item l.Class spaced = true
begins_item l.Module spaced = true
begins_item l.Def spaced = true
begins_item other spaced = begins_stmt top other

module _ (turns : ℕ) (rec : Wanted → Reader Tree) where
  -- ":" type
  abbrev pub restriction : Reader Tree
  restriction = expect l.Colon >> part (rec (Written true))

  -- [ ":" type ]
  abbrev pub maybe_restriction : Reader (Option Tree)
  maybe_restriction = optional (seen l.Colon) restriction

  -- R in parentheses that are tight, or nothing
  abbrev pub enclosed : {A : Type 0} → Reader (List A) → Reader (List A)
  enclosed p = choose (tight_seen l.OpenParenthesis) (parenthesized turns p) (pure [])

  -- ---- methods

  abbrev pub parameter : Reader Word → Bool → Reader Tree
  parameter p instance = do
    name ← p
    grow name.at
    of ← maybe_restriction
    pure (tree.Parameter name.at instance name.text of)

  -- param = ( Ident | IVar ) [ ":" type ]; the flag tells whether it may be an instance variable
  abbrev pub param : Bool → Reader Tree
  param true = choose (seen l.InstanceVariable) (parameter instance_variable true) (parameter ident false)
  param false = parameter ident false

  -- [ ":" type ], which `initialize` has not
  abbrev pub result_type : Bool → Reader (Option Tree)
  result_type true = pure None
  result_type false = maybe_restriction

  abbrev pub parameters : Within → Reader (List Tree)
  parameters within = enclosed (unless_closed l.CloseParenthesis (listed turns (part (param within.initialize))))

  -- def = "def" name [ tight "(" [ param { "," param } ] ")" ] [ ":" type ] sep stmts "end"; the flag tells whether it stands
  -- in a class or module
  abbrev pub def : Bool → Reader Tree
  def class = do
    at ← expect l.Def
    grow at
    name ← method_name
    parameters ← parameters (in_method class name)
    result ← result_type (bytes_eq name o.initialize_name)
    expect l.Newline
    body ← body turns rec (in_method class name)
    expect l.KeywordEnd
    pure (tree.Def at name parameters result body)

  -- ---- members

  -- IVar ":" type
  abbrev pub declaration : Reader Tree
  declaration = do
    name ← instance_variable
    grow name.at
    of ← restriction
    pure (tree.Declaration name.at name.text of)

  -- acc = Ident [ ":" type ]
  abbrev pub acc : Reader Tree
  acc = do
    name ← ident
    grow name.at
    of ← maybe_restriction
    pure (tree.Accessor name.at name.text of)

  -- ( "getter" | "property" ) acc { "," acc }
  abbrev pub accessors : TokenLook → Bool → Reader Tree
  accessors look property = do
    at ← expect look
    grow at
    found ← listed turns (part acc)
    pure (tree.Accessors at property found)

  -- member = def | "include" Const | IVar ":" type | ("getter" | "property") acc { "," acc }
  abbrev pub member : Reader Tree
  member =
      choose (seen l.Def) (def true)
      (choose (seen l.Include) include
      (choose (seen l.InstanceVariable) declaration
      (choose (seen l.Getter) (accessors l.Getter false) (accessors l.Property true))))

  -- what a module may have
  abbrev pub module_member : Reader Tree
  module_member = choose (seen l.Def) (def true) include

  -- ---- classes and modules

  -- class = "class" Const [ tight "(" Const { "," Const } ")" ] [ "<" Const ] sep stmts(member) "end"
  abbrev pub class : Reader Tree
  class = do
    at ← expect l.Class
    grow at
    name ← constant
    parameters ← enclosed (listed turns constant_name)
    superclass ← optional (seen l.Less) (expect l.Less >> constant_name)
    expect l.Newline
    members ← stmts turns begins_member (part member)
    expect l.KeywordEnd
    pure (tree.Class at name.text parameters superclass members)

  -- module = "module" Const sep stmts(def | "include" Const) "end"
  abbrev pub module_of : Reader Tree
  module_of = do
    at ← expect l.Module
    grow at
    name ← constant
    expect l.Newline
    members ← stmts turns begins_module_member (part module_member)
    expect l.KeywordEnd
    pure (tree.Module at name.text members)

  -- ---- programs

  -- item = class | module | def | stmt
  abbrev pub item : Reader Tree
  item = choose (seen l.Class) class (choose (seen l.Module) module_of (choose (seen l.Def) (def false) (rec (Stmt top))))

  -- program = stmts(item) End
  abbrev pub program : Reader Tree
  program = do
    items ← stmts turns begins_item (beside item)
    expect l.End
    pure (tree.Statements items)
