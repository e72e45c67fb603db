-- The grammar from types up to `or`: which lists of tokens spell which trees, a definition for each of its lines.
use Rattle.std.specs.Prelude.{◌≡◌, ◌≢◌, ℕ, ℤ, Bool, true, false, List, [], ◌∷◌, ◌++◌, map, ◌⊎◌, Option, Some, None, is_some}
use Rattle.cr_syntax.specs.declared.look.TokenLook.{TokenLook}
use Rattle.cr_syntax.specs.declared.look.TokenLook.TheVariants as l
use Rattle.cr_syntax.specs.declared.token.TokenKind.TheVariants as k
use Rattle.cr_syntax.specs.Look.{look_of}
use Rattle.cr_grammar.specs.declared.operator.Binary.{Binary}
use Rattle.cr_grammar.specs.declared.operator.Unary.TheVariants as prefix
use Rattle.cr_grammar.specs.declared.tree.Tree.{Tree}
use Rattle.cr_grammar.specs.declared.tree.Tree.TheVariants as tree
use Rattle.cr_grammar.specs.declared.within.Within.{Within}
use Rattle.cr_grammar.specs.declared.word.Path.{Path}
use Rattle.cr_grammar.specs.declared.word.Atom.{Atom}
use Rattle.cr_grammar.specs.declared.word.Word.{Word}
use Rattle.cr_grammar.specs.Forms.{Form, nothing, ◌>>=◌, ◌>>◌, ◌<|>◌, where_true, passing, maybe, many, some, or_none, repeated, one, word, holding, ident, constant, instance_variable, exactly, tight, with_last, seps, listed, parenthesized, stmts}
use Rattle.cr_grammar.specs.Operators as o
use Rattle.cr_grammar.specs.declared.wanted.Wanted.{Wanted}
use Rattle.cr_grammar.specs.declared.wanted.Wanted.TheVariants.{Written, When, Unary, Or, Simple, Stmt}
use Rattle.cr_grammar.specs.Wanted.{in_loop, in_block, in_object}

-- ---- types

abbrev pub atom_tree : Atom → Tree
atom_tree a = tree.Atom a.path.at a.path.names a.arguments

abbrev pub question_atoms : Option ℕ → List Tree
question_atoms None = []
question_atoms (Some at) = tree.Atom at (o.nil_name ∷ []) [] ∷ []

-- `T?` in a type is the two atoms `T` and `Nil`
abbrev pub atoms_of : Atom → List Tree
atoms_of a = atom_tree a ∷ question_atoms a.question

abbrev pub all_atoms : List Atom → List Tree
all_atoms [] = []
all_atoms (a ∷ more) = atoms_of a ++ all_atoms more

-- path = Const { "::" Const }
abbrev pub path : Form Path
path = do
  first ← constant
  more ← many (word l.ColonColon >> constant)
  nothing (record { at = first.at; names = first.text ∷ map (λ (x : Word). x.text) more })

module _ (S : Wanted → Form Tree) where
  abbrev pub type_arguments : Bool → Form (List Tree)
  type_arguments true = tight (parenthesized (listed (S (Written true)))) <|> nothing []
  type_arguments false = nothing []

  -- atom = path [ tight "(" type { "," type } ")" ] [ tight "?" ], or without the type arguments
  abbrev pub atom : Bool → Form Atom
  atom with_arguments = do
    path ← path
    arguments ← type_arguments with_arguments
    question ← maybe (tight (word l.Question))
    nothing (record { path = path; arguments = arguments; question = question })

  -- type = atom { "|" atom }
  abbrev pub written : Bool → Form Tree
  written with_arguments = do
    first ← atom with_arguments
    more ← many (word l.Pipe >> atom with_arguments)
    nothing (tree.Union (all_atoms (first ∷ more)))

  -- ---- statements in bodies

  -- the statements of a body
  abbrev pub body : Within → Form (List Tree)
  body within = stmts (S (Stmt within))

  -- then = sep | "then"
  abbrev pub then : Form ℕ
  then = word l.Newline <|> word l.Then

  -- [ "else" stmts ]
  abbrev pub otherwise : Within → Form (Option (List Tree))
  otherwise within = maybe (word l.Else >> body within)

  -- ---- blocks

  abbrev pub block_parameter : Form Tree
  block_parameter = do
    name ← ident
    nothing (tree.Parameter name.at false name.text None)

  -- pars = "|" Ident { "," Ident } "|"
  abbrev pub pars : Form (List Tree)
  pars = do
    word l.Pipe
    names ← listed block_parameter
    word l.Pipe
    nothing names

  -- doblock = "do" [ pars ] stmts "end"
  abbrev pub doblock : Within → Form Tree
  doblock within = do
    word l.Do
    parameters ← or_none pars
    body ← body (in_block within)
    word l.KeywordEnd
    nothing (tree.Block parameters body)

  -- "{" [ pars ] stmts "}"
  abbrev pub braces : Within → Form Tree
  braces within = do
    word l.OpenBrace
    seps
    parameters ← or_none pars
    body ← body (in_block within)
    word l.CloseBrace
    nothing (tree.Block parameters body)

  -- block = "{" [ pars ] stmts "}" | doblock
  abbrev pub block : Within → Bool → Form Tree
  block within free = braces within <|> where_true free (doblock within)

  -- plain = "{" stmts "}" | "do" stmts "end"
  abbrev pub plain : Within → Bool → Form (List Tree)
  plain within free =
      (do word l.OpenBrace; body ← body (in_block within); word l.CloseBrace; nothing body)
      <|> where_true free (do word l.Do; body ← body (in_block within); word l.KeywordEnd; nothing body)

  -- ---- primary

  module _ (within : Within) (free : Bool) where
    -- args = or { "," or }, inside parentheses or brackets
    abbrev pub inside : Form (List Tree)
    inside = listed (S (Or within true))

    -- [ tight "(" [ args ] ")" ]
    abbrev pub arguments : Form (List Tree)
    arguments = tight (parenthesized (or_none inside)) <|> nothing []

    abbrev pub leaf : TokenLook → (ℕ → Tree) → Form Tree
    leaf look make = do
      at ← word look
      nothing (make at)

    -- Int
    abbrev pub number : Form Tree
    number = one (λ t x. ((n : ℤ) × (t.kind ≡ k.Int32 n) × (x ≡ tree.Int32 t.span.first n))
        ⊎ ((n : ℤ) × (t.kind ≡ k.Int64 n) × (x ≡ tree.Int64 t.span.first n)))

    abbrev pub part_behind : Form (Tree × List ℕ)
    part_behind = do
      part ← holding (λ text. k.TextMiddle text)
      value ← S (Or within free)
      nothing (value, part.text)

    -- a text with insertions, each of which is one `or`
    abbrev pub insertions : Form Tree
    insertions = do
      first ← holding (λ text. k.TextFirst text)
      value ← S (Or within free)
      more ← many part_behind
      last ← holding (λ text. k.TextLast text)
      nothing (tree.Insertions first.at (first.text ∷ map (λ (x : Tree × List ℕ). x.1) more ++ last.text ∷ []) (value ∷ map (λ (x : Tree × List ℕ). x.0) more))

    -- text
    abbrev pub text : Form Tree
    text = (do text ← holding (λ text. k.Text text); nothing (tree.Text text.at text.text)) <|> insertions

    -- "nil" | "true" | "false"
    abbrev pub constants : Form Tree
    constants = leaf l.Nil (λ at. tree.Nil at) <|> leaf l.True (λ at. tree.True at) <|> leaf l.False (λ at. tree.False at)

    -- IVar
    abbrev pub variable : Form Tree
    variable = where_true (in_object within) (do name ← instance_variable; nothing (tree.InstanceVariable name.at name.text))

    -- Ident [ tight "(" [ args ] ")" ] [ block ]
    abbrev pub named : Form Tree
    named = do
      name ← ident
      arguments ← arguments
      block ← maybe (block within free)
      nothing (tree.Call name.at None name.text arguments block)

    -- "yield" [ tight "(" [ args ] ")" ]
    abbrev pub yielded : Form Tree
    yielded = do
      at ← word l.Yield
      arguments ← arguments
      nothing (tree.Yield at arguments)

    -- "super" [ tight "(" [ args ] ")" ]: `super` alone is another tree than `super()`
    abbrev pub above : Form Tree
    above = leaf l.Super (λ at. tree.BareSuper at)
        <|> (do at ← word l.Super; arguments ← tight (parenthesized (or_none inside)); nothing (tree.Super at arguments))

    -- the plain block of `Fiber::ExecutionContext::Isolated.new`, and of no other class
    abbrev pub new_block : List (List ℕ) → Form (Option Tree)
    new_block path w x =
        ((path ≡ o.isolated_path) × (body : List Tree) × plain within free w body × (x ≡ Some (tree.Block [] body)))
        ⊎ ((path ≢ o.isolated_path) × nothing None w x)

    -- atom "." "new" [ tight "(" [ args ] ")" ] [ plain ]
    abbrev pub made : Form Tree
    made = do
      class ← atom true
      word l.Dot
      at ← exactly (k.Ident o.new_name)
      arguments ← arguments
      block ← new_block class.path.names
      nothing (tree.New at (atom_tree class) (is_some class.question) arguments block)

    -- "Fiber" "." "yield"
    abbrev pub pause : Form Tree
    pause = do
      at ← exactly (k.Constant o.fiber_name)
      word l.Dot
      word l.Yield
      nothing (tree.Pause at)

    -- "[" [ args ] "]" [ "of" type ]
    abbrev pub array : Form Tree
    array = do
      at ← word l.OpenBracket
      seps
      elements ← or_none inside
      seps
      word l.CloseBracket
      element ← maybe (word l.Of >> S (Written true))
      nothing (tree.Array at elements element)

    abbrev pub arrow : Form (Unit {0})
    arrow = word l.Arrow >> seps

    abbrev pub pair : Form Tree → Form Tree
    pair R = do
      key ← R
      arrow
      value ← R
      nothing (tree.Pair key value)

    -- "{" [ or "=>" or { "," or "=>" or } ] "}" [ "of" type "=>" type ]
    abbrev pub hash : Form Tree
    hash = do
      at ← word l.OpenBrace
      seps
      entries ← or_none (listed (pair (S (Or within free))))
      word l.CloseBrace
      entry ← maybe (word l.Of >> pair (S (Written true)))
      nothing (tree.Hash at entries entry)

    -- "spawn" plain
    abbrev pub spawned : Form Tree
    spawned = do
      at ← word l.Spawn
      body ← plain within free
      nothing (tree.Spawn at None body)

    abbrev pub elsif : Form Tree
    elsif = do
      at ← word l.Elsif
      condition ← S (Simple within)
      then
      body ← body within
      nothing (tree.Branch at condition body)

    -- if = "if" simple then stmts { "elsif" simple then stmts } [ "else" stmts ] "end"
    --    | "unless" simple then stmts [ "else" stmts ] "end"
    abbrev pub conditional_of : TokenLook → Bool → Form (List Tree) → Form Tree
    conditional_of look unless elsifs = do
      at ← word look
      condition ← S (Simple within)
      then
      body ← body within
      others ← elsifs
      otherwise ← otherwise within
      word l.KeywordEnd
      nothing (tree.If at unless condition body others otherwise)

    abbrev pub conditional : Form Tree
    conditional = conditional_of l.If false (many elsif) <|> conditional_of l.Unless true (nothing [])

    -- while = ( "while" | "until" ) simple sep stmts "end"
    abbrev pub looping_of : TokenLook → Bool → Form Tree
    looping_of look until = do
      at ← word look
      condition ← S (Simple (in_loop within))
      word l.Newline
      body ← body (in_loop within)
      word l.KeywordEnd
      nothing (tree.While at until condition body)

    abbrev pub looping : Form Tree
    looping = looping_of l.While false <|> looping_of l.Until true

    -- in = "in" type { "," type } then stmts
    abbrev pub in_clause : Form Tree
    in_clause = do
      at ← word l.In
      types ← listed (S (Written false))
      then
      body ← body within
      nothing (tree.In at types body)

    -- case = "case" simple sep { sep } in { in } "end"
    abbrev pub cases : Form Tree
    cases = do
      at ← word l.Case
      value ← S (Simple within)
      word l.Newline
      seps
      clauses ← some in_clause
      word l.KeywordEnd
      nothing (tree.Case at value clauses)

    -- select = "select" sep { sep } when { when } [ "else" stmts ] "end"
    abbrev pub select : Form Tree
    select = do
      at ← word l.Select
      word l.Newline
      seps
      clauses ← some (S (When within free))
      otherwise ← otherwise within
      word l.KeywordEnd
      nothing (tree.Select at clauses otherwise)

    -- primary = Int | text | "nil" | "true" | "false" | "self" | IVar | Ident .. | ( "yield" | "super" ) .. | atom "." "new" ..
    --         | "Fiber" "." "yield" | "[" .. "]" .. | "{" .. "}" .. | "(" stmt ")" | "spawn" plain | if | while | case | select
    abbrev pub primary : Form Tree
    primary =
        number
        <|> text
        <|> constants
        <|> where_true (in_object within) (leaf l.KeywordSelf (λ at. tree.KeywordSelf at))
        <|> variable
        <|> named
        <|> where_true within.method (yielded <|> above)
        <|> made
        <|> pause
        <|> array
        <|> hash
        <|> parenthesized (S (Stmt within))
        <|> spawned
        <|> conditional
        <|> looping
        <|> cases
        <|> select

    -- ---- postfix

    -- "." Ident [ tight "(" [ args ] ")" ] [ block ]
    abbrev pub called : Tree → Form Tree
    called x = do
      word l.Dot
      name ← ident
      arguments ← arguments
      block ← maybe (block within free)
      nothing (tree.Call name.at (Some x) name.text arguments block)

    -- tight "[" args "]", with its place
    abbrev pub indices : Form (ℕ × List Tree)
    indices = tight (do
      at ← word l.OpenBracket
      seps
      arguments ← inside
      seps
      word l.CloseBracket
      nothing (at, arguments))

    -- tight "[" args "]" [ tight "?" ]
    abbrev pub indexed : Tree → Form Tree
    indexed x = do
      found ← indices
      question ← maybe (tight (word l.Question))
      nothing (tree.Index found.0 x found.1 (is_some question))

    -- "." "is_a?" tight "(" type ")"
    abbrev pub asked : Tree → Form Tree
    asked x = do
      word l.Dot
      at ← word l.IsA
      of ← tight (parenthesized (S (Written false)))
      nothing (tree.IsA at x of)

    -- "." "nil?"
    abbrev pub asked_nil : Tree → Form Tree
    asked_nil x = do
      word l.Dot
      at ← word l.IsNil
      nothing (tree.IsNil at x)

    -- "." "spawn" plain
    abbrev pub spawned_in : Tree → Form Tree
    spawned_in x = do
      word l.Dot
      at ← word l.Spawn
      body ← plain within free
      nothing (tree.Spawn at (Some x) body)

    abbrev pub link : Tree → Form Tree
    link x = called x <|> indexed x <|> asked x <|> asked_nil x <|> spawned_in x

    -- postfix = primary { link }
    abbrev pub postfix : Form Tree
    postfix = primary >>= repeated link

    -- ---- the clauses of `select`

    -- Ident "="
    abbrev pub received_into : Form Tree
    received_into = do
      name ← ident
      word l.Equal
      nothing (tree.Call name.at None name.text [] None)

    -- postfix "." ( "receive" | "receive?" )
    abbrev pub receive : Form Tree
    receive = do
      channel ← postfix
      word l.Dot
      name ← ident
      (λ w x. ((name.text ≡ o.receive_name) ⊎ (name.text ≡ o.receive_question_name))
          × nothing (tree.Call name.at (Some channel) name.text [] None) w x)

    -- postfix "." "send" tight "(" or ")"
    abbrev pub send : Form Tree
    send = do
      channel ← postfix
      word l.Dot
      at ← exactly (k.Ident o.send_name)
      value ← tight (parenthesized (S (Or within true)))
      nothing (tree.Call at (Some channel) o.send_name (value ∷ []) None)

    -- when = "when" [ Ident "=" ] postfix "." ( "receive" | "receive?" ) then stmts
    --      | "when" postfix "." "send" tight "(" or ")" then stmts
    abbrev pub when_of : Form (Option Tree) → Form Tree → Form Tree
    when_of into R = do
      at ← word l.When
      target ← into
      operation ← R
      then
      body ← body within
      nothing (tree.When at target operation body)

    abbrev pub when : Form Tree
    when = when_of (maybe received_into) receive <|> when_of (nothing None) send

    -- ---- operators

    -- unary = ( "!" | "-" ) unary | postfix
    abbrev pub unary_of : TokenLook → (ℕ → Tree → Tree) → Form Tree
    unary_of look make = do
      at ← word look
      x ← S (Unary within free)
      nothing (make at x)

    abbrev pub unary : Form Tree
    unary = unary_of l.Bang (λ at x. tree.Unary at prefix.Not x) <|> unary_of l.Minus (λ at x. tree.Unary at prefix.Negate x) <|> postfix

    -- an operator of this table, with its place, and the separators behind it
    abbrev pub operator : (TokenLook → Option Binary) → Form (ℕ × Binary)
    operator table = do
      found ← one (λ t x. (table (look_of t.kind) ≡ Some x.1) × (x.0 ≡ t.span.first))
      seps
      nothing found

    -- One operator and its operand, behind an operand that ends with a token of this look. Behind a name a sign begins an
    -- argument, and no operation.
    abbrev pub operation : (TokenLook → Option Binary) → Form Tree → Tree × TokenLook → Form (Tree × TokenLook)
    operation table R x = passing (o.is_operation x.1) (do
      found ← operator table
      y ← with_last R
      nothing (tree.Binary found.0 found.1 x.0 y.0, y.1))

    -- R { operator R }, to the left
    abbrev pub operations : (TokenLook → Option Binary) → Form Tree → Form Tree
    operations table R = do
      x ← with_last R
      y ← repeated (operation table R) x
      nothing y.0

    -- R [ operator R ]
    abbrev pub one_operation : (TokenLook → Option Binary) → Form Tree → Form Tree
    one_operation table R = R <|> (do
      x ← with_last R
      y ← operation table R x
      nothing y.0)

    -- prod = unary { ( * | // | % | &* ) unary }
    abbrev pub prod : Form Tree
    prod = operations o.prod_operator unary

    -- sum = prod { ( + | - | &+ | &- ) prod }
    abbrev pub sum : Form Tree
    sum = operations o.sum_operator prod

    -- shift = sum { "<<" sum }
    abbrev pub shift : Form Tree
    shift = operations o.shift_operator sum

    -- cmp = shift [ ( == | != | < | <= | > | >= ) shift ]
    abbrev pub cmp : Form Tree
    cmp = one_operation o.cmp_operator shift

    -- and = cmp { "&&" cmp }
    abbrev pub and : Form Tree
    and = operations o.and_operator cmp

    -- or = and { "||" and }
    abbrev pub or : Form Tree
    or = operations o.or_operator and
