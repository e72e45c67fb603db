-- Readers of what stands at the head of a postfix, but for the compound constructs.
use Rattle.std.specs.Prelude.{ℕ, Bool, true, false, ◌&&◌, List, [], ◌∷◌, ◌++◌, map, Option, Some, None, is_some}
use Rattle.std.specs.Str.{bytes_eq}
use Rattle.cr_syntax.specs.declared.look.TokenLook.{TokenLook}
use Rattle.cr_syntax.specs.declared.look.TokenLook.TheVariants as l
use Rattle.cr_grammar.specs.declared.tree.Tree.{Tree}
use Rattle.cr_grammar.specs.declared.tree.Tree.TheVariants as tree
use Rattle.cr_grammar.specs.declared.within.Within.{Within}
use Rattle.cr_grammar.specs.Operators as o
use Rattle.cr_grammar.specs.declared.wanted.Wanted.{Wanted}
use Rattle.cr_grammar.specs.declared.wanted.Wanted.TheVariants.{Written, Or, Stmt}
use Rattle.cr_grammar.specs.Wanted.{in_object}
use Rattle.cr_grammar.specs.declared.word.Atom.{Atom}
use Rattle.cr_grammar.specs.Expressions.{atom_tree}
use Rattle.cr_readers.specs.Reader.{Reader, ◌>>=◌, ◌>>◌, pure, refuse, seen, expect, holder, allow, by_look, many, grow, wrap, part}
use Rattle.cr_readers.specs.Lists.{optional, unless_closed, separators, listed, parenthesized}
use Rattle.cr_readers.specs.Words.{ident, instance_variable, whole_text, first_text, middle_text, last_text, exactly_ident, number}
use Rattle.cr_readers.specs.declared.operand.Operand.{Operand}
use Rattle.cr_readers.specs.declared.operand.Operand.TheVariants.{Variable, Whole}
use Rattle.cr_readers.specs.Operand.{named, yielded, above}
use Rattle.cr_readers.specs.Types.{atom}
use Rattle.cr_readers.specs.Bodies.{plain, inside, arguments, maybe_block}
use Rattle.cr_readers.specs.Compounds.{conditional, looping, cases, select}

-- two paths are the same
abbrev pub is_path : List (List ℕ) → List (List ℕ) → Bool
is_path [] [] = true
is_path (a ∷ more) (b ∷ others) = bytes_eq a b && is_path more others
is_path other path = false

-- neither arguments nor a `?`
abbrev pub is_bare : List Tree → Option ℕ → Bool
is_bare [] None = true
is_bare arguments question = false

-- no arguments where no parentheses stand
abbrev pub listed_of : Option (List Tree) → List Tree
listed_of None = []
listed_of (Some arguments) = arguments

module _ (turns : ℕ) (rec : Wanted → Reader Tree) (within : Within) (free : Bool) where
  -- a word that is a value
  abbrev pub leaf : TokenLook → (ℕ → Tree) → Reader Tree
  leaf look make = do
    at ← expect look
    grow at
    pure (make at)

  -- Int
  abbrev pub number_node : Reader Tree
  number_node = do
    found ← number
    grow found.0
    pure found.1

  -- a text without insertion
  abbrev pub text : Reader Tree
  text = do
    text ← holder whole_text
    grow text.at
    pure (tree.Text text.at text.text)

  abbrev pub inserted : Reader Tree
  inserted = part (rec (Or within free))

  abbrev pub part_behind : Reader (Tree × List ℕ)
  part_behind = do
    part ← holder middle_text
    value ← inserted
    pure (value, part.text)

  -- a text with insertions, each of which is one `or`
  abbrev pub insertions : Reader Tree
  insertions = do
    first ← holder first_text
    grow first.at
    value ← inserted
    more ← many (seen l.TextMiddle) part_behind turns
    last ← holder last_text
    pure (tree.Insertions first.at (first.text ∷ map (λ (x : Tree × List ℕ). x.1) more ++ last.text ∷ []) (value ∷ map (λ (x : Tree × List ℕ). x.0) more))

  -- the name of the class `Fiber` alone
  abbrev pub is_fiber : Atom → Bool
  is_fiber class = is_path class.path.names (o.fiber_name ∷ []) && is_bare class.arguments class.question

  -- the plain block of `Fiber::ExecutionContext::Isolated.new`, and of no other class
  abbrev pub new_block : Bool → Reader (Option Tree)
  new_block true = plain turns rec within free >>= λ body. pure (Some (tree.Block [] body))
  new_block false = pure None

  -- "new" [ tight "(" [ args ] ")" ] [ plain ], behind an atom and its `.`
  abbrev pub made : Atom → Reader Tree
  made class = do
    at ← exactly_ident o.new_name
    wrap at
    arguments ← arguments turns rec within
    block ← new_block (is_path class.path.names o.isolated_path)
    pure (tree.New at (atom_tree class) (is_some class.question) (listed_of arguments) block)

  -- "yield" behind `Fiber.`
  abbrev pub pause : Atom → Reader Tree
  pause class = expect l.Yield >> pure (tree.Pause class.path.at)

  abbrev pub made_by : Atom → TokenLook → Reader Tree
  made_by class l.Ident = made class
  made_by class l.Yield = allow (is_fiber class) (pause class)
  made_by class other = refuse

  -- atom "." "new" .. | "Fiber" "." "yield"
  abbrev pub of_class : Reader Tree
  of_class = do
    class ← atom turns rec true
    expect l.Dot
    by_look (made_by class)

  -- "[" [ args ] "]" [ "of" type ]
  abbrev pub array : Reader Tree
  array = do
    at ← expect l.OpenBracket
    grow at
    separators turns
    elements ← unless_closed l.CloseBracket (inside turns rec within)
    separators turns
    expect l.CloseBracket
    element ← optional (seen l.Of) (expect l.Of >> part (rec (Written true)))
    pure (tree.Array at elements element)

  abbrev pub pair : Reader Tree → Reader Tree
  pair p = do
    key ← p
    expect l.Arrow
    separators turns
    value ← p
    pure (tree.Pair key value)

  -- "{" [ or "=>" or { "," or "=>" or } ] "}" [ "of" type "=>" type ]
  abbrev pub hash : Reader Tree
  hash = do
    at ← expect l.OpenBrace
    grow at
    separators turns
    entries ← unless_closed l.CloseBrace (listed turns (pair (part (rec (Or within free)))))
    expect l.CloseBrace
    entry ← optional (seen l.Of) (expect l.Of >> pair (part (rec (Written true))))
    pure (tree.Hash at entries entry)

  -- "spawn" plain
  abbrev pub spawned : Reader Tree
  spawned = do
    at ← expect l.Spawn
    grow at
    body ← plain turns rec within free
    pure (tree.Spawn at None body)

  -- Ident [ tight "(" [ args ] ")" ] [ block ]
  abbrev pub name : Reader Operand
  name = do
    name ← ident
    grow name.at
    arguments ← arguments turns rec within
    block ← maybe_block turns rec within free
    pure (named name arguments block)

  -- ( "yield" | "super" ) [ tight "(" [ args ] ")" ]
  abbrev pub passed_on : TokenLook → (ℕ → Option (List Tree) → Operand) → Reader Operand
  passed_on look make = do
    at ← expect look
    grow at
    arguments ← arguments turns rec within
    pure (make at arguments)

  -- IVar
  abbrev pub variable : Reader Operand
  variable = do
    name ← instance_variable
    grow name.at
    pure (Variable name)

  abbrev pub all_of : Reader Tree → Reader Operand
  all_of p = p >>= λ x. pure (Whole x)

  abbrev pub primary_by : TokenLook → Reader Operand
  primary_by l.Int32 = all_of number_node
  primary_by l.Int64 = all_of number_node
  primary_by l.Text = all_of text
  primary_by l.TextFirst = all_of insertions
  primary_by l.Nil = all_of (leaf l.Nil (λ at. tree.Nil at))
  primary_by l.True = all_of (leaf l.True (λ at. tree.True at))
  primary_by l.False = all_of (leaf l.False (λ at. tree.False at))
  primary_by l.KeywordSelf = allow (in_object within) (all_of (leaf l.KeywordSelf (λ at. tree.KeywordSelf at)))
  primary_by l.InstanceVariable = allow (in_object within) variable
  primary_by l.Ident = name
  primary_by l.Yield = allow within.method (passed_on l.Yield yielded)
  primary_by l.Super = allow within.method (passed_on l.Super above)
  primary_by l.Constant = all_of of_class
  primary_by l.OpenBracket = all_of array
  primary_by l.OpenBrace = all_of hash
  primary_by l.OpenParenthesis = all_of (parenthesized turns (rec (Stmt within)))
  primary_by l.Spawn = all_of spawned
  primary_by l.If = all_of (conditional turns rec within free l.If false)
  primary_by l.Unless = all_of (conditional turns rec within free l.Unless true)
  primary_by l.While = all_of (looping turns rec within free l.While false)
  primary_by l.Until = all_of (looping turns rec within free l.Until true)
  primary_by l.Case = all_of (cases turns rec within free)
  primary_by l.Select = all_of (select turns rec within free)
  primary_by other = refuse

  -- primary, by its first token
  abbrev pub primary : Reader Operand
  primary = by_look primary_by
