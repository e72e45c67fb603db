-- Readers of a postfix, and of the clauses of `select`.
use Rattle.std.specs.Prelude.{ℕ, Bool, false, ◌||◌, List, Option, Some, None}
use Rattle.std.specs.Str.{bytes_eq}
use Rattle.cr_syntax.specs.declared.look.TokenLook.{TokenLook}
use Rattle.cr_syntax.specs.declared.look.TokenLook.TheVariants as l
use Rattle.cr_grammar.specs.declared.tree.Tree.{Tree}
use Rattle.cr_grammar.specs.declared.tree.Tree.TheVariants as tree
use Rattle.cr_grammar.specs.declared.within.Within.{Within}
use Rattle.cr_grammar.specs.Operators as o
use Rattle.cr_grammar.specs.declared.wanted.Wanted.{Wanted}
use Rattle.cr_grammar.specs.declared.wanted.Wanted.TheVariants.{Written}
use Rattle.cr_readers.specs.Reader.{Reader, ◌>>=◌, ◌>>◌, pure, refuse, seen, tight_seen, expect, choose, only, allow, by_look, repeated, wrap, part}
use Rattle.cr_readers.specs.Lists.{optional, separators, parenthesized}
use Rattle.cr_readers.specs.Goes.{is_link}
use Rattle.cr_readers.specs.Words.{ident}
use Rattle.cr_readers.specs.declared.operand.Operand.{Operand}
use Rattle.cr_readers.specs.declared.operand.Operand.TheVariants.{Name, Field, Passing, Whole}
use Rattle.cr_readers.specs.Operand.{whole, linked, indexed}
use Rattle.cr_readers.specs.Bodies.{body, then, plain, inside, arguments, maybe_block}
use Rattle.cr_readers.specs.Primaries.{primary}

module _ (turns : ℕ) (rec : Wanted → Reader Tree) (within : Within) (free : Bool) where
  -- Ident [ tight "(" [ args ] ")" ] [ block ], behind `.`
  abbrev pub called : Tree → Reader Operand
  called x = do
    name ← ident
    wrap name.at
    arguments ← arguments turns rec within
    block ← maybe_block turns rec within free
    pure (linked x name arguments block)

  -- "is_a?" tight "(" type ")", behind `.`
  abbrev pub asked : Tree → Reader Operand
  asked x = do
    at ← expect l.IsA
    wrap at
    of ← only (tight_seen l.OpenParenthesis) (parenthesized turns (part (rec (Written false))))
    pure (Whole (tree.IsA at x of))

  -- "nil?", behind `.`
  abbrev pub asked_nil : Tree → Reader Operand
  asked_nil x = do
    at ← expect l.IsNil
    wrap at
    pure (Whole (tree.IsNil at x))

  -- "spawn" plain, behind `.`
  abbrev pub spawned_in : Tree → Reader Operand
  spawned_in x = do
    at ← expect l.Spawn
    wrap at
    body ← plain turns rec within free
    pure (Whole (tree.Spawn at (Some x) body))

  abbrev pub behind_dot : Tree → TokenLook → Reader Operand
  behind_dot x l.Ident = called x
  behind_dot x l.IsA = asked x
  behind_dot x l.IsNil = asked_nil x
  behind_dot x l.Spawn = spawned_in x
  behind_dot x other = refuse

  -- tight "[" args "]" [ tight "?" ]
  abbrev pub at_index : Tree → Reader Operand
  at_index x = do
    at ← expect l.OpenBracket
    wrap at
    separators turns
    arguments ← inside turns rec within
    separators turns
    expect l.CloseBracket
    question ← optional (tight_seen l.Question) (expect l.Question)
    pure (indexed at x arguments question)

  abbrev pub link : Operand → Reader Operand
  link x = choose (seen l.Dot) (expect l.Dot >> by_look (behind_dot (whole x))) (at_index (whole x))

  -- postfix = primary { link }
  abbrev pub postfix : Reader Operand
  postfix = primary turns rec within free >>= repeated is_link link turns

  -- ---- the clauses of `select`

  abbrev pub is_receive : List ℕ → Bool
  is_receive name = bytes_eq name o.receive_name || bytes_eq name o.receive_question_name

  -- then stmts, behind the operation of a clause
  abbrev pub when_body : ℕ → Option Tree → Tree → Reader Tree
  when_body at target operation = do
    then turns rec
    body ← body turns rec within
    pure (tree.When at target operation body)

  -- what was read is a receive
  abbrev pub when_received : ℕ → Option Tree → Operand → Reader Tree
  when_received at target (Field channel name) = allow (is_receive name.text) (when_body at target (whole (Field channel name)))
  when_received at target other = refuse

  -- what was read is the name that receives, a receive, or a send
  abbrev pub when_by : ℕ → Operand → Reader Tree
  when_by at (Name name) = do
    expect l.Equal
    operation ← part postfix
    when_received at (Some (whole (Name name))) operation
  when_by at (Passing name channel value) = allow (bytes_eq name.text o.send_name) (when_body at None (whole (Passing name channel value)))
  when_by at operation = when_received at None operation

  -- when = "when" [ Ident "=" ] postfix "." ( "receive" | "receive?" ) then stmts
  --      | "when" postfix "." "send" tight "(" or ")" then stmts
  abbrev pub when : Reader Tree
  when = do
    at ← expect l.When
    operation ← part postfix
    when_by at operation
