-- Readers of separators and of lists.
use Rattle.std.specs.Prelude.{ℕ, zero, suc, List, [], ◌∷◌, Option, Some, None}
use Rattle.cr_syntax.specs.declared.look.TokenLook.{TokenLook}
use Rattle.cr_syntax.specs.declared.look.TokenLook.TheVariants as l
use Rattle.cr_readers.specs.Reader.{Reader, ◌>>=◌, ◌>>◌, pure, give_up, Test, seen, expect, choose, many}

-- [ R ], where the test tells whether it comes
abbrev pub optional : {A : Type 0} → Test → Reader A → Reader (Option A)
optional test p = choose test (p >>= λ x. pure (Some x)) (pure None)

-- a list, unless it is closed at once
abbrev pub unless_closed : {A : Type 0} → TokenLook → Reader (List A) → Reader (List A)
unless_closed close p = choose (seen close) (pure []) p

module _ (turns : ℕ) where
  -- { sep }
  abbrev pub separators : Reader (Unit {0})
  separators = many (seen l.Newline) (expect l.Newline) turns >> pure tt

  abbrev pub comma : Reader (Unit {0})
  comma = expect l.Comma >> separators

  -- R { "," R }
  abbrev pub listed : {A : Type 0} → Reader A → Reader (List A)
  listed p = do
    x ← p
    xs ← many (seen l.Comma) (comma >> p) turns
    pure (x ∷ xs)

  -- "(" R ")"
  abbrev pub parenthesized : {A : Type 0} → Reader A → Reader A
  parenthesized p = do
    expect l.OpenParenthesis
    separators
    x ← p
    separators
    expect l.CloseParenthesis
    pure x

  -- what follows separators: R { sep { sep } R } { sep }, or nothing
  abbrev pub lines : {A : Type 0} → Test → Reader A → ℕ → Reader (List A)
  lines begins p zero = give_up
  lines begins p (suc n) = choose begins (do
    x ← p
    xs ← choose (seen l.Newline) (do expect l.Newline; separators; lines begins p n) (pure [])
    pure (x ∷ xs)) (pure [])

  -- { sep } [ R { sep { sep } R } ] { sep }
  abbrev pub stmts : {A : Type 0} → Test → Reader A → Reader (List A)
  stmts begins p = separators >> lines begins p turns
