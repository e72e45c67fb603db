-- Lists of tokens that are refused, each with the place of the refusal.
use Rattle.std.specs.Prelude.{ℕ, pos, List, [], ◌∷◌, codes}
use Rattle.cr_syntax.specs.declared.token.Token.{Token}
use Rattle.cr_syntax.specs.declared.look.TokenLook.TheVariants as l
use Rattle.cr_syntax.specs.declared.token.TokenKind.TheVariants as k
use Rattle.cr_grammar.specs.declared.wanted.Wanted.TheVariants.{Program}
use Rattle.cr_grammar.specs.Examples.{spaced_at, tight_at}
use Rattle.cr_descent.specs.Laws.{IsFirstUnexpected}

-- the end of the source, directly behind a token
abbrev pub ended : ℕ → List Token
ended at = tight_at at at (k.Plain l.End) ∷ []

-- a list of tokens and the place of its refusal
abbrev pub Row : Type 0
Row = List Token × ℕ

abbrev pub refused : ℕ → List Token → Row
refused place list = (list, place)

-- Each list is refused at its place: the tokens before it begin a program, and with the token there they begin none.
abbrev pub Refused : List Row → Type 0
Refused [] = Unit {0}
Refused (row ∷ rows) = IsFirstUnexpected Program row.0 row.1 × Refused rows

-- An operation is no target, no sign and no command stand inside, and nothing follows the block of a command. Branch, jump and
-- statement have their places.
abbrev pub refusals : List Row
refusals =
    -- a + b = 1
    refused 6 (spaced_at 0 1 (k.Ident (codes "a")) ∷ spaced_at 2 3 (k.Plain l.Plus) ∷ spaced_at 4 5 (k.Ident (codes "b")) ∷ spaced_at 6 7 (k.Plain l.Equal)
    ∷ spaced_at 8 9 (k.Int32 (pos 1)) ∷ ended 9)
    -- f(x -y)
    ∷ refused 5 (spaced_at 0 1 (k.Ident (codes "f")) ∷ tight_at 1 2 (k.Plain l.OpenParenthesis) ∷ tight_at 2 3 (k.Ident (codes "x")) ∷ spaced_at 4 5 (k.Plain l.Minus)
    ∷ tight_at 5 6 (k.Ident (codes "y")) ∷ tight_at 6 7 (k.Plain l.CloseParenthesis) ∷ ended 7)
    -- puts foo 1
    ∷ refused 9 (spaced_at 0 4 (k.Ident (codes "puts")) ∷ spaced_at 5 8 (k.Ident (codes "foo")) ∷ spaced_at 9 10 (k.Int32 (pos 1)) ∷ ended 10)
    -- foo 1 do end.bar
    ∷ refused 12 (spaced_at 0 3 (k.Ident (codes "foo")) ∷ spaced_at 4 5 (k.Int32 (pos 1)) ∷ spaced_at 6 8 (k.Plain l.Do) ∷ spaced_at 9 12 (k.Plain l.KeywordEnd)
    ∷ tight_at 12 13 (k.Plain l.Dot) ∷ tight_at 13 16 (k.Ident (codes "bar")) ∷ ended 16)
    -- unless a; elsif b; end
    ∷ refused 10 (spaced_at 0 6 (k.Plain l.Unless) ∷ spaced_at 7 8 (k.Ident (codes "a")) ∷ tight_at 8 9 (k.Plain l.Newline) ∷ spaced_at 10 15 (k.Plain l.Elsif)
    ∷ spaced_at 16 17 (k.Ident (codes "b")) ∷ tight_at 17 18 (k.Plain l.Newline) ∷ spaced_at 19 22 (k.Plain l.KeywordEnd) ∷ ended 22)
    -- def f; break; end
    ∷ refused 7 (spaced_at 0 3 (k.Plain l.Def) ∷ spaced_at 4 5 (k.Ident (codes "f")) ∷ tight_at 5 6 (k.Plain l.Newline) ∷ spaced_at 7 12 (k.Plain l.Break) ∷ tight_at 12 13 (k.Plain l.Newline)
    ∷ spaced_at 14 17 (k.Plain l.KeywordEnd) ∷ ended 17)
    -- class A; puts 1; end
    ∷ refused 9 (spaced_at 0 5 (k.Plain l.Class) ∷ spaced_at 6 7 (k.Constant (codes "A")) ∷ tight_at 7 8 (k.Plain l.Newline) ∷ spaced_at 9 13 (k.Ident (codes "puts"))
    ∷ spaced_at 14 15 (k.Int32 (pos 1)) ∷ tight_at 15 16 (k.Plain l.Newline) ∷ spaced_at 17 20 (k.Plain l.KeywordEnd) ∷ ended 20)
    ∷ []
