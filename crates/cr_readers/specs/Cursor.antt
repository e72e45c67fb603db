-- What a `Cursor` shows to the readers, and the steps that are no reader by themselves.
use Rattle.std.specs.Prelude.{◌≡◌, ℕ, zero, suc, max, not, true, cond, List, [], ◌∷◌, Option, Some, None, drop}
use denote.Ref.{Bor}
use Rattle.cr_syntax.specs.declared.look.TokenLook.{TokenLook}
use Rattle.cr_syntax.specs.declared.look.TokenLook.TheVariants.{Newline}
use Rattle.cr_syntax.specs.declared.token.Token.{Token}
use Rattle.cr_readers.specs.declared.cursor.Cursor.{Cursor}
use Rattle.cr_readers.specs.Reader.{State, Test, passes, seen, look_at, tail, next, deeper, shallower, above_part}

-- the look of the token before this place; the first token stands as if at the start of a line
abbrev pub before_at : ℕ → List Token → TokenLook
before_at zero list = Newline
before_at (suc n) list = look_at (drop n list)

abbrev pub state_of : Cursor → State
state_of c = record { before = before_at c.at c.list.now; rest = drop c.at c.list.now; depth = c.depth; nodes = c.nodes; height = c.height; limited = true }

abbrev pub start_of : List Token → State
start_of list = record { before = Newline; rest = list; depth = 0; nodes = 0; height = 1; limited = true }

-- the first of these tokens, or none where there are none
abbrev pub IsFirst : Option (Bor Token) → List Token → Type 0
IsFirst None list = list ≡ []
IsFirst (Some t) list = list ≡ t.now ∷ tail list

-- any tight token
abbrev pub any_tight : Test
any_tight found spaced = not spaced

-- behind the next token, if it has this look
unfoldable pub after : TokenLook → State → State
after look s = cond (passes (seen look) s.rest) (next s) s

-- ---- `part` and `beside` in two steps

unfoldable pub entered : State → State
entered s = record s { depth = deeper s.depth }

unfoldable pub left_part : ℕ → State → State
left_part height s = record s { depth = shallower s.depth; height = above_part height s.height }

unfoldable pub left_beside : ℕ → State → State
left_beside height s = record s { height = max height s.height }
