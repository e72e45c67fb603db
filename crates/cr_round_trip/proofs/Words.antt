-- The keywords and operators of a layout, each in front of what stands behind it there.
use Rattle.std.proofs.Common.{◌≡◌, ℕ, Bool, true, false, List, [], ◌∷◌, ◌++◌, refl}
use Rattle.std.specs.Prelude.{codes}
use Rattle.cr_syntax.specs.declared.look.TokenLook.TheVariants as l
use Rattle.cr_syntax.specs.declared.token.TokenKind.TheVariants as k
use Rattle.cr_syntax.specs.Lexes.{Before}
use Rattle.cr_grammar.specs.declared.operator.Binary.{Binary}
use Rattle.cr_grammar.specs.declared.operator.Binary.TheVariants as binary
use Rattle.cr_grammar.specs.declared.operator.Assignment.{Assignment}
use Rattle.cr_grammar.specs.declared.operator.Assignment.TheVariants as assignment
use Rattle.cr_pieces.specs.Fits.{blanked, put_behind, stands}
use Rattle.cr_pretty.specs.Layout.{binary_look, assignment_look, if_look, while_look, accessor_look}
use Rattle.cr_round_trip.proofs.Stops.{stop, word_ends}
use Rattle.cr_round_trip.proofs.Fit.{IsWord, IsOpener, IsSign, Opens}

-- ---- keywords that end a construct, or stand in front of a line or a bracket

pub end_word : IsWord l.KeywordEnd
end_word = record { standing = λ before s after e. word_ends (codes "end") after e; keeping = λ nesting. refl; opening = λ after. refl }

pub else_word : IsWord l.Else
else_word = record { standing = λ before s after e. word_ends (codes "else") after e; keeping = λ nesting. refl; opening = λ after. refl }

pub select_word : IsWord l.Select
select_word = record { standing = λ before s after e. word_ends (codes "select") after e; keeping = λ nesting. refl; opening = λ after. refl }

pub nil_word : IsWord l.Nil
nil_word = record { standing = λ before s after e. word_ends (codes "nil") after e; keeping = λ nesting. refl; opening = λ after. refl }

pub true_word : IsWord l.True
true_word = record { standing = λ before s after e. word_ends (codes "true") after e; keeping = λ nesting. refl; opening = λ after. refl }

pub false_word : IsWord l.False
false_word = record { standing = λ before s after e. word_ends (codes "false") after e; keeping = λ nesting. refl; opening = λ after. refl }

pub self_word : IsWord l.KeywordSelf
self_word = record { standing = λ before s after e. word_ends (codes "self") after e; keeping = λ nesting. refl; opening = λ after. refl }

pub is_nil_word : IsWord l.IsNil
is_nil_word = record { standing = λ before s after e. word_ends (codes "nil?") after e; keeping = λ nesting. refl; opening = λ after. refl }

pub is_a_word : IsWord l.IsA
is_a_word = record { standing = λ before s after e. word_ends (codes "is_a?") after e; keeping = λ nesting. refl; opening = λ after. refl }

pub yield_word : IsWord l.Yield
yield_word = record { standing = λ before s after e. word_ends (codes "yield") after e; keeping = λ nesting. refl; opening = λ after. refl }

pub super_word : IsWord l.Super
super_word = record { standing = λ before s after e. word_ends (codes "super") after e; keeping = λ nesting. refl; opening = λ after. refl }

pub spawn_word : IsWord l.Spawn
spawn_word = record { standing = λ before s after e. word_ends (codes "spawn") after e; keeping = λ nesting. refl; opening = λ after. refl }

pub do_word : IsWord l.Do
do_word = record { standing = λ before s after e. word_ends (codes "do") after e; keeping = λ nesting. refl; opening = λ after. refl }

pub return_word : IsWord l.Return
return_word = record { standing = λ before s after e. word_ends (codes "return") after e; keeping = λ nesting. refl; opening = λ after. refl }

pub next_word : IsWord l.Next
next_word = record { standing = λ before s after e. word_ends (codes "next") after e; keeping = λ nesting. refl; opening = λ after. refl }

pub break_word : IsWord l.Break
break_word = record { standing = λ before s after e. word_ends (codes "break") after e; keeping = λ nesting. refl; opening = λ after. refl }

-- ---- in front of a space

pub if_opener : (unless : Bool) → IsOpener (if_look unless)
if_opener true = record { standing = λ before s after. refl; keeping = λ nesting. refl; ready = refl }
if_opener false = record { standing = λ before s after. refl; keeping = λ nesting. refl; ready = refl }

pub if_opens : (unless : Bool) → Opens (if_look unless)
if_opens true after = refl
if_opens false after = refl

pub while_opener : (until : Bool) → IsOpener (while_look until)
while_opener true = record { standing = λ before s after. refl; keeping = λ nesting. refl; ready = refl }
while_opener false = record { standing = λ before s after. refl; keeping = λ nesting. refl; ready = refl }

pub while_opens : (until : Bool) → Opens (while_look until)
while_opens true after = refl
while_opens false after = refl

pub accessor_opener : (property : Bool) → IsOpener (accessor_look property)
accessor_opener true = record { standing = λ before s after. refl; keeping = λ nesting. refl; ready = refl }
accessor_opener false = record { standing = λ before s after. refl; keeping = λ nesting. refl; ready = refl }

pub accessor_opens : (property : Bool) → Opens (accessor_look property)
accessor_opens true after = refl
accessor_opens false after = refl

pub elsif_opener : IsOpener l.Elsif
elsif_opener = record { standing = λ before s after. refl; keeping = λ nesting. refl; ready = refl }

pub case_opener : IsOpener l.Case
case_opener = record { standing = λ before s after. refl; keeping = λ nesting. refl; ready = refl }

pub in_opener : IsOpener l.In
in_opener = record { standing = λ before s after. refl; keeping = λ nesting. refl; ready = refl }

pub when_opener : IsOpener l.When
when_opener = record { standing = λ before s after. refl; keeping = λ nesting. refl; ready = refl }

pub return_opener : IsOpener l.Return
return_opener = record { standing = λ before s after. refl; keeping = λ nesting. refl; ready = refl }

pub next_opener : IsOpener l.Next
next_opener = record { standing = λ before s after. refl; keeping = λ nesting. refl; ready = refl }

pub of_opener : IsOpener l.Of
of_opener = record { standing = λ before s after. refl; keeping = λ nesting. refl; ready = refl }

pub colon_opener : IsOpener l.Colon
colon_opener = record { standing = λ before s after. refl; keeping = λ nesting. refl; ready = refl }

pub arrow_opener : IsOpener l.Arrow
arrow_opener = record { standing = λ before s after. refl; keeping = λ nesting. refl; ready = refl }

pub equal_opener : IsOpener l.Equal
equal_opener = record { standing = λ before s after. refl; keeping = λ nesting. refl; ready = refl }

pub pipe_opener : IsOpener l.Pipe
pipe_opener = record { standing = λ before s after. refl; keeping = λ nesting. refl; ready = refl }

pub less_opener : IsOpener l.Less
less_opener = record { standing = λ before s after. refl; keeping = λ nesting. refl; ready = refl }

pub class_opener : IsOpener l.Class
class_opener = record { standing = λ before s after. refl; keeping = λ nesting. refl; ready = refl }

pub module_opener : IsOpener l.Module
module_opener = record { standing = λ before s after. refl; keeping = λ nesting. refl; ready = refl }

pub include_opener : IsOpener l.Include
include_opener = record { standing = λ before s after. refl; keeping = λ nesting. refl; ready = refl }

pub def_opener : IsOpener l.Def
def_opener = record { standing = λ before s after. refl; keeping = λ nesting. refl; ready = refl }

pub binary_opener : (operator : Binary) → IsOpener (binary_look operator)
binary_opener binary.Or = record { standing = λ before s after. refl; keeping = λ nesting. refl; ready = refl }
binary_opener binary.And = record { standing = λ before s after. refl; keeping = λ nesting. refl; ready = refl }
binary_opener binary.Equal = record { standing = λ before s after. refl; keeping = λ nesting. refl; ready = refl }
binary_opener binary.NotEqual = record { standing = λ before s after. refl; keeping = λ nesting. refl; ready = refl }
binary_opener binary.Less = record { standing = λ before s after. refl; keeping = λ nesting. refl; ready = refl }
binary_opener binary.LessEqual = record { standing = λ before s after. refl; keeping = λ nesting. refl; ready = refl }
binary_opener binary.Greater = record { standing = λ before s after. refl; keeping = λ nesting. refl; ready = refl }
binary_opener binary.GreaterEqual = record { standing = λ before s after. refl; keeping = λ nesting. refl; ready = refl }
binary_opener binary.ShiftLeft = record { standing = λ before s after. refl; keeping = λ nesting. refl; ready = refl }
binary_opener binary.Plus = record { standing = λ before s after. refl; keeping = λ nesting. refl; ready = refl }
binary_opener binary.Minus = record { standing = λ before s after. refl; keeping = λ nesting. refl; ready = refl }
binary_opener binary.WrappingPlus = record { standing = λ before s after. refl; keeping = λ nesting. refl; ready = refl }
binary_opener binary.WrappingMinus = record { standing = λ before s after. refl; keeping = λ nesting. refl; ready = refl }
binary_opener binary.Star = record { standing = λ before s after. refl; keeping = λ nesting. refl; ready = refl }
binary_opener binary.SlashSlash = record { standing = λ before s after. refl; keeping = λ nesting. refl; ready = refl }
binary_opener binary.Percent = record { standing = λ before s after. refl; keeping = λ nesting. refl; ready = refl }
binary_opener binary.WrappingStar = record { standing = λ before s after. refl; keeping = λ nesting. refl; ready = refl }

pub assignment_opener : (operator : Assignment) → IsOpener (assignment_look operator)
assignment_opener assignment.Plain = record { standing = λ before s after. refl; keeping = λ nesting. refl; ready = refl }
assignment_opener assignment.Plus = record { standing = λ before s after. refl; keeping = λ nesting. refl; ready = refl }
assignment_opener assignment.Minus = record { standing = λ before s after. refl; keeping = λ nesting. refl; ready = refl }
assignment_opener assignment.Star = record { standing = λ before s after. refl; keeping = λ nesting. refl; ready = refl }
assignment_opener assignment.SlashSlash = record { standing = λ before s after. refl; keeping = λ nesting. refl; ready = refl }
assignment_opener assignment.Percent = record { standing = λ before s after. refl; keeping = λ nesting. refl; ready = refl }
assignment_opener assignment.Or = record { standing = λ before s after. refl; keeping = λ nesting. refl; ready = refl }

-- ---- brackets

pub open_parenthesis : IsSign l.OpenParenthesis
open_parenthesis = record { standing = λ before s after. refl; keeping = λ nesting. refl }

pub close_parenthesis : IsSign l.CloseParenthesis
close_parenthesis = record { standing = λ before s after. refl; keeping = λ nesting. refl }

pub open_bracket : IsSign l.OpenBracket
open_bracket = record { standing = λ before s after. refl; keeping = λ nesting. refl }

pub close_bracket : IsSign l.CloseBracket
close_bracket = record { standing = λ before s after. refl; keeping = λ nesting. refl }

pub dot : IsSign l.Dot
dot = record { standing = λ before s after. refl; keeping = λ nesting. refl }

pub question : IsSign l.Question
question = record { standing = λ before s after. refl; keeping = λ nesting. refl }

pub colon_colon : IsSign l.ColonColon
colon_colon = record { standing = λ before s after. refl; keeping = λ nesting. refl }
