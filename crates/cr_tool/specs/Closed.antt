-- The closing line that an ending carries.
use Rattle.std.specs.Prelude.{ℕ, List, [], string_bytes}
use Rattle.cr_tool.specs.declared.ending.Closed.{Closed}
use Rattle.cr_tool.specs.declared.ending.Ending.{Ending}
use Rattle.cr_tool.specs.declared.ending.Ending.TheVariants as ending
use Rattle.cr_tool.specs.Endings.{closing}

-- the closing line of an ending that speaks of no place
abbrev pub fixed : Ending → List ℕ
fixed (ending.Refused refusal) = []
fixed other = closing [] other

abbrev pub text_by : Ending → List ℕ → List ℕ
text_by (ending.Refused refusal) text = text
text_by other text = fixed other

abbrev pub text_of : Closed → List ℕ
text_of closed = text_by closed.ending (string_bytes closed.line)
