-- The table of endings: the status and the closing line of each.
use Rattle.std.specs.Prelude.{ℕ, ◌+◌, ◌==◌, if◌then◌else◌, List, [], ◌∷◌, ◌++◌, take, Option, Some, None, codes}
use Rattle.std.specs.Fmt.{decimal}
use Rattle.cr_source.specs.declared.fault.Code.{Code as SourceCode}
use Rattle.cr_source.specs.declared.fault.Code.TheVariants as source
use Rattle.cr_tool.specs.declared.ending.Ending.{Ending}
use Rattle.cr_tool.specs.declared.ending.Ending.TheVariants as ending
use Rattle.cr_tool.specs.declared.ending.Refusal.{Refusal}
use Rattle.cr_tool.specs.declared.ending.Code.{Code}
use Rattle.cr_tool.specs.declared.ending.Code.TheVariants as code
use Rattle.cr_tool.specs.declared.ending.Which.{Which}
use Rattle.cr_tool.specs.declared.ending.Which.TheVariants as which

abbrev pub status_of : Ending → ℕ
status_of ending.Told = 0
status_of ending.Finished = 0
status_of ending.Usage = 2
status_of (ending.Refused refusal) = 3
status_of ending.SourceTooLong = 3
status_of (ending.ReadFault place) = 6
status_of (ending.WriteFault place) = 7
status_of ending.NoMemory = 8

-- the line and the column behind these bytes, from this line and column
abbrev pub place_after : ℕ → ℕ → List ℕ → ℕ × ℕ
place_after line column [] = (line, column)
place_after line column (c ∷ cs) = if c == 10 then place_after (line + 1) 1 cs else place_after line (column + 1) cs

-- The line and the column of a byte place, both from 1. Columns count bytes.
abbrev pub place_of : List ℕ → ℕ → ℕ × ℕ
place_of source at = place_after 1 1 (take at source)

abbrev pub place_text : List ℕ → Option ℕ → List ℕ
place_text source None = []
place_text source (Some at) = let place = place_of source at in
    decimal place.0 ++ codes ":" ++ decimal place.1 ++ codes ": "

abbrev pub source_text : SourceCode → List ℕ
source_text source.NotUtf8 = codes "L1 not UTF-8"
source_text source.BadByte = codes "L2 unexpected byte"
source_text source.OpenString = codes "L3 string not closed"
source_text source.BadEscape = codes "L4 bad escape"
source_text source.BadNumber = codes "L5 bad number"
source_text source.Unexpected = codes "P1 unexpected token"
source_text source.TooDeep = codes "P2 nested too deeply"
source_text source.TooManyNodes = codes "P3 too many nodes"

abbrev pub code_text : Code → List ℕ
code_text (code.Source of_source) = source_text of_source
code_text code.NotBuilt = codes "X0 not built yet"

abbrev pub which_text : Which → List ℕ
which_text which.Source = codes "source"
which_text which.Out = codes "out"

abbrev pub line : List ℕ → List ℕ
line text = text ++ 10 ∷ []

abbrev pub refusal_line : List ℕ → Refusal → List ℕ
refusal_line source refusal = line (place_text source refusal.at ++ code_text refusal.code)

-- what is written on the error output at the end of a command on this source
abbrev pub closing : List ℕ → Ending → List ℕ
closing source ending.Told = []
closing source ending.Finished = []
closing source ending.Usage = line (codes "usage: crystal_ec COMMAND FILE [TRACE] [--workers N] [--budget N] [--trace FILE]")
closing source (ending.Refused refusal) = refusal_line source refusal
closing source ending.SourceTooLong = line (codes "source too long")
closing source (ending.ReadFault place) = line (codes "read fault: " ++ which_text place)
closing source (ending.WriteFault place) = line (codes "write fault: " ++ which_text place)
closing source ending.NoMemory = line (codes "out of memory")
