-- What opening a source gives: its bytes, the lines of a program, or an ending.
use Rattle.std.specs.Prelude.{◌≡◌, ◌⊎◌, ℕ, List, Option, IfSome, Result, Ok, Err, Vec, string_bytes}
use Rattle.std.specs.declared.alloc.Global.{Global}
use Rattle.cr_tool.specs.declared.ending.Closed.{Closed}
use Rattle.cr_tool.specs.declared.ending.Ending.{Ending}
use Rattle.cr_tool.specs.declared.ending.Ending.TheVariants as ending
use Rattle.cr_tool.specs.declared.sums.Line.{Line}
use Rattle.cr_tool.specs.Sums.{Spells}
use Rattle.cr_tool.specs.Endings.{refusal_line}
use Rattle.cr_tool.specs.Outside.{Reading, IsWhole}
use Rattle.cr_tool.specs.Refusals.{Demand, list_of_sums, HasRefusal}
use Rattle.cr_tool.specs.Answer.{CauseBefore}

-- these are the bytes that the source tells, if it tells them
abbrev pub Tells : Option (List ℕ) → List ℕ → Type 0
Tells left bytes = IfSome left (λ told. bytes ≡ told)

-- the line is that of the refusal, where the ending is one
abbrev pub LineIs : List ℕ → Ending → List ℕ → Type 0
LineIs bytes (ending.Refused refusal) text = text ≡ refusal_line bytes refusal
LineIs bytes other text = Unit {0}

-- An ending before a command does its work, with its cause, for a source with these bytes.
pub record IsClosed (demand : Demand) (source : Reading) (closed : Closed) : Type 0 where
  pub bytes : List ℕ
  pub told : Tells source.left bytes
  pub cause : CauseBefore demand closed.ending bytes source
  pub line : LineIs bytes closed.ending (string_bytes closed.line)

-- The program of a source that was read whole.
pub record IsProgram (source : Reading) (lines : List Line) : Type 0 where
  pub bytes : List ℕ
  pub told : Tells source.left bytes
  pub whole : IsWhole bytes source
  pub spelled : Spells bytes lines

abbrev pub IsOpened : Reading → Result (Vec Line Global) Closed → Type 0
IsOpened source (Ok lines) = IsProgram source lines.items
IsOpened source (Err closed) = IsClosed list_of_sums source closed

-- the bytes of a source that was read whole, or the ending of one that was not, whatever is asked of it
abbrev pub IsRead : Reading → Result (Vec ℕ Global) Closed → Type 0
IsRead source (Ok bytes) = Tells source.left bytes.items × IsWhole bytes.items source
IsRead source (Err closed) = (demand : Demand) → IsClosed demand source closed

-- this ending, or want of memory, with its line
pub record IsRefusedAs (bytes : List ℕ) (e : Ending) (closed : Closed) : Type 0 where
  pub is : (closed.ending ≡ e) ⊎ (closed.ending ≡ ending.NoMemory)
  pub line : LineIs bytes closed.ending (string_bytes closed.line)

-- the cause of an ending that is a refusal or want of memory
abbrev pub CauseOfRefusal : Demand → Ending → List ℕ → Type 0
CauseOfRefusal demand (ending.Refused refusal) bytes = HasRefusal demand bytes refusal
CauseOfRefusal demand ending.NoMemory bytes = Unit {0}
CauseOfRefusal demand other bytes = ⊥

-- The ending of a source with these bytes that is not what is asked, and its line.
pub record IsRefusal (demand : Demand) (bytes : List ℕ) (closed : Closed) : Type 0 where
  pub cause : CauseOfRefusal demand closed.ending bytes
  pub line : LineIs bytes closed.ending (string_bytes closed.line)
