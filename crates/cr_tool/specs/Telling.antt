-- What a still command tells, and how that ends.
use Rattle.std.specs.Prelude.{◌≡◌, ◌⊎◌, ℕ, List, Result, Ok, Err, Vec, string_bytes}
use Rattle.std.specs.declared.alloc.Global.{Global}
use Rattle.cr_grammar.specs.declared.tree.Tree.{Tree}
use Rattle.cr_source.specs.declared.fault.SourceFault.{SourceFault}
use Rattle.cr_source.specs.Source.{Answers, IsSource}
use Rattle.cr_tool.specs.declared.ending.Closed.{Closed}
use Rattle.cr_tool.specs.declared.words.Still.{Still}
use Rattle.cr_tool.specs.Outside.{Reading, Writing, Outside, IsUntouched}
use Rattle.cr_tool.specs.Refusals.{nothing}
use Rattle.cr_tool.specs.Still.{still_text, CauseOfTelling, StillCause}
use Rattle.cr_tool.specs.Opened.{Tells, LineIs, CauseOfRefusal}

-- the text of the program of a source, or why there is none
abbrev pub TellsOf : Still → List ℕ → Result (Vec ℕ Global) SourceFault → Type 0
TellsOf command bytes (Ok text) = (x : Tree) × IsSource bytes x × (text.items ≡ still_text command x)
TellsOf command bytes (Err fault) = Answers bytes (Err fault)

-- What it wrote of the text of a source with these bytes, or that it refused the source and wrote nothing.
pub record HasTold (command : Still) (bytes : List ℕ) (out : Writing) (closed : Closed) : Type 0 where
  pub cause : ((x : Tree) × IsSource bytes x × CauseOfTelling closed.ending (still_text command x) out) ⊎ (CauseOfRefusal nothing closed.ending bytes × IsUntouched out)
  pub line : LineIs bytes closed.ending (string_bytes closed.line)

-- What a still command came to, with its cause.
pub record IsTold (command : Still) (source : Reading) (out : Writing) (closed : Closed) : Type 0 where
  pub bytes : List ℕ
  pub told : Tells source.left bytes
  pub cause : (outside : Outside) → StillCause command closed.ending bytes (record outside { source = source; out = out })
  pub line : LineIs bytes closed.ending (string_bytes closed.line)
