-- What a still command answers, and why.
use Rattle.std.specs.Prelude.{◌≡◌, ◌⊎◌, ℕ, List, [], IfSome}
use Rattle.cr_io.specs.Sink.{Appends, AppendsFront}
use Rattle.cr_grammar.specs.declared.tree.Tree.{Tree}
use Rattle.cr_pretty.specs.Layout.{layout}
use Rattle.cr_source.specs.Source.{IsSource}
use Rattle.cr_tool.specs.declared.ending.Ending.{Ending}
use Rattle.cr_tool.specs.declared.ending.Ending.TheVariants as ending
use Rattle.cr_tool.specs.declared.ending.Which.TheVariants as which
use Rattle.cr_tool.specs.declared.report.Report.{Report}
use Rattle.cr_tool.specs.declared.words.Still.{Still}
use Rattle.cr_tool.specs.declared.words.Still.TheVariants.{Format}
use Rattle.cr_tool.specs.Endings.{status_of, closing}
use Rattle.cr_tool.specs.Outside.{Reading, Writing, Outside, FailsWriting, WritesWell, Writes, IsUntouched, IsWhole}
use Rattle.cr_tool.specs.Refusals.{nothing}
use Rattle.cr_tool.specs.Answer.{CauseBefore, IsExact}

-- the text that the command tells of a program
unfoldable pub still_text : Still → Tree → List ℕ
still_text Format x = layout x

-- The source was read whole, and is this program.
pub record IsProgramOf (bytes : List ℕ) (source : Reading) (x : Tree) : Type 0 where
  pub whole : IsWhole bytes source
  pub is : IsSource bytes x

-- What was written of the text of a command that ended so.
abbrev pub CauseOfTelling : Ending → List ℕ → Writing → Type 0
CauseOfTelling ending.Told text out = Appends out.written text out.written' × WritesWell out
CauseOfTelling (ending.WriteFault place) text out = (place ≡ which.Out) × FailsWriting out × AppendsFront out.written text out.written'
CauseOfTelling other text out = ⊥

-- The cause of each ending of a still command: one before it tells anything, and then nothing is written, or one of its telling.
abbrev pub StillCause : Still → Ending → List ℕ → Outside → Type 0
StillCause command e bytes outside =
    (CauseBefore nothing e bytes outside.source × IsUntouched outside.out)
    ⊎ ((x : Tree) × IsProgramOf bytes outside.source x × CauseOfTelling e (still_text command x) outside.out)

-- A report on a still command: the source's bytes, which are those that it tells, and what follows from them. No run began.
pub record IsStillReport (command : Still) (outside : Outside) (report : Report) : Type 0 where
  pub bytes : List ℕ
  pub told : IfSome outside.source.left (λ left. bytes ≡ left)
  pub cause : StillCause command report.ending bytes outside
  pub exact : IsExact nothing ending.Told report.ending bytes outside
  pub no_history : report.history.entries ≡ []
  pub status : report.status ≡ status_of report.ending
  pub errors_written : Writes outside.err (closing bytes report.ending)
