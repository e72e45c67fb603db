-- What a command line is answered.
use Rattle.std.specs.Prelude.{ℕ, List}
use Rattle.cr_tool.specs.declared.report.Report.{Report}
use Rattle.cr_tool.specs.declared.words.RunWords.{RunWords}
use Rattle.cr_tool.specs.declared.words.StillWords.{StillWords}
use Rattle.cr_tool.specs.declared.words.Words.{Words}
use Rattle.cr_tool.specs.declared.words.Words.TheVariants.{Run, Still}
use Rattle.cr_tool.specs.Words.{Says}
use Rattle.cr_tool.specs.Outside.{Outside}
use Rattle.cr_tool.specs.Answer.{IsNoCommand}
use Rattle.cr_tool.specs.Run.{IsReport}
use Rattle.cr_tool.specs.Still.{IsStillReport}

-- The report is one on the command that the words say; or one on words that say none.
pub record IsAnswer (line : List (List ℕ)) (outside : Outside) (report : Report) : Type 0 where
  pub run : (words : RunWords) → Says line (Run words) → IsReport words.budget outside report
  pub still : (words : StillWords) → Says line (Still words) → IsStillReport words.command outside report
  pub no_command : ((words : Words) → Says line words → ⊥) → IsNoCommand outside report
