-- The commands, by their first words.
use Rattle.std.specs.Prelude.{ℕ, List}
use Rattle.cr_tool.specs.declared.reading_words.Command.{Command}
use Rattle.cr_tool.specs.declared.reading_words.Command.TheVariants as command
use Rattle.cr_tool.specs.Words.{run_word, still_word}

abbrev pub word_of : Command → List ℕ
word_of command.Run = run_word
word_of (command.Still still) = still_word still
