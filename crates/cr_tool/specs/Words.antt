-- What the words of a command line say.
use Rattle.std.specs.Prelude.{◌≡◌, ◌≢◌, ℕ, List, [], ◌∷◌, slice_get, None, Some, codes}
use Rattle.cr_tool.specs.declared.words.Words.{Words}
use Rattle.cr_tool.specs.declared.words.Words.TheVariants as words
use Rattle.cr_tool.specs.declared.words.RunWords.{RunWords}
use Rattle.cr_tool.specs.declared.words.StillWords.{StillWords}
use Rattle.cr_tool.specs.declared.words.Still.{Still}
use Rattle.cr_tool.specs.declared.words.Still.TheVariants as still
use Rattle.cr_tool.specs.declared.words.Job.TheVariants as job

-- A file word is not empty and does not begin with `-`.
pub record IsFileWord (word : List ℕ) : Type 0 where
  pub some : word ≢ []
  pub no_option : slice_get word 0 ≢ Some 45

abbrev pub default_workers : ℕ
default_workers = 4

abbrev pub default_budget : ℕ
default_budget = 10000000

abbrev pub run_word : List ℕ
run_word = codes "run"

abbrev pub still_word : Still → List ℕ
still_word still.Format = codes "format"

-- The words are this command and this file.
pub record IsLineOf (line : List (List ℕ)) (command file : List ℕ) : Type 0 where
  pub words : line ≡ command ∷ file ∷ []
  pub is_file : IsFileWord file

-- `run FILE`, with the defaults for what it does not say
pub record IsRunLine (line : List (List ℕ)) (run : RunWords) : Type 0 where
  pub file : List ℕ
  pub is_run : IsLineOf line run_word file
  pub says : run ≡ record { job = job.File file; workers = default_workers; budget = default_budget; trace = None }

-- `format FILE`
pub record IsStillLine (line : List (List ℕ)) (said : StillWords) : Type 0 where
  pub command : Still
  pub file : List ℕ
  pub is_still : IsLineOf line (still_word command) file
  pub says : said ≡ record { command = command; file = file; trace = None }

-- these words are a command line, and say this
abbrev pub Says : List (List ℕ) → Words → Type 0
Says line (words.Run run) = IsRunLine line run
Says line (words.Still said) = IsStillLine line said
