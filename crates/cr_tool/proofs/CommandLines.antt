-- Which answer the words of a command line have.
use Rattle.std.proofs.Common.{◌≡◌, ℕ, List, [], ◌∷◌, None, Result, IsErrOf, ◌↔◌, length, arith, refl, sym, ap, ◌∙◌}
use Rattle.cr_tool.specs.declared.reading_words.Command.{Command}
use Rattle.cr_tool.specs.declared.reading_words.Command.TheVariants as command
use Rattle.cr_tool.specs.declared.words.Words.{Words}
use Rattle.cr_tool.specs.declared.words.Words.TheVariants as words
use Rattle.cr_tool.specs.declared.words.RunWords.{RunWords}
use Rattle.cr_tool.specs.declared.words.StillWords.{StillWords}
use Rattle.cr_tool.specs.declared.words.Still.{Still}
use Rattle.cr_tool.specs.declared.words.Still.TheVariants as still
use Rattle.cr_tool.specs.declared.words.Job.TheVariants as job
use Rattle.cr_tool.specs.declared.words.WordsFault.{WordsFault}
use Rattle.cr_tool.specs.declared.words.WordsFault.TheVariants as fault
use Rattle.cr_tool.specs.Commands.{word_of}
use Rattle.cr_tool.specs.Words.{run_word, still_word, IsLineOf, Says, default_workers, default_budget}

abbrev run_of : List ℕ → RunWords
run_of file = record { job = job.File file; workers = default_workers; budget = default_budget; trace = None }

abbrev still_of : Still → List ℕ → StillWords
still_of command file = record { command = command; file = file; trace = None }

-- what a command with a file says
said_by : (line : List (List ℕ)) (named : Command) (file : List ℕ) → IsLineOf line (word_of named) file → (said : Words) × Says line said
said_by line command.Run file is = (words.Run (run_of file), record { file = file; is_run = is; says = refl })
said_by line (command.Still s) file is = (words.Still (still_of s file), record { command = s; file = file; is_still = is; says = refl })

-- a command and a file
record Named (line : List (List ℕ)) : Type 0 where
  pub command : Command
  pub file : List ℕ
  pub is : IsLineOf line (word_of command) file

-- words that say something are a command with a file
named_by : (line : List (List ℕ)) (said : Words) → Says line said → Named line
named_by line (words.Run run) is = record { command = command.Run; file = is.file; is = is.is_run }
named_by line (words.Still s) is = record { command = command.Still is.command; file = is.file; is = is.is_still }

-- words that are no command with a file say nothing
pub nothing_said : (line : List (List ℕ)) → ((named : Command) (file : List ℕ) → IsLineOf line (word_of named) file → ⊥) → (said : Words) → Says line said → ⊥
nothing_said line never said is =
    let named = named_by line said is in
    never named.command named.file named.is

-- a command with a file is not answered by `Usage`
pub no_usage : (line : List (List ℕ)) (named : Command) (file : List ℕ) (r : Result Words WordsFault) → IsLineOf line (word_of named) file → (IsErrOf r fault.Usage → ⊥) → IsErrOf r fault.Usage ↔ ((said : Words) → Says line said → ⊥)
no_usage line named file r is other =
    let said = said_by line named file is in
    (λ usage. absurd (other usage), λ never. absurd (never said.0 said.1))

-- where words that say something are not read, memory ran out
pub words_memory : (line : List (List ℕ)) (said : Words) (f : WordsFault) → Says line said → ((f ≡ fault.Usage) → (said : Words) → Says line said → ⊥) → f ≡ fault.NoMemory
words_memory line said fault.Usage is usage = absurd (usage refl said is)
words_memory line said fault.NoMemory is usage = refl

-- ---- words say one thing

same_words : (line : List (List ℕ)) (a b x y : List ℕ) → line ≡ a ∷ x ∷ [] → line ≡ b ∷ y ∷ [] → (a ≡ b) × (x ≡ y)
same_words line a b x y one two =
    let both : a ∷ x ∷ [] ≡ b ∷ y ∷ [] = sym one ∙ two in
    let first : a ≡ b = cc in
    let second : x ≡ y = cc in
    (first, second)

run_is_not_still : (s : Still) → run_word ≡ still_word s → ⊥
run_is_not_still still.Format is =
    let lengths : length run_word ≡ length (still_word still.Format) = ap length is in
    omega arith

one_still : (s t : Still) → still_word s ≡ still_word t → s ≡ t
one_still still.Format still.Format is = refl

pub one_saying : (line : List (List ℕ)) (a b : Words) → Says line a → Says line b → a ≡ b
one_saying line (words.Run r) (words.Run s) one two =
    let same = same_words line run_word run_word one.file two.file one.is_run.words two.is_run.words in
    ap (λ (run : RunWords). words.Run run) (one.says ∙ ap run_of same.1 ∙ sym two.says)
one_saying line (words.Run r) (words.Still s) one two =
    absurd (run_is_not_still two.command (same_words line run_word (still_word two.command) one.file two.file one.is_run.words two.is_still.words).0)
one_saying line (words.Still r) (words.Run s) one two =
    absurd (run_is_not_still one.command (sym (same_words line (still_word one.command) run_word one.file two.file one.is_still.words two.is_run.words).0))
one_saying line (words.Still r) (words.Still s) one two =
    let same = same_words line (still_word one.command) (still_word two.command) one.file two.file one.is_still.words two.is_still.words in
    ap (λ (said : StillWords). words.Still said) (one.says ∙ ap (λ (c : Still). still_of c one.file) (one_still one.command two.command same.0) ∙ ap (still_of two.command) same.1 ∙ sym two.says)

pub same_run : (line : List (List ℕ)) (a b : RunWords) → Says line (words.Run a) → Says line (words.Run b) → a ≡ b
same_run line a b one two =
    let both : words.Run a ≡ words.Run b = one_saying line (words.Run a) (words.Run b) one two in
    cc

pub same_still : (line : List (List ℕ)) (a b : StillWords) → Says line (words.Still a) → Says line (words.Still b) → a ≡ b
same_still line a b one two =
    let both : words.Still a ≡ words.Still b = one_saying line (words.Still a) (words.Still b) one two in
    cc

pub run_or_still : (line : List (List ℕ)) (a : RunWords) (b : StillWords) → Says line (words.Run a) → Says line (words.Still b) → ⊥
run_or_still line a b one two =
    let both : words.Run a ≡ words.Still b = one_saying line (words.Run a) (words.Still b) one two in
    cc
