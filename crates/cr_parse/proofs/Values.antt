-- Where no operator comes, nothing goes on behind the first operand of a value.
use Rattle.std.proofs.Common.{◌≡◌, ℕ, ◌<◌, Bool, false, ap}
use Rattle.cr_syntax.specs.declared.look.TokenLook.{TokenLook}
use Rattle.cr_grammar.specs.declared.tree.Tree.{Tree}
use Rattle.cr_grammar.specs.declared.within.Within.{Within}
use Rattle.cr_grammar.specs.declared.wanted.Wanted.{Wanted}
use Rattle.cr_readers.specs.Operations.{or_from}
use Rattle.cr_readers.specs.Reader.{Reader, State, Found, and_then, passes, pure}
use Rattle.cr_words.specs.Tables.{of_some_level}
use Rattle.cr_parse.proofs.Levels.{nothing_or}

pub nothing_goes_on : (turns : ℕ) (rec : Wanted → Reader Tree) (within : Within) (free : Bool) (x : Tree × TokenLook) (s : State)
    → 0 < turns → passes of_some_level s.rest ≡ false
    → and_then (or_from turns rec within free x s) (λ y. pure y.0) ≡ Found x.0 s
nothing_goes_on turns rec within free x s below is = ap (λ o. and_then o (λ y. pure y.0)) (nothing_or turns rec within free x s below is)
