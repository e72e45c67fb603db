-- A name behind which neither parentheses nor a block open stays a name alone.
use Rattle.std.proofs.Common.{◌≡◌, ℕ, Bool, false, refl}
use Rattle.cr_syntax.specs.declared.look.TokenLook.TheVariants as l
use Rattle.cr_grammar.specs.declared.tree.Tree.{Tree}
use Rattle.cr_grammar.specs.declared.within.Within.{Within}
use Rattle.cr_grammar.specs.declared.wanted.Wanted.{Wanted}
use Rattle.cr_grammar.specs.declared.word.Word.{Word}
use Rattle.cr_readers.specs.Goes.{begins_block}
use Rattle.cr_readers.specs.Reader.{Reader, State, Found, passes, tight_seen}
use Rattle.cr_readers.specs.declared.operand.Operand.TheVariants.{Name}
use Rattle.cr_parse.specs.Named.{behind_name}

pub stays_alone : (turns : ℕ) (rec : Wanted → Reader Tree) (within : Within) (free : Bool) (name : Word) (s : State)
    → passes (tight_seen l.OpenParenthesis) s.rest ≡ false → passes (begins_block free) s.rest ≡ false
    → behind_name turns rec within free name s ≡ Found (Name name) s
unfolding behind_name
stays_alone turns rec within free name s parentheses block = rw (parentheses) (rw (block) refl)
