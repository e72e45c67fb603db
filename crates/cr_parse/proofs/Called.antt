-- A call behind a receiver is the receiver put to what is read behind it.
use Rattle.std.proofs.Common.{◌≡◌, ℕ, Bool, List, Option, refl, ◌∙◌}
use Rattle.cr_grammar.specs.declared.tree.Tree.{Tree}
use Rattle.cr_grammar.specs.declared.within.Within.{Within}
use Rattle.cr_grammar.specs.declared.wanted.Wanted.{Wanted}
use Rattle.cr_grammar.specs.declared.word.Word.{Word}
use Rattle.cr_readers.specs.Reader.{Reader, State, Outcome, Found, Failed, and_then, ◌>>=◌, ◌>>◌, pure, wrap}
use Rattle.cr_readers.specs.Words.{ident}
use Rattle.cr_readers.specs.Bodies.{arguments, maybe_block}
use Rattle.cr_readers.specs.Links.{called}
use Rattle.cr_readers.specs.declared.operand.Operand.{Operand}
use Rattle.cr_readers.specs.Operand.{linked}
use Rattle.cr_parse.specs.declared.links.Calling.{Calling}
use Rattle.cr_parse.specs.Links.{calling}

-- what is read in three steps may be read in two and one
regrouped : {A B C : Type 0} (o : Outcome A) (p : A → Reader B) (q : B → Reader C)
    → and_then (and_then o p) q ≡ and_then o (λ x s. and_then (p x s) q)
regrouped (Found x s) p q = refl
regrouped (Failed e s) p q = refl

module _ (turns : ℕ) (rec : Wanted → Reader Tree) (within : Within) (free : Bool) (receiver : Tree) where
  abbrev put : Calling → Reader Operand
  put call = pure (linked receiver call.name call.arguments call.block)

  abbrev with_block : Word → Option (List Tree) → Reader Calling
  with_block name arguments = maybe_block turns rec within free >>= λ block. pure (record { name = name; arguments = arguments; block = block })

  abbrev with_arguments : Word → Reader Calling
  with_arguments name = arguments turns rec within >>= with_block name

  behind_arguments : (name : Word) (s : State)
      → and_then (with_arguments name s) put ≡ and_then (arguments turns rec within s) (λ arguments s. and_then (maybe_block turns rec within free s) (λ block s. Found (linked receiver name arguments block) s))
  behind_arguments name s =
      regrouped (arguments turns rec within s) (with_block name) put
      ∙ (λ i. and_then (arguments turns rec within s) (λ found s. regrouped (maybe_block turns rec within free s) (λ block. pure (record { name = name; arguments = found; block = block })) put i))

  behind_name : (name : Word) (s : State)
      → and_then (and_then (wrap name.at s) (λ _. with_arguments name)) put
      ≡ and_then (wrap name.at s) (λ _ s. and_then (arguments turns rec within s) (λ arguments s. and_then (maybe_block turns rec within free s) (λ block s. Found (linked receiver name arguments block) s)))
  behind_name name s =
      regrouped (wrap name.at s) (λ _. with_arguments name) put
      ∙ (λ i. and_then (wrap name.at s) (λ _ s. behind_arguments name s i))

  pub called_is : (s : State) → and_then (calling turns rec within free s) put ≡ called turns rec within free receiver s
  called_is s =
      regrouped (ident s) (λ name s. and_then (wrap name.at s) (λ _. with_arguments name)) put
      ∙ (λ i. and_then (ident s) (λ name s. behind_name name s i))
