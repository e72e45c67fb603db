-- Each level is what goes on at the next tighter one, and then at its own. Where no operator comes, nothing goes on at any.
use Rattle.std.proofs.Common.{◌≡◌, ℕ, zero, suc, ◌<◌, Bool, true, false, ◌||◌, List, [], ◌∷◌, refl, ap, ◌∙◌, arith}
use Rattle.cr_syntax.specs.declared.look.TokenLook.{TokenLook}
use Rattle.cr_grammar.specs.declared.tree.Tree.{Tree}
use Rattle.cr_grammar.specs.declared.within.Within.{Within}
use Rattle.cr_grammar.specs.declared.wanted.Wanted.{Wanted}
use Rattle.cr_syntax.specs.declared.token.Token.{Token}
use Rattle.cr_syntax.specs.Look.{look_of}
use Rattle.cr_readers.specs.Goes.{is_operator}
use Rattle.cr_readers.specs.Reader.{Reader, State, Test, Outcome, Found, and_then, passes, either, repeated}
use Rattle.cr_words.specs.Tables.{table, of_some_level}
use Rattle.cr_words.specs.declared.operators.Level.{Level}
use Rattle.cr_words.specs.declared.operators.Level.TheVariants as v
use Rattle.cr_parse.specs.Levels.{tighter, behind, behind_some, operation, at_level}

module _ (turns : ℕ) (rec : Wanted → Reader Tree) (within : Within) (free : Bool) where
  pub behind_steps : (level : Level) (x : Tree × TokenLook) (s : State)
      → behind turns rec within free level x s ≡ and_then (behind_some turns rec within free (tighter level) x s) (at_level turns rec within free level)
  behind_steps v.Or x s = refl
  behind_steps v.And x s = refl
  behind_steps v.Cmp x s = refl
  behind_steps v.Shift x s = refl
  behind_steps v.Sum x s = refl
  behind_steps v.Prod x s = refl

apart : (a b : Bool) → (a || b) ≡ false → (a ≡ false) × (b ≡ false)
apart true b is = absurd cc
apart false b is = (refl, is)

neither : (a b : Test) (rest : List Token) → passes (either a b) rest ≡ false → (passes a rest ≡ false) × (passes b rest ≡ false)
neither a b [] is = (refl, refl)
neither a b (t ∷ ts) is = apart (a (look_of t.kind) t.spaced) (b (look_of t.kind) t.spaced) is

-- an operator of a level above this one
abbrev above_sum : Test
above_sum = is_operator (table v.Prod)

abbrev above_shift : Test
above_shift = either (is_operator (table v.Sum)) above_sum

abbrev above_cmp : Test
above_cmp = either (is_operator (table v.Shift)) above_shift

abbrev above_and : Test
above_and = either (is_operator (table v.Cmp)) above_cmp

abbrev above_or : Test
above_or = either (is_operator (table v.And)) above_and

module _ (rest : List Token) (is : passes of_some_level rest ≡ false) where
  none_above_or : passes above_or rest ≡ false
  none_above_or = (neither (is_operator (table v.Or)) above_or rest is).1

  none_above_and : passes above_and rest ≡ false
  none_above_and = (neither (is_operator (table v.And)) above_and rest none_above_or).1

  none_above_cmp : passes above_cmp rest ≡ false
  none_above_cmp = (neither (is_operator (table v.Cmp)) above_cmp rest none_above_and).1

  none_above_shift : passes above_shift rest ≡ false
  none_above_shift = (neither (is_operator (table v.Shift)) above_shift rest none_above_cmp).1

  none_at : (level : Level) → passes (is_operator (table level)) rest ≡ false
  none_at v.Or = (neither (is_operator (table v.Or)) above_or rest is).0
  none_at v.And = (neither (is_operator (table v.And)) above_and rest none_above_or).0
  none_at v.Cmp = (neither (is_operator (table v.Cmp)) above_cmp rest none_above_and).0
  none_at v.Shift = (neither (is_operator (table v.Shift)) above_shift rest none_above_cmp).0
  none_at v.Sum = (neither (is_operator (table v.Sum)) above_sum rest none_above_shift).0
  none_at v.Prod = (neither (is_operator (table v.Sum)) above_sum rest none_above_shift).1

never_again : {A : Type 0} (test : Test) (p : A → Reader A) (n : ℕ) (x : A) (s : State)
    → 0 < n → passes test s.rest ≡ false → repeated test p n x s ≡ Found x s
never_again test p zero x s below is = absurd (omega arith)
never_again test p (suc n) x s below is = rw (is) refl

module _ (turns : ℕ) (rec : Wanted → Reader Tree) (within : Within) (free : Bool) where
  nothing_at : (level : Level) (x : Tree × TokenLook) (s : State)
      → 0 < turns → passes of_some_level s.rest ≡ false → at_level turns rec within free level x s ≡ Found x s
  nothing_at v.Or x s below is = never_again (is_operator (table v.Or)) (operation turns rec within free v.Or) turns x s below (none_at s.rest is v.Or)
  nothing_at v.And x s below is = never_again (is_operator (table v.And)) (operation turns rec within free v.And) turns x s below (none_at s.rest is v.And)
  nothing_at v.Cmp x s below is = rw (none_at s.rest is v.Cmp) refl
  nothing_at v.Shift x s below is = never_again (is_operator (table v.Shift)) (operation turns rec within free v.Shift) turns x s below (none_at s.rest is v.Shift)
  nothing_at v.Sum x s below is = never_again (is_operator (table v.Sum)) (operation turns rec within free v.Sum) turns x s below (none_at s.rest is v.Sum)
  nothing_at v.Prod x s below is = never_again (is_operator (table v.Prod)) (operation turns rec within free v.Prod) turns x s below (none_at s.rest is v.Prod)

  from_tighter : (level : Level) (x : Tree × TokenLook) (s : State)
      → 0 < turns → passes of_some_level s.rest ≡ false → behind_some turns rec within free (tighter level) x s ≡ Found x s
      → behind turns rec within free level x s ≡ Found x s
  from_tighter level x s below is all =
      behind_steps turns rec within free level x s
      ∙ ap (λ o. and_then o (at_level turns rec within free level)) all
      ∙ nothing_at level x s below is

  nothing_prod : (x : Tree × TokenLook) (s : State) → 0 < turns → passes of_some_level s.rest ≡ false → behind turns rec within free v.Prod x s ≡ Found x s
  nothing_prod x s below is = from_tighter v.Prod x s below is refl

  nothing_sum : (x : Tree × TokenLook) (s : State) → 0 < turns → passes of_some_level s.rest ≡ false → behind turns rec within free v.Sum x s ≡ Found x s
  nothing_sum x s below is = from_tighter v.Sum x s below is (nothing_prod x s below is)

  nothing_shift : (x : Tree × TokenLook) (s : State) → 0 < turns → passes of_some_level s.rest ≡ false → behind turns rec within free v.Shift x s ≡ Found x s
  nothing_shift x s below is = from_tighter v.Shift x s below is (nothing_sum x s below is)

  nothing_cmp : (x : Tree × TokenLook) (s : State) → 0 < turns → passes of_some_level s.rest ≡ false → behind turns rec within free v.Cmp x s ≡ Found x s
  nothing_cmp x s below is = from_tighter v.Cmp x s below is (nothing_shift x s below is)

  nothing_and : (x : Tree × TokenLook) (s : State) → 0 < turns → passes of_some_level s.rest ≡ false → behind turns rec within free v.And x s ≡ Found x s
  nothing_and x s below is = from_tighter v.And x s below is (nothing_cmp x s below is)

  pub nothing_or : (x : Tree × TokenLook) (s : State) → 0 < turns → passes of_some_level s.rest ≡ false → behind turns rec within free v.Or x s ≡ Found x s
  nothing_or x s below is = from_tighter v.Or x s below is (nothing_and x s below is)

  pub nothing_behind : (level : Level) (x : Tree × TokenLook) (s : State)
      → 0 < turns → passes of_some_level s.rest ≡ false → behind turns rec within free level x s ≡ Found x s
  nothing_behind v.Or = nothing_or
  nothing_behind v.And = nothing_and
  nothing_behind v.Cmp = nothing_cmp
  nothing_behind v.Shift = nothing_shift
  nothing_behind v.Sum = nothing_sum
  nothing_behind v.Prod = nothing_prod
