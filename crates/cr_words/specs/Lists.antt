-- Lists that are read with what was found before them.
use Rattle.std.specs.Prelude.{ℕ, Bool, true, false, List, [], ◌∷◌, ◌++◌}
use Rattle.std.specs.List.{flat_map}
use Rattle.cr_syntax.specs.declared.look.TokenLook.TheVariants as l
use Rattle.cr_readers.specs.Reader.{State, Outcome, Found, Reader, ◌>>◌, pure, and_then, choose, many, seen, expect}
use Rattle.cr_readers.specs.Lists.{separators}

-- what was found before, and what is found now
unfoldable pub gather : {A : Type 0} → List A → Outcome (List A) → Outcome (List A)
gather found o = and_then o (λ xs s. Found (found ++ xs) s)

-- what was found before, and what each of those stands for that are found now
unfoldable pub gather_each : {A B : Type 0} → (A → List B) → List B → Outcome (List A) → Outcome (List B)
gather_each each found o = and_then o (λ xs s. Found (found ++ flat_map each xs) s)

-- so many separators at most
unfoldable pub skip : ℕ → State → Outcome (Unit {0})
skip turns s = and_then (many (seen l.Newline) (expect l.Newline) turns s) (λ xs s. Found tt s)

-- what comes behind a line: separators, behind which another may follow, or nothing
unfoldable pub behind_line : ℕ → Reader Bool
behind_line turns = choose (seen l.Newline) (do expect l.Newline; separators turns; pure true) (pure false)

-- what follows the line x
abbrev pub go_on : {A : Type 0} → A → List A → Reader (List A) → Bool → Reader (List A)
go_on x found more true = λ s. gather (found ++ x ∷ []) (more s)
go_on x found more false = λ s. Found (found ++ x ∷ []) s
