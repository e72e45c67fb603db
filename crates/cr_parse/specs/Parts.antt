-- The parts of a text with insertions as they are gathered, and what follows its first value.
use Rattle.std.specs.Prelude.{ℕ, Bool, List, [], ◌∷◌, ◌++◌, map}
use Rattle.cr_syntax.specs.declared.look.TokenLook.TheVariants as l
use Rattle.cr_grammar.specs.declared.tree.Tree.{Tree}
use Rattle.cr_grammar.specs.declared.tree.Tree.TheVariants as tree
use Rattle.cr_grammar.specs.declared.within.Within.{Within}
use Rattle.cr_grammar.specs.declared.wanted.Wanted.{Wanted}
use Rattle.cr_grammar.specs.declared.word.Word.{Word}
use Rattle.cr_readers.specs.Reader.{Reader, ◌>>=◌, ◌>>◌, pure, seen, many, repeated, holder}
use Rattle.cr_readers.specs.Words.{last_text}
use Rattle.cr_readers.specs.Primaries.{inserted, part_behind}
use Rattle.cr_parse.specs.declared.literals.Parts.{Parts}

-- what was found before, and what is found now
abbrev pub behind : Parts → List (Tree × List ℕ) → Parts
behind found more = record { texts = found.texts ++ map (λ (x : Tree × List ℕ). x.1) more; inserted = found.inserted ++ map (λ (x : Tree × List ℕ). x.0) more }

-- one part more
abbrev pub step : Reader (Tree × List ℕ) → Parts → Reader Parts
step p found = p >>= λ x. pure (behind found (x ∷ []))

module _ (turns : ℕ) (rec : Wanted → Reader Tree) (within : Within) (free : Bool) where
  -- a part and the value behind it
  unfoldable pub another : Parts → Reader Parts
  another found = step (part_behind turns rec within free) found

  -- what follows the first part
  abbrev pub insertions_behind : Word → Reader Tree
  insertions_behind first = do
    value ← inserted turns rec within free
    parts ← repeated (seen l.TextMiddle) another turns (record { texts = first.text ∷ []; inserted = value ∷ [] })
    last ← holder last_text
    pure (tree.Insertions first.at (parts.texts ++ last.text ∷ []) parts.inserted)
