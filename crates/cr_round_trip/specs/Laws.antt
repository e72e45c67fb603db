-- What is claimed of layouts.
use Rattle.std.specs.Prelude.{◌≡◌, ℕ, List}
use Rattle.cr_syntax.specs.declared.token.Token.{Token}
use Rattle.cr_syntax.specs.Lexes.{Lexes}
use Rattle.cr_grammar.specs.declared.tree.Tree.{Tree}
use Rattle.cr_grammar.specs.declared.wanted.Wanted.TheVariants.{Program}
use Rattle.cr_grammar.specs.Grammar.{Spells}
use Rattle.cr_grammar.specs.Same.{Same}
use Rattle.cr_pieces.specs.Laws.{BornBy}
use Rattle.cr_pretty.specs.Layout.{laid, bare, layout}

-- Two trees that differ in places alone have one layout.
abbrev pub PlacesLeaveNoTrace : Type 0
PlacesLeaveNoTrace = (x y : Tree) → Same x y → layout x ≡ layout y

-- ---- of each tree that the tokens of a text spell as a program

-- The layout of the tree is a text with tokens, which are those that it was written with, and the end.
abbrev pub ReadAsWritten : Tree → Type 0
ReadAsWritten x = (tokens : List Token) × Lexes (layout x) tokens × BornBy (bare 0 (laid x)) tokens

abbrev pub LayoutHasTokens : Type 0
LayoutHasTokens = (source : List ℕ) (w : List Token) (x : Tree) → Lexes source w → Spells Program w x → ReadAsWritten x

-- The tokens spell a program that is the same as the tree but for places.
abbrev pub ReadAgain : Tree → List Token → Type 0
ReadAgain x tokens = (y : Tree) × Spells Program tokens y × Same y x

-- The layout of the tree has tokens, and they spell the same tree but for places.
abbrev pub RoundTrip : Type 0
RoundTrip = (source : List ℕ) (w : List Token) (x : Tree) → Lexes source w → Spells Program w x → (tokens : List Token) × Lexes (layout x) tokens × ReadAgain x tokens

-- The layout of what the layout is read as is the layout again: a second time changes nothing.
abbrev pub FormatIsStill : Type 0
FormatIsStill = (source : List ℕ) (w : List Token) (x : Tree) → Lexes source w → Spells Program w x
    → (tokens : List Token) × (y : Tree) × Lexes (layout x) tokens × Spells Program tokens y × (layout y ≡ layout x)
