-- The places where a construct may stand, of which the code has one loop for all.
use Rattle.cr_making.specs.declared.view.View.{View}
use Rattle.cr_making.specs.declared.view.View.TheVariants as v
use Rattle.std.specs.Prelude.{◌≡◌, ℕ, ◌≤◌, Bool, true, List, [], ◌∷◌, ◌++◌, length, take}
use Rattle.cr_grammar.specs.declared.tree.Tree.{Tree}
use Rattle.cr_making.specs.Making.{Making}
use Rattle.cr_making.specs.Part.{Part, union, line, lines}
use Rattle.cr_making.specs.Table.{part, parts}

abbrev pub viewed : View → Part → Making
viewed v.Term p = p.own
viewed v.Member p = p.members
viewed v.Atoms p = p.atoms
viewed v.Class p = p.class
viewed v.Parameter p = p.parameter
viewed v.Fields p = p.fields
viewed v.Kept p = p.kept
viewed (v.Union at) p = union at p
viewed (v.Block at) p = p.block at
viewed v.Branch p = p.branch.made
viewed (v.Arm get) p = (p.arm get).made
viewed v.Clause p = p.clause
viewed v.Pair p = p.pair
viewed (v.PairTypes at) p = p.pair_types at
viewed (v.Accessor property) p = p.accessor property

-- whether it is one of those that follow one another in this place
abbrev pub said : View → Part → Bool
said v.Kept p = p.is_field
said other p = p.is_statement

abbrev pub said_line : View → Part → List Making
said_line view p = line (said view p) (viewed view p) []

abbrev pub said_lines : View → List Part → List Making
said_lines view = lines (said view) (viewed view)

-- behind so many of the list none follows, and the last of them does
pub record IsUntilLast (view : View) (list : List Tree) (count : ℕ) : Type 0 where
  pub within : count ≤ length list
  pub all : said_lines view (parts (take count list)) ≡ said_lines view (parts list)
  pub last : (front : List Tree) (t : Tree) → take count list ≡ front ++ t ∷ [] → said view (part t) ≡ true
