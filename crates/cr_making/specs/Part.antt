-- What is made of a construct, in each place where it may stand.
use Rattle.std.specs.Prelude.{ℕ, List, [], ◌∷◌, map, Option, Some, None, Bool, true, false}
use Rattle.cr_core.specs.declared.form.Form.{Form}
use Rattle.cr_core.specs.declared.form.Form.TheVariants as f
use Rattle.cr_making.specs.Making.{Making, nothing, wrapped, all, sequence, Ahead}

-- What a construct is as a target, as the operation of a `when`, or as the value of a `case`. A call is bare where it has neither
-- arguments nor a block.
pub data Head : Type 0 where
  NoHead : Head
  Called : (at : ℕ) (receiver : Option Making) (name : List ℕ) (arguments : List Making) (bare : Bool) → Head
  Element : (at : ℕ) (receiver : Making) (arguments : List Making) (question : Bool) → Head
  Variable : (name : List ℕ) → Head

-- Where the grammar has no such construct in a place, it is nothing, and nil or an empty block where something has to stand.
pub record Part : Type 0 where
  pub own : Making  -- as a term: one tree
  pub is_statement : Bool  -- whether it is no declaration
  pub members : Making  -- as a declaration
  pub atoms : Making  -- as a written type: its atoms
  pub class : Making  -- as the class before `new`: one atom
  pub parameter : Making  -- as a parameter
  pub fields : Making  -- the instance variables that it declares as a parameter
  pub is_field : Bool  -- whether it is a parameter `@x`
  pub kept : Making  -- what such a parameter assigns before the body
  pub block : ℕ → Making  -- as the block of the construct at a place: one tree
  pub branch : Ahead  -- as an `elsif`: the condition and what follows
  pub arm : Form → Ahead  -- as an `in`, where this form reads the value: the test and what follows
  pub clause : Making  -- as a `when`
  pub pair : Making  -- as an entry of a hash: its key and its value
  pub pair_types : ℕ → Making  -- as the types of entries, for the hash at a place
  pub accessor : Bool → Making  -- as an accessor, of a `property` or of a `getter`
  pub head : Head
  pub list_members : Making  -- as a list of statements: its declarations
  pub list_statements : List Making  -- as a list of statements: its statements

abbrev pub own_of : Part → Making
own_of p = p.own

-- each in the same place, one after the other
abbrev pub each : (Part → Making) → List Part → Making
each h ps = all (map h ps)

-- one that may be there
abbrev pub maybe : (Part → Making) → Option Part → Making
maybe h None = nothing
maybe h (Some p) = h p

abbrev pub is_there : Option Part → Bool
is_there None = false
is_there (Some p) = true

abbrev pub maybe_own : Option Part → Option Making
maybe_own None = None
maybe_own (Some p) = Some p.own

abbrev pub is_empty : List Part → Bool
is_empty [] = true
is_empty (p ∷ ps) = false

-- a name without arguments and block
abbrev pub is_bare : List Part → Option Part → Bool
is_bare arguments None = is_empty arguments
is_bare arguments (Some p) = false

-- each argument, element or other term, one after the other
abbrev pub terms : List Part → Making
terms = each own_of

abbrev pub held : Option Part → Making
held = maybe own_of

abbrev pub held_block : ℕ → Option Part → Making
held_block at = maybe (λ (p : Part). p.block at)

abbrev pub members_of : List Part → Making
members_of = each (λ (p : Part). p.members)

-- those of a list of which this holds
abbrev pub line : Bool → Making → List Making → List Making
line true m ms = m ∷ ms
line false m ms = ms

abbrev pub lines : (Part → Bool) → (Part → Making) → List Part → List Making
lines says made [] = []
lines says made (p ∷ ps) = line (says p) (made p) (lines says made ps)

-- the statements of a list: all but declarations
abbrev pub statements_of : List Part → List Making
statements_of = lines (λ (p : Part). p.is_statement) own_of

unfoldable pub statements : ℕ → List Part → Making
statements at ps = sequence at (statements_of ps)

-- a written type, for the construct at a place
abbrev pub union : ℕ → Part → Making
union at p = wrapped f.Union at p.atoms

abbrev pub held_union : ℕ → Option Part → Making
held_union at = maybe (union at)
