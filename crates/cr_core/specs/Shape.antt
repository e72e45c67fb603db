-- Which parts each form has, and in which order.
use Rattle.std.specs.Prelude.{◌≡◌, ℕ, ◌+◌, Bool, true, false, List, [], ◌∷◌, ◌++◌, length}
use Rattle.cr_core.specs.declared.form.Form.{Form}
use Rattle.cr_core.specs.declared.form.Form.TheVariants as f

-- what a node is there for
pub data Role : Type 0 where
  Term : Role  -- what is run, and comes to a value
  Clause : Role  -- a clause of a choice
  Block : Role  -- a block of a call or a fiber
  Parameter : Role
  Atom : Role  -- a class with its written arguments
  Union : Role  -- a written type
  TypeParameter : Role
  Member : Role  -- what is declared in the program, in a class or in a module
  Program : Role

abbrev pub role : Form → Role
role f.Send = Clause
role f.Receive = Clause
role f.ReceiveOrNil = Clause
role (f.Block scope) = Block
role (f.Parameter slot restricted) = Parameter
role (f.Atom name) = Atom
role f.Union = Union
role (f.TypeParameter name) = TypeParameter
role (f.Class name superclass) = Member
role (f.Module name) = Member
role (f.Include name) = Member
role (f.Declaration name) = Member
role (f.Def name scope result written) = Member
role (f.Program scope) = Program
role term = Term

-- some parts one after the other: one part, any number of them, or any number of pairs
pub data Portion : Type 0 where
  one : Role → Portion
  many : Role → Portion
  pairs : Role → Portion

-- a part that is there where the form says so
abbrev pub where_told : Bool → Role → List Portion
where_told false k = []
where_told true k = one k ∷ []

-- The table: the parts of each form, in order.
abbrev pub portions : Form → List Portion
portions (f.Set local) = one Term ∷ []  -- the value
portions (f.SetField name) = one Term ∷ []  -- the value
portions f.Seq = one Term ∷ one Term ∷ []  -- the first, the second
portions f.If = one Term ∷ one Term ∷ one Term ∷ []  -- the condition, then, else
portions f.And = one Term ∷ one Term ∷ []  -- the left side, the right side
portions f.Or = one Term ∷ one Term ∷ []  -- the left side, the right side
portions f.Not = one Term ∷ []  -- the condition
portions f.IsA = one Term ∷ many Atom ∷ []  -- the value, the atoms of its type
portions f.While = one Term ∷ []  -- a turn
portions f.Return = one Term ∷ []  -- the value
portions f.Next = one Term ∷ []  -- the value
portions (f.Call name receiver block) =  -- the receiver, the arguments, the block
    where_told receiver Term ++ many Term ∷ where_told block Block
portions f.Super = many Term ∷ []  -- the arguments
portions (f.New question block) =  -- the class, the arguments, the block
    one Atom ∷ many Term ∷ where_told block Block
portions f.Yield = many Term ∷ []  -- the arguments
portions (f.Spawn context) = where_told context Term ++ one Block ∷ []  -- the context, the block
portions f.Raise = one Term ∷ []  -- the text
portions f.Puts = one Term ∷ []  -- the value
portions (f.Array of) = many Term ∷ where_told of Union  -- the elements, their type
portions (f.Hash of) =  -- key, value, key, .., the type of the keys, that of the values
    pairs Term ∷ (where_told of Union ++ where_told of Union)
portions (f.Select otherwise) = many Clause ∷ where_told otherwise Term  -- the clauses, else
portions f.Send = one Term ∷ one Term ∷ one Term ∷ []  -- the channel, the value, what the choice goes on as
portions f.Receive = one Term ∷ one Term ∷ []  -- the channel, what the choice goes on as
portions f.ReceiveOrNil = one Term ∷ one Term ∷ []  -- the channel, what the choice goes on as
portions (f.Atom name) = many Union ∷ []  -- the arguments
portions f.Union = many Atom ∷ []  -- the atoms
portions (f.Program scope) = many Member ∷ one Term ∷ []  -- the prelude's members, the source's; the statements
portions (f.Def name scope result written) =  -- the parameters, the result type, the body
    many Parameter ∷ (where_told result Union ++ one Term ∷ [])
portions (f.Block scope) = many Parameter ∷ one Term ∷ []  -- the parameters, the body
portions (f.Parameter slot restricted) = where_told restricted Union  -- its type
portions (f.Class name superclass) = many TypeParameter ∷ many Member ∷ []  -- the type parameters, the members
portions (f.Module name) = many Member ∷ []  -- the members
portions (f.Declaration name) = one Union ∷ []  -- the type
portions leaf = []

-- each is this role
abbrev pub Are : Role → List Role → Type 0
Are k [] = Unit {0}
Are k (j ∷ js) = (j ≡ k) × Are k js

-- these roles, in this order, are such portions
abbrev pub Fits : List Portion → List Role → Type 0
Fits [] [] = Unit {0}
Fits [] (k ∷ ks) = ⊥
Fits (one k ∷ ps) [] = ⊥
Fits (one k ∷ ps) (j ∷ ks) = (j ≡ k) × Fits ps ks
Fits (many k ∷ ps) ks = (front rest : List Role) × (ks ≡ front ++ rest) × Are k front × Fits ps rest
Fits (pairs k ∷ ps) ks =
    (front rest : List Role) × (half : ℕ) × (ks ≡ front ++ rest) × (length front ≡ half + half) × Are k front × Fits ps rest
