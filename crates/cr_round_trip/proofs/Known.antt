-- What is known of the parts of constructs that are no trees, or of one form alone.
use Rattle.std.proofs.Common.{◌≡◌, ℕ, Bool, true, false, List, [], ◌∷◌, ◌++◌, Option, Some, None, ◌⊎◌}
use Rattle.std.specs.Str.{IsUtf8}
use Rattle.cr_syntax.specs.declared.look.TokenLook.{TokenLook}
use Rattle.cr_grammar.specs.declared.tree.Tree.{Tree}
use Rattle.cr_grammar.specs.declared.tree.Tree.TheVariants as tree
use Rattle.cr_grammar.specs.Operators as o
use Rattle.cr_pieces.specs.Proper.{IsName, IsConstantName}

abbrev pub All : {A : Type 0} → (A → Type 0) → List A → Type 0
All P [] = Unit {0}
All P (x ∷ xs) = P x × All P xs

abbrev pub Any : {A : Type 0} → (A → Type 0) → Option A → Type 0
Any P None = Unit {0}
Any P (Some x) = P x

-- the name of a class, with at least one name
abbrev pub IsPath : List (List ℕ) → Type 0
IsPath [] = ⊥
IsPath (name ∷ names) = IsConstantName name × All IsConstantName names

-- the name of a superclass, if any
abbrev pub IsAnyConstant : Option (List ℕ) → Type 0
IsAnyConstant None = Unit {0}
IsAnyConstant (Some name) = IsConstantName name

-- a name between the `|` of a block
pub record IsBlockName (x : Tree) : Type 0 where
  pub at : ℕ
  pub name : List ℕ
  pub is : x ≡ tree.Parameter at false name None
  pub proper : IsName name

-- the name of a local
pub record IsLocal (x : Tree) : Type 0 where
  pub at : ℕ
  pub name : List ℕ
  pub is : x ≡ tree.Call at None name [] None
  pub proper : IsName name

-- so many parts of a text behind the first one as there are insertions, at least one
abbrev pub HasParts : List (List ℕ) → List Tree → Type 0
HasParts [] xs = ⊥
HasParts (part ∷ parts) [] = ⊥
HasParts (part ∷ []) (x ∷ []) = IsUtf8 part
HasParts (part ∷ []) (x ∷ z ∷ xs) = ⊥
HasParts (part ∷ next ∷ parts) (x ∷ xs) = IsUtf8 part × HasParts (next ∷ parts) xs

-- a name with `=` behind it
abbrev pub IsSetterName : List ℕ → Type 0
IsSetterName text = (name : List ℕ) × IsName name × (o.is_marked name ≡ false) × (text ≡ name ++ 61 ∷ [])

-- the name of a method, as the grammar has it
abbrev pub IsMethodName : List ℕ → Type 0
IsMethodName text = IsName text ⊎ IsSetterName text ⊎ ((look : TokenLook) × (o.operator_name look ≡ Some text)) ⊎ (text ≡ o.index_name) ⊎ (text ≡ o.index_set_name) ⊎ (text ≡ o.index_question_name)
