-- What may be claimed of all that the grammar spells: predicates of trees that each construct keeps.
use Rattle.std.proofs.Common.{◌≡◌, ◌≢◌, ℕ, ◌^◌, Bool, true, false, not, ◌&&◌, ◌||◌, List, [], ◌∷◌, Option, Some, None, ◌⊎◌}
use Rattle.std.specs.Prelude.{ℤ, IsTrue}
use Rattle.std.specs.Str.{IsUtf8, bytes_eq}
use Rattle.cr_grammar.specs.declared.operator.Binary.{Binary}
use Rattle.cr_grammar.specs.declared.operator.Unary.{Unary}
use Rattle.cr_grammar.specs.declared.operator.Assignment.{Assignment}
use Rattle.cr_grammar.specs.declared.operator.Assignment.TheVariants as assignment
use Rattle.cr_grammar.specs.declared.tree.Tree.{Tree}
use Rattle.cr_grammar.specs.declared.tree.Tree.TheVariants as tree
use Rattle.cr_grammar.specs.declared.within.Within.{Within}
use Rattle.cr_grammar.specs.Operators as o
use Rattle.cr_grammar.specs.Wanted.{in_block, in_loop, in_object, in_method, top}
use Rattle.cr_pieces.specs.Proper.{IsName, IsConstantName, IsVariableName, HasWidth}
use Rattle.cr_round_trip.proofs.Known.{All, Any, IsPath, IsAnyConstant, IsBlockName, IsLocal, HasParts, IsMethodName}

-- What is claimed of a tree, by what it stands for: a value or a statement where something surrounds it, a type (the flag tells
-- whether its classes may have arguments), and the parts of constructs.
pub record Claimed : Type 1 where
  pub value : Within → Tree → Type 0
  pub written : Bool → Tree → Type 0
  pub atom : Bool → Tree → Type 0
  pub pair : Within → Tree → Type 0
  pub type_pair : Tree → Type 0
  pub block : Within → Tree → Type 0
  pub branch : Within → Tree → Type 0
  pub clause : Within → Tree → Type 0
  pub when : Within → Tree → Type 0
  pub target : Within → Assignment → Tree → Type 0
  pub parameter : Within → Tree → Type 0
  pub accessor : Tree → Type 0
  pub definition : Bool → Tree → Type 0
  pub member : Tree → Type 0
  pub part : Tree → Type 0
  pub item : Tree → Type 0

-- `receive` or `receive?`
abbrev pub IsReceive : List ℕ → Type 0
IsReceive name = (name ≡ o.receive_name) ⊎ (name ≡ o.receive_question_name)

-- a result type, which `initialize` has none of
abbrev pub IsResult : (Bool → Tree → Type 0) → List ℕ → Option Tree → Type 0
IsResult written name None = Unit {0}
IsResult written name (Some type) = IsTrue (not (bytes_eq name o.initialize_name)) × written true type

-- ---- values

pub record ClosedValues (c : Claimed) : Type 0 where
  pub int32 : (within : Within) (at : ℕ) (n : ℤ) → HasWidth (2 ^ 31) n → c.value within (tree.Int32 at n)
  pub int64 : (within : Within) (at : ℕ) (n : ℤ) → HasWidth (2 ^ 63) n → c.value within (tree.Int64 at n)
  pub text : (within : Within) (at : ℕ) (text : List ℕ) → IsUtf8 text → c.value within (tree.Text at text)
  pub insertions : (within : Within) (at : ℕ) (first : List ℕ) (parts : List (List ℕ)) (xs : List Tree) → IsUtf8 first → HasParts parts xs → All (c.value within) xs → c.value within (tree.Insertions at (first ∷ parts) xs)
  pub nil : (within : Within) (at : ℕ) → c.value within (tree.Nil at)
  pub yes : (within : Within) (at : ℕ) → c.value within (tree.True at)
  pub no : (within : Within) (at : ℕ) → c.value within (tree.False at)
  pub itself : (within : Within) (at : ℕ) → IsTrue (in_object within) → c.value within (tree.KeywordSelf at)
  pub variable : (within : Within) (at : ℕ) (name : List ℕ) → IsTrue (in_object within) → IsVariableName name → c.value within (tree.InstanceVariable at name)
  pub array : (within : Within) (at : ℕ) (elements : List Tree) (element : Option Tree) → All (c.value within) elements → Any (c.written true) element → c.value within (tree.Array at elements element)
  pub pair : (within : Within) (key value : Tree) → c.value within key → c.value within value → c.pair within (tree.Pair key value)
  pub type_pair : (key value : Tree) → c.written true key → c.written true value → c.type_pair (tree.Pair key value)
  pub hash : (within : Within) (at : ℕ) (entries : List Tree) (entry : Option Tree) → All (c.pair within) entries → Any c.type_pair entry → c.value within (tree.Hash at entries entry)
  pub unary : (within : Within) (at : ℕ) (operator : Unary) (x : Tree) → c.value within x → c.value within (tree.Unary at operator x)
  pub binary : (within : Within) (at : ℕ) (operator : Binary) (x y : Tree) → c.value within x → c.value within y → c.value within (tree.Binary at operator x y)

-- ---- calls

pub record ClosedCalls (c : Claimed) : Type 0 where
  pub called : (within : Within) (at : ℕ) (receiver : Option Tree) (name : List ℕ) (xs : List Tree) (b : Option Tree) → Any (c.value within) receiver → IsName name → All (c.value within) xs → Any (c.block within) b
      → c.value within (tree.Call at receiver name xs b)
  pub block : (within : Within) (parameters list : List Tree) → All IsBlockName parameters → All (c.value (in_block within)) list → c.block within (tree.Block parameters list)
  pub index : (within : Within) (at : ℕ) (x y : Tree) (ys : List Tree) (question : Bool) → c.value within x → c.value within y → All (c.value within) ys → c.value within (tree.Index at x (y ∷ ys) question)
  pub is_nil : (within : Within) (at : ℕ) (x : Tree) → c.value within x → c.value within (tree.IsNil at x)
  pub is_a : (within : Within) (at : ℕ) (x type : Tree) → c.value within x → c.written false type → c.value within (tree.IsA at x type)
  pub new : (within : Within) (at place : ℕ) (path : List (List ℕ)) (types : List Tree) (question : Bool) (xs : List Tree) → IsPath path → path ≢ o.isolated_path → All (c.written true) types → All (c.value within) xs
      → c.value within (tree.New at (tree.Atom place path types) question xs None)
  pub isolated : (within : Within) (at place : ℕ) (path : List (List ℕ)) (types : List Tree) (question : Bool) (xs list : List Tree) → IsPath path → path ≡ o.isolated_path → All (c.written true) types → All (c.value within) xs
      → All (c.value (in_block within)) list → c.value within (tree.New at (tree.Atom place path types) question xs (Some (tree.Block [] list)))
  pub pause : (within : Within) (at : ℕ) → c.value within (tree.Pause at)
  pub yield : (within : Within) (at : ℕ) (xs : List Tree) → IsTrue within.method → All (c.value within) xs → c.value within (tree.Yield at xs)
  pub super : (within : Within) (at : ℕ) (xs : List Tree) → IsTrue within.method → All (c.value within) xs → c.value within (tree.Super at xs)
  pub bare_super : (within : Within) (at : ℕ) → IsTrue within.method → c.value within (tree.BareSuper at)
  pub spawn : (within : Within) (at : ℕ) (context : Option Tree) (list : List Tree) → Any (c.value within) context → All (c.value (in_block within)) list → c.value within (tree.Spawn at context list)

-- ---- types

pub record ClosedTypes (c : Claimed) : Type 0 where
  pub atom : (flag : Bool) (at : ℕ) (path : List (List ℕ)) (xs : List Tree) → IsPath path → All (c.written true) xs → (flag ≡ false → xs ≡ []) → c.atom flag (tree.Atom at path xs)
  pub union : (flag : Bool) (x : Tree) (xs : List Tree) → c.atom flag x → All (c.atom flag) xs → c.written flag (tree.Union (x ∷ xs))

-- ---- compound forms

pub record ClosedCompounds (c : Claimed) : Type 0 where
  pub conditional : (within : Within) (at : ℕ) (unless : Bool) (condition : Tree) (list others : List Tree) (otherwise : Option (List Tree)) → c.value within condition → All (c.value within) list → All (c.branch within) others
      → (unless ≡ true → others ≡ []) → Any (All (c.value within)) otherwise → c.value within (tree.If at unless condition list others otherwise)
  pub branch : (within : Within) (at : ℕ) (condition : Tree) (list : List Tree) → c.value within condition → All (c.value within) list → c.branch within (tree.Branch at condition list)
  pub loop : (within : Within) (at : ℕ) (until : Bool) (condition : Tree) (list : List Tree) → c.value (in_loop within) condition → All (c.value (in_loop within)) list → c.value within (tree.While at until condition list)
  pub cases : (within : Within) (at : ℕ) (value x : Tree) (xs : List Tree) → c.value within value → c.clause within x → All (c.clause within) xs → c.value within (tree.Case at value (x ∷ xs))
  pub clause : (within : Within) (at : ℕ) (type : Tree) (types list : List Tree) → c.written false type → All (c.written false) types → All (c.value within) list → c.clause within (tree.In at (type ∷ types) list)
  pub select : (within : Within) (at : ℕ) (x : Tree) (xs : List Tree) (otherwise : Option (List Tree)) → c.when within x → All (c.when within) xs → Any (All (c.value within)) otherwise
      → c.value within (tree.Select at (x ∷ xs) otherwise)
  pub receives : (within : Within) (at : ℕ) (into : Option Tree) (place : ℕ) (channel : Tree) (name : List ℕ) (list : List Tree) → Any IsLocal into → c.value within channel → IsName name → IsReceive name → All (c.value within) list
      → c.when within (tree.When at into (tree.Call place (Some channel) name [] None) list)
  pub sends : (within : Within) (at place : ℕ) (channel x : Tree) (list : List Tree) → c.value within channel → c.value within x → All (c.value within) list
      → c.when within (tree.When at None (tree.Call place (Some channel) o.send_name (x ∷ []) None) list)

-- ---- assignments and jumps

-- what assigns a field or an element: all but `||=`
abbrev pub OfField : Assignment → Type 0
OfField operator = operator ≢ assignment.Or

pub record ClosedStatements (c : Claimed) : Type 0 where
  pub assign : (within : Within) (at : ℕ) (x : Tree) (operator : Assignment) (place : ℕ) (value : Tree) → c.target within operator x → c.value within value → c.value within (tree.Assign at x operator place value)
  pub local_target : (within : Within) (operator : Assignment) (at : ℕ) (name : List ℕ) → IsName name → c.target within operator (tree.Call at None name [] None)
  pub variable_target : (within : Within) (operator : Assignment) (at : ℕ) (name : List ℕ) → IsTrue (in_object within) → IsVariableName name → c.target within operator (tree.InstanceVariable at name)
  pub field_target : (within : Within) (operator : Assignment) (at : ℕ) (x : Tree) (name : List ℕ) → OfField operator → c.value within x → IsName name → c.target within operator (tree.Call at (Some x) name [] None)
  pub index_target : (within : Within) (operator : Assignment) (at : ℕ) (x y : Tree) (ys : List Tree) → OfField operator → c.value within x → c.value within y → All (c.value within) ys
      → c.target within operator (tree.Index at x (y ∷ ys) false)
  pub return : (within : Within) (at : ℕ) (value : Option Tree) → IsTrue (within.method && not within.block) → Any (c.value within) value → c.value within (tree.Return at value)
  pub next : (within : Within) (at : ℕ) (value : Option Tree) → IsTrue (within.in_loop || within.block) → Any (c.value within) value → c.value within (tree.Next at value)
  pub break : (within : Within) (at : ℕ) → IsTrue within.in_loop → c.value within (tree.Break at)

-- ---- declarations

pub record ClosedDeclarations (c : Claimed) : Type 0 where
  pub parameter : (within : Within) (at : ℕ) (name : List ℕ) (type : Option Tree) → IsName name → Any (c.written true) type → c.parameter within (tree.Parameter at false name type)
  pub instance_parameter : (within : Within) (at : ℕ) (name : List ℕ) (type : Option Tree) → IsTrue within.initialize → IsVariableName name → Any (c.written true) type → c.parameter within (tree.Parameter at true name type)
  pub define : (class : Bool) (at : ℕ) (name : List ℕ) (parameters : List Tree) (result : Option Tree) (list : List Tree) → IsMethodName name → All (c.parameter (in_method class name)) parameters → IsResult c.written name result
      → All (c.value (in_method class name)) list → c.definition class (tree.Def at name parameters result list)
  pub accessor : (at : ℕ) (name : List ℕ) (type : Option Tree) → IsName name → Any (c.written true) type → c.accessor (tree.Accessor at name type)
  pub accessors : (at : ℕ) (property : Bool) (x : Tree) (xs : List Tree) → c.accessor x → All c.accessor xs → c.member (tree.Accessors at property (x ∷ xs))
  pub declaration : (at : ℕ) (name : List ℕ) (type : Tree) → IsVariableName name → c.written true type → c.member (tree.Declaration at name type)
  pub include : (at : ℕ) (name : List ℕ) → IsConstantName name → c.member (tree.Include at name)
  pub include_part : (at : ℕ) (name : List ℕ) → IsConstantName name → c.part (tree.Include at name)
  pub member : (x : Tree) → c.definition true x → c.member x
  pub part : (x : Tree) → c.definition true x → c.part x
  pub class : (at : ℕ) (name : List ℕ) (parameters : List (List ℕ)) (superclass : Option (List ℕ)) (members : List Tree) → IsConstantName name → All IsConstantName parameters → IsAnyConstant superclass → All c.member members
      → c.item (tree.Class at name parameters superclass members)
  pub module_of : (at : ℕ) (name : List ℕ) (members : List Tree) → IsConstantName name → All c.part members → c.item (tree.Module at name members)
  pub definition : (x : Tree) → c.definition false x → c.item x
  pub statement : (x : Tree) → c.value top x → c.item x

pub record Closed (c : Claimed) : Type 0 where
  pub values : ClosedValues c
  pub calls : ClosedCalls c
  pub types : ClosedTypes c
  pub compounds : ClosedCompounds c
  pub statements : ClosedStatements c
  pub declarations : ClosedDeclarations c
