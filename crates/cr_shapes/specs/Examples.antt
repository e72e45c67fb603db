-- Small trees, for examples.
use Rattle.std.specs.Prelude.{ℕ, pos, zero, suc, true, false, [], ◌∷◌}
use Rattle.cr_base.specs.declared.ids.NameId.{NameId}
use Rattle.cr_core.specs.declared.form.Form.{Form}
use Rattle.cr_core.specs.declared.form.Form.TheVariants as f
use Rattle.cr_core.specs.declared.form.ScopeId.{ScopeId}
use Rattle.cr_core.specs.Core.{Core, none, one, ◌⊕◌}
use Rattle.cr_core.specs.Arena.{rows}
use Rattle.cr_core.specs.Tree.{Contents}

abbrev pub some_name : NameId
some_name = record { 0 = 0 }

abbrev pub scope_id : ℕ → ScopeId
scope_id n = record { 0 = n }

abbrev pub tree : Form → Core → Core
tree form parts = one form (record { prelude = false; at = 0 }) parts

abbrev pub leaf : Form → Core
leaf form = tree form none

abbrev pub contents : Core → Contents
contents trees = record { rows = rows trees; scopes = []; names = [] ∷ []; texts = [] ∷ [] }

-- ---- types

-- `A | A | ..`, of these atoms
abbrev pub type : Core → Core
type atoms = tree f.Union atoms

-- `A(A(.. A ..))` with so many parentheses
abbrev pub nested : ℕ → Core
nested zero = leaf (f.Atom some_name)
nested (suc more) = tree (f.Atom some_name) (type (nested more))

-- `A(A | .., A | ..)` with these arguments
abbrev pub with_arguments : Core → Core
with_arguments arguments = tree (f.Atom some_name) arguments

-- ---- literals

-- `1`
abbrev pub number : Core
number = leaf (f.Int32 (pos 1))

-- an array literal with these elements, and no type
abbrev pub array : Core → Core
array elements = tree (f.Array false) elements

abbrev pub hash : Core → Core
hash entries = tree (f.Hash false) entries

-- `[] of A`
abbrev pub empty_array : Core
empty_array = tree (f.Array true) (type (nested 0))

-- `[1] of A`
abbrev pub typed_array : Core
typed_array = tree (f.Array true) (number ⊕ type (nested 0))

-- `A.new(1)`
abbrev pub new : Core
new = tree (f.New false false) (nested 0 ⊕ number)

-- a call without receiver, argument and block
abbrev pub call : Core
call = leaf (f.Call some_name false false)

abbrev pub text : Core
text = leaf (f.Text (record { 0 = 0 }))

-- ---- blocks

-- `foo do .. end`, where the block has this scope
abbrev pub block_call : ℕ → Core → Core
block_call k body = tree (f.Call some_name false true) (tree (f.Block (scope_id k)) body)

-- `spawn do .. end`
abbrev pub spawn : ℕ → Core → Core
spawn k body = tree (f.Spawn false) (tree (f.Block (scope_id k)) body)

-- `def foo; .. end` in a program
abbrev pub method : Core → Core
method body = tree (f.Program (scope_id 0)) (tree (f.Def some_name (scope_id 1) false true) body ⊕ leaf f.Nil)
