-- What the meaning reads of a program: its core tree, and what its tables answer.
use Rattle.std.specs.Prelude.{ℕ, Bool, List, Option}
use Rattle.cr_base.specs.declared.ids.ClassId.{ClassId}
use Rattle.cr_base.specs.declared.ids.MethodId.{MethodId}
use Rattle.cr_base.specs.declared.ids.NameId.{NameId}
use Rattle.cr_base.specs.declared.ids.NodeId.{NodeId}
use Rattle.cr_value.specs.declared.value.Value.{Value}
use Rattle.cr_builtins.specs.declared.operation.Operation.{Operation}
use Rattle.cr_core.specs.declared.row.Row.{Row}
use Rattle.cr_core.specs.declared.scope.Scope.{Scope}

-- what a call goes to
pub data Target : Type 0 where
  Method : MethodId → Target
  Builtin : Operation → Target

-- Where a `super` or the `initialize` of a `new` goes: nowhere, since there is none further on; to this method; or there are some, and
-- none of them matches.
pub data Further : Type 0 where
  nothing : Further
  goes_to : Target → Further
  no_match : Further

-- what a call of `new` on a class makes
pub data Made : Type 0 where
  Object : ClassId → Made
  Channel : Made
  Concurrent : Made
  Parallel : Made
  Isolated : Made

-- What is there of a program.
pub record World : Type 0 where
  pub rows : List Row
  pub scopes : List Scope
  pub texts : List (List ℕ)
  -- the class of a value that is no reference to an object, and that of the top level
  pub class_of : Value → ClassId
  pub array_class : ClassId
  pub hash_class : ClassId
  pub channel_class : ClassId
  pub concurrent_class : ClassId
  pub parallel_class : ClassId
  pub isolated_class : ClassId
  pub object_class : ClassId
  -- the method that a call finds: of the receiver's class, by name, classes of the arguments, whether a block is given, and whether the
  -- call goes on to the methods of the top level
  pub choose : ClassId → NameId → List ClassId → Bool → Bool → Option Target
  -- the method behind the running one, for a receiver of this class and arguments of these
  pub choose_super : ClassId → MethodId → List ClassId → Further
  -- the `initialize` that a `new` of this class with arguments of these runs
  pub choose_initialize : ClassId → List ClassId → Further
  -- the row of a method's `def`, whether it is one of the top level, and whether it is an `initialize`
  pub def_of : MethodId → NodeId
  pub is_top : MethodId → Bool
  pub is_initialize : MethodId → Bool
  -- what `new` on the class of this row makes, and whether one of these rows' classes is above a class
  pub makes : NodeId → Option Made
  pub covers : List NodeId → ClassId → Bool
