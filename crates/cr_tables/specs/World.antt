-- The world of a core tree: what the meaning reads of a program.
use Rattle.std.specs.Prelude.{nat_lt, ◌==◌, Bool, false, if◌then◌else◌, Option, Some, None, option_map, unwrap_or, slice_get}
use Rattle.cr_base.specs.declared.ids.ClassId.{ClassId}
use Rattle.cr_base.specs.declared.ids.MethodId.{MethodId}
use Rattle.cr_base.specs.declared.ids.NodeId.{NodeId}
use Rattle.cr_value.specs.declared.value.Value.{Value}
use Rattle.cr_value.specs.declared.value.Value.TheVariants as value
use Rattle.cr_prelude.specs.declared.class.BuiltinClass.TheVariants as c
use Rattle.cr_builtins.specs.declared.operation.Operation.{Operation}
use Rattle.cr_builtins.specs.declared.table.TheConstants.{OPERATIONS}
use Rattle.cr_core.specs.Tree.{Contents}
use Rattle.cr_core.specs.Arena.{node_id}
use Rattle.cr_meaning.specs.World.{World, Target, Method, Builtin, Further}
use Rattle.cr_meaning.specs.World as w
use Rattle.cr_tables.specs.declared.def.Def.{Def}
use Rattle.cr_names.specs.Names.{built_in_count}
use Rattle.cr_tables.specs.Numbers.{class, is_class}
use Rattle.cr_tables.specs.Types.{class_of_atom, covers}
use Rattle.cr_tables.specs.Methods.{top_level, is_initialize_name}
use Rattle.cr_tables.specs.declared.onwards.Onwards.{Onwards}
use Rattle.cr_tables.specs.declared.onwards.Onwards.TheVariants.{Nowhere, To, NoneMatches}
use Rattle.cr_tables.specs.declared.made.Made.{Made}
use Rattle.cr_tables.specs.declared.made.Made.TheVariants as m
use Rattle.cr_tables.specs.Choosing.{chosen, chosen_super, chosen_initialize, def_at}

-- ---- values

-- the class of a value that is no reference
abbrev pub class_of : Value → ClassId
class_of value.Nil = class c.Nil
class_of (value.Flag b) = class c.Bool
class_of (value.Small n) = class c.Int32
class_of (value.Big n) = class c.Int64
class_of (value.Word bytes) = class c.String
class_of (value.Ref cell) = class c.Object

-- ---- methods

abbrev pub target_by : MethodId → Option Operation → Target
target_by method None = Method method
target_by method (Some operation) = Builtin operation

-- what a method is by its number: the first are built in
unfoldable pub target : MethodId → Target
target method = target_by method (slice_get OPERATIONS method.0)

abbrev pub further : Onwards → Further
further Nowhere = w.nothing
further (To method) = w.goes_to (target method)
further NoneMatches = w.no_match

abbrev pub node_of : Option Def → Option NodeId
node_of None = None
node_of (Some def) = Some def.node

abbrev pub is_top_by : Contents → Option Def → Bool
is_top_by t None = false
is_top_by t (Some def) = def.place.0 == (top_level t).0

abbrev pub is_initialize_by : Contents → Option Def → Bool
is_initialize_by t None = false
is_initialize_by t (Some def) = is_initialize_name t def.name

-- ---- `new`

-- an object of a class that the program declares
abbrev pub object_of : Contents → ClassId → Option Made
object_of t made = if nat_lt made.0 built_in_count then None else if is_class t made then Some (m.Object made) else None

-- a channel or a context of its built-in class, or an object
abbrev pub made_of : Contents → ClassId → Option Made
made_of t made =
    if made.0 == (class c.Channel).0 then Some m.Channel
    else if made.0 == (class c.Concurrent).0 then Some m.Concurrent
    else if made.0 == (class c.Parallel).0 then Some m.Parallel
    else if made.0 == (class c.Isolated).0 then Some m.Isolated
    else object_of t made

abbrev pub made_by : Contents → Option ClassId → Option Made
made_by t None = None
made_by t (Some made) = made_of t made

abbrev pub meant : Made → w.Made
meant (m.Object made) = w.Object made
meant m.Channel = w.Channel
meant m.Concurrent = w.Concurrent
meant m.Parallel = w.Parallel
meant m.Isolated = w.Isolated

-- ---- the world

unfoldable pub world_of : Contents → World
world_of t = record {
  rows = t.rows;
  scopes = t.scopes;
  texts = t.texts;
  class_of = class_of;
  array_class = class c.Array;
  hash_class = class c.Hash;
  channel_class = class c.Channel;
  concurrent_class = class c.Concurrent;
  parallel_class = class c.Parallel;
  isolated_class = class c.Isolated;
  object_class = class c.Object;
  choose = λ receiver name arguments block top. option_map target (chosen t receiver name arguments block top);
  choose_super = λ receiver running arguments. further (chosen_super t receiver running arguments);
  choose_initialize = λ made arguments. further (chosen_initialize t made arguments);
  def_of = λ method. unwrap_or (node_of (def_at t method)) (node_id 0);
  is_top = λ method. is_top_by t (def_at t method);
  is_initialize = λ method. is_initialize_by t (def_at t method);
  makes = λ atom. option_map meant (made_by t (class_of_atom t atom));
  covers = covers t;
}
