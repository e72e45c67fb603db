-- The built-in methods as the lookup sees them: the class that each stands in, and what its parameters take.
use Rattle.std.specs.Prelude.{◌==◌, Bool, not, List, [], ◌∷◌, filter, Option, Some, None}
use Rattle.cr_base.specs.declared.ids.ClassId.{ClassId}
use Rattle.cr_prelude.specs.declared.class.BuiltinClass.{BuiltinClass}
use Rattle.cr_prelude.specs.declared.class.BuiltinClass.TheVariants as c
use Rattle.cr_builtins.specs.declared.operation.PlainOperation.{PlainOperation}
use Rattle.cr_builtins.specs.declared.operation.PlainOperation.TheVariants as plain
use Rattle.cr_builtins.specs.declared.operation.NumberOperation.{NumberOperation}
use Rattle.cr_builtins.specs.declared.operation.NumberOperation.TheVariants as number
use Rattle.cr_builtins.specs.declared.operation.TextOperation.{TextOperation}
use Rattle.cr_builtins.specs.declared.operation.TextOperation.TheVariants as text
use Rattle.cr_builtins.specs.declared.operation.ReferenceClass.{ReferenceClass}
use Rattle.cr_builtins.specs.declared.operation.ReferenceClass.TheVariants as reference
use Rattle.cr_builtins.specs.declared.operation.ScalarOperation.{ScalarOperation}
use Rattle.cr_builtins.specs.declared.operation.ScalarOperation.TheVariants as scalar
use Rattle.cr_builtins.specs.declared.operation.ArrayOperation.{ArrayOperation}
use Rattle.cr_builtins.specs.declared.operation.ArrayOperation.TheVariants as array
use Rattle.cr_builtins.specs.declared.operation.HashOperation.{HashOperation}
use Rattle.cr_builtins.specs.declared.operation.HashOperation.TheVariants as hash
use Rattle.cr_builtins.specs.declared.operation.ChannelOperation.{ChannelOperation}
use Rattle.cr_builtins.specs.declared.operation.ChannelOperation.TheVariants as channel
use Rattle.cr_builtins.specs.declared.operation.ContextOperation.{ContextOperation}
use Rattle.cr_builtins.specs.declared.operation.ContextOperation.TheVariants as context
use Rattle.cr_builtins.specs.declared.operation.Operation.{Operation}
use Rattle.cr_builtins.specs.declared.operation.Operation.TheVariants as operation
use Rattle.cr_lookup.specs.declared.method.Takes.{Takes}
use Rattle.cr_lookup.specs.declared.method.Takes.TheVariants as takes
use Rattle.cr_tables.specs.declared.operand.Operand.{Operand}
use Rattle.cr_tables.specs.declared.operand.Operand.TheVariants.{Any, Just, But, Key}
use Rattle.cr_tables.specs.declared.operand.Operands.{Operands}
use Rattle.cr_tables.specs.declared.operand.Operands.TheVariants.{Nothing, One, Two}
use Rattle.cr_tables.specs.Numbers.{class_number, class}

-- ---- what the arguments may be

abbrev pub plain_operands : PlainOperation → Operands
plain_operands plain.Equal = One Any
plain_operands plain.ToText = Nothing

-- of an integer class; this is the other one
abbrev pub number_operands : BuiltinClass → BuiltinClass → NumberOperation → Operands
number_operands own other (number.Reckon reckoning) = One (Just own)
number_operands own other (number.Compare comparison) = One (Just own)
number_operands own other number.Negate = Nothing
number_operands own other number.Equal = One (But other)
number_operands own other number.ToInt32 = Nothing
number_operands own other number.ToInt64 = Nothing
number_operands own other number.ToText = Nothing

abbrev pub text_operands : TextOperation → Operands
text_operands text.Join = One (Just c.String)
text_operands text.Repeat = One (Just c.Int32)
text_operands text.Equal = One Any
text_operands (text.Compare comparison) = One (Just c.String)
text_operands text.Size = Nothing
text_operands text.ByteSize = Nothing
text_operands text.IsEmpty = Nothing
text_operands text.StartsWith = One (Just c.String)
text_operands text.ToText = Nothing

abbrev pub scalar_operands : ScalarOperation → Operands
scalar_operands (scalar.Same of) = One Any
scalar_operands (scalar.Nil operation) = plain_operands operation
scalar_operands (scalar.Bool operation) = plain_operands operation
scalar_operands (scalar.Int32 operation) = number_operands c.Int32 c.Int64 operation
scalar_operands (scalar.Int64 operation) = number_operands c.Int64 c.Int32 operation
scalar_operands (scalar.String operation) = text_operands operation

abbrev pub array_operands : ArrayOperation → Operands
array_operands array.Size = Nothing
array_operands array.IsEmpty = Nothing
array_operands array.Get = One (Just c.Int32)
array_operands array.GetOrNil = One (Just c.Int32)
array_operands array.Set = Two (Just c.Int32) Any
array_operands array.Append = One Any
array_operands array.Push = One Any
array_operands array.Pop = Nothing
array_operands array.PopOrNil = Nothing
array_operands array.Shift = Nothing
array_operands array.ShiftOrNil = Nothing
array_operands array.First = Nothing
array_operands array.Last = Nothing
array_operands array.Clear = Nothing

abbrev pub hash_operands : HashOperation → Operands
hash_operands hash.Size = Nothing
hash_operands hash.IsEmpty = Nothing
hash_operands hash.Get = One Key
hash_operands hash.GetOrNil = One Key
hash_operands hash.Set = Two Key Any
hash_operands hash.HasKey = One Key
hash_operands hash.Delete = One Key
hash_operands hash.Keys = Nothing
hash_operands hash.Values = Nothing
hash_operands hash.Clear = Nothing

-- `new` and `spawn` have forms of their own, and no call finds them.
abbrev pub channel_operands : ChannelOperation → Option Operands
channel_operands channel.New = None
channel_operands channel.NewSized = None
channel_operands channel.Send = Some (One Any)
channel_operands channel.Receive = Some Nothing
channel_operands channel.ReceiveOrNil = Some Nothing
channel_operands channel.Close = Some Nothing
channel_operands channel.IsClosed = Some Nothing

abbrev pub context_operands : ContextOperation → Option Operands
context_operands context.NewConcurrent = None
context_operands context.NewParallel = None
context_operands context.NewIsolated = None
context_operands context.SpawnConcurrent = None
context_operands context.SpawnParallel = None
context_operands context.SpawnIsolated = None
context_operands context.Wait = Some Nothing

-- What the arguments of a built-in method may be; nothing is told of what no call finds.
unfoldable pub operands : Operation → Option Operands
operands (operation.Scalar o) = Some (scalar_operands o)
operands (operation.Array o) = Some (array_operands o)
operands (operation.Hash o) = Some (hash_operands o)
operands (operation.Channel o) = channel_operands o
operands (operation.Context o) = context_operands o

-- ---- what parameters take that are so, where there are these classes

abbrev pub is_other : BuiltinClass → ClassId → Bool
is_other built_in other = not (other.0 == class_number built_in)

abbrev pub keys : List ClassId
keys = class c.Nil ∷ class c.Bool ∷ class c.Int32 ∷ class c.Int64 ∷ class c.String ∷ []

abbrev pub takes_operand : List ClassId → Operand → Takes
takes_operand classes Any = takes.Any
takes_operand classes (Just built_in) = takes.Only (class built_in ∷ [])
takes_operand classes (But built_in) = takes.Only (filter (is_other built_in) classes)
takes_operand classes Key = takes.Only keys

abbrev pub takes_operands : List ClassId → Operands → List Takes
takes_operands classes Nothing = []
takes_operands classes (One a) = takes_operand classes a ∷ []
takes_operands classes (Two a b) = takes_operand classes a ∷ takes_operand classes b ∷ []

-- ---- `==` of Object

abbrev pub passed_over_by : ReferenceClass → List ClassId
passed_over_by reference.Object = class c.Array ∷ class c.Hash ∷ class c.Int32 ∷ class c.Int64 ∷ []
passed_over_by other = []

-- the classes of receivers whose lookup passes it over
abbrev pub passed_over : Operation → List ClassId
passed_over (operation.Scalar (scalar.Same of)) = passed_over_by of
passed_over other = []
