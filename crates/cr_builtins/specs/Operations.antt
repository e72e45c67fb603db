-- Which built-in method each operation is: its class, its name and its number of arguments.
use Rattle.std.specs.Prelude.{ℕ, List, codes}
use Rattle.cr_prelude.specs.Builtins.{Line}
use Rattle.cr_prelude.specs.declared.class.BuiltinClass.{BuiltinClass}
use Rattle.cr_prelude.specs.declared.class.BuiltinClass.TheVariants as c
use Rattle.cr_builtins.specs.declared.operation.Reckoning.{Reckoning}
use Rattle.cr_builtins.specs.declared.operation.Reckoning.TheVariants.{Add, Subtract, Multiply, Divide, Remainder, WrapAdd, WrapSubtract, WrapMultiply}
use Rattle.cr_builtins.specs.declared.operation.Comparison.{Comparison}
use Rattle.cr_builtins.specs.declared.operation.Comparison.TheVariants.{Less, LessEqual, Greater, GreaterEqual}
use Rattle.cr_builtins.specs.declared.operation.PlainOperation.{PlainOperation}
use Rattle.cr_builtins.specs.declared.operation.PlainOperation.TheVariants as plain
use Rattle.cr_builtins.specs.declared.operation.NumberOperation.{NumberOperation}
use Rattle.cr_builtins.specs.declared.operation.NumberOperation.TheVariants as number
use Rattle.cr_builtins.specs.declared.operation.TextOperation.{TextOperation}
use Rattle.cr_builtins.specs.declared.operation.TextOperation.TheVariants as text
use Rattle.cr_builtins.specs.declared.operation.ReferenceClass.{ReferenceClass}
use Rattle.cr_builtins.specs.declared.operation.ReferenceClass.TheVariants as reference
use Rattle.cr_builtins.specs.declared.operation.ScalarOperation.{ScalarOperation}
use Rattle.cr_builtins.specs.declared.operation.ScalarOperation.TheVariants as scalar
use Rattle.cr_builtins.specs.declared.operation.ArrayOperation.{ArrayOperation}
use Rattle.cr_builtins.specs.declared.operation.ArrayOperation.TheVariants as array
use Rattle.cr_builtins.specs.declared.operation.HashOperation.{HashOperation}
use Rattle.cr_builtins.specs.declared.operation.HashOperation.TheVariants as hash
use Rattle.cr_builtins.specs.declared.operation.ChannelOperation.{ChannelOperation}
use Rattle.cr_builtins.specs.declared.operation.ChannelOperation.TheVariants as channel
use Rattle.cr_builtins.specs.declared.operation.ContextOperation.{ContextOperation}
use Rattle.cr_builtins.specs.declared.operation.ContextOperation.TheVariants as context
use Rattle.cr_builtins.specs.declared.operation.Operation.{Operation}
use Rattle.cr_builtins.specs.declared.operation.Operation.TheVariants as operation

-- the method of this name that the class has with this number of arguments
abbrev pub of : BuiltinClass → List ℕ → ℕ → Line
of class name count = record { class = class; name = name; count = count }

abbrev pub reckoning_name : Reckoning → List ℕ
reckoning_name Add = codes "+"
reckoning_name Subtract = codes "-"
reckoning_name Multiply = codes "*"
reckoning_name Divide = codes "//"
reckoning_name Remainder = codes "%"
reckoning_name WrapAdd = codes "&+"
reckoning_name WrapSubtract = codes "&-"
reckoning_name WrapMultiply = codes "&*"

abbrev pub comparison_name : Comparison → List ℕ
comparison_name Less = codes "<"
comparison_name LessEqual = codes "<="
comparison_name Greater = codes ">"
comparison_name GreaterEqual = codes ">="

abbrev pub plain_line : BuiltinClass → PlainOperation → Line
plain_line class plain.Equal = of class (codes "==") 1
plain_line class plain.ToText = of class (codes "to_s") 0

abbrev pub number_line : BuiltinClass → NumberOperation → Line
number_line class (number.Reckon reckoning) = of class (reckoning_name reckoning) 1
number_line class (number.Compare comparison) = of class (comparison_name comparison) 1
number_line class number.Negate = of class (codes "-") 0
number_line class number.Equal = of class (codes "==") 1
number_line class number.ToInt32 = of class (codes "to_i") 0
number_line class number.ToInt64 = of class (codes "to_i64") 0
number_line class number.ToText = of class (codes "to_s") 0

abbrev pub text_line : TextOperation → Line
text_line text.Join = of c.String (codes "+") 1
text_line text.Repeat = of c.String (codes "*") 1
text_line text.Equal = of c.String (codes "==") 1
text_line (text.Compare comparison) = of c.String (comparison_name comparison) 1
text_line text.Size = of c.String (codes "size") 0
text_line text.ByteSize = of c.String (codes "bytesize") 0
text_line text.IsEmpty = of c.String (codes "empty?") 0
text_line text.StartsWith = of c.String (codes "starts_with?") 1
text_line text.ToText = of c.String (codes "to_s") 0

abbrev pub reference_class : ReferenceClass → BuiltinClass
reference_class reference.Object = c.Object
reference_class reference.Channel = c.Channel
reference_class reference.Concurrent = c.Concurrent
reference_class reference.Parallel = c.Parallel
reference_class reference.Isolated = c.Isolated

abbrev pub scalar_line : ScalarOperation → Line
scalar_line (scalar.Same class) = of (reference_class class) (codes "==") 1
scalar_line (scalar.Nil operation) = plain_line c.Nil operation
scalar_line (scalar.Bool operation) = plain_line c.Bool operation
scalar_line (scalar.Int32 operation) = number_line c.Int32 operation
scalar_line (scalar.Int64 operation) = number_line c.Int64 operation
scalar_line (scalar.String operation) = text_line operation

abbrev pub array_line : ArrayOperation → Line
array_line array.Size = of c.Array (codes "size") 0
array_line array.IsEmpty = of c.Array (codes "empty?") 0
array_line array.Get = of c.Array (codes "[]") 1
array_line array.GetOrNil = of c.Array (codes "[]?") 1
array_line array.Set = of c.Array (codes "[]=") 2
array_line array.Append = of c.Array (codes "<<") 1
array_line array.Push = of c.Array (codes "push") 1
array_line array.Pop = of c.Array (codes "pop") 0
array_line array.PopOrNil = of c.Array (codes "pop?") 0
array_line array.Shift = of c.Array (codes "shift") 0
array_line array.ShiftOrNil = of c.Array (codes "shift?") 0
array_line array.First = of c.Array (codes "first") 0
array_line array.Last = of c.Array (codes "last") 0
array_line array.Clear = of c.Array (codes "clear") 0

abbrev pub hash_line : HashOperation → Line
hash_line hash.Size = of c.Hash (codes "size") 0
hash_line hash.IsEmpty = of c.Hash (codes "empty?") 0
hash_line hash.Get = of c.Hash (codes "[]") 1
hash_line hash.GetOrNil = of c.Hash (codes "[]?") 1
hash_line hash.Set = of c.Hash (codes "[]=") 2
hash_line hash.HasKey = of c.Hash (codes "has_key?") 1
hash_line hash.Delete = of c.Hash (codes "delete") 1
hash_line hash.Keys = of c.Hash (codes "keys") 0
hash_line hash.Values = of c.Hash (codes "values") 0
hash_line hash.Clear = of c.Hash (codes "clear") 0

abbrev pub channel_line : ChannelOperation → Line
channel_line channel.New = of c.Channel (codes "new") 0
channel_line channel.NewSized = of c.Channel (codes "new") 1
channel_line channel.Send = of c.Channel (codes "send") 1
channel_line channel.Receive = of c.Channel (codes "receive") 0
channel_line channel.ReceiveOrNil = of c.Channel (codes "receive?") 0
channel_line channel.Close = of c.Channel (codes "close") 0
channel_line channel.IsClosed = of c.Channel (codes "closed?") 0

abbrev pub context_line : ContextOperation → Line
context_line context.NewConcurrent = of c.Concurrent (codes "new") 1
context_line context.NewParallel = of c.Parallel (codes "new") 2
context_line context.NewIsolated = of c.Isolated (codes "new") 1
context_line context.SpawnConcurrent = of c.Concurrent (codes "spawn") 0
context_line context.SpawnParallel = of c.Parallel (codes "spawn") 0
context_line context.SpawnIsolated = of c.Isolated (codes "spawn") 0
context_line context.Wait = of c.Isolated (codes "wait") 0

unfoldable pub line_of_operation : Operation → Line
line_of_operation (operation.Scalar operation) = scalar_line operation
line_of_operation (operation.Array operation) = array_line operation
line_of_operation (operation.Hash operation) = hash_line operation
line_of_operation (operation.Channel operation) = channel_line operation
line_of_operation (operation.Context operation) = context_line operation
