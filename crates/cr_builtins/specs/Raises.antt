-- The table of exceptions that the language itself raises, and the line of an unhandled one.
use Rattle.std.specs.Prelude.{ℕ, List, ◌++◌, codes}
use Rattle.std.specs.Fmt.{decimal}
use Rattle.cr_builtins.specs.declared.raise.Raise.{Raise}
use Rattle.cr_builtins.specs.declared.raise.Raise.TheVariants.{Overflow, Division, Index, Key, Closed, Argument, Limit}

-- the name of its class
abbrev pub class_name : Raise → List ℕ
class_name Overflow = codes "OverflowError"
class_name Division = codes "DivisionByZeroError"
class_name Index = codes "IndexError"
class_name Key = codes "KeyError"
class_name Closed = codes "Channel::ClosedError"
class_name Argument = codes "ArgumentError"
class_name Limit = codes "LimitError"

-- its message
abbrev pub message : Raise → List ℕ
message Overflow = codes "Arithmetic overflow"
message Division = codes "Division by 0"
message Index = codes "Index out of bounds"
message Key = codes "Missing hash key"
message Closed = codes "Channel is closed"
message Argument = codes "Argument out of range"
message Limit = codes "Limit reached"

-- the line that is written where an exception of this class and message ends the fiber of this number
abbrev pub unhandled_line : ℕ → List ℕ → List ℕ → List ℕ
unhandled_line fiber class said =
    codes "Unhandled exception in fiber " ++ (decimal fiber ++ (codes ": " ++ (class ++ (codes ": " ++ (said ++ codes "\n")))))
