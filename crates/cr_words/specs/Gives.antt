-- What a function ensures that can only want memory.
use Rattle.std.specs.Prelude.{◌≡◌, Result, Ok, Err}
use Rattle.cr_readers.specs.declared.fault.ParseFault.{ParseFault}
use Rattle.cr_readers.specs.declared.fault.ParseFault.TheVariants.{NoMemory}
use Rattle.cr_readers.specs.Reader.{State}

-- this value, or want of memory
abbrev pub Gives : {A : Type 0} → A → Result A ParseFault → Type 0
Gives x (Ok y) = y ≡ x
Gives x (Err e) = e ≡ NoMemory

-- this value at this place, or want of memory
abbrev pub GivesAt : {A : Type 0} → A → State → Result A ParseFault → State → Type 0
GivesAt x s (Ok y) new = (y ≡ x) × (new ≡ s)
GivesAt x s (Err e) new = e ≡ NoMemory
