-- What a function that reads at a cursor ensures.
use Rattle.std.specs.Prelude.{◌≡◌, ◌≢◌, Result, Ok, Err}
use Rattle.cr_readers.specs.declared.fault.ParseFault.{ParseFault}
use Rattle.cr_readers.specs.declared.fault.ParseFault.TheVariants.{NoMemory}
use Rattle.cr_readers.specs.Reader.{State, Outcome, Found, Failed}

-- It comes out as the reader does.
abbrev pub Steps : {A : Type 0} → Outcome A → Result A ParseFault → State → Type 0
Steps outcome (Ok x) new = outcome ≡ Found x new
Steps outcome (Err e) new = outcome ≡ Failed e new

-- It comes out as the reader does, unless memory fails.
abbrev pub Reads : {A : Type 0} → Outcome A → Result A ParseFault → State → Type 0
Reads outcome (Ok x) new = outcome ≡ Found x new
Reads outcome (Err e) new = e ≢ NoMemory → outcome ≡ Failed e new

-- After an error it is as before.
abbrev pub Restores : {A S : Type 0} → Result A ParseFault → S → S → Type 0
Restores (Ok x) old new = Unit {0}
Restores (Err e) old new = new ≡ old
