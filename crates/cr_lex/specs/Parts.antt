-- What the reader of a part gives.
use Rattle.std.specs.Prelude.{◌≡◌, ℕ, ◌≤◌, Bool, false, List, length, Result, Ok, Err}
use Rattle.cr_syntax.specs.declared.token.TokenKind.{TokenKind}
use Rattle.cr_syntax.specs.Texts.{Part}
use Rattle.cr_lex.specs.declared.texts.Body.{Body}
use Rattle.cr_lex.specs.declared.texts.PartFault.{PartFault}
use Rattle.cr_lex.specs.declared.texts.PartFault.TheVariants as fault
use Rattle.cr_lex.specs.Longest.{IsLongest, HasNone}
use Rattle.cr_lex.specs.Texts.{part_form, Scan, Found, Bad, Unended, scan}

abbrev pub part_in : Body → Part
part_in body = record { bytes = body.content.items; opens = body.opens }

abbrev pub ScanFails : PartFault → Scan → Type 0
ScanFails (fault.Escape n) s = s ≡ Bad n
ScanFails fault.Unended s = s ≡ Unended
ScanFails fault.NoMemory s = Unit {0}

abbrev pub Scans : Result Body PartFault → Scan → Type 0
Scans (Ok body) s = s ≡ Found (part_in body) body.len
Scans (Err f) s = ScanFails f s

abbrev pub IsWithin : PartFault → List ℕ → Type 0
IsWithin (fault.Escape n) bytes = n ≤ length bytes
IsWithin fault.Unended bytes = Unit {0}
IsWithin fault.NoMemory bytes = Unit {0}

abbrev pub HasNoPart : Bool → List ℕ → PartFault → Type 0
HasNoPart quoted bytes fault.NoMemory = Unit {0}
HasNoPart quoted bytes f = HasNone (part_form quoted) bytes × ScanFails f (scan false bytes) × IsWithin f bytes

abbrev pub ReadsPart : Bool → List ℕ → Result (TokenKind × ℕ) PartFault → Type 0
ReadsPart quoted bytes (Ok found) = IsLongest (part_form quoted) bytes found.1 found.0
ReadsPart quoted bytes (Err f) = HasNoPart quoted bytes f
