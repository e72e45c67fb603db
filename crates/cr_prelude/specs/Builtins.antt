-- The lines of the table of built-in methods.
use Rattle.std.specs.Prelude.{◌≡◌, ℕ, Bool, List, map, filter, slice_get, Some}
use Rattle.std.specs.Borrow.{Bor}
use denote.Enum.Bare.{sameb}
use Rattle.cr_prelude.specs.contracts.class.BuiltinClass.{the_type}
use Rattle.cr_prelude.specs.declared.class.Builtin.{Builtin}
use Rattle.cr_prelude.specs.declared.class.BuiltinClass.{BuiltinClass}
use Rattle.cr_prelude.specs.declared.table.TheConstants.{BUILTINS}

-- the method of this name that the class has with this number of arguments
pub record Line : Type 0 where
  pub class : BuiltinClass
  pub name : List ℕ
  pub count : ℕ

abbrev pub line_of : Builtin → Line
line_of b = record { class = b.class; name = b.name.now; count = b.count }

-- the table: the number of a built-in method is the place of its line
unfoldable pub lines : List Line
lines = map (λ entry. record { class = entry.0; name = entry.1.now; count = entry.2 }) BUILTINS

unfoldable pub same_class : BuiltinClass → BuiltinClass → Bool
same_class = sameb the_type

-- the names of a class's lines, with their numbers of arguments
unfoldable pub methods_of : BuiltinClass → List (List ℕ × ℕ)
methods_of class = map (λ (l : Line). (l.name, l.count)) (filter (λ (l : Line). same_class class l.class) lines)

-- A line stands at one place.
abbrev pub OneNumberALine : Type 0
OneNumberALine = (i j : ℕ) (l : Line) → slice_get lines i ≡ Some l → slice_get lines j ≡ Some l → i ≡ j

-- ---- what carries the proofs inside

-- a line as code reads it
abbrev pub line_at : BuiltinClass × Bor (List ℕ) × ℕ → Line
line_at entry = record { class = entry.0; name = entry.1.now; count = entry.2 }
