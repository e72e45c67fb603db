-- What `puts` writes of a value.
use Rattle.std.specs.Prelude.{ℕ, List, [], codes, Option, Some, None, if◌then◌else◌}
use Rattle.std.specs.Fmt.{signed_decimal}
use Rattle.cr_value.specs.declared.value.Value.{Value}
use Rattle.cr_value.specs.declared.value.Value.TheVariants.{Nil, Flag, Small, Big, Word, Ref}

-- The text of a value. A reference has none.
abbrev pub shown : Value → Option (List ℕ)
shown Nil = Some []
shown (Flag flag) = Some (if flag then codes "true" else codes "false")
shown (Small number) = Some (signed_decimal number)
shown (Big number) = Some (signed_decimal number)
shown (Word text) = Some text
shown (Ref cell) = None
