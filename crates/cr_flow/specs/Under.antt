-- What stands under a row, and rows that name no instance variable of a given name.
use Rattle.std.specs.Prelude.{◌≡◌, ◌<◌, ◌≤◌, ℕ, zero, suc, ◌+◌, ◌-◌, nat_lt, if◌then◌else◌, Option, Some, None, List, [], ◌∷◌, length, set, get_or, slice_get}
use Rattle.cr_base.specs.declared.ids.NameId.{NameId}
use Rattle.cr_base.specs.declared.ids.NodeId.{NodeId}
use Rattle.cr_core.specs.declared.form.Form.{Form}
use Rattle.cr_core.specs.declared.form.Form.TheVariants as f
use Rattle.cr_core.specs.declared.row.Row.{Row}
use Rattle.cr_flow.specs.Ways.{IsRow}

abbrev pub higher : ℕ → ℕ → ℕ
higher a b = if nat_lt a b then b else a

-- The number behind all rows under row n: of the rows before `end`, as far as they are told, the last one first; of the others it is the number of all.
abbrev pub past : ℕ → ℕ → List ℕ → ℕ → ℕ
past many end pasts n = if nat_lt n end then get_or pasts (end - suc n) many else many

abbrev pub furthest : ℕ → ℕ → List ℕ → ℕ → List NodeId → ℕ
furthest many end pasts own [] = own
furthest many end pasts own (p ∷ ps) = furthest many end pasts (higher own (past many end pasts p.0)) ps

-- each row stands before that number, and the numbers of its parts are none above it
pub record ArePasts (rows : List Row) (end : ℕ) (pasts : List ℕ) : Type 0 where
  pub most : (n : ℕ) → past (length rows) end pasts n ≤ length rows
  pub own : (n : ℕ) → n < length rows → n < past (length rows) end pasts n
  pub parts : (n c : NodeId) (i : ℕ) (r : Row) → IsRow rows n r → slice_get r.parts i ≡ Some c → past (length rows) end pasts c.0 ≤ past (length rows) end pasts n.0

-- the instance variable that a row reads or sets
abbrev pub named : Form → Option NameId
named (f.Field name) = Some name
named (f.SetField name) = Some name
named form = None

-- no row from the one number to before the other names it
abbrev pub IsClearFrom : List Row → NameId → ℕ → ℕ → Type 0
IsClearFrom rows k low m = (n : ℕ) (r : Row) → low ≤ n → n < m → slice_get rows n ≡ Some r → ¬ (named r.form ≡ Some k)

-- the first row from this one on that names each, or an earlier number
abbrev pub AreFirsts : List Row → ℕ → List ℕ → Type 0
AreFirsts rows low firsts = (k : NameId) (m : ℕ) → slice_get firsts k.0 ≡ Some m → IsClearFrom rows k low m

abbrev pub noted_in : ℕ → ℕ → List ℕ → Option ℕ → List ℕ
noted_in n k firsts None = firsts
noted_in n k firsts (Some m) = set firsts k n

abbrev pub noted : ℕ → List ℕ → Option NameId → List ℕ
noted n firsts None = firsts
noted n firsts (Some k) = noted_in n k.0 firsts (slice_get firsts k.0)
