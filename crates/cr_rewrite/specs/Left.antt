-- Nodes that nest to the left: all begin, the first part comes, and each further part ends one.
use Rattle.std.specs.Prelude.{◌≡◌, ℕ, zero, suc, List, [], ◌∷◌, ◌++◌}
use Rattle.cr_core.specs.declared.form.Form.{Form}
use Rattle.cr_core.specs.declared.row.Event.{Event}
use Rattle.cr_core.specs.declared.row.Event.TheVariants.{Open, Close}
use Rattle.cr_core.specs.Core.{stream}
use Rattle.cr_making.specs.Naming.{State, Given, state_of}
use Rattle.cr_making.specs.Making.{Making, placed}
use Rattle.cr_making.specs.declared.maker.Maker.{Maker}

abbrev pub twice : ℕ → ℕ
twice zero = zero
twice (suc n) = suc (suc (twice n))

-- so many times the event
abbrev pub times : ℕ → Event → List Event
times zero e = []
times (suc n) e = e ∷ times n e

-- each part, and the end of a node behind it
abbrev pub followed : List Making → State → Given (List Event)
followed [] s = record { value = []; after = s }
followed (m ∷ ms) s = let a = m s in let b = followed ms a.after in record { value = stream a.value ++ (Close ∷ b.value); after = b.after }

-- so many nodes begin
pub record Opens (n : ℕ) (f : Form) (at : ℕ) (old new : Maker) : Type 0 where
  pub events : new.events.items ≡ old.events.items ++ times n (Open f (placed (state_of old.naming) at))
  pub state : state_of new.naming ≡ state_of old.naming

-- the parts behind the first come
pub record Follows (ms : List Making) (old new : Maker) : Type 0 where
  pub events : new.events.items ≡ old.events.items ++ (followed ms (state_of old.naming)).value
  pub state : state_of new.naming ≡ (followed ms (state_of old.naming)).after
