-- What the code does, said by what is made.
use Rattle.std.specs.Prelude.{◌≡◌, ℕ, zero, suc, List, [], ◌∷◌, ◌++◌, Bool, length, reverse}
use Rattle.cr_core.specs.declared.form.Form.{Form}
use Rattle.cr_core.specs.declared.row.Event.{Event}
use Rattle.cr_core.specs.declared.row.Event.TheVariants.{Open, Close}
use Rattle.cr_core.specs.Core.{stream}
use Rattle.cr_making.specs.Naming.{State, Given, state_of, settled, entered_apart}
use Rattle.cr_making.specs.Naming as n
use Rattle.cr_making.specs.Making.{Making, placed, Ahead}
use Rattle.cr_making.specs.declared.maker.Maker.{Maker}
use Rattle.cr_making.specs.declared.naming.Naming.{Naming}
use Rattle.cr_making.specs.declared.naming.Apart.{Apart}

-- The events and the names are those of what is made.
pub record Makes (m : Making) (old new : Maker) : Type 0 where
  pub events : new.events.items ≡ old.events.items ++ stream (m (state_of old.naming)).value
  pub state : state_of new.naming ≡ (m (state_of old.naming)).after

-- so many events come, and no name
pub record Puts (es : List Event) (old new : Maker) : Type 0 where
  pub events : new.events.items ≡ old.events.items ++ es
  pub state : state_of new.naming ≡ state_of old.naming

-- a node begins
pub record Begins (f : Form) (at : ℕ) (old new : Maker) : Type 0 where
  pub events : new.events.items ≡ old.events.items ++ Open f (placed (state_of old.naming) at) ∷ []
  pub state : state_of new.naming ≡ state_of old.naming

-- so many closings
abbrev pub closes : ℕ → List Event
closes zero = []
closes (suc n) = Close ∷ closes n

-- a step gives a value, and no event comes
pub record Steps {A : Type 0} (step : State → Given A) (old : Maker) (value : A) (new : Maker) : Type 0 where
  pub events : new.events.items ≡ old.events.items
  pub is : value ≡ (step (state_of old.naming)).value
  pub after : state_of new.naming ≡ (step (state_of old.naming)).after

-- the events of the nodes f(m1, f(m2, .. that have begun, and the state then
abbrev pub begun : Form → List Ahead → State → Given (List Event)
begun f [] s = record { value = []; after = s }
begun f (m ∷ ms) s = let a = m.made s in let b = begun f ms a.after in record { value = Open f (placed s m.at) ∷ (stream a.value ++ b.value); after = b.after }

-- the nodes f(m1, f(m2, .. have begun, and none has ended
pub record Nests (f : Form) (ms : List Ahead) (old new : Maker) : Type 0 where
  pub events : new.events.items ≡ old.events.items ++ (begun f ms (state_of old.naming)).value
  pub state : state_of new.naming ≡ (begun f ms (state_of old.naming)).after

-- the innermost scope ends
pub record Leaves (old new : Maker) : Type 0 where
  pub events : new.events.items ≡ old.events.items
  pub state : state_of new.naming ≡ n.left (state_of old.naming)

-- the text is that of the prelude, or that of the source
pub record Turns (prelude : Bool) (old new : Maker) : Type 0 where
  pub events : new.events.items ≡ old.events.items
  pub state : state_of new.naming ≡ record (state_of old.naming) { prelude = prelude }

-- ---- a scope that sees none around it

pub record SetsApart (old : Naming) (apart : Apart) (new : Naming) : Type 0 where
  pub number : apart.number ≡ record { 0 = length old.scopes.items }
  pub inner : apart.inner ≡ old.inner
  pub around : apart.around.items ≡ old.around.items
  pub after : state_of new ≡ (entered_apart (state_of old)).after

abbrev pub rejoined_to : Apart → State → State
rejoined_to apart s = record s { scopes = settled s.inner s.scopes; inner = apart.inner; around = reverse apart.around.items }

pub record Enters (old : Maker) (apart : Apart) (new : Maker) : Type 0 where
  pub events : new.events.items ≡ old.events.items
  pub naming : SetsApart old.naming apart new.naming

pub record Rejoins (apart : Apart) (old new : Maker) : Type 0 where
  pub events : new.events.items ≡ old.events.items
  pub state : state_of new.naming ≡ rejoined_to apart (state_of old.naming)
