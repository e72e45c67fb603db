-- Names, texts and locals, as they come in the order of the text.
use Rattle.std.specs.Prelude.{◌≡◌, ℕ, zero, suc, ◌+◌, List, [], ◌∷◌, ◌++◌, length, reverse, Option, Some, None, slice_get, slice_set, Bool}
use Rattle.cr_base.specs.declared.ids.NameId.{NameId}
use Rattle.cr_syntax.specs.Names.{name_place, with_name}
use Rattle.cr_core.specs.declared.form.Local.{Local}
use Rattle.cr_core.specs.declared.form.ScopeId.{ScopeId}
use Rattle.cr_core.specs.declared.form.TextId.{TextId}
use Rattle.cr_making.specs.Slots.{later, slot_of}
use Rattle.cr_making.specs.declared.naming.Naming.{Naming}
use Rattle.cr_making.specs.declared.naming.Opened.{Opened}
use Rattle.cr_making.specs.declared.naming.Passed.{Passed}

-- The names and texts so far; the locals of each scope that has begun, which are there once it has ended; the innermost open
-- scope, and those that it can see, innermost first; and whether it is the prelude that is rewritten.
pub record State : Type 0 where
  pub names : List (List ℕ)
  pub texts : List (List ℕ)
  pub scopes : List (List (Option NameId))
  pub inner : Opened
  pub around : List Opened
  pub prelude : Bool

abbrev pub state_of : Naming → State
state_of n = record { names = n.names; texts = n.texts; scopes = n.scopes.items; inner = n.inner; around = reverse n.around.items; prelude = n.prelude }

-- ---- which name is a local

abbrev pub local_at : ScopeId → ℕ → Option ℕ → Option Local
local_at scope up None = None
local_at scope up (Some slot) = Some (record { scope = scope; slot = slot; up = up })

-- the local of that name in these scopes, innermost first, of which the first lies this many scopes outwards
abbrev pub resolved_from : ℕ → NameId → List Opened → Option Local
resolved_from up name [] = None
resolved_from up name (o ∷ os) = later (local_at o.number up (slot_of 0 name o.slots)) (resolved_from (up + 1) name os)

-- A name stands for a local where that is a parameter, or an assignment to it stands earlier in the text, of the scope or of
-- one that it can see.
abbrev pub resolved : NameId → State → Option Local
resolved name s = resolved_from 0 name (s.inner ∷ s.around)

-- ---- steps, each with what it gives and the state after it

pub record Given (A : Type 0) : Type 0 where
  pub value : A
  pub after : State

pub record Gives {A : Type 0} (step : State → Given A) (old : Naming) (value : A) (new : Naming) : Type 0 where
  pub is : value ≡ (step (state_of old)).value
  pub after : state_of new ≡ (step (state_of old)).after

abbrev pub named : List ℕ → State → Given NameId
named text s = record { value = record { 0 = name_place s.names text }; after = record s { names = with_name s.names text } }

abbrev pub literal : List ℕ → State → Given TextId
literal text s = record { value = record { 0 = name_place s.texts text }; after = record s { texts = with_name s.texts text } }

-- one more local of the innermost scope
abbrev pub declared : Option NameId → State → Given Local
declared name s = record {
  value = record { scope = s.inner.number; slot = length s.inner.slots; up = 0 };
  after = record s { inner = record { number = s.inner.number; slots = s.inner.slots ++ name ∷ []; parameters = s.inner.parameters } };
}

abbrev pub declared_times : ℕ → State → State
declared_times zero s = s
declared_times (suc n) s = declared_times n (declared None s).after

-- a fresh local, and so many more behind it
abbrev pub fresh : ℕ → State → Given Local
fresh more s = record { value = (declared None s).value; after = declared_times more (declared None s).after }

-- the local that stands so many slots behind
abbrev pub later_local : Local → ℕ → Local
later_local l n = record { scope = l.scope; slot = l.slot + n; up = l.up }

-- the locals of the innermost scope so far are its parameters
abbrev pub with_parameters : State → Given ℕ
with_parameters s = record {
  value = length s.inner.slots;
  after = record s { inner = record { number = s.inner.number; slots = s.inner.slots; parameters = length s.inner.slots } };
}

-- what the name stands for
abbrev pub found : NameId → State → Given (Option Local)
found name s = record { value = resolved name s; after = s }

abbrev pub target_by : NameId → Option Local → State → Given Local
target_by name None s = declared (Some name) s
target_by name (Some local) s = record { value = local; after = s }

-- the local that an assignment to the name means
abbrev pub target : NameId → State → Given Local
target name s = target_by name (resolved name s) s

-- the scope of the running method, and how many scopes outwards it lies
abbrev pub outermost_of : Opened → List Opened → Opened
outermost_of o [] = o
outermost_of o (p ∷ ps) = outermost_of p ps

-- the parameters of the running method
abbrev pub passed : State → Given Passed
passed s = let o = outermost_of s.inner s.around in record { value = record { first = record { scope = o.number; slot = 0; up = length s.around }; count = o.parameters }; after = s }

abbrev pub fresh_scope : State → Opened
fresh_scope s = record { number = record { 0 = length s.scopes }; slots = []; parameters = 0 }

-- a scope begins that sees those around it
abbrev pub entered : State → Given ScopeId
entered s = record {
  value = record { 0 = length s.scopes };
  after = record s { scopes = s.scopes ++ [] ∷ []; inner = fresh_scope s; around = s.inner ∷ s.around };
}

-- a scope begins that sees none
abbrev pub entered_apart : State → Given ScopeId
entered_apart s = record {
  value = record { 0 = length s.scopes };
  after = record s { scopes = s.scopes ++ [] ∷ []; inner = fresh_scope s; around = [] };
}

abbrev pub with_slots : Opened → List (List (Option NameId)) → Option (List (Option NameId)) → List (List (Option NameId))
with_slots o scopes None = scopes
with_slots o scopes (Some before) = slice_set scopes o.number.0 o.slots

-- a scope has the locals that it has when it ends
abbrev pub settled : Opened → List (List (Option NameId)) → List (List (Option NameId))
settled o scopes = with_slots o scopes (slice_get scopes o.number.0)

abbrev pub left_by : List Opened → State → State
left_by [] s = s
left_by (o ∷ os) s = record s { scopes = settled s.inner s.scopes; inner = o; around = os }

-- the innermost scope ends
abbrev pub left : State → State
left s = left_by s.around s

-- the innermost scope ends, and those are open that were open before
abbrev pub rejoined : State → State → State
rejoined before s = record s { scopes = settled s.inner s.scopes; inner = before.inner; around = before.around }
