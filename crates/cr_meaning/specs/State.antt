-- States: fibers, cells, variables and what was written.
use Rattle.std.specs.Prelude.{ℕ, List, [], ◌∷◌, ◌++◌, Option, slice_set}
use Rattle.cr_base.specs.declared.ids.ClassId.{ClassId}
use Rattle.cr_base.specs.declared.ids.MethodId.{MethodId}
use Rattle.cr_base.specs.declared.ids.NameId.{NameId}
use Rattle.cr_base.specs.declared.ids.NodeId.{NodeId}
use Rattle.cr_value.specs.declared.value.Value.{Value}
use Rattle.cr_items.specs.Channel.{Channel}
use Rattle.cr_meaning.specs.Term.{Term, Val}

-- ---- cells

-- An object: its class, and the fields that were assigned; the others are nil.
pub record Instance : Type 0 where
  pub class : ClassId
  pub fields : List (NameId × Value)

pub data Cell : Type 0 where
  Object : Instance → Cell
  Array : List Value → Cell
  Hash : List (Value × Value) → Cell
  Chan : Channel → Cell
  Context : ℕ → Cell  -- by its number

-- ---- contexts

pub data Kind : Type 0 where
  Concurrent : Kind
  Parallel : Kind
  Isolated : (fiber : ℕ) → Kind  -- with its fiber

pub record Where : Type 0 where
  pub kind : Kind
  pub size : ℕ

-- ---- locals

-- A captured local: the fiber that made it, and a running number there.
pub record Variable : Type 0 where
  pub fiber : ℕ
  pub number : ℕ

pub data Slot : Type 0 where
  Own : Value → Slot
  Shared : Variable → Slot

-- the block that a call was given: its row, and the place of the locals among which it was written
pub record Given : Type 0 where
  pub block : NodeId
  pub home : ℕ

-- The locals of main, of a call or of a block in progress. `home` is the place of the locals around those of a block, and nothing lies
-- around the others. Receiver, method and given block are those of the call in which a block was written.
pub record Locals : Type 0 where
  pub home : Option ℕ
  pub slots : List Slot
  pub receiver : Option Value
  pub method : Option MethodId
  pub given : Option Given

-- ---- fibers

pub data Status : Type 0 where
  Ready : Status
  Current : Status
  Waiting : Status
  Done : Status
  Raised : Status  -- done, by a raise

-- `locals` are those of the calls and blocks in progress, the innermost last.
pub record Fiber : Type 0 where
  pub term : Term
  pub locals : List Locals
  pub variables : List Value
  pub context : ℕ
  pub status : Status

pub record State : Type 0 where
  pub fibers : List Fiber
  pub cells : List Cell
  pub contexts : List Where
  pub output : List ℕ
  pub errors : List ℕ

abbrev pub set_fiber : State → ℕ → Fiber → State
set_fiber s i fiber = record s { fibers = slice_set s.fibers i fiber }

abbrev pub set_cell : State → ℕ → Cell → State
set_cell s k cell = record s { cells = slice_set s.cells k cell }

abbrev pub with_cell : State → Cell → State
with_cell s cell = record s { cells = s.cells ++ cell ∷ [] }

abbrev pub with_status : Fiber → Status → Fiber
with_status fiber status = record fiber { status = status }

-- A fiber is done as soon as its term is a value.
abbrev pub status_with : Term → Status → Status
status_with (Val v) status = Done
status_with t status = status
