-- The next redex of a term, what stands in its place afterwards, and where a jump ends.
use Rattle.std.specs.Prelude.{ℕ, zero, suc, ◌+◌, ◌-◌, Bool, true, false, if◌then◌else◌, Option, Some, None, is_some, unwrap_or}
use Rattle.cr_value.specs.declared.value.Value.{Value}
use Rattle.cr_value.specs.declared.value.Value.TheVariants.{Nil}
use Rattle.cr_core.specs.declared.form.Form.{Form}
use Rattle.cr_core.specs.declared.form.Form.TheVariants as f
use Rattle.cr_meaning.specs.Term.{Term, Terms, Val, Node, Turn, Frame, Body, Sent, none, part}

-- ---- which parts are reduced first, from left to right

abbrev pub less : ℕ → Bool → ℕ → ℕ
less k true n = n - k
less k false n = n

-- how many parts stand before the first of them
abbrev pub skipped : Form → ℕ
skipped (f.New question block) = 1
skipped other = 0

-- up to which part they stand, of so many
abbrev pub last_reduced : Form → ℕ → ℕ
last_reduced (f.Set local) n = 1
last_reduced (f.SetField name) n = 1
last_reduced f.Seq n = 1
last_reduced f.If n = 1
last_reduced f.And n = 1
last_reduced f.Or n = 1
last_reduced f.Not n = 1
last_reduced f.IsA n = 1
last_reduced f.Return n = 1
last_reduced f.Next n = 1
last_reduced (f.Call name receiver block) n = less 1 block n
last_reduced f.Super n = n
last_reduced (f.New question block) n = less 1 block n
last_reduced f.Yield n = n
last_reduced (f.Spawn context) n = if context then 1 else 0
last_reduced f.Raise n = 1
last_reduced f.Puts n = 1
last_reduced (f.Array of) n = less 1 of n
last_reduced (f.Hash of) n = less 2 of n
last_reduced (f.Select otherwise) n = less 1 otherwise n
last_reduced f.Send n = 2
last_reduced f.Receive n = 1
last_reduced f.ReceiveOrNil n = 1
last_reduced other n = 0

-- a clause of a choice has no reduction of its own
abbrev pub is_clause : Form → Bool
is_clause f.Send = true
is_clause f.Receive = true
is_clause f.ReceiveOrNil = true
is_clause other = false

abbrev pub count : Terms → ℕ
count none = 0
count (part t ts) = count ts + 1

-- ---- the redex

abbrev pub or_else : Option Term → Option Term → Option Term
or_else (Some t) other = Some t
or_else None other = other

abbrev pub unless_clause : Bool → Term → Option Term
unless_clause true t = None
unless_clause false t = Some t

-- The leftmost innermost redex: a node whose first parts are values, or a loop, a call or a block round a value or a jump. A value has
-- none, nor a clause whose parts are values.
abbrev mutual
  pub redex : Term → Option Term
  redex (Val v) = None
  redex (Node n form ps) = or_else (redex_among (skipped form) (last_reduced form (count ps)) ps) (unless_clause (is_clause form) (Node n form ps))
  redex (Turn fresh now) = or_else (redex now) (Some (Turn fresh now))
  redex (Frame gives t) = or_else (redex t) (Some (Frame gives t))
  redex (Body t) = or_else (redex t) (Some (Body t))
  redex (Sent channel item) = Some (Sent channel item)

  -- among the parts from the first of these places until the second
  pub redex_among : ℕ → ℕ → Terms → Option Term
  redex_among from until none = None
  redex_among from zero (part t ts) = None
  redex_among (suc from) (suc until) (part t ts) = redex_among from until ts
  redex_among zero (suc until) (part t ts) = or_else (redex t) (redex_among zero until ts)

-- The term with another one in place of its redex.
abbrev mutual
  pub put : Term → Term → Term
  put new (Val v) = Val v
  put new (Node n form ps) =
      if is_some (redex_among (skipped form) (last_reduced form (count ps)) ps)
      then Node n form (put_among new (skipped form) (last_reduced form (count ps)) ps)
      else new
  put new (Turn fresh now) = if is_some (redex now) then Turn fresh (put new now) else new
  put new (Frame gives t) = if is_some (redex t) then Frame gives (put new t) else new
  put new (Body t) = if is_some (redex t) then Body (put new t) else new
  put new (Sent channel item) = new

  pub put_among : Term → ℕ → ℕ → Terms → Terms
  put_among new from until none = none
  put_among new from zero ts = ts
  put_among new (suc from) (suc until) (part t ts) = part t (put_among new from until ts)
  put_among new zero (suc until) (part t ts) = if is_some (redex t) then part (put new t) ts else part t (put_among new zero until ts)

-- ---- jumps

-- a jump that looks for the loop, block or call that it leaves
pub data Exit : Type 0 where
  ByAgain : Exit
  ByBreak : Exit
  ByNext : Value → Exit
  ByReturn : Value → Exit

-- Where it comes to: it goes on outwards; it ends, and this is the term then, with the locals of what it left or without; or a call or a
-- block bars it.
pub data Jump : Type 0 where
  Outwards : Jump
  Ends : (leaves_locals : Bool) → Term → Jump
  Barred : Jump

abbrev pub inside : (Term → Term) → Jump → Jump
inside whole Outwards = Outwards
inside whole (Ends leaves t) = Ends leaves (whole t)
inside whole Barred = Barred

-- a loop begins a fresh turn at its turn's end and at `next`, and `break` ends it
abbrev pub out_of_turn : Exit → Term → Jump
out_of_turn ByAgain fresh = Ends false (Turn fresh fresh)
out_of_turn (ByNext v) fresh = Ends false (Turn fresh fresh)
out_of_turn ByBreak fresh = Ends false (Val Nil)
out_of_turn (ByReturn v) fresh = Outwards

-- `return` ends a call
abbrev pub out_of_frame : Exit → Option Value → Jump
out_of_frame (ByReturn v) gives = Ends true (Val (unwrap_or gives v))
out_of_frame other gives = Barred

-- `next` ends a block
abbrev pub out_of_body : Exit → Jump
out_of_body (ByNext v) = Ends true (Val v)
out_of_body other = Barred

abbrev pub at_turn : Exit → Term → Jump → Jump
at_turn e fresh Outwards = out_of_turn e fresh
at_turn e fresh (Ends leaves t) = Ends leaves (Turn fresh t)
at_turn e fresh Barred = Barred

abbrev pub at_frame : Exit → Option Value → Jump → Jump
at_frame e gives Outwards = out_of_frame e gives
at_frame e gives (Ends leaves t) = Ends leaves (Frame gives t)
at_frame e gives Barred = Barred

abbrev pub at_body : Exit → Jump → Jump
at_body e Outwards = out_of_body e
at_body e (Ends leaves t) = Ends leaves (Body t)
at_body e Barred = Barred

-- Where the jump that is the redex ends.
abbrev mutual
  pub jump : Exit → Term → Jump
  jump e (Val v) = Outwards
  jump e (Node n form ps) = jump_among e (Node n form) (skipped form) (last_reduced form (count ps)) ps
  jump e (Turn fresh now) = at_turn e fresh (jump e now)
  jump e (Frame gives t) = at_frame e gives (jump e t)
  jump e (Body t) = at_body e (jump e t)
  jump e (Sent channel item) = Outwards

  pub jump_among : Exit → (Terms → Term) → ℕ → ℕ → Terms → Jump
  jump_among e whole from until none = Outwards
  jump_among e whole from zero (part t ts) = Outwards
  jump_among e whole (suc from) (suc until) (part t ts) = jump_among e (λ us. whole (part t us)) from until ts
  jump_among e whole zero (suc until) (part t ts) =
      if is_some (redex t) then inside (λ u. whole (part u ts)) (jump e t) else jump_among e (λ us. whole (part t us)) zero until ts

-- ---- calls in progress

abbrev mutual
  pub frames : Term → ℕ
  frames (Val v) = 0
  frames (Node n form ps) = frames_among ps
  frames (Turn fresh now) = frames now
  frames (Frame gives t) = frames t + 1
  frames (Body t) = frames t
  frames (Sent channel item) = 0

  pub frames_among : Terms → ℕ
  frames_among none = 0
  frames_among (part t ts) = frames t + frames_among ts

-- ---- the parts of a redex

abbrev pub value_of : Term → Value
value_of (Val v) = v
value_of other = Nil

-- the part at a place; nil where there is none
abbrev pub part_at : ℕ → Terms → Term
part_at n none = Val Nil
part_at zero (part t ts) = t
part_at (suc n) (part t ts) = part_at n ts
