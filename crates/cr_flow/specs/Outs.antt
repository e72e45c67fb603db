-- Where an evaluation can lead without an assignment, in one pass over the tree.
use Rattle.std.specs.Prelude.{◌≡◌, ℕ, zero, suc, ◌-◌, ◌||◌, ◌==◌, nat_lt, Bool, true, false, if◌then◌else◌, Option, Some, None, List, [], ◌∷◌, length, map, slice_get}
use Rattle.cr_base.specs.declared.ids.NodeId.{NodeId}
use Rattle.cr_core.specs.declared.form.Form.{Form}
use Rattle.cr_core.specs.declared.row.Row.{Row}
use Rattle.cr_core.specs.Arena.{Opening, Opens, Turns, Plain, opening}
use Rattle.cr_flow.specs.declared.variable.Variable.{Variable}
use Rattle.cr_flow.specs.declared.variable.Outcome.TheVariants.{Yes, No}
use Rattle.cr_flow.specs.declared.variable.Arm.{Arm}
use Rattle.cr_flow.specs.declared.variable.Arm.TheVariants.{Part, Give}
use Rattle.cr_flow.specs.declared.outs.Outs.{Outs}
use Rattle.cr_flow.specs.Control.{is_test, arm, keeps, ends, is_break, is_next, is_return, assigns, has_arm, is_clause, is_choice, runs_apart, heads, last}

-- of two ranks the lower one
abbrev pub lower : ℕ → ℕ → ℕ
lower a b = if nat_lt a b then a else b

abbrev pub least : Option ℕ → Option ℕ → Option ℕ
least None b = b
least (Some a) None = Some a
least (Some a) (Some b) = Some (lower a b)

abbrev pub ending : Bool → Bool → Outs
ending t u = record { found = None; yes = t; no = u; leaves = false; skips = false; returns = false }

abbrev pub none : Outs
none = ending false false

abbrev pub join : Outs → Outs → Outs
join a b = record { found = least a.found b.found; yes = a.yes || b.yes; no = a.no || b.no; leaves = a.leaves || b.leaves; skips = a.skips || b.skips; returns = a.returns || b.returns }

abbrev pub also : Bool → Outs → Outs → Outs
also b a o = if b then join a o else a

abbrev pub goes_on : Outs → Bool
goes_on o = o.yes || o.no

abbrev pub reaches_end : Outs → Bool
reaches_end o = (goes_on o || o.skips) || o.returns

abbrev pub jumps : Outs → Outs
jumps o = record o { yes = false; no = false }

abbrev pub either : Outs → Outs
either o = record o { yes = goes_on o; no = goes_on o }

abbrev pub stopped : Bool → Outs → Outs
stopped b o = record { found = o.found; yes = o.yes || b; no = o.no || b; leaves = false; skips = false; returns = o.returns }

-- what a loop and a scope make of the jumps in them
abbrev pub caught_by : Opening → Outs → Outs
caught_by (Opens scope) o = stopped o.skips o
caught_by Turns o = stopped o.leaves o
caught_by Plain o = o

abbrev pub caught : Form → Outs → Outs
caught form o = caught_by (opening form) o

-- what the act leads to of itself, and with what it may run
abbrev pub act : Form → Outs
act form = record { found = None; yes = ends form Yes; no = ends form No; leaves = is_break form; skips = is_next form; returns = is_return form }

abbrev pub beside : Form → Outs → Outs
beside form o = if runs_apart form then jumps o else either o

-- a node of this rank acts
abbrev pub here : Option ℕ → Outs
here k = record none { found = k }

abbrev pub acted : Option ℕ → Variable → Form → Outs → Outs
acted k x form o = if assigns form x then here k else join (here k) (join (act form) (beside form o))

-- parts in order, then the act
abbrev pub chain : Outs → Outs → List Outs → Outs
chain all end [] = join all end
chain all end (o ∷ os) = if goes_on o then chain (join all (jumps o)) end os else join all (jumps o)

abbrev pub at_in : Option Outs → Outs
at_in None = none
at_in (Some o) = o

abbrev pub at : List Outs → ℕ → Outs
at os i = at_in (slice_get os i)

-- what the outcome of a condition leads to at once: its jumps, and the act of its row
abbrev pub decided : Option ℕ → Outs → Outs
decided k c = also (goes_on c) (jumps c) (here k)

-- by the outcome of the first part
abbrev pub backed : Bool → Outs → Outs
backed keeps o = if keeps then o else either o

abbrev pub armed : Form → List Outs → Arm → Outs
armed form os (Part j) = backed (keeps form) (at os j)
armed form os (Give t u) = ending t u

abbrev pub tested : Option ℕ → Form → List Outs → Outs
tested k form os = let c = at os 0 in also c.no (also c.yes (decided k c) (armed form os (arm form Yes))) (armed form os (arm form No))

-- before a row goes on as its last part: of its first part, and of what is done where that holds
abbrev pub led : Option ℕ → (NodeId → Outs) → Outs → Option NodeId → Outs
led k g c None = decided k c
led k g c (Some a) = also c.yes (decided k c) (either (g a))

abbrev pub leads_on : Outs → Option NodeId → Bool
leads_on c None = goes_on c
leads_on c (Some a) = c.no

-- what an act may run
abbrev pub at_node : (NodeId → Outs) → Option NodeId → Outs
at_node g None = none
at_node g (Some c) = g c

abbrev pub own_outs : (NodeId → Outs) → Row → Outs
own_outs g r = if has_arm r.form then at_node g (last r.parts) else none

abbrev pub clause_outs : (NodeId → Outs) → Option Row → Outs
clause_outs g None = none
clause_outs g (Some s) = if is_clause s.form then at_node g (last s.parts) else none

abbrev pub clauses_outs : (NodeId → Outs) → List Row → Outs → List NodeId → Outs
clauses_outs g rows all [] = all
clauses_outs g rows all (c ∷ cs) = clauses_outs g rows (join all (clause_outs g (slice_get rows c.0))) cs

abbrev pub arms_outs : (NodeId → Outs) → List Row → Row → Outs
arms_outs g rows r = if is_choice r.form then clauses_outs g rows (own_outs g r) (heads r.form r.parts) else own_outs g r

-- a node, of which the ranks of nodes are told
abbrev pub inner : (NodeId → Outs) → List Row → (NodeId → Option ℕ) → Variable → NodeId → Row → Outs
inner g rows t x n r =
    if is_test r.form then tested (t n) r.form (map g (heads r.form r.parts))
    else chain none (acted (t n) x r.form (arms_outs g rows r)) (map g (heads r.form r.parts))

abbrev pub outs_in : (NodeId → Outs) → List Row → (NodeId → Option ℕ) → Variable → NodeId → Option Row → Outs
outs_in g rows t x n None = none
outs_in g rows t x n (Some r) = caught r.form (inner g rows t x n r)

abbrev pub outs_to : ℕ → List Row → (NodeId → Option ℕ) → Variable → NodeId → Outs
outs_to zero rows t x n = none
outs_to (suc k) rows t x n = outs_in (outs_to k rows t x) rows t x n (slice_get rows n.0)

unfoldable pub reach : List Row → (NodeId → Option ℕ) → Variable → NodeId → Outs
reach rows t x n = outs_to (length rows - n.0) rows t x n

-- of rows that went on so, with what came before
abbrev pub finished : Bool → Outs → Outs → Outs
finished b all o = if b then join all (either o) else o
