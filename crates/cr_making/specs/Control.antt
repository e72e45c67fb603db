-- Core forms of conditions, loops, jumps, `case` and `select`.
use Rattle.std.specs.Prelude.{ℕ, List, [], ◌∷◌, map, Option, Some, None, Bool, true, false, codes}
use Rattle.cr_base.specs.declared.ids.NameId.{NameId}
use Rattle.cr_core.specs.declared.form.Form.{Form}
use Rattle.cr_core.specs.declared.form.Form.TheVariants as f
use Rattle.cr_core.specs.declared.form.Local.{Local}
use Rattle.cr_making.specs.Naming.{named, declared, target, found}
use Rattle.cr_making.specs.Making.{Making, nothing, ◌▸◌, flipped, wrapped, leaf, using, nest}
use Rattle.cr_making.specs.declared.words.Operation.{Operation}
use Rattle.cr_making.specs.declared.words.Operation.TheVariants.{Send, Receive, ReceiveOrNil, NoOperation}
use Rattle.cr_making.specs.Words.{operation_of}
use Rattle.cr_making.specs.Part.{Part, Head, Called, NoHead, each, statements}
use Rattle.cr_making.specs.Terms.{sent}

-- ---- `if`, `elsif` and `unless`: nested If; a missing part is nil

abbrev pub otherwise : ℕ → Option (List Part) → Making
otherwise at None = leaf f.Nil at
otherwise at (Some ps) = statements at ps

-- `unless` has its branches the other way round
abbrev pub sides : Bool → Making → Making → Making
sides true then other = flipped then other
sides false then other = then ▸ other

unfoldable pub branches : ℕ → List Part → Option (List Part) → Making
branches at others last = nest f.If (map (λ (p : Part). p.branch) others) (otherwise at last)

unfoldable pub conditional : ℕ → Bool → Part → List Part → List Part → Option (List Part) → Making
conditional at unless condition body others last = wrapped f.If at (condition.own ▸ sides unless (statements at body) (branches at others last))

-- in place of a condition and what follows
abbrev pub two_nils : Making
two_nils = leaf f.Nil 0 ▸ leaf f.Nil 0

unfoldable pub branch : ℕ → Part → List Part → Making
branch at condition body = condition.own ▸ statements at body

-- ---- loops: While(If(c, Seq(b, Again), nil)), and `until` with Not(c)

abbrev pub test : ℕ → Bool → Making → Making
test at true m = wrapped f.Not at m
test at false m = m

unfoldable pub loop : ℕ → Bool → Part → List Part → Making
loop at until condition body =
    wrapped f.While at (wrapped f.If at (test at until condition.own ▸ wrapped f.Seq at (statements at body ▸ leaf f.Again at) ▸ leaf f.Nil at))

-- ---- jumps

-- `return` and `next` alone have nil
abbrev pub own_or_nil : ℕ → Option Part → Making
own_or_nil at None = leaf f.Nil at
own_or_nil at (Some p) = p.own

unfoldable pub jump : Form → ℕ → Option Part → Making
jump form at value = wrapped form at (own_or_nil at value)

-- ---- `case e` with `in T, U`: If(IsA(t, T | U), .., ..); the last else part is Call(t, in)

unfoldable pub arm : ℕ → List Part → List Part → Form → Making
arm at types body get = wrapped f.IsA at (leaf get at ▸ each (λ (p : Part). p.atoms) types) ▸ statements at body

abbrev pub no_arm : ℕ → Form → Making
no_arm at get = sent at (codes "in") (leaf get at)

unfoldable pub arms : ℕ → List Part → Form → Making
arms at clauses get = nest f.If (map (λ (p : Part). p.arm get) clauses) (no_arm at get)

-- t is a fresh local that is assigned first
unfoldable pub case_fresh : ℕ → Making → List Part → Making
case_fresh at value clauses = using (declared None) (λ (t : Local). wrapped f.Seq at (wrapped (f.Set t) at value ▸ arms at clauses (f.Local t)))

-- t is e where e is a local
abbrev pub case_by : ℕ → Making → List Part → Option Local → Making
case_by at value clauses (Some local) = arms at clauses (f.Local local)
case_by at value clauses None = case_fresh at value clauses

unfoldable pub case_name : ℕ → List ℕ → Making → List Part → Making
case_name at name value clauses = using (named name) (λ (id : NameId). using (found id) (λ (l : Option Local). case_by at value clauses l))

abbrev pub case_call : ℕ → Bool → List ℕ → Making → List Part → Making
case_call at true name value clauses = case_name at name value clauses
case_call at false name value clauses = case_fresh at value clauses

abbrev pub case_receiver : ℕ → Option Making → Bool → List ℕ → Making → List Part → Making
case_receiver at None bare name value clauses = case_call at bare name value clauses
case_receiver at (Some r) bare name value clauses = case_fresh at value clauses

abbrev pub case_of : ℕ → Head → Making → List Part → Making
case_of at (Called place r name arguments bare) value clauses = case_receiver at r bare name value clauses
case_of at other value clauses = case_fresh at value clauses

-- ---- `select`

unfoldable pub select_alone : ℕ → List Part → Making
select_alone at clauses = wrapped (f.Select false) at (each (λ (p : Part). p.clause) clauses)

unfoldable pub select_or : ℕ → List Part → List Part → Making
select_or at clauses last = wrapped (f.Select true) at (each (λ (p : Part). p.clause) clauses ▸ statements at last)

abbrev pub select : ℕ → List Part → Option (List Part) → Making
select at clauses None = select_alone at clauses
select at clauses (Some last) = select_or at clauses last

-- when taken with v it goes on as Seq(Set(x, v), b), without `x =` as b
unfoldable pub receive_name : Form → ℕ → ℕ → ℕ → List ℕ → Making → List Part → Making
receive_name form mark at place name channel body =
    using (named name) (λ (id : NameId). using (target id) (λ (l : Local).
    wrapped form at (channel ▸ wrapped f.Seq mark (wrapped (f.Set l) place (leaf f.Received at) ▸ statements mark body))))

unfoldable pub receive_alone : Form → ℕ → ℕ → Making → List Part → Making
receive_alone form mark at channel body = wrapped form at (channel ▸ statements mark body)

abbrev pub receive_bare : Form → ℕ → ℕ → ℕ → Bool → List ℕ → Making → List Part → Making
receive_bare form mark at place true name channel body = receive_name form mark at place name channel body
receive_bare form mark at place false name channel body = receive_alone form mark at channel body

abbrev pub receive_called : Form → ℕ → ℕ → ℕ → Option Making → Bool → List ℕ → Making → List Part → Making
receive_called form mark at place None bare name channel body = receive_bare form mark at place bare name channel body
receive_called form mark at place (Some r) bare name channel body = receive_alone form mark at channel body

abbrev pub receive : Form → ℕ → ℕ → Head → Making → List Part → Making
receive form mark at (Called place r name arguments bare) channel body = receive_called form mark at place r bare name channel body
receive form mark at other channel body = receive_alone form mark at channel body

unfoldable pub send_value : ℕ → ℕ → Making → Making → List Part → Making
send_value mark at channel value body = wrapped f.Send at (channel ▸ value ▸ statements mark body)

abbrev pub send : ℕ → ℕ → Making → List Making → List Part → Making
send mark at channel (value ∷ []) body = send_value mark at channel value body
send mark at channel other body = nothing

abbrev pub operate : Operation → ℕ → ℕ → Head → Making → List Making → List Part → Making
operate Send mark at target channel arguments body = send mark at channel arguments body
operate Receive mark at target channel arguments body = receive f.Receive mark at target channel body
operate ReceiveOrNil mark at target channel arguments body = receive f.ReceiveOrNil mark at target channel body
operate NoOperation mark at target channel arguments body = nothing

abbrev pub target_head : Option Part → Head
target_head None = NoHead
target_head (Some p) = p.head

abbrev pub when_called : ℕ → ℕ → Option Making → Head → List ℕ → List Making → List Part → Making
when_called mark at (Some channel) target name arguments body = operate (operation_of name) mark at target channel arguments body
when_called mark at None target name arguments body = nothing

-- the clause stands at its operation's name
abbrev pub when : ℕ → Head → Head → List Part → Making
when mark target (Called at r name arguments bare) body = when_called mark at r target name arguments body
when mark target other body = nothing
