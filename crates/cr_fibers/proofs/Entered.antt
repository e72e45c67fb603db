-- A fiber that begins, and one in which a call or a block begins.
use Rattle.std.proofs.Common.{◌≡◌, ◌-◌, ℕ, List, [], ◌∷◌, ◌++◌, length, sym, ap, subst, ◌∙◌, Some, None}
use Rattle.std.specs.Prelude.{map, slice_get}
use Rattle.std.specs.Option.{option_map}
use Rattle.std.proofs.lemmas.List.{map-append}
use Rattle.std.proofs.lemmas.Option.{same_Some}
use Rattle.cr_base.specs.declared.ids.NodeId.{NodeId}
use Rattle.cr_value.specs.declared.value.Value.{Value}
use Rattle.cr_core.specs.declared.row.Row.{Row}
use Rattle.cr_core.specs.declared.scope.Scope.{Scope}
use Rattle.cr_meaning.specs.World.{World}
use Rattle.cr_meaning.specs.Term.{Term, Frame, Body, tree}
use Rattle.cr_meaning.specs.State as m
use Rattle.cr_meaning.specs.Redex.{put}
use Rattle.cr_meaning.specs.Locals as l
use Rattle.cr_meaning.specs.Locals.{around, begun_scope, entered, of_call, of_block}
use Rattle.cr_meaning.specs.Fibers.{begins_with, first_locals, new_fiber}
use Rattle.cr_meaning.specs.Run.{main_fiber}
use Rattle.cr_stack.specs.Layers.{Layers, term}
use Rattle.cr_stack.specs.Neat.{IsNeat}
use Rattle.cr_stack.specs.Steps.{Puts}
use Rattle.cr_fibers.specs.declared.locals.Locals.{Locals}
use Rattle.cr_fibers.specs.declared.locals.Begun.{Begun}
use Rattle.cr_fibers.specs.declared.locals.Call.{Call}
use Rattle.cr_fibers.specs.Held.{Held, fiber_of, slot_of, given_of, locals_of}
use Rattle.cr_fibers.specs.Steps.{reduced_to}
use Rattle.cr_fibers.specs.Entering.{begun_of, in_call, in_block}
use Rattle.cr_fibers.specs.Inner.{block_locals}
use Rattle.cr_fibers.proofs.Reducing.{neat_inside, whole_is}

-- ---- a call, and a block

abbrev with_more : Held → List m.Locals → List Value → Held
with_more f locals variables = record f { locals = locals; variables = variables }

pub pushed : (old new : List Locals) (x : Locals) → new ≡ old ++ x ∷ [] → map locals_of new ≡ map locals_of old ++ locals_of x ∷ []
pushed old new x e = ap (map locals_of) e ∙ map-append locals_of old (x ∷ [])

-- what stands for a fiber once this has been put, with locals and captured locals that are new
abbrev pub begun_held : Held → Layers → List m.Locals → List Value → m.Status → Held
begun_held f layers locals variables status = record { layers = layers; locals = locals; variables = variables; context = f.context; status = status }

entered_is : (P : World) (f : Held) (layers : Layers) (locals : List m.Locals) (variables : List Value) (status : m.Status) (inner : m.Locals) (b : l.Begun) (t : Term)
    → locals ≡ f.locals ++ inner ∷ [] → variables ≡ b.variables → status ≡ m.status_with (term P layers) f.status → term P layers ≡ put t (term P f.layers)
    → fiber_of P (begun_held f layers locals variables status) ≡ reduced_to (entered (fiber_of P f) b inner) t
entered_is P f layers locals variables status inner b t ls vs st e =
    ap (λ (ks : List m.Locals). fiber_of P (begun_held f layers ks variables status)) ls
    ∙ ap (λ (us : List Value). fiber_of P (begun_held f layers (f.locals ++ inner ∷ []) us status)) vs
    ∙ whole_is P (with_more f (f.locals ++ inner ∷ []) b.variables) layers status (put t (term P f.layers)) st e

-- the new term, where the old one was neat
put_is : (P : World) (rows : List Row) (inside old : Held) (t : World → Term) (layers : Layers) → P.rows ≡ rows → inside ≡ old → IsNeat rows old.layers → Puts inside.layers t layers
    → term P layers ≡ put (t P) (term P inside.layers)
put_is P rows inside old t layers same e h puts = puts.is P (subst (λ (of : List Row). IsNeat of inside.layers) (sym same) (neat_inside rows inside old e h))

pub in_call_is : (P : World) (rows : List Row) (inside old : Held) (layers : Layers) (locals : List m.Locals) (variables : List Value) (status : m.Status) (call : Call) (b : Begun) (body : NodeId)
    → P.rows ≡ rows → inside ≡ old → IsNeat rows old.layers → Puts inside.layers (λ (Q : World). Frame call.gives (tree Q body)) layers
    → locals ≡ inside.locals ++ of_call (begun_of inside.variables b) call.receiver call.method (option_map given_of call.given) ∷ []
    → variables ≡ inside.variables ++ b.made.items → status ≡ m.status_with (term P layers) inside.status
    → fiber_of P (begun_held inside layers locals variables status) ≡ in_call P (fiber_of P old) call b body
in_call_is P rows inside old layers locals variables status call b body same e h puts ls vs st =
    entered_is P inside layers locals variables status (of_call (begun_of inside.variables b) call.receiver call.method (option_map given_of call.given)) (begun_of inside.variables b) (Frame call.gives (tree P body))
    ls vs st (put_is P rows inside old (λ (Q : World). Frame call.gives (tree Q body)) layers same e h puts)
    ∙ ap (λ (f : Held). in_call P (fiber_of P f) call b body) e

in_block_inside : (P : World) (f : Held) (layers : Layers) (locals : List m.Locals) (variables : List Value) (status : m.Status) (home : ℕ) (written inner : m.Locals) (b : Begun) (body : NodeId)
    → locals ≡ f.locals ++ inner ∷ [] → inner ≡ block_locals (map slot_of b.slots.items) home written → variables ≡ f.variables ++ b.made.items
    → status ≡ m.status_with (term P layers) f.status → term P layers ≡ put (Body (tree P body)) (term P f.layers)
    → fiber_of P (begun_held f layers locals variables status) ≡ in_block P (fiber_of P f) home written b body
in_block_inside P f layers locals variables status home written inner b body ls is vs st e =
    entered_is P f layers locals variables status (of_block (begun_of f.variables b) home written) (begun_of f.variables b) (Body (tree P body))
    (ls ∙ ap (λ (k : m.Locals). f.locals ++ k ∷ []) is) vs st e

pub in_block_is : (P : World) (rows : List Row) (inside old : Held) (layers : Layers) (locals : List m.Locals) (variables : List Value) (status : m.Status) (home : ℕ) (written found inner : m.Locals) (b : Begun) (body : NodeId)
    → P.rows ≡ rows → inside ≡ old → IsNeat rows old.layers → Puts inside.layers (λ (Q : World). Body (tree Q body)) layers
    → slice_get inside.locals home ≡ Some found → slice_get old.locals home ≡ Some written
    → locals ≡ inside.locals ++ inner ∷ [] → inner ≡ block_locals (map slot_of b.slots.items) home found → variables ≡ inside.variables ++ b.made.items
    → status ≡ m.status_with (term P layers) inside.status
    → fiber_of P (begun_held inside layers locals variables status) ≡ in_block P (fiber_of P old) home written b body
in_block_is P rows inside old layers locals variables status home written found inner b body same e h puts there at ls is vs st =
    let here : found ≡ written = same_Some found written (sym there ∙ ap (λ (f : Held). slice_get f.locals home) e ∙ at) in
    in_block_inside P inside layers locals variables status home written inner b body ls (is ∙ ap (block_locals (map slot_of b.slots.items) home) here) vs st
    (put_is P rows inside old (λ (Q : World). Body (tree Q body)) layers same e h puts)
    ∙ ap (λ (f : Held). in_block P (fiber_of P f) home written b body) e

-- nothing has changed
pub kept : (inside old : Held) (locals : List m.Locals) (variables : List Value) → inside ≡ old → locals ≡ inside.locals → variables ≡ inside.variables
    → begun_held inside inside.layers locals variables inside.status ≡ old
kept inside old locals variables e ls vs = ap (λ (ks : List m.Locals). with_more inside ks variables) ls ∙ ap (with_more inside inside.locals) vs ∙ e

-- ---- the first fiber, and one that is spawned

pub main_is : (P : World) (s : Scope) (layers : Layers) (locals : List Locals) (first : Locals) (b : Begun) (status : m.Status) → term P layers ≡ tree P s.body
    → locals ≡ first ∷ [] → locals_of first ≡ record { home = None; slots = map slot_of b.slots.items; receiver = None; method = None; given = None }
    → begun_scope 0 s [] [] ≡ begun_of [] b → status ≡ m.status_with (tree P s.body) m.Current
    → fiber_of P (record { layers = layers; locals = map locals_of locals; variables = b.made.items; context = 0; status = status }) ≡ main_fiber P (tree P s.body) (begun_scope 0 s [] [])
main_is P s layers locals first b status t ls is begun st =
    let made : Term → List m.Locals → m.Status → m.Fiber = λ u ks status'. record { term = u; locals = ks; variables = b.made.items; context = 0; status = status' } in
    ap (λ (u : Term). made u (map locals_of locals) status) t
    ∙ ap (λ (ks : List Locals). made (tree P s.body) (map locals_of ks) status) ls
    ∙ ap (λ (k : m.Locals). made (tree P s.body) (k ∷ []) status) is
    ∙ ap (made (tree P s.body) (record { home = None; slots = map slot_of b.slots.items; receiver = None; method = None; given = None } ∷ [])) st
    ∙ ap (main_fiber P (tree P s.body)) (sym begun)

spawned_inside : (P : World) (f : Held) (layers : Layers) (locals : List m.Locals) (outer : List m.Locals) (b : Begun) (k context most at : ℕ) (s : Scope)
    → term P layers ≡ Body (tree P s.body) → begun_scope k s [] [] ≡ begun_of [] b → locals ≡ first_locals outer (begun_of [] b)
    → outer ≡ around f.locals most at → most ≡ length f.locals → at ≡ length f.locals - 1
    → fiber_of P (record { layers = layers; locals = locals; variables = b.made.items; context = context; status = m.Ready }) ≡ new_fiber P k (fiber_of P f) context s
spawned_inside P f layers locals outer b k context most at s t begun ls is many here =
    let made : Term → List m.Locals → m.Fiber = λ u ks. record { term = u; locals = ks; variables = b.made.items; context = context; status = m.Ready } in
    ap (λ (u : Term). made u locals) t
    ∙ ap (made (Body (tree P s.body))) ls
    ∙ ap (λ (ks : List m.Locals). begins_with P ks context s (begun_of [] b)) (is ∙ ap (λ (n : ℕ). around f.locals n at) many ∙ ap (around f.locals (length f.locals)) here)
    ∙ ap (begins_with P (around f.locals (length f.locals) (length f.locals - 1)) context s) (sym begun)

pub spawned_is : (P : World) (inside old : Held) (layers : Layers) (locals : List m.Locals) (outer : List m.Locals) (b : Begun) (k context most at : ℕ) (s : Scope) → inside ≡ old
    → term P layers ≡ Body (tree P s.body) → begun_scope k s [] [] ≡ begun_of [] b → locals ≡ first_locals outer (begun_of [] b)
    → outer ≡ around inside.locals most at → most ≡ length inside.locals → at ≡ length old.locals - 1
    → fiber_of P (record { layers = layers; locals = locals; variables = b.made.items; context = context; status = m.Ready }) ≡ new_fiber P k (fiber_of P old) context s
spawned_is P inside old layers locals outer b k context most at s e t begun ls is many here =
    spawned_inside P inside layers locals outer b k context most at s t begun ls is many (here ∙ ap (λ (f : Held). length f.locals - 1) (sym e))
    ∙ ap (λ (f : Held). new_fiber P k (fiber_of P f) context s) e
