-- The first scope of a program, and the state at the start.
use Rattle.std.proofs.Common.{◌≡◌, ◌<◌, ℕ, List, [], ◌∷◌, length, sym, ap, ◌∙◌, Option, Some}
use Rattle.std.specs.Prelude.{map, slice_get}
use Rattle.std.proofs.lemmas.Option.{slice_get_within}
use Rattle.cr_core.specs.Arena.{opening}
use Rattle.cr_core.specs.Tree.{Contents, IsCore}
use Rattle.cr_core.specs.declared.scope.Scope.{Scope}
use Rattle.cr_meaning.specs.World.{World}
use Rattle.cr_meaning.specs.Term.{tree}
use Rattle.cr_meaning.specs.State as m
use Rattle.cr_meaning.specs.Locals.{begun_scope}
use Rattle.cr_meaning.specs.Run as run
use Rattle.cr_fibers.specs.Held.{Held, fiber_of}
use Rattle.cr_machine.specs.declared.contexts.Context.{Context}
use Rattle.cr_machine.specs.declared.contexts.ContextKind.TheVariants.{Concurrent}
use Rattle.cr_machine.specs.Machine.{context_of, state_of, IsWorldOf}

-- ---- the first scope

pub first_scope : (t : Contents) → IsCore t → 0 < length t.scopes
first_scope t core =
    let known = core.rows 0 core.rooted.root core.rooted.stands in
    let opened = known.opens (record { 0 = 0 }) (ap opening core.rooted.program) in
    slice_get_within t.scopes 0 opened.0 opened.1

started_with : (P : World) (o : Option Scope) (s : Scope) → o ≡ Some s → run.started P o ≡ run.main_fiber P (tree P s.body) (begun_scope 0 s [] [])
started_with P o s e = ap (run.started P) e

-- ---- the state at the start

abbrev pub state_with : m.Fiber → m.State
state_with main = record { fibers = main ∷ []; cells = []; contexts = record { kind = m.Concurrent; size = 1 } ∷ []; output = []; errors = [] }

pub starts : (P : World) (t : Contents) (s : Scope) (main : Held) → IsWorldOf P t → slice_get t.scopes 0 ≡ Some s → fiber_of P main ≡ run.main_fiber P (tree P s.body) (begun_scope 0 s [] []) → state_with (fiber_of P main) ≡ run.start P
unfolding run.start
starts P t s main same at is = ap state_with (is ∙ sym (started_with P (slice_get P.scopes 0) s (ap (λ (ss : List Scope). slice_get ss 0) same.scopes ∙ at)))

abbrev pub filled : World → List Held → List m.Cell → List Context → List ℕ → List ℕ → m.State
filled P fibers cells contexts output errors = state_of P (record { fibers = fibers; cells = cells; contexts = map context_of contexts; output = output; errors = errors })

pub filled_is : (P : World) (main : Held) (fibers : List Held) (cells : List m.Cell) (contexts : List Context) (output errors : List ℕ)
    → fibers ≡ main ∷ [] → cells ≡ [] → contexts ≡ record { kind = Concurrent; size = 1 } ∷ [] → output ≡ [] → errors ≡ []
    → filled P fibers cells contexts output errors ≡ state_with (fiber_of P main)
filled_is P main fibers cells contexts output errors fibers_are cells_are contexts_are output_is errors_are =
    ap (λ (fs : List Held). filled P fs cells contexts output errors) fibers_are
    ∙ ap (λ (cs : List m.Cell). filled P (main ∷ []) cs contexts output errors) cells_are
    ∙ ap (λ (ws : List Context). filled P (main ∷ []) [] ws output errors) contexts_are
    ∙ ap (λ (bs : List ℕ). filled P (main ∷ []) [] (record { kind = Concurrent; size = 1 } ∷ []) bs errors) output_is
    ∙ ap (λ (bs : List ℕ). filled P (main ∷ []) [] (record { kind = Concurrent; size = 1 } ∷ []) [] bs) errors_are
