-- Endings before a run, and their causes.
use Rattle.std.proofs.Common.{◌≡◌, ℕ, ◌+◌, ◌<◌, List, [], length, replicate, Option, None, Some, IfSome, Err, inl, inr, arith, refl}
use Rattle.std.proofs.lemmas.List.{length-replicate}
use Rattle.cr_source.specs.declared.fault.SourceFault.{SourceFault}
use Rattle.cr_source.specs.declared.fault.SourceFault.TheVariants as front
use Rattle.cr_source.specs.Source.{Answers}
use Rattle.cr_tool.specs.declared.ending.Closed.{Closed}
use Rattle.cr_tool.specs.declared.ending.Code.TheVariants.{Source}
use Rattle.cr_tool.specs.declared.ending.Ending.TheVariants as ending
use Rattle.cr_tool.specs.declared.ending.Which.TheVariants as which
use Rattle.cr_tool.specs.declared.ending.Refusal.{Refusal}
use Rattle.cr_tool.specs.Outside.{Reading, FailsReading, ReadsWell, source_limit}
use Rattle.cr_tool.specs.Refusals.{Demand, MayRefuse, HasRefusal, no_program}
use Rattle.cr_tool.specs.Opened.{Tells, IsClosed, IsRefusedAs, IsRefusal}

pub told_bytes : (left : Option (List ℕ)) → (bytes : List ℕ) × Tells left bytes
told_bytes None = ([], tt)
told_bytes (Some bytes) = (bytes, refl)

-- there is a text of any length
long_text : (n : ℕ) → (bytes : List ℕ) × (n < length bytes)
long_text n = (replicate (n + 1) 0, omega (arith, length-replicate {A = ℕ} (n + 1) 0))

long_bytes : (left : Option (List ℕ)) → IfSome left (λ told. source_limit < length told) → (bytes : List ℕ) × Tells left bytes × (source_limit < length bytes)
long_bytes None long = let some = long_text source_limit in (some.0, tt, some.1)
long_bytes (Some bytes) long = (bytes, refl, long)

pub closed_fault : (source : Reading) (closed : Closed) → closed.ending ≡ ending.ReadFault which.Source → FailsReading source → (demand : Demand) → IsClosed demand source closed
closed_fault source closed is fails demand =
    let some = told_bytes source.left in
    record { bytes = some.0; told = some.1; cause = rw is (refl, fails); line = rw is tt }

pub closed_memory : (source : Reading) (closed : Closed) → closed.ending ≡ ending.NoMemory → ReadsWell source → (demand : Demand) → IsClosed demand source closed
closed_memory source closed is well demand =
    let some = told_bytes source.left in
    record { bytes = some.0; told = some.1; cause = rw is well; line = rw is tt }

pub closed_long : (source : Reading) (closed : Closed) → closed.ending ≡ ending.SourceTooLong → IfSome source.left (λ told. source_limit < length told) → ReadsWell source → (demand : Demand) → IsClosed demand source closed
closed_long source closed is long well demand =
    let some = long_bytes source.left long in
    record { bytes = some.0; told = some.1; cause = rw is (some.2, well); line = rw is tt }

-- ---- refusals

pub refused_as : (demand : Demand) (bytes : List ℕ) (refusal : Refusal) (closed : Closed) → HasRefusal demand bytes refusal → IsRefusedAs bytes (ending.Refused refusal) closed → IsRefusal demand bytes closed
refused_as demand bytes refusal closed has as_so = record {
  cause = elim as_so.is [ inl same ↦ rw same has | inr none ↦ rw none tt ];
  line = as_so.line;
}

-- what is no program is refused for the fault of its tokens or its grammar
pub refused_program : (demand : Demand) (bytes : List ℕ) (fault : SourceFault) (closed : Closed) → MayRefuse demand bytes → Answers bytes (Err fault) → IsRefusedAs bytes (no_program fault) closed → IsRefusal demand bytes closed
refused_program demand bytes (front.Refused refusal) closed may broken as_so =
    refused_as demand bytes (record { code = Source refusal.code; at = Some refusal.at }) closed (record { may = may; breaks = broken }) as_so
refused_program demand bytes front.NoMemory closed may broken as_so = record {
  cause = elim as_so.is [ inl same ↦ rw same tt | inr none ↦ rw none tt ];
  line = as_so.line;
}
