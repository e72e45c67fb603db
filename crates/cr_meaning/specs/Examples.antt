-- What runs of small programs come to.
use Rattle.std.specs.Prelude.{◌≡◌, ℕ, List, [], ◌∷◌, ◌++◌, codes, true, Option, Some, None, is_some}
use Rattle.cr_base.specs.declared.ids.FiberId.{FiberId}
use Rattle.cr_schedule.specs.declared.entry.Entry.{Entry}
use Rattle.cr_schedule.specs.declared.entry.Entry.TheVariants.{Steps, Wait, Resume}
use Rattle.cr_meaning.specs.World.{World}
use Rattle.cr_meaning.specs.State.{State, Status, Done}
use Rattle.cr_meaning.specs.Run.{run, status_at, IsFirstIllegal}
use Rattle.cr_schedule.specs.Entry.{spent}
use Rattle.cr_meaning.specs.Programs.{sum_world, meeting_world, counting_world}

abbrev pub fiber : ℕ → FiberId
fiber i = record { 0 = i }

abbrev pub plain : ℕ → ℕ → Entry
plain i count = Steps (fiber i) count None None None

-- what is seen of a state: the output, the errors, and what became of main
pub record Seen : Type 0 where
  pub output : List ℕ
  pub errors : List ℕ
  pub main : Status

abbrev pub seen_of : State → Seen
seen_of s = record { output = s.output; errors = s.errors; main = status_at s 0 }

abbrev pub seen : Option State → Option Seen
seen None = None
seen (Some s) = Some (seen_of s)

abbrev pub wrote : List ℕ → Status → Option Seen
wrote output main = Some (record { output = output; errors = []; main = main })

-- the history is legal, and some entry behind it too, so that main is not done
abbrev pub EndsEarly : World → List Entry → Type 0
EndsEarly P entries = (e : Entry) × (is_some (run P (entries ++ e ∷ [])) ≡ true)

-- ---- puts 1 + 2

pub record ASum : Type 0 where
  pub whole : seen (run sum_world (plain 0 2 ∷ [])) ≡ wrote (codes "3\n") Done
  pub too_long : IsFirstIllegal sum_world (plain 0 3 ∷ []) 0
  pub waits_for_nothing : IsFirstIllegal sum_world (plain 0 1 ∷ Wait (fiber 0) ∷ []) 1
  pub nothing : EndsEarly sum_world []

-- ---- a choice that meets another

-- up to the sender's choice, and up to the receiver's
abbrev pub sender_chooses : List Entry
sender_chooses = plain 0 6 ∷ Resume (fiber 1) ∷ plain 1 1 ∷ []

abbrev pub receiver_chooses : List Entry
receiver_chooses = sender_chooses ++ Wait (fiber 1) ∷ Resume (fiber 0) ∷ []

abbrev pub met : List Entry
met = receiver_chooses ++ Steps (fiber 0) 3 (Some 0) (Some (fiber 1)) (Some 0) ∷ plain 0 4 ∷ []

-- its `else` is no choice then
abbrev pub otherwise : List Entry
otherwise = receiver_chooses ++ Steps (fiber 0) 3 (Some 1) None None ∷ plain 0 4 ∷ []

pub record AMeeting : Type 0 where
  pub met : seen (run meeting_world met) ≡ wrote (codes "1\n") Done
  pub otherwise : IsFirstIllegal meeting_world otherwise 5
  pub early : EndsEarly meeting_world sender_chooses

-- ---- two fibers that count

-- the one counts behind the other
abbrev pub one_behind_other : List Entry
one_behind_other = plain 0 25 ∷ Resume (fiber 1) ∷ plain 1 15 ∷ plain 0 8 ∷ []

-- main has read the count before the other fiber counts
abbrev pub both_at_once : List Entry
both_at_once = plain 0 19 ∷ Resume (fiber 1) ∷ plain 1 15 ∷ plain 0 14 ∷ []

-- there is no such fiber
abbrev pub nobody : List Entry
nobody = plain 0 25 ∷ Resume (fiber 1) ∷ plain 9 1 ∷ []

-- the other fiber has counted
abbrev pub counted : List Entry
counted = plain 0 25 ∷ Resume (fiber 1) ∷ plain 1 15 ∷ []

pub record TwoCounters : Type 0 where
  pub behind : seen (run counting_world one_behind_other) ≡ wrote (codes "2\n") Done
  pub at_once : seen (run counting_world both_at_once) ≡ wrote (codes "1\n") Done
  pub spent_behind : spent one_behind_other ≡ 49
  pub spent_at_once : spent both_at_once ≡ 49
  pub nobody : IsFirstIllegal counting_world nobody 2
  pub early : EndsEarly counting_world counted
