-- Cells that are read and replaced, as the meaning has them, and what an answer comes to then.
use Rattle.std.proofs.Common.{◌≡◌, ℕ, ◌<◌, List, length, map, get_or, set, Option, Some, Result, Ok, Err, refl, ap, sym, ◌∙◌}
use Rattle.std.specs.Prelude.{slice_get, slice_set, IfOk, OnOk, OnErr}
use Rattle.std.specs.Option.{option_map}
use Rattle.std.proofs.lemmas.List.{map-set}
use Rattle.std.proofs.lemmas.Option.{slice_get-map, slice_get_read}
use Rattle.std.proofs.Math.Seq.{map-set_same}
use Rattle.cr_base.specs.declared.memory.NoMemory.{NoMemory}
use Rattle.cr_items.specs.Channel.{Channel}
use Rattle.cr_builtins.specs.declared.answer.Answer.{Answer}
use Rattle.cr_builtins.specs.declared.outcome.Outcome.{Outcome}
use Rattle.cr_meaning.specs.State as m
use Rattle.cr_meaning.specs.State.{State, set_cell}
use Rattle.cr_meaning.specs.Act.{Act}
use Rattle.cr_meaning.specs.Channels.{channel_in}
use Rattle.cr_meaning.specs.Builtins.{answers}
use Rattle.cr_heap.specs.declared.cell.Cell.{Cell}
use Rattle.cr_heap.specs.Cells.{cell_of, with_channel}
use Rattle.cr_heap.specs.Parts.{changed}
use Rattle.cr_heap.specs.Told.{told}

-- ---- cells

stands : (xs : List Cell) (i : ℕ) (x : Cell) → i < length xs → x ≡ get_or xs i x → slice_get (map cell_of xs) i ≡ Some (cell_of x)
stands xs i x h e = slice_get-map cell_of xs i ∙ ap (option_map cell_of) (slice_get_read xs (length xs) i x refl h e)

replaced : (xs : List Cell) (i : ℕ) (y : Cell) → map cell_of (set xs i y) ≡ slice_set (map cell_of xs) i (cell_of y)
replaced xs i y = map-set cell_of xs i y

-- a cell in place of one that stands for the same
unchanged : (xs : List Cell) (i : ℕ) (x y : Cell) → x ≡ get_or xs i x → cell_of y ≡ cell_of x → map cell_of (set xs i y) ≡ map cell_of xs
unchanged xs i x y e k = map-set_same cell_of xs i y x (k ∙ ap cell_of e)

-- the same cell, put back
put_back : (xs : List Cell) (i : ℕ) (x : Cell) → i < length xs → x ≡ get_or xs i x → slice_set (map cell_of xs) i (cell_of x) ≡ map cell_of xs
put_back xs i x h e = sym (replaced xs i x) ∙ unchanged xs i x x e refl

-- ---- channels

by_kind : (after : Channel → Channel) (cells new : List m.Cell) (k : ℕ) (was : m.Cell) → slice_get cells k ≡ Some was
    → new ≡ slice_set cells k (changed after was) → slice_set cells k was ≡ cells → new ≡ with_channel after cells k (channel_in (slice_get cells k))
by_kind after cells new k (m.Object o) here is same = is ∙ same ∙ sym (ap (λ c. with_channel after cells k (channel_in c)) here)
by_kind after cells new k (m.Array vs) here is same = is ∙ same ∙ sym (ap (λ c. with_channel after cells k (channel_in c)) here)
by_kind after cells new k (m.Hash pairs) here is same = is ∙ same ∙ sym (ap (λ c. with_channel after cells k (channel_in c)) here)
by_kind after cells new k (m.Chan channel) here is same = is ∙ sym (ap (λ c. with_channel after cells k (channel_in c)) here)
by_kind after cells new k (m.Context n) here is same = is ∙ same ∙ sym (ap (λ c. with_channel after cells k (channel_in c)) here)

-- a cell of which this was done to a channel
channel_changed : (after : Channel → Channel) (xs : List Cell) (i : ℕ) (x y : Cell) → i < length xs → x ≡ get_or xs i x
    → cell_of y ≡ changed after (cell_of x) → map cell_of (set xs i y) ≡ with_channel after (map cell_of xs) i (channel_in (slice_get (map cell_of xs) i))
channel_changed after xs i x y h e k =
    by_kind after (map cell_of xs) (map cell_of (set xs i y)) i (cell_of x) (stands xs i x h e)
    (replaced xs i y ∙ ap (slice_set (map cell_of xs) i) k) (put_back xs i x h e)

-- ---- one cell of the list

-- these cells are those of the list, where this one stands at k
pub record At (xs : List Cell) (cells : List m.Cell) (k : ℕ) (x : Cell) : Type 0 where
  pub view : map cell_of xs ≡ cells
  pub within : k < length xs
  pub item : x ≡ get_or xs k x

pub stands_at : (xs : List Cell) (cells : List m.Cell) (k : ℕ) (x : Cell) → At xs cells k x → slice_get cells k ≡ Some (cell_of x)
stands_at xs cells k x at = ap (λ (cs : List m.Cell). slice_get cs k) (sym at.view) ∙ stands xs k x at.within at.item

pub replaced_at : (xs : List Cell) (cells : List m.Cell) (k : ℕ) (x y : Cell) → At xs cells k x → map cell_of (set xs k y) ≡ slice_set cells k (cell_of y)
replaced_at xs cells k x y at = replaced xs k y ∙ ap (λ (cs : List m.Cell). slice_set cs k (cell_of y)) at.view

pub unchanged_err : {A : Type 0} (xs : List Cell) (cells : List m.Cell) (k : ℕ) (x y : Cell) (r : Result A NoMemory) → At xs cells k x
    → OnErr r (cell_of y ≡ cell_of x) → OnErr r (map cell_of (set xs k y) ≡ cells)
unchanged_err xs cells k x y (Ok o) at same = tt
unchanged_err xs cells k x y (Err e) at same = unchanged xs k x y at.item same ∙ at.view

pub channel_at : (after : Channel → Channel) (xs : List Cell) (cells : List m.Cell) (k : ℕ) (x y : Cell) → At xs cells k x
    → cell_of y ≡ changed after (cell_of x) → map cell_of (set xs k y) ≡ with_channel after cells k (channel_in (slice_get cells k))
channel_at after xs cells k x y at did =
    channel_changed after xs k x y at.within at.item did
    ∙ ap (λ (cs : List m.Cell). with_channel after cs k (channel_in (slice_get cs k))) at.view

pub channel_ok : {A : Type 0} (after : Channel → Channel) (xs : List Cell) (cells : List m.Cell) (k : ℕ) (x y : Cell) (r : Result A NoMemory) → At xs cells k x
    → OnOk r (cell_of y ≡ changed after (cell_of x)) → OnOk r (map cell_of (set xs k y) ≡ with_channel after cells k (channel_in (slice_get cells k)))
channel_ok after xs cells k x y (Ok o) at did = channel_at after xs cells k x y at did
channel_ok after xs cells k x y (Err e) at did = tt

-- ---- answers

-- an operation on cell k, whose answer comes to an outcome
pub operated : (go : State → ℕ → Option m.Cell → Act) (old mid new : List m.Cell) (k : ℕ) (was now : m.Cell) (answer : Answer) (r : Result Outcome NoMemory)
    → slice_get old k ≡ Some was → mid ≡ slice_set old k now
    → ((s : State) (j : ℕ) → go s j (Some was) ≡ answers (set_cell s j now) j answer)
    → IfOk r (λ o. (s : State) → s.cells ≡ mid → answers s k answer ≡ told s new o)
    → IfOk r (λ o. (s : State) → s.cells ≡ old → go s k (slice_get s.cells k) ≡ told s new o)
operated go old mid new k was now answer (Err e) here is acts tells = tt
operated go old mid new k was now answer (Ok o) here is acts tells = λ s e.
    ap (λ (cells : List m.Cell). go s k (slice_get cells k)) e ∙ ap (go s k) here ∙ acts s k
    ∙ tells (set_cell s k now) (ap (λ (cells : List m.Cell). slice_set cells k now) e ∙ sym is)
