-- Cells whose channels evolve: nothing, one operation, one new cell, and one after the other.
use Rattle.std.proofs.Common.{◌≡◌, ℕ, zero, suc, List, [], ◌∷◌, ◌++◌, refl, sym, ap, subst, ◌∙◌, Option, Some, None, slice_get, slice_set}
use Rattle.std.proofs.lemmas.Option.{same_Some, none-some}
use Rattle.cr_items.specs.Channel.{Channel, Operation, new_channel, after, run as operated}
use Rattle.cr_meaning.specs.State.{Cell, Chan}
use Rattle.cr_meaning.specs.Channels.{channel_in}
use Rattle.cr_meaning.specs.Histories.{Evolves, Evolve, channel_of}

pub unchanged_at : (o : Option Channel) → Evolves o o
unchanged_at None = tt
unchanged_at (Some c) = ([], refl)

pub unchanged : (cells : List Cell) → Evolve cells cells
unchanged cells k = unchanged_at (channel_of cells k)

pub operated_on : (c : Channel) (first later : List Operation) → operated c (first ++ later) ≡ operated (operated c first) later
operated_on c [] later = refl
operated_on c (o ∷ os) later = operated_on (after c o) os later

pub later_at : (a b c : Option Channel) → Evolves a b → Evolves b c → Evolves a c
later_at None None c first second = second
later_at None (Some b) None first second = absurd second
later_at None (Some b) (Some c) first second =
    (first.0, first.1 ++ second.0, second.1 ∙ ap (λ d. operated d second.0) first.2 ∙ sym (operated_on (new_channel first.0) first.1 second.0))
later_at (Some a) None c first second = absurd first
later_at (Some a) (Some b) None first second = second
later_at (Some a) (Some b) (Some c) first second =
    (first.0 ++ second.0, second.1 ∙ ap (λ d. operated d second.0) first.1 ∙ sym (operated_on a first.0 second.0))

pub later : (a b c : List Cell) → Evolve a b → Evolve b c → Evolve a c
later a b c first second k = later_at (channel_of a k) (channel_of b k) (channel_of c k) (first k) (second k)

-- one cell is another now
pub set_one : (cells : List Cell) (k : ℕ) (old new : Cell) → slice_get cells k ≡ Some old → Evolves (channel_in (Some old)) (channel_in (Some new)) → Evolve cells (slice_set cells k new)
set_one [] k old new e h j = absurd (none-some old e)
set_one (c ∷ cells) zero old new e h zero = subst (λ d. Evolves (channel_in (Some d)) (channel_in (Some new))) (sym (same_Some c old e)) h
set_one (c ∷ cells) zero old new e h (suc j) = unchanged cells j
set_one (c ∷ cells) (suc k) old new e h zero = unchanged_at (channel_in (Some c))
set_one (c ∷ cells) (suc k) old new e h (suc j) = set_one cells k old new e h j

-- one cell more
pub one_more : (cells : List Cell) (new : Cell) → Evolves None (channel_in (Some new)) → Evolve cells (cells ++ new ∷ [])
one_more [] new h zero = h
one_more [] new h (suc j) = tt
one_more (c ∷ cells) new h zero = unchanged_at (channel_in (Some c))
one_more (c ∷ cells) new h (suc j) = one_more cells new h j

channel_set : (cells : List Cell) (k : ℕ) (c d : Channel) (o : Operation) (at : Option Cell) → slice_get cells k ≡ at → channel_in at ≡ Some c → d ≡ after c o → Evolve cells (slice_set cells k (Chan d))
channel_set cells k c d o None e is made = absurd (none-some c is)
channel_set cells k c d o (Some cell) e is made =
    set_one cells k cell (Chan d) e (subst (λ a. Evolves a (Some d)) (sym is) (o ∷ [], made))

-- an operation on the channel of a cell
pub operates_once : (cells : List Cell) (k : ℕ) (c d : Channel) (o : Operation) → channel_of cells k ≡ Some c → d ≡ after c o → Evolve cells (slice_set cells k (Chan d))
operates_once cells k c d o is made = channel_set cells k c d o (slice_get cells k) refl is made
