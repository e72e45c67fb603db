-- The place behind some bytes, one byte after another.
use Rattle.std.proofs.Common.{◌≡◌, ◌≢◌, ℕ, ◌+◌, ◌<◌, ◌==◌, true, false, List, [], ◌∷◌, ◌++◌, length, get_or, take, ap, ◌∙◌, refl}
use Rattle.std.proofs.lemmas.Bool.{ne_eqb}
use Rattle.std.proofs.lemmas.List.{take_more}
use Rattle.std.specs.Prelude.{if◌then◌else◌}
use Rattle.cr_tool.specs.Endings.{place_after}

-- the place behind one more byte
abbrev pub behind_byte : ℕ × ℕ → ℕ → ℕ × ℕ
behind_byte place c = if c == 10 then (place.0 + 1, 1) else (place.0, place.1 + 1)

place_after-push : (line column : ℕ) (cs : List ℕ) (c : ℕ) → place_after line column (cs ++ c ∷ []) ≡ behind_byte (place_after line column cs) c
place_after-push line column [] c = refl
place_after-push line column (d ∷ ds) c =
    elim (d == 10) as (λ b. (if b then place_after (line + 1) 1 (ds ++ c ∷ []) else place_after line (column + 1) (ds ++ c ∷ [])) ≡ behind_byte (if b then place_after (line + 1) 1 ds else place_after line (column + 1) ds) c) [
      | true ↦ place_after-push (line + 1) 1 ds c
      | false ↦ place_after-push line (column + 1) ds c
    ]

pub place_more : (cs : List ℕ) (i : ℕ) → i < length cs → place_after 1 1 (take (i + 1) cs) ≡ behind_byte (place_after 1 1 (take i cs)) (get_or cs i 0)
place_more cs i within = ap (place_after 1 1) (take_more cs i 0 within) ∙ place_after-push 1 1 (take i cs) (get_or cs i 0)

pub line_feed_more : (cs : List ℕ) (i line column line' column' : ℕ) → i < length cs → (line, column) ≡ place_after 1 1 (take i cs) → get_or cs i 0 ≡ 10 → line' ≡ line + 1 → column' ≡ 1 → (line', column') ≡ place_after 1 1 (take (i + 1) cs)
line_feed_more cs i line column line' column' within so_far is line_is column_is =
    rw (place_more cs i within, ← so_far, is, line_is, column_is) refl

pub other_more : (cs : List ℕ) (i line column line' column' : ℕ) → i < length cs → (line, column) ≡ place_after 1 1 (take i cs) → get_or cs i 0 ≢ 10 → line' ≡ line → column' ≡ column + 1 → (line', column') ≡ place_after 1 1 (take (i + 1) cs)
other_more cs i line column line' column' within so_far is line_is column_is =
    rw (place_more cs i within, ← so_far, ne_eqb (get_or cs i 0) 10 is, line_is, column_is) refl
