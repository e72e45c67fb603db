-- As many characters begin in a text as it has.
use Rattle.std.proofs.Common.{◌≡◌, ◌∙◌, sym, ap, ℕ, ◌+◌, ◌/◌, ◌%◌, ◌<◌, ◌≤◌, Bool, true, false, List, [], ◌∷◌, length, arith, refl}
use Rattle.std.specs.Prelude.{count_by, cond, ltb}
use borrow.Author.Tests.{ltb-true}
use Rattle.std.specs.Str.{IsUtf8, chars}
use Rattle.std.proofs.lemmas.Str.{chars_from_encodes}
use Rattle.std.proofs.lemmas.List.Sums.{sum_by-append}
use Rattle.std.proofs.lemmas.Bool.Decides.{nat_tests}
use lib.Utf8.{encode, encodes}
use Rattle.cr_value.specs.Text.{begins_character}

low : (byte : ℕ) → byte < 128 → begins_character byte ≡ true
low byte h = grind (arith, nat_tests)

high : (byte : ℕ) → 192 ≤ byte → begins_character byte ≡ true
high byte h = grind (arith, nat_tests)

between : (byte : ℕ) → 128 ≤ byte → byte < 192 → begins_character byte ≡ false
between byte h k = grind (arith, nat_tests)

following : (bits : ℕ) → begins_character (128 + bits % 64) ≡ false
following bits = between (128 + bits % 64) (omega arith) (omega arith)

one : (first : ℕ) → begins_character first ≡ true → count_by begins_character (first ∷ []) ≡ 1
one first h = grind (arith, h)

two : (first x : ℕ) → begins_character first ≡ true → count_by begins_character (first ∷ (128 + x % 64) ∷ []) ≡ 1
two first x h = grind (arith, h, following x)

three : (first x y : ℕ) → begins_character first ≡ true → count_by begins_character (first ∷ (128 + x % 64) ∷ (128 + y % 64) ∷ []) ≡ 1
three first x y h = grind (arith, h, following x, following y)

four : (first x y z : ℕ) → begins_character first ≡ true → count_by begins_character (first ∷ (128 + x % 64) ∷ (128 + y % 64) ∷ (128 + z % 64) ∷ []) ≡ 1
four first x y z h = grind (arith, h, following x, following y, following z)

-- one character begins among its bytes
by_cases : (a b d : Bool) (w x y z : List ℕ) → (a ≡ true → count_by begins_character w ≡ 1) → count_by begins_character x ≡ 1 → count_by begins_character y ≡ 1 → count_by begins_character z ≡ 1
    → count_by begins_character (cond a w (cond b x (cond d y z))) ≡ 1
by_cases true b d w x y z h i j k = h refl
by_cases false true d w x y z h i j k = i
by_cases false false true w x y z h i j k = j
by_cases false false false w x y z h i j k = k

pub count_by-encode : (c : ℕ) → count_by begins_character (encode c) ≡ 1
unfolding encode
count_by-encode c =
    by_cases (ltb c 128) (ltb c 2048) (ltb c 65536) _ _ _ _
    (λ h. one c (low c (ltb-true c 128 h)))
    (two (192 + c / 64) c (high (192 + c / 64) (omega arith)))
    (three (224 + c / 4096) (c / 64) c (high (224 + c / 4096) (omega arith)))
    (four (240 + c / 262144) (c / 4096) (c / 64) c (high (240 + c / 262144) (omega arith)))

pub count_by-encodes : (cs : List ℕ) → count_by begins_character (encodes cs) ≡ length cs
count_by-encodes [] = refl
count_by-encodes (c ∷ cs) = sum_by-append _ (encode c) (encodes cs) ∙ grind (arith, count_by-encode c, count_by-encodes cs)

pub characters_begin : (bytes : List ℕ) → IsUtf8 bytes → length (chars bytes) ≡ count_by begins_character bytes
characters_begin bytes (cs, spells) =
    ap length (sym (chars_from_encodes cs bytes (cs, spells) spells.1)) ∙ sym (count_by-encodes cs) ∙ ap (count_by begins_character) spells.1
