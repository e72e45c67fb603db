-- The parts of a text, and what their bytes stand for.
use Rattle.std.specs.Prelude.{ℕ, Bool, true, false, ◌&&◌, if◌then◌else◌, ◌==◌, List, [], ◌∷◌, Option, Some, None}
use Rattle.std.specs.Option.{option_map, option_and_then}
use Rattle.cr_syntax.specs.declared.token.TokenKind.{TokenKind}
use Rattle.cr_syntax.specs.declared.token.TokenKind.TheVariants as k
use Rattle.cr_syntax.specs.Words.{begins}

-- what a backslash and this byte stand for
abbrev pub escape : ℕ → Option ℕ
escape b =
    if b == 92 then Some 92 else (if b == 34 then Some 34 else (if b == 35 then Some 35
    else (if b == 110 then Some 10 else (if b == 116 then Some 9 else (if b == 114 then Some 13 else None)))))

-- The bytes of a part, and whether it ends with `#{` rather than with the closing quote.
pub record Part : Type 0 where
  pub bytes : List ℕ
  pub opens : Bool

abbrev pub ended : Bool → Part
ended opens = record { bytes = []; opens = opens }

abbrev pub with_byte : ℕ → Part → Part
with_byte b part = record part { bytes = b ∷ part.bytes }

abbrev pub is_empty : List ℕ → Bool
is_empty [] = true
is_empty (b ∷ bs) = false

abbrev pub is_single : List ℕ → Bool
is_single [] = false
is_single (b ∷ bs) = is_empty bs

-- The part that these bytes spell: up to its end, and no further. In the first argument: a backslash stands before.
abbrev pub part_of : Bool → List ℕ → Option Part
part_of escaped [] = None
part_of true (b ∷ bs) = option_and_then (λ c. option_map (with_byte c) (part_of false bs)) (escape b)
part_of false (b ∷ bs) =
    if b == 34 then (if is_empty bs then Some (ended false) else None)
    else (if b == 92 then part_of true bs
    else (if b == 35 && begins (λ c. c == 123) bs then (if is_single bs then Some (ended true) else None)
    else option_map (with_byte b) (part_of false bs)))

-- The kind of a part that begins with the opening quote, or else with the `}` of an insertion.
abbrev pub part_kind : Bool → Part → TokenKind
part_kind true part = if part.opens then k.TextFirst part.bytes else k.Text part.bytes
part_kind false part = if part.opens then k.TextMiddle part.bytes else k.TextLast part.bytes
