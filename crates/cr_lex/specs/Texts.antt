-- A part of a text read from the left.
use Rattle.std.specs.Prelude.{ℕ, suc, ◌+◌, Bool, true, false, ◌&&◌, ◌||◌, if◌then◌else◌, ◌==◌, List, [], ◌∷◌, ◌++◌, Option, Some, None}
use Rattle.std.specs.Option.{option_map}
use Rattle.cr_syntax.specs.Words.{begins}
use Rattle.cr_syntax.specs.Texts.{escape, Part, ended, part_of, part_kind}
use Rattle.cr_lex.specs.Longest.{Form}

abbrev pub part_form : Bool → Form
part_form quoted text after = option_map (part_kind quoted) (part_of false text)

-- a part and how many bytes it takes, a byte behind a backslash that is no escape, or no end
pub data Scan : Type 0 where
  Found : (part : Part) (n : ℕ) → Scan
  Bad : (n : ℕ) → Scan
  Unended : Scan

abbrev pub with_text : List ℕ → Part → Part
with_text text part = record part { bytes = text ++ part.bytes }

-- what the bytes before make of it: so many, which stand for these
abbrev pub behind_bytes : ℕ → List ℕ → Scan → Scan
behind_bytes n text (Found part m) = Found (with_text text part) (n + m)
behind_bytes n text (Bad m) = Bad (n + m)
behind_bytes n text Unended = Unended

abbrev pub is_brace : ℕ → Bool
is_brace c = c == 123

-- the byte behind a backslash
abbrev pub with_escape : Option ℕ → Scan → Scan
with_escape None rest = Bad 0
with_escape (Some c) rest = behind_bytes 1 (c ∷ []) rest

abbrev pub scan : Bool → List ℕ → Scan
scan true [] = Bad 0
scan false [] = Unended
scan true (b ∷ bs) = with_escape (escape b) (scan false bs)
scan false (b ∷ bs) =
    if b == 34 then Found (ended false) 1
    else (if b == 92 then behind_bytes 1 [] (scan true bs)
    else (if b == 35 && begins is_brace bs then Found (ended true) 2
    else behind_bytes 1 (b ∷ []) (scan false bs)))

-- a quote, a backslash or a `#`: every other byte of a text stands for itself
abbrev pub ends_plain : ℕ → Bool
ends_plain b = b == 34 || (b == 92 || b == 35)

-- how many bytes at the front stand for themselves
abbrev pub plain_length : List ℕ → ℕ
plain_length [] = 0
plain_length (b ∷ bs) = if ends_plain b then 0 else suc (plain_length bs)

-- where a part ends here: whether by `#{`
abbrev pub ending_of : List ℕ → Option Bool
ending_of [] = None
ending_of (b ∷ bs) = if b == 34 then Some false else (if b == 35 && begins is_brace bs then Some true else None)

abbrev pub ending_length : Bool → ℕ
ending_length opens = if opens then 2 else 1
