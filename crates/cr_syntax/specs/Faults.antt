-- The fault of a source that has no tokens.
use Rattle.std.specs.Prelude.{◌≡◌, ◌≢◌, ℕ, ◌+◌, ◌-◌, ◌≤◌, Bool, true, false, ◌&&◌, ◌||◌, if◌then◌else◌, ◌==◌, List, [], ◌∷◌, length, take, drop, ◌⊎◌, None, unwrap_or, is_some}
use Rattle.std.specs.Str.{IsUtf8}
use Rattle.std.specs.Str.Lossy.{utf8_valid_len}
use Rattle.cr_syntax.specs.declared.fault.LexFault.{LexFault}
use Rattle.cr_syntax.specs.declared.fault.LexFault.TheVariants as fault
use Rattle.cr_syntax.specs.declared.token.Token.{Token}
use Rattle.cr_syntax.specs.Words.{is_digit}
use Rattle.cr_syntax.specs.Texts.{escape}
use Rattle.cr_syntax.specs.Lexes.{Before, start, in_insertion, outermost, behind, place_of, spells, IsToken, TextLexes}

-- The first backslash that begins no escape, in the part of a text that has `bytes` from `at` on, or else its open
-- quote. In the second argument: a backslash stands before.
abbrev pub text_fault : ℕ → Bool → ℕ → List ℕ → LexFault
text_fault quote true at [] = fault.BadEscape (at - 1)
text_fault quote false at [] = fault.OpenString quote
text_fault quote true at (b ∷ bs) = if is_some (escape b) then text_fault quote false (at + 1) bs else fault.BadEscape (at - 1)
text_fault quote false at (b ∷ bs) = text_fault quote (b == 92) (at + 1) bs

-- The fault at a place where no token stands, by what stands there.
abbrev pub fault_at : Before → ℕ → List ℕ → LexFault
fault_at before place [] = fault.OpenString (unwrap_or (outermost before.nesting) place)
fault_at before place (b ∷ bs) =
    if b == 34 || (b == 125 && in_insertion before) then text_fault (unwrap_or (outermost before.nesting) place) false (place + 1) bs
    else (if is_digit b || b == 45 then fault.BadNumber place else fault.BadByte place)

-- No token stands next behind `at`, and it is not the end; or it is, and an insertion is open.
pub record IsStuck (source : List ℕ) (before : Before) (at : ℕ) (f : LexFault) : Type 0 where
  pub none : (past : ℕ) → past ≤ length source → spells source before at past ≡ None
  pub is_open : place_of source at ≡ length source → outermost before.nesting ≢ None
  pub fault : f ≡ fault_at before (place_of source at) (drop (place_of source at) source)

-- the fault behind these tokens
abbrev pub FailsFrom : List ℕ → Before → ℕ → List Token → LexFault → Type 0
FailsFrom source before at [] f = IsStuck source before at f
FailsFrom source before at (t ∷ ts) f = IsToken source before at t × FailsFrom source (behind before t) t.span.past ts f

-- the fault of a text
abbrev pub TextFails : List ℕ → LexFault → Type 0
TextFails source f = (ts : List Token) × FailsFrom source start 0 ts f

-- met at the end
abbrev pub is_open_string : LexFault → Bool
is_open_string (fault.OpenString quote) = true
is_open_string f = false

-- Bytes that are no text have the fault that their longest front of text has before its end, or else they stop being
-- text there.
abbrev pub FrontFails : List ℕ → LexFault → Type 0
FrontFails front f =
    (TextFails front f × (is_open_string f ≡ false))
    ⊎ ((f ≡ fault.NotUtf8 (length front)) × (((ts : List Token) × TextLexes front ts) ⊎ ((quote : ℕ) × TextFails front (fault.OpenString quote))))

-- The fault of the source: the one that is met first.
abbrev pub lex_fault : List ℕ → LexFault → Type 0
lex_fault source f =
    (IsUtf8 source × TextFails source f)
    ⊎ ((IsUtf8 source → ⊥) × FrontFails (take (utf8_valid_len source) source) f)
