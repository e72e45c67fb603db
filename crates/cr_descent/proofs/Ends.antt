-- The tokens of a source end with End, and no form is End.
use Rattle.std.proofs.Common.{◌≡◌, ◌≢◌, ℕ, zero, suc, ◌-◌, Bool, true, false, not, ◌&&◌, ◌==◌, if◌then◌else◌, ◌^◌, cond, List, [], ◌∷◌, ◌++◌, All, drop, take, Option, Some, None, refl, sym, ap, ◌∙◌, inl, inr}
use Rattle.std.specs.Map.{lookup}
use Rattle.std.specs.Option.{option_map}
use Rattle.std.specs.Prelude.{unwrap_or}
use Rattle.std.specs.Str.{bytes_eq}
use Rattle.std.proofs.lemmas.List.Elements.{All-cons, All-nil}
use Rattle.cr_syntax.specs.declared.look.TokenLook.{TokenLook}
use Rattle.cr_syntax.specs.declared.look.TokenLook.TheVariants as l
use Rattle.cr_syntax.specs.declared.token.Token.{Token}
use Rattle.cr_syntax.specs.declared.token.TokenKind.{TokenKind}
use Rattle.cr_syntax.specs.declared.token.TokenKind.TheVariants as k
use Rattle.cr_syntax.specs.Look.{look_of}
use Rattle.cr_syntax.specs.Words.{is_digit, begins_name, begins_constant, begins, all_word_bytes, is_word_end, word_of, keyword_of, keywords}
use Rattle.cr_syntax.specs.Numbers.{number_of, ends_number, typed, small, big, fits, signed, digits_of}
use Rattle.cr_syntax.specs.Operators.{operators, operator_of, operator_look}
use Rattle.cr_syntax.specs.Texts.{Part, part_of, part_kind}
use Rattle.cr_syntax.specs.Lexes.{Before, Lexes, LexesFrom, IsEnd, IsToken, form_by, form_of, in_insertion, is_spaced, place_of, takes_minus, when, start, behind}
use Rattle.cr_descent.specs.Programs.{EndsOnce, TokensEndOnce}

-- whether a kind, a form or a word is End
abbrev is_end : TokenLook → Bool
is_end l.End = true
is_end other = false

not_end : (word : TokenLook) → is_end word ≡ false → word ≢ l.End
not_end word free e =
    let impossible : true ≡ false = sym (ap is_end e) ∙ free in
    cc

abbrev ends : Option TokenKind → Bool
ends None = false
ends (Some kind) = is_end (look_of kind)

abbrev ends_look : Option TokenLook → Bool
ends_look None = false
ends_look (Some word) = is_end word

-- what is found, if anything, is no End
record Endless (found : Option TokenKind) : Type 0 where
  is : ends found ≡ false

-- by a test
either : (b : Bool) (x y : Option TokenKind) → Endless x → Endless y → Endless (if b then x else y)
either true x y p q = p
either false x y p q = q

nothing : Endless None
nothing = record { is = refl }

if_kind : (b : Bool) (x y : TokenKind) → is_end (look_of x) ≡ false → is_end (look_of y) ≡ false → is_end (look_of (if b then x else y)) ≡ false
if_kind true x y p q = p
if_kind false x y p q = q

-- ---- the tables

abbrev no_ends : List (List ℕ × TokenLook) → Bool
no_ends [] = true
no_ends (e ∷ es) = cond (is_end e.1) false (no_ends es)

found_ends : (passes end : Bool) (word : TokenLook) (found : Option TokenLook) → is_end word ≡ end → (end ≡ false → ends_look found ≡ false) → end ≡ false
    → ends_look (cond passes (Some word) found) ≡ false
found_ends true end word found is others free = is ∙ free
found_ends false end word found is others free = others free

split : (end : Bool) (others : Bool) → cond end false others ≡ true → (end ≡ false) × (others ≡ true)
split true others e = absurd cc
split false others e = (refl, e)

lookup_ends : (test : List ℕ → Bool) (table : List (List ℕ × TokenLook)) → no_ends table ≡ true → ends_look (lookup test table) ≡ false
lookup_ends test [] free = refl
lookup_ends test (e ∷ es) free =
    let both = split (is_end e.1) (no_ends es) free in
    found_ends (test e.0) (is_end e.1) e.1 (lookup test es) refl (λ _. lookup_ends test es both.1) both.0

no_keyword_ends : no_ends keywords ≡ true
no_keyword_ends = refl

no_operator_ends : no_ends operators ≡ true
no_operator_ends = refl

plain_ends : (word : Option TokenLook) → ends_look word ≡ false → Endless (option_map k.Plain word)
plain_ends None free = record { is = refl }
plain_ends (Some word) free = record { is = free }

word_ends_by : (text : List ℕ) (word : Option TokenLook) → ends_look word ≡ false → is_end (look_of (unwrap_or (option_map k.Plain word) (k.Ident text))) ≡ false
word_ends_by text None free = refl
word_ends_by text (Some word) free = free

word_ends : (text : List ℕ) → is_end (look_of (word_of text)) ≡ false
word_ends text = word_ends_by text (keyword_of text) (lookup_ends (bytes_eq text) keywords no_keyword_ends)

-- ---- the forms

when_ends : (b : Bool) (kind : TokenKind) → is_end (look_of kind) ≡ false → Endless (when b kind)
when_ends b kind free = either b (Some kind) None (record { is = free }) nothing

small_ends : (minus : Bool) (value : ℕ) → Endless (small minus value)
small_ends minus value = either (fits minus value (2 ^ 31)) (Some (k.Int32 (signed minus value))) None (record { is = refl }) nothing

big_ends : (minus : Bool) (value : ℕ) → Endless (big minus value)
big_ends minus value = either (fits minus value (2 ^ 63)) (Some (k.Int64 (signed minus value))) None (record { is = refl }) nothing

typed_ends : (minus : Bool) (value : ℕ) (suffix : List ℕ) → Endless (typed minus value suffix)
typed_ends minus value suffix = either _ _ _ (small_ends minus value) (either _ _ _ (big_ends minus value) nothing)

number_ends : (minus : Bool) (bytes : List ℕ) → Endless (number_of minus bytes)
number_ends minus [] = nothing
number_ends minus (b ∷ bs) = typed_ends minus (digits_of b bs).0 (digits_of b bs).1

part_ends : (quoted : Bool) (part : Option Part) → Endless (option_map (part_kind quoted) part)
part_ends quoted None = nothing
part_ends true (Some part) = record { is = if_kind part.opens (k.TextFirst part.bytes) (k.Text part.bytes) refl refl }
part_ends false (Some part) = record { is = if_kind part.opens (k.TextMiddle part.bytes) (k.TextLast part.bytes) refl refl }

operator_ends : (text : List ℕ) → Endless (operator_of text)
operator_ends text = plain_ends (operator_look text) (lookup_ends (bytes_eq text) operators no_operator_ends)

form_by_ends : (before : Before) (spaced : Bool) (b : ℕ) (bs after : List ℕ) → Endless (form_by before spaced b bs after)
form_by_ends before spaced b bs after =
    either (is_digit b) _ _ (either (ends_number after) _ _ (number_ends false (b ∷ bs)) nothing)
    (either (begins_name b) _ _ (when_ends (is_word_end bs after) (word_of (b ∷ bs)) (word_ends (b ∷ bs)))
    (either (begins_constant b) _ _ (when_ends (all_word_bytes bs) (k.Constant (b ∷ bs)) refl)
    (either (b == 64) _ _ (when_ends (begins begins_name bs && all_word_bytes bs) (k.InstanceVariable bs) refl)
    (either (b == 34) _ _ (part_ends true (part_of false bs))
    (either (b == 125 && in_insertion before) _ _ (part_ends false (part_of false bs))
    (either (b == 45 && takes_minus before spaced && begins is_digit (bs ++ after)) _ _ (either (ends_number after) _ _ (number_ends true bs) nothing) (operator_ends (b ∷ bs))))))))

form_ends : (before : Before) (spaced : Bool) (source : List ℕ) (n : ℕ) → Endless (form_of before spaced source n)
form_ends before spaced [] n = nothing
form_ends before spaced (b ∷ bs) zero = nothing
form_ends before spaced (b ∷ bs) (suc n) = form_by_ends before spaced b (take n bs) (drop n bs)

-- ---- the list

token_is_no_end : (source : List ℕ) (before : Before) (at : ℕ) (t : Token) → IsToken source before at t → look_of t.kind ≢ l.End
token_is_no_end source before at t is = not_end (look_of t.kind) (sym (ap ends is.form) ∙ (form_ends before (is_spaced source at) (drop (place_of source at) source) (t.span.past - place_of source at)).is)

ends_once : (source : List ℕ) (before : Before) (at : ℕ) (list : List Token) → LexesFrom source before at list → EndsOnce list
ends_once source before at [] is = absurd is
ends_once source before at (t ∷ list) (inl last) = record {
  front = [];
  last = t;
  parts = ap (λ (v : List Token). t ∷ v) last.1;
  is_end = ap look_of last.0.kind;
  no_other = All-nil (λ (t : Token). look_of t.kind ≢ l.End);
}
ends_once source before at (t ∷ list) (inr more) =
    let behind = ends_once source (behind before t) t.span.past list more.1 in
    record {
      front = t ∷ behind.front;
      last = behind.last;
      parts = ap (λ (v : List Token). t ∷ v) behind.parts;
      is_end = behind.is_end;
      no_other = All-cons (λ (t : Token). look_of t.kind ≢ l.End) t behind.front (token_is_no_end source before at t more.0) behind.no_other;
    }

pub tokens_end_once : TokensEndOnce
tokens_end_once source list is = ends_once source start 0 list is.1
