-- What is open is told alike by the tokens of a text and by pieces, which have no places.
use Rattle.std.proofs.Common.{◌≡◌, ℕ, ◌-◌, Bool, not, ◌&&◌, ◌||◌, List, [], ◌∷◌, map, length, take, Option, Some, None, refl, sym, ap, ◌∙◌}
use Rattle.std.specs.Option.{option_map}
use Rattle.std.proofs.lemmas.Option.{slice_get-map}
use Rattle.std.proofs.lemmas.List.{length-map, map-append, take-map}
use Rattle.std.specs.Prelude.{slice_get}
use Rattle.cr_syntax.specs.declared.open.Open.{Open}
use Rattle.cr_syntax.specs.declared.open.Open.TheVariants as o
use Rattle.cr_syntax.specs.declared.look.TokenLook.{TokenLook}
use Rattle.cr_syntax.specs.declared.look.TokenLook.TheVariants as l
use Rattle.cr_syntax.specs.declared.token.Token.{Token}
use Rattle.cr_syntax.specs.Look.{look_of}
use Rattle.cr_syntax.specs.Lexes.{Before, innermost, is_insertion, in_insertion, outermost, nesting_behind, behind, takes_minus, ends_operand, is_ident}
use Rattle.cr_pieces.specs.Fits.{put_behind}

abbrev pub unplaced : Open → Open
unplaced o.Brace = o.Brace
unplaced (o.Insertion quote) = o.Insertion 0

-- the same is open, places left aside, and the last tokens look alike
pub record Alike (b c : Before) : Type 0 where
  pub nesting : map unplaced b.nesting ≡ c.nesting
  pub last : b.last ≡ c.last

one_less : (n : List Open) → map unplaced (take (length n - 1) n) ≡ take (length (map unplaced n) - 1) (map unplaced n)
one_less n = sym (take-map unplaced (length n - 1) n) ∙ ap (λ (i : ℕ). take (i - 1) (map unplaced n)) (sym (length-map n unplaced))

nesting_alike : (n : List Open) (first : ℕ) (look : TokenLook) → map unplaced (nesting_behind n first look) ≡ nesting_behind (map unplaced n) 0 look
nesting_alike n first l.OpenBrace = map-append unplaced n (o.Brace ∷ [])
nesting_alike n first l.CloseBrace = one_less n
nesting_alike n first l.TextFirst = map-append unplaced n (o.Insertion first ∷ [])
nesting_alike n first l.TextLast = one_less n
nesting_alike n first other = refl

pub alike_behind : (b c : Before) (t : Token) → Alike b c → Alike (behind b t) (put_behind c t.kind)
alike_behind b c t alike = record {
  nesting = nesting_alike b.nesting t.span.first (look_of t.kind) ∙ ap (λ (n : List Open). nesting_behind n 0 (look_of t.kind)) alike.nesting;
  last = refl;
}

insertion_alike : (x : Option Open) → is_insertion (option_map unplaced x) ≡ is_insertion x
insertion_alike None = refl
insertion_alike (Some o.Brace) = refl
insertion_alike (Some (o.Insertion quote)) = refl

pub in_insertion_alike : (b c : Before) → Alike b c → in_insertion b ≡ in_insertion c
in_insertion_alike b c alike =
    sym (insertion_alike (innermost b.nesting))
    ∙ ap is_insertion (sym (slice_get-map unplaced b.nesting (length b.nesting - 1)))
    ∙ ap (λ (i : ℕ). is_insertion (slice_get (map unplaced b.nesting) (i - 1))) (sym (length-map b.nesting unplaced))
    ∙ ap (λ (n : List Open). is_insertion (innermost n)) alike.nesting

pub takes_minus_alike : (b c : Before) (s : Bool) → Alike b c → takes_minus b s ≡ takes_minus c s
takes_minus_alike b c s alike = ap (λ (look : TokenLook). not (ends_operand look) || (is_ident look && s)) alike.last

none_open : (n : List Open) → outermost (map unplaced n) ≡ None → outermost n ≡ None
none_open [] e = refl
none_open (o.Brace ∷ n) e = none_open n e
none_open (o.Insertion quote ∷ n) e = cc

pub closed_alike : (b c : Before) → Alike b c → outermost c.nesting ≡ None → outermost b.nesting ≡ None
closed_alike b c alike none = none_open b.nesting (ap outermost alike.nesting ∙ none)
