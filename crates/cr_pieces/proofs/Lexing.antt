-- The bytes of pieces have the tokens that bear them.
use Rattle.std.proofs.Common.{◌≡◌, ℕ, zero, suc, ◌+◌, ◌-◌, ◌<◌, Bool, true, false, not, ◌||◌, List, [], ◌∷◌, ◌++◌, length, drop, get_or, ◌==◌, None, refl, sym, ap, subst, ◌∙◌, arith, inl, inr, append_assoc}
use Rattle.std.specs.Prelude.{nat_lt, slice_index}
use Rattle.std.specs.Str.{IsUtf8}
use Rattle.std.proofs.Math.Seq.{drop-append_seam, drop-append-add}
use Rattle.std.proofs.lemmas.List.{length-append, append-nil}
use Rattle.std.proofs.lemmas.Bool.{lt-ltb, le-ltb, ne_eqb, not-true, or_parts}
use Rattle.std.proofs.lemmas.Str.{IsUtf8-nil, IsUtf8-append}
use Rattle.cr_syntax.specs.declared.look.TokenLook.TheVariants as l
use Rattle.cr_syntax.specs.declared.token.Token.{Token}
use Rattle.cr_syntax.specs.declared.token.TokenKind.{TokenKind}
use Rattle.cr_syntax.specs.declared.token.TokenKind.TheVariants as k
use Rattle.cr_syntax.specs.Lexes.{Before, is_blank, gap_length, place_of, is_spaced, start, form_by, behind, outermost, IsToken, IsEnd, LexesFrom, Lexes}
use Rattle.cr_lex.specs.Longest.{IsLongest}
use Rattle.cr_lex.proofs.Stepping.{token, is_token, is_end}
use Rattle.cr_pieces.specs.Bytes.{is_gap, ends_line}
use Rattle.cr_pieces.specs.Pieces.{Piece, Blank, Put, spelled, spaces, text_of}
use Rattle.cr_pieces.specs.Fits.{is_newline, blanked, put_behind, pieces_behind, Bears}
use Rattle.cr_pieces.specs.Laws.{BornBy}
use Rattle.cr_pieces.proofs.Nesting.{Alike, alike_behind, closed_alike}
use Rattle.cr_pieces.proofs.Joined.{ascii_utf8, spaces_ascii}
use Rattle.cr_pieces.proofs.Read.{IsRead, longest_alike}

abbrev starts : List ℕ → Bool
starts [] = true
starts (b ∷ bs) = not (is_gap b)

gap_none : (x : List ℕ) → starts x ≡ true → gap_length x ≡ 0
gap_none [] e = refl
gap_none (b ∷ bs) e =
    let both = or_parts (is_blank b) (b == 35) (not-true (is_gap b) e) in
    let blank = both.0 in let hash = both.1 in rw (blank, hash) refl

gap_spaces : (j : ℕ) (x : List ℕ) → starts x ≡ true → gap_length (spaces j ++ x) ≡ j
gap_spaces zero x e = gap_none x e
gap_spaces (suc j) x e = ap suc (gap_spaces j x e)

drop_spaces : (j : ℕ) (x : List ℕ) → drop j (spaces j ++ x) ≡ x
drop_spaces zero [] = refl
drop_spaces zero (b ∷ x) = refl
drop_spaces (suc j) x = drop_spaces j x

length_spaces : (j : ℕ) → length (spaces j) ≡ j
length_spaces zero = refl
length_spaces (suc j) = ap suc (length_spaces j)

-- ---- where the next token stands

module _ (front : List ℕ) (j : ℕ) (x : List ℕ) where
  abbrev source : List ℕ
  source = front ++ (spaces j ++ x)

  place_is : starts x ≡ true → place_of source (length front) ≡ length front + j
  place_is e = ap (λ (bs : List ℕ). length front + gap_length bs) (drop-append_seam front (spaces j ++ x)) ∙ ap (λ (n : ℕ). length front + n) (gap_spaces j x e)

  rest_is : drop (length front + j) source ≡ x
  rest_is = drop-append-add front (spaces j ++ x) j ∙ drop_spaces j x

  length_is : length source ≡ length front + j + length x
  length_is = omega (arith, length-append front (spaces j ++ x), length-append (spaces j) x, length_spaces j)

abbrev spaced_at : List ℕ → ℕ → ℕ → Bool
spaced_at source at place = nat_lt at place || place == 0 || slice_index source (place - 1) == 10

not_zero : (n : ℕ) → (suc n == 0) ≡ false
not_zero n = ne_eqb (suc n) 0 (λ e. absurd (omega arith))

last_at : (b : ℕ) (cs x : List ℕ) → (slice_index (b ∷ (cs ++ x)) (length cs) == 10) ≡ ends_line (b ∷ cs)
last_at b [] x = refl
last_at b (c ∷ cs) x = last_at c cs x

last_is : (front x : List ℕ) → (length front == 0 || slice_index (front ++ x) (length front - 1) == 10) ≡ ends_line front
last_is [] x = refl
last_is (b ∷ cs) x =
    let no = not_zero (length cs) in
    let one : suc (length cs) - 1 ≡ length cs = omega arith in
    rw (no, one) (last_at b cs x)

below_more : (at j : ℕ) → nat_lt at (at + suc j) ≡ true
below_more at j = lt-ltb at (at + suc j) (omega arith)

not_below : (at : ℕ) → nat_lt at (at + 0) ≡ false
not_below at = le-ltb at (at + 0) (omega arith)

spaced_is : (front : List ℕ) (j : ℕ) (x : List ℕ) → spaced_at (front ++ (spaces j ++ x)) (length front) (length front + j) ≡ blanked (ends_line front) j
spaced_is front (suc j) x = rw (below_more (length front) j) refl
spaced_is front zero x =
    let none : length front + 0 ≡ length front = omega arith in
    let no = not_below (length front) in
    rw no (subst (λ (n : ℕ). (n == 0 || slice_index (front ++ x) (n - 1) == 10) ≡ ends_line front) (sym none) (last_is front x))

ends_more : (b : ℕ) (front : List ℕ) (c : ℕ) (x : List ℕ) → ends_line (b ∷ (front ++ c ∷ x)) ≡ ends_line (front ++ c ∷ x)
ends_more b [] c x = refl
ends_more b (d ∷ front) c x = refl

ends_append : (front : List ℕ) (c : ℕ) (x : List ℕ) → ends_line (front ++ c ∷ x) ≡ ends_line (c ∷ x)
ends_append [] c x = refl
ends_append (b ∷ front) c x = ends_more b front c x ∙ ends_append front c x

-- ---- token by token

pub record Read (source : List ℕ) (before : Before) (at : ℕ) (s : Bool) (ps : List Piece) : Type 0 where
  pub tokens : List Token
  pub last : Token
  pub at_end : last.kind ≡ k.Plain l.End
  pub lexes : LexesFrom source before at (tokens ++ last ∷ [])
  pub bears : Bears s ps tokens

-- the bytes are the same, taken after the token
regroup : (front : List ℕ) (j : ℕ) (bs x : List ℕ) → (front ++ (spaces j ++ bs)) ++ x ≡ front ++ (spaces j ++ (bs ++ x))
regroup front j bs x = append_assoc front (spaces j ++ bs) x ∙ ap (λ (v : List ℕ). front ++ v) (append_assoc (spaces j) bs x)

module _ (front : List ℕ) (j : ℕ) (kind : TokenKind) (x : List ℕ) (before told : Before) (alike : Alike before told) (is : IsRead told (blanked (ends_line front) j) kind x) where
  abbrev bytes : List ℕ
  bytes = spelled kind ++ x

  abbrev whole : List ℕ
  whole = front ++ (spaces j ++ (spelled kind ++ x))

  bytes_are : spelled kind ++ x ≡ is.head ∷ (is.rest ++ x)
  bytes_are = ap (λ (v : List ℕ). v ++ x) is.are

  starts_so : starts (spelled kind ++ x) ≡ true
  starts_so = let solid = is.solid in subst (λ (v : List ℕ). starts v ≡ true) (sym bytes_are) (ap not solid)

  stands_at : place_of whole (length front) ≡ length front + j
  stands_at = place_is front j (spelled kind ++ x) starts_so

  pub the_token : Token
  the_token = token (place_of whole (length front)) (place_of whole (length front) + 1 + length is.rest) (is_spaced whole (length front)) kind

  is_so : is_spaced whole (length front) ≡ blanked (ends_line front) j
  is_so = ap (spaced_at whole (length front)) stands_at ∙ spaced_is front j (spelled kind ++ x)

  left_is : drop (place_of whole (length front)) whole ≡ is.head ∷ (is.rest ++ x)
  left_is = ap (λ (n : ℕ). drop n whole) stands_at ∙ rest_is front j (spelled kind ++ x) ∙ bytes_are

  below : place_of whole (length front) < length whole
  below = omega (arith, stands_at, length_is front j (spelled kind ++ x), ap length bytes_are)

  found : IsLongest (form_by before (is_spaced whole (length front)) (get_or (drop (place_of whole (length front)) whole) 0 0)) (drop 1 (drop (place_of whole (length front)) whole)) (length is.rest) kind
  found = subst (λ (v : List ℕ). IsLongest (form_by before (is_spaced whole (length front)) (get_or v 0 0)) (drop 1 v) (length is.rest) kind) (sym left_is)
      (subst (λ (s : Bool). IsLongest (form_by before s is.head) (is.rest ++ x) (length is.rest) kind) (sym is_so) (longest_alike before told (blanked (ends_line front) j) is.head (is.rest ++ x) (length is.rest) kind alike is.longest))

  pub here : IsToken whole before (length front) the_token
  unfolding the_token
  here = is_token whole before (length front) (length is.rest) kind below found

  pub past_is : (the_token).span.past ≡ length (front ++ (spaces j ++ spelled kind))
  unfolding the_token
  past_is = omega (arith, stands_at, length-append front (spaces j ++ spelled kind), length-append (spaces j) (spelled kind), length_spaces j, ap length is.are)

  pub kind_is : (the_token).kind ≡ kind
  unfolding the_token
  kind_is = refl

  pub spaced_so : (the_token).spaced ≡ blanked (ends_line front) j
  unfolding the_token
  spaced_so = is_so

  pub line_is : ends_line (front ++ (spaces j ++ spelled kind)) ≡ is_newline kind
  line_is =
      ap ends_line (sym (append_assoc front (spaces j) (spelled kind))) ∙ ap (λ (v : List ℕ). ends_line ((front ++ spaces j) ++ v)) is.are
      ∙ ends_append (front ++ spaces j) is.head is.rest ∙ ap ends_line (sym is.are) ∙ is.ends

-- ---- the whole

end_here : (front : List ℕ) (j : ℕ) (before : Before) → outermost before.nesting ≡ None → Read (front ++ (spaces j ++ [])) before (length front) (blanked (ends_line front) j) []
end_here front j before none =
    let source = front ++ (spaces j ++ []) in
    let at_end : place_of source (length front) ≡ length source = place_is front j [] refl ∙ (let e : length front + j ≡ length source = omega (arith, length_is front j []) in e) in
    let is : IsEnd source before (length front) (token (place_of source (length front)) (place_of source (length front)) (is_spaced source (length front)) (k.Plain l.End)) =
    is_end source before (length front) at_end none in
    record { tokens = []; last = token (place_of source (length front)) (place_of source (length front)) (is_spaced source (length front)) (k.Plain l.End); at_end = refl; lexes = inl (is, refl); bears = refl }

more_blanks : (s : Bool) (j n : ℕ) → blanked (blanked s j) n ≡ blanked s (j + n)
more_blanks s zero n = ap (blanked s) (let e : n ≡ 0 + n = omega arith in e)
more_blanks s (suc j) zero = ap (blanked s) (let e : suc j ≡ suc j + 0 = omega arith in e)
more_blanks s (suc j) (suc n) = ap (blanked s) (let e : suc (j + suc n) ≡ suc j + suc n = omega arith in e)

more_spaces : (j n : ℕ) (x : List ℕ) → spaces (j + n) ++ x ≡ spaces j ++ (spaces n ++ x)
more_spaces zero n x = ap (λ (i : ℕ). spaces i ++ x) (let e : 0 + n ≡ n = omega arith in e)
more_spaces (suc j) n x = ap (λ (i : ℕ). spaces i ++ x) (let e : suc j + n ≡ suc (j + n) = omega arith in e) ∙ ap (λ (v : List ℕ). 32 ∷ v) (more_spaces j n x)

-- each token of the pieces is read from its bytes, where such bytes stand behind them all
abbrev pub AllRead : Before → Bool → List Piece → List ℕ → Type 0
AllRead before s [] after = Unit {0}
AllRead before s (Blank n ∷ ps) after = AllRead before (blanked s n) ps after
AllRead before s (Put kind ∷ ps) after = IsRead before s kind (text_of ps ++ after) × AllRead (put_behind before kind) (is_newline kind) ps after

pub read_utf8 : (before : Before) (s : Bool) (ps : List Piece) (after : List ℕ) → AllRead before s ps after → IsUtf8 (text_of ps)
read_utf8 before s [] after f = IsUtf8-nil
read_utf8 before s (Blank n ∷ ps) after f = IsUtf8-append (spaces n) (text_of ps) (ascii_utf8 (spaces n) (spaces_ascii n)) (read_utf8 before (blanked s n) ps after f)
read_utf8 before s (Put kind ∷ ps) after f = IsUtf8-append (spelled kind) (text_of ps) (f.0).utf8 (read_utf8 (put_behind before kind) (is_newline kind) ps after f.1)

pub lexes : (ps : List Piece) (front : List ℕ) (j : ℕ) (before told : Before) → Alike before told → outermost (pieces_behind told ps).nesting ≡ None → AllRead told (blanked (ends_line front) j) ps []
    → Read (front ++ (spaces j ++ text_of ps)) before (length front) (blanked (ends_line front) j) ps
lexes [] front j before told alike none f = end_here front j before (closed_alike before told alike none)
lexes (Blank n ∷ ps) front j before told alike none f =
    let more = more_blanks (ends_line front) j n in
    let r : Read (front ++ (spaces (j + n) ++ text_of ps)) before (length front) (blanked (ends_line front) (j + n)) ps =
    lexes ps front (j + n) before told alike none (subst (λ (s : Bool). AllRead told s ps []) more f) in
    record {
      tokens = r.tokens;
      last = r.last;
      at_end = r.at_end;
      lexes = subst (λ (v : List ℕ). LexesFrom (front ++ v) before (length front) (r.tokens ++ r.last ∷ [])) (more_spaces j n (text_of ps)) r.lexes;
      bears = subst (λ (s : Bool). Bears s ps r.tokens) (sym more) r.bears;
    }
lexes (Put kind ∷ ps) front j before told alike none f =
    let x = text_of ps in
    let is : IsRead told (blanked (ends_line front) j) kind x = subst (IsRead told (blanked (ends_line front) j) kind) (append-nil x) f.0 in
    let t = the_token front j kind x before told alike is in
    let line = line_is front j kind x before told alike is in
    let next = front ++ (spaces j ++ spelled kind) in
    let kind_so = kind_is front j kind x before told alike is in
    let still : Alike (behind before t) (put_behind told kind) = subst (λ (u : TokenKind). Alike (behind before t) (put_behind told u)) kind_so (alike_behind before told t alike) in
    let fits : AllRead (put_behind told kind) (blanked (ends_line next) 0) ps [] = subst (λ (s : Bool). AllRead (put_behind told kind) s ps []) (sym line) f.1 in
    let r : Read (next ++ (spaces 0 ++ text_of ps)) (behind before t) (length next) (blanked (ends_line next) 0) ps = lexes ps next 0 (behind before t) (put_behind told kind) still none fits in
    record {
      tokens = t ∷ r.tokens;
      last = r.last;
      at_end = r.at_end;
      lexes = inr (
        here front j kind x before told alike is,
        subst (λ (n : ℕ). LexesFrom (front ++ (spaces j ++ (spelled kind ++ x))) (behind before t) n (r.tokens ++ r.last ∷ [])) (sym (past_is front j kind x before told alike is))
            (subst (λ (v : List ℕ). LexesFrom v (behind before t) (length next) (r.tokens ++ r.last ∷ [])) (regroup front j (spelled kind) x) r.lexes),
      );
      bears = (t, r.tokens, refl, kind_so, spaced_so front j kind x before told alike is, subst (λ (s : Bool). Bears s ps r.tokens) line r.bears);
    }

-- what is read from the start of a source on is lexed
pub lexes_whole : (ps : List Piece) → AllRead start true ps [] → outermost (pieces_behind start ps).nesting ≡ None → (tokens : List Token) × Lexes (text_of ps) tokens × BornBy ps tokens
lexes_whole ps f none =
    let r : Read (text_of ps) start 0 true ps = lexes ps [] 0 start start (record { nesting = refl; last = refl }) none f in
    (r.tokens ++ r.last ∷ [], (read_utf8 start true ps [] f, r.lexes), record { front = r.tokens; last = r.last; whole = refl; ends = r.at_end; bears = r.bears })
