-- What is written between braces and brackets, and in texts with insertions, fits.
use Rattle.std.proofs.Common.{◌≡◌, ℕ, suc, ◌-◌, Bool, true, false, not, ◌&&◌, List, [], ◌∷◌, ◌++◌, length, map, Option, Some, None, refl, sym, ap, subst, ◌∙◌, arith, take}
use Rattle.std.specs.Option.{option_map}
use Rattle.std.specs.Prelude.{slice_get}
use Rattle.std.specs.Str.{IsUtf8}
use Rattle.std.proofs.Math.Seq.{take-append_seam}
use Rattle.std.proofs.lemmas.List.{length-append}
use Rattle.cr_syntax.specs.declared.open.Open.{Open}
use Rattle.cr_syntax.specs.declared.open.Open.TheVariants as open'
use Rattle.cr_syntax.specs.declared.look.TokenLook.TheVariants as l
use Rattle.cr_syntax.specs.declared.token.TokenKind.TheVariants as k
use Rattle.cr_syntax.specs.Lexes.{Before, innermost, is_insertion, in_insertion}
use Rattle.cr_grammar.specs.declared.tree.Tree.{Tree}
use Rattle.cr_grammar.specs.declared.tree.Tree.TheVariants as tree
use Rattle.cr_pieces.specs.Pieces.{Piece, Put, text_of}
use Rattle.cr_pieces.specs.Fits.{put_behind, pieces_behind, stands, Fits}
use Rattle.cr_pretty.specs.Layout as y
use Rattle.cr_pretty.specs.Layout.{Laid, laid, word, space, bare, operand, argument}
use Rattle.cr_pretty.proofs.Laid as of
use Rattle.cr_pieces.proofs.Joined.{behind_append}
use Rattle.cr_round_trip.proofs.Stops.{stop, opens, Ready}
use Rattle.cr_round_trip.proofs.Words as w
use Rattle.cr_round_trip.proofs.Known.{All, Any, HasParts}
use Rattle.cr_round_trip.proofs.Fit.{Keeps, Fit, Tail, Next, keeps_append, pieces_assoc, pieces_nil, with_tail, no_tail, opener_end, then, sign_tail, tail_next, next_from}
use Rattle.cr_round_trip.proofs.Listed.{Lays, commas, joined_keep, joined_fit, arguments_fit, bare_fit}
use Rattle.cr_round_trip.proofs.Constructs.{lays, as_operand, as_argument}

-- ---- what is open inside

last_of : (n : List Open) (x : Open) → innermost (n ++ x ∷ []) ≡ Some x
last_of n x =
    let e : length (n ++ x ∷ []) - 1 ≡ length n = omega (arith, length-append n (x ∷ [])) in
    ap (λ (i : ℕ). slice_get (n ++ x ∷ []) i) e ∙ at_seam n
  where
    at_seam : (m : List Open) → slice_get (m ++ x ∷ []) (length m) ≡ Some x
    at_seam [] = refl
    at_seam (z ∷ m) = at_seam m

front_of : (n : List Open) (x : Open) → take (length (n ++ x ∷ []) - 1) (n ++ x ∷ []) ≡ n
front_of n x =
    let e : length (n ++ x ∷ []) - 1 ≡ length n = omega (arith, length-append n (x ∷ [])) in
    ap (λ (i : ℕ). take i (n ++ x ∷ [])) e ∙ take-append_seam n (x ∷ [])

-- ---- behind a closing bracket

of_tail : (x : Option Tree) (level : ℕ) → Any Lays x → Tail (y.of_type level (option_map laid x))
of_tail None level held = no_tail
of_tail (Some x) level held = opener_end l.Of (bare level (laid x)) w.of_opener (held level)

-- ---- arrays and indices

brackets_tail : (pss : List (List Piece)) (qs : List Piece) → All Fit pss → ((before : Before) (s : Bool) (after : List ℕ) → stop after ≡ true → Fits before s qs after) → Keeps qs
    → Tail (word l.OpenBracket ∷ (y.listed pss ++ word l.CloseBracket ∷ qs))
brackets_tail pss qs held fits keeps =
    let ps = y.listed pss in record {
      fits = λ before s after e. (
        tt,
        refl,
        joined_fit y.comma commas pss held (put_behind before (k.Plain l.OpenBracket)) false (word l.CloseBracket ∷ qs) after refl refl
            (λ b t kept. (tt, refl, fits (put_behind b (k.Plain l.CloseBracket)) false after e)),
      );
      keeps = λ before. keeps_append ps (word l.CloseBracket ∷ qs) (joined_keep y.comma commas pss held) (λ b. keeps (put_behind b (k.Plain l.CloseBracket))) (put_behind before (k.Plain l.OpenBracket));
      stops = λ after e. refl;
    }

pub array_lays : (at : ℕ) (elements : List Tree) (element : Option Tree) → All Lays elements → Any Lays element → Lays (tree.Array at elements element)
array_lays at elements element held type = lays (tree.Array at elements element) (of.of_array at elements element) (λ level.
    let tail = brackets_tail (map (argument level) (map laid elements)) (y.of_type level (option_map laid element)) (arguments_fit elements level held) (of_tail element level type).fits (of_tail element level type).keeps in
    record { fits = λ before s after ready e. tail.fits before s after e; keeps = tail.keeps; opening = λ after. refl })

question_fits : (question : Bool) (before : Before) (s : Bool) (after : List ℕ) → stop after ≡ true → Fits before s (y.question_mark question) after
question_fits true before s after e = (tt, refl, tt)
question_fits false before s after e = tt

question_keeps : (question : Bool) → Keeps (y.question_mark question)
question_keeps true before = refl
question_keeps false before = refl

pub index_lays : (at : ℕ) (x : Tree) (list : List Tree) (question : Bool) → Lays x → All Lays list → Lays (tree.Index at x list question)
index_lays at x list question r held = lays (tree.Index at x list question) (of.of_index at x list question) (λ level.
    with_tail (operand level (laid x)) (word l.OpenBracket ∷ (y.listed (map (argument level) (map laid list)) ++ word l.CloseBracket ∷ y.question_mark question)) (as_operand x r level)
    (brackets_tail (map (argument level) (map laid list)) (y.question_mark question) (arguments_fit list level held) (question_fits question) (question_keeps question)))

-- ---- hashes

brace_closes : (n : List Open) (b : Before) (s : Bool) (after : List ℕ) → b.nesting ≡ n ++ open'.Brace ∷ [] → stands b s (k.Plain l.CloseBrace) after ≡ true
brace_closes n b s after kept =
    let inside : in_insertion b ≡ false = ap (λ (m : List Open). is_insertion (innermost m)) kept ∙ ap is_insertion (last_of n open'.Brace) in
    rw inside refl

braces_keep : (n : List Open) (b : Before) → b.nesting ≡ n ++ open'.Brace ∷ [] → (put_behind b (k.Plain l.CloseBrace)).nesting ≡ n
braces_keep n b kept = ap (λ (m : List Open). take (length m - 1) m) kept ∙ front_of n open'.Brace

pub hash_lays : (at : ℕ) (entries : List Tree) (entry : Option Tree) → All Lays entries → Any Lays entry → Lays (tree.Hash at entries entry)
hash_lays at entries entry held type = lays (tree.Hash at entries entry) (of.of_hash at entries entry) (λ level.
    let pss = map (bare level) (map laid entries) in
    let ps = y.listed pss in
    let qs = y.of_type level (option_map laid entry) in
    let tail = of_tail entry level type in record {
      fits = λ before s after ready e. (
        tt,
        refl,
        joined_fit y.comma commas pss (bare_fit entries level held) (put_behind before (k.Plain l.OpenBrace)) false (word l.CloseBrace ∷ qs) after refl refl
            (λ b t kept. (tt, brace_closes before.nesting b t (text_of qs ++ after) kept, tail.fits (put_behind b (k.Plain l.CloseBrace)) false after e)),
      );
      keeps = λ before. braces_level ps qs before (joined_keep y.comma commas pss (bare_fit entries level held)) tail.keeps;
      opening = λ after. refl;
    })
  where
    braces_level : (ps qs : List Piece) (before : Before) → Keeps ps → Keeps qs → (pieces_behind before (word l.OpenBrace ∷ (ps ++ word l.CloseBrace ∷ qs))).nesting ≡ before.nesting
    braces_level ps qs before kp kq =
        let opened = put_behind before (k.Plain l.OpenBrace) in
        ap (λ (b : Before). b.nesting) (behind_append opened ps (word l.CloseBrace ∷ qs))
        ∙ kq (put_behind (pieces_behind opened ps) (k.Plain l.CloseBrace))
        ∙ braces_keep before.nesting (pieces_behind opened ps) (kp opened)

pub pair_lays : (key value : Tree) → Lays key → Lays value → Lays (tree.Pair key value)
pair_lays key value a b = lays (tree.Pair key value) (of.of_pair key value) (λ level.
    with_tail (argument level (laid key)) (space ∷ word l.Arrow ∷ space ∷ argument level (laid value)) (as_argument key a level) (opener_end l.Arrow (argument level (laid value)) w.arrow_opener (as_argument value b level)))

-- ---- texts with insertions

-- Behind an insertion its text goes on, or ends.
part_stands : (n : List Open) (b : Before) (at : ℕ) → b.nesting ≡ n ++ open'.Insertion at ∷ [] → in_insertion b ≡ true
part_stands n b at kept = ap (λ (m : List Open). is_insertion (innermost m)) kept ∙ ap is_insertion (last_of n (open'.Insertion at))

more_fit : (n : List Open) (level : ℕ) (parts : List (List ℕ)) (xs : List Tree) → HasParts parts xs → All Lays xs → (b : Before) (s : Bool) (after : List ℕ) → b.nesting ≡ n ++ open'.Insertion 0 ∷ [] → Ready b
    → Fits b s (y.more_parts level parts (map laid xs)) after
more_fit n level [] xs has held b s after kept ready = absurd has
more_fit n level (part ∷ parts) [] has held b s after kept ready = absurd has
more_fit n level (part ∷ []) (x ∷ []) has held b s after kept ready =
    then (argument level (laid x)) (Put (k.TextLast part) ∷ []) b s after (as_argument x held.0 level) ready refl
    (λ c t same. (has, part_stands n c 0 (same ∙ kept), tt))
more_fit n level (part ∷ []) (x ∷ z ∷ xs) has held b s after kept ready = absurd has
more_fit n level (part ∷ next ∷ parts) (x ∷ xs) has held b s after kept ready =
    then (argument level (laid x)) (Put (k.TextMiddle part) ∷ y.more_parts level (next ∷ parts) (map laid xs)) b s after (as_argument x held.0 level) ready refl
    (λ c t same. (has.0, part_stands n c 0 (same ∙ kept), more_fit n level (next ∷ parts) xs has.1 held.1 (put_behind c (k.TextMiddle part)) false after (same ∙ kept) refl))

more_keep : (n : List Open) (level : ℕ) (parts : List (List ℕ)) (xs : List Tree) → HasParts parts xs → All Lays xs → (b : Before) → b.nesting ≡ n ++ open'.Insertion 0 ∷ []
    → (pieces_behind b (y.more_parts level parts (map laid xs))).nesting ≡ n
more_keep n level [] xs has held b kept = absurd has
more_keep n level (part ∷ parts) [] has held b kept = absurd has
more_keep n level (part ∷ []) (x ∷ []) has held b kept =
    let ps = argument level (laid x) in
    ap (λ (c : Before). c.nesting) (behind_append b ps (Put (k.TextLast part) ∷ []))
    ∙ ap (λ (m : List Open). take (length m - 1) m) ((as_argument x held.0 level).keeps b ∙ kept) ∙ front_of n (open'.Insertion 0)
more_keep n level (part ∷ []) (x ∷ z ∷ xs) has held b kept = absurd has
more_keep n level (part ∷ next ∷ parts) (x ∷ xs) has held b kept =
    let ps = argument level (laid x) in let more = y.more_parts level (next ∷ parts) (map laid xs) in
    ap (λ (c : Before). c.nesting) (behind_append b ps (Put (k.TextMiddle part) ∷ more))
    ∙ more_keep n level (next ∷ parts) xs has.1 held.1 (put_behind (pieces_behind b ps) (k.TextMiddle part)) ((as_argument x held.0 level).keeps b ∙ kept)

pub insertions_lays : (at : ℕ) (first : List ℕ) (parts : List (List ℕ)) (xs : List Tree) → IsUtf8 first → HasParts parts xs → All Lays xs → Lays (tree.Insertions at (first ∷ parts) xs)
insertions_lays at first parts xs utf8 has held = lays (tree.Insertions at (first ∷ parts) xs) (of.of_insertions at (first ∷ parts) xs) (λ level. record {
  fits = λ before s after ready e. (utf8, refl, more_fit before.nesting level parts xs has held (put_behind before (k.TextFirst first)) false after refl refl);
  keeps = λ before. more_keep before.nesting level parts xs has held (put_behind before (k.TextFirst first)) refl;
  opening = λ after. refl;
})
