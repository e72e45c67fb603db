-- Arrays, hashes and texts with insertions are read from their layout.
use Rattle.std.proofs.Common.{◌≡◌, ℕ, suc, ◌+◌, Bool, true, false, not, List, [], ◌∷◌, ◌++◌, map, Option, Some, None, refl, sym, ap, subst, ◌∙◌, append_assoc, inl, inr}
use Rattle.std.specs.Option.{option_map}
use Rattle.cr_syntax.specs.declared.look.TokenLook.TheVariants as l
use Rattle.cr_syntax.specs.declared.token.Token.{Token}
use Rattle.cr_syntax.specs.declared.token.TokenKind.TheVariants as k
use Rattle.cr_syntax.specs.Look.{look_of}
use Rattle.cr_grammar.specs.declared.tree.Tree.{Tree}
use Rattle.cr_grammar.specs.declared.tree.Tree.TheVariants as tree
use Rattle.cr_grammar.specs.declared.within.Within.{Within}
use Rattle.cr_grammar.specs.declared.word.Word.{Word}
use Rattle.cr_grammar.specs.declared.wanted.Wanted.{Wanted}
use Rattle.cr_grammar.specs.declared.wanted.Wanted.TheVariants.{Written, Or}
use Rattle.cr_grammar.specs.Forms.{Form, nothing, ◌>>=◌, ◌>>◌, maybe, many, word, holding, seps}
use Rattle.cr_grammar.specs.Same.{unplaced}
use Rattle.cr_grammar.specs.Expressions as ex
use Rattle.cr_pieces.specs.Pieces.{Piece, Put}
use Rattle.cr_pieces.specs.Fits.{spaced_behind}
use Rattle.cr_pretty.specs.Layout as y
use Rattle.cr_pretty.specs.Layout.{Laid, laid, bare, argument, space}
use Rattle.cr_pretty.proofs.Laid as of
use Rattle.cr_round_trip.proofs.Known.{All, Any, HasParts}
use Rattle.cr_round_trip.proofs.Fit.{pieces_assoc}
use Rattle.cr_round_trip.proofs.Unplaced as un
use Rattle.cr_round_trip.proofs.Reading.{Scheme, Found, Reads, Like, AllLike, AnyLike, as_pieces, then, gives, on, on_word, on_name, spaced, none, some_one, no_seps, via, both_like}
use Rattle.cr_round_trip.proofs.Values.{Value, value_by, as_primary, as_argument, argument_closes, closes_behind}
use Rattle.cr_round_trip.proofs.Lines.{Each, values_each, then_last, any_listed}
use Rattle.cr_round_trip.proofs.CallsRead.{tokens_assoc}
use Rattle.cr_round_trip.proofs.TypesRead.{Typed, of_type_reads, of_type_closes}

-- ---- arrays

pub array_read : (within : Within) (at : ℕ) (elements : List Tree) (element : Option Tree) → All (Value within) elements → Any (Typed true) element → Value within (tree.Array at elements element)
array_read within at elements element hs he = value_by within (tree.Array at elements element) (of.of_array at elements element) (record {
  reads = λ level s.
      let ps = y.listed (map (argument level) (map laid elements)) in let qs = y.of_type level (option_map laid element) in
      as_primary within {F = λ S. ex.array S within true} (λ S w x f. inr (inr (inr (inr (inr (inr (inr (inr (inr (inl f))))))))))
      (on_word l.OpenBracket (ps ++ y.word l.CloseBracket ∷ qs) (λ place. no_seps (then ps (y.word l.CloseBracket ∷ qs) (any_listed (λ S. S (Or within true)) (argument level) elements (values_each within level elements hs) false)
      (λ zs hz. no_seps (on_word l.CloseBracket qs (λ place'. then_last qs (of_type_reads level element he false) (λ c hc. gives (tree.Array place zs c) (same_array place zs c hz hc))))))));
  closes = λ level s. closes_behind false (y.listed (map (argument level) (map laid elements))) (y.word l.CloseBracket ∷ y.of_type level (option_map laid element)) (λ t. of_type_closes level element he);
  plain = λ shape level. refl;
})
  where
    same_array : (place : ℕ) (zs : List Tree) (c : Option Tree) → AllLike elements zs → AnyLike element c → Like (tree.Array at elements element) (tree.Array place zs c)
    same_array place zs c hz hc = un.of_array place zs c ∙ ap (λ (v : List Tree). tree.Array 0 v (option_map unplaced c)) hz ∙ ap (λ (v : Option Tree). tree.Array 0 (map unplaced elements) v) hc ∙ sym (un.of_array at elements element)

-- ---- hashes

-- a key and its value
pub record PairRead (within : Within) (x : Tree) : Type 0 where
  pub reads : (level : ℕ) (s : Bool) → Reads (λ S. ex.pair S within true (S (Or within true))) (Like x) s (bare level (laid x))

-- their types
pub record TypePair (x : Tree) : Type 0 where
  pub reads : (within : Within) (level : ℕ) (s : Bool) → Reads (λ S. ex.pair S within true (S (Written true))) (Like x) s (bare level (laid x))
  pub closes : (level : ℕ) (s : Bool) → spaced_behind s (bare level (laid x)) ≡ false

on_arrow : {B : Type 0} {G : (Wanted → Form Tree) → Unit {0} → Form B} {Q : B → Type 0} {s : Bool} (ps : List Piece) → Reads (λ S. G S tt) Q true ps → Reads (λ S. (word l.Arrow >> seps) >>= G S) Q s (Put (k.Plain l.Arrow) ∷ space ∷ ps)
on_arrow ps r = on (k.Plain l.Arrow) (space ∷ ps) (λ t. tt) (λ S t is. (t ∷ [], [], t.span.first, refl, (t, refl, (ap look_of is, refl)), ([], [], [], refl, refl, (refl, refl)))) (λ t. spaced 1 ps r)

pair_by : (within : Within) {F : Scheme Tree} (key value : Tree) (level : ℕ) (s : Bool) → ((t : Bool) → Reads F (Like key) t (argument level (laid key))) → ((t : Bool) → Reads F (Like value) t (argument level (laid value)))
    → Reads (λ S. ex.pair S within true (F S)) (Like (tree.Pair key value)) s (bare level (laid (tree.Pair key value)))
pair_by within {F} key value level s hk hv =
    let ps = argument level (laid key) in let qs = argument level (laid value) in
    subst (λ (v : Laid). Reads (λ S. ex.pair S within true (F S)) (Like (tree.Pair key value)) s (bare level v)) (sym (of.of_pair key value))
    (then ps (space ∷ y.word l.Arrow ∷ space ∷ qs) (hk s) (λ a p. spaced 1 (y.word l.Arrow ∷ space ∷ qs) (on_arrow qs (then_last qs (hv true) (λ b q. gives (tree.Pair a b) (simp (un.constructs, p, q)))))))

pub pair_read : (within : Within) (key value : Tree) → Value within key → Value within value → PairRead within (tree.Pair key value)
pair_read within key value hk hv = record { reads = λ level s. pair_by within key value level s (as_argument within key hk level) (as_argument within value hv level) }

type_argument : (level : ℕ) (x : Tree) → Typed true x → argument level (laid x) ≡ bare level (laid x)
type_argument level x h = ap (λ (t : Bool). y.enclosed t (bare level (laid x))) h.plain

pub type_pair_read : (key value : Tree) → Typed true key → Typed true value → TypePair (tree.Pair key value)
type_pair_read key value hk hv = record {
  reads = λ within level s. pair_by within {F = λ S. S (Written true)} key value level s (λ t. as_pieces (argument level (laid key)) (bare level (laid key)) (type_argument level key hk) (hk.reads level t))
      (λ t. as_pieces (argument level (laid value)) (bare level (laid value)) (type_argument level value hv) (hv.reads level t));
  closes = λ level s. subst (λ (v : Laid). spaced_behind s (bare level v) ≡ false) (sym (of.of_pair key value))
      (closes_behind s (argument level (laid key)) (space ∷ y.word l.Arrow ∷ space ∷ argument level (laid value))
      (λ t. ap (λ (v : List Piece). spaced_behind true v) (type_argument level value hv) ∙ hv.closes level true));
}

entries_each : (within : Within) (level : ℕ) (xs : List Tree) → All (PairRead within) xs → Each (λ S. ex.pair S within true (S (Or within true))) (bare level) xs
entries_each within level [] h = tt
entries_each within level (x ∷ xs) h = ((h.0).reads level, entries_each within level xs h.1)

entry_reads : (within : Within) (level : ℕ) (entry : Option Tree) → Any TypePair entry → (s : Bool) → Reads (λ S. maybe (word l.Of >> ex.pair S within true (S (Written true)))) (AnyLike entry) s (y.of_type level (option_map laid entry))
entry_reads within level None h s = none refl
entry_reads within level (Some x) h s = some_one {P = Like x} (λ z q. ap (λ (v : Tree). Some v) q)
    (spaced 1 (y.word l.Of ∷ space ∷ bare level (laid x)) (on_word l.Of (space ∷ bare level (laid x)) (λ at. spaced 1 (bare level (laid x)) (h.reads within level true))))

entry_closes : (level : ℕ) (entry : Option Tree) → Any TypePair entry → spaced_behind false (y.of_type level (option_map laid entry)) ≡ false
entry_closes level None h = refl
entry_closes level (Some x) h = h.closes level true

pub hash_read : (within : Within) (at : ℕ) (entries : List Tree) (entry : Option Tree) → All (PairRead within) entries → Any TypePair entry → Value within (tree.Hash at entries entry)
hash_read within at entries entry hs he = value_by within (tree.Hash at entries entry) (of.of_hash at entries entry) (record {
  reads = λ level s.
      let ps = y.listed (map (bare level) (map laid entries)) in let qs = y.of_type level (option_map laid entry) in
      as_primary within {F = λ S. ex.hash S within true} (λ S w x f. inr (inr (inr (inr (inr (inr (inr (inr (inr (inr (inl f)))))))))))
      (on_word l.OpenBrace (ps ++ y.word l.CloseBrace ∷ qs) (λ place. no_seps (then ps (y.word l.CloseBrace ∷ qs) (any_listed (λ S. ex.pair S within true (S (Or within true))) (bare level) entries (entries_each within level entries hs) false)
      (λ zs hz. on_word l.CloseBrace qs (λ place'. then_last qs (entry_reads within level entry he false) (λ c hc. gives (tree.Hash place zs c) (same_hash place zs c hz hc)))))));
  closes = λ level s. closes_behind false (y.listed (map (bare level) (map laid entries))) (y.word l.CloseBrace ∷ y.of_type level (option_map laid entry)) (λ t. entry_closes level entry he);
  plain = λ shape level. refl;
})
  where
    same_hash : (place : ℕ) (zs : List Tree) (c : Option Tree) → AllLike entries zs → AnyLike entry c → Like (tree.Hash at entries entry) (tree.Hash place zs c)
    same_hash place zs c hz hc = un.of_hash place zs c ∙ ap (λ (v : List Tree). tree.Hash 0 v (option_map unplaced c)) hz ∙ ap (λ (v : Option Tree). tree.Hash 0 (map unplaced entries) v) hc ∙ sym (un.of_hash at entries entry)

-- ---- texts with insertions

-- one more of many, in front of what stands behind them
more_then : {A B : Type 0} {F : Scheme A} {K : (Wanted → Form Tree) → List A → Form B} {P : A → Type 0} {Q : B → Type 0} {s : Bool} (ps qs : List Piece) → Reads F P s ps
    → ((x : A) → P x → Reads (λ S. many (F S) >>= (λ xs. K S (x ∷ xs))) Q (spaced_behind s ps) qs) → Reads (λ S. many (F S) >>= K S) Q s (ps ++ qs)
more_then {A} {B} {F} {K} {P} {Q} {s} ps qs r h = via (λ S w x f. regrouped S w x f) (then {G = λ S x. many (F S) >>= (λ xs. K S (x ∷ xs))} ps qs r h)
  where
    regrouped : (S : Wanted → Form Tree) (w : List Token) (z : B) → (F S >>= (λ x. many (F S) >>= (λ xs. K S (x ∷ xs)))) w z → (many (F S) >>= K S) w z
    regrouped S w z (a, b, x, e, one, (c, d, xs, e', rest, last)) = (a ++ c, d, x ∷ xs, e ∙ ap (λ (v : List Token). a ++ v) e' ∙ sym (tokens_assoc a c d), (a, c, refl, one, rest), last)

done_then : {A B : Type 0} {F : Scheme A} {K : (Wanted → Form Tree) → List A → Form B} {Q : B → Type 0} {s : Bool} (qs : List Piece) → Reads (λ S. K S []) Q s qs → Reads (λ S. many (F S) >>= K S) Q s qs
done_then qs r = via (λ S w x f. ([], w, [], refl, refl, f)) r

-- the parts behind a first insertion, with the insertions between them
abbrev rest : ℕ → List (List ℕ) → List Laid → List Piece
rest level [] xs = []
rest level (part ∷ []) xs = Put (k.TextLast part) ∷ []
rest level (part ∷ next ∷ parts) [] = []
rest level (part ∷ next ∷ parts) (x ∷ xs) = Put (k.TextMiddle part) ∷ (argument level x ++ rest level (next ∷ parts) xs)

first_rest : (level : ℕ) (parts : List (List ℕ)) (x : Tree) (xs : List Tree) → HasParts parts (x ∷ xs) → y.more_parts level parts (map laid (x ∷ xs)) ≡ argument level (laid x) ++ rest level parts (map laid xs)
first_rest level [] x xs has = absurd has
first_rest level (part ∷ []) x [] has = refl
first_rest level (part ∷ []) x (z ∷ xs) has = absurd has
first_rest level (part ∷ next ∷ parts) x [] has = absurd has.1
first_rest level (part ∷ next ∷ parts) x (z ∷ xs) has = ap (λ (v : List Piece). argument level (laid x) ++ Put (k.TextMiddle part) ∷ v) (first_rest level (next ∷ parts) z xs has.1)

-- what was found is of the same texts and insertions
abbrev Alike : List (List ℕ) → List Tree → List (Tree × List ℕ) → List ℕ → Type 0
Alike parts xs more last = (map (λ (z : Tree × List ℕ). z.1) more ++ last ∷ [] ≡ parts) × AllLike xs (map (λ (z : Tree × List ℕ). z.0) more)

module _ (within : Within) (level : ℕ) where
  rest_reads : (x : Tree) (parts : List (List ℕ)) (xs : List Tree) → HasParts parts (x ∷ xs) → All (Value within) xs → (make : List (Tree × List ℕ) → List ℕ → Tree) (P : Tree → Type 0)
      → ((more : List (Tree × List ℕ)) (last : List ℕ) → Alike parts xs more last → P (make more last)) → (s : Bool)
      → Reads (λ S. many (ex.part_behind S within true) >>= (λ more. holding (λ text. k.TextLast text) >>= (λ last. nothing (make more last.text)))) P s (rest level parts (map laid xs))
  rest_reads x [] xs has hs make P h s = absurd has
  rest_reads x (part ∷ []) [] has hs make P h s = done_then (Put (k.TextLast part) ∷ []) (on_name (λ text. k.TextLast text) part [] (λ at. gives (make [] part) (h [] part (refl, refl))))
  rest_reads x (part ∷ []) (z ∷ xs) has hs make P h s = absurd has
  rest_reads x (part ∷ next ∷ parts) [] has hs make P h s = absurd has.1
  rest_reads x (part ∷ next ∷ parts) (z ∷ xs) has hs make P h s =
      more_then {P = λ (v : Tree × List ℕ). Like z v.0 × (v.1 ≡ part)} (Put (k.TextMiddle part) ∷ argument level (laid z)) (rest level (next ∷ parts) (map laid xs))
      (on_name (λ text. k.TextMiddle text) part (argument level (laid z)) (λ at. then_last (argument level (laid z)) (as_argument within z hs.0 level false) (λ v q. gives (v, part) (q, refl))))
      (λ v q. rest_reads z (next ∷ parts) xs has.1 hs.1 (λ more last. make (v ∷ more) last) P (λ more last alike. h (v ∷ more) last (
        ap (λ (text : List ℕ). text ∷ (map (λ (z : Tree × List ℕ). z.1) more ++ last ∷ [])) q.1 ∙ ap (λ (texts : List (List ℕ)). part ∷ texts) alike.0,
        both_like z v.0 xs (map (λ (z : Tree × List ℕ). z.0) more) q.0 alike.1,
      )) (spaced_behind false (argument level (laid z))))

  rest_closes : (x : Tree) (parts : List (List ℕ)) (xs : List Tree) → HasParts parts (x ∷ xs) → (s : Bool) → spaced_behind s (rest level parts (map laid xs)) ≡ false
  rest_closes x [] xs has s = absurd has
  rest_closes x (part ∷ []) [] has s = refl
  rest_closes x (part ∷ []) (z ∷ xs) has s = absurd has
  rest_closes x (part ∷ next ∷ parts) [] has s = absurd has.1
  rest_closes x (part ∷ next ∷ parts) (z ∷ xs) has s = closes_behind false (argument level (laid z)) (rest level (next ∷ parts) (map laid xs)) (rest_closes z (next ∷ parts) xs has.1)

insertions_by : (within : Within) (at : ℕ) (first : List ℕ) (parts : List (List ℕ)) (x : Tree) (xs : List Tree) → HasParts parts (x ∷ xs) → All (Value within) (x ∷ xs) → Value within (tree.Insertions at (first ∷ parts) (x ∷ xs))
insertions_by within at first parts x xs has hs = value_by within (tree.Insertions at (first ∷ parts) (x ∷ xs)) (of.of_insertions at (first ∷ parts) (x ∷ xs)) (record {
  reads = λ level s.
      let ps = argument level (laid x) in let qs = rest level parts (map laid xs) in let all = y.more_parts level parts (map laid (x ∷ xs)) in
      as_primary within {F = λ S. ex.insertions S within true} (λ S w z f. inr (inl (inr f)))
      (on_name (λ text. k.TextFirst text) first all (λ place. as_pieces all (ps ++ qs) (first_rest level parts x xs has) (then ps qs (as_argument within x hs.0 level false)
      (λ v p. rest_reads within level x parts xs has hs.1 (λ more last. tree.Insertions place (first ∷ map (λ (z : Tree × List ℕ). z.1) more ++ last ∷ []) (v ∷ map (λ (z : Tree × List ℕ). z.0) more))
      (Like (tree.Insertions at (first ∷ parts) (x ∷ xs))) (λ more last alike. same_insertions place v more last p alike) (spaced_behind false ps)))));
  closes = λ level s. ap (λ (v : List Piece). spaced_behind false v) (first_rest level parts x xs has) ∙ closes_behind false (argument level (laid x)) (rest level parts (map laid xs)) (rest_closes within level x parts xs has);
  plain = λ shape level. refl;
})
  where
    same_insertions : (place : ℕ) (v : Tree) (more : List (Tree × List ℕ)) (last : List ℕ) → Like x v → Alike parts xs more last
        → Like (tree.Insertions at (first ∷ parts) (x ∷ xs)) (tree.Insertions place (first ∷ map (λ (z : Tree × List ℕ). z.1) more ++ last ∷ []) (v ∷ map (λ (z : Tree × List ℕ). z.0) more))
    same_insertions place v more last p alike =
        let found = map (λ (z : Tree × List ℕ). z.0) more in
        un.of_insertions place (first ∷ map (λ (z : Tree × List ℕ). z.1) more ++ last ∷ []) (v ∷ found) ∙ ap (λ (texts : List (List ℕ)). tree.Insertions 0 (first ∷ texts) (map unplaced (v ∷ found))) alike.0
        ∙ ap (λ (zs : List Tree). tree.Insertions 0 (first ∷ parts) zs) (both_like x v xs found p alike.1) ∙ sym (un.of_insertions at (first ∷ parts) (x ∷ xs))

pub insertions_read : (within : Within) (at : ℕ) (first : List ℕ) (parts : List (List ℕ)) (xs : List Tree) → HasParts parts xs → All (Value within) xs → Value within (tree.Insertions at (first ∷ parts) xs)
insertions_read within at first [] [] has hs = absurd has
insertions_read within at first (part ∷ parts) [] has hs = absurd has
insertions_read within at first parts (x ∷ xs) has hs = insertions_by within at first parts x xs has hs
