-- Lists as they are laid out are read: with commas between, in parentheses, and a line each.
use Rattle.std.proofs.Common.{◌≡◌, ℕ, suc, ◌*◌, Bool, true, false, List, [], ◌∷◌, ◌++◌, map, Option, Some, None, refl, sym, ap, subst, ◌∙◌, inl, inr}
use Rattle.std.specs.Option.{option_map}
use Rattle.cr_syntax.specs.declared.look.TokenLook.TheVariants as l
use Rattle.cr_syntax.specs.declared.token.TokenKind.TheVariants as k
use Rattle.cr_syntax.specs.Look.{look_of}
use Rattle.cr_grammar.specs.declared.tree.Tree.{Tree}
use Rattle.cr_grammar.specs.declared.within.Within.{Within}
use Rattle.cr_grammar.specs.declared.wanted.Wanted.{Wanted}
use Rattle.cr_grammar.specs.declared.wanted.Wanted.TheVariants.{Or, Stmt}
use Rattle.cr_grammar.specs.Forms.{Form, nothing, ◌>>=◌, ◌>>◌, many, or_none, word, seps}
use Rattle.cr_grammar.specs.Forms as f
use Rattle.cr_grammar.specs.Same.{unplaced}
use Rattle.cr_grammar.specs.Expressions as ex
use Rattle.cr_pieces.specs.Pieces.{Piece, Blank, Put}
use Rattle.cr_pieces.specs.Fits.{spaced_behind}
use Rattle.cr_pretty.specs.Layout as y
use Rattle.cr_pretty.specs.Layout.{Laid, laid, bare, argument, space, lines, line, else_lines, joined, more_joined}
use Rattle.cr_round_trip.proofs.Known.{All, Any}
use Rattle.cr_round_trip.proofs.Fit.{pieces_assoc, pieces_nil}
use Rattle.cr_round_trip.proofs.Reading.{Scheme, Reads, Like, AllLike, as_pieces, then, gives, on, on_word, spaced, one_of, other, closely, none, some_one, no_more, one_more, both_like, no_seps, a_sep}
use Rattle.cr_round_trip.proofs.Values.{Value, as_argument, as_statement}

-- each is read, where it is placed so
abbrev pub Each : Scheme Tree → (Laid → List Piece) → List Tree → Type 0
Each F place xs = All (λ x. (s : Bool) → Reads F (Like x) s (place (laid x))) xs

pub values_each : (within : Within) (level : ℕ) (xs : List Tree) → All (Value within) xs → Each (λ S. S (Or within true)) (argument level) xs
values_each within level [] h = tt
values_each within level (x ∷ xs) h = (as_argument within x h.0 level, values_each within level xs h.1)

pub statements_each : (within : Within) (level : ℕ) (xs : List Tree) → All (Value within) xs → Each (λ S. S (Stmt within)) (bare level) xs
statements_each within level [] h = tt
statements_each within level (x ∷ xs) h = (as_statement within x h.0 level, statements_each within level xs h.1)

-- the last part of a form
pub then_last : {A B : Type 0} {F : Scheme A} {G : (Wanted → Form Tree) → A → Form B} {P : A → Type 0} {Q : B → Type 0} {s : Bool} (ps : List Piece)
    → Reads F P s ps → ((x : A) → P x → Reads (λ S. G S x) Q (spaced_behind s ps) []) → Reads (λ S. F S >>= G S) Q s ps
then_last ps r h = as_pieces ps (ps ++ []) (sym (pieces_nil ps)) (then ps [] r h)

-- ---- with commas between

pub on_comma : {B : Type 0} {G : (Wanted → Form Tree) → Unit {0} → Form B} {Q : B → Type 0} {s : Bool} (ps : List Piece) → Reads (λ S. G S tt) Q true ps → Reads (λ S. f.comma >>= G S) Q s (Put (k.Plain l.Comma) ∷ space ∷ ps)
on_comma ps r = on (k.Plain l.Comma) (space ∷ ps) (λ t. tt) (λ S t is. (t ∷ [], [], t.span.first, refl, (t, refl, (ap look_of is, refl)), ([], [], [], refl, refl, (refl, refl)))) (λ t. spaced 1 ps r)

module _ (F : Scheme Tree) (place : Laid → List Piece) where
  more_reads : (xs : List Tree) → Each F place xs → (s : Bool) → Reads (λ S. many (f.comma >> F S)) (AllLike xs) s (more_joined y.comma (map place (map laid xs)))
  more_reads [] held s = no_more refl
  more_reads (x ∷ xs) held s =
      let ps = place (laid x) in
      one_more (Put (k.Plain l.Comma) ∷ space ∷ ps) (more_joined y.comma (map place (map laid xs))) (λ z zs p q. both_like x z xs zs p q) (on_comma ps (held.0 true)) (more_reads xs held.1 (spaced_behind true ps))

  pub listed_reads : (x : Tree) (xs : List Tree) → Each F place (x ∷ xs) → (s : Bool) → Reads (λ S. f.listed (F S)) (AllLike (x ∷ xs)) s (y.listed (map place (map laid (x ∷ xs))))
  listed_reads x xs held s =
      let ps = place (laid x) in let more = more_joined y.comma (map place (map laid xs)) in
      then ps more (held.0 s) (λ z p. then_last more (more_reads xs held.1 (spaced_behind s ps)) (λ zs q. gives (z ∷ zs) (both_like x z xs zs p q)))

  pub any_listed : (xs : List Tree) → Each F place xs → (s : Bool) → Reads (λ S. or_none (f.listed (F S))) (AllLike xs) s (y.listed (map place (map laid xs)))
  any_listed [] held s = other (gives [] refl)
  any_listed (x ∷ xs) held s = one_of (listed_reads x xs held s)

-- ---- in parentheses

pub in_parentheses_reads : {A : Type 0} {F : Scheme A} {P : A → Type 0} {s : Bool} (ps : List Piece) → Reads F P false ps → Reads (λ S. f.parenthesized (F S)) P s (y.parenthesized ps)
in_parentheses_reads ps r = on_word l.OpenParenthesis (ps ++ y.word l.CloseParenthesis ∷ []) (λ at. no_seps (then ps (y.word l.CloseParenthesis ∷ []) r (λ x h. no_seps (on_word l.CloseParenthesis [] (λ at'. gives x h)))))

pub arguments_read : (within : Within) (level : ℕ) (xs : List Tree) → All (Value within) xs → Reads (λ S. ex.arguments S within true) (AllLike xs) false (y.arguments level (map laid xs))
arguments_read within level [] held = other (gives [] refl)
arguments_read within level (x ∷ xs) held =
    let ps = y.listed (map (argument level) (map laid (x ∷ xs))) in
    one_of (closely (k.Plain l.OpenParenthesis) (ps ++ y.word l.CloseParenthesis ∷ []) (in_parentheses_reads ps (any_listed (λ S. S (Or within true)) (argument level) (x ∷ xs) (values_each within level (x ∷ xs) held) false)))

-- ---- lines

-- statements behind the end of a line, with the end of the last one's line
abbrev pub body_lines : ℕ → List Laid → List Piece
body_lines level [] = []
body_lines level (x ∷ xs) = Blank (2 * level) ∷ (bare level x ++ (lines level xs ++ y.word l.Newline ∷ []))

pub rotated : (level : ℕ) (xs : List Laid) (qs : List Piece) → lines level xs ++ (y.word l.Newline ∷ qs) ≡ y.word l.Newline ∷ (body_lines level xs ++ qs)
rotated level [] qs = refl
rotated level (x ∷ xs) qs =
    let ps = bare level x in let more = lines level xs in
    ap (λ (v : List Piece). y.word l.Newline ∷ Blank (2 * level) ∷ v)
    (pieces_assoc ps more (y.word l.Newline ∷ qs) ∙ ap (λ (v : List Piece). ps ++ v) (sym (pieces_assoc more (y.word l.Newline ∷ []) qs)) ∙ sym (pieces_assoc ps (more ++ y.word l.Newline ∷ []) qs))

module _ (F : Scheme Tree) (level : ℕ) where
  many_lines : (xs : List Tree) → Each F (bare level) xs → (s : Bool) → Reads (λ S. many (word l.Newline >> (seps >> F S))) (AllLike xs) s (lines level (map laid xs))
  many_lines [] held s = no_more refl
  many_lines (x ∷ xs) held s =
      let ps = bare level (laid x) in
      one_more (y.word l.Newline ∷ Blank (2 * level) ∷ ps) (lines level (map laid xs)) (λ z zs p q. both_like x z xs zs p q)
      (on_word l.Newline (Blank (2 * level) ∷ ps) (λ at. no_seps (spaced (2 * level) ps (held.0 _)))) (many_lines xs held.1 _)

  -- what is behind the separators of a body
  abbrev Statements : (Wanted → Form Tree) → Form (List Tree)
  Statements S = or_none (F S >>= (λ x. many (word l.Newline >> (seps >> F S)) >>= (λ xs. nothing (x ∷ xs)))) >>= (λ xs. seps >> nothing xs)

  body_rest : (xs : List Tree) → Each F (bare level) xs → (s : Bool) → Reads Statements (AllLike xs) s (body_lines level (map laid xs))
  body_rest [] held s = then [] [] (other (gives [] refl)) (λ zs h. no_seps (gives zs h))
  body_rest (x ∷ xs) held s =
      let ps = bare level (laid x) in let more = lines level (map laid xs) in
      spaced (2 * level) (ps ++ (more ++ y.word l.Newline ∷ []))
      (as_pieces (ps ++ (more ++ y.word l.Newline ∷ [])) ((ps ++ more) ++ y.word l.Newline ∷ []) (sym (pieces_assoc ps more (y.word l.Newline ∷ [])))
      (then {P = AllLike (x ∷ xs)} (ps ++ more) (y.word l.Newline ∷ []) (one_of (then ps more (held.0 _) (λ z p. then_last more (many_lines xs held.1 _) (λ zs q. gives (z ∷ zs) (both_like x z xs zs p q)))))
      (λ zs h. a_sep [] (gives zs h))))

  pub body_reads : (xs : List Tree) → Each F (bare level) xs → (s : Bool) → Reads (λ S. f.stmts (F S)) (AllLike xs) s (body_lines level (map laid xs))
  body_reads xs held s = no_seps (body_rest xs held s)

  pub body_behind : (xs : List Tree) → Each F (bare level) xs → (s : Bool) → Reads (λ S. f.stmts (F S)) (AllLike xs) s (y.word l.Newline ∷ body_lines level (map laid xs))
  body_behind xs held s = a_sep (body_lines level (map laid xs)) (body_rest xs held true)

-- ---- clauses, each with the end of its last line

abbrev pub clause_lines : ℕ → List Laid → List Piece
clause_lines level [] = []
clause_lines level (x ∷ xs) = Blank (2 * level) ∷ ((bare level x ++ y.word l.Newline ∷ []) ++ clause_lines level xs)

pub rotated_clauses : (level : ℕ) (xs : List Laid) (qs : List Piece) → lines level xs ++ (y.word l.Newline ∷ qs) ≡ y.word l.Newline ∷ (clause_lines level xs ++ qs)
rotated_clauses level [] qs = refl
rotated_clauses level (x ∷ xs) qs =
    let ps = bare level x in let more = lines level xs in let rest = clause_lines level xs in
    ap (λ (v : List Piece). y.word l.Newline ∷ Blank (2 * level) ∷ v)
    (pieces_assoc ps more (y.word l.Newline ∷ qs) ∙ ap (λ (v : List Piece). ps ++ v) (rotated_clauses level xs qs) ∙ sym (pieces_assoc ps (y.word l.Newline ∷ []) (rest ++ qs)) ∙ sym (pieces_assoc (ps ++ y.word l.Newline ∷ []) rest qs))

-- a clause is read with the end of its last line
abbrev pub Ended : ℕ → Laid → List Piece
Ended level x = bare level x ++ y.word l.Newline ∷ []

module _ (F : Scheme Tree) (level : ℕ) where
  pub many_clauses : (xs : List Tree) → Each F (Ended level) xs → (s : Bool) → Reads (λ S. many (F S)) (AllLike xs) s (clause_lines level (map laid xs))
  many_clauses [] held s = no_more refl
  many_clauses (x ∷ xs) held s =
      let ps = Ended level (laid x) in
      one_more (Blank (2 * level) ∷ ps) (clause_lines level (map laid xs)) (λ z zs p q. both_like x z xs zs p q) (spaced (2 * level) ps (held.0 _)) (many_clauses xs held.1 _)

  pub some_clauses : (x : Tree) (xs : List Tree) → Each F (Ended level) (x ∷ xs) → (s : Bool) → Reads (λ S. f.some (F S)) (AllLike (x ∷ xs)) s (clause_lines level (map laid (x ∷ xs)))
  some_clauses x xs held s =
      let ps = Ended level (laid x) in let more = clause_lines level (map laid xs) in
      then (Blank (2 * level) ∷ ps) more (spaced (2 * level) ps (held.0 _)) (λ z p. then_last more (many_clauses xs held.1 _) (λ zs q. gives (z ∷ zs) (both_like x z xs zs p q)))

-- ---- `else`

abbrev pub AnyAllLike : Option (List Tree) → Option (List Tree) → Type 0
AnyAllLike xs zs = option_map (map unplaced) zs ≡ option_map (map unplaced) xs

abbrev pub else_body : ℕ → Option (List Laid) → List Piece
else_body level None = []
else_body level (Some list) = Blank (2 * level) ∷ y.word l.Else ∷ y.word l.Newline ∷ body_lines (suc level) list

pub rotated_else : (level : ℕ) (otherwise : Option (List Laid)) (qs : List Piece) → else_lines level otherwise ++ (y.word l.Newline ∷ qs) ≡ y.word l.Newline ∷ (else_body level otherwise ++ qs)
rotated_else level None qs = refl
rotated_else level (Some list) qs = ap (λ (v : List Piece). y.word l.Newline ∷ Blank (2 * level) ∷ y.word l.Else ∷ v) (rotated (suc level) list qs)

pub otherwise_reads : (within : Within) (level : ℕ) (otherwise : Option (List Tree)) → Any (All (Value within)) otherwise → (s : Bool)
    → Reads (λ S. ex.otherwise S within) (AnyAllLike otherwise) s (else_body level (option_map (map laid) otherwise))
otherwise_reads within level None held s = none refl
otherwise_reads within level (Some xs) held s = some_one {P = AllLike xs} (λ zs h. ap (λ (v : List Tree). Some v) h)
    (spaced (2 * level) (y.word l.Else ∷ y.word l.Newline ∷ body_lines (suc level) (map laid xs))
    (on_word l.Else (y.word l.Newline ∷ body_lines (suc level) (map laid xs)) (λ at. body_behind (λ S. S (Stmt within)) (suc level) xs (statements_each within (suc level) xs held) false)))

-- ---- bodies to their end

-- `end`, on a line of its own
pub ending : {A : Type 0} {P : A → Type 0} {s : Bool} (level : ℕ) (x : A) → P x → Reads (λ S. word l.KeywordEnd >> nothing x) P s (Blank (2 * level) ∷ y.word l.KeywordEnd ∷ [])
ending level x h = spaced (2 * level) (y.word l.KeywordEnd ∷ []) (on_word l.KeywordEnd [] (λ at. gives x h))

module _ {A : Type 0} (F : Scheme Tree) (level : ℕ) (xs : List Tree) (held : Each F (bare (suc level)) xs) (make : List Tree → A) (P : A → Type 0) (h : (zs : List Tree) → AllLike xs zs → P (make zs)) where
  abbrev lines_of : List Piece
  lines_of = body_lines (suc level) (map laid xs)

  abbrev ends : List Piece
  ends = Blank (2 * level) ∷ y.word l.KeywordEnd ∷ []

  -- with the end of the line in front
  pub body_end : (s : Bool) → Reads (λ S. f.stmts (F S) >>= (λ zs. word l.KeywordEnd >> nothing (make zs))) P s (y.body level (map laid xs))
  body_end s = as_pieces (y.body level (map laid xs)) (y.word l.Newline ∷ (lines_of ++ ends)) (rotated (suc level) (map laid xs) ends)
      (then (y.word l.Newline ∷ lines_of) ends (body_behind F (suc level) xs held s) (λ zs q. ending level (make zs) (h zs q)))

  -- behind the end of the line, which is read by itself
  pub line_body_end : (s : Bool) → Reads (λ S. word l.Newline >> (f.stmts (F S) >>= (λ zs. word l.KeywordEnd >> nothing (make zs)))) P s (y.body level (map laid xs))
  line_body_end s = as_pieces (y.body level (map laid xs)) (y.word l.Newline ∷ (lines_of ++ ends)) (rotated (suc level) (map laid xs) ends)
      (on_word l.Newline (lines_of ++ ends) (λ at. then lines_of ends (body_reads F (suc level) xs held true) (λ zs q. ending level (make zs) (h zs q))))
