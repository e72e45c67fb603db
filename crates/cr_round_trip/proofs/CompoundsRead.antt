-- Compound forms are read from their layout.
use Rattle.std.proofs.Common.{◌≡◌, ℕ, suc, ◌*◌, Bool, true, false, not, List, [], ◌∷◌, ◌++◌, map, Option, Some, None, refl, sym, ap, subst, ◌∙◌, inl, inr}
use Rattle.std.specs.Option.{option_map}
use Rattle.cr_syntax.specs.declared.look.TokenLook.{TokenLook}
use Rattle.cr_syntax.specs.declared.look.TokenLook.TheVariants as l
use Rattle.cr_syntax.specs.declared.token.TokenKind.TheVariants as k
use Rattle.cr_syntax.specs.Look.{look_of}
use Rattle.cr_grammar.specs.declared.tree.Tree.{Tree}
use Rattle.cr_grammar.specs.declared.tree.Tree.TheVariants as tree
use Rattle.cr_grammar.specs.declared.within.Within.{Within}
use Rattle.cr_grammar.specs.declared.wanted.Wanted.{Wanted}
use Rattle.cr_grammar.specs.declared.wanted.Wanted.TheVariants.{Written, When, Or, Simple, Stmt}
use Rattle.cr_grammar.specs.Wanted.{in_loop}
use Rattle.cr_grammar.specs.Forms.{Form, nothing, ◌>>=◌, ◌>>◌, maybe, many, word}
use Rattle.cr_grammar.specs.Operators as o
use Rattle.cr_grammar.specs.Same.{unplaced}
use Rattle.cr_grammar.specs.Expressions as ex
use Rattle.cr_pieces.specs.Pieces.{Piece, Blank, Put}
use Rattle.cr_pieces.specs.Fits.{spaced_behind}
use Rattle.cr_pretty.specs.Layout as y
use Rattle.cr_pretty.specs.Layout.{Laid, laid, bare, space, if_look, while_look}
use Rattle.cr_pretty.proofs.Laid as of
use Rattle.cr_round_trip.proofs.Known.{All, Any, IsLocal}
use Rattle.cr_round_trip.proofs.Closed.{IsReceive}
use Rattle.cr_round_trip.proofs.Fit.{pieces_assoc}
use Rattle.cr_round_trip.proofs.Unplaced as un
use Rattle.cr_round_trip.proofs.Reading.{Scheme, Reads, Like, AllLike, AnyLike, via, up, as_pieces, then, gives, on, on_word, on_name, on_exactly, spaced, one_of, other, closely, none, some_one, no_seps, at_tight}
use Rattle.cr_round_trip.proofs.Values.{begins_plainly, Value, value_by, as_primary, as_simple, as_argument, as_operand, or_of_postfix, closes_behind, operand_closes}
use Rattle.cr_round_trip.proofs.Lines.{Each, AnyAllLike, Ended, statements_each, then_last, listed_reads, in_parentheses_reads, body_lines, rotated, body_reads, clause_lines, rotated_clauses, many_clauses, some_clauses, else_body, rotated_else, otherwise_reads, line_body_end, ending}
use Rattle.cr_round_trip.proofs.TypesRead.{Typed, types_each}

-- ---- `while` and `until`

looping_reads : (within : Within) (seen : TokenLook) (at : ℕ) (until : Bool) (condition : Tree) (list : List Tree) → Value (in_loop within) condition → All (Value (in_loop within)) list → (level : ℕ) (s : Bool)
    → Reads (λ S. ex.looping_of S within true seen until) (Like (tree.While at until condition list)) s (y.word seen ∷ space ∷ (bare level (laid condition) ++ y.body level (map laid list)))
looping_reads within seen at until condition list hc hl level s =
    let ps = bare level (laid condition) in let qs = y.body level (map laid list) in
    on_word seen (space ∷ (ps ++ qs)) (λ place. spaced 1 (ps ++ qs) (then ps qs (as_simple (in_loop within) condition hc level true)
    (λ c p. line_body_end (λ S. S (Stmt (in_loop within))) level list (statements_each (in_loop within) (suc level) list hl) (λ zs. tree.While place until c zs) (Like (tree.While at until condition list)) (λ zs q. simp (un.constructs, p, q)) (spaced_behind true ps))))

pub while_read : (within : Within) (at : ℕ) (until : Bool) (condition : Tree) (list : List Tree) → Value (in_loop within) condition → All (Value (in_loop within)) list → Value within (tree.While at until condition list)
while_read within at until condition list hc hl = value_by within (tree.While at until condition list) (of.of_while at until condition list) (record {
  reads = λ level s. via (or_of_postfix within) (as_primary within {F = λ S. ex.looping S within true} (λ S w x f. inr (inr (inr (inr (inr (inr (inr (inr (inr (inr (inr (inr (inr (inr (inl f))))))))))))))) (by_word until level s));
  closes = λ level s. closes_behind true (bare level (laid condition)) (y.body level (map laid list)) (λ t. closes_behind t (y.lines (suc level) (map laid list)) (y.end_line level) (λ u. refl));
  plain = λ shape level. plainly until level;
})
  where
    by_word : (t : Bool) (level : ℕ) (s : Bool) → Reads (λ S. ex.looping S within true) (Like (tree.While at t condition list)) s (y.word (while_look t) ∷ space ∷ (bare level (laid condition) ++ y.body level (map laid list)))
    by_word true level s = other (looping_reads within l.Until at true condition list hc hl level s)
    by_word false level s = one_of (looping_reads within l.While at false condition list hc hl level s)

    plainly : (t : Bool) (level : ℕ) → begins_plainly (y.word (while_look t) ∷ space ∷ (bare level (laid condition) ++ y.body level (map laid list))) ≡ true
    plainly true level = refl
    plainly false level = refl

-- ---- `if` and `unless`

pub record BranchRead (within : Within) (x : Tree) : Type 0 where
  pub reads : (level : ℕ) (s : Bool) → Reads (λ S. ex.elsif S within true) (Like x) s (Ended level (laid x))

-- the end of a line in place of `then`
on_then : {B : Type 0} {G : (Wanted → Form Tree) → ℕ → Form B} {Q : B → Type 0} {s : Bool} (qs : List Piece) → ((at : ℕ) → Reads (λ S. G S at) Q true qs) → Reads (λ S. ex.then S >>= G S) Q s (y.word l.Newline ∷ qs)
on_then qs h = on (k.Plain l.Newline) qs (λ t. t.span.first) (λ S t is. inl (t, refl, (ap look_of is, refl))) (λ t. h t.span.first)

-- the statements of a clause, with the end of the last line
pub clause_body : (within : Within) {P : Tree → Type 0} (level : ℕ) (list : List Tree) (make : List Tree → Tree) → All (Value within) list → ((zs : List Tree) → AllLike list zs → P (make zs)) → (s : Bool)
    → Reads (λ S. ex.then S >>= (λ at. ex.body S within >>= (λ zs. nothing (make zs)))) P s (y.lines (suc level) (map laid list) ++ y.word l.Newline ∷ [])
clause_body within level list make hl h s =
    let ps = body_lines (suc level) (map laid list) in
    as_pieces (y.lines (suc level) (map laid list) ++ y.word l.Newline ∷ []) (y.word l.Newline ∷ (ps ++ [])) (rotated (suc level) (map laid list) [])
    (on_then (ps ++ []) (λ at. then ps [] (body_reads (λ S. S (Stmt within)) (suc level) list (statements_each within (suc level) list hl) true) (λ zs q. gives (make zs) (h zs q))))

pub branch_read : (within : Within) (at : ℕ) (condition : Tree) (list : List Tree) → Value within condition → All (Value within) list → BranchRead within (tree.Branch at condition list)
branch_read within at condition list hc hl = record {
  reads = λ level s.
      let ps = bare level (laid condition) in let qs = y.lines (suc level) (map laid list) in
      subst (λ (v : Laid). Reads (λ S. ex.elsif S within true) (Like (tree.Branch at condition list)) s (Ended level v)) (sym (of.of_branch at condition list))
      (on_word l.Elsif (space ∷ ((ps ++ qs) ++ y.word l.Newline ∷ [])) (λ place. spaced 1 ((ps ++ qs) ++ y.word l.Newline ∷ []) (as_pieces ((ps ++ qs) ++ y.word l.Newline ∷ []) (ps ++ (qs ++ y.word l.Newline ∷ [])) (pieces_assoc ps qs (y.word l.Newline ∷ []))
      (then ps (qs ++ y.word l.Newline ∷ []) (as_simple within condition hc level true) (λ c p. clause_body within level list (λ zs. tree.Branch place c zs) hl (λ zs q. simp (un.constructs, p, q)) (spaced_behind true ps))))));
}

branches_each : (within : Within) (level : ℕ) (xs : List Tree) → All (BranchRead within) xs → Each (λ S. ex.elsif S within true) (Ended level) xs
branches_each within level [] h = tt
branches_each within level (x ∷ xs) h = ((h.0).reads level, branches_each within level xs h.1)

same_if : (at place : ℕ) (unless : Bool) (c z : Tree) (list zs others os : List Tree) (last ws : Option (List Tree)) → Like c z → AllLike list zs → AllLike others os → AnyAllLike last ws
    → Like (tree.If at unless c list others last) (tree.If place unless z zs os ws)
same_if at place unless c z list zs others os last ws hc hl ho hw =
    un.of_if place unless z zs os ws ∙ ap (λ (v : Tree). tree.If 0 unless v (map unplaced zs) (map unplaced os) (option_map (map unplaced) ws)) hc ∙ ap (λ (v : List Tree). tree.If 0 unless (unplaced c) v (map unplaced os) (option_map (map unplaced) ws)) hl
    ∙ ap (λ (v : List Tree). tree.If 0 unless (unplaced c) (map unplaced list) v (option_map (map unplaced) ws)) ho ∙ ap (λ (v : Option (List Tree)). tree.If 0 unless (unplaced c) (map unplaced list) (map unplaced others) v) hw ∙ sym (un.of_if at unless c list others last)

module _ (within : Within) (at : ℕ) (condition : Tree) (list others : List Tree) (otherwise : Option (List Tree)) (hc : Value within condition) (hl : All (Value within) list) (hw : Any (All (Value within)) otherwise) where
  abbrev if_pieces : ℕ → List Piece
  if_pieces level = bare level (laid condition) ++ (y.lines (suc level) (map laid list) ++ (y.lines level (map laid others) ++ (y.else_lines level (option_map (map laid) otherwise) ++ y.end_line level)))

  conditional_reads : (seen : TokenLook) (unless : Bool) (elsifs : Scheme (List Tree)) (level : ℕ) → ((s : Bool) → Reads elsifs (AllLike others) s (clause_lines level (map laid others))) → (s : Bool)
      → Reads (λ S. ex.conditional_of S within true seen unless (elsifs S)) (Like (tree.If at unless condition list others otherwise)) s (y.word seen ∷ space ∷ if_pieces level)
  conditional_reads seen unless elsifs level branches s =
      let ps = bare level (laid condition) in let statements = body_lines (suc level) (map laid list) in let clauses = clause_lines level (map laid others) in let last = else_body level (option_map (map laid) otherwise) in
      let ends : List Piece = Blank (2 * level) ∷ y.word l.KeywordEnd ∷ [] in
      let e : y.lines (suc level) (map laid list) ++ (y.lines level (map laid others) ++ (y.else_lines level (option_map (map laid) otherwise) ++ y.end_line level)) ≡ y.word l.Newline ∷ (statements ++ (clauses ++ (last ++ ends))) =
      ap (λ (v : List Piece). y.lines (suc level) (map laid list) ++ (y.lines level (map laid others) ++ v)) (rotated_else level (option_map (map laid) otherwise) ends)
      ∙ ap (λ (v : List Piece). y.lines (suc level) (map laid list) ++ v) (rotated_clauses level (map laid others) (last ++ ends)) ∙ rotated (suc level) (map laid list) (clauses ++ (last ++ ends)) in
      on_word seen (space ∷ if_pieces level) (λ place. spaced 1 (if_pieces level) (as_pieces (if_pieces level) (ps ++ (y.word l.Newline ∷ (statements ++ (clauses ++ (last ++ ends))))) (ap (λ (v : List Piece). ps ++ v) e)
      (then ps (y.word l.Newline ∷ (statements ++ (clauses ++ (last ++ ends)))) (as_simple within condition hc level true) (λ c p. on_then (statements ++ (clauses ++ (last ++ ends))) (λ place'.
      then statements (clauses ++ (last ++ ends)) (body_reads (λ S. S (Stmt within)) (suc level) list (statements_each within (suc level) list hl) true) (λ zs q.
      then clauses (last ++ ends) (branches (spaced_behind true statements)) (λ os r. then last ends (otherwise_reads within level otherwise hw (spaced_behind (spaced_behind true statements) clauses)) (λ ws t.
      ending level (tree.If place unless c zs os ws) (same_if at place unless condition c list zs others os otherwise ws p q r t)))))))))

  if_reads : All (BranchRead within) others → (level : ℕ) (s : Bool) → Reads (λ S. ex.conditional S within true) (Like (tree.If at false condition list others otherwise)) s (y.word l.If ∷ space ∷ if_pieces level)
  if_reads ho level s = one_of (conditional_reads l.If false (λ S. many (ex.elsif S within true)) level (many_clauses (λ S. ex.elsif S within true) level others (branches_each within level others ho)) s)

  if_closes : (level : ℕ) → spaced_behind true (if_pieces level) ≡ false
  if_closes level = closes_behind true (bare level (laid condition)) _ (λ t. closes_behind t (y.lines (suc level) (map laid list)) _ (λ u. closes_behind u (y.lines level (map laid others)) _ (λ v. closes_behind v (y.else_lines level (option_map (map laid) otherwise)) (y.end_line level) (λ w. refl))))

unless_reads : (within : Within) (at : ℕ) (condition : Tree) (list : List Tree) (otherwise : Option (List Tree)) (hc : Value within condition) (hl : All (Value within) list) (hw : Any (All (Value within)) otherwise) (level : ℕ) (s : Bool)
    → Reads (λ S. ex.conditional S within true) (Like (tree.If at true condition list [] otherwise)) s (y.word l.Unless ∷ space ∷ if_pieces within at condition list [] otherwise hc hl hw level)
unless_reads within at condition list otherwise hc hl hw level s = other (conditional_reads within at condition list [] otherwise hc hl hw l.Unless true (λ S. nothing []) level (λ t. gives [] refl) s)

pub if_read : (within : Within) (at : ℕ) (unless : Bool) (condition : Tree) (list others : List Tree) (otherwise : Option (List Tree)) → Value within condition → All (Value within) list → All (BranchRead within) others
    → (unless ≡ true → others ≡ []) → Any (All (Value within)) otherwise → Value within (tree.If at unless condition list others otherwise)
if_read within at false condition list others otherwise hc hl ho none hw = value_by within (tree.If at false condition list others otherwise) (of.of_if at false condition list others otherwise) (record {
  reads = λ level s. as_primary within {F = λ S. ex.conditional S within true} (λ S w x f. inr (inr (inr (inr (inr (inr (inr (inr (inr (inr (inr (inr (inr (inl f)))))))))))))) (if_reads within at condition list others otherwise hc hl hw ho level s);
  closes = λ level s. if_closes within at condition list others otherwise hc hl hw level;
  plain = λ shape level. absurd cc;
})
if_read within at true condition list [] otherwise hc hl ho none hw = value_by within (tree.If at true condition list [] otherwise) (of.of_if at true condition list [] otherwise) (record {
  reads = λ level s. as_primary within {F = λ S. ex.conditional S within true} (λ S w x f. inr (inr (inr (inr (inr (inr (inr (inr (inr (inr (inr (inr (inr (inl f)))))))))))))) (unless_reads within at condition list otherwise hc hl hw level s);
  closes = λ level s. if_closes within at condition list [] otherwise hc hl hw level;
  plain = λ shape level. absurd cc;
})
if_read within at true condition list (x ∷ xs) otherwise hc hl ho none hw = absurd (let no = none refl in cc)

-- ---- `case`

pub record ClauseRead (within : Within) (x : Tree) : Type 0 where
  pub reads : (level : ℕ) (s : Bool) → Reads (λ S. ex.in_clause S within true) (Like x) s (Ended level (laid x))

pub clause_read : (within : Within) (at : ℕ) (type : Tree) (types list : List Tree) → Typed false type → All (Typed false) types → All (Value within) list → ClauseRead within (tree.In at (type ∷ types) list)
clause_read within at type types list ht hts hl = record {
  reads = λ level s.
      let ps = y.listed (map (bare level) (map laid (type ∷ types))) in let qs = y.lines (suc level) (map laid list) in
      subst (λ (v : Laid). Reads (λ S. ex.in_clause S within true) (Like (tree.In at (type ∷ types) list)) s (Ended level v)) (sym (of.of_in at (type ∷ types) list))
      (on_word l.In (space ∷ ((ps ++ qs) ++ y.word l.Newline ∷ [])) (λ place. spaced 1 ((ps ++ qs) ++ y.word l.Newline ∷ []) (as_pieces ((ps ++ qs) ++ y.word l.Newline ∷ []) (ps ++ (qs ++ y.word l.Newline ∷ [])) (pieces_assoc ps qs (y.word l.Newline ∷ []))
      (then ps (qs ++ y.word l.Newline ∷ []) (listed_reads (λ S. S (Written false)) (bare level) type types (types_each false level (type ∷ types) (ht, hts)) true)
      (λ ts p. clause_body within level list (λ zs. tree.In place ts zs) hl (λ zs q. same_in place ts zs p q) (spaced_behind true ps))))));
}
  where
    same_in : (place : ℕ) (ts zs : List Tree) → AllLike (type ∷ types) ts → AllLike list zs → Like (tree.In at (type ∷ types) list) (tree.In place ts zs)
    same_in place ts zs p q = un.of_in place ts zs ∙ ap (λ (v : List Tree). tree.In 0 v (map unplaced zs)) p ∙ ap (λ (v : List Tree). tree.In 0 (map unplaced (type ∷ types)) v) q ∙ sym (un.of_in at (type ∷ types) list)

clauses_each : (within : Within) (level : ℕ) (xs : List Tree) → All (ClauseRead within) xs → Each (λ S. ex.in_clause S within true) (Ended level) xs
clauses_each within level [] h = tt
clauses_each within level (x ∷ xs) h = ((h.0).reads level, clauses_each within level xs h.1)

pub case_read : (within : Within) (at : ℕ) (value x : Tree) (xs : List Tree) → Value within value → ClauseRead within x → All (ClauseRead within) xs → Value within (tree.Case at value (x ∷ xs))
case_read within at value x xs hv h hs = value_by within (tree.Case at value (x ∷ xs)) (of.of_case at value (x ∷ xs)) (record {
  reads = λ level s.
      let ps = bare level (laid value) in let clauses = clause_lines level (map laid (x ∷ xs)) in let ends : List Piece = Blank (2 * level) ∷ y.word l.KeywordEnd ∷ [] in let qs = y.lines level (map laid (x ∷ xs)) ++ y.end_line level in
      via (or_of_postfix within) (as_primary within {F = λ S. ex.cases S within true} (λ S w z f. inr (inr (inr (inr (inr (inr (inr (inr (inr (inr (inr (inr (inr (inr (inr (inl f))))))))))))))))
      (on_word l.Case (space ∷ (ps ++ qs)) (λ place. spaced 1 (ps ++ qs) (as_pieces (ps ++ qs) (ps ++ (y.word l.Newline ∷ (clauses ++ ends))) (ap (λ (v : List Piece). ps ++ v) (rotated_clauses level (map laid (x ∷ xs)) ends))
      (then ps (y.word l.Newline ∷ (clauses ++ ends)) (as_simple within value hv level true) (λ c p. on_word l.Newline (clauses ++ ends) (λ place'. no_seps
      (then clauses ends (some_clauses (λ S. ex.in_clause S within true) level x xs (clauses_each within level (x ∷ xs) (h, hs)) true) (λ zs q. ending level (tree.Case place c zs) (same_case place c zs p q))))))))));
  closes = λ level s. closes_behind true (bare level (laid value)) _ (λ t. closes_behind t (y.lines level (map laid (x ∷ xs))) (y.end_line level) (λ u. refl));
  plain = λ shape level. refl;
})
  where
    same_case : (place : ℕ) (c : Tree) (zs : List Tree) → Like value c → AllLike (x ∷ xs) zs → Like (tree.Case at value (x ∷ xs)) (tree.Case place c zs)
    same_case place c zs p q = un.of_case place c zs ∙ ap (λ (v : Tree). tree.Case 0 v (map unplaced zs)) p ∙ ap (λ (v : List Tree). tree.Case 0 (unplaced value) v) q ∙ sym (un.of_case at value (x ∷ xs))
