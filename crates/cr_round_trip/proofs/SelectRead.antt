-- `select` and its clauses are read from their layout.
use Rattle.std.proofs.Common.{◌≡◌, ℕ, suc, ◌*◌, Bool, true, false, List, [], ◌∷◌, ◌++◌, map, Option, Some, None, refl, sym, ap, subst, ◌∙◌, inl, inr}
use Rattle.std.specs.Option.{option_map}
use Rattle.cr_syntax.specs.declared.look.TokenLook.TheVariants as l
use Rattle.cr_syntax.specs.declared.token.Token.{Token}
use Rattle.cr_syntax.specs.declared.token.TokenKind.TheVariants as k
use Rattle.cr_grammar.specs.declared.tree.Tree.{Tree}
use Rattle.cr_grammar.specs.declared.tree.Tree.TheVariants as tree
use Rattle.cr_grammar.specs.declared.within.Within.{Within}
use Rattle.cr_grammar.specs.declared.wanted.Wanted.{Wanted}
use Rattle.cr_grammar.specs.declared.wanted.Wanted.TheVariants.{When, Or}
use Rattle.cr_grammar.specs.Forms.{Form, nothing, ◌>>=◌, ◌>>◌, maybe, word}
use Rattle.cr_grammar.specs.Operators as o
use Rattle.cr_grammar.specs.Same.{unplaced}
use Rattle.cr_grammar.specs.Expressions as ex
use Rattle.cr_grammar.specs.Grammar.{Spells_in}
use Rattle.cr_pieces.specs.Pieces.{Piece, Blank, Put}
use Rattle.cr_pieces.specs.Fits.{spaced_behind}
use Rattle.cr_pretty.specs.Layout as y
use Rattle.cr_pretty.specs.Layout.{Laid, laid, bare, argument, operand, space}
use Rattle.cr_pretty.proofs.Laid as of
use Rattle.cr_round_trip.proofs.Known.{All, Any, IsLocal}
use Rattle.cr_round_trip.proofs.Closed.{IsReceive}
use Rattle.cr_round_trip.proofs.Fit.{pieces_assoc, pieces_nil}
use Rattle.cr_round_trip.proofs.Unplaced as un
use Rattle.cr_round_trip.proofs.Reading.{Scheme, Reads, Like, AllLike, AnyLike, via, up, as_pieces, then, gives, on_word, on_name, on_exactly, spaced, one_of, other, closely, none, some_one, skip, no_seps}
use Rattle.cr_round_trip.proofs.Values.{Value, value_by, as_primary, as_argument, as_operand, or_of_postfix, closes_behind}
use Rattle.cr_round_trip.proofs.Lines.{Each, AnyAllLike, Ended, then_last, in_parentheses_reads, clause_lines, rotated_clauses, some_clauses, else_body, rotated_else, otherwise_reads, ending}
use Rattle.cr_round_trip.proofs.CallsRead.{same_call, some_like}
use Rattle.cr_round_trip.proofs.CompoundsRead.{clause_body}

pub record WhenRead (within : Within) (x : Tree) : Type 0 where
  pub reads : (level : ℕ) (s : Bool) → Reads (λ S. S (When within true)) (Like x) s (Ended level (laid x))

whens_each : (within : Within) (level : ℕ) (xs : List Tree) → All (WhenRead within) xs → Each (λ S. S (When within true)) (Ended level) xs
whens_each within level [] h = tt
whens_each within level (x ∷ xs) h = ((h.0).reads level, whens_each within level xs h.1)

-- ---- operations on channels

receive_reads : (within : Within) (place : ℕ) (channel : Tree) (name : List ℕ) → Value within channel → IsReceive name → (level : ℕ) (s : Bool)
    → Reads (λ S. ex.receive S within true) (Like (tree.Call place (Some channel) name [] None)) s (bare level (laid (tree.Call place (Some channel) name [] None)))
receive_reads within place channel name hc is level s =
    let ps = operand level (laid channel) in
    subst (λ (v : Laid). Reads (λ S. ex.receive S within true) (Like (tree.Call place (Some channel) name [] None)) s (bare level v)) (sym (of.of_call place (Some channel) name [] None))
    (as_pieces ((ps ++ y.word l.Dot ∷ []) ++ Put (k.Ident name) ∷ []) (ps ++ (y.word l.Dot ∷ Put (k.Ident name) ∷ [])) (pieces_assoc ps (y.word l.Dot ∷ []) (Put (k.Ident name) ∷ []))
    (then ps (y.word l.Dot ∷ Put (k.Ident name) ∷ []) (as_operand within channel hc level s) (λ z p. on_word l.Dot (Put (k.Ident name) ∷ []) (λ at. on_name (λ text. k.Ident text) name [] (λ at'.
    record { found = λ w b. record { result = tree.Call at' (Some z) name [] None; passes = same_call place at' (Some channel) (Some z) name [] [] None None (some_like channel z p) refl refl; depth = 0; spells = λ m le. (is, (b, refl)) } })))))

send_reads : (within : Within) (place : ℕ) (channel x : Tree) → Value within channel → Value within x → (level : ℕ) (s : Bool)
    → Reads (λ S. ex.send S within true) (Like (tree.Call place (Some channel) o.send_name (x ∷ []) None)) s (bare level (laid (tree.Call place (Some channel) o.send_name (x ∷ []) None)))
send_reads within place channel x hc hx level s =
    let ps = operand level (laid channel) in let one = argument level (laid x) in
    let args : List Piece = y.parenthesized (one ++ []) ++ [] in
    let e : args ≡ y.parenthesized one = pieces_nil (y.parenthesized (one ++ [])) ∙ ap y.parenthesized (pieces_nil one) in
    let behind : List Piece = y.word l.Dot ∷ Put (k.Ident o.send_name) ∷ args in
    subst (λ (v : Laid). Reads (λ S. ex.send S within true) (Like (tree.Call place (Some channel) o.send_name (x ∷ []) None)) s (bare level v)) (sym (of.of_call place (Some channel) o.send_name (x ∷ []) None))
    (as_pieces ((ps ++ y.word l.Dot ∷ []) ++ Put (k.Ident o.send_name) ∷ args) (ps ++ behind) (pieces_assoc ps (y.word l.Dot ∷ []) (Put (k.Ident o.send_name) ∷ args))
    (then ps behind (as_operand within channel hc level s) (λ z p. on_word l.Dot (Put (k.Ident o.send_name) ∷ args) (λ at. on_exactly (k.Ident o.send_name) args (λ at'.
    then_last args (as_pieces args (y.parenthesized one) e (closely (k.Plain l.OpenParenthesis) (one ++ y.word l.CloseParenthesis ∷ []) (in_parentheses_reads one (as_argument within x hx level false))))
    (λ v q. gives (tree.Call at' (Some z) o.send_name (v ∷ []) None) (same_call place at' (Some channel) (Some z) o.send_name (x ∷ []) (v ∷ []) None None (some_like channel z p) (ap (λ (w : Tree). w ∷ []) q) refl)))))))

-- ---- clauses

same_when : (at place : ℕ) (t u : Option Tree) (op z : Tree) (list zs : List Tree) → AnyLike t u → Like op z → AllLike list zs → Like (tree.When at t op list) (tree.When place u z zs)
same_when at place t u op z list zs ht ho hl =
    un.of_when place u z zs ∙ ap (λ (v : Option Tree). tree.When 0 v (unplaced z) (map unplaced zs)) ht ∙ ap (λ (v : Tree). tree.When 0 (option_map unplaced t) v (map unplaced zs)) ho ∙ ap (λ (v : List Tree). tree.When 0 (option_map unplaced t) (unplaced op) v) hl ∙ sym (un.of_when at t op list)

-- what is received into a local
into_reads : (within : Within) (level : ℕ) (x : Tree) → IsLocal x → (s : Bool) → Reads (λ S. ex.received_into S within true) (Like x) s (bare level (laid x) ++ space ∷ y.word l.Equal ∷ [])
into_reads within level x is s =
    subst (λ (v : Laid). Reads (λ S. ex.received_into S within true) (Like x) s (bare level v ++ space ∷ y.word l.Equal ∷ [])) (sym (ap laid is.is ∙ of.of_call is.at None is.name [] None))
    (on_name (λ text. k.Ident text) is.name (space ∷ y.word l.Equal ∷ []) (λ at. spaced 1 (y.word l.Equal ∷ []) (on_word l.Equal [] (λ at'. gives (tree.Call at None is.name [] None)
    (same_call is.at at None None is.name [] [] None None refl refl refl ∙ sym (ap unplaced is.is))))))

module _ (within : Within) (at : ℕ) (operation : Tree) (list : List Tree) (hl : All (Value within) list) (R : Scheme Tree) (reads : (level : ℕ) (s : Bool) → Reads R (Like operation) s (bare level (laid operation))) where
  abbrev behind_target : ℕ → List Piece
  behind_target level = bare level (laid operation) ++ y.lines (suc level) (map laid list)

  -- the operation and the statements
  rest_reads : (level place : ℕ) (t u : Option Tree) → AnyLike t u → (s : Bool)
      → Reads (λ S. R S >>= (λ z. ex.then S >>= (λ at'. ex.body S within >>= (λ zs. nothing (tree.When place u z zs))))) (Like (tree.When at t operation list)) s (behind_target level ++ y.word l.Newline ∷ [])
  rest_reads level place t u ht s =
      let ps = bare level (laid operation) in let qs = y.lines (suc level) (map laid list) in
      as_pieces ((ps ++ qs) ++ y.word l.Newline ∷ []) (ps ++ (qs ++ y.word l.Newline ∷ [])) (pieces_assoc ps qs (y.word l.Newline ∷ []))
      (then ps (qs ++ y.word l.Newline ∷ []) (reads level s) (λ z p. clause_body within level list (λ zs. tree.When place u z zs) hl (λ zs q. same_when at place t u operation z list zs ht p q) (spaced_behind s ps)))

  without_target : (into : Scheme (Option Tree)) → ((S : Wanted → Form Tree) → into S [] None) → (level : ℕ) (s : Bool) → Reads (λ S. ex.when_of S within true (into S) (R S)) (Like (tree.When at None operation list)) s (Ended level (laid (tree.When at None operation list)))
  without_target into missing level s =
      subst (λ (v : Laid). Reads (λ S. ex.when_of S within true (into S) (R S)) (Like (tree.When at None operation list)) s (Ended level v)) (sym (of.of_when at None operation list))
      (on_word l.When (space ∷ (behind_target level ++ y.word l.Newline ∷ [])) (λ place. spaced 1 (behind_target level ++ y.word l.Newline ∷ []) (then {P = λ (z : Option Tree). z ≡ None} [] (behind_target level ++ y.word l.Newline ∷ [])
      (record { found = λ w b. record { result = None; passes = refl; depth = 0; spells = λ m le. subst (λ (v : List Token). into (Spells_in m) v None) (sym b) (missing (Spells_in m)) } })
      (λ u e. subst (λ (v : Option Tree). Reads (λ S. R S >>= (λ z. ex.then S >>= (λ at'. ex.body S within >>= (λ zs. nothing (tree.When place v z zs))))) (Like (tree.When at None operation list)) true (behind_target level ++ y.word l.Newline ∷ [])) (sym e)
      (rest_reads level place None None refl true)))))

  with_target : (x : Tree) → IsLocal x → (level : ℕ) (s : Bool) → Reads (λ S. ex.when_of S within true (maybe (ex.received_into S within true)) (R S)) (Like (tree.When at (Some x) operation list)) s (Ended level (laid (tree.When at (Some x) operation list)))
  with_target x is level s =
      let into : List Piece = bare level (laid x) ++ space ∷ y.word l.Equal ∷ [] in
      let all = (bare level (laid x) ++ space ∷ y.word l.Equal ∷ space ∷ []) ++ behind_target level in
      let e : all ++ y.word l.Newline ∷ [] ≡ into ++ (space ∷ (behind_target level ++ y.word l.Newline ∷ [])) =
      pieces_assoc (bare level (laid x) ++ space ∷ y.word l.Equal ∷ space ∷ []) (behind_target level) (y.word l.Newline ∷ []) ∙ pieces_assoc (bare level (laid x)) (space ∷ y.word l.Equal ∷ space ∷ []) (behind_target level ++ y.word l.Newline ∷ [])
      ∙ sym (pieces_assoc (bare level (laid x)) (space ∷ y.word l.Equal ∷ []) (space ∷ (behind_target level ++ y.word l.Newline ∷ []))) in
      subst (λ (v : Laid). Reads (λ S. ex.when_of S within true (maybe (ex.received_into S within true)) (R S)) (Like (tree.When at (Some x) operation list)) s (Ended level v)) (sym (of.of_when at (Some x) operation list))
      (on_word l.When (space ∷ (all ++ y.word l.Newline ∷ [])) (λ place. spaced 1 (all ++ y.word l.Newline ∷ []) (as_pieces (all ++ y.word l.Newline ∷ []) (into ++ (space ∷ (behind_target level ++ y.word l.Newline ∷ []))) e
      (then {P = AnyLike (Some x)} into (space ∷ (behind_target level ++ y.word l.Newline ∷ [])) (some_one {P = Like x} (λ z q. some_like x z q) (into_reads within level x is true))
      (λ u h. spaced 1 (behind_target level ++ y.word l.Newline ∷ []) (rest_reads level place (Some x) u h true))))))

pub receives_read : (within : Within) (at : ℕ) (into : Option Tree) (place : ℕ) (channel : Tree) (name : List ℕ) (list : List Tree) → Any IsLocal into → Value within channel → IsReceive name → All (Value within) list
    → WhenRead within (tree.When at into (tree.Call place (Some channel) name [] None) list)
receives_read within at None place channel name list hi hc is hl = record {
  reads = λ level s. up (When within true) (one_of
      (without_target within at (tree.Call place (Some channel) name [] None) list hl (λ S. ex.receive S within true) (receive_reads within place channel name hc is) (λ S. maybe (ex.received_into S within true)) (λ S. refl) level s));
}
receives_read within at (Some x) place channel name list hi hc is hl = record {
  reads = λ level s. up (When within true) (one_of
      (with_target within at (tree.Call place (Some channel) name [] None) list hl (λ S. ex.receive S within true) (receive_reads within place channel name hc is) x hi level s));
}

pub sends_read : (within : Within) (at place : ℕ) (channel x : Tree) (list : List Tree) → Value within channel → Value within x → All (Value within) list → WhenRead within (tree.When at None (tree.Call place (Some channel) o.send_name (x ∷ []) None) list)
sends_read within at place channel x list hc hx hl = record {
  reads = λ level s. up (When within true) (other
      (without_target within at (tree.Call place (Some channel) o.send_name (x ∷ []) None) list hl (λ S. ex.send S within true) (send_reads within place channel x hc hx) (λ S. nothing None) (λ S. (refl, refl)) level s));
}

-- ---- `select`

pub select_read : (within : Within) (at : ℕ) (x : Tree) (xs : List Tree) (otherwise : Option (List Tree)) → WhenRead within x → All (WhenRead within) xs → Any (All (Value within)) otherwise → Value within (tree.Select at (x ∷ xs) otherwise)
select_read within at x xs otherwise h hs hw = value_by within (tree.Select at (x ∷ xs) otherwise) (of.of_select at (x ∷ xs) otherwise) (record {
  reads = λ level s.
      let clauses = clause_lines level (map laid (x ∷ xs)) in let last = else_body level (option_map (map laid) otherwise) in let ends : List Piece = Blank (2 * level) ∷ y.word l.KeywordEnd ∷ [] in
      let all = y.lines level (map laid (x ∷ xs)) ++ (y.else_lines level (option_map (map laid) otherwise) ++ y.end_line level) in
      let e : all ≡ y.word l.Newline ∷ (clauses ++ (last ++ ends)) =
      ap (λ (v : List Piece). y.lines level (map laid (x ∷ xs)) ++ v) (rotated_else level (option_map (map laid) otherwise) ends) ∙ rotated_clauses level (map laid (x ∷ xs)) (last ++ ends) in
      via (or_of_postfix within) (as_primary within {F = λ S. ex.select S within true} (λ S w z f. inr (inr (inr (inr (inr (inr (inr (inr (inr (inr (inr (inr (inr (inr (inr (inr (f)))))))))))))))))
      (on_word l.Select all (λ place. as_pieces all (y.word l.Newline ∷ (clauses ++ (last ++ ends))) e (on_word l.Newline (clauses ++ (last ++ ends)) (λ place'. no_seps
      (then clauses (last ++ ends) (some_clauses (λ S. S (When within true)) level x xs (whens_each within level (x ∷ xs) (h, hs)) true) (λ zs q. then last ends (otherwise_reads within level otherwise hw (spaced_behind true clauses))
      (λ ws t. ending level (tree.Select place zs ws) (same_select place zs ws q t)))))))));
  closes = λ level s. closes_behind false (y.lines level (map laid (x ∷ xs))) _ (λ t. closes_behind t (y.else_lines level (option_map (map laid) otherwise)) (y.end_line level) (λ u. refl));
  plain = λ shape level. refl;
})
  where
    same_select : (place : ℕ) (zs : List Tree) (ws : Option (List Tree)) → AllLike (x ∷ xs) zs → AnyAllLike otherwise ws → Like (tree.Select at (x ∷ xs) otherwise) (tree.Select place zs ws)
    same_select place zs ws p q = un.of_select place zs ws ∙ ap (λ (v : List Tree). tree.Select 0 v (option_map (map unplaced) ws)) p ∙ ap (λ (v : Option (List Tree)). tree.Select 0 (map unplaced (x ∷ xs)) v) q ∙ sym (un.of_select at (x ∷ xs) otherwise)
