-- Calls and blocks are read from their layout.
use Rattle.std.proofs.Common.{◌≡◌, ◌≢◌, ℕ, zero, suc, ◌+◌, ◌*◌, Bool, true, false, not, List, [], ◌∷◌, ◌++◌, map, Option, Some, None, refl, sym, ap, subst, ◌∙◌, arith, inl, inr}
use Rattle.std.specs.Prelude.{IsTrue, is_some}
use Rattle.std.specs.Option.{option_map}
use Rattle.std.proofs.lemmas.List.{append-nil}
use Rattle.cr_syntax.specs.declared.look.TokenLook.TheVariants as l
use Rattle.cr_syntax.specs.declared.token.Token.{Token}
use Rattle.cr_syntax.specs.declared.token.TokenKind.TheVariants as k
use Rattle.cr_syntax.specs.Look.{look_of}
use Rattle.cr_grammar.specs.declared.tree.Tree.{Tree}
use Rattle.cr_grammar.specs.declared.tree.Tree.TheVariants as tree
use Rattle.cr_grammar.specs.declared.within.Within.{Within}
use Rattle.cr_grammar.specs.declared.word.Atom.{Atom}
use Rattle.cr_grammar.specs.declared.wanted.Wanted.{Wanted}
use Rattle.cr_grammar.specs.declared.wanted.Wanted.TheVariants.{Written, Or, Stmt}
use Rattle.cr_grammar.specs.Wanted.{in_block}
use Rattle.cr_grammar.specs.Forms.{Form, nothing, ◌>>=◌, ◌>>◌, maybe, or_none, repeated_of, word, tight, parenthesized}
use Rattle.cr_grammar.specs.Operators as o
use Rattle.cr_grammar.specs.Same.{unplaced}
use Rattle.cr_grammar.specs.Expressions as ex
use Rattle.cr_grammar.specs.Grammar.{Spells_in}
use Rattle.cr_pieces.specs.Pieces.{Piece, Blank, Put}
use Rattle.cr_pieces.specs.Fits.{spaced_behind, Bears}
use Rattle.cr_pieces.proofs.Joined.{Parted, parted, spaced_append}
use Rattle.cr_pretty.specs.Layout as y
use Rattle.cr_pretty.specs.Layout.{Laid, laid, bare, argument, operand, space}
use Rattle.cr_pretty.proofs.Laid as of
use Rattle.cr_round_trip.proofs.Known.{All, Any, IsPath, IsBlockName}
use Rattle.cr_round_trip.proofs.Fit.{pieces_assoc}
use Rattle.cr_round_trip.proofs.Unplaced as un
use Rattle.cr_round_trip.proofs.Reading.{Scheme, Found, Reads, Like, AllLike, AnyLike, via, as_pieces, then, gives, on_word, on_name, on_exactly, spaced, one_token, one_of, other, under, closely, none, some_one, skip, at_tight, no_seps}
use Rattle.cr_round_trip.proofs.Values.{Shown, Value, value_by, as_primary, as_operand, closes_behind, operand_closes, plain_front, operand_plain}
use Rattle.cr_round_trip.proofs.Lines.{Each, values_each, statements_each, then_last, listed_reads, any_listed, in_parentheses_reads, arguments_read, body_end}
use Rattle.cr_round_trip.proofs.TypesRead.{Typed, IsClass, class_reads}

-- ---- one link more

pub tokens_assoc : (u v w : List Token) → (u ++ v) ++ w ≡ u ++ (v ++ w)
tokens_assoc [] v w = refl
tokens_assoc (t ∷ u) v w = ap (λ (p : List Token). t ∷ p) (tokens_assoc u v w)

once_more : (R : Tree → Form Tree) (n : ℕ) (x y z : Tree) (a b : List Token) → repeated_of n R x a y → R y b z → repeated_of (suc n) R x (a ++ b) z
once_more R zero x y z a b (nil, same) r =
    subst (λ (v : List Token). repeated_of 1 R x (v ++ b) z) (sym nil) (b, [], z, sym (append-nil b), subst (λ (q : Tree). R q b z) same r, (refl, refl))
once_more R (suc n) x y z a b (c, d, q, e, first, rest) r = (c, d ++ b, q, ap (λ (v : List Token). v ++ b) e ∙ tokens_assoc c d b, first, once_more R n q y z d b rest r)

link_more : (S : Wanted → Form Tree) (within : Within) (a b : List Token) (x z : Tree) → ex.postfix S within true a x → ex.link S within true x b z → ex.postfix S within true (a ++ b) z
link_more S within a b x z (u, v, y, e, primary, (n, more)) link =
    (u, v ++ b, y, ap (λ (p : List Token). p ++ b) e ∙ tokens_assoc u v b, primary, (suc n, once_more (ex.link S within true) n y x z v b more link))

-- a value, and a link behind it
pub linked : (within : Within) {P Q : Tree → Type 0} {s : Bool} (ps qs : List Piece) → Reads (λ S. ex.postfix S within true) P s ps → ((x : Tree) → P x → Reads (λ S. ex.link S within true x) Q (spaced_behind s ps) qs)
    → Reads (λ S. ex.postfix S within true) Q s (ps ++ qs)
linked within {s = s} ps qs r h = record {
  found = λ w b.
      let p = parted s ps qs w b in
      let one = r.found p.front p.bears in
      let rest = (h one.result one.passes).found p.back p.behind in
      record {
        result = rest.result;
        passes = rest.passes;
        depth = one.depth + rest.depth;
        spells = λ m le. subst (λ (z : List Token). ex.postfix (Spells_in m) within true z rest.result) (sym p.whole)
            (link_more (Spells_in m) within p.front p.back one.result rest.result (one.spells m (omega arith)) (rest.spells m (omega arith)));
      };
}

-- ---- blocks

pub record BlockRead (within : Within) (b : Tree) : Type 0 where
  pub reads : (level : ℕ) (s : Bool) → Reads (λ S. ex.doblock S within) (Like b) s (bare level (laid b))
  pub closes : (level : ℕ) (s : Bool) → spaced_behind s (bare level (laid b)) ≡ false

block_names : (level : ℕ) (xs : List Tree) → All IsBlockName xs → Each (λ S. ex.block_parameter S) (bare level) xs
block_names level [] h = tt
block_names level (x ∷ xs) h = (one h.0, block_names level xs h.1)
  where
    one : IsBlockName x → (s : Bool) → Reads (λ S. ex.block_parameter S) (Like x) s (bare level (laid x))
    one is s = subst (λ (v : Laid). Reads (λ S. ex.block_parameter S) (Like x) s (bare level v)) (sym (ap laid is.is ∙ of.of_parameter is.at false is.name None))
        (on_name (λ text. k.Ident text) is.name [] (λ at. gives (tree.Parameter at false is.name None) (un.of_parameter at false is.name None ∙ sym (ap unplaced is.is ∙ un.of_parameter is.at false is.name None))))

pars_read : (level : ℕ) (xs : List Tree) → All IsBlockName xs → (s : Bool) → Reads (λ S. or_none (ex.pars S)) (AllLike xs) s (y.block_parameters level (map laid xs))
pars_read level [] h s = other (gives [] refl)
pars_read level (x ∷ xs) h s =
    let ps = y.listed (map (bare level) (map laid (x ∷ xs))) in
    one_of (spaced 1 (y.word l.Pipe ∷ (ps ++ y.word l.Pipe ∷ [])) (on_word l.Pipe (ps ++ y.word l.Pipe ∷ [])
    (λ at. then ps (y.word l.Pipe ∷ []) (listed_reads (λ S. ex.block_parameter S) (bare level) x xs (block_names level (x ∷ xs) h) false) (λ zs q. on_word l.Pipe [] (λ at'. gives zs q)))))

pub body_closes : (level : ℕ) (list : List Laid) (s : Bool) → spaced_behind s (y.body level list) ≡ false
body_closes level list s = closes_behind s (y.lines (suc level) list) (y.end_line level) (λ t. refl)

pub block_read : (within : Within) (parameters list : List Tree) → All IsBlockName parameters → All (Value (in_block within)) list → BlockRead within (tree.Block parameters list)
block_read within parameters list hp hl = record {
  reads = λ level s. subst (λ (v : Laid). Reads (λ S. ex.doblock S within) (Like (tree.Block parameters list)) s (bare level v)) (sym (of.of_block parameters list)) (reads level s);
  closes = λ level s. subst (λ (v : Laid). spaced_behind s (bare level v) ≡ false) (sym (of.of_block parameters list))
      (closes_behind false (y.block_parameters level (map laid parameters)) (y.body level (map laid list)) (body_closes level (map laid list)));
}
  where
    reads : (level : ℕ) (s : Bool) → Reads (λ S. ex.doblock S within) (Like (tree.Block parameters list)) s (y.word l.Do ∷ (y.block_parameters level (map laid parameters) ++ y.body level (map laid list)))
    reads level s =
        let ps = y.block_parameters level (map laid parameters) in let qs = y.body level (map laid list) in
        on_word l.Do (ps ++ qs) (λ at. then ps qs (pars_read level parameters hp false)
        (λ names hn. body_end (λ S. S (Stmt (in_block within))) level list (statements_each (in_block within) (suc level) list hl) (λ zs. tree.Block names zs) (Like (tree.Block parameters list)) (λ zs hz. simp (un.constructs, hn, hz)) (spaced_behind false ps)))

-- a block without names
pub plain_read : (within : Within) (level : ℕ) (list : List Tree) → All (Value (in_block within)) list → (s : Bool) → Reads (λ S. ex.plain S within true) (AllLike list) s (y.word l.Do ∷ y.body level (map laid list))
plain_read within level list hl s = other (under refl (on_word l.Do (y.body level (map laid list))
    (λ at. body_end (λ S. S (Stmt (in_block within))) level list (statements_each (in_block within) (suc level) list hl) (λ zs. zs) (AllLike list) (λ zs hz. hz) false)))

-- ---- arguments and a block

maybe_block : (within : Within) (level : ℕ) (b : Option Tree) → Any (BlockRead within) b → (s : Bool) → Reads (λ S. maybe (ex.block S within true)) (AnyLike b) s (y.block level (option_map laid b))
maybe_block within level None h s = none refl
maybe_block within level (Some b) h s = some_one {P = Like b} (λ z q. ap (λ (v : Tree). Some v) q) (spaced 1 (bare level (laid b)) (other (under refl (h.reads level true))))

pub arguments_close : (level : ℕ) (xs : List Laid) → spaced_behind false (y.arguments level xs) ≡ false
arguments_close level [] = refl
arguments_close level (x ∷ xs) = closes_behind false (y.listed (map (argument level) (x ∷ xs))) (y.word l.CloseParenthesis ∷ []) (λ t. refl)

pub block_closes : (within : Within) (level : ℕ) (b : Option Tree) → Any (BlockRead within) b → spaced_behind false (y.block level (option_map laid b)) ≡ false
block_closes within level None h = refl
block_closes within level (Some b) h = h.closes level true

abbrev pub ends_of : ℕ → List Tree → Option Tree → List Piece
ends_of level xs b = y.arguments level (map laid xs) ++ y.block level (option_map laid b)

pub ends_close : (within : Within) (level : ℕ) (xs : List Tree) (b : Option Tree) → Any (BlockRead within) b → spaced_behind false (ends_of level xs b) ≡ false
ends_close within level xs b h =
    spaced_append false (y.arguments level (map laid xs)) (y.block level (option_map laid b)) ∙ ap (λ (t : Bool). spaced_behind t (y.block level (option_map laid b))) (arguments_close level (map laid xs)) ∙ block_closes within level b h

module _ (within : Within) (level : ℕ) (xs : List Tree) (b : Option Tree) (hs : All (Value within) xs) (hb : Any (BlockRead within) b) (make : List Tree → Option Tree → Tree) (P : Tree → Type 0)
    (h : (zs : List Tree) (c : Option Tree) → AllLike xs zs → AnyLike b c → P (make zs c)) where
  ends_read : Reads (λ S. ex.arguments S within true >>= (λ zs. maybe (ex.block S within true) >>= (λ c. nothing (make zs c)))) P false (ends_of level xs b)
  ends_read =
      let ps = y.arguments level (map laid xs) in let qs = y.block level (option_map laid b) in
      then ps qs (arguments_read within level xs hs) (λ zs hz. then_last qs (maybe_block within level b hb (spaced_behind false ps)) (λ c hc. gives (make zs c) (h zs c hz hc)))

pub same_call : (at place : ℕ) (r q : Option Tree) (name : List ℕ) (xs zs : List Tree) (b c : Option Tree) → AnyLike r q → AllLike xs zs → AnyLike b c → Like (tree.Call at r name xs b) (tree.Call place q name zs c)
same_call at place r q name xs zs b c hr hx hb =
    un.of_call place q name zs c ∙ ap (λ (v : Option Tree). tree.Call 0 v name (map unplaced zs) (option_map unplaced c)) hr ∙ ap (λ (v : List Tree). tree.Call 0 (option_map unplaced r) name v (option_map unplaced c)) hx
    ∙ ap (λ (v : Option Tree). tree.Call 0 (option_map unplaced r) name (map unplaced xs) v) hb ∙ sym (un.of_call at r name xs b)

pub some_like : (x z : Tree) → Like x z → AnyLike (Some x) (Some z)
some_like x z h = ap (λ (v : Tree). Some v) h

-- ---- calls

-- behind a value, a `.` and more
pub dotted : (within : Within) (x : Tree) {Q : Tree → Type 0} {s : Bool} (level : ℕ) (qs : List Piece) → Value within x → ((z : Tree) → Like x z → Reads (λ S. ex.link S within true z) Q false (y.word l.Dot ∷ qs))
    → Reads (λ S. ex.postfix S within true) Q s ((operand level (laid x) ++ y.word l.Dot ∷ []) ++ qs)
dotted within x {Q} {s} level qs hx h =
    let ps = operand level (laid x) in
    as_pieces ((ps ++ y.word l.Dot ∷ []) ++ qs) (ps ++ (y.word l.Dot ∷ qs)) (pieces_assoc ps (y.word l.Dot ∷ []) qs)
    (linked within ps (y.word l.Dot ∷ qs) (as_operand within x hx level s) (λ z p. at_tight (y.word l.Dot ∷ qs) (operand_closes within x hx level s) (h z p)))

pub call_read : (within : Within) (at : ℕ) (r : Option Tree) (name : List ℕ) (xs : List Tree) (b : Option Tree) → Any (Value within) r → All (Value within) xs → Any (BlockRead within) b → Value within (tree.Call at r name xs b)
call_read within at None name xs b hr hs hb = value_by within (tree.Call at None name xs b) (of.of_call at None name xs b) (record {
  reads = λ level s. as_primary within {F = λ S. ex.named S within true} (λ S w x f. inr (inr (inr (inr (inr (inl f))))))
      (on_name (λ text. k.Ident text) name (ends_of level xs b) (λ place. ends_read within level xs b hs hb (λ zs c. tree.Call place None name zs c) (Like (tree.Call at None name xs b))
      (λ zs c hz hc. same_call at place None None name xs zs b c refl hz hc)));
  closes = λ level s. ends_close within level xs b hb;
  plain = λ shape level. refl;
})
call_read within at (Some x) name xs b hr hs hb = value_by within (tree.Call at (Some x) name xs b) (of.of_call at (Some x) name xs b) (record {
  reads = λ level s. dotted within x level (Put (k.Ident name) ∷ ends_of level xs b) hr (λ z p. one_of (on_word l.Dot (Put (k.Ident name) ∷ ends_of level xs b) (λ place.
      on_name (λ text. k.Ident text) name (ends_of level xs b) (λ place'. ends_read within level xs b hs hb (λ zs c. tree.Call place' (Some z) name zs c) (Like (tree.Call at (Some x) name xs b))
      (λ zs c hz hc. same_call at place' (Some x) (Some z) name xs zs b c (some_like x z p) hz hc)))));
  closes = λ level s. closes_behind s (operand level (laid x) ++ y.word l.Dot ∷ []) (Put (k.Ident name) ∷ ends_of level xs b) (λ t. ends_close within level xs b hb);
  plain = λ shape level. plain_front (operand level (laid x) ++ y.word l.Dot ∷ []) (Put (k.Ident name) ∷ ends_of level xs b) (plain_front (operand level (laid x)) (y.word l.Dot ∷ []) (operand_plain within x hr level));
})
