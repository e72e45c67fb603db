-- Operators are read from their layout.
use Rattle.std.proofs.Common.{◌≡◌, ℕ, zero, suc, ◌+◌, Bool, true, false, cond, not, ◌&&◌, List, [], ◌∷◌, ◌++◌, map, Option, Some, None, refl, sym, ap, subst, ◌∙◌, arith, inl, inr}
use Rattle.std.specs.Prelude.{IsTrue}
use Rattle.std.proofs.lemmas.List.{append-nil}
use Rattle.cr_syntax.specs.declared.look.TokenLook.{TokenLook}
use Rattle.cr_syntax.specs.declared.look.TokenLook.TheVariants as l
use Rattle.cr_syntax.specs.declared.token.Token.{Token}
use Rattle.cr_syntax.specs.declared.token.TokenKind.TheVariants as k
use Rattle.cr_syntax.specs.Look.{look_of}
use Rattle.cr_grammar.specs.declared.operator.Binary.{Binary}
use Rattle.cr_grammar.specs.declared.operator.Binary.TheVariants as binary
use Rattle.cr_grammar.specs.declared.operator.Unary.{Unary}
use Rattle.cr_grammar.specs.declared.operator.Unary.TheVariants as prefix
use Rattle.cr_grammar.specs.declared.tree.Tree.{Tree}
use Rattle.cr_grammar.specs.declared.tree.Tree.TheVariants as tree
use Rattle.cr_grammar.specs.declared.within.Within.{Within}
use Rattle.cr_grammar.specs.declared.wanted.Wanted.{Wanted}
use Rattle.cr_grammar.specs.Forms.{Form, last_look}
use Rattle.cr_grammar.specs.Operators as o
use Rattle.cr_grammar.specs.Same.{unplaced}
use Rattle.cr_grammar.specs.Expressions as ex
use Rattle.cr_grammar.specs.Grammar.{Spells_in}
use Rattle.cr_grammar.proofs.Derive as d
use Rattle.cr_pieces.specs.Pieces.{Piece, Blank, Put}
use Rattle.cr_pieces.specs.Fits.{spaced_behind, Bears}
use Rattle.cr_pieces.proofs.Joined.{Parted, parted}
use Rattle.cr_pretty.specs.Layout as y
use Rattle.cr_pretty.specs.Layout.{Laid, Lay, Operation, laid, space, operand, binary_look}
use Rattle.cr_pretty.proofs.Laid as of
use Rattle.cr_round_trip.proofs.Unplaced as un
use Rattle.cr_round_trip.proofs.Reading.{Scheme, Found, Reads, Like, via, then, gives, on_word, one_of, other}
use Rattle.cr_round_trip.proofs.Values.{Shown, Value, value_by, as_operand, as_unary, as_negated, unary_of_postfix, closes_behind, operand_closes, negated_closes, plain_front, operand_plain}
use Rattle.cr_round_trip.proofs.Lines.{then_last}

-- a spaced token begins what stands behind a blank, so no sign stands before it
second_spaced : (s : Bool) (ps : List Piece) (v : List Token) (t : Token) → s ≡ true → Bears s ps v → o.is_sign (t ∷ v) ≡ false
second_spaced s [] v t e b = subst (λ (u : List Token). o.is_sign (t ∷ u) ≡ false) (sym b) refl
second_spaced s (Blank zero ∷ ps) v t e b = second_spaced s ps v t e b
second_spaced s (Blank (suc n) ∷ ps) v t e b = second_spaced true ps v t refl b
second_spaced s (Put kind ∷ ps) v t e (u, rest, same, is, spaced, b) =
    subst (λ (a : List Token). o.is_sign (t ∷ a) ≡ false) (sym same) (no_sign (o.is_minus (look_of t.kind)) t.spaced u.spaced (spaced ∙ e))
  where
    no_sign : (x y z : Bool) → z ≡ true → (x && y && not z) ≡ false
    no_sign true true true e = refl
    no_sign true false true e = refl
    no_sign false true true e = refl
    no_sign false false true e = refl
    no_sign x y false e = absurd cc

goes_on : (before : TokenLook) (w : List Token) → o.is_sign w ≡ false → IsTrue (o.is_operation before w)
goes_on before w e = by_test (o.is_name before) (o.is_sign w) e
  where
    by_test : (x y : Bool) → y ≡ false → not (x && y) ≡ true
    by_test true false e = refl
    by_test false y e = refl
    by_test true true e = absurd cc

module _ (S : Wanted → Form Tree) (within : Within) where
  abbrev free : Bool
  free = true

  unary_prod : (w : List Token) (x : Tree) → ex.unary S within true w x → ex.prod S within true w x
  unary_prod w x r = d.prod_of_unary S within true w x r

  prod_sum : (w : List Token) (x : Tree) → ex.prod S within true w x → ex.sum S within true w x
  prod_sum w x r = d.lone S within true o.sum_operator (ex.prod S within true) w x r

  sum_shift : (w : List Token) (x : Tree) → ex.sum S within true w x → ex.shift S within true w x
  sum_shift w x r = d.lone S within true o.shift_operator (ex.sum S within true) w x r

  cmp_and : (w : List Token) (x : Tree) → ex.cmp S within true w x → ex.and S within true w x
  cmp_and w x r = d.lone S within true o.and_operator (ex.cmp S within true) w x r

  and_or : (w : List Token) (x : Tree) → ex.and S within true w x → ex.or S within true w x
  and_or w x r = d.lone S within true o.or_operator (ex.and S within true) w x r

  shift_or : (w : List Token) (x : Tree) → ex.shift S within true w x → ex.or S within true w x
  shift_or w x r = and_or w x (cmp_and w x (inl r))

  -- an operator between two operands, each a postfix
  module _ (u : List Token) (t : Token) (v : List Token) (x y : Tree) (rx : ex.postfix S within true u x) (ry : ex.postfix S within true v y) (goes : IsTrue (o.is_operation (last_look u) (t ∷ v))) where
    abbrev Spelled : Binary → Type 0
    Spelled op = ex.or S within true (u ++ t ∷ v) (tree.Binary t.span.first op x y)

    abbrev result : Binary → Tree
    result op = tree.Binary t.span.first op x y

    by_prod : (op : Binary) → o.prod_operator (look_of t.kind) ≡ Some op → Spelled op
    by_prod op e = d.or_of_prod S within true (u ++ t ∷ v) (result op)
        (d.two S within true o.prod_operator (ex.unary S within true) u t v x y op (unary_of_postfix within S u x rx) (unary_of_postfix within S v y ry) e goes)

    px : ex.prod S within true u x
    px = unary_prod u x (unary_of_postfix within S u x rx)

    py : ex.prod S within true v y
    py = unary_prod v y (unary_of_postfix within S v y ry)

    by_sum : (op : Binary) → o.sum_operator (look_of t.kind) ≡ Some op → Spelled op
    by_sum op e = d.or_of_sum S within true (u ++ t ∷ v) (result op) (d.two S within true o.sum_operator (ex.prod S within true) u t v x y op px py e goes)

    by_shift : (op : Binary) → o.shift_operator (look_of t.kind) ≡ Some op → Spelled op
    by_shift op e = shift_or (u ++ t ∷ v) (result op) (d.two S within true o.shift_operator (ex.sum S within true) u t v x y op (prod_sum u x px) (prod_sum v y py) e goes)

    sx : ex.shift S within true u x
    sx = sum_shift u x (prod_sum u x px)

    sy : ex.shift S within true v y
    sy = sum_shift v y (prod_sum v y py)

    by_cmp : (op : Binary) → o.cmp_operator (look_of t.kind) ≡ Some op → Spelled op
    by_cmp op e = and_or (u ++ t ∷ v) (result op) (cmp_and (u ++ t ∷ v) (result op)
        (inr (u, t ∷ v, (x, last_look u), refl, (sx, refl), (t ∷ v, [], (result op, last_look v), sym (append-nil (t ∷ v)), d.once S within true o.cmp_operator (ex.shift S within true) (x, last_look u) t v y op sy e goes, (refl, refl)))))

    by_and : (op : Binary) → o.and_operator (look_of t.kind) ≡ Some op → Spelled op
    by_and op e = and_or (u ++ t ∷ v) (result op) (d.two S within true o.and_operator (ex.cmp S within true) u t v x y op (inl sx) (inl sy) e goes)

    by_or : (op : Binary) → o.or_operator (look_of t.kind) ≡ Some op → Spelled op
    by_or op e = d.two S within true o.or_operator (ex.and S within true) u t v x y op (cmp_and u x (inl sx)) (cmp_and v y (inl sy)) e goes

    pub by_operator : (op : Binary) → look_of t.kind ≡ binary_look op → Spelled op
    by_operator binary.Or e = by_or binary.Or (ap o.or_operator e)
    by_operator binary.And e = by_and binary.And (ap o.and_operator e)
    by_operator binary.Equal e = by_cmp binary.Equal (ap o.cmp_operator e)
    by_operator binary.NotEqual e = by_cmp binary.NotEqual (ap o.cmp_operator e)
    by_operator binary.Less e = by_cmp binary.Less (ap o.cmp_operator e)
    by_operator binary.LessEqual e = by_cmp binary.LessEqual (ap o.cmp_operator e)
    by_operator binary.Greater e = by_cmp binary.Greater (ap o.cmp_operator e)
    by_operator binary.GreaterEqual e = by_cmp binary.GreaterEqual (ap o.cmp_operator e)
    by_operator binary.ShiftLeft e = by_shift binary.ShiftLeft (ap o.shift_operator e)
    by_operator binary.Plus e = by_sum binary.Plus (ap o.sum_operator e)
    by_operator binary.Minus e = by_sum binary.Minus (ap o.sum_operator e)
    by_operator binary.WrappingPlus e = by_sum binary.WrappingPlus (ap o.sum_operator e)
    by_operator binary.WrappingMinus e = by_sum binary.WrappingMinus (ap o.sum_operator e)
    by_operator binary.Star e = by_prod binary.Star (ap o.prod_operator e)
    by_operator binary.SlashSlash e = by_prod binary.SlashSlash (ap o.prod_operator e)
    by_operator binary.Percent e = by_prod binary.Percent (ap o.prod_operator e)
    by_operator binary.WrappingStar e = by_prod binary.WrappingStar (ap o.prod_operator e)

-- ---- binary operators

module _ (within : Within) (at : ℕ) (op : Binary) (a b : Tree) (ha : Value within a) (hb : Value within b) where
  abbrev pieces : ℕ → List Piece
  pieces level = operand level (laid a) ++ space ∷ y.word (y.binary_look op) ∷ space ∷ operand level (laid b)

  binary_reads : (level : ℕ) (s : Bool) → Reads (λ S. ex.or S within true) (Like (tree.Binary at op a b)) s (pieces level)
  binary_reads level s = record { found = λ w bears. by_parts w (parted s (operand level (laid a)) (space ∷ y.word (y.binary_look op) ∷ space ∷ operand level (laid b)) w bears) }
    where
      join : (w u back : List Token) → Found (λ S. ex.postfix S within true) (Like a) u → w ≡ u ++ back → Bears true (y.word (y.binary_look op) ∷ space ∷ operand level (laid b)) back
          → Found (λ S. ex.or S within true) (Like (tree.Binary at op a b)) w
      join w u back fa whole (t, v, e, is, spaced, bears) =
          let fb = (as_operand within b hb level true).found v bears in
          let same : Like (tree.Binary at op a b) (tree.Binary t.span.first op fa.result fb.result) = let p = fa.passes in let q = fb.passes in simp (un.constructs, p, q) in
          record {
            result = tree.Binary t.span.first op fa.result fb.result;
            passes = same;
            depth = fa.depth + fb.depth;
            spells = λ m le. subst (λ (z : List Token). ex.or (Spells_in m) within true z (tree.Binary t.span.first op fa.result fb.result)) (sym (whole ∙ ap (λ (z : List Token). u ++ z) e))
                (by_operator (Spells_in m) within u t v fa.result fb.result (fa.spells m (omega arith)) (fb.spells m (omega arith))
                (goes_on (last_look u) (t ∷ v) (second_spaced true (operand level (laid b)) v t refl bears)) op (ap look_of is));
          }

      by_parts : (w : List Token) → Parted s (operand level (laid a)) (space ∷ y.word (y.binary_look op) ∷ space ∷ operand level (laid b)) w → Found (λ S. ex.or S within true) (Like (tree.Binary at op a b)) w
      by_parts w p = join w p.front p.back ((as_operand within a ha level s).found p.front p.bears) p.whole p.behind

  pub binary_read : Value within (tree.Binary at op a b)
  binary_read = value_by within (tree.Binary at op a b) (of.of_binary at op a b) (record {
    reads = binary_reads;
    closes = λ level s. closes_behind s (operand level (laid a)) (space ∷ y.word (y.binary_look op) ∷ space ∷ operand level (laid b)) (λ t. operand_closes within b hb level true);
    plain = λ shape level. plain_front (operand level (laid a)) (space ∷ y.word (y.binary_look op) ∷ space ∷ operand level (laid b)) (operand_plain within a ha level);
  })

-- ---- operators in front of an operand

pub unary_read : (within : Within) (at : ℕ) (op : Unary) (x : Tree) → Value within x → Value within (tree.Unary at op x)
unary_read within at prefix.Not x h = value_by within (tree.Unary at prefix.Not x) (of.of_unary at prefix.Not x) (record {
  reads = λ level s. via (λ S w z f. d.or_of_unary S within true w z f)
      (one_of (on_word l.Bang (operand level (laid x)) (λ place. then_last (operand level (laid x)) (as_unary within x h level false) (λ z p. gives (tree.Unary place prefix.Not z) (simp (un.constructs, p))))));
  closes = λ level s. operand_closes within x h level false;
  plain = λ shape level. refl;
})
unary_read within at prefix.Negate x h = value_by within (tree.Unary at prefix.Negate x) (of.of_unary at prefix.Negate x) (record {
  reads = λ level s. via (λ S w z f. d.or_of_unary S within true w z f)
      (other (one_of (on_word l.Minus (y.negated (operand level (laid x))) (λ place. then_last (y.negated (operand level (laid x))) (as_negated within x h level false) (λ z p. gives (tree.Unary place prefix.Negate z) (simp (un.constructs, p)))))));
  closes = λ level s. negated_closes within x h level false;
  plain = λ shape level. refl;
})
