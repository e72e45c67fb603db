-- How derivations in the grammar are put together.
use Rattle.std.proofs.Common.{◌≡◌, ℕ, Bool, true, false, List, [], ◌∷◌, ◌++◌, inl, inr, refl, sym}
use Rattle.std.specs.Prelude.{ℤ, IsTrue, Option, Some, None}
use Rattle.std.proofs.lemmas.List.{append-nil}
use Rattle.cr_syntax.specs.declared.look.TokenLook.{TokenLook}
use Rattle.cr_syntax.specs.declared.look.TokenLook.TheVariants as l
use Rattle.cr_syntax.specs.declared.token.Token.{Token}
use Rattle.cr_syntax.specs.declared.token.TokenKind.TheVariants as k
use Rattle.cr_syntax.specs.Look.{look_of}
use Rattle.cr_grammar.specs.declared.operator.Binary.{Binary}
use Rattle.cr_grammar.specs.declared.tree.Tree.{Tree}
use Rattle.cr_grammar.specs.declared.tree.Tree.TheVariants as tree
use Rattle.cr_grammar.specs.declared.within.Within.{Within}
use Rattle.cr_grammar.specs.declared.operator.Assignment.{Assignment}
use Rattle.cr_grammar.specs.Forms.{Form, nothing, ◌>>=◌, ◌>>◌, many, maybe, last_look, place_of, seps, word, listed, parenthesized, stmts}
use Rattle.cr_grammar.specs.Operators as o
use Rattle.cr_grammar.specs.declared.wanted.Wanted.{Wanted}
use Rattle.cr_grammar.specs.declared.wanted.Wanted.TheVariants.{Or, Simple}
use Rattle.cr_grammar.specs.Expressions.{doblock, operations, operator, operation, primary, postfix, unary, prod, sum, cmp, and, or}
use Rattle.cr_grammar.specs.Grammar.{simple, local, assigned, modified}

abbrev pub no_seps : seps [] tt
no_seps = ([], [], [], refl, refl, (refl, refl))

module _ (S : Wanted → Form Tree) (within : Within) (free : Bool) where
  -- an operand with no operation behind it
  pub lone : (table : TokenLook → Option Binary) (R : Form Tree) (w : List Token) (x : Tree) → R w x → operations S within free table R w x
  lone table R w x r = (w, [], (x, last_look w), sym (append-nil w), (r, refl), ([], [], (x, last_look w), refl, (0, (refl, refl)), (refl, refl)))

  -- an operator and its operand, behind an operand
  pub once : (table : TokenLook → Option Binary) (R : Form Tree) (x : Tree × TokenLook) (t : Token) (v : List Token) (y : Tree) (op : Binary)
      → R v y → table (look_of t.kind) ≡ Some op → IsTrue (o.is_operation x.1 (t ∷ v))
      → operation S within free table R x (t ∷ v) (tree.Binary t.span.first op x.0 y, last_look v)
  once table R x t v y op ry e goes =
      let op_read : operator S within free table (t ∷ []) (t.span.first, op) = (t ∷ [], [], (t.span.first, op), refl, (t, refl, (e, refl)), ([], [], tt, refl, no_seps, (refl, refl))) in
      (goes, (t ∷ [], v, (t.span.first, op), refl, op_read, (v, [], (y, last_look v), sym (append-nil v), (ry, refl), (refl, refl))))

  -- an operator between two operands
  pub two : (table : TokenLook → Option Binary) (R : Form Tree) (u : List Token) (t : Token) (v : List Token) (x y : Tree) (op : Binary)
      → R u x → R v y → table (look_of t.kind) ≡ Some op → IsTrue (o.is_operation (last_look u) (t ∷ v))
      → operations S within free table R (u ++ t ∷ v) (tree.Binary t.span.first op x y)
  two table R u t v x y op rx ry e goes =
      let done = once table R (x, last_look u) t v y op ry e goes in (
        u,
        t ∷ v,
        (x, last_look u),
        refl,
        (rx, refl),
        (
          t ∷ v,
          [],
          (tree.Binary t.span.first op x y, last_look v),
          sym (append-nil (t ∷ v)),
          (1, (t ∷ v, [], (tree.Binary t.span.first op x y, last_look v), sym (append-nil (t ∷ v)), done, (refl, refl))),
          (refl, refl),
        ),
      )

  -- two operators of one level group to the left
  pub three : (table : TokenLook → Option Binary) (R : Form Tree) (u : List Token) (t : Token) (v : List Token) (t' : Token) (v' : List Token) (x y z : Tree) (op op' : Binary)
      → R u x → R v y → R v' z → table (look_of t.kind) ≡ Some op → table (look_of t'.kind) ≡ Some op'
      → IsTrue (o.is_operation (last_look u) (t ∷ v)) → IsTrue (o.is_operation (last_look v) (t' ∷ v'))
      → operations S within free table R (u ++ ((t ∷ v) ++ (t' ∷ v'))) (tree.Binary t'.span.first op' (tree.Binary t.span.first op x y) z)
  three table R u t v t' v' x y z op op' rx ry rz e e' goes goes' =
      let first = tree.Binary t.span.first op x y in
      let second = tree.Binary t'.span.first op' first z in (
        u,
        (t ∷ v) ++ (t' ∷ v'),
        (x, last_look u),
        refl,
        (rx, refl),
        (
          (t ∷ v) ++ (t' ∷ v'),
          [],
          (second, last_look v'),
          sym (append-nil _),
          (
            2,
            (
              t ∷ v,
              t' ∷ v',
              (first, last_look v),
              refl,
              once table R (x, last_look u) t v y op ry e goes,
              (t' ∷ v', [], (second, last_look v'), sym (append-nil (t' ∷ v')), once table R (first, last_look v) t' v' z op' rz e' goes', (refl, refl)),
            ),
          ),
          (refl, refl),
        ),
      )

  pub prod_of_unary : (w : List Token) (x : Tree) → unary S within free w x → prod S within free w x
  prod_of_unary w x r = lone o.prod_operator (unary S within free) w x r

  pub or_of_sum : (w : List Token) (x : Tree) → sum S within free w x → or S within free w x
  or_of_sum w x r = lone o.or_operator (and S within free) w x (lone o.and_operator (cmp S within free) w x (inl (lone o.shift_operator (sum S within free) w x r)))

  pub or_of_prod : (w : List Token) (x : Tree) → prod S within free w x → or S within free w x
  or_of_prod w x r = or_of_sum w x (lone o.sum_operator (prod S within free) w x r)

  pub or_of_unary : (w : List Token) (x : Tree) → unary S within free w x → or S within free w x
  or_of_unary w x r = or_of_prod w x (prod_of_unary w x r)

  pub postfix_of : (w : List Token) (x : Tree) → primary S within free w x → postfix S within free w x
  postfix_of w x r = (w, [], x, sym (append-nil w), r, (0, (refl, refl)))

  pub unary_of_primary : (w : List Token) (x : Tree) → primary S within free w x → unary S within free w x
  unary_of_primary w x r = inr (inr (postfix_of w x r))

  pub or_of_primary : (w : List Token) (x : Tree) → primary S within free w x → or S within free w x
  or_of_primary w x r = or_of_unary w x (unary_of_primary w x r)

  -- a name alone
  pub name_alone : (t : Token) (text : List ℕ) → t.kind ≡ k.Ident text → primary S within free (t ∷ []) (tree.Call t.span.first None text [] None)
  name_alone t text e = inr (inr (inr (inr (inr (inl
      (t ∷ [], [], record { at = t.span.first; text = text }, refl, (t, refl, (e, refl)), ([], [], [], refl, inr (refl, refl), ([], [], None, refl, refl, (refl, refl)))))))))

  pub number_alone : (t : Token) (n : ℤ) → t.kind ≡ k.Int32 n → primary S within free (t ∷ []) (tree.Int32 t.span.first n)
  number_alone t n e = inl (t, refl, inl (n, e, refl))

-- one form alone, as a list of arguments
pub one_listed : (R : Form Tree) (w : List Token) (x : Tree) → R w x → listed R w (x ∷ [])
one_listed R w x r = (w, [], x, sym (append-nil w), r, ([], [], [], refl, refl, (refl, refl)))

-- one token of a look, as a statement of a form
pub word_alone : (seen : TokenLook) (t : Token) → look_of t.kind ≡ seen → word seen (t ∷ []) t.span.first
word_alone seen t e = (t, refl, (e, refl))

module _ (S : Wanted → Form Tree) (within : Within) where
  pub simple_of_or : (w : List Token) (x : Tree) → or S within true w x → simple S within w x
  simple_of_or w x r = inr (inr (inr r))

  pub simple_of_primary : (w : List Token) (x : Tree) → primary S within true w x → simple S within w x
  simple_of_primary w x r = simple_of_or w x (or_of_primary S within true w x r)

  -- a name and its arguments without parentheses
  pub command_of : (t : Token) (text : List ℕ) (w : List Token) (xs : List Tree) (d : List Token) (block : Option Tree)
      → t.kind ≡ k.Ident text → IsTrue (o.begins_argument w) → listed (S (Or within false)) w xs → maybe (doblock S within) d block
      → simple S within (t ∷ (w ++ d)) (tree.Call t.span.first None text xs block)
  command_of t text w xs d block e begins r rd = inr (inl (inl (
    t ∷ [],
    w ++ d,
    record { at = t.span.first; text = text },
    refl,
    (t, refl, (e, refl)),
    (w, d, xs, refl, (begins, r), (d, [], block, sym (append-nil d), rd, (refl, refl))),
  )))

  pub assigned_of : (target : Form Tree) (table : TokenLook → Option Assignment) (u : List Token) (t : Token) (v : List Token) (x y : Tree) (op : Assignment)
      → target u x → table (look_of t.kind) ≡ Some op → S (Simple within) v y
      → assigned S within target table (u ++ t ∷ v) (tree.Assign (place_of (u ++ t ∷ v)) x op t.span.first y)
  assigned_of target table u t v x y op rx e ry =
      (u, t ∷ v, x, refl, rx, (t ∷ [], v, (t.span.first, op), refl, (t, refl, (e, refl)), (v, [], y, sym (append-nil v), ry, (refl, refl))))

  pub local_alone : (t : Token) (text : List ℕ) → t.kind ≡ k.Ident text → local S within (t ∷ []) (tree.Call t.span.first None text [] None)
  local_alone t text e = (t ∷ [], [], record { at = t.span.first; text = text }, refl, (t, refl, (e, refl)), (refl, refl))

  -- a statement behind which a modifier stands
  pub modified_of : (seen : TokenLook) (unless : Bool) (u : List Token) (t : Token) (v : List Token) (x c : Tree)
      → simple S within u x → look_of t.kind ≡ seen → simple S within v c
      → modified S within seen unless (u ++ t ∷ v) (tree.If (place_of (u ++ t ∷ v)) unless c (x ∷ []) [] None)
  modified_of seen unless u t v x c rx e rc =
      (u, t ∷ v, x, refl, rx, (t ∷ [], v, t.span.first, refl, (t, refl, (e, refl)), (v, [], c, sym (append-nil v), rc, (refl, refl))))

-- one form alone, with no separators behind it
pub alone : (R : Form Tree) (w : List Token) (x : Tree) → R w x → (R >>= (λ y. many (word l.Newline >> (seps >> R)) >>= (λ ys. nothing (y ∷ ys)))) w (x ∷ [])
alone R w x r = (w, [], x, sym (append-nil w), r, ([], [], [], refl, refl, (refl, refl)))

-- one separator
pub one_sep : (t : Token) → look_of t.kind ≡ l.Newline → seps (t ∷ []) tt
one_sep t e = (t ∷ [], [], t.span.first ∷ [], refl, (t ∷ [], [], refl, (t, refl, (e, refl)), refl), (refl, refl))

-- one form alone, as the statements of a body
pub one_line : (R : Form Tree) (w : List Token) (x : Tree) → R w x → stmts R w (x ∷ [])
one_line R w x r = (
  [],
  w,
  tt,
  refl,
  no_seps,
  (
    w,
    [],
    x ∷ [],
    sym (append-nil w),
    inl (w, [], x, sym (append-nil w), r, ([], [], [], refl, refl, (refl, refl))),
    ([], [], tt, refl, no_seps, (refl, refl)),
  ),
)

-- no statement
pub no_line : (R : Form Tree) → stmts R [] []
no_line R = ([], [], tt, refl, no_seps, ([], [], [], refl, inr (refl, refl), ([], [], tt, refl, no_seps, (refl, refl))))

-- a form in parentheses, with no separators
pub parenthesized_of : {A : Type 0} → (R : Form A) (t : Token) (w : List Token) (u : Token) (x : A)
    → look_of t.kind ≡ l.OpenParenthesis → R w x → look_of u.kind ≡ l.CloseParenthesis → parenthesized R (t ∷ (w ++ (u ∷ []))) x
parenthesized_of R t w u x e r e' = (
  t ∷ [],
  w ++ (u ∷ []),
  t.span.first,
  refl,
  (t, refl, (e, refl)),
  (
    [],
    w ++ (u ∷ []),
    tt,
    refl,
    no_seps,
    (
      w,
      u ∷ [],
      x,
      refl,
      r,
      ([], u ∷ [], tt, refl, no_seps, (u ∷ [], [], u.span.first, refl, (u, refl, (e', refl)), (refl, refl))),
    ),
  ),
)
