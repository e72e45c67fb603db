-- The examples of the grammar.
use Rattle.std.proofs.Common.{◌≡◌, ℕ, Bool, true, false, List, [], ◌∷◌, ◌⊎◌, inl, inr, refl, arith}
use Rattle.std.specs.Prelude.{ℤ, pos, neg_ℤ, codes, Some, None}
use Rattle.cr_syntax.specs.declared.look.TokenLook.TheVariants as l
use Rattle.cr_syntax.specs.declared.token.Token.{Token}
use Rattle.cr_syntax.specs.declared.token.TokenKind.TheVariants as k
use Rattle.cr_grammar.specs.declared.operator.Binary.TheVariants as binary
use Rattle.cr_grammar.specs.declared.operator.Unary.TheVariants as prefix
use Rattle.cr_grammar.specs.declared.operator.Assignment.TheVariants as assignment
use Rattle.cr_grammar.specs.declared.tree.Tree.{Tree, the_lemmas}
use Rattle.cr_grammar.specs.declared.tree.Tree.TheVariants as tree
use Rattle.cr_grammar.specs.Forms.{Form, or_none, stmts}
use Rattle.cr_grammar.specs.Operators as o
use Rattle.cr_grammar.specs.Grammar as g
use Rattle.cr_grammar.specs.declared.wanted.Wanted.{Wanted}
use Rattle.cr_grammar.specs.declared.wanted.Wanted.TheVariants.{Or, Stmt}
use Rattle.cr_grammar.specs.Wanted.{top, in_block, in_method}
use Rattle.cr_grammar.specs.Expressions as ex
use Rattle.cr_grammar.specs.Grammar.{Spells_in}
use Rattle.cr_grammar.specs.Examples as e
use Rattle.cr_grammar.specs.Examples.{spaced_at, tight_at, name}
use Rattle.cr_grammar.proofs.Derive as d
use Rattle.cr_grammar.proofs.First as f

pub puts_sum : e.PutsSum
puts_sum =
    let S = Spells_in 0 in
    let minus_one = spaced_at 5 7 (k.Int32 (neg_ℤ (pos 1))) in
    let plus = spaced_at 8 9 (k.Plain l.Plus) in
    let two = spaced_at 10 11 (k.Int32 (pos 2)) in
    let star = tight_at 11 12 (k.Plain l.Star) in
    let three = tight_at 12 13 (k.Int32 (pos 3)) in
    let args : List Token = minus_one ∷ plus ∷ two ∷ star ∷ three ∷ [] in
    let product = d.two S top false o.prod_operator (ex.unary S top false) (two ∷ []) star (three ∷ []) (tree.Int32 10 (pos 2)) (tree.Int32 12 (pos 3)) binary.Star
    (d.unary_of_primary S top false _ _ (d.number_alone S top false two (pos 2) refl))
    (d.unary_of_primary S top false _ _ (d.number_alone S top false three (pos 3) refl)) refl refl in
    let first = d.prod_of_unary S top false _ _ (d.unary_of_primary S top false _ _ (d.number_alone S top false minus_one (neg_ℤ (pos 1)) refl)) in
    let total : Tree = tree.Binary 8 binary.Plus (tree.Int32 5 (neg_ℤ (pos 1))) (tree.Binary 11 binary.Star (tree.Int32 10 (pos 2)) (tree.Int32 12 (pos 3))) in
    let sum = d.two S top false o.sum_operator (ex.prod S top false) (minus_one ∷ []) plus (two ∷ star ∷ three ∷ []) (tree.Int32 5 (neg_ℤ (pos 1))) (tree.Binary 11 binary.Star (tree.Int32 10 (pos 2)) (tree.Int32 12 (pos 3))) binary.Plus first product refl refl in (
      2,
      inl (d.command_of (Spells_in 1) top (spaced_at 0 4 (k.Ident (codes "puts"))) (codes "puts") args (total ∷ []) [] None refl refl
          (d.one_listed (Spells_in 1 (Or top false)) args total (d.or_of_sum S top false args total sum)) refl),
    )

-- a name alone, and a number alone, as operands
named : (S : Wanted → Form Tree) (free : Bool) (t : Token) (text : List ℕ) → t.kind ≡ k.Ident text → ex.unary S top free (t ∷ []) (name t.span.first text)
named S free t text e = d.unary_of_primary S top free _ _ (d.name_alone S top free t text e)

number : (S : Wanted → Form Tree) (free : Bool) (t : Token) (n : ℤ) → t.kind ≡ k.Int32 n → ex.unary S top free (t ∷ []) (tree.Int32 t.span.first n)
number S free t n e = d.unary_of_primary S top free _ _ (d.number_alone S top free t n e)

pub puts_sum_counts : e.PutsSumCounts
puts_sum_counts = (grind (arith, the_lemmas), grind (arith, the_lemmas))

pub sign_behind_name : e.SignBehindName
sign_behind_name =
    let minus = spaced_at 2 3 (k.Plain l.Minus) in
    let y = tight_at 3 4 (k.Ident (codes "y")) in
    let args : List Token = minus ∷ y ∷ [] in
    let negated : Tree = tree.Unary 2 prefix.Negate (name 3 (codes "y")) in
    let read : ex.unary (Spells_in 1) top false args negated = inr (inl (
      minus ∷ [],
      y ∷ [],
      2,
      refl,
      (minus, refl, (refl, refl)),
      (y ∷ [], [], name 3 (codes "y"), refl, named (Spells_in 0) false y (codes "y") refl, (refl, refl)),
    )) in (
      3,
      inl (d.command_of (Spells_in 2) top (spaced_at 0 1 (k.Ident (codes "x"))) (codes "x") args (negated ∷ []) [] None refl refl
          (d.one_listed (Spells_in 2 (Or top false)) args negated (d.or_of_unary (Spells_in 1) top false args negated read)) refl),
    )

pub number_behind_name : e.NumberBehindName
number_behind_name =
    let minus_one = spaced_at 2 4 (k.Int32 (neg_ℤ (pos 1))) in
    let value : Tree = tree.Int32 2 (neg_ℤ (pos 1)) in (
      2,
      inl (d.command_of (Spells_in 1) top (spaced_at 0 1 (k.Ident (codes "x"))) (codes "x") (minus_one ∷ []) (value ∷ []) [] None refl refl
          (d.one_listed (Spells_in 1 (Or top false)) (minus_one ∷ []) value (d.or_of_unary (Spells_in 0) top false _ _ (number (Spells_in 0) false minus_one (neg_ℤ (pos 1)) refl))) refl),
    )

pub difference : e.Difference
difference =
    let S = Spells_in 0 in
    let x = spaced_at 0 1 (k.Ident (codes "x")) in
    let one = spaced_at 4 5 (k.Int32 (pos 1)) in
    let sum = d.two S top true o.sum_operator (ex.prod S top true) (x ∷ []) (spaced_at 2 3 (k.Plain l.Minus)) (one ∷ []) (name 0 (codes "x")) (tree.Int32 4 (pos 1)) binary.Minus
    (d.prod_of_unary S top true _ _ (named S true x (codes "x") refl)) (d.prod_of_unary S top true _ _ (number S true one (pos 1) refl)) refl refl in
    (1, inl (d.simple_of_or S top _ _ (d.or_of_sum S top true _ _ sum)))

pub groups_left : e.GroupsLeft
groups_left =
    let S = Spells_in 0 in
    let one = spaced_at 0 1 (k.Int32 (pos 1)) in
    let two = spaced_at 4 5 (k.Int32 (pos 2)) in
    let three = spaced_at 8 9 (k.Int32 (pos 3)) in
    let sum = d.three S top true o.sum_operator (ex.prod S top true) (one ∷ []) (spaced_at 2 3 (k.Plain l.Minus)) (two ∷ []) (spaced_at 6 7 (k.Plain l.Minus)) (three ∷ [])
    (tree.Int32 0 (pos 1)) (tree.Int32 4 (pos 2)) (tree.Int32 8 (pos 3)) binary.Minus binary.Minus
    (d.prod_of_unary S top true _ _ (number S true one (pos 1) refl)) (d.prod_of_unary S top true _ _ (number S true two (pos 2) refl))
    (d.prod_of_unary S top true _ _ (number S true three (pos 3) refl)) refl refl refl refl in
    (1, inl (d.simple_of_or S top _ _ (d.or_of_sum S top true _ _ sum)))

pub field_is_assigned : e.FieldIsAssigned
field_is_assigned =
    let S = Spells_in 1 in
    let a = spaced_at 0 1 (k.Ident (codes "a")) in
    let dot = tight_at 1 2 (k.Plain l.Dot) in
    let b = tight_at 2 3 (k.Ident (codes "b")) in
    let one = spaced_at 6 7 (k.Int32 (pos 1)) in
    let x : Tree = tree.Call 2 (Some (name 0 (codes "a"))) (codes "b") [] None in
    let target : g.place S top (a ∷ dot ∷ b ∷ []) x = inl (
      a ∷ [],
      dot ∷ b ∷ [],
      name 0 (codes "a"),
      refl,
      d.postfix_of S top true _ _ (d.name_alone S top true a (codes "a") refl),
      (dot ∷ [], b ∷ [], 1, refl, (dot, refl, (refl, refl)), (b ∷ [], [], record { at = 2; text = codes "b" }, refl, (b, refl, (refl, refl)), (refl, refl))),
    ) in (
      2,
      inl (inl (inr (d.assigned_of S top (g.place S top) o.field_assignment (a ∷ dot ∷ b ∷ []) (spaced_at 4 5 (k.Plain l.Equal)) (one ∷ []) x (tree.Int32 6 (pos 1)) assignment.Plain
          target refl (d.simple_of_primary (Spells_in 0) top _ _ (d.number_alone (Spells_in 0) top true one (pos 1) refl))))),
    )

pub do_belongs_to_command : e.DoBelongsToCommand
do_belongs_to_command =
    let x = spaced_at 4 5 (k.Ident (codes "x")) in
    let do_token = spaced_at 6 8 (k.Plain l.Do) in
    let end_token = spaced_at 9 12 (k.Plain l.KeywordEnd) in
    let block : ex.doblock (Spells_in 1) top (do_token ∷ end_token ∷ []) (tree.Block [] []) = (
      do_token ∷ [],
      end_token ∷ [],
      6,
      refl,
      (do_token, refl, (refl, refl)),
      (
        [],
        end_token ∷ [],
        [],
        refl,
        inr (refl, refl),
        ([], end_token ∷ [], [], refl, d.no_line (Spells_in 1 (Stmt (in_block top))), (end_token ∷ [], [], 9, refl, (end_token, refl, (refl, refl)), (refl, refl))),
      ),
    ) in (
      2,
      inl (d.command_of (Spells_in 1) top (spaced_at 0 3 (k.Ident (codes "foo"))) (codes "foo") (x ∷ []) (name 4 (codes "x") ∷ []) (do_token ∷ end_token ∷ []) (Some (tree.Block [] [])) refl refl
          (d.one_listed (Spells_in 1 (Or top false)) (x ∷ []) (name 4 (codes "x")) (d.or_of_unary (Spells_in 0) top false _ _ (named (Spells_in 0) false x (codes "x") refl))) block),
    )

pub modifier_takes_statement : e.ModifierTakesStatement
modifier_takes_statement =
    let S = Spells_in 1 in
    let x = spaced_at 0 1 (k.Ident (codes "x")) in
    let one = spaced_at 4 5 (k.Int32 (pos 1)) in
    let c = spaced_at 9 10 (k.Ident (codes "c")) in
    let u : List Token = x ∷ spaced_at 2 3 (k.Plain l.Equal) ∷ one ∷ [] in
    let assigned : g.simple S top u (tree.Assign 0 (name 0 (codes "x")) assignment.Plain 2 (tree.Int32 4 (pos 1))) =
    inl (inl (d.assigned_of S top (λ w y. g.local S top w y ⊎ ex.variable S top true w y) o.any_assignment (x ∷ []) (spaced_at 2 3 (k.Plain l.Equal)) (one ∷ []) (name 0 (codes "x")) (tree.Int32 4 (pos 1)) assignment.Plain
    (inl (d.local_alone S top x (codes "x") refl)) refl (d.simple_of_primary (Spells_in 0) top _ _ (d.number_alone (Spells_in 0) top true one (pos 1) refl)))) in (
      2,
      inr (inl (d.modified_of S top l.If false u (spaced_at 6 8 (k.Plain l.If)) (c ∷ []) (tree.Assign 0 (name 0 (codes "x")) assignment.Plain 2 (tree.Int32 4 (pos 1))) (name 9 (codes "c"))
          assigned refl (d.simple_of_primary S top _ _ (d.name_alone S top true c (codes "c") refl)))),
    )

pub parentheses_leave_no_trace : e.ParenthesesLeaveNoTrace
parentheses_leave_no_trace =
    let S = Spells_in 1 in
    let open_token = spaced_at 0 1 (k.Plain l.OpenParenthesis) in
    let a = tight_at 1 2 (k.Ident (codes "a")) in
    let close_token = tight_at 2 3 (k.Plain l.CloseParenthesis) in
    let inside : Spells_in 1 (Stmt top) (a ∷ []) (name 1 (codes "a")) = inl (d.simple_of_primary (Spells_in 0) top _ _ (d.name_alone (Spells_in 0) top true a (codes "a") refl)) in
    let read = d.parenthesized_of (Spells_in 1 (Stmt top)) open_token (a ∷ []) close_token (name 1 (codes "a")) refl inside refl in
    (2, inl (d.simple_of_primary S top _ _ (inr (inr (inr (inr (inr (inr (inr (inr (inr (inr (inr (inl read))))))))))))))

pub empty_arguments_leave_no_trace : e.EmptyArgumentsLeaveNoTrace
empty_arguments_leave_no_trace =
    let S = Spells_in 0 in
    let foo = spaced_at 0 3 (k.Ident (codes "foo")) in
    let open_token = tight_at 3 4 (k.Plain l.OpenParenthesis) in
    let close_token = tight_at 4 5 (k.Plain l.CloseParenthesis) in
    let read = d.parenthesized_of (or_none (ex.inside S top true)) open_token [] close_token [] refl (inr (refl, refl)) refl in
    let all : ex.named S top true (foo ∷ open_token ∷ close_token ∷ []) (name 0 (codes "foo")) = (
      foo ∷ [],
      open_token ∷ close_token ∷ [],
      record { at = 0; text = codes "foo" },
      refl,
      (foo, refl, (refl, refl)),
      (open_token ∷ close_token ∷ [], [], [], refl, inl (refl, read), ([], [], None, refl, refl, (refl, refl))),
    ) in
    (1, inl (d.simple_of_primary S top _ _ (inr (inr (inr (inr (inr (inl all))))))))

pub hash_literal : e.HashLiteral
hash_literal =
    let S = Spells_in 1 in
    let one = spaced_at 2 3 (k.Int32 (pos 1)) in
    let two = spaced_at 7 8 (k.Int32 (pos 2)) in
    let open_token = spaced_at 0 1 (k.Plain l.OpenBrace) in
    let arrow_token = spaced_at 4 6 (k.Plain l.Arrow) in
    let close_token = spaced_at 9 10 (k.Plain l.CloseBrace) in
    let entry : Tree = tree.Pair (tree.Int32 2 (pos 1)) (tree.Int32 7 (pos 2)) in
    let key : Spells_in 1 (Or top true) (one ∷ []) (tree.Int32 2 (pos 1)) = d.or_of_primary (Spells_in 0) top true _ _ (d.number_alone (Spells_in 0) top true one (pos 1) refl) in
    let value : Spells_in 1 (Or top true) (two ∷ []) (tree.Int32 7 (pos 2)) = d.or_of_primary (Spells_in 0) top true _ _ (d.number_alone (Spells_in 0) top true two (pos 2) refl) in
    let pair : ex.pair S top true (Spells_in 1 (Or top true)) (one ∷ arrow_token ∷ two ∷ []) entry = (
      one ∷ [],
      arrow_token ∷ two ∷ [],
      tree.Int32 2 (pos 1),
      refl,
      key,
      (
        arrow_token ∷ [],
        two ∷ [],
        tt,
        refl,
        (arrow_token ∷ [], [], 4, refl, (arrow_token, refl, (refl, refl)), d.no_seps),
        (two ∷ [], [], tree.Int32 7 (pos 2), refl, value, (refl, refl)),
      ),
    ) in
    let all : ex.hash S top true (open_token ∷ one ∷ arrow_token ∷ two ∷ close_token ∷ []) (tree.Hash 0 (entry ∷ []) None) = (
      open_token ∷ [],
      one ∷ arrow_token ∷ two ∷ close_token ∷ [],
      0,
      refl,
      (open_token, refl, (refl, refl)),
      (
        [],
        one ∷ arrow_token ∷ two ∷ close_token ∷ [],
        tt,
        refl,
        d.no_seps,
        (
          one ∷ arrow_token ∷ two ∷ [],
          close_token ∷ [],
          entry ∷ [],
          refl,
          inl (d.one_listed (ex.pair S top true (Spells_in 1 (Or top true))) (one ∷ arrow_token ∷ two ∷ []) entry pair),
          (close_token ∷ [], [], 9, refl, (close_token, refl, (refl, refl)), ([], [], None, refl, refl, (refl, refl))),
        ),
      ),
    ) in
    (2, inl (d.simple_of_primary S top _ _ (inr (inr (inr (inr (inr (inr (inr (inr (inr (inr (inl all)))))))))))))

pub block_behind_name : e.BlockBehindName
block_behind_name =
    let S = Spells_in 1 in
    let foo = spaced_at 0 3 (k.Ident (codes "foo")) in
    let open_token = spaced_at 4 5 (k.Plain l.OpenBrace) in
    let one = spaced_at 6 7 (k.Int32 (pos 1)) in
    let close_token = spaced_at 8 9 (k.Plain l.CloseBrace) in
    let value : Tree = tree.Int32 6 (pos 1) in
    let line : Spells_in 1 (Stmt (in_block top)) (one ∷ []) value = inl (d.simple_of_primary (Spells_in 0) (in_block top) _ _ (d.number_alone (Spells_in 0) (in_block top) true one (pos 1) refl)) in
    let block : ex.block S top true (open_token ∷ one ∷ close_token ∷ []) (tree.Block [] (value ∷ [])) =
    inl (
      open_token ∷ [],
      one ∷ close_token ∷ [],
      4,
      refl,
      (open_token, refl, (refl, refl)),
      (
        [],
        one ∷ close_token ∷ [],
        tt,
        refl,
        d.no_seps,
        (
          [],
          one ∷ close_token ∷ [],
          [],
          refl,
          inr (refl, refl),
          (
            one ∷ [],
            close_token ∷ [],
            value ∷ [],
            refl,
            d.one_line (Spells_in 1 (Stmt (in_block top))) (one ∷ []) value line,
            (close_token ∷ [], [], 8, refl, (close_token, refl, (refl, refl)), (refl, refl)),
          ),
        ),
      ),
    ) in
    let all : ex.named S top true (foo ∷ open_token ∷ one ∷ close_token ∷ []) (tree.Call 0 None (codes "foo") [] (Some (tree.Block [] (value ∷ [])))) = (
      foo ∷ [],
      open_token ∷ one ∷ close_token ∷ [],
      record { at = 0; text = codes "foo" },
      refl,
      (foo, refl, (refl, refl)),
      (
        [],
        open_token ∷ one ∷ close_token ∷ [],
        [],
        refl,
        inr (refl, refl),
        (open_token ∷ one ∷ close_token ∷ [], [], Some (tree.Block [] (value ∷ [])), refl, block, (refl, refl)),
      ),
    ) in
    (2, inl (d.simple_of_primary S top _ _ (inr (inr (inr (inr (inr (inl all))))))))

pub question_is_nil : e.QuestionIsNil
question_is_nil =
    let S = Spells_in 0 in
    let T = spaced_at 0 1 (k.Constant (codes "T")) in
    let question = tight_at 1 2 (k.Plain l.Question) in
    let path : ex.path (T ∷ []) (record { at = 0; names = codes "T" ∷ [] }) =
    (T ∷ [], [], record { at = 0; text = codes "T" }, refl, (T, refl, (refl, refl)), ([], [], [], refl, refl, (refl, refl))) in
    let atom : ex.atom S true (T ∷ question ∷ []) (record { path = record { at = 0; names = codes "T" ∷ [] }; arguments = []; question = Some 1 }) = (
      T ∷ [],
      question ∷ [],
      record { at = 0; names = codes "T" ∷ [] },
      refl,
      path,
      ([], question ∷ [], [], refl, inr (refl, refl), (question ∷ [], [], Some 1, refl, (refl, (question, refl, (refl, refl))), (refl, refl))),
    ) in
    (1, (T ∷ question ∷ [], [], record { path = record { at = 0; names = codes "T" ∷ [] }; arguments = []; question = Some 1 }, refl, atom, ([], [], [], refl, refl, (refl, refl))))

pub one_line : e.OneLine
one_line =
    let S = Spells_in 1 in
    let x = spaced_at 0 1 (k.Ident (codes "x")) in
    let newline = tight_at 1 2 (k.Plain l.Newline) in
    let end_token = spaced_at 2 2 (k.Plain l.End) in
    let line : Spells_in 1 (Stmt top) (x ∷ []) (name 0 (codes "x")) = inl (d.simple_of_primary (Spells_in 0) top _ _ (d.name_alone (Spells_in 0) top true x (codes "x") refl)) in
    let item : g.item S (x ∷ []) (name 0 (codes "x")) = inr (inr (inr line)) in
    let lines : stmts (g.item S) (x ∷ newline ∷ []) (name 0 (codes "x") ∷ []) = (
      [],
      x ∷ newline ∷ [],
      tt,
      refl,
      d.no_seps,
      (
        x ∷ [],
        newline ∷ [],
        name 0 (codes "x") ∷ [],
        refl,
        inl (d.alone (g.item S) (x ∷ []) (name 0 (codes "x")) item),
        (newline ∷ [], [], tt, refl, d.one_sep newline refl, (refl, refl)),
      ),
    ) in
    (2, (x ∷ newline ∷ [], end_token ∷ [], name 0 (codes "x") ∷ [], refl, lines, (end_token ∷ [], [], 2, refl, (end_token, refl, (refl, refl)), (refl, refl))))

pub text_with_insertion : e.TextWithInsertion
text_with_insertion =
    let first = spaced_at 0 4 (k.TextFirst (codes "a")) in
    let b = tight_at 4 5 (k.Ident (codes "b")) in
    let last = tight_at 5 8 (k.TextLast (codes "c")) in
    (2, inl (d.simple_of_primary (Spells_in 1) top _ _ (inr (inl (inr ((first ∷ []), (b ∷ last ∷ []), (record { at = 0; text = codes "a" }), refl, (first, refl, (refl, refl)), ((b ∷ []), (last ∷ []), (name 4 (codes "b")), refl, (d.or_of_primary (Spells_in 0) top true _ _ (d.name_alone (Spells_in 0) top true b (codes "b") refl)), ([], (last ∷ []), [], refl, refl, ((last ∷ []), [], (record { at = 5; text = codes "c" }), refl, (last, refl, (refl, refl)), (refl, refl))))))))))

pub return_before_modifier : e.ReturnBeforeModifier
return_before_modifier =
    let gone = spaced_at 0 6 (k.Plain l.Return) in
    let modifier = spaced_at 7 9 (k.Plain l.If) in
    let x = spaced_at 10 11 (k.Ident (codes "x")) in
    (1, inr (inl (d.modified_of (Spells_in 0) (in_method false (codes "f")) l.If false (gone ∷ []) modifier (x ∷ []) (tree.Return 0 None) (name 10 (codes "x")) (inr (inr (inl (inl (refl, ((gone ∷ []), [], 0, refl, (gone, refl, (refl, refl)), ([], [], None, refl, refl, (refl, refl)))))))) refl (d.simple_of_primary (Spells_in 0) (in_method false (codes "f")) _ _ (d.name_alone (Spells_in 0) (in_method false (codes "f")) true x (codes "x") refl)))))

pub both_branches : e.BothBranches
both_branches =
    let head = spaced_at 0 2 (k.Plain l.If) in
    let c = spaced_at 3 4 (k.Ident (codes "c")) in
    let behind = spaced_at 5 9 (k.Plain l.Then) in
    let one = spaced_at 10 11 (k.Int32 (pos 1)) in
    let other = spaced_at 12 16 (k.Plain l.Else) in
    let two = spaced_at 17 18 (k.Int32 (pos 2)) in
    let last = spaced_at 19 22 (k.Plain l.KeywordEnd) in
    (2, inl (d.simple_of_primary (Spells_in 1) top _ _ (inr (inr (inr (inr (inr (inr (inr (inr (inr (inr (inr (inr (inr (inl (inl ((head ∷ []), (c ∷ behind ∷ one ∷ other ∷ two ∷ last ∷ []), 0, refl, (head, refl, (refl, refl)), ((c ∷ []), (behind ∷ one ∷ other ∷ two ∷ last ∷ []), (name 3 (codes "c")), refl, (d.simple_of_primary (Spells_in 0) top _ _ (d.name_alone (Spells_in 0) top true c (codes "c") refl)), ((behind ∷ []), (one ∷ other ∷ two ∷ last ∷ []), 5, refl, (inr (behind, refl, (refl, refl))), ((one ∷ []), (other ∷ two ∷ last ∷ []), ((tree.Int32 10 (pos 1)) ∷ []), refl, ([], (one ∷ []), tt, refl, d.no_seps, ((one ∷ []), [], ((tree.Int32 10 (pos 1)) ∷ []), refl, (inl ((one ∷ []), [], (tree.Int32 10 (pos 1)), refl, (inl (d.simple_of_primary (Spells_in 0) top _ _ (d.number_alone (Spells_in 0) top true one (pos 1) refl))), ([], [], [], refl, refl, (refl, refl)))), ([], [], tt, refl, d.no_seps, (refl, refl)))), ([], (other ∷ two ∷ last ∷ []), [], refl, refl, ((other ∷ two ∷ []), (last ∷ []), (Some ((tree.Int32 17 (pos 2)) ∷ [])), refl, ((other ∷ []), (two ∷ []), 12, refl, (other, refl, (refl, refl)), ([], (two ∷ []), tt, refl, d.no_seps, ((two ∷ []), [], ((tree.Int32 17 (pos 2)) ∷ []), refl, (inl ((two ∷ []), [], (tree.Int32 17 (pos 2)), refl, (inl (d.simple_of_primary (Spells_in 0) top _ _ (d.number_alone (Spells_in 0) top true two (pos 2) refl))), ([], [], [], refl, refl, (refl, refl)))), ([], [], tt, refl, d.no_seps, (refl, refl))))), ((last ∷ []), [], 19, refl, (last, refl, (refl, refl)), (refl, refl)))))))))))))))))))))))))

pub select_receives : e.SelectReceives
select_receives =
    let head = spaced_at 0 6 (k.Plain l.Select) in
    let line = tight_at 6 7 (k.Plain l.Newline) in
    let when_token = spaced_at 7 11 (k.Plain l.When) in
    let x = spaced_at 12 13 (k.Ident (codes "x")) in
    let equal = spaced_at 14 15 (k.Plain l.Equal) in
    let c = spaced_at 16 17 (k.Ident (codes "c")) in
    let dot = tight_at 17 18 (k.Plain l.Dot) in
    let receive = tight_at 18 25 (k.Ident (codes "receive")) in
    let next = tight_at 25 26 (k.Plain l.Newline) in
    let last = spaced_at 26 29 (k.Plain l.KeywordEnd) in
    (2, inl (d.simple_of_primary (Spells_in 1) top _ _ (inr (inr (inr (inr (inr (inr (inr (inr (inr (inr (inr (inr (inr (inr (inr (inr ((head ∷ []), (line ∷ when_token ∷ x ∷ equal ∷ c ∷ dot ∷ receive ∷ next ∷ last ∷ []), 0, refl, (head, refl, (refl, refl)), ((line ∷ []), (when_token ∷ x ∷ equal ∷ c ∷ dot ∷ receive ∷ next ∷ last ∷ []), 6, refl, (line, refl, (refl, refl)), ([], (when_token ∷ x ∷ equal ∷ c ∷ dot ∷ receive ∷ next ∷ last ∷ []), tt, refl, d.no_seps, ((when_token ∷ x ∷ equal ∷ c ∷ dot ∷ receive ∷ next ∷ []), (last ∷ []), ((tree.When 7 (Some (name 12 (codes "x"))) (tree.Call 18 (Some (name 16 (codes "c"))) (codes "receive") [] None) []) ∷ []), refl, ((when_token ∷ x ∷ equal ∷ c ∷ dot ∷ receive ∷ next ∷ []), [], (tree.When 7 (Some (name 12 (codes "x"))) (tree.Call 18 (Some (name 16 (codes "c"))) (codes "receive") [] None) []), refl, (inl ((when_token ∷ []), (x ∷ equal ∷ c ∷ dot ∷ receive ∷ next ∷ []), 7, refl, (when_token, refl, (refl, refl)), ((x ∷ equal ∷ []), (c ∷ dot ∷ receive ∷ next ∷ []), (Some (name 12 (codes "x"))), refl, ((x ∷ []), (equal ∷ []), (record { at = 12; text = codes "x" }), refl, (x, refl, (refl, refl)), ((equal ∷ []), [], 14, refl, (equal, refl, (refl, refl)), (refl, refl))), ((c ∷ dot ∷ receive ∷ []), (next ∷ []), (tree.Call 18 (Some (name 16 (codes "c"))) (codes "receive") [] None), refl, ((c ∷ []), (dot ∷ receive ∷ []), (name 16 (codes "c")), refl, (d.postfix_of (Spells_in 0) top true _ _ (d.name_alone (Spells_in 0) top true c (codes "c") refl)), ((dot ∷ []), (receive ∷ []), 17, refl, (dot, refl, (refl, refl)), ((receive ∷ []), [], (record { at = 18; text = codes "receive" }), refl, (receive, refl, (refl, refl)), (inl refl, (refl, refl))))), ((next ∷ []), [], 25, refl, (inl (next, refl, (refl, refl))), ([], [], [], refl, ([], [], tt, refl, d.no_seps, ([], [], [], refl, (inr (refl, refl)), ([], [], tt, refl, d.no_seps, (refl, refl)))), (refl, refl))))))), ([], [], [], refl, refl, (refl, refl))), ([], (last ∷ []), None, refl, refl, ((last ∷ []), [], 26, refl, (last, refl, (refl, refl)), (refl, refl)))))))))))))))))))))))))

pub setter_in_class : e.SetterInClass
setter_in_class =
    let head = spaced_at 0 5 (k.Plain l.Class) in
    let A = spaced_at 6 7 (k.Constant (codes "A")) in
    let line = tight_at 7 8 (k.Plain l.Newline) in
    let def_token = spaced_at 10 13 (k.Plain l.Def) in
    let x = spaced_at 14 15 (k.Ident (codes "x")) in
    let equal = tight_at 15 16 (k.Plain l.Equal) in
    let opened = tight_at 16 17 (k.Plain l.OpenParenthesis) in
    let v = tight_at 17 18 (k.Ident (codes "v")) in
    let closed = tight_at 18 19 (k.Plain l.CloseParenthesis) in
    let line2 = tight_at 19 20 (k.Plain l.Newline) in
    let variable = spaced_at 24 26 (k.InstanceVariable (codes "x")) in
    let set = spaced_at 27 28 (k.Plain l.Equal) in
    let value = spaced_at 29 30 (k.Ident (codes "v")) in
    let line3 = tight_at 30 31 (k.Plain l.Newline) in
    let done = spaced_at 33 36 (k.Plain l.KeywordEnd) in
    let line4 = tight_at 36 37 (k.Plain l.Newline) in
    let last = spaced_at 37 40 (k.Plain l.KeywordEnd) in
    let end_token = tight_at 40 40 (k.Plain l.End) in
    (3, ((head ∷ A ∷ line ∷ def_token ∷ x ∷ equal ∷ opened ∷ v ∷ closed ∷ line2 ∷ variable ∷ set ∷ value ∷ line3 ∷ done ∷ line4 ∷ last ∷ []), (end_token ∷ []), ((tree.Class 0 (codes "A") [] None ((tree.Def 10 (codes "x=") (tree.Parameter 17 false (codes "v") None ∷ []) None ((tree.Assign 24 (tree.InstanceVariable 24 (codes "x")) assignment.Plain 27 (name 29 (codes "v"))) ∷ [])) ∷ [])) ∷ []), refl, ([], (head ∷ A ∷ line ∷ def_token ∷ x ∷ equal ∷ opened ∷ v ∷ closed ∷ line2 ∷ variable ∷ set ∷ value ∷ line3 ∷ done ∷ line4 ∷ last ∷ []), tt, refl, d.no_seps, ((head ∷ A ∷ line ∷ def_token ∷ x ∷ equal ∷ opened ∷ v ∷ closed ∷ line2 ∷ variable ∷ set ∷ value ∷ line3 ∷ done ∷ line4 ∷ last ∷ []), [], ((tree.Class 0 (codes "A") [] None ((tree.Def 10 (codes "x=") (tree.Parameter 17 false (codes "v") None ∷ []) None ((tree.Assign 24 (tree.InstanceVariable 24 (codes "x")) assignment.Plain 27 (name 29 (codes "v"))) ∷ [])) ∷ [])) ∷ []), refl, (inl ((head ∷ A ∷ line ∷ def_token ∷ x ∷ equal ∷ opened ∷ v ∷ closed ∷ line2 ∷ variable ∷ set ∷ value ∷ line3 ∷ done ∷ line4 ∷ last ∷ []), [], (tree.Class 0 (codes "A") [] None ((tree.Def 10 (codes "x=") (tree.Parameter 17 false (codes "v") None ∷ []) None ((tree.Assign 24 (tree.InstanceVariable 24 (codes "x")) assignment.Plain 27 (name 29 (codes "v"))) ∷ [])) ∷ [])), refl, (inl ((head ∷ []), (A ∷ line ∷ def_token ∷ x ∷ equal ∷ opened ∷ v ∷ closed ∷ line2 ∷ variable ∷ set ∷ value ∷ line3 ∷ done ∷ line4 ∷ last ∷ []), 0, refl, (head, refl, (refl, refl)), ((A ∷ []), (line ∷ def_token ∷ x ∷ equal ∷ opened ∷ v ∷ closed ∷ line2 ∷ variable ∷ set ∷ value ∷ line3 ∷ done ∷ line4 ∷ last ∷ []), (record { at = 6; text = codes "A" }), refl, (A, refl, (refl, refl)), ([], (line ∷ def_token ∷ x ∷ equal ∷ opened ∷ v ∷ closed ∷ line2 ∷ variable ∷ set ∷ value ∷ line3 ∷ done ∷ line4 ∷ last ∷ []), [], refl, (inr (refl, refl)), ([], (line ∷ def_token ∷ x ∷ equal ∷ opened ∷ v ∷ closed ∷ line2 ∷ variable ∷ set ∷ value ∷ line3 ∷ done ∷ line4 ∷ last ∷ []), None, refl, refl, ((line ∷ []), (def_token ∷ x ∷ equal ∷ opened ∷ v ∷ closed ∷ line2 ∷ variable ∷ set ∷ value ∷ line3 ∷ done ∷ line4 ∷ last ∷ []), 7, refl, (line, refl, (refl, refl)), ((def_token ∷ x ∷ equal ∷ opened ∷ v ∷ closed ∷ line2 ∷ variable ∷ set ∷ value ∷ line3 ∷ done ∷ line4 ∷ []), (last ∷ []), ((tree.Def 10 (codes "x=") (tree.Parameter 17 false (codes "v") None ∷ []) None ((tree.Assign 24 (tree.InstanceVariable 24 (codes "x")) assignment.Plain 27 (name 29 (codes "v"))) ∷ [])) ∷ []), refl, ([], (def_token ∷ x ∷ equal ∷ opened ∷ v ∷ closed ∷ line2 ∷ variable ∷ set ∷ value ∷ line3 ∷ done ∷ line4 ∷ []), tt, refl, d.no_seps, ((def_token ∷ x ∷ equal ∷ opened ∷ v ∷ closed ∷ line2 ∷ variable ∷ set ∷ value ∷ line3 ∷ done ∷ []), (line4 ∷ []), ((tree.Def 10 (codes "x=") (tree.Parameter 17 false (codes "v") None ∷ []) None ((tree.Assign 24 (tree.InstanceVariable 24 (codes "x")) assignment.Plain 27 (name 29 (codes "v"))) ∷ [])) ∷ []), refl, (inl ((def_token ∷ x ∷ equal ∷ opened ∷ v ∷ closed ∷ line2 ∷ variable ∷ set ∷ value ∷ line3 ∷ done ∷ []), [], (tree.Def 10 (codes "x=") (tree.Parameter 17 false (codes "v") None ∷ []) None ((tree.Assign 24 (tree.InstanceVariable 24 (codes "x")) assignment.Plain 27 (name 29 (codes "v"))) ∷ [])), refl, (inl ((def_token ∷ []), (x ∷ equal ∷ opened ∷ v ∷ closed ∷ line2 ∷ variable ∷ set ∷ value ∷ line3 ∷ done ∷ []), 10, refl, (def_token, refl, (refl, refl)), ((x ∷ equal ∷ []), (opened ∷ v ∷ closed ∷ line2 ∷ variable ∷ set ∷ value ∷ line3 ∷ done ∷ []), (codes "x="), refl, (inr (inl ((x ∷ []), (equal ∷ []), (record { at = 14; text = codes "x" }), refl, (x, refl, (refl, refl)), ((equal ∷ []), [], 15, refl, (refl, (refl, (equal, refl, (refl, refl)))), (refl, refl))))), ((opened ∷ v ∷ closed ∷ []), (line2 ∷ variable ∷ set ∷ value ∷ line3 ∷ done ∷ []), ((tree.Parameter 17 false (codes "v") None) ∷ []), refl, (inl (refl, ((opened ∷ []), (v ∷ closed ∷ []), 16, refl, (opened, refl, (refl, refl)), ([], (v ∷ closed ∷ []), tt, refl, d.no_seps, ((v ∷ []), (closed ∷ []), ((tree.Parameter 17 false (codes "v") None) ∷ []), refl, (inl ((v ∷ []), [], (tree.Parameter 17 false (codes "v") None), refl, (inl ((v ∷ []), [], (record { at = 17; text = codes "v" }), refl, (v, refl, (refl, refl)), ([], [], None, refl, refl, (refl, refl)))), ([], [], [], refl, refl, (refl, refl)))), ([], (closed ∷ []), tt, refl, d.no_seps, ((closed ∷ []), [], 18, refl, (closed, refl, (refl, refl)), (refl, refl)))))))), ([], (line2 ∷ variable ∷ set ∷ value ∷ line3 ∷ done ∷ []), None, refl, (inl (refl, refl)), ((line2 ∷ []), (variable ∷ set ∷ value ∷ line3 ∷ done ∷ []), 19, refl, (line2, refl, (refl, refl)), ((variable ∷ set ∷ value ∷ line3 ∷ []), (done ∷ []), ((tree.Assign 24 (tree.InstanceVariable 24 (codes "x")) assignment.Plain 27 (name 29 (codes "v"))) ∷ []), refl, ([], (variable ∷ set ∷ value ∷ line3 ∷ []), tt, refl, d.no_seps, ((variable ∷ set ∷ value ∷ []), (line3 ∷ []), ((tree.Assign 24 (tree.InstanceVariable 24 (codes "x")) assignment.Plain 27 (name 29 (codes "v"))) ∷ []), refl, (inl ((variable ∷ set ∷ value ∷ []), [], (tree.Assign 24 (tree.InstanceVariable 24 (codes "x")) assignment.Plain 27 (name 29 (codes "v"))), refl, (inl (inl (inl (d.assigned_of (Spells_in 1) (in_method true (codes "x=")) (λ w y. g.local (Spells_in 1) (in_method true (codes "x=")) w y ⊎ ex.variable (Spells_in 1) (in_method true (codes "x=")) true w y) o.any_assignment (variable ∷ []) set (value ∷ []) (tree.InstanceVariable 24 (codes "x")) (name 29 (codes "v")) assignment.Plain (inr (refl, ((variable ∷ []), [], (record { at = 24; text = codes "x" }), refl, (variable, refl, (refl, refl)), (refl, refl)))) refl (d.simple_of_primary (Spells_in 0) (in_method true (codes "x=")) _ _ (d.name_alone (Spells_in 0) (in_method true (codes "x=")) true value (codes "v") refl)))))), ([], [], [], refl, refl, (refl, refl)))), ((line3 ∷ []), [], tt, refl, (d.one_sep line3 refl), (refl, refl)))), ((done ∷ []), [], 33, refl, (done, refl, (refl, refl)), (refl, refl))))))))), ([], [], [], refl, refl, (refl, refl)))), ((line4 ∷ []), [], tt, refl, (d.one_sep line4 refl), (refl, refl)))), ((last ∷ []), [], 37, refl, (last, refl, (refl, refl)), (refl, refl))))))))), ([], [], [], refl, refl, (refl, refl)))), ([], [], tt, refl, d.no_seps, (refl, refl)))), ((end_token ∷ []), [], 40, refl, (end_token, refl, (refl, refl)), (refl, refl))))

pub words_out_of_place : e.WordsOutOfPlace
words_out_of_place = (
  λ x r. let begins = f.statements_begin top (spaced_at 0 5 (k.Plain l.Break) ∷ []) x r in absurd cc,
  λ x r. let begins = f.statements_begin top (spaced_at 0 5 (k.Plain l.Yield) ∷ []) x r in absurd cc,
  λ x r. let begins = f.statements_begin top (spaced_at 0 6 (k.Plain l.Return) ∷ []) x r in absurd cc,
  λ x r. let begins = f.statements_begin top (spaced_at 0 4 (k.Plain l.KeywordSelf) ∷ []) x r in absurd cc,
  λ x r. let begins = f.statements_begin top [] x r in absurd cc,
)
