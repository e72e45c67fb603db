-- A clause of `select` is read exactly: it goes on by the operand that is read.
use Rattle.std.proofs.Common.{ℕ, Bool, false, List, [], ◌∷◌, ◌++◌, inl, inr, refl, sym, ap, subst, ◌∙◌, append_assoc}
use Rattle.std.specs.Prelude.{Option, Some, None}
use Rattle.std.specs.Str.{bytes_eq}
use Rattle.std.proofs.lemmas.List.{append-nil}
use Rattle.cr_syntax.specs.declared.look.TokenLook.TheVariants as l
use Rattle.cr_syntax.specs.declared.token.Token.{Token}
use Rattle.cr_syntax.specs.declared.token.TokenKind.TheVariants as k
use Rattle.cr_grammar.specs.declared.tree.Tree.{Tree}
use Rattle.cr_grammar.specs.declared.tree.Tree.TheVariants as tree
use Rattle.cr_grammar.specs.declared.within.Within.{Within}
use Rattle.cr_grammar.specs.declared.word.Word.{Word}
use Rattle.cr_grammar.specs.Forms.{Form, nothing, ◌<|>◌, passing, where_true, maybe, repeated_of, repeated, word, is_tight, tight, seps, parenthesized}
use Rattle.cr_grammar.specs.Forms as f
use Rattle.cr_grammar.specs.Operators as names
use Rattle.cr_grammar.specs.declared.wanted.Wanted.{Wanted}
use Rattle.cr_grammar.specs.declared.wanted.Wanted.TheVariants.{Stmt}
use Rattle.cr_grammar.specs.Expressions as ex
use Rattle.cr_readers.specs.Reader.{Reader, Test, never, part, pure, ◌>>=◌}
use Rattle.cr_exact.specs.Exact.{Effort, Exact, Any}
use Rattle.cr_readers.specs.Goes as g
use Rattle.cr_readers.specs.Bodies as bodies
use Rattle.cr_readers.specs.declared.operand.Operand.{Operand}
use Rattle.cr_readers.specs.declared.operand.Operand.TheVariants.{Name, Field, Passing}
use Rattle.cr_readers.specs.Operand.{whole}
use Rattle.cr_readers.specs.Links as links
use Rattle.cr_exact.proofs.TokenTests.{Not, never_stops}
use Rattle.cr_exact.proofs.Sequence.{exact_bind, exact_pure, exact_map}
use Rattle.cr_exact.proofs.Tokens.{a_token, exact_word, exact_refuse, exact_allow}
use Rattle.cr_exact.proofs.Forms.{spelled_nothing, Spelled, spelled_bind, all_read, spelled_stmts, split}
use Rattle.cr_exact.proofs.Heads.{led_first, Fails, led_word, led, first_bind}
use Rattle.cr_exact.proofs.Follows.{follows_nothing}
use Rattle.cr_exact.proofs.Nodes.{exact_part}
use Rattle.cr_descent.proofs.Claims as claims
use Rattle.cr_descent.proofs.Operands as operands
use Rattle.cr_descent.proofs.Bodies.{exact_body, exact_then}
use Rattle.cr_descent.proofs.PostfixForms.{postfix_tree}
use Rattle.cr_descent.proofs.OperandForms.{name_alone, alone_name, is_receive, field_receive, receive_field, passing_send, send_passing}
use Rattle.cr_descent.proofs.Links.{exact_postfix}

module _ (Q : Wanted → Form Tree) (within : Within) (free : Bool) where
  -- then stmts, behind the operation of a clause
  abbrev pub clause_body : ℕ → Option Tree → Tree → Form Tree
  clause_body at target operation = f.◌>>◌ (ex.then Q) (f.◌>>=◌ (ex.body Q within) (λ body. nothing (tree.When at target operation body)))

  abbrev receiving : ℕ → Option Tree → Form Tree
  receiving at target = f.◌>>=◌ (ex.receive Q within free) (clause_body at target)

  -- what stands behind `when`
  abbrev clause : ℕ → Form Tree
  clause at = f.◌>>=◌ (maybe (ex.received_into Q within free)) (receiving at) <|> f.◌>>=◌ (nothing None) (λ target. f.◌>>=◌ (ex.send Q within free) (clause_body at target))

  -- what goes on behind an operand that is read, to a form
  abbrev Behind : Form Tree → Operand → Form Tree
  Behind R x w y = (v : List Token) → operands.postfix Q within free v x → R (v ++ w) y

  abbrev pub received_by : ℕ → Option Tree → Operand → Form Tree
  received_by at target (Field channel name) = where_true (is_receive Q within free name.text) (clause_body at target (whole (Field channel name)))
  received_by at target other = λ w y. ⊥

  abbrev pub clause_by : ℕ → Operand → Form Tree
  clause_by at (Name name) = f.◌>>◌ (word l.Equal) (f.◌>>=◌ (operands.postfix Q within free) (received_by at (Some (whole (Name name)))))
  clause_by at (Passing name channel value) = where_true (bytes_eq name.text names.send_name) (clause_body at None (whole (Passing name channel value)))
  clause_by at operation = received_by at None operation

  -- `.receive` and a new line may follow any operand
  receive_follows : (at : ℕ) (target : Option Tree) (x : Operand) → Spelled (Behind (receiving at target) x)
  receive_follows at target x =
      let dot = a_token (k.Plain l.Dot) in
      let receive = a_token (k.Ident names.receive_name) in
      let line = a_token (k.Plain l.Newline) in
      let name : Word = record { at = 0; text = names.receive_name } in
      let operation = whole (Field (whole x) name) in (
        dot ∷ receive ∷ line ∷ [],
        tree.When at target operation [],
        λ v c. (
          v ++ (dot ∷ receive ∷ []),
          line ∷ [],
          operation,
          sym (append_assoc v (dot ∷ receive ∷ []) (line ∷ [])),
          (
            v,
            dot ∷ receive ∷ [],
            whole x,
            refl,
            postfix_tree Q within free v x c,
            (dot ∷ [], receive ∷ [], 0, refl, (dot, refl, (refl, refl)), (receive ∷ [], [], name, refl, (receive, refl, (refl, refl)), (inl refl, (refl, refl)))),
          ),
          (line ∷ [], [], 0, refl, inl (line, refl, (refl, refl)), ([], [], [], refl, (spelled_stmts (Q (Stmt within))).2, (refl, refl))),
        ),
      )

  -- a clause begins with an operand, and goes on as that asks
  clause_out : (w : List Token) (y : Tree) → f.◌>>=◌ (word l.When) (λ at. f.◌>>=◌ (operands.postfix Q within free) (Behind (clause at))) w y → ex.when Q within free w y
  clause_out w y (a, b, at, e, r, (u, v, x, e', p, go)) = elim (go u p) [
    | inl c ↦ inl (a, u ++ v, at, e ∙ ap (λ (t : List Token). a ++ t) e', r, c)
    | inr c ↦ inr (a, u ++ v, at, e ∙ ap (λ (t : List Token). a ++ t) e', r, c)
  ]

  -- a receive is read as an operand that the rest asks to be one
  received_back : (at : ℕ) (target : Option Tree) (w : List Token) (y : Tree) → receiving at target w y → f.◌>>=◌ (operands.postfix Q within free) (received_by at target) w y
  received_back at target w y (a, b, operation, e, r, c) =
      let (x, name, p, is, same) = receive_field Q within free a operation r in
      (a, b, Field x name, e, p, (is, subst (λ v. clause_body at target v b y) same c))

  into_back : (at : ℕ) (target : Tree) (a c : List Token) (y : Tree) → ex.received_into Q within free a target → receiving at (Some target) c y → f.◌>>=◌ (operands.postfix Q within free) (clause_by at) (a ++ c) y
  into_back at target a c y (n, m, name, e, id, (q, q', equal_at, e', equal, (none, same))) r = (
    n,
    m ++ c,
    Name name,
    split a c n m e,
    alone_name Q within free n name id,
    (
      q,
      c,
      equal_at,
      ap (λ (t : List Token). t ++ c) (all_read m q q' e' none),
      equal,
      received_back at (Some (whole (Name name))) c y (subst (λ v. receiving at (Some v) c y) same r),
    ),
  )

  -- a Field goes on as without a target
  plain_by : (at : ℕ) (w : List Token) (y : Tree) → receiving at None w y → f.◌>>=◌ (operands.postfix Q within free) (clause_by at) w y
  plain_by at w y (a, b, operation, e, r, c) =
      let (x, name, p, is, same) = receive_field Q within free a operation r in
      (a, b, Field x name, e, p, (is, subst (λ v. clause_body at None v b y) same c))

  send_by : (at : ℕ) (w : List Token) (y : Tree) → f.◌>>=◌ (ex.send Q within free) (clause_body at None) w y → f.◌>>=◌ (operands.postfix Q within free) (clause_by at) w y
  send_by at w y (a, b, operation, e, r, c) =
      let (name, x, value, p, is, same) = send_passing Q within free a operation r in
      (a, b, Passing name x value, e, p, (is, subst (λ v. clause_body at None v b y) same c))

  behind_when : (at : ℕ) (w : List Token) (y : Tree) → clause at w y → f.◌>>=◌ (operands.postfix Q within free) (clause_by at) w y
  behind_when at w y (inl (a, c, None, e, none, r)) = plain_by at w y (subst (λ t. receiving at None t y) (sym (e ∙ ap (λ (t : List Token). t ++ c) none)) r)
  behind_when at w y (inl (a, c, Some target, e, into, r)) = subst (λ t. (f.◌>>=◌ (operands.postfix Q within free) (clause_by at)) t y) (sym e) (into_back at target a c y into r)
  behind_when at w y (inr (a, c, target, e, none, r)) =
      send_by at w y (subst (λ t. (f.◌>>=◌ (ex.send Q within free) (clause_body at None)) t y) (sym (e ∙ ap (λ (t : List Token). t ++ c) none.0))
      (subst (λ v. (f.◌>>=◌ (ex.send Q within free) (clause_body at v)) c y) none.1 r))

  pub clause_back : (w : List Token) (y : Tree) → ex.when Q within free w y → f.◌>>=◌ (word l.When) (λ at. f.◌>>=◌ (operands.postfix Q within free) (clause_by at)) w y
  clause_back w y (inl (a, c, at, e, r, d)) = (a, c, at, e, r, behind_when at c y (inl d))
  clause_back w y (inr (a, c, at, e, r, d)) = (a, c, at, e, r, behind_when at c y (inr d))

  -- neither `then` nor `=` goes on an operand
  body_ahead : (g : Test) → Not l.Newline g → Not l.Then g → (at : ℕ) (target : Option Tree) (operation : Tree) → Fails g (clause_body at target operation)
  body_ahead g line word_ at target operation = first_bind false g (ex.then Q) _ then_ahead where
    then_ahead : Fails g (ex.then Q)
    then_ahead w at rest (inl c) = led_first false l.Newline g line w rest (led_word l.Newline w at c)
    then_ahead w at rest (inr c) = led_first false l.Then g word_ w rest (led_word l.Then w at c)

  pub received_ahead : (at : ℕ) (target : Option Tree) (x : Operand) → Fails (g.goes_operand free) (received_by at target x)
  received_ahead at target (Field channel name) w y rest c = body_ahead (g.goes_operand free) (λ spaced. refl) (λ spaced. refl) at target (whole (Field channel name)) w y rest c.1
  received_ahead at target other w y rest c = absurd c

  pub clause_ahead : (at : ℕ) (x : Operand) → Fails (g.goes_operand free) (clause_by at x)
  clause_ahead at (Name name) w y rest c =
      led_first false l.Equal (g.goes_operand free) (λ spaced. refl) w rest (led l.Equal (λ _. f.◌>>=◌ (operands.postfix Q within free) (received_by at (Some (whole (Name name))))) w y c)
  clause_ahead at (Passing name channel value) w y rest c = body_ahead (g.goes_operand free) (λ spaced. refl) (λ spaced. refl) at None (whole (Passing name channel value)) w y rest c.1
  clause_ahead at (Field channel name) w y rest c = received_ahead at None (Field channel name) w y rest c
  clause_ahead at other w y rest c = absurd c

module _ {effort : Effort} {rec : Wanted → Reader Tree} {S T : Wanted → Form Tree} (given : claims.Given effort rec S T) where
  module _ (within : Within) (free : Bool) where
    abbrev read_postfix : Reader Operand
    read_postfix = links.postfix effort.turns rec within free

    abbrev BehindS : Form Tree → Operand → Form Tree
    BehindS = Behind S within free

    abbrev when_of : ℕ → Option Tree → Tree → List Tree → Form Tree
    when_of at target operation body = nothing (tree.When at target operation body)

    exact_clause_body : (at : ℕ) (target : Option Tree) (operation : Tree) → Exact effort Any (clause_body S within free at target operation) (clause_body T within free at target operation) g.goes_body
        (links.when_body effort.turns rec within free at target operation)
    exact_clause_body at target operation =
        exact_bind (λ _. f.◌>>=◌ (ex.body S within) (when_of at target operation)) (λ _. f.◌>>=◌ (ex.body T within) (when_of at target operation)) g.goes_body
        (λ _. bodies.body effort.turns rec within >>= λ body. pure (tree.When at target operation body))
        (exact_then given)
        (λ _. exact_bind (when_of at target operation) (when_of at target operation) g.goes_body (λ body. pure (tree.When at target operation body))
        (exact_body given within)
        (λ body. exact_pure effort (tree.When at target operation body) g.goes_body)
        (λ body. spelled_nothing (tree.When at target operation body))
        (λ body. follows_nothing g.goes_body g.goes_body (tree.When at target operation body) (λ look spaced e. e)))
        (λ _. spelled_bind (spelled_stmts (S (Stmt within))) (λ body. spelled_nothing (tree.When at target operation body)))
        (λ _ w y rest d stop. never_stops (w ++ rest))

    -- what was read is a receive, or no clause
    exact_received : (at : ℕ) (target : Option Tree) (x : Operand) → Exact effort Any (BehindS (receiving S within free at target) x) (received_by T within free at target x) g.goes_body
        (links.when_received effort.turns rec within free at target x)
    exact_received at target (Field channel name) =
        let some = receive_follows S within free at target (Field channel name) in
        exact_allow effort (is_receive S within free name.text) (BehindS (receiving S within free at target) (Field channel name)) (clause_body T within free at target (whole (Field channel name))) g.goes_body
        (links.when_body effort.turns rec within free at target (whole (Field channel name))) some.0 some.1 some.2
        (λ is. exact_map (BehindS (receiving S within free at target) (Field channel name)) (clause_body T within free at target (whole (Field channel name)))
        (λ w y c v p. (v, w, whole (Field channel name), refl, field_receive S within free v channel name p is, c))
        (λ w y c. c)
        (exact_clause_body at target (whole (Field channel name))))
    exact_received at target other =
        let some = receive_follows S within free at target other in
        exact_refuse effort (BehindS (receiving S within free at target) other) g.goes_body some.0 some.1 some.2

    -- a postfix that is a receive, behind what names where that goes
    exact_receiving : (at : ℕ) (target : Tree) → Exact effort Any (f.◌>>=◌ (operands.postfix S within free) (BehindS (receiving S within free at (Some target))))
        (f.◌>>=◌ (operands.postfix T within free) (received_by T within free at (Some target))) g.goes_body (part read_postfix >>= links.when_received effort.turns rec within free at (Some target))
    exact_receiving at target =
        exact_bind (BehindS (receiving S within free at (Some target))) (received_by T within free at (Some target)) g.goes_body (links.when_received effort.turns rec within free at (Some target))
        (exact_part read_postfix (exact_postfix given within free))
        (exact_received at (Some target))
        (receive_follows S within free at (Some target))
        (λ x w y rest d stop. received_ahead T within free at (Some target) x w y rest d)

    abbrev Clause : ℕ → Operand → Form Tree
    Clause at = BehindS (clause S within free at)

    received_clause : (at : ℕ) (x : Operand) (w : List Token) (y : Tree) → BehindS (receiving S within free at None) x w y → Clause at x w y
    received_clause at x w y c v p = inl ([], v ++ w, None, refl, refl, c v p)

    clause_follows : (at : ℕ) (x : Operand) → Spelled (Clause at x)
    clause_follows at x = let some = receive_follows S within free at None x in (some.0, some.1, received_clause at x some.0 some.1 some.2)

    name_follows : (at : ℕ) (target : Tree) → Spelled (f.◌>>=◌ (operands.postfix S within free) (BehindS (receiving S within free at (Some target))))
    name_follows at target =
        let name : Word = record { at = 0; text = [] } in
        let some = receive_follows S within free at (Some target) (Name name) in
        let token = a_token (k.Ident []) in
        (token ∷ some.0, some.1, (token ∷ [], some.0, Name name, refl, alone_name S within free (token ∷ []) name (token, refl, (refl, refl)), some.2))

    into_clause : (at : ℕ) (name : Word) (w : List Token) (y : Tree) → f.◌>>◌ (word l.Equal) (f.◌>>=◌ (operands.postfix S within free) (BehindS (receiving S within free at (Some (whole (Name name)))))) w y → Clause at (Name name) w y
    into_clause at name w y (a, b, equal_at, e, r, (u, u', x, e', p, go)) v q =
        inl (
          v ++ a,
          b,
          Some (whole (Name name)),
          ap (λ (t : List Token). v ++ t) e ∙ sym (append_assoc v a b),
          (v, a, name, refl, name_alone S within free v name q, (a, [], equal_at, sym (append-nil a), r, (refl, refl))),
          subst (λ t. receiving S within free at (Some (whole (Name name))) t y) (sym e') (go u p),
        )

    exact_clause : (at : ℕ) (x : Operand) → Exact effort Any (Clause at x) (clause_by T within free at x) g.goes_body (links.when_by effort.turns rec within free at x)
    exact_clause at (Name name) =
        let target = whole (Name name) in
        exact_map (Clause at (Name name)) (clause_by T within free at (Name name)) (into_clause at name) (λ w y c. c)
        (exact_bind (λ _. f.◌>>=◌ (operands.postfix S within free) (BehindS (receiving S within free at (Some target)))) (λ _. f.◌>>=◌ (operands.postfix T within free) (received_by T within free at (Some target)))
        g.goes_body (λ _. part read_postfix >>= links.when_received effort.turns rec within free at (Some target))
        (exact_word effort (k.Plain l.Equal) never)
        (λ _. exact_receiving at target)
        (λ _. name_follows at target)
        (λ _ w y rest d stop. never_stops (w ++ rest)))
    exact_clause at (Passing name channel value) =
        let some = clause_follows at (Passing name channel value) in
        let operation = whole (Passing name channel value) in
        exact_allow effort (bytes_eq name.text names.send_name) (Clause at (Passing name channel value)) (clause_body T within free at None operation) g.goes_body
        (links.when_body effort.turns rec within free at None operation) some.0 some.1 some.2
        (λ is. exact_map (Clause at (Passing name channel value)) (clause_body T within free at None operation)
        (λ w y c v p. inr ([], v ++ w, None, refl, (refl, refl), (v, w, operation, refl, passing_send S within free v name channel value p is, c)))
        (λ w y c. c)
        (exact_clause_body at None operation))
    exact_clause at (Field channel name) =
        exact_map (Clause at (Field channel name)) (received_by T within free at None (Field channel name)) (received_clause at (Field channel name)) (λ w y c. c) (exact_received at None (Field channel name))
    exact_clause at other = exact_map (Clause at other) (received_by T within free at None other) (received_clause at other) (λ w y c. c) (exact_received at None other)

    abbrev read_clause : ℕ → Reader Tree
    read_clause at = part read_postfix >>= links.when_by effort.turns rec within free at

    exact_behind_when : (at : ℕ) → Exact effort Any (f.◌>>=◌ (operands.postfix S within free) (Clause at)) (f.◌>>=◌ (operands.postfix T within free) (clause_by T within free at)) g.goes_body (read_clause at)
    exact_behind_when at =
        exact_bind (Clause at) (clause_by T within free at) g.goes_body (links.when_by effort.turns rec within free at)
        (exact_part read_postfix (exact_postfix given within free)) (exact_clause at) (clause_follows at)
        (λ x w y rest d stop. clause_ahead T within free at x w y rest d)

  pub exact_when : (within : Within) (free : Bool) → claims.WhenClause effort rec S T within free
  exact_when within free =
      exact_map (ex.when S within free) (ex.when T within free) (clause_out S within free) (clause_back T within free)
      (exact_bind (λ at. f.◌>>=◌ (operands.postfix S within free) (Clause within free at)) (λ at. f.◌>>=◌ (operands.postfix T within free) (clause_by T within free at)) g.goes_body (read_clause within free)
      (exact_word effort (k.Plain l.When) never)
      (exact_behind_when within free)
      some
      (λ _ w y rest d stop. never_stops (w ++ rest))) where
        some : (at : ℕ) → Spelled (f.◌>>=◌ (operands.postfix S within free) (Clause within free at))
        some at =
            let name : Word = record { at = 0; text = [] } in
            let rest = clause_follows within free at (Name name) in
            let token = a_token (k.Ident []) in
            (token ∷ rest.0, rest.1, (token ∷ [], rest.0, Name name, refl, alone_name S within free (token ∷ []) name (token, refl, (refl, refl)), rest.2))
