-- Each token that begins a value or a statement begins something spelled.
use Rattle.std.proofs.Common.{◌≡◌, ℕ, Bool, true, false, List, [], ◌∷◌, ◌++◌, inl, inr, refl, sym, ap}
use Rattle.std.specs.Prelude.{None}
use Rattle.std.proofs.lemmas.List.{append-nil}
use Rattle.cr_syntax.specs.declared.look.TokenLook.{TokenLook}
use Rattle.cr_syntax.specs.declared.look.TokenLook.TheVariants as l
use Rattle.cr_syntax.specs.declared.token.Token.{Token}
use Rattle.cr_syntax.specs.declared.token.TokenKind.{TokenKind}
use Rattle.cr_syntax.specs.declared.token.TokenKind.TheVariants as k
use Rattle.cr_syntax.specs.Look.{look_of}
use Rattle.cr_grammar.specs.declared.operator.Unary.TheVariants as prefix
use Rattle.cr_grammar.specs.declared.tree.Tree.{Tree}
use Rattle.cr_grammar.specs.declared.tree.Tree.TheVariants as tree
use Rattle.cr_grammar.specs.declared.within.Within.{Within}
use Rattle.cr_grammar.specs.declared.word.Atom.{Atom}
use Rattle.cr_grammar.specs.Forms.{Form, word}
use Rattle.cr_grammar.specs.Forms as f
use Rattle.cr_grammar.specs.Operators as o
use Rattle.cr_grammar.specs.declared.wanted.Wanted.{Wanted}
use Rattle.cr_grammar.specs.declared.wanted.Wanted.TheVariants.{Written, When, Unary, Or, Simple, Stmt}
use Rattle.cr_grammar.specs.Wanted.{in_loop, in_object, in_block}
use Rattle.cr_grammar.specs.Laws.{begins_or, begins_stmt}
use Rattle.cr_grammar.specs.Expressions as ex
use Rattle.cr_grammar.specs.Grammar as gr
use Rattle.cr_grammar.proofs.Derive as derive
use Rattle.cr_exact.specs.Exact.{hollow}
use Rattle.cr_exact.proofs.Forms.{Spelled, no_seps}
use Rattle.cr_exact.proofs.Tokens.{a_token}

module _ (Q : Wanted → Form Tree) (some : (v : Wanted) → Spelled (Q v)) (within : Within) where
  module _ (free : Bool) where
    -- something spelled that begins with this token
    abbrev Opened : Token → Form Tree → Type 0
    Opened t R = (w : List Token) × (x : Tree) × R (t ∷ w) x

    abbrev one : (look : TokenLook) → word look (a_token (k.Plain look) ∷ []) 0
    one look = (a_token (k.Plain look), refl, (refl, refl))

    abbrev here : (t : Token) (look : TokenLook) → t.kind ≡ k.Plain look → word look (t ∷ []) t.span.first
    here t look e = (t, refl, (ap look_of e, refl))

    abbrev end_ : Token
    end_ = a_token (k.Plain l.KeywordEnd)

    abbrev line : Token
    line = a_token (k.Plain l.Newline)

    abbrev open_brace : Token
    open_brace = a_token (k.Plain l.OpenBrace)

    abbrev close_brace : Token
    close_brace = a_token (k.Plain l.CloseBrace)

    abbrev bracket : Token
    bracket = a_token (k.Plain l.CloseBracket)

    -- ---- what holds a text

    text_opened : (t : Token) (text : List ℕ) → t.kind ≡ k.Text text → Opened t (ex.primary Q within free)
    text_opened t text e = ([], tree.Text t.span.first text, inr (inl (inl (t ∷ [], [], record { at = t.span.first; text = text }, refl, (t, refl, (e, refl)), (refl, refl)))))

    insertions_opened : (t : Token) (text : List ℕ) → t.kind ≡ k.TextFirst text → Opened t (ex.primary Q within free)
    insertions_opened t text e =
        let v = some (Or within free) in
        let last = a_token (k.TextLast []) in (
          v.0 ++ (last ∷ []),
          tree.Insertions t.span.first (text ∷ [] ∷ []) (v.1 ∷ []),
          inr (inl (inr (
            t ∷ [],
            v.0 ++ (last ∷ []),
            record { at = t.span.first; text = text },
            refl,
            (t, refl, (e, refl)),
            (v.0, last ∷ [], v.1, refl, v.2, ([], last ∷ [], [], refl, refl, (last ∷ [], [], record { at = 0; text = [] }, refl, (last, refl, (refl, refl)), (refl, refl)))),
          ))),
        )

    variable_opened : (t : Token) (text : List ℕ) → t.kind ≡ k.InstanceVariable text → in_object within ≡ true → Opened t (ex.primary Q within free)
    variable_opened t text e is = (
      [],
      tree.InstanceVariable t.span.first text,
      inr (inr (inr (inr (inl (is, (t ∷ [], [], record { at = t.span.first; text = text }, refl, (t, refl, (e, refl)), (refl, refl))))))),
    )

    class_opened : (t : Token) (text : List ℕ) → t.kind ≡ k.Constant text → Opened t (ex.primary Q within free)
    class_opened t text e =
        let dot = a_token (k.Plain l.Dot) in
        let new = a_token (k.Ident o.new_name) in
        let class : Atom = record { path = record { at = t.span.first; names = text ∷ [] }; arguments = []; question = None } in
        let atom : ex.atom Q true (t ∷ []) class = (
          t ∷ [],
          [],
          class.path,
          refl,
          (t ∷ [], [], record { at = t.span.first; text = text }, refl, (t, refl, (e, refl)), ([], [], [], refl, refl, (refl, refl))),
          ([], [], [], refl, inr (refl, refl), ([], [], None, refl, refl, (refl, refl))),
        ) in (
          dot ∷ new ∷ [],
          tree.New 0 (ex.atom_tree class) false [] None,
          inr (inr (inr (inr (inr (inr (inr (inl (
            t ∷ [],
            dot ∷ new ∷ [],
            class,
            refl,
            atom,
            (
              dot ∷ [],
              new ∷ [],
              0,
              refl,
              one l.Dot,
              (new ∷ [], [], 0, refl, (new, refl, (refl, refl)), ([], [], [], refl, inr (refl, refl), ([], [], None, refl, inr ((λ same. cc), (refl, refl)), (refl, refl)))),
            ),
          )))))))),
        )

    -- ---- a word

    self_opened : (t : Token) → t.kind ≡ k.Plain l.KeywordSelf → in_object within ≡ true → Opened t (ex.primary Q within free)
    self_opened t e is = ([], tree.KeywordSelf t.span.first, inr (inr (inr (inl (is, (t ∷ [], [], t.span.first, refl, here t l.KeywordSelf e, (refl, refl)))))))

    yield_opened : (t : Token) → t.kind ≡ k.Plain l.Yield → within.method ≡ true → Opened t (ex.primary Q within free)
    yield_opened t e is = (
      [],
      tree.Yield t.span.first [],
      inr (inr (inr (inr (inr (inr (inl (is, inl (t ∷ [], [], t.span.first, refl, here t l.Yield e, ([], [], [], refl, inr (refl, refl), (refl, refl)))))))))),
    )

    super_opened : (t : Token) → t.kind ≡ k.Plain l.Super → within.method ≡ true → Opened t (ex.primary Q within free)
    super_opened t e is = ([], tree.BareSuper t.span.first, inr (inr (inr (inr (inr (inr (inl (is, inr (inl (t ∷ [], [], t.span.first, refl, here t l.Super e, (refl, refl)))))))))))

    -- ---- an opening token

    array_opened : (t : Token) → t.kind ≡ k.Plain l.OpenBracket → Opened t (ex.primary Q within free)
    array_opened t e = (
      bracket ∷ [],
      tree.Array t.span.first [] None,
      inr (inr (inr (inr (inr (inr (inr (inr (inr (inl (
        t ∷ [],
        bracket ∷ [],
        t.span.first,
        refl,
        here t l.OpenBracket e,
        (
          [],
          bracket ∷ [],
          tt,
          refl,
          no_seps,
          (
            [],
            bracket ∷ [],
            [],
            refl,
            inr (refl, refl),
            ([], bracket ∷ [], tt, refl, no_seps, (bracket ∷ [], [], 0, refl, one l.CloseBracket, ([], [], None, refl, refl, (refl, refl)))),
          ),
        ),
      )))))))))),
    )

    hash_opened : (t : Token) → t.kind ≡ k.Plain l.OpenBrace → Opened t (ex.primary Q within free)
    hash_opened t e = (
      close_brace ∷ [],
      tree.Hash t.span.first [] None,
      inr (inr (inr (inr (inr (inr (inr (inr (inr (inr (inl (
        t ∷ [],
        close_brace ∷ [],
        t.span.first,
        refl,
        here t l.OpenBrace e,
        (
          [],
          close_brace ∷ [],
          tt,
          refl,
          no_seps,
          ([], close_brace ∷ [], [], refl, inr (refl, refl), (close_brace ∷ [], [], 0, refl, one l.CloseBrace, ([], [], None, refl, refl, (refl, refl)))),
        ),
      ))))))))))),
    )

    parenthesis_opened : (t : Token) → t.kind ≡ k.Plain l.OpenParenthesis → Opened t (ex.primary Q within free)
    parenthesis_opened t e =
        let v = some (Stmt within) in
        let closing = a_token (k.Plain l.CloseParenthesis) in (
          v.0 ++ (closing ∷ []),
          v.1,
          inr (inr (inr (inr (inr (inr (inr (inr (inr (inr (inr (inl (derive.parenthesized_of (Q (Stmt within)) t v.0 closing v.1 (ap look_of e) v.2 refl)))))))))))),
        )

    spawn_opened : (t : Token) → t.kind ≡ k.Plain l.Spawn → Opened t (ex.primary Q within free)
    spawn_opened t e = (
      open_brace ∷ close_brace ∷ [],
      tree.Spawn t.span.first None [],
      inr (inr (inr (inr (inr (inr (inr (inr (inr (inr (inr (inr (inl (
        t ∷ [],
        open_brace ∷ close_brace ∷ [],
        t.span.first,
        refl,
        here t l.Spawn e,
        (
          open_brace ∷ close_brace ∷ [],
          [],
          [],
          refl,
          inl (
            open_brace ∷ [],
            close_brace ∷ [],
            0,
            refl,
            one l.OpenBrace,
            ([], close_brace ∷ [], [], refl, derive.no_line (Q (Stmt (in_block within))), (close_brace ∷ [], [], 0, refl, one l.CloseBrace, (refl, refl))),
          ),
          (refl, refl),
        ),
      ))))))))))))),
    )

    -- ---- a construct with an `end`

    conditional_opened : (t : Token) (look : TokenLook) (unless : Bool) (R : Form (List Tree)) → R [] [] → t.kind ≡ k.Plain look → Opened t (ex.conditional_of Q within free look unless R)
    conditional_opened t look unless R none e =
        let v = some (Simple within) in (
          v.0 ++ (line ∷ end_ ∷ []),
          tree.If t.span.first unless v.1 [] [] None,
          (
            t ∷ [],
            v.0 ++ (line ∷ end_ ∷ []),
            t.span.first,
            refl,
            here t look e,
            (
              v.0,
              line ∷ end_ ∷ [],
              v.1,
              refl,
              v.2,
              (
                line ∷ [],
                end_ ∷ [],
                0,
                refl,
                inl (one l.Newline),
                (
                  [],
                  end_ ∷ [],
                  [],
                  refl,
                  derive.no_line (Q (Stmt within)),
                  ([], end_ ∷ [], [], refl, none, ([], end_ ∷ [], None, refl, refl, (end_ ∷ [], [], 0, refl, one l.KeywordEnd, (refl, refl)))),
                ),
              ),
            ),
          ),
        )

    loop_opened : (t : Token) (look : TokenLook) (until : Bool) → t.kind ≡ k.Plain look → Opened t (ex.looping_of Q within free look until)
    loop_opened t look until e =
        let v = some (Simple (in_loop within)) in (
          v.0 ++ (line ∷ end_ ∷ []),
          tree.While t.span.first until v.1 [],
          (
            t ∷ [],
            v.0 ++ (line ∷ end_ ∷ []),
            t.span.first,
            refl,
            here t look e,
            (
              v.0,
              line ∷ end_ ∷ [],
              v.1,
              refl,
              v.2,
              (
                line ∷ [],
                end_ ∷ [],
                0,
                refl,
                one l.Newline,
                ([], end_ ∷ [], [], refl, derive.no_line (Q (Stmt (in_loop within))), (end_ ∷ [], [], 0, refl, one l.KeywordEnd, (refl, refl))),
              ),
            ),
          ),
        )

    case_opened : (t : Token) → t.kind ≡ k.Plain l.Case → Opened t (ex.cases Q within free)
    case_opened t e =
        let v = some (Simple within) in
        let type = some (Written false) in
        let in_word = a_token (k.Plain l.In) in
        let clause = in_word ∷ (type.0 ++ (line ∷ [])) in
        let clause_tree = tree.In 0 (type.1 ∷ []) [] in
        let spelled : ex.in_clause Q within free clause clause_tree = (
          in_word ∷ [],
          type.0 ++ (line ∷ []),
          0,
          refl,
          one l.In,
          (
            type.0,
            line ∷ [],
            type.1 ∷ [],
            refl,
            derive.one_listed (Q (Written false)) type.0 type.1 type.2,
            (line ∷ [], [], 0, refl, inl (one l.Newline), ([], [], [], refl, derive.no_line (Q (Stmt within)), (refl, refl))),
          ),
        ) in (
          v.0 ++ (line ∷ (clause ++ (end_ ∷ []))),
          tree.Case t.span.first v.1 (clause_tree ∷ []),
          (
            t ∷ [],
            v.0 ++ (line ∷ (clause ++ (end_ ∷ []))),
            t.span.first,
            refl,
            here t l.Case e,
            (
              v.0,
              line ∷ (clause ++ (end_ ∷ [])),
              v.1,
              refl,
              v.2,
              (
                line ∷ [],
                clause ++ (end_ ∷ []),
                0,
                refl,
                one l.Newline,
                (
                  [],
                  clause ++ (end_ ∷ []),
                  tt,
                  refl,
                  no_seps,
                  (
                    clause,
                    end_ ∷ [],
                    clause_tree ∷ [],
                    refl,
                    (clause, [], clause_tree, sym (append-nil clause), spelled, ([], [], [], refl, refl, (refl, refl))),
                    (end_ ∷ [], [], 0, refl, one l.KeywordEnd, (refl, refl)),
                  ),
                ),
              ),
            ),
          ),
        )

    select_opened : (t : Token) → t.kind ≡ k.Plain l.Select → Opened t (ex.select Q within free)
    select_opened t e =
        let v = some (When within free) in (
          line ∷ (v.0 ++ (end_ ∷ [])),
          tree.Select t.span.first (v.1 ∷ []) None,
          (
            t ∷ [],
            line ∷ (v.0 ++ (end_ ∷ [])),
            t.span.first,
            refl,
            here t l.Select e,
            (
              line ∷ [],
              v.0 ++ (end_ ∷ []),
              0,
              refl,
              one l.Newline,
              (
                [],
                v.0 ++ (end_ ∷ []),
                tt,
                refl,
                no_seps,
                (
                  v.0,
                  end_ ∷ [],
                  v.1 ∷ [],
                  refl,
                  (v.0, [], v.1, sym (append-nil v.0), v.2, ([], [], [], refl, refl, (refl, refl))),
                  ([], end_ ∷ [], None, refl, refl, (end_ ∷ [], [], 0, refl, one l.KeywordEnd, (refl, refl))),
                ),
              ),
            ),
          ),
        )

    -- ---- any of them

    prefix_opened : (t : Token) (look : TokenLook) (make : ℕ → Tree → Tree) → t.kind ≡ k.Plain look → Opened t (ex.unary_of Q within free look make)
    prefix_opened t look make e =
        let v = some (Unary within free) in
        (v.0, make t.span.first v.1, (t ∷ [], v.0, t.span.first, refl, here t look e, (v.0, [], v.1, sym (append-nil v.0), v.2, (refl, refl))))

    leaf_opened : (t : Token) (look : TokenLook) (make : ℕ → Tree) → t.kind ≡ k.Plain look → ex.leaf Q within free look make (t ∷ []) (make t.span.first)
    leaf_opened t look make e = (t ∷ [], [], t.span.first, refl, here t look e, (refl, refl))

    abbrev of_primary : (t : Token) → Opened t (ex.primary Q within free) → Opened t (ex.or Q within free)
    of_primary t c = (c.0, c.1, derive.or_of_primary Q within free _ _ c.2)

    by_kind : (t : Token) (kind : TokenKind) → t.kind ≡ kind → hollow kind ≡ false → begins_or within (look_of kind) ≡ true → Opened t (ex.or Q within free)
    by_kind t (k.Ident text) e full is = of_primary t ([], _, derive.name_alone Q within free t text e)
    by_kind t (k.Constant text) e full is = of_primary t (class_opened t text e)
    by_kind t (k.InstanceVariable text) e full is = of_primary t (variable_opened t text e is)
    by_kind t (k.Int32 n) e full is = of_primary t ([], _, derive.number_alone Q within free t n e)
    by_kind t (k.Int64 n) e full is = of_primary t ([], tree.Int64 t.span.first n, inl (t, refl, inr (n, e, refl)))
    by_kind t (k.Text text) e full is = of_primary t (text_opened t text e)
    by_kind t (k.TextFirst text) e full is = of_primary t (insertions_opened t text e)
    by_kind t (k.Plain l.Nil) e full is = of_primary t ([], _, inr (inr (inl (inl (leaf_opened t l.Nil (λ at. tree.Nil at) e)))))
    by_kind t (k.Plain l.True) e full is = of_primary t ([], _, inr (inr (inl (inr (inl (leaf_opened t l.True (λ at. tree.True at) e))))))
    by_kind t (k.Plain l.False) e full is = of_primary t ([], _, inr (inr (inl (inr (inr (leaf_opened t l.False (λ at. tree.False at) e))))))
    by_kind t (k.Plain l.KeywordSelf) e full is = of_primary t (self_opened t e is)
    by_kind t (k.Plain l.Yield) e full is = of_primary t (yield_opened t e is)
    by_kind t (k.Plain l.Super) e full is = of_primary t (super_opened t e is)
    by_kind t (k.Plain l.OpenBracket) e full is = of_primary t (array_opened t e)
    by_kind t (k.Plain l.OpenBrace) e full is = of_primary t (hash_opened t e)
    by_kind t (k.Plain l.OpenParenthesis) e full is = of_primary t (parenthesis_opened t e)
    by_kind t (k.Plain l.Spawn) e full is = of_primary t (spawn_opened t e)
    by_kind t (k.Plain l.If) e full is =
        let c = conditional_opened t l.If false (f.many (ex.elsif Q within free)) refl e in
        of_primary t (c.0, c.1, inr (inr (inr (inr (inr (inr (inr (inr (inr (inr (inr (inr (inr (inl (inl c.2)))))))))))))))
    by_kind t (k.Plain l.Unless) e full is =
        let c = conditional_opened t l.Unless true (f.nothing []) (refl, refl) e in
        of_primary t (c.0, c.1, inr (inr (inr (inr (inr (inr (inr (inr (inr (inr (inr (inr (inr (inl (inr c.2)))))))))))))))
    by_kind t (k.Plain l.While) e full is =
        let c = loop_opened t l.While false e in
        of_primary t (c.0, c.1, inr (inr (inr (inr (inr (inr (inr (inr (inr (inr (inr (inr (inr (inr (inl (inl c.2))))))))))))))))
    by_kind t (k.Plain l.Until) e full is =
        let c = loop_opened t l.Until true e in
        of_primary t (c.0, c.1, inr (inr (inr (inr (inr (inr (inr (inr (inr (inr (inr (inr (inr (inr (inl (inr c.2))))))))))))))))
    by_kind t (k.Plain l.Case) e full is =
        let c = case_opened t e in
        of_primary t (c.0, c.1, inr (inr (inr (inr (inr (inr (inr (inr (inr (inr (inr (inr (inr (inr (inr (inl c.2))))))))))))))))
    by_kind t (k.Plain l.Select) e full is =
        let c = select_opened t e in
        of_primary t (c.0, c.1, inr (inr (inr (inr (inr (inr (inr (inr (inr (inr (inr (inr (inr (inr (inr (inr c.2))))))))))))))))
    by_kind t (k.Plain l.Bang) e full is = let c = prefix_opened t l.Bang (λ at x. tree.Unary at prefix.Not x) e in (c.0, c.1, derive.or_of_unary Q within free _ _ (inl c.2))
    by_kind t (k.Plain l.Minus) e full is = let c = prefix_opened t l.Minus (λ at x. tree.Unary at prefix.Negate x) e in (c.0, c.1, derive.or_of_unary Q within free _ _ (inr (inl c.2)))
    by_kind t other e full is = absurd cc

    pub or_opened : (t : Token) → hollow t.kind ≡ false → begins_or within (look_of t.kind) ≡ true → Opened t (ex.or Q within free)
    or_opened t full is = by_kind t t.kind refl full is

  -- ---- a statement

  stmt_by : (t : Token) (kind : TokenKind) → t.kind ≡ kind → hollow kind ≡ false → begins_stmt within (look_of kind) ≡ true → Opened true t (gr.stmt Q within)
  stmt_by t (k.Plain l.Return) e full is =
      ([], tree.Return t.span.first None, inl (inr (inr (inl (inl (is, (t ∷ [], [], t.span.first, refl, (t, refl, (ap look_of e, refl)), ([], [], None, refl, refl, (refl, refl)))))))))
  stmt_by t (k.Plain l.Next) e full is =
      ([], tree.Next t.span.first None, inl (inr (inr (inl (inr (inl (is, (t ∷ [], [], t.span.first, refl, (t, refl, (ap look_of e, refl)), ([], [], None, refl, refl, (refl, refl))))))))))
  stmt_by t (k.Plain l.Break) e full is =
      ([], tree.Break t.span.first, inl (inr (inr (inl (inr (inr (is, (t ∷ [], [], t.span.first, refl, (t, refl, (ap look_of e, refl)), (refl, refl)))))))))
  stmt_by t kind e full is = let c = by_kind true t kind e full is in (c.0, c.1, inl (inr (inr (inr c.2))))

  pub stmt_opened : (t : Token) → hollow t.kind ≡ false → begins_stmt within (look_of t.kind) ≡ true → Opened true t (gr.stmt Q within)
  stmt_opened t full is = stmt_by t t.kind refl full is
