-- `A.new` and `Fiber.yield` are read exactly.
use Rattle.std.proofs.Common.{◌≡◌, ℕ, Bool, true, false, List, [], ◌∷◌, ◌++◌, map, Option, Some, None, inl, inr, refl, sym, ap, subst, ◌∙◌}
use Rattle.std.proofs.lemmas.Bool.{and_parts, both_ways}
use Rattle.std.specs.Prelude.{is_some}
use Rattle.std.proofs.lemmas.List.{append-nil}
use Rattle.std.proofs.lemmas.Slice.Eq.{bytes_eq-Decides}
use Rattle.cr_syntax.specs.declared.look.TokenLook.{TokenLook}
use Rattle.cr_syntax.specs.declared.look.TokenLook.TheVariants as l
use Rattle.cr_syntax.specs.declared.token.Token.{Token}
use Rattle.cr_syntax.specs.declared.token.TokenKind.TheVariants as k
use Rattle.cr_syntax.specs.Look.{look_of}
use Rattle.cr_grammar.specs.declared.tree.Tree.{Tree}
use Rattle.cr_grammar.specs.declared.tree.Tree.TheVariants as tree
use Rattle.cr_grammar.specs.declared.within.Within.{Within}
use Rattle.cr_grammar.specs.declared.word.Word.{Word}
use Rattle.cr_grammar.specs.Forms.{Form}
use Rattle.cr_grammar.specs.Forms as f
use Rattle.cr_grammar.specs.Operators as o
use Rattle.cr_grammar.specs.declared.wanted.Wanted.{Wanted}
use Rattle.cr_grammar.specs.declared.word.Atom.{Atom}
use Rattle.cr_grammar.specs.declared.word.Path.{Path}
use Rattle.cr_grammar.specs.Expressions as ex
use Rattle.cr_readers.specs.Reader.{Reader, Test, tight_seen, never, by_look, wrap, pure, ◌>>=◌}
use Rattle.cr_exact.specs.Exact.{Effort, Exact, Any}
use Rattle.cr_readers.specs.Goes.{goes_type, goes_primary}
use Rattle.cr_readers.specs.Bodies as bodies
use Rattle.cr_readers.specs.Primaries as primaries
use Rattle.cr_exact.proofs.Sequence.{exact_bind, exact_pure, exact_map, weaken}
use Rattle.cr_exact.proofs.Tokens.{Looks, Branch, by_first, a_token, exact_word, exact_by, branch_where}
use Rattle.cr_exact.proofs.Forms.{spelled_nothing, spelled_word, Spelled, spelled_bind, all_read, spelled_stmts}
use Rattle.cr_exact.proofs.Heads.{led, Fails, led_at}
use Rattle.cr_exact.proofs.Follows.{follows_bind, follows_led, follows_never, Follows, follows_nothing}
use Rattle.cr_exact.proofs.Nodes.{exact_silent, silent_wrap}
use Rattle.cr_descent.proofs.Words.{exact_exactly_ident}
use Rattle.cr_descent.proofs.Operands as operands
use Rattle.cr_descent.proofs.Claims as claims
use Rattle.cr_descent.proofs.Types.{exact_atom}
use Rattle.cr_descent.proofs.Bodies.{exact_plain, exact_arguments, no_parenthesis, parenthesis_less}
use Rattle.cr_descent.proofs.PostfixForms.{arguments_list, list_arguments}

-- ---- paths

pub path_is : (xs ys : List (List ℕ)) → primaries.is_path xs ys ≡ true → xs ≡ ys
path_is [] [] e = refl
path_is [] (y ∷ ys) e = absurd cc
path_is (x ∷ xs) [] e = absurd cc
path_is (x ∷ xs) (y ∷ ys) e =
    let both = and_parts _ _ e in
    let first = (bytes_eq-Decides x y).0 both.0 in
    let rest = path_is xs ys both.1 in
    λ i. first i ∷ rest i

path_itself : (xs : List (List ℕ)) → primaries.is_path xs xs ≡ true
path_itself [] = refl
path_itself (x ∷ xs) = rw ((bytes_eq-Decides x x).1 refl) (path_itself xs)

pub path_same : (xs ys : List (List ℕ)) → xs ≡ ys → primaries.is_path xs ys ≡ true
path_same xs ys e = subst (λ v. primaries.is_path xs v ≡ true) e (path_itself xs)

bare_is : (arguments : List Tree) (question : Option ℕ) → primaries.is_bare arguments question ≡ true → (arguments ≡ []) × (question ≡ None)
bare_is [] None e = (refl, refl)
bare_is [] (Some at) e = absurd cc
bare_is (x ∷ xs) question e = absurd cc

-- ---- what is empty

none_of_it : (w a rest : List Token) → w ≡ a ++ rest → a ≡ [] → rest ≡ [] → w ≡ []
none_of_it w a rest e first none = all_read w a rest e none ∙ first

no_names : (more : List Word) → map (λ (x : Word). x.text) more ≡ [] → more ≡ []
no_names [] e = refl
no_names (x ∷ xs) e = absurd cc

-- R { "," R } is no empty list
list_real : {A : Type 0} (R : Form A) (w : List Token) (xs : List A) → f.tight (f.parenthesized (f.listed R)) w xs → xs ≡ [] → ⊥
list_real R w xs c e =
    let inner = c.1.5.5 in
    let list = inner.4 in
    let is : list.2 ∷ list.5.2 ≡ [] = sym list.5.5.1 ∙ sym inner.5.5.5.1 ∙ e in
    cc

-- ---- where a condition holds that has nothing to do with the tokens

module _ {effort : Effort} {rec : Wanted → Reader Tree} {S T : Wanted → Form Tree} (given : claims.Given effort rec S T) (within : Within) (free : Bool) where
  abbrev goes : Test
  goes = goes_primary free

  -- ---- the block of `Isolated.new`

  abbrev block_of : List Tree → Option Tree
  block_of body = Some (tree.Block [] body)

  pub plain_some : Spelled (ex.plain S within free)
  plain_some =
      let r = spelled_bind (spelled_word (k.Plain l.OpenBrace)) (λ _. spelled_bind (spelled_stmts _) (λ body. spelled_bind (spelled_word (k.Plain l.CloseBrace)) (λ _. spelled_nothing body))) in
      (r.0, r.1, inl r.2)

  block_out : (path : List (List ℕ)) → path ≡ o.isolated_path → (w : List Token) (x : Option Tree)
      → f.◌>>=◌ (ex.plain S within free) (λ body. f.nothing (block_of body)) w x → ex.new_block S within free path w x
  block_out path is w x c = inl (is, c.2, subst (λ (t : List Token). ex.plain S within free t c.2) (sym (all_read w c.0 c.1 c.3 c.5.0)) c.4, c.5.1)

  pub block_back : (path : List (List ℕ)) → path ≡ o.isolated_path → (w : List Token) (x : Option Tree)
      → ex.new_block T within free path w x → f.◌>>=◌ (ex.plain T within free) (λ body. f.nothing (block_of body)) w x
  block_back path is w x (inl c) = (w, [], c.1, sym (append-nil w), c.2, (refl, c.3))
  block_back path is w x (inr c) = absurd (c.0 is)

  pub no_block : (path : List (List ℕ)) → (path ≡ o.isolated_path → ⊥) → (w : List Token) (x : Option Tree) → ex.new_block T within free path w x → f.nothing None w x
  no_block path other w x (inl c) = absurd (other c.0)
  no_block path other w x (inr c) = c.1

  block_by : (path : List (List ℕ)) (flag : Bool) → primaries.is_path path o.isolated_path ≡ flag
      → Exact effort Any (ex.new_block S within free path) (ex.new_block T within free path) never (primaries.new_block effort.turns rec within free flag)
  block_by path true is =
      exact_map (ex.new_block S within free path) (ex.new_block T within free path) (block_out path (path_is _ _ is)) (block_back path (path_is _ _ is))
      (exact_bind (λ body. f.nothing (block_of body)) (λ body. f.nothing (block_of body)) never _ (exact_plain given within free)
      (λ body. exact_pure effort (block_of body) never)
      (λ body. spelled_nothing (block_of body))
      (λ body. follows_never (f.nothing (block_of body)) never))
  block_by path false is =
      let other : path ≡ o.isolated_path → ⊥ = λ same. both_ways _ is (path_same _ _ same) in
      exact_map (ex.new_block S within free path) (ex.new_block T within free path) (λ w x c. inr (other, c)) (no_block path other) (exact_pure effort None never)

  block_some_by : (path : List (List ℕ)) (flag : Bool) → primaries.is_path path o.isolated_path ≡ flag → Spelled (ex.new_block S within free path)
  block_some_by path true is = (plain_some.0, block_of plain_some.1, inl (path_is _ _ is, plain_some.1, plain_some.2, refl))
  block_some_by path false is = ([], None, inr (λ same. both_ways _ is (path_same _ _ same), (refl, refl)))

  block_some : (path : List (List ℕ)) → Spelled (ex.new_block S within free path)
  block_some path = block_some_by path _ refl

  -- A block begins with no parenthesis.
  plain_stops : Fails (tight_seen l.OpenParenthesis) (ex.plain T within free)
  plain_stops = no_parenthesis free _ _

  pub block_follows : (path : List (List ℕ)) → Follows (tight_seen l.OpenParenthesis) (ex.new_block T within free path) (tight_seen l.OpenParenthesis)
  block_follows path w x rest (inl c) stop = plain_stops w c.1 rest c.2
  block_follows path w x rest (inr c) stop = follows_nothing (tight_seen l.OpenParenthesis) (tight_seen l.OpenParenthesis) None (λ look spaced e. e) w x rest c.1 stop

  -- ---- `new`

  -- The arguments are an empty list where no parentheses stand.
  arguments_out : (K : List Tree → Form Tree) (w : List Token) (x : Tree)
      → f.◌>>=◌ (operands.arguments S within free) (λ found. K (primaries.listed_of found)) w x → f.◌>>=◌ (ex.arguments S within free) K w x
  arguments_out K w x (a, rest, found, e, c, d) = (a, rest, primaries.listed_of found, e, arguments_list S within free a found c, d)

  pub arguments_back : (K : List Tree → Form Tree) (w : List Token) (x : Tree)
      → f.◌>>=◌ (ex.arguments T within free) K w x → f.◌>>=◌ (operands.arguments T within free) (λ found. K (primaries.listed_of found)) w x
  arguments_back K w x (a, rest, arguments, e, c, d) =
      let found = list_arguments T within free a arguments c in
      (a, rest, found.0, e, found.1, subst (λ v. K v rest x) found.2 d)

  abbrev pub new_of : Atom → ℕ → List Tree → Option Tree → Tree
  new_of class at arguments block = tree.New at (ex.atom_tree class) (is_some class.question) arguments block

  abbrev new_end : (Wanted → Form Tree) → Atom → ℕ → List Tree → Form Tree
  new_end Q class at arguments = f.◌>>=◌ (ex.new_block Q within free class.path.names) (λ block. f.nothing (new_of class at arguments block))

  abbrev new_behind : (Wanted → Form Tree) → Atom → ℕ → Form Tree
  new_behind Q class at = f.◌>>=◌ (ex.arguments Q within free) (new_end Q class at)

  abbrev pub made_tail : (Wanted → Form Tree) → Atom → Form Tree
  made_tail Q class = f.◌>>=◌ (f.exactly (k.Ident o.new_name)) (new_behind Q class)

  new_end_some : (class : Atom) (at : ℕ) (arguments : List Tree) → Spelled (new_end S class at arguments)
  new_end_some class at arguments = spelled_bind (block_some class.path.names) (λ block. spelled_nothing (new_of class at arguments block))

  made_some : (class : Atom) → Spelled (made_tail S class)
  made_some class =
      let new_token : Spelled (f.exactly (k.Ident o.new_name)) = (a_token (k.Ident o.new_name) ∷ [], 0, (a_token (k.Ident o.new_name), refl, (refl, refl))) in
      spelled_bind new_token (λ at. spelled_bind ([], [], inr (refl, refl)) (λ arguments. new_end_some class at arguments))

  -- the reader behind the name `new`
  abbrev pub new_reader : Atom → ℕ → Reader Tree
  new_reader class at =
      bodies.arguments effort.turns rec within
      >>= λ found. primaries.new_block effort.turns rec within free (primaries.is_path class.path.names o.isolated_path)
      >>= λ block. pure (new_of class at (primaries.listed_of found) block)

  exact_new_end : (class : Atom) (at : ℕ) → Exact effort Any (new_behind S class at) (new_behind T class at) goes (new_reader class at)
  exact_new_end class at =
      let last_of : Option (List Tree) → Option Tree → Form Tree = λ found block. f.nothing (new_of class at (primaries.listed_of found) block) in
      exact_map (new_behind S class at) (new_behind T class at) (arguments_out (new_end S class at)) (arguments_back (new_end T class at))
      (exact_bind (λ found. new_end S class at (primaries.listed_of found)) (λ found. new_end T class at (primaries.listed_of found)) goes _
      (exact_arguments given within free)
      (λ found. exact_bind (last_of found) (last_of found) goes _ (block_by class.path.names _ refl)
      (λ block. exact_pure effort (new_of class at (primaries.listed_of found) block) goes)
      (λ block. spelled_nothing (new_of class at (primaries.listed_of found) block))
      (λ block. follows_never (last_of found block) goes))
      (λ found. new_end_some class at (primaries.listed_of found))
      (λ found. follows_bind (tight_seen l.OpenParenthesis) goes (ex.new_block T within free class.path.names) (last_of found) (block_follows class.path.names)
      (λ block. follows_nothing (tight_seen l.OpenParenthesis) goes (new_of class at (primaries.listed_of found) block) (parenthesis_less free))))

  exact_made : (class : Atom) → Exact effort Any (made_tail S class) (made_tail T class) goes (primaries.made effort.turns rec within free class)
  exact_made class =
      exact_bind (new_behind S class) (new_behind T class) goes _ (exact_exactly_ident effort never o.new_name)
      (λ at. exact_silent (wrap at) (silent_wrap at) (new_reader class at) (exact_new_end class at))
      (λ at. spelled_bind ([], [], inr (refl, refl)) (λ arguments. new_end_some class at arguments))
      (λ at. follows_never (new_behind T class at) goes)

  -- ---- `yield`

  abbrev pause_of : Atom → Tree
  pause_of class = tree.Pause class.path.at

  abbrev pub pause_tail : Atom → Form Tree
  pause_tail class = f.◌>>◌ (f.word l.Yield) (f.nothing (pause_of class))

  exact_pause : (class : Atom) → Exact effort Any (pause_tail class) (pause_tail class) goes (primaries.pause effort.turns rec within free class)
  exact_pause class =
      exact_bind (λ _. f.nothing (pause_of class)) (λ _. f.nothing (pause_of class)) goes _ (exact_word effort (k.Plain l.Yield) never)
      (λ _. exact_pure effort (pause_of class) goes) (λ _. spelled_nothing (pause_of class)) (λ _. follows_never (f.nothing (pause_of class)) goes)

  -- ---- the one or the other, behind an atom and its `.`

  abbrev is_fiber : Atom → Bool
  is_fiber class = primaries.is_fiber effort.turns rec within free class

  abbrev pub tail_by : (Wanted → Form Tree) → Atom → TokenLook → Form Tree
  tail_by Q class l.Ident = made_tail Q class
  tail_by Q class l.Yield = f.where_true (is_fiber class) (pause_tail class)
  tail_by Q class other = λ w x. ⊥

  abbrev pub tail : (Wanted → Form Tree) → Atom → Form Tree
  tail Q class = f.◌<|>◌ (made_tail Q class) (f.where_true (is_fiber class) (pause_tail class))

  tail_branch : (class : Atom) (look : TokenLook) → Branch effort look (tail S class) (tail_by T class look) goes (primaries.made_by effort.turns rec within free class look)
  tail_branch class l.Ident = inl (weaken (Looks l.Ident) (exact_map (tail S class) (made_tail T class) (λ w x c. inl c) (λ w x c. c) (exact_made class)))
  tail_branch class l.Yield =
      branch_where l.Yield (is_fiber class) (tail S class) (pause_tail class) goes _
      (λ is. weaken (Looks l.Yield) (exact_map (tail S class) (pause_tail class) (λ w x c. inr (is, c)) (λ w x c. c) (exact_pause class)))
  tail_branch class other = inr (refl, λ w x led c. c)

  pub tail_led : (class : Atom) (w : List Token) (x : Tree) → tail T class w x → by_first (tail_by T class) w x
  tail_led class w x (inl c) =
      let name = c.4 in
      (l.Ident, (name.0, c.1, c.3 ∙ ap (λ (t : List Token). t ++ c.1) name.1, ap look_of name.2.0), c)
  tail_led class w x (inr c) = (l.Yield, led_at l.Yield w c.1.0 c.1.1 c.1.2 c.1.3 c.1.4, c)

  tail_some : (class : Atom) → Spelled (tail S class)
  tail_some class = let some = made_some class in (some.0, some.1, inl some.2)

  exact_tail : (class : Atom) → Exact effort Any (tail S class) (tail T class) goes (by_look (primaries.made_by effort.turns rec within free class))
  exact_tail class =
      let some = tail_some class in
      exact_map (tail S class) (tail T class) (λ w x c. c) (tail_led class)
      (exact_by effort (primaries.made_by effort.turns rec within free class) (tail S class) (tail_by T class) goes (tail_branch class) some.0 some.1 some.2)

  -- ---- the name `Fiber` alone

  abbrev behind_atom : (Wanted → Form Tree) → Atom → Form Tree
  behind_atom Q class = f.◌>>◌ (f.word l.Dot) (tail Q class)

  abbrev factored : (Wanted → Form Tree) → Form Tree
  factored Q = f.◌>>=◌ (ex.atom Q true) (behind_atom Q)

  path_alone : (name : List ℕ) (w : List Token) (path : Path) → ex.path w path → path.names ≡ name ∷ [] → f.exactly (k.Constant name) w path.at
  path_alone name w path (c, more, first, p, constant, (m, end, others, q, found, (none, that))) is =
      let names : first.text ∷ map (λ (x : Word). x.text) others ≡ name ∷ [] = sym (ap (λ (v : Path). v.names) that) ∙ is in
      let text : first.text ≡ name = cc in
      let no_more : others ≡ [] = no_names others cc in
      let empty : m ≡ [] = subst (λ v. f.many (f.◌>>◌ (f.word l.ColonColon) f.constant) m v) no_more found in
      let alone : w ≡ c = all_read w c more p (none_of_it more m end q empty none) in
      (constant.0, alone ∙ constant.1, (constant.2.0 ∙ ap (λ v. k.Constant v) text, ap (λ (v : Path). v.at) that ∙ constant.2.1))

  no_arguments : (w : List Token) (xs : List Tree) → ex.type_arguments S true w xs → xs ≡ [] → w ≡ []
  no_arguments w xs (inl c) e = absurd (list_real _ w xs c e)
  no_arguments w xs (inr c) e = c.0

  pub fiber_is : (class : Atom) → is_fiber class ≡ true → (class.path.names ≡ o.fiber_name ∷ []) × (class.arguments ≡ []) × (class.question ≡ None)
  fiber_is class is =
      let both = and_parts _ _ is in
      let bare = bare_is class.arguments class.question both.1 in
      (path_is class.path.names (o.fiber_name ∷ []) both.0, bare.0, bare.1)

  fiber_out : (w : List Token) (class : Atom) → ex.atom S true w class → is_fiber class ≡ true → f.exactly (k.Constant o.fiber_name) w class.path.at
  fiber_out w class (a, rest, path, e, c, (m, behind, arguments, r, d, (n, last, question, u, v, (none, that)))) is =
      let fiber = fiber_is class is in
      let names : path.names ≡ o.fiber_name ∷ [] = sym (ap (λ (x : Atom). x.path.names) that) ∙ fiber.0 in
      let first : m ≡ [] = no_arguments m arguments d (sym (ap (λ (x : Atom). x.arguments) that) ∙ fiber.1) in
      let second : n ≡ [] = subst (λ x. f.maybe (f.tight (f.word l.Question)) n x) (sym (ap (λ (x : Atom). x.question) that) ∙ fiber.2) v in
      let alone : w ≡ a = all_read w a rest e (none_of_it rest m behind r first (none_of_it behind n last u second none)) in
      let name = path_alone o.fiber_name a path c names in
      (name.0, alone ∙ name.1, (name.2.0, ap (λ (x : Atom). x.path.at) that ∙ name.2.1))

  abbrev fiber_atom : ℕ → Atom
  fiber_atom at = record { path = record { at = at; names = o.fiber_name ∷ [] }; arguments = []; question = None }

  fiber_back : (w : List Token) (at : ℕ) → f.exactly (k.Constant o.fiber_name) w at → ex.atom T true w (fiber_atom at)
  fiber_back w at c =
      let name : Word = record { at = at; text = o.fiber_name } in (
        w,
        [],
        record { at = at; names = o.fiber_name ∷ [] },
        sym (append-nil w),
        (w, [], name, sym (append-nil w), c, ([], [], [], refl, refl, (refl, refl))),
        ([], [], [], refl, inr (refl, refl), ([], [], None, refl, refl, (refl, refl))),
      )

  -- ---- the whole

  out : (w : List Token) (x : Tree) → factored S w x → f.◌<|>◌ (ex.made S within free) (ex.pause S within free) w x
  out w x (a, rest, class, e, c, (d, t, at, r, dot, inl made)) = inl (a, rest, class, e, c, (d, t, at, r, dot, made))
  out w x (a, rest, class, e, c, (d, t, at, r, dot, inr pause)) = inr (a, rest, class.path.at, e, fiber_out a class c pause.0, (d, t, at, r, dot, pause.1))

  pub back : (w : List Token) (x : Tree) → f.◌<|>◌ (ex.made T within free) (ex.pause T within free) w x → factored T w x
  back w x (inl (a, rest, class, e, c, (d, t, at, r, dot, made))) = (a, rest, class, e, c, (d, t, at, r, dot, inl made))
  back w x (inr (a, rest, at, e, c, (d, t, place, r, dot, pause))) =
      let is : is_fiber (fiber_atom at) ≡ true = rw (path_itself (o.fiber_name ∷ [])) refl in
      (a, rest, fiber_atom at, e, fiber_back a at c, (d, t, place, r, dot, inr (is, pause)))

  exact_whole : claims.OfClass effort rec S T within free
  exact_whole =
      exact_map (f.◌<|>◌ (ex.made S within free) (ex.pause S within free)) (f.◌<|>◌ (ex.made T within free) (ex.pause T within free)) out back
      (exact_bind (behind_atom S) (behind_atom T) goes _ (exact_atom given true)
      (λ class. exact_bind (λ _. tail S class) (λ _. tail T class) goes _ (exact_word effort (k.Plain l.Dot) never) (λ _. exact_tail class)
      (λ _. tail_some class) (λ _. follows_never (tail T class) goes))
      (λ class. spelled_bind (spelled_word (k.Plain l.Dot)) (λ _. tail_some class))
      (λ class. follows_led l.Dot goes_type goes (behind_atom T class) (λ spaced. refl) (led l.Dot _)))

module _ {effort : Effort} {rec : Wanted → Reader Tree} {S T : Wanted → Form Tree} (given : claims.Given effort rec S T) where
  pub exact_of_class : (within : Within) (free : Bool) → claims.OfClass effort rec S T within free
  exact_of_class within free = exact_whole given within free
