-- Indices, questions to a value, `new`, `yield`, `super` and `spawn` are read from their layout.
use Rattle.std.proofs.Common.{◌≡◌, ◌≢◌, ℕ, suc, Bool, true, false, not, List, [], ◌∷◌, ◌++◌, map, Option, Some, None, refl, sym, ap, subst, ◌∙◌, inl, inr}
use Rattle.std.specs.Prelude.{IsTrue, is_some}
use Rattle.std.specs.Option.{option_map}
use Rattle.cr_syntax.specs.declared.look.TokenLook.TheVariants as l
use Rattle.cr_syntax.specs.declared.token.TokenKind.TheVariants as k
use Rattle.cr_syntax.specs.Look.{look_of}
use Rattle.cr_grammar.specs.declared.tree.Tree.{Tree}
use Rattle.cr_grammar.specs.declared.tree.Tree.TheVariants as tree
use Rattle.cr_grammar.specs.declared.within.Within.{Within}
use Rattle.cr_grammar.specs.declared.word.Atom.{Atom}
use Rattle.cr_grammar.specs.declared.wanted.Wanted.{Wanted}
use Rattle.cr_grammar.specs.declared.wanted.Wanted.TheVariants.{Written, Or}
use Rattle.cr_grammar.specs.Wanted.{in_block}
use Rattle.cr_grammar.specs.Forms.{Form, nothing, ◌>>=◌, maybe, word, tight}
use Rattle.cr_grammar.specs.Operators as o
use Rattle.cr_grammar.specs.Same.{unplaced}
use Rattle.cr_grammar.specs.Expressions as ex
use Rattle.cr_pieces.specs.Pieces.{Piece, Put}
use Rattle.cr_pieces.specs.Fits.{spaced_behind}
use Rattle.cr_pretty.specs.Layout as y
use Rattle.cr_pretty.specs.Layout.{Laid, laid, bare, argument, operand, space}
use Rattle.cr_pretty.proofs.Laid as of
use Rattle.cr_round_trip.proofs.Known.{All, Any, IsPath}
use Rattle.cr_round_trip.proofs.Fit.{pieces_assoc}
use Rattle.cr_round_trip.proofs.Unplaced as un
use Rattle.cr_round_trip.proofs.Reading.{Scheme, Reads, Like, AllLike, AnyLike, as_pieces, then, gives, on_word, on_exactly, spaced, one_token, one_of, other, closely, none, some_one, at_tight, no_seps}
use Rattle.cr_round_trip.proofs.Values.{begins_plainly, Value, value_by, as_primary, as_operand, closes_behind, operand_closes, plain_front, operand_plain}
use Rattle.cr_round_trip.proofs.Lines.{values_each, then_last, listed_reads, any_listed, in_parentheses_reads, arguments_read}
use Rattle.cr_round_trip.proofs.TypesRead.{Typed, IsClass, class_reads}
use Rattle.cr_round_trip.proofs.CallsRead.{linked, dotted, ends_of, ends_close, plain_read, arguments_close, body_closes, BlockRead, block_closes}

-- ---- indices

question_read : (q : Bool) (t : Bool) → t ≡ false → Reads (λ S. maybe (tight (word l.Question))) (λ (z : Option ℕ). is_some z ≡ q) t (y.question_mark q)
question_read false t e = none refl
question_read true t e = at_tight (y.word l.Question ∷ []) e
    (some_one {P = λ (z : ℕ). Unit {0}} (λ z u. refl) (closely (k.Plain l.Question) [] (one_token (k.Plain l.Question) (λ u. (u.span).first) (λ S u is. (u, refl, (ap look_of is, refl))) (λ u. tt))))

question_closes : (q : Bool) → spaced_behind false (y.question_mark q) ≡ false
question_closes true = refl
question_closes false = refl

abbrev pub index_list : ℕ → List Tree → List Piece
index_list level ys = y.word l.OpenBracket ∷ (y.listed (map (argument level) (map laid ys)) ++ y.word l.CloseBracket ∷ [])

pub indices_read : (within : Within) (level : ℕ) (z : Tree) (zs : List Tree) → All (Value within) (z ∷ zs) → Reads (λ S. ex.indices S within true) (λ found. AllLike (z ∷ zs) found.1) false (index_list level (z ∷ zs))
indices_read within level z zs hs =
    let ps = y.listed (map (argument level) (map laid (z ∷ zs))) in
    closely (k.Plain l.OpenBracket) (ps ++ y.word l.CloseBracket ∷ []) (on_word l.OpenBracket (ps ++ y.word l.CloseBracket ∷ []) (λ at. no_seps
    (then ps (y.word l.CloseBracket ∷ []) (listed_reads (λ S. S (Or within true)) (argument level) z zs (values_each within level (z ∷ zs) hs) false) (λ found h. no_seps (on_word l.CloseBracket [] (λ at'. gives (at, found) h))))))

pub same_index : (at place : ℕ) (x v : Tree) (zs found : List Tree) (q t : Bool) → Like x v → AllLike zs found → t ≡ q → Like (tree.Index at x zs q) (tree.Index place v found t)
same_index at place x v zs found q t hx hs hq =
    un.of_index place v found t ∙ ap (λ (z : Tree). tree.Index 0 z (map unplaced found) t) hx ∙ ap (λ (z : List Tree). tree.Index 0 (unplaced x) z t) hs ∙ ap (λ (z : Bool). tree.Index 0 (unplaced x) (map unplaced zs) z) hq ∙ sym (un.of_index at x zs q)

pub index_read : (within : Within) (at : ℕ) (x z : Tree) (zs : List Tree) (question : Bool) → Value within x → All (Value within) (z ∷ zs) → Value within (tree.Index at x (z ∷ zs) question)
index_read within at x z zs question hx hs = value_by within (tree.Index at x (z ∷ zs) question) (of.of_index at x (z ∷ zs) question) (record {
  reads = λ level s.
      let ps = operand level (laid x) in let list = y.listed (map (argument level) (map laid (z ∷ zs))) in let qs = y.question_mark question in
      let inner = index_list level (z ∷ zs) in
      linked within ps (y.word l.OpenBracket ∷ (list ++ y.word l.CloseBracket ∷ qs)) (as_operand within x hx level s) (λ v p. at_tight (y.word l.OpenBracket ∷ (list ++ y.word l.CloseBracket ∷ qs)) (operand_closes within x hx level s) (other (one_of
      (as_pieces (y.word l.OpenBracket ∷ (list ++ y.word l.CloseBracket ∷ qs)) (inner ++ qs) (ap (λ (v : List Piece). y.word l.OpenBracket ∷ v) (sym (pieces_assoc list (y.word l.CloseBracket ∷ []) qs)))
      (then inner qs (indices_read within level z zs hs) (λ found h. then_last qs (question_read question (spaced_behind false inner) (closes_behind false list (y.word l.CloseBracket ∷ []) (λ t. refl)))
      (λ q hq. gives (tree.Index found.0 v found.1 (is_some q)) (same_index at found.0 x v (z ∷ zs) found.1 question (is_some q) p h hq))))))));
  closes = λ level s. closes_behind s (operand level (laid x)) (y.word l.OpenBracket ∷ (y.listed (map (argument level) (map laid (z ∷ zs))) ++ y.word l.CloseBracket ∷ y.question_mark question))
      (λ t. closes_behind false (y.listed (map (argument level) (map laid (z ∷ zs)))) (y.word l.CloseBracket ∷ y.question_mark question) (λ u. question_closes question));
  plain = λ shape level. plain_front (operand level (laid x)) _ (operand_plain within x hx level);
})

-- ---- questions

asked : (within : Within) (x : Tree) {Q : Tree → Type 0} {s : Bool} (level : ℕ) (qs : List Piece) → Value within x → ((z : Tree) → Like x z → Reads (λ S. ex.link S within true z) Q false (y.word l.Dot ∷ qs))
    → Reads (λ S. ex.postfix S within true) Q s (operand level (laid x) ++ y.word l.Dot ∷ qs)
asked within x {Q} {s} level qs hx h = linked within (operand level (laid x)) (y.word l.Dot ∷ qs) (as_operand within x hx level s) (λ z p. at_tight (y.word l.Dot ∷ qs) (operand_closes within x hx level s) (h z p))

pub is_nil_read : (within : Within) (at : ℕ) (x : Tree) → Value within x → Value within (tree.IsNil at x)
is_nil_read within at x hx = value_by within (tree.IsNil at x) (of.of_is_nil at x) (record {
  reads = λ level s. asked within x level (y.word l.IsNil ∷ []) hx (λ z p. other (other (other (one_of (on_word l.Dot (y.word l.IsNil ∷ []) (λ place. on_word l.IsNil [] (λ place'. gives (tree.IsNil place' z) (simp (un.constructs, p)))))))));
  closes = λ level s. closes_behind s (operand level (laid x)) (y.word l.Dot ∷ y.word l.IsNil ∷ []) (λ t. refl);
  plain = λ shape level. plain_front (operand level (laid x)) _ (operand_plain within x hx level);
})

pub is_a_read : (within : Within) (at : ℕ) (x type : Tree) → Value within x → Typed false type → Value within (tree.IsA at x type)
is_a_read within at x type hx ht = value_by within (tree.IsA at x type) (of.of_is_a at x type) (record {
  reads = λ level s.
      let ps = y.parenthesized (bare level (laid type)) in
      asked within x level (y.word l.IsA ∷ ps) hx (λ z p. other (other (one_of (on_word l.Dot (y.word l.IsA ∷ ps) (λ place. on_word l.IsA ps (λ place'.
      then_last ps (closely (k.Plain l.OpenParenthesis) (bare level (laid type) ++ y.word l.CloseParenthesis ∷ []) (in_parentheses_reads (bare level (laid type)) (ht.reads level false))) (λ t q. gives (tree.IsA place' z t) (simp (un.constructs, p, q)))))))));
  closes = λ level s. closes_behind s (operand level (laid x)) (y.word l.Dot ∷ y.word l.IsA ∷ y.parenthesized (bare level (laid type)))
      (λ t. closes_behind false (bare level (laid type)) (y.word l.CloseParenthesis ∷ []) (λ u. refl));
  plain = λ shape level. plain_front (operand level (laid x)) _ (operand_plain within x hx level);
})

-- ---- `spawn`

same_spawn : (at place : ℕ) (r q : Option Tree) (xs zs : List Tree) → AnyLike r q → AllLike xs zs → Like (tree.Spawn at r xs) (tree.Spawn place q zs)
same_spawn at place r q xs zs hr hs = un.of_spawn place q zs ∙ ap (λ (v : Option Tree). tree.Spawn 0 v (map unplaced zs)) hr ∙ ap (λ (v : List Tree). tree.Spawn 0 (option_map unplaced r) v) hs ∙ sym (un.of_spawn at r xs)

pub spawn_read : (within : Within) (at : ℕ) (context : Option Tree) (list : List Tree) → Any (Value within) context → All (Value (in_block within)) list → Value within (tree.Spawn at context list)
spawn_read within at None list hc hl = value_by within (tree.Spawn at None list) (of.of_spawn at None list) (record {
  reads = λ level s.
      let ps : List Piece = space ∷ y.word l.Do ∷ y.body level (map laid list) in
      as_primary within {F = λ S. ex.spawned S within true} (λ S w x f. inr (inr (inr (inr (inr (inr (inr (inr (inr (inr (inr (inr (inl f)))))))))))))
      (on_word l.Spawn ps (λ place. then_last ps (spaced 1 (y.word l.Do ∷ y.body level (map laid list)) (plain_read within level list hl true)) (λ zs q. gives (tree.Spawn place None zs) (same_spawn at place None None list zs refl q))));
  closes = λ level s. body_closes level (map laid list) false;
  plain = λ shape level. refl;
})
spawn_read within at (Some x) list hc hl = value_by within (tree.Spawn at (Some x) list) (of.of_spawn at (Some x) list) (record {
  reads = λ level s.
      let ps : List Piece = space ∷ y.word l.Do ∷ y.body level (map laid list) in
      dotted within x level (y.word l.Spawn ∷ ps) hc (λ z p. other (other (other (other (on_word l.Dot (y.word l.Spawn ∷ ps) (λ place. on_word l.Spawn ps (λ place'.
      then_last ps (spaced 1 (y.word l.Do ∷ y.body level (map laid list)) (plain_read within level list hl true)) (λ zs q. gives (tree.Spawn place' (Some z) zs) (same_spawn at place' (Some x) (Some z) list zs (ap (λ (v : Tree). Some v) p) q)))))))));
  closes = λ level s. closes_behind s (operand level (laid x) ++ y.word l.Dot ∷ []) (y.word l.Spawn ∷ space ∷ y.word l.Do ∷ y.body level (map laid list)) (λ t. body_closes level (map laid list) false);
  plain = λ shape level. plain_front (operand level (laid x) ++ y.word l.Dot ∷ []) _ (plain_front (operand level (laid x)) (y.word l.Dot ∷ []) (operand_plain within x hc level));
})

-- ---- `yield`, `super`, and what pauses

pub yield_read : (within : Within) (at : ℕ) (xs : List Tree) → IsTrue within.method → All (Value within) xs → Value within (tree.Yield at xs)
yield_read within at xs is hs = value_by within (tree.Yield at xs) (of.of_yield at xs) (record {
  reads = λ level s.
      let ps = y.arguments level (map laid xs) in
      as_primary within {F = λ S. ex.yielded S within true} (λ S w x f. inr (inr (inr (inr (inr (inr (inl (is, inl f))))))))
      (on_word l.Yield ps (λ place. then_last ps (arguments_read within level xs hs) (λ zs q. gives (tree.Yield place zs) (simp (un.constructs, q)))));
  closes = λ level s. arguments_close level (map laid xs);
  plain = λ shape level. refl;
})

pub super_read : (within : Within) (at : ℕ) (xs : List Tree) → IsTrue within.method → All (Value within) xs → Value within (tree.Super at xs)
super_read within at xs is hs = value_by within (tree.Super at xs) (of.of_super at xs) (record {
  reads = λ level s.
      let ps = y.listed (map (argument level) (map laid xs)) in
      as_primary within {F = λ S. ex.above S within true} (λ S w x f. inr (inr (inr (inr (inr (inr (inl (is, inr f))))))))
      (other (on_word l.Super (y.parenthesized ps) (λ place. then_last (y.parenthesized ps)
      (closely (k.Plain l.OpenParenthesis) (ps ++ y.word l.CloseParenthesis ∷ []) (in_parentheses_reads ps (any_listed (λ S. S (Or within true)) (argument level) xs (values_each within level xs hs) false))) (λ zs q. gives (tree.Super place zs) (simp (un.constructs, q))))));
  closes = λ level s. closes_behind false (y.listed (map (argument level) (map laid xs))) (y.word l.CloseParenthesis ∷ []) (λ t. refl);
  plain = λ shape level. refl;
})

pub bare_super_read : (within : Within) (at : ℕ) → IsTrue within.method → Value within (tree.BareSuper at)
bare_super_read within at is = value_by within (tree.BareSuper at) (of.of_bare_super at) (record {
  reads = λ level s. as_primary within {F = λ S. ex.above S within true} (λ S w x f. inr (inr (inr (inr (inr (inr (inl (is, inr f)))))))) (one_of (on_word l.Super [] (λ place. gives (tree.BareSuper place) (simp (un.constructs)))));
  closes = λ level s. refl;
  plain = λ shape level. refl;
})

pub pause_read : (within : Within) (at : ℕ) → Value within (tree.Pause at)
pause_read within at = value_by within (tree.Pause at) (of.of_pause at) (record {
  reads = λ level s. as_primary within {F = λ S. ex.pause S within true} (λ S w x f. inr (inr (inr (inr (inr (inr (inr (inr (inl f)))))))))
      (on_exactly (k.Constant o.fiber_name) (y.word l.Dot ∷ y.word l.Yield ∷ []) (λ place. on_word l.Dot (y.word l.Yield ∷ []) (λ place'. on_word l.Yield [] (λ place''. gives (tree.Pause place) (simp (un.constructs))))));
  closes = λ level s. refl;
  plain = λ shape level. refl;
})

-- ---- `new`

module _ (within : Within) (at place : ℕ) (path : List (List ℕ)) (types : List Tree) (question : Bool) (xs : List Tree) (b : Option Tree) (is : IsPath path) (ht : All (Typed true) types) (hs : All (Value within) xs) where
  abbrev class : Tree
  class = tree.Atom place path types

  -- a block as this class takes it
  abbrev Blocks : Type 0
  Blocks = (level : ℕ) (names : List (List ℕ)) → names ≡ path → (s : Bool) → Reads (λ S. ex.new_block S within true names) (AnyLike b) s (y.block level (option_map laid b))

  same_new : (at' : ℕ) (a : Atom) (zs : List Tree) (c : Option Tree) → IsClass class path question a → AllLike xs zs → AnyLike b c → Like (tree.New at class question xs b) (tree.New at' (ex.atom_tree a) (is_some a.question) zs c)
  same_new at' a zs c ha hz hc =
      un.of_new at' (ex.atom_tree a) (is_some a.question) zs c ∙ ap (λ (v : Tree). tree.New 0 v (is_some a.question) (map unplaced zs) (option_map unplaced c)) ha.like ∙ ap (λ (v : Bool). tree.New 0 (unplaced class) v (map unplaced zs) (option_map unplaced c)) ha.asks
      ∙ ap (λ (v : List Tree). tree.New 0 (unplaced class) question v (option_map unplaced c)) hz ∙ ap (λ (v : Option Tree). tree.New 0 (unplaced class) question (map unplaced xs) v) hc ∙ sym (un.of_new at class question xs b)

  abbrev behind : ℕ → List Piece
  behind level = y.word l.Dot ∷ Put (k.Ident o.new_name) ∷ ends_of level xs b

  class_plain : (path' : List (List ℕ)) (level : ℕ) (qs : List Piece) → IsPath path' → begins_plainly (bare level (laid (tree.Atom place path' types)) ++ qs) ≡ true
  class_plain [] level qs none = absurd none
  class_plain (name ∷ names) level qs some = subst (λ (v : Laid). begins_plainly (bare level v ++ qs) ≡ true) (sym (of.of_atom place (name ∷ names) types)) refl

  pub new_by : Blocks → ((level : ℕ) → spaced_behind false (ends_of level xs b) ≡ false) → Value within (tree.New at class question xs b)
  new_by blocks closes = value_by within (tree.New at class question xs b) (of.of_new at class question xs b) (record {
    reads = λ level s.
        let ps = bare level (laid class) in let qs = y.question_mark question in let args = y.arguments level (map laid xs) in let inner = y.block level (option_map laid b) in
        as_primary within {F = λ S. ex.made S within true} (λ S w x f. inr (inr (inr (inr (inr (inr (inr (inl f))))))))
        (as_pieces (ps ++ (qs ++ behind level)) ((ps ++ qs) ++ behind level) (sym (pieces_assoc ps qs (behind level)))
        (then (ps ++ qs) (behind level) (class_reads place path types question is ht level s) (λ a ha. on_word l.Dot (Put (k.Ident o.new_name) ∷ ends_of level xs b) (λ at'. on_exactly (k.Ident o.new_name) (ends_of level xs b) (λ at''.
        then args inner (arguments_read within level xs hs) (λ zs hz. then_last inner (blocks level ((a.path).names) ha.names (spaced_behind false args))
        (λ c hc. gives (tree.New at'' (ex.atom_tree a) (is_some a.question) zs c) (same_new at'' a zs c ha hz hc))))))));
    closes = λ level s. closes_behind s (bare level (laid class)) (y.question_mark question ++ behind level) (λ t. closes_behind t (y.question_mark question) (behind level) (λ u. closes level));
    plain = λ shape level. class_plain path level _ is;
  })

pub new_read : (within : Within) (at place : ℕ) (path : List (List ℕ)) (types : List Tree) (question : Bool) (xs : List Tree) → IsPath path → path ≢ o.isolated_path → All (Typed true) types → All (Value within) xs
    → Value within (tree.New at (tree.Atom place path types) question xs None)
new_read within at place path types question xs is apart ht hs = new_by within at place path types question xs None is ht hs
    (λ level names e s. record { found = λ w b. record { result = None; passes = refl; depth = 0; spells = λ m le. inr ((λ same. apart (sym e ∙ same)), (b, refl)) } })
    (λ level. ends_close within level xs None tt)

pub isolated_read : (within : Within) (at place : ℕ) (path : List (List ℕ)) (types : List Tree) (question : Bool) (xs list : List Tree) → IsPath path → path ≡ o.isolated_path → All (Typed true) types → All (Value within) xs
    → All (Value (in_block within)) list → BlockRead within (tree.Block [] list) → Value within (tree.New at (tree.Atom place path types) question xs (Some (tree.Block [] list)))
isolated_read within at place path types question xs list is same ht hs hl hb = new_by within at place path types question xs (Some (tree.Block [] list)) is ht hs
    (λ level names e s. spaced 1 (bare level (laid (tree.Block [] list))) (subst (λ (v : Laid). Reads (λ S. ex.new_block S within true names) (AnyLike (Some (tree.Block [] list))) true (bare level v)) (sym (of.of_block [] list)) (block_of level names e)))
    (λ level. ends_close within level xs (Some (tree.Block [] list)) hb)
  where
    block_of : (level : ℕ) (names : List (List ℕ)) → names ≡ path → Reads (λ S. ex.new_block S within true names) (AnyLike (Some (tree.Block [] list))) true (y.word l.Do ∷ y.body level (map laid list))
    block_of level names e = record {
      found = λ w b. let f = (plain_read within level list hl true).found w b in
          record { result = Some (tree.Block [] f.result); passes = ap (λ (v : Tree). Some v) (let q = f.passes in simp (un.constructs, q)); depth = f.depth; spells = λ m le. inl (e ∙ same, f.result, f.spells m le, refl) };
    }
