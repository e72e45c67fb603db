-- Declarations are read from their layout.
use Rattle.std.proofs.Common.{◌≡◌, ℕ, suc, Bool, true, false, not, List, [], ◌∷◌, ◌++◌, map, Option, Some, None, ◌⊎◌, refl, sym, ap, subst, ◌∙◌, inl, inr}
use Rattle.std.specs.Prelude.{IsTrue}
use Rattle.std.specs.Option.{option_map}
use Rattle.std.specs.Str.{bytes_eq}
use Rattle.cr_syntax.specs.declared.look.TokenLook.{TokenLook}
use Rattle.cr_syntax.specs.declared.look.TokenLook.TheVariants as l
use Rattle.cr_syntax.specs.declared.token.TokenKind.TheVariants as k
use Rattle.cr_syntax.specs.Look.{look_of}
use Rattle.cr_grammar.specs.declared.tree.Tree.{Tree}
use Rattle.cr_grammar.specs.declared.tree.Tree.TheVariants as tree
use Rattle.cr_grammar.specs.declared.within.Within.{Within}
use Rattle.cr_grammar.specs.declared.wanted.Wanted.{Wanted}
use Rattle.cr_grammar.specs.declared.wanted.Wanted.TheVariants.{Written, Stmt}
use Rattle.cr_grammar.specs.Wanted.{in_method, top}
use Rattle.cr_grammar.specs.Forms.{Form, nothing, ◌>>=◌, ◌>>◌, ◌<|>◌, where_true, maybe, many, or_none, word, tight, comma, listed, parenthesized}
use Rattle.cr_grammar.specs.Operators as o
use Rattle.cr_grammar.specs.Same.{unplaced}
use Rattle.cr_grammar.specs.Expressions as ex
use Rattle.cr_grammar.specs.Grammar as g
use Rattle.cr_pieces.specs.Pieces.{Piece, Put}
use Rattle.cr_pieces.specs.Fits.{spaced_behind}
use Rattle.cr_pretty.specs.Layout as y
use Rattle.cr_pretty.specs.Layout.{Laid, laid, bare, space, accessor_look}
use Rattle.cr_pretty.proofs.Laid as of
use Rattle.cr_round_trip.proofs.Known.{All, Any, IsMethodName, IsAnyConstant}
use Rattle.cr_round_trip.proofs.Closed.{IsResult}
use Rattle.cr_round_trip.proofs.Unplaced as un
use Rattle.cr_round_trip.proofs.Methods.{named_is, setter_is, naming}
use Rattle.cr_round_trip.proofs.Reading.{Scheme, Reads, Like, AllLike, AnyLike, via, as_pieces, then, gives, on_word, on_name, spaced, one_token, one_of, other, under, closely, none, some_one, no_more, one_more, at_tight}
use Rattle.cr_round_trip.proofs.Values.{Value, as_statement}
use Rattle.cr_round_trip.proofs.Lines.{Each, on_comma, statements_each, then_last, listed_reads, in_parentheses_reads, line_body_end}
use Rattle.cr_round_trip.proofs.TypesRead.{Typed, restriction_reads}

-- ---- parameters and accessors

pub record ParameterRead (within : Within) (x : Tree) : Type 0 where
  pub reads : (level : ℕ) (s : Bool) → Reads (λ S. g.param S within) (Like x) s (bare level (laid x))

same_parameter : (at place : ℕ) (instance : Bool) (name : List ℕ) (type z : Option Tree) → AnyLike type z → Like (tree.Parameter at instance name type) (tree.Parameter place instance name z)
same_parameter at place instance name type z h = un.of_parameter place instance name z ∙ ap (λ (v : Option Tree). tree.Parameter 0 instance name v) h ∙ sym (un.of_parameter at instance name type)

pub parameter_read : (within : Within) (at : ℕ) (name : List ℕ) (type : Option Tree) → Any (Typed true) type → ParameterRead within (tree.Parameter at false name type)
parameter_read within at name type h = record {
  reads = λ level s. subst (λ (v : Laid). Reads (λ S. g.param S within) (Like (tree.Parameter at false name type)) s (bare level v)) (sym (of.of_parameter at false name type))
      (one_of (on_name (λ text. k.Ident text) name (y.restriction level (option_map laid type)) (λ place. then_last (y.restriction level (option_map laid type)) (restriction_reads level type h false)
      (λ z q. gives (tree.Parameter place false name z) (same_parameter at place false name type z q)))));
}

pub instance_parameter_read : (within : Within) (at : ℕ) (name : List ℕ) (type : Option Tree) → IsTrue within.initialize → Any (Typed true) type → ParameterRead within (tree.Parameter at true name type)
instance_parameter_read within at name type is h = record {
  reads = λ level s. subst (λ (v : Laid). Reads (λ S. g.param S within) (Like (tree.Parameter at true name type)) s (bare level v)) (sym (of.of_parameter at true name type))
      (other (under is (on_name (λ text. k.InstanceVariable text) name (y.restriction level (option_map laid type)) (λ place. then_last (y.restriction level (option_map laid type)) (restriction_reads level type h false)
      (λ z q. gives (tree.Parameter place true name z) (same_parameter at place true name type z q))))));
}

pub record AccessorRead (x : Tree) : Type 0 where
  pub reads : (level : ℕ) (s : Bool) → Reads (λ S. g.acc S) (Like x) s (bare level (laid x))

pub accessor_read : (at : ℕ) (name : List ℕ) (type : Option Tree) → Any (Typed true) type → AccessorRead (tree.Accessor at name type)
accessor_read at name type h = record {
  reads = λ level s. subst (λ (v : Laid). Reads (λ S. g.acc S) (Like (tree.Accessor at name type)) s (bare level v)) (sym (of.of_accessor at name type))
      (on_name (λ text. k.Ident text) name (y.restriction level (option_map laid type)) (λ place. then_last (y.restriction level (option_map laid type)) (restriction_reads level type h false)
      (λ z q. gives (tree.Accessor place name z) (un.of_accessor place name z ∙ ap (λ (v : Option Tree). tree.Accessor 0 name v) q ∙ sym (un.of_accessor at name type)))));
}

-- ---- names of methods

bracket : (within : TokenLook) (s : Bool) → s ≡ false → Reads (λ S. tight (word within)) (λ (z : ℕ). Unit {0}) s (y.word within ∷ [])
bracket look s e = at_tight (y.word look ∷ []) e (closely (k.Plain look) [] (one_token (k.Plain look) (λ t. (t.span).first) (λ S t is. (t, refl, (ap look_of is, refl))) (λ t. tt)))

module _ (name : List ℕ) where
  abbrev Exactly : List ℕ → Type 0
  Exactly z = z ≡ name

  brackets_first : (rest : List Piece) {C : Scheme (List ℕ)} (s : Bool) → Reads C Exactly false rest → Reads (λ S. (word l.OpenBracket >> tight (word l.CloseBracket)) >> C S) Exactly s ((y.word l.OpenBracket ∷ y.word l.CloseBracket ∷ []) ++ rest)
  brackets_first rest s r = then {P = λ (z : ℕ). Unit {0}} (y.word l.OpenBracket ∷ y.word l.CloseBracket ∷ []) rest (on_word l.OpenBracket (y.word l.CloseBracket ∷ []) (λ at. bracket l.CloseBracket false refl)) (λ z u. r)

  by_name : IsMethodName name → (s : Bool) → Reads (λ S. g.name S) Exactly s (y.method_name name)
  by_name (inl is) s = as_pieces (y.method_name name) (Put (k.Ident name) ∷ []) (named_is name is) (one_of (on_name (λ text. k.Ident text) name [] (λ at. gives name refl)))
  by_name (inr (inl (base, is, plain, e))) s = as_pieces (y.method_name name) (Put (k.Ident base) ∷ y.word l.Equal ∷ []) (ap y.method_name e ∙ setter_is base is)
      (other (one_of (on_name (λ text. k.Ident text) base (y.word l.Equal ∷ []) (λ at. then_last {P = λ (z : ℕ). Unit {0}} (y.word l.Equal ∷ []) (under (ap not plain) (bracket l.Equal false refl)) (λ z u. gives (base ++ 61 ∷ []) (sym e))))))
  by_name (inr (inr (inl (look, e)))) s = let is = naming look name e in as_pieces (y.method_name name) (y.word look ∷ []) is.name
      (other (other (one_of (one_token (k.Plain look) (λ t. name) (λ S t same. (t, refl, ap (λ z. o.operator_name (look_of z)) same ∙ e)) (λ t. refl)))))
  by_name (inr (inr (inr (inl e)))) s = as_pieces (y.method_name name) (y.word l.OpenBracket ∷ y.word l.CloseBracket ∷ []) (ap y.method_name e)
      (other (other (other (brackets_first [] s (one_of (gives o.index_name (sym e)))))))
  by_name (inr (inr (inr (inr (inl e))))) s = as_pieces (y.method_name name) (y.word l.OpenBracket ∷ y.word l.CloseBracket ∷ y.word l.Equal ∷ []) (ap y.method_name e)
      (other (other (other (brackets_first (y.word l.Equal ∷ []) s (other (one_of (then_last {P = λ (z : ℕ). Unit {0}} (y.word l.Equal ∷ []) (bracket l.Equal false refl) (λ z u. gives o.index_set_name (sym e)))))))))
  by_name (inr (inr (inr (inr (inr e))))) s = as_pieces (y.method_name name) (y.word l.OpenBracket ∷ y.word l.CloseBracket ∷ y.word l.Question ∷ []) (ap y.method_name e)
      (other (other (other (brackets_first (y.word l.Question ∷ []) s (other (other (then_last {P = λ (z : ℕ). Unit {0}} (y.word l.Question ∷ []) (bracket l.Question false refl) (λ z u. gives o.index_question_name (sym e)))))))))

  name_closes : IsMethodName name → (s : Bool) → spaced_behind s (y.method_name name) ≡ false
  name_closes (inl is) s = ap (λ (v : List Piece). spaced_behind s v) (named_is name is)
  name_closes (inr (inl (base, is, plain, e))) s = ap (λ (v : List Piece). spaced_behind s v) (ap y.method_name e ∙ setter_is base is)
  name_closes (inr (inr (inl (look, e)))) s = operator_closes look e
    where
      operator_closes : (seen : TokenLook) → o.operator_name seen ≡ Some name → spaced_behind s (y.method_name name) ≡ false
      operator_closes seen e' = ap (λ (v : List Piece). spaced_behind s v) ((naming seen name e').name) ∙ no_line seen e'
        where
          no_line : (look' : TokenLook) → o.operator_name look' ≡ Some name → spaced_behind s (y.word look' ∷ []) ≡ false
          no_line l.Newline none = absurd cc
          no_line look' some = refl
  name_closes (inr (inr (inr (inl e)))) s = ap (λ (v : List ℕ). spaced_behind s (y.method_name v)) e
  name_closes (inr (inr (inr (inr (inl e))))) s = ap (λ (v : List ℕ). spaced_behind s (y.method_name v)) e
  name_closes (inr (inr (inr (inr (inr e))))) s = ap (λ (v : List ℕ). spaced_behind s (y.method_name v)) e

-- ---- `def`

pub record DefinitionRead (class : Bool) (x : Tree) : Type 0 where
  pub reads : (level : ℕ) (s : Bool) → Reads (λ S. g.def S class) (Like x) s (bare level (laid x))

parameters_each : (within : Within) (level : ℕ) (xs : List Tree) → All (ParameterRead within) xs → Each (λ S. g.param S within) (bare level) xs
parameters_each within level [] h = tt
parameters_each within level (x ∷ xs) h = ((h.0).reads level, parameters_each within level xs h.1)

parameters_reads : (within : Within) (level : ℕ) (xs : List Tree) → All (ParameterRead within) xs → Reads (λ S. tight (parenthesized (or_none (listed (g.param S within)))) <|> nothing []) (AllLike xs) false (y.in_parentheses (map (bare level) (map laid xs)))
parameters_reads within level [] held = other (gives [] refl)
parameters_reads within level (x ∷ xs) held =
    let ps = y.listed (map (bare level) (map laid (x ∷ xs))) in
    one_of (closely (k.Plain l.OpenParenthesis) (ps ++ y.word l.CloseParenthesis ∷ []) (in_parentheses_reads ps (one_of (listed_reads (λ S. g.param S within) (bare level) x xs (parameters_each within level (x ∷ xs) held) false))))

result_reads : (name : List ℕ) (level : ℕ) (result : Option Tree) → IsResult Typed name result → (s : Bool)
    → Reads (λ S. nothing None <|> where_true (not (bytes_eq name o.initialize_name)) (maybe (g.restriction S))) (AnyLike result) s (y.restriction level (option_map laid result))
result_reads name level None h s = one_of (gives None refl)
result_reads name level (Some type) h s = other (under h.0 (restriction_reads level (Some type) h.1 s))

same_def : (at place : ℕ) (name : List ℕ) (xs zs : List Tree) (r q : Option Tree) (list ls : List Tree) → AllLike xs zs → AnyLike r q → AllLike list ls → Like (tree.Def at name xs r list) (tree.Def place name zs q ls)
same_def at place name xs zs r q list ls hx hr hl =
    un.of_def place name zs q ls ∙ ap (λ (v : List Tree). tree.Def 0 name v (option_map unplaced q) (map unplaced ls)) hx ∙ ap (λ (v : Option Tree). tree.Def 0 name (map unplaced xs) v (map unplaced ls)) hr
    ∙ ap (λ (v : List Tree). tree.Def 0 name (map unplaced xs) (option_map unplaced r) v) hl ∙ sym (un.of_def at name xs r list)

module _ (class : Bool) (at : ℕ) (name : List ℕ) (xs : List Tree) (result : Option Tree) (list : List Tree) (is : IsMethodName name) (hx : All (ParameterRead (in_method class name)) xs) (hr : IsResult Typed name result)
    (hl : All (Value (in_method class name)) list) where
  abbrev behind_name : ℕ → List Piece
  behind_name level = y.in_parentheses (map (bare level) (map laid xs)) ++ (y.restriction level (option_map laid result) ++ y.body level (map laid list))

  -- what stands behind the name, where the name is this one
  abbrev BehindName : ℕ → List ℕ → Scheme Tree
  BehindName place found S = (tight (parenthesized (or_none (listed (g.param S (in_method class found))))) <|> nothing []) >>= (λ parameters.
      (nothing None <|> where_true (not (bytes_eq found o.initialize_name)) (maybe (g.restriction S))) >>= (λ r.
      word l.Newline >> (ex.body S (in_method class found) >>= (λ body. word l.KeywordEnd >> nothing (tree.Def place found parameters r body)))))

  behind_reads : (level place : ℕ) → Reads (BehindName place name) (Like (tree.Def at name xs result list)) false (behind_name level)
  behind_reads level place =
      let ps = y.in_parentheses (map (bare level) (map laid xs)) in let rs = y.restriction level (option_map laid result) in
      then ps (rs ++ y.body level (map laid list)) (parameters_reads (in_method class name) level xs hx) (λ zs p. then rs (y.body level (map laid list)) (result_reads name level result hr (spaced_behind false ps))
      (λ q r. line_body_end (λ S. S (Stmt (in_method class name))) level list (statements_each (in_method class name) (suc level) list hl) (λ ls. tree.Def place name zs q ls) (Like (tree.Def at name xs result list))
      (λ ls t. same_def at place name xs zs result q list ls p r t) (spaced_behind (spaced_behind false ps) rs)))

  pub define_read : DefinitionRead class (tree.Def at name xs result list)
  define_read = record {
    reads = λ level s. subst (λ (v : Laid). Reads (λ S. g.def S class) (Like (tree.Def at name xs result list)) s (bare level v)) (sym (of.of_def at name xs result list))
        (on_word l.Def (space ∷ (y.method_name name ++ behind_name level)) (λ place. spaced 1 (y.method_name name ++ behind_name level) (then {G = λ S found. BehindName place found S} {P = λ z. z ≡ name} (y.method_name name) (behind_name level) (by_name name is true)
        (λ found e. subst (λ (v : List ℕ). Reads (BehindName place v) (Like (tree.Def at name xs result list)) (spaced_behind true (y.method_name name)) (behind_name level)) (sym e)
        (at_tight (behind_name level) (name_closes name is true) (behind_reads level place))))));
  }

-- ---- members

pub record MemberRead (x : Tree) : Type 0 where
  pub reads : (level : ℕ) (s : Bool) → Reads (λ S. g.member S) (Like x) s (bare level (laid x))

pub record PartRead (x : Tree) : Type 0 where
  pub reads : (level : ℕ) (s : Bool) → Reads (λ S. g.def S true <|> g.include S) (Like x) s (bare level (laid x))

pub record ItemRead (x : Tree) : Type 0 where
  pub reads : (level : ℕ) (s : Bool) → Reads (λ S. g.item S) (Like x) s (bare level (laid x))

accessors_each : (level : ℕ) (xs : List Tree) → All AccessorRead xs → Each (λ S. g.acc S) (bare level) xs
accessors_each level [] h = tt
accessors_each level (x ∷ xs) h = ((h.0).reads level, accessors_each level xs h.1)

accessors_reads : (seen : TokenLook) (at : ℕ) (property : Bool) (x : Tree) (xs : List Tree) → AccessorRead x → All AccessorRead xs → (level : ℕ) (s : Bool)
    → Reads (λ S. g.accessors S seen property) (Like (tree.Accessors at property (x ∷ xs))) s (y.word seen ∷ space ∷ y.listed (map (bare level) (map laid (x ∷ xs))))
accessors_reads seen at property x xs h hs level s =
    let ps = y.listed (map (bare level) (map laid (x ∷ xs))) in
    on_word seen (space ∷ ps) (λ place. spaced 1 ps (then_last ps (listed_reads (λ S. g.acc S) (bare level) x xs (accessors_each level (x ∷ xs) (h, hs)) true)
    (λ zs q. gives (tree.Accessors place property zs) (un.of_accessors place property zs ∙ ap (λ (v : List Tree). tree.Accessors 0 property v) q ∙ sym (un.of_accessors at property (x ∷ xs))))))

pub accessors_read : (at : ℕ) (property : Bool) (x : Tree) (xs : List Tree) → AccessorRead x → All AccessorRead xs → MemberRead (tree.Accessors at property (x ∷ xs))
accessors_read at false x xs h hs = record {
  reads = λ level s. subst (λ (v : Laid). Reads (λ S. g.member S) (Like (tree.Accessors at false (x ∷ xs))) s (bare level v)) (sym (of.of_accessors at false (x ∷ xs)))
      (other (other (other (one_of (accessors_reads l.Getter at false x xs h hs level s)))));
}
accessors_read at true x xs h hs = record {
  reads = λ level s. subst (λ (v : Laid). Reads (λ S. g.member S) (Like (tree.Accessors at true (x ∷ xs))) s (bare level v)) (sym (of.of_accessors at true (x ∷ xs)))
      (other (other (other (other (accessors_reads l.Property at true x xs h hs level s)))));
}

pub declaration_read : (at : ℕ) (name : List ℕ) (type : Tree) → Typed true type → MemberRead (tree.Declaration at name type)
declaration_read at name type h = record {
  reads = λ level s.
      let ps = bare level (laid type) in
      subst (λ (v : Laid). Reads (λ S. g.member S) (Like (tree.Declaration at name type)) s (bare level v)) (sym (of.of_declaration at name type))
      (other (other (one_of (on_name (λ text. k.InstanceVariable text) name (space ∷ y.word l.Colon ∷ space ∷ ps) (λ place. then_last {P = Like type} (space ∷ y.word l.Colon ∷ space ∷ ps)
      (spaced 1 (y.word l.Colon ∷ space ∷ ps) (on_word l.Colon (space ∷ ps) (λ place'. spaced 1 ps (h.reads level true)))) (λ z q. gives (tree.Declaration place name z) (simp (un.constructs, q))))))));
}

include_reads : (at : ℕ) (name : List ℕ) (level : ℕ) (s : Bool) → Reads (λ S. g.include S) (Like (tree.Include at name)) s (bare level (laid (tree.Include at name)))
include_reads at name level s = subst (λ (v : Laid). Reads (λ S. g.include S) (Like (tree.Include at name)) s (bare level v)) (sym (of.of_include at name))
    (on_word l.Include (space ∷ Put (k.Constant name) ∷ []) (λ place. spaced 1 (Put (k.Constant name) ∷ []) (on_name (λ text. k.Constant text) name [] (λ place'. gives (tree.Include place name) (simp (un.constructs))))))

pub include_read : (at : ℕ) (name : List ℕ) → MemberRead (tree.Include at name)
include_read at name = record { reads = λ level s. other (one_of (include_reads at name level s)) }

pub include_part : (at : ℕ) (name : List ℕ) → PartRead (tree.Include at name)
include_part at name = record { reads = λ level s. other (include_reads at name level s) }

-- ---- classes and modules

members_each : (level : ℕ) (xs : List Tree) → All MemberRead xs → Each (λ S. g.member S) (bare level) xs
members_each level [] h = tt
members_each level (x ∷ xs) h = ((h.0).reads level, members_each level xs h.1)

parts_each : (level : ℕ) (xs : List Tree) → All PartRead xs → Each (λ S. g.def S true <|> g.include S) (bare level) xs
parts_each level [] h = tt
parts_each level (x ∷ xs) h = ((h.0).reads level, parts_each level xs h.1)

abbrev Names : List (List ℕ) → List (List Piece)
Names names = map (λ name. Put (k.Constant name) ∷ []) names

constant_text_reads : (name : List ℕ) (s : Bool) → Reads (λ S. g.constant_text S) (λ z. z ≡ name) s (Put (k.Constant name) ∷ [])
constant_text_reads name s = on_name (λ text. k.Constant text) name [] (λ at. gives name refl)

more_constants : (names : List (List ℕ)) (s : Bool) → Reads (λ S. many (comma >> g.constant_text S)) (λ found. found ≡ names) s (y.more_joined y.comma (Names names))
more_constants [] s = no_more refl
more_constants (name ∷ names) s = one_more {P = λ z. z ≡ name} {Q = λ found. found ≡ names} (y.word l.Comma ∷ space ∷ Put (k.Constant name) ∷ []) (y.more_joined y.comma (Names names))
    (λ z zs p q. ap (λ (v : List ℕ). v ∷ zs) p ∙ ap (λ (v : List (List ℕ)). name ∷ v) q) (on_comma (Put (k.Constant name) ∷ []) (constant_text_reads name true)) (more_constants names false)

constants_reads : (names : List (List ℕ)) → Reads (λ S. tight (parenthesized (listed (g.constant_text S))) <|> nothing []) (λ found. found ≡ names) false (y.in_parentheses (Names names))
constants_reads [] = other (gives [] refl)
constants_reads (name ∷ names) =
    let ps = y.listed (Names (name ∷ names)) in
    one_of (closely (k.Plain l.OpenParenthesis) (ps ++ y.word l.CloseParenthesis ∷ []) (in_parentheses_reads ps (then {P = λ z. z ≡ name} (Put (k.Constant name) ∷ []) (y.more_joined y.comma (Names names)) (constant_text_reads name false)
    (λ z p. then_last {P = λ found. found ≡ names} (y.more_joined y.comma (Names names)) (more_constants names false) (λ zs q. gives (z ∷ zs) (ap (λ (v : List ℕ). v ∷ zs) p ∙ ap (λ (v : List (List ℕ)). name ∷ v) q))))))

superclass_reads : (name : Option (List ℕ)) (s : Bool) → Reads (λ S. maybe (word l.Less >> g.constant_text S)) (λ found. found ≡ name) s (y.superclass_of name)
superclass_reads None s = none refl
superclass_reads (Some name) s = some_one {P = λ z. z ≡ name} (λ z q. ap (λ (v : List ℕ). Some v) q)
    (spaced 1 (y.word l.Less ∷ space ∷ Put (k.Constant name) ∷ []) (on_word l.Less (space ∷ Put (k.Constant name) ∷ []) (λ at. spaced 1 (Put (k.Constant name) ∷ []) (constant_text_reads name true))))

module _ (at : ℕ) (name : List ℕ) (parameters : List (List ℕ)) (superclass : Option (List ℕ)) (members : List Tree) (held : All MemberRead members) where
  same_class : (place : ℕ) (ps : List (List ℕ)) (above : Option (List ℕ)) (zs : List Tree) → ps ≡ parameters → above ≡ superclass → AllLike members zs → Like (tree.Class at name parameters superclass members) (tree.Class place name ps above zs)
  same_class place ps above zs hp ha hz =
      un.of_class place name ps above zs ∙ ap (λ (v : List (List ℕ)). tree.Class 0 name v above (map unplaced zs)) hp ∙ ap (λ (v : Option (List ℕ)). tree.Class 0 name parameters v (map unplaced zs)) ha ∙ ap (λ (v : List Tree). tree.Class 0 name parameters superclass v) hz
      ∙ sym (un.of_class at name parameters superclass members)

  pub class_read : ItemRead (tree.Class at name parameters superclass members)
  class_read = record {
    reads = λ level s.
        let ps = y.in_parentheses (Names parameters) in let above = y.superclass_of superclass in let qs = y.body level (map laid members) in
        subst (λ (v : Laid). Reads (λ S. g.item S) (Like (tree.Class at name parameters superclass members)) s (bare level v)) (sym (of.of_class at name parameters superclass members))
        (one_of (on_word l.Class (space ∷ Put (k.Constant name) ∷ (ps ++ (above ++ qs))) (λ place. spaced 1 (Put (k.Constant name) ∷ (ps ++ (above ++ qs))) (on_name (λ text. k.Constant text) name (ps ++ (above ++ qs)) (λ place'.
        then {P = λ found. found ≡ parameters} ps (above ++ qs) (constants_reads parameters) (λ zs p. then {P = λ found. found ≡ superclass} above qs (superclass_reads superclass (spaced_behind false ps))
        (λ z q. line_body_end (λ S. g.member S) level members (members_each (suc level) members held) (λ ms. tree.Class place name zs z ms) (Like (tree.Class at name parameters superclass members))
        (λ ms r. same_class place zs z ms p q r) (spaced_behind (spaced_behind false ps) above))))))));
  }

pub module_read : (at : ℕ) (name : List ℕ) (members : List Tree) → All PartRead members → ItemRead (tree.Module at name members)
module_read at name members held = record {
  reads = λ level s.
      let qs = y.body level (map laid members) in
      subst (λ (v : Laid). Reads (λ S. g.item S) (Like (tree.Module at name members)) s (bare level v)) (sym (of.of_module at name members))
      (other (one_of (on_word l.Module (space ∷ Put (k.Constant name) ∷ qs) (λ place. spaced 1 (Put (k.Constant name) ∷ qs) (on_name (λ text. k.Constant text) name qs (λ place'.
      line_body_end (λ S. g.def S true <|> g.include S) level members (parts_each (suc level) members held) (λ ms. tree.Module place name ms) (Like (tree.Module at name members)) (λ ms r. simp (un.constructs, r)) false))))));
}

pub statement_item : (x : Tree) → Value top x → ItemRead x
statement_item x h = record { reads = λ level s. other (other (other (as_statement top x h level s))) }

pub definition_item : (x : Tree) → DefinitionRead false x → ItemRead x
definition_item x h = record { reads = λ level s. other (other (one_of (h.reads level s))) }

pub definition_member : (x : Tree) → DefinitionRead true x → MemberRead x
definition_member x h = record { reads = λ level s. one_of (h.reads level s) }

pub definition_part : (x : Tree) → DefinitionRead true x → PartRead x
definition_part x h = record { reads = λ level s. one_of (h.reads level s) }

pub items_each : (level : ℕ) (xs : List Tree) → All ItemRead xs → Each (λ S. g.item S) (bare level) xs
items_each level [] h = tt
items_each level (x ∷ xs) h = ((h.0).reads level, items_each level xs h.1)
