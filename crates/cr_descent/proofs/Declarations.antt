-- Declarations and programs are read exactly.
use Rattle.std.proofs.Common.{◌≡◌, ℕ, Bool, true, false, not, List, [], inl, inr, refl, sym, subst}
use Rattle.std.proofs.lemmas.Bool.{both_ways, or_parts}
use Rattle.std.specs.Prelude.{Option, None}
use Rattle.std.specs.Str.{bytes_eq}
use Rattle.cr_syntax.specs.declared.look.TokenLook.{TokenLook}
use Rattle.cr_syntax.specs.declared.look.TokenLook.TheVariants as l
use Rattle.cr_syntax.specs.declared.token.Token.{Token}
use Rattle.cr_syntax.specs.declared.token.TokenKind.{TokenKind}
use Rattle.cr_syntax.specs.declared.token.TokenKind.TheVariants as k
use Rattle.cr_syntax.specs.Look.{look_of}
use Rattle.cr_grammar.specs.declared.tree.Tree.{Tree}
use Rattle.cr_grammar.specs.declared.tree.Tree.TheVariants as tree
use Rattle.cr_grammar.specs.declared.within.Within.{Within}
use Rattle.cr_grammar.specs.declared.word.Word.{Word}
use Rattle.cr_grammar.specs.Forms.{Form, nothing}
use Rattle.cr_grammar.specs.Forms as f
use Rattle.cr_grammar.specs.Operators as o
use Rattle.cr_grammar.specs.declared.wanted.Wanted.{Wanted}
use Rattle.cr_grammar.specs.declared.wanted.Wanted.TheVariants.{Written, Stmt}
use Rattle.cr_grammar.specs.Wanted.{in_method, top}
use Rattle.cr_grammar.specs.Laws.{begins_stmt}
use Rattle.cr_grammar.specs.Grammar as gr
use Rattle.cr_readers.specs.Reader.{Reader, Test, expect, either, seen, tight_seen, never, part, beside, ◌>>◌}
use Rattle.cr_readers.specs.Lists.{optional, listed, parenthesized, stmts}
use Rattle.cr_exact.specs.Exact.{Effort, Exact, Any}
use Rattle.cr_readers.specs.Goes as g
use Rattle.cr_readers.specs.Words.{ident, instance_variable}
use Rattle.cr_readers.specs.Declarations as declarations
use Rattle.cr_exact.proofs.TokenTests.{At, at_seen, look_apart, not_seen, not_either, not_tight_seen, other_look}
use Rattle.cr_exact.proofs.Forms.{Spelled, spelled_bind, spelled_word, spelled_nothing, spelled_seps, spelled_parenthesized, spelled_stmts}
use Rattle.cr_exact.proofs.Heads.{led_heads, tested}
use Rattle.cr_exact.proofs.Nodes.{exact_beside}
use Rattle.cr_exact.proofs.Lists.{exact_parenthesized, exact_tight}
use Rattle.cr_exact.proofs.Closed.{exact_or_none}
use Rattle.cr_exact.proofs.Lines.{exact_stmts}
use Rattle.cr_exact.proofs.Steps.{Starts, Begins, Reads, starts_word, starts_holding, starts_bind, starts_or, starts_where, starts_maybe, starts_or_none, starts_tight, starts_passing, reads_word, reads_pure, reads_part, reads_grow, reads_bind, reads_sure, reads_map, reads_goes, reads_free, reads_as, reads_choose, reads_or_nothing, reads_optional, reads_listed}
use Rattle.cr_descent.proofs.Claims as claims
use Rattle.cr_readers.specs.Reader.{same_look}
use Rattle.cr_exact.proofs.Lists.{exact_closed}
use Rattle.cr_exact.proofs.Nodes.{silent_grow}
use Rattle.cr_exact.proofs.Moves.{Moves, moves_bind, moves_word, moves_tight, moves_part, moves_beside, moves_less, moves_either, advances_bind, advances_choose, advances_next, advances_take, advances_pure}
use Rattle.cr_exact.proofs.Sequence.{Advances, never_back}
use Rattle.cr_exact.proofs.Steps.{reads_separators}
use Rattle.cr_exact.proofs.Steps.{reads_on}
use Rattle.cr_descent.proofs.Words.{variable_moves}
use Rattle.cr_descent.proofs.Compounds.{reads_rec, reads_body}
use Rattle.cr_descent.proofs.MethodNames.{reads_ident, reads_constant, reads_variable, goes_name, name_tried, reads_name_tried}

module _ {effort : Effort} {rec : Wanted → Reader Tree} {S T : Wanted → Form Tree} (given : claims.Given effort rec S T) where
  name_out : (w : List Token) (x : List ℕ) → name_tried w x → gr.name S w x
  name_out w x (inl (a, b, name, is, c, inl d)) = inl (a, b, name, is, c, d)
  name_out w x (inl (a, b, name, is, c, inr d)) = inr (inl (a, b, name, is, c, d))
  name_out w x (inr (inl c)) = inr (inr (inr c))
  name_out w x (inr (inr c)) = inr (inr (inl c))

  name_back : (w : List Token) (x : List ℕ) → gr.name T w x → name_tried w x
  name_back w x (inl (a, b, name, is, c, d)) = inl (a, b, name, is, c, inl d)
  name_back w x (inr (inl (a, b, name, is, c, d))) = inl (a, b, name, is, c, inr d)
  name_back w x (inr (inr (inl c))) = inr (inr c)
  name_back w x (inr (inr (inr c))) = inr (inl c)

  pub reads_name : Reads effort (gr.name S) (gr.name T) goes_name declarations.method_name
  reads_name = reads_as (gr.name S) (gr.name T) name_out name_back (reads_name_tried effort)

  -- ---- parameters

  reads_restriction : Reads effort (gr.restriction S) (gr.restriction T) g.goes_type (declarations.restriction effort.turns rec)
  reads_restriction = reads_sure (reads_word effort (k.Plain l.Colon) never) (λ _. reads_part (reads_rec given (Written true)))

  -- [ ":" type ] goes on by a `:`, or as a type does
  abbrev pub goes_restricted : Test
  goes_restricted = either (seen l.Colon) g.goes_type

  reads_maybe_restriction : Reads effort (f.maybe (gr.restriction S)) (f.maybe (gr.restriction T)) goes_restricted (declarations.maybe_restriction effort.turns rec)
  reads_maybe_restriction = reads_optional (seen l.Colon) (starts_bind _ (starts_word l.Colon (at_seen l.Colon))) reads_restriction
      (moves_bind (moves_word l.Colon) (λ _. reads_on (reads_part (reads_rec given (Written true)))))

  abbrev pub parameter : (Wanted → Form Tree) → (List ℕ → TokenKind) → Bool → Form Tree
  parameter Q kind instance = f.◌>>=◌ (f.holding kind) (λ name. f.◌>>=◌ (f.maybe (gr.restriction Q)) (λ of. nothing (tree.Parameter name.at instance name.text of)))

  reads_parameter : (kind : List ℕ → TokenKind) (p : Reader Word) (instance : Bool) → Reads effort (f.holding kind) (f.holding kind) never p
      → Reads effort (parameter S kind instance) (parameter T kind instance) goes_restricted (declarations.parameter effort.turns rec p instance)
  reads_parameter kind p instance e =
      reads_sure e (λ name. reads_grow name.at (reads_map (λ of. tree.Parameter name.at instance name.text of) reads_maybe_restriction))

  abbrev pub local : (Wanted → Form Tree) → Form Tree
  local Q = parameter Q (λ text. k.Ident text) false

  abbrev pub variable : (Wanted → Form Tree) → Form Tree
  variable Q = parameter Q (λ text. k.InstanceVariable text) true

  reads_local : Reads effort (local S) (local T) goes_restricted (declarations.parameter effort.turns rec ident false)
  reads_local = reads_parameter (λ text. k.Ident text) ident false (reads_ident effort never)

  reads_variable_parameter : Reads effort (variable S) (variable T) goes_restricted (declarations.parameter effort.turns rec instance_variable true)
  reads_variable_parameter = reads_parameter (λ text. k.InstanceVariable text) instance_variable true (reads_variable effort never)

  abbrev pub param : (Wanted → Form Tree) → Bool → Form Tree
  param Q instance = f.◌<|>◌ (local Q) (f.where_true instance (variable Q))

  pub reads_param : (instance : Bool) → Reads effort (param S instance) (param T instance) goes_restricted (declarations.param effort.turns rec instance)
  reads_param true =
      reads_as (param S true) (param T true) out back
      (reads_choose (seen l.InstanceVariable)
      (starts_bind _ (starts_holding (λ text. k.InstanceVariable text) l.InstanceVariable (λ text. refl) (at_seen l.InstanceVariable)))
      (starts_bind _ (starts_holding (λ text. k.Ident text) l.Ident (λ text. refl) (not_seen l.Ident l.InstanceVariable (λ e. cc))))
      reads_variable_parameter reads_local) where
        out : (w : List Token) (x : Tree) → (f.◌<|>◌ (variable S) (local S)) w x → param S true w x
        out w x (inl c) = inr (refl, c)
        out w x (inr c) = inl c

        back : (w : List Token) (x : Tree) → param T true w x → (f.◌<|>◌ (variable T) (local T)) w x
        back w x (inl c) = inr c
        back w x (inr c) = inl c.1
  reads_param false = reads_as (param S false) (param T false) (λ w x c. inl c) back reads_local where
    back : (w : List Token) (x : Tree) → param T false w x → local T w x
    back w x (inl c) = c
    back w x (inr c) = absurd (both_ways _ refl c.0)

  pub begins_param : (a : TokenLook) (instance : Bool) → (l.Ident ≡ a → ⊥) → (l.InstanceVariable ≡ a → ⊥) → Begins (seen a) (param T instance)
  begins_param a instance one other =
      starts_or (starts_bind _ (starts_holding (λ text. k.Ident text) l.Ident (λ text. refl) (not_seen l.Ident a one)))
      (starts_where instance (starts_bind _ (starts_holding (λ text. k.InstanceVariable text) l.InstanceVariable (λ text. refl)
      (not_seen l.InstanceVariable a other))))

  -- R in parentheses that are tight, or nothing
  reads_enclosed : {A : Type 0} {R C : Form (List A)} (p : Reader (List A)) → Advances p → Spelled R
      → Exact effort Any (f.parenthesized R) (f.parenthesized C) never (parenthesized effort.turns p)
      → Reads effort (f.◌<|>◌ (f.tight (f.parenthesized R)) (nothing [])) (f.◌<|>◌ (f.tight (f.parenthesized C)) (nothing [])) (tight_seen l.OpenParenthesis) (declarations.enclosed effort.turns rec p)
  reads_enclosed {R = R} {C = C} p on some e =
      let s = spelled_parenthesized some in
      reads_or_nothing (tight_seen l.OpenParenthesis) [] (starts_tight l.OpenParenthesis (starts_bind _ (starts_word l.OpenParenthesis (at_seen l.OpenParenthesis))))
      (exact_tight l.OpenParenthesis (led_heads l.OpenParenthesis _) s.0 s.1 s.2 refl e)
      (moves_tight l.OpenParenthesis (moves_bind (moves_word l.OpenParenthesis) (λ _. advances_bind (reads_on (reads_separators effort)) (λ _. advances_bind on
      (λ xs. never_back (exact_closed effort (k.Plain l.CloseParenthesis) xs (λ e. cc)))))))

  -- the same and what follows it
  pub starts_enclosed : (h : Test) {A B : Type 0} {C : Form (List A)} (D : List A → Form B) → At false l.OpenParenthesis h → ((xs : List A) → Starts false h (D xs))
      → Starts false h (f.◌>>=◌ (f.◌<|>◌ (f.tight (f.parenthesized C)) (nothing [])) D)
  starts_enclosed h D not next = starts_or_none D (starts_passing f.is_tight (starts_bind _ (starts_word l.OpenParenthesis not))) next

  abbrev pub goes_listed : Test
  goes_listed = either (seen l.Comma) goes_restricted

  pub reads_params : (instance : Bool)
      → Reads effort (f.listed (param S instance)) (f.listed (param T instance)) goes_listed (listed effort.turns (part (declarations.param effort.turns rec instance)))
  reads_params instance =
      reads_listed (not_either _ (seen l.Colon) g.goes_type (not_seen l.Comma l.Colon (λ e. cc)) (λ spaced. refl))
      (begins_param l.Newline instance (λ e. cc) (λ e. cc)) (reads_part (reads_param instance))

  abbrev pub parameters : (Wanted → Form Tree) → Bool → Form (List Tree)
  parameters Q instance = f.◌<|>◌ (f.tight (f.parenthesized (f.or_none (f.listed (param Q instance))))) (nothing [])

  -- no token of this look goes on in a list of parameters
  pub listed_not : (a : TokenLook) → (a ≡ l.Comma → ⊥) → (a ≡ l.Colon → ⊥) → At false a g.goes_type → At false a goes_listed
  listed_not a comma colon type = not_either _ (seen l.Comma) goes_restricted (not_seen a l.Comma comma)
      (not_either _ (seen l.Colon) g.goes_type (not_seen a l.Colon colon) type)

  pub reads_parameters : (within : Within)
      → Reads effort (parameters S within.initialize) (parameters T within.initialize) (tight_seen l.OpenParenthesis) (declarations.parameters effort.turns rec within)
  reads_parameters within =
      reads_enclosed _ (advances_choose (seen l.CloseParenthesis) (advances_pure []) (reads_on (reads_params within.initialize))) ([], [], inr (refl, refl))
      (reads_sure (reads_word effort (k.Plain l.OpenParenthesis) never) (λ _. (
        exact_or_none effort (f.listed (param S within.initialize)) (f.listed (param T within.initialize)) goes_listed _ (reads_params within.initialize).0
            (starts_bind _ (begins_param l.Newline within.initialize (λ e. cc) (λ e. cc))).first
            (listed_not l.Newline (λ e. cc) (λ e. cc) (λ spaced. refl)) (k.Plain l.CloseParenthesis) (listed_not l.CloseParenthesis (λ e. cc) (λ e. cc) (λ spaced. refl))
            (λ e. cc)
            (starts_bind _ (begins_param l.CloseParenthesis within.initialize (λ e. cc) (λ e. cc))).first,
        spelled_bind spelled_seps (λ _. spelled_bind {R = f.or_none (f.listed (param S within.initialize))} ([], [], inr (refl, refl)) (λ xs.
            spelled_bind spelled_seps (λ _. spelled_bind (spelled_word (k.Plain l.CloseParenthesis)) (λ _. spelled_nothing xs)))),
      ))).0

  -- ---- methods

  abbrev pub result : (Wanted → Form Tree) → Bool → Form (Option Tree)
  result Q initialize = f.◌<|>◌ (nothing None) (f.where_true (not initialize) (f.maybe (gr.restriction Q)))

  pub result_back : (Q : Wanted → Form Tree) (initialize : Bool) (w : List Token) (x : Option Tree) → result Q initialize w x → f.maybe (gr.restriction Q) w x
  result_back Q initialize w x (inl c) = subst (f.maybe (gr.restriction Q) w) (sym c.1) c.0
  result_back Q initialize w x (inr c) = c.1

  pub reads_result : (initialize : Bool) → Reads effort (result S initialize) (result T initialize) goes_restricted (declarations.result_type effort.turns rec initialize)
  reads_result true = reads_as (result S true) (result T true) (λ w x c. inl c) back (reads_pure effort None goes_restricted) where
    back : (w : List Token) (x : Option Tree) → result T true w x → nothing None w x
    back w x (inl c) = c
    back w x (inr c) = absurd (both_ways _ refl c.0)
  reads_result false = reads_as (result S false) (result T false) (λ w x c. inr (refl, c)) (result_back T false) reads_maybe_restriction

  -- a result type and what follows it
  pub starts_result : (h : Test) (initialize : Bool) (D : Option Tree → Form Tree) → At false l.Colon h → ((x : Option Tree) → Starts false h (D x))
      → Starts false h (f.◌>>=◌ (result T initialize) D)
  starts_result h initialize D colon next = record {
    first = λ w y rest c. (starts_maybe {C = gr.restriction T} D (starts_bind _ (starts_word l.Colon colon)) next).first w y rest
        (c.0, c.1, c.2, c.3, result_back T initialize c.0 c.2 c.4, c.5);
  }

  -- no token of this look goes on as a name, where it is neither `=` nor `?`
  pub name_not : (a : TokenLook) → (a ≡ l.Equal → ⊥) → (a ≡ l.Question → ⊥) → At false a goes_name
  name_not a equal question = not_either _ (tight_seen l.Equal) (tight_seen l.Question) (not_tight_seen a l.Equal (other_look a l.Equal equal)) (not_tight_seen a l.Question (other_look a l.Question question))

  reads_def : (class : Bool) → Reads effort (gr.def S class) (gr.def T class) never (declarations.def effort.turns rec class)
  reads_def class =
      reads_sure (reads_word effort (k.Plain l.Def) never) (λ at. reads_grow at
      (reads_bind reads_name (λ name.
      reads_bind (reads_parameters (in_method class name)) (λ parameters.
      reads_bind (reads_result (bytes_eq name o.initialize_name)) (λ result.
      reads_sure (reads_word effort (k.Plain l.Newline) never) (λ _.
      reads_bind (reads_body given (in_method class name)) (λ body.
      reads_map (λ _. _) (reads_word effort (k.Plain l.KeywordEnd) never))
      (λ body. starts_bind _ (starts_word l.KeywordEnd (λ spaced. refl)))))
      (λ result. starts_bind _ (starts_word l.Newline (not_either _ (seen l.Colon) g.goes_type (not_seen l.Newline l.Colon (λ e. cc)) (λ spaced. refl)))))
      (λ parameters. starts_result (tight_seen l.OpenParenthesis) (bytes_eq name o.initialize_name) _ (not_tight_seen l.Colon l.OpenParenthesis (other_look l.Colon l.OpenParenthesis (λ e. cc)))
      (λ result. starts_bind _ (starts_word l.Newline (not_tight_seen l.Newline l.OpenParenthesis (other_look l.Newline l.OpenParenthesis (λ e. cc)))))))
      (λ name. starts_enclosed goes_name _ (name_not l.OpenParenthesis (λ e. cc) (λ e. cc))
      (λ parameters. starts_result goes_name (bytes_eq name o.initialize_name) _ (name_not l.Colon (λ e. cc) (λ e. cc))
      (λ result. starts_bind _ (starts_word l.Newline (name_not l.Newline (λ e. cc) (λ e. cc))))))))

  def_moves : (class : Bool) → Moves (seen l.Def) (declarations.def effort.turns rec class)
  def_moves class =
      moves_bind (moves_word l.Def) (λ at. advances_next (silent_grow at) (advances_bind (reads_on reads_name) (λ name.
      advances_bind (reads_on (reads_parameters (in_method class name))) (λ parameters.
      advances_bind (reads_on (reads_result (bytes_eq name o.initialize_name))) (λ result. advances_bind (advances_take _) (λ _.
      advances_bind (reads_on (reads_body given (in_method class name))) (λ body. advances_bind (advances_take _) (λ _. advances_pure _))))))))

  -- ---- members

  pub starts_def : {v : Bool} {h : Test} (class : Bool) → At v l.Def h → Starts v h (gr.def T class)
  starts_def class at = starts_bind _ (starts_word l.Def at)

  reads_include : Reads effort (gr.include S) (gr.include T) never (declarations.include)
  reads_include = reads_sure (reads_word effort (k.Plain l.Include) never) (λ at. reads_grow at (reads_map (λ name. tree.Include at name.text) (reads_constant effort never)))

  pub starts_include : {v : Bool} {h : Test} → At v l.Include h → Starts v h (gr.include T)
  starts_include at = starts_bind _ (starts_word l.Include at)

  abbrev pub declaration : (Wanted → Form Tree) → Form Tree
  declaration Q = f.◌>>=◌ f.instance_variable (λ name. f.◌>>=◌ (gr.restriction Q) (λ of. nothing (tree.Declaration name.at name.text of)))

  reads_declaration : Reads effort (declaration S) (declaration T) g.goes_type (declarations.declaration effort.turns rec)
  reads_declaration = reads_sure (reads_variable effort never) (λ name. reads_grow name.at
      (reads_map (λ of. tree.Declaration name.at name.text of) reads_restriction))

  pub starts_declaration : {v : Bool} {h : Test} → At v l.InstanceVariable h → Starts v h (declaration T)
  starts_declaration at = starts_bind _ (starts_holding (λ text. k.InstanceVariable text) l.InstanceVariable (λ text. refl) at)

  pub reads_acc : Reads effort (gr.acc S) (gr.acc T) goes_restricted (declarations.acc effort.turns rec)
  reads_acc = reads_sure (reads_ident effort never) (λ name. reads_grow name.at (reads_map (λ of. tree.Accessor name.at name.text of) reads_maybe_restriction))

  reads_accessors : (kind : TokenKind) (property : Bool)
      → Reads effort (gr.accessors S (look_of kind) property) (gr.accessors T (look_of kind) property) goes_listed (declarations.accessors effort.turns rec (look_of kind) property)
  reads_accessors kind property =
      reads_sure (reads_word effort kind never) (λ at. reads_grow at (reads_map (λ found. tree.Accessors at property found)
      (reads_listed (not_either _ (seen l.Colon) g.goes_type (not_seen l.Comma l.Colon (λ e. cc)) (λ spaced. refl))
      (starts_bind _ (starts_holding (λ text. k.Ident text) l.Ident (λ text. refl) (not_seen l.Ident l.Newline (λ e. cc)))) (reads_part reads_acc))))

  pub starts_accessors : {v : Bool} {h : Test} (a : TokenLook) (property : Bool) → At v a h → Starts v h (gr.accessors T a property)
  starts_accessors a property at = starts_bind _ (starts_word a at)

  pub reads_member : Reads effort (gr.member S) (gr.member T) goes_listed (declarations.member effort.turns rec)
  reads_member =
      reads_choose (seen l.Def) (starts_def true (at_seen l.Def))
      (starts_or (starts_include (not_seen l.Include l.Def (λ e. cc))) (starts_or (starts_declaration (not_seen l.InstanceVariable l.Def (λ e. cc)))
      (starts_or (starts_accessors l.Getter false (not_seen l.Getter l.Def (λ e. cc)))
      (starts_accessors l.Property true (not_seen l.Property l.Def (λ e. cc))))))
      (reads_free goes_listed (reads_def true))
      (reads_choose (seen l.Include) (starts_include (at_seen l.Include))
      (starts_or (starts_declaration (not_seen l.InstanceVariable l.Include (λ e. cc)))
      (starts_or (starts_accessors l.Getter false (not_seen l.Getter l.Include (λ e. cc)))
      (starts_accessors l.Property true (not_seen l.Property l.Include (λ e. cc)))))
      (reads_free goes_listed reads_include)
      (reads_choose (seen l.InstanceVariable) (starts_declaration (at_seen l.InstanceVariable))
      (starts_or (starts_accessors l.Getter false (not_seen l.Getter l.InstanceVariable (λ e. cc)))
      (starts_accessors l.Property true (not_seen l.Property l.InstanceVariable (λ e. cc))))
      (reads_goes goes_listed (λ a spaced stop. (or_parts _ _ (or_parts _ _ stop).1).1) reads_declaration)
      (reads_choose (seen l.Getter) (starts_accessors l.Getter false (at_seen l.Getter))
      (starts_accessors l.Property true (not_seen l.Property l.Getter (λ e. cc)))
      (reads_accessors (k.Plain l.Getter) false) (reads_accessors (k.Plain l.Property) true))))

  include_moves : Moves (seen l.Include) declarations.include
  include_moves = moves_bind (moves_word l.Include) (λ at. advances_next (silent_grow at) (advances_bind (reads_on (reads_constant effort never)) (λ name. advances_pure _)))

  declaration_moves : Moves (seen l.InstanceVariable) (declarations.declaration effort.turns rec)
  declaration_moves =
      moves_bind variable_moves (λ name. advances_next (silent_grow name.at) (advances_bind (reads_on reads_restriction) (λ of. advances_pure _)))

  accessors_moves : (sought : TokenLook) (property : Bool) → Moves (seen sought) (declarations.accessors effort.turns rec sought property)
  accessors_moves sought property =
      moves_bind (moves_word sought) (λ at. advances_next (silent_grow at) (advances_bind
      (reads_on (reads_listed (not_either _ (seen l.Colon) g.goes_type (not_seen l.Comma l.Colon (λ e. cc)) (λ spaced. refl))
      (starts_bind _ (starts_holding (λ text. k.Ident text) l.Ident (λ text. refl) (not_seen l.Ident l.Newline (λ e. cc)))) (reads_part reads_acc)))
      (λ found. advances_pure _)))

  abbrev member_tests : Test
  member_tests = either (seen l.Def) (either (seen l.Include) (either (seen l.InstanceVariable) (either (seen l.Getter) (seen l.Property))))

  member_test : (found : TokenLook) (spaced : Bool) → declarations.begins_member found spaced ≡ true → member_tests found spaced ≡ true
  unfolding same_look
  member_test l.Def spaced is = refl
  member_test l.Include spaced is = refl
  member_test l.InstanceVariable spaced is = refl
  member_test l.Getter spaced is = refl
  member_test l.Property spaced is = refl
  member_test _ spaced is = absurd cc

  member_moves : Moves declarations.begins_member (declarations.member effort.turns rec)
  member_moves =
      moves_less member_test (moves_either (def_moves true) (moves_either include_moves (moves_either declaration_moves
      (moves_either (accessors_moves l.Getter false) (accessors_moves l.Property true)))))

  module_member_test : (found : TokenLook) (spaced : Bool) → declarations.begins_module_member found spaced ≡ true → either (seen l.Def) (seen l.Include) found spaced ≡ true
  unfolding same_look
  module_member_test l.Def spaced is = refl
  module_member_test l.Include spaced is = refl
  module_member_test _ spaced is = absurd cc

  module_member_moves : Moves declarations.begins_module_member (declarations.module_member effort.turns rec)
  module_member_moves = moves_less module_member_test (moves_either (def_moves true) include_moves)

  abbrev begins_member : Test
  begins_member = declarations.begins_member

  pub starts_member : Starts true begins_member (gr.member T)
  starts_member =
      starts_or (starts_def true (λ spaced. refl)) (starts_or (starts_include (λ spaced. refl)) (starts_or (starts_declaration (λ spaced. refl))
      (starts_or (starts_accessors l.Getter false (λ spaced. refl)) (starts_accessors l.Property true (λ spaced. refl)))))

  abbrev pub module_member : (Wanted → Form Tree) → Form Tree
  module_member Q = f.◌<|>◌ (gr.def Q true) (gr.include Q)

  pub reads_module_member : Reads effort (module_member S) (module_member T) never (declarations.module_member effort.turns rec)
  reads_module_member = reads_choose (seen l.Def) (starts_def true (at_seen l.Def)) (starts_include (not_seen l.Include l.Def (λ e. cc))) (reads_def true)
      reads_include

  abbrev begins_module_member : Test
  begins_module_member = declarations.begins_module_member

  pub starts_module_member : Starts true begins_module_member (module_member T)
  starts_module_member = starts_or (starts_def true (λ spaced. refl)) (starts_include (λ spaced. refl))

  -- ---- lists that a closing token follows

  -- none of the tokens that close passes
  closed : (test : Test) → At false l.KeywordEnd test → At false l.CloseBrace test → At false l.Else test → At false l.Elsif test → At false l.In test
      → At false l.When test → At false l.End test
      → (found : TokenLook) (spaced : Bool) → g.goes_body found spaced ≡ false → test found spaced ≡ false
  closed test e1 e2 e3 e4 e5 e6 e7 l.KeywordEnd spaced stop = e1 spaced
  closed test e1 e2 e3 e4 e5 e6 e7 l.CloseBrace spaced stop = e2 spaced
  closed test e1 e2 e3 e4 e5 e6 e7 l.Else spaced stop = e3 spaced
  closed test e1 e2 e3 e4 e5 e6 e7 l.Elsif spaced stop = e4 spaced
  closed test e1 e2 e3 e4 e5 e6 e7 l.In spaced stop = e5 spaced
  closed test e1 e2 e3 e4 e5 e6 e7 l.When spaced stop = e6 spaced
  closed test e1 e2 e3 e4 e5 e6 e7 l.End spaced stop = e7 spaced
  closed test e1 e2 e3 e4 e5 e6 e7 other spaced stop = absurd cc

  pub closed_line : (found : TokenLook) (spaced : Bool) → g.goes_body found spaced ≡ false → seen l.Newline found spaced ≡ false
  closed_line = closed (seen l.Newline) (not_seen l.KeywordEnd l.Newline (λ e. cc)) (not_seen l.CloseBrace l.Newline (λ e. cc))
      (not_seen l.Else l.Newline (λ e. cc))
      (not_seen l.Elsif l.Newline (λ e. cc)) (not_seen l.In l.Newline (λ e. cc)) (not_seen l.When l.Newline (λ e. cc)) (not_seen l.End l.Newline (λ e. cc))

  pub closed_listed : (found : TokenLook) (spaced : Bool) → g.goes_body found spaced ≡ false → goes_listed found spaced ≡ false
  closed_listed = closed goes_listed (listed_not l.KeywordEnd (λ e. cc) (λ e. cc) (λ spaced. refl)) (listed_not l.CloseBrace (λ e. cc) (λ e. cc) (λ spaced. refl))
      (listed_not l.Else (λ e. cc) (λ e. cc) (λ spaced. refl)) (listed_not l.Elsif (λ e. cc) (λ e. cc) (λ spaced. refl))
      (listed_not l.In (λ e. cc) (λ e. cc) (λ spaced. refl))
      (listed_not l.When (λ e. cc) (λ e. cc) (λ spaced. refl)) (listed_not l.End (λ e. cc) (λ e. cc) (λ spaced. refl))

  pub closed_member : (found : TokenLook) (spaced : Bool) → g.goes_body found spaced ≡ false → begins_member found spaced ≡ false
  closed_member = closed begins_member (λ s. refl) (λ s. refl) (λ s. refl) (λ s. refl) (λ s. refl) (λ s. refl) (λ s. refl)

  pub closed_module_member : (found : TokenLook) (spaced : Bool) → g.goes_body found spaced ≡ false → begins_module_member found spaced ≡ false
  closed_module_member = closed begins_module_member (λ s. refl) (λ s. refl) (λ s. refl) (λ s. refl) (λ s. refl) (λ s. refl) (λ s. refl)

  abbrev begins_item : Test
  begins_item = declarations.begins_item

  pub closed_item : (found : TokenLook) (spaced : Bool) → g.goes_body found spaced ≡ false → begins_item found spaced ≡ false
  closed_item = closed begins_item (λ s. refl) (λ s. refl) (λ s. refl) (λ s. refl) (λ s. refl) (λ s. refl) (λ s. refl)

  pub closed_stmt : (found : TokenLook) (spaced : Bool) → g.goes_body found spaced ≡ false → g.goes_stmt found spaced ≡ false
  closed_stmt = closed g.goes_stmt (λ s. refl) (λ s. refl) (λ s. refl) (λ s. refl) (λ s. refl) (λ s. refl) (λ s. refl)

  -- ---- classes and modules

  reads_constant_name : (h : Test) → Reads effort (gr.constant_text S) (gr.constant_text T) h (declarations.constant_name)
  reads_constant_name h = reads_map (λ name. name.text) (reads_constant effort h)

  begins_constant_name : (a : TokenLook) → (l.Constant ≡ a → ⊥) → Begins (seen a) (gr.constant_text T)
  begins_constant_name a other = starts_bind _ (starts_holding (λ text. k.Constant text) l.Constant (λ text. refl) (not_seen l.Constant a other))

  reads_names : Reads effort (f.listed (gr.constant_text S)) (f.listed (gr.constant_text T)) (either (seen l.Comma) never) (listed effort.turns (declarations.constant_name))
  reads_names = reads_listed (λ spaced. refl) (begins_constant_name l.Newline (λ e. cc)) (reads_constant_name never)

  pub reads_class_parameters : Reads effort (f.◌<|>◌ (f.tight (f.parenthesized (f.listed (gr.constant_text S)))) (nothing [])) (f.◌<|>◌ (f.tight (f.parenthesized (f.listed (gr.constant_text T)))) (nothing []))
      (tight_seen l.OpenParenthesis) (declarations.enclosed effort.turns rec (listed effort.turns (declarations.constant_name)))
  reads_class_parameters =
      reads_enclosed _ (reads_on reads_names) reads_names.1
      (exact_parenthesized effort (f.listed (gr.constant_text S)) (f.listed (gr.constant_text T)) (either (seen l.Comma) never) _ reads_names.0
      (starts_bind _ (begins_constant_name l.Newline (λ e. cc))).first reads_names.1.0 reads_names.1.1 reads_names.1.2
      (not_either _ (seen l.Comma) never (not_seen l.Newline l.Comma (λ e. cc)) (λ spaced. refl))
      (not_either _ (seen l.Comma) never (not_seen l.CloseParenthesis l.Comma (λ e. cc)) (λ spaced. refl)))

  pub reads_superclass : Reads effort (f.maybe (f.◌>>◌ (f.word l.Less) (gr.constant_text S))) (f.maybe (f.◌>>◌ (f.word l.Less) (gr.constant_text T))) (either (seen l.Less) never)
      (optional (seen l.Less) (expect l.Less >> declarations.constant_name))
  reads_superclass = reads_optional (seen l.Less) (starts_bind _ (starts_word l.Less (at_seen l.Less)))
      (reads_sure (reads_word effort (k.Plain l.Less) never) (λ _. reads_constant_name never))
      (moves_bind (moves_word l.Less) (λ _. reads_on (reads_constant_name never)))

  reads_members : Reads effort (f.stmts (gr.member S)) (f.stmts (gr.member T)) g.goes_body (stmts effort.turns begins_member (part (declarations.member effort.turns rec)))
  reads_members = (
    exact_stmts effort (gr.member S) (gr.member T) begins_member goes_listed _ (reads_part reads_member).0 starts_member.first (λ spaced. refl)
        (listed_not l.Newline (λ e. cc) (λ e. cc) (λ spaced. refl))
        g.goes_body (λ a spaced stop. (closed_line a spaced stop, closed_member a spaced stop, closed_listed a spaced stop))
        (moves_part _ member_moves),
    spelled_stmts _,
  )

  reads_module_members : Reads effort (f.stmts (module_member S)) (f.stmts (module_member T)) g.goes_body (stmts effort.turns begins_module_member (part (declarations.module_member effort.turns rec)))
  reads_module_members = (
    exact_stmts effort (module_member S) (module_member T) begins_module_member never _ (reads_part reads_module_member).0 starts_module_member.first
        (λ spaced. refl) (λ spaced. refl)
        g.goes_body (λ a spaced stop. (closed_line a spaced stop, closed_module_member a spaced stop, refl))
        (moves_part _ module_member_moves),
    spelled_stmts _,
  )

  reads_class : Reads effort (gr.class S) (gr.class T) never (declarations.class effort.turns rec)
  reads_class =
      reads_sure (reads_word effort (k.Plain l.Class) never) (λ at. reads_grow at
      (reads_sure (reads_constant effort never) (λ name.
      reads_bind reads_class_parameters (λ parameters.
      reads_bind reads_superclass (λ superclass.
      reads_sure (reads_word effort (k.Plain l.Newline) never) (λ _.
      reads_bind reads_members (λ members.
      reads_map (λ _. _) (reads_word effort (k.Plain l.KeywordEnd) never))
      (λ members. starts_bind _ (starts_word l.KeywordEnd (λ spaced. refl)))))
      (λ superclass. starts_bind _ (starts_word l.Newline (not_either _ (seen l.Less) never (not_seen l.Newline l.Less (λ e. cc)) (λ spaced. refl)))))
      (λ parameters. starts_maybe _ (starts_bind _ (starts_word l.Less (not_tight_seen l.Less l.OpenParenthesis (other_look l.Less l.OpenParenthesis (λ e. cc)))))
      (λ superclass. starts_bind _ (starts_word l.Newline (not_tight_seen l.Newline l.OpenParenthesis (other_look l.Newline l.OpenParenthesis (λ e. cc)))))))))

  reads_module : Reads effort (gr.module_of S) (gr.module_of T) never (declarations.module_of effort.turns rec)
  reads_module =
      reads_sure (reads_word effort (k.Plain l.Module) never) (λ at. reads_grow at
      (reads_sure (reads_constant effort never) (λ name.
      reads_sure (reads_word effort (k.Plain l.Newline) never) (λ _.
      reads_bind reads_module_members (λ members.
      reads_map (λ _. _) (reads_word effort (k.Plain l.KeywordEnd) never))
      (λ members. starts_bind _ (starts_word l.KeywordEnd (λ spaced. refl)))))))

  -- ---- programs

  pub starts_class : {v : Bool} {h : Test} → At v l.Class h → Starts v h (gr.class T)
  starts_class at = starts_bind _ (starts_word l.Class at)

  pub starts_module : {v : Bool} {h : Test} → At v l.Module h → Starts v h (gr.module_of T)
  starts_module at = starts_bind _ (starts_word l.Module at)

  -- no statement of the top level begins with this look
  pub begins_stmt_not : (a : TokenLook) → begins_stmt top a ≡ false → Begins (seen a) (T (Stmt top))
  begins_stmt_not a not = record {
    first = λ w x rest c. tested false (begins_stmt top) (seen a) (look_apart (begins_stmt top) a not) w rest
        (given.stmt_begins top w x c);
  }

  pub reads_item : Reads effort (gr.item S) (gr.item T) g.goes_stmt (declarations.item effort.turns rec)
  reads_item =
      reads_choose (seen l.Class) (starts_class (at_seen l.Class))
      (starts_or (starts_module (not_seen l.Module l.Class (λ e. cc)))
      (starts_or (starts_def false (not_seen l.Def l.Class (λ e. cc))) (begins_stmt_not l.Class refl)))
      (reads_free g.goes_stmt reads_class)
      (reads_choose (seen l.Module) (starts_module (at_seen l.Module)) (starts_or (starts_def false (not_seen l.Def l.Module (λ e. cc)))
      (begins_stmt_not l.Module refl))
      (reads_free g.goes_stmt reads_module)
      (reads_choose (seen l.Def) (starts_def false (at_seen l.Def)) (begins_stmt_not l.Def refl) (reads_free g.goes_stmt (reads_def false)) (reads_rec given (Stmt top))))

  -- a statement begins an item
  item_of : (a : TokenLook) (spaced : Bool) → begins_stmt top a ≡ true → begins_item a spaced ≡ true
  item_of l.Class spaced is = refl
  item_of l.Module spaced is = refl
  item_of l.Def spaced is = refl
  item_of other spaced is = is

  pub starts_item : Starts true begins_item (gr.item T)
  starts_item =
      starts_or (starts_class (λ spaced. refl)) (starts_or (starts_module (λ spaced. refl)) (starts_or (starts_def false (λ spaced. refl))
      (record { first = λ w x rest c. tested true (begins_stmt top) begins_item item_of w rest (given.stmt_begins top w x c) })))

  class_moves : Moves (seen l.Class) (declarations.class effort.turns rec)
  class_moves =
      moves_bind (moves_word l.Class) (λ at. advances_next (silent_grow at) (advances_bind (reads_on (reads_constant effort never)) (λ name.
      advances_bind (reads_on reads_class_parameters) (λ parameters. advances_bind (reads_on reads_superclass) (λ superclass. advances_bind (advances_take _) (λ _.
      advances_bind (reads_on reads_members) (λ members. advances_bind (advances_take _) (λ _. advances_pure _))))))))

  module_moves : Moves (seen l.Module) (declarations.module_of effort.turns rec)
  module_moves =
      moves_bind (moves_word l.Module) (λ at. advances_next (silent_grow at) (advances_bind (reads_on (reads_constant effort never)) (λ name. advances_bind (advances_take _) (λ _.
      advances_bind (reads_on reads_module_members) (λ members. advances_bind (advances_take _) (λ _. advances_pure _))))))

  item_test : (found : TokenLook) (spaced : Bool) → declarations.begins_item found spaced ≡ true
      → either (seen l.Class) (either (seen l.Module) (either (seen l.Def) (g.begins_line top))) found spaced ≡ true
  unfolding same_look
  item_test l.Class spaced is = refl
  item_test l.Module spaced is = refl
  item_test l.Def spaced is = refl
  item_test other spaced is = is

  item_moves : Moves declarations.begins_item (declarations.item effort.turns rec)
  item_moves = moves_less item_test (moves_either class_moves (moves_either module_moves (moves_either (def_moves false) (given.stmt_moves top))))

  reads_items : Reads effort (f.stmts (gr.item S)) (f.stmts (gr.item T)) g.goes_body (stmts effort.turns begins_item (beside (declarations.item effort.turns rec)))
  reads_items = (
    exact_stmts effort (gr.item S) (gr.item T) begins_item g.goes_stmt _ (exact_beside _ reads_item.0) starts_item.first (λ spaced. refl) (λ spaced. refl)
        g.goes_body (λ a spaced stop. (closed_line a spaced stop, closed_item a spaced stop, closed_stmt a spaced stop))
        (moves_beside _ item_moves),
    spelled_stmts _,
  )

  pub exact_program : Exact effort Any (gr.program S) (gr.program T) never (declarations.program effort.turns rec)
  exact_program =
      (reads_bind reads_items (λ items. reads_map (λ _. _) (reads_word effort (k.Plain l.End) never)) (λ items. starts_bind _ (starts_word l.End (λ spaced. refl)))).0
