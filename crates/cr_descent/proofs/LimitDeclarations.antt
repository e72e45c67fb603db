-- What is counted in declarations and programs.
use Rattle.std.proofs.Common.{◌≡◌, ℕ, ◌+◌, max, Bool, true, false, List, [], ◌∷◌, ◌++◌, map, inl, inr, refl, sym, arith}
use Rattle.std.proofs.lemmas.List.Sums.{sum_by-append}
use Rattle.std.proofs.lemmas.Bool.{both_ways}
use Rattle.std.specs.Prelude.{Option, Some, None, sum}
use Rattle.std.specs.Str.{bytes_eq}
use Rattle.cr_syntax.specs.declared.look.TokenLook.TheVariants as l
use Rattle.cr_syntax.specs.declared.token.Token.{Token}
use Rattle.cr_syntax.specs.declared.token.TokenKind.{TokenKind}
use Rattle.cr_syntax.specs.declared.token.TokenKind.TheVariants as k
use Rattle.cr_syntax.specs.Look.{look_of}
use Rattle.cr_grammar.specs.declared.tree.Tree.{Tree, the_lemmas}
use Rattle.cr_grammar.specs.declared.tree.Tree.TheVariants as tree
use Rattle.cr_grammar.specs.declared.within.Within.{Within}
use Rattle.cr_grammar.specs.Count.{nodes, nesting}
use Rattle.cr_grammar.specs.declared.word.Word.{Word}
use Rattle.cr_grammar.specs.Forms.{Form, nothing}
use Rattle.cr_grammar.specs.Forms as f
use Rattle.cr_grammar.specs.Operators as o
use Rattle.cr_grammar.specs.declared.wanted.Wanted.{Wanted}
use Rattle.cr_grammar.specs.declared.wanted.Wanted.TheVariants.{Written}
use Rattle.cr_grammar.specs.Wanted.{in_method, top}
use Rattle.cr_grammar.specs.Grammar as gr
use Rattle.cr_readers.specs.Reader.{Reader, Test, expect, holder, seen, tight_seen, never, part, beside, ◌>>=◌, ◌>>◌}
use Rattle.cr_readers.specs.Lists.{optional, unless_closed, separators, listed, stmts}
use Rattle.cr_exact.specs.Exact.{Effort, Exact, Any}
use Rattle.cr_exact.specs.Limits.{known, Still, Rises, tall, size_of_all, top_of_all, if_some}
use Rattle.cr_readers.specs.Goes as g
use Rattle.cr_readers.specs.Words.{ident_text, variable_text}
use Rattle.cr_readers.specs.Declarations as declarations
use Rattle.cr_exact.proofs.TokenTests.{stops_right, at_seen, not_seen, not_either, not_tight_seen, other_look}
use Rattle.cr_exact.proofs.Tokens.{Passing}
use Rattle.cr_exact.proofs.Heads.{led_heads}
use Rattle.cr_exact.proofs.Lists.{closed, read_closed}
use Rattle.cr_exact.proofs.Steps.{starts_word, starts_holding, starts_bind, starts_or, starts_tight, starts_maybe, reads_part, reads_beside}
use Rattle.cr_exact.proofs.Limits.{counts_pure, counts_silent, counts_weaken, counts_map, counts_goes, still_pure, still_take, still_refuse, still_bind, still_choose}
use Rattle.cr_exact.proofs.LimitChoices.{passing_same}
use Rattle.cr_exact.proofs.LimitParts.{tall_append, known_is, rises_part, rises_beside, rises_optional}
use Rattle.cr_exact.proofs.LimitLists.{still_word, still_end, still_optional, still_parenthesized, still_listed, counts_word, counts_begun, counts_made, counts_ended, counts_free, rises_or_none}
use Rattle.cr_exact.proofs.LimitReads.{counts_then, counts_past, counts_either, counts_or_nothing, counts_over, counts_named, rises_list, rises_lines}
use Rattle.cr_descent.proofs.Claims as claims
use Rattle.cr_descent.proofs.LimitClaims as limits
use Rattle.cr_descent.proofs.LimitTable as table
use Rattle.cr_descent.proofs.LimitTable.{part_height}
use Rattle.cr_descent.proofs.LimitBodies.{counts_body}
use Rattle.cr_descent.proofs.Words.{exact_ident, exact_instance_variable}
use Rattle.cr_descent.proofs.Declarations as d
use Rattle.cr_descent.proofs.MethodNames as m
use Rattle.cr_descent.proofs.LimitNodes.{told, parts_high, held, held_sum, held_high, node_told, maybe_told, statements_told}

-- ---- the name of a method

still_name_from : (name : Word) (marked : Bool) → Still (declarations.name_from name marked)
still_name_from name true = still_pure name.text
still_name_from name false = still_choose (tight_seen l.Equal) (still_end l.Equal (name.text ++ 61 ∷ [])) (still_pure name.text)

still_index_names : Still declarations.index_names
still_index_names =
    still_bind (still_bind (still_word l.OpenBracket) (λ at. still_choose (tight_seen l.CloseBracket) (still_word l.CloseBracket) still_refuse))
    (λ at. still_choose (tight_seen l.Equal) (still_end l.Equal o.index_set_name) (still_choose (tight_seen l.Question) (still_end l.Question o.index_question_name) (still_pure o.index_name)))

still_name : Still declarations.method_name
still_name =
    still_choose (seen l.Ident) (still_bind (still_take _) (λ name. still_name_from name (o.is_marked name.text)))
    (still_choose (seen l.OpenBracket) still_index_names (still_take _))

still_constant_name : Still declarations.constant_name
still_constant_name = still_bind (still_take _) (λ name. still_pure name.text)

-- ---- the nodes of declarations

parameter_told : (n at : ℕ) (instance : Bool) (name : List ℕ) (of : Option Tree)
    → told n (tree.Parameter at instance name of) ≡ known (n + 1 + if_some nodes of) (max 1 (if_some part_height of))
parameter_told n at instance name None = maybe_told n (tree.Parameter at instance name None) None (search the_lemmas) (search the_lemmas)
parameter_told n at instance name (Some x) = maybe_told n (tree.Parameter at instance name (Some x)) (Some x) (search the_lemmas) (search the_lemmas)

accessor_told : (n at : ℕ) (name : List ℕ) (of : Option Tree) → told n (tree.Accessor at name of) ≡ known (n + 1 + if_some nodes of) (max 1 (if_some part_height of))
accessor_told n at name None = maybe_told n (tree.Accessor at name None) None (search the_lemmas) (search the_lemmas)
accessor_told n at name (Some x) = maybe_told n (tree.Accessor at name (Some x)) (Some x) (search the_lemmas) (search the_lemmas)

declaration_told : (n at : ℕ) (name : List ℕ) (x : Tree) → told n (tree.Declaration at name x) ≡ known (n + 1 + nodes x) (max 1 (part_height x))
declaration_told n at name x =
    let a : nodes (tree.Declaration at name x) ≡ 1 + nodes x = grind (arith, the_lemmas) in
    let b : nesting (tree.Declaration at name x) ≡ 1 + nesting x = grind (arith, the_lemmas) in
    known_is _ _ _ _ (omega (arith, a)) (omega (arith, b))

include_told : (n at : ℕ) (name : List ℕ) → told n (tree.Include at name) ≡ known (n + 1) 1
include_told n at name =
    let a : nodes (tree.Include at name) ≡ 1 = grind (arith, the_lemmas) in
    let b : nesting (tree.Include at name) ≡ 1 = grind (arith, the_lemmas) in
    known_is _ _ _ _ (omega (arith, a)) b

accessors_told : (n at : ℕ) (property : Bool) (found : List Tree)
    → told n (tree.Accessors at property found) ≡ known (n + 1 + size_of_all nodes found) (max 1 (top_of_all part_height found))
accessors_told n at property found = node_told n (tree.Accessors at property found) found (search the_lemmas) (search the_lemmas)

class_told : (n at : ℕ) (name : List ℕ) (parameters : List (List ℕ)) (superclass : Option (List ℕ)) (members : List Tree)
    → told n (tree.Class at name parameters superclass members) ≡ known (n + 1 + size_of_all nodes members) (max 1 (top_of_all part_height members))
class_told n at name parameters superclass members = node_told n (tree.Class at name parameters superclass members) members (search the_lemmas) (search the_lemmas)

module_told : (n at : ℕ) (name : List ℕ) (members : List Tree)
    → told n (tree.Module at name members) ≡ known (n + 1 + size_of_all nodes members) (max 1 (top_of_all part_height members))
module_told n at name members = node_told n (tree.Module at name members) members (search the_lemmas) (search the_lemmas)

def_below : (at : ℕ) (name : List ℕ) (parameters : List Tree) (result : Option Tree) (body : List Tree)
    → nodes (tree.Def at name parameters result body) ≡ 1 + sum (map nodes parameters ++ held nodes result ++ map nodes body)
def_below at name parameters None body = search the_lemmas
def_below at name parameters (Some x) body = search the_lemmas

def_nests_below : (at : ℕ) (name : List ℕ) (parameters : List Tree) (result : Option Tree) (body : List Tree)
    → nesting (tree.Def at name parameters result body) ≡ 1 + tall (map nesting parameters ++ held nesting result ++ map nesting body)
def_nests_below at name parameters None body = search the_lemmas
def_nests_below at name parameters (Some x) body = search the_lemmas

def_are : (at : ℕ) (name : List ℕ) (parameters : List Tree) (result : Option Tree) (body : List Tree)
    → nodes (tree.Def at name parameters result body) ≡ 1 + (sum (map nodes parameters) + if_some nodes result + sum (map nodes body))
def_are at name parameters result body =
    let a = def_below at name parameters result body in
    let b = sum_by-append (λ n. n) (map nodes parameters ++ held nodes result) (map nodes body) in
    let c = sum_by-append (λ n. n) (map nodes parameters) (held nodes result) in
    let e = held_sum result in
    omega (arith, a, b, c, e)

def_high : (at : ℕ) (name : List ℕ) (parameters : List Tree) (result : Option Tree) (body : List Tree)
    → max (max (max 1 (top_of_all part_height parameters)) (if_some part_height result)) (top_of_all part_height body) ≡ nesting (tree.Def at name parameters result body)
def_high at name parameters result body =
    let a = def_nests_below at name parameters result body in
    let b = tall_append (map nesting parameters ++ held nesting result) (map nesting body) in
    let c = tall_append (map nesting parameters) (held nesting result) in
    let p = parts_high 1 parameters (omega arith) in
    let q = held_high 1 result (omega arith) in
    let r = parts_high 1 body (omega arith) in
    omega (arith, a, b, c, p, q, r)

-- a node, and three parts
three_told : (n a b c : ℕ) (x : Tree) → nodes x ≡ 1 + (a + b + c) → n + 1 + a + b + c ≡ n + nodes x
three_told n a b c x many = omega (arith, many)

def_told : (n at : ℕ) (name : List ℕ) (parameters : List Tree) (result : Option Tree) (body : List Tree)
    → told n (tree.Def at name parameters result body)
    ≡ known (n + 1 + size_of_all nodes parameters + if_some nodes result + size_of_all nodes body)
    (max (max (max 1 (top_of_all part_height parameters)) (if_some part_height result)) (top_of_all part_height body))
def_told n at name parameters result body =
    known_is _ _ _ _
    (sym (three_told n (size_of_all nodes parameters) (if_some nodes result) (size_of_all nodes body) (tree.Def at name parameters result body) (def_are at name parameters result body)))
    (sym (def_high at name parameters result body))

module _ {effort : Effort} {rec : Wanted → Reader Tree} {S T : Wanted → Form Tree} (given : claims.Given effort rec S T) (counts : limits.GivenCounts rec T) where
  abbrev goes_restricted : Test
  goes_restricted = d.goes_restricted given

  abbrev goes_listed : Test
  goes_listed = d.goes_listed given

  -- ---- parameters

  rises_restriction : Rises nodes part_height Any (gr.restriction T) g.goes_type (declarations.restriction effort.turns rec)
  rises_restriction n height =
      counts_word effort (k.Plain l.Colon) _ _ _ (λ at. rises_part nodes nesting (counts.written true) n height)

  rises_maybe_restriction : Rises (if_some nodes) (if_some part_height) Any (f.maybe (gr.restriction T)) goes_restricted (declarations.maybe_restriction effort.turns rec)
  rises_maybe_restriction =
      rises_optional (gr.restriction T) g.goes_type (declarations.restriction effort.turns rec) (seen l.Colon) nodes part_height
      (led_heads l.Colon (λ _. T (Written true)))
      (λ n height. counts_weaken (Passing (seen l.Colon)) (passing_same (seen l.Colon)) (rises_restriction n height))

  counts_parameter : (kind : List ℕ → TokenKind) (text_of : TokenKind → Option (List ℕ)) (instance : Bool) → Exact effort Any (f.holding kind) (f.holding kind) never (holder text_of)
      → limits.Trees (d.parameter given T kind instance) goes_restricted (declarations.parameter effort.turns rec (holder text_of) instance)
  counts_parameter kind text_of instance e n =
      counts_named kind text_of (told n) e n (λ name.
      counts_made (λ of. tree.Parameter name.at instance name.text of) (rises_maybe_restriction (n + 1) 1) (λ of. parameter_told n name.at instance name.text of))

  counts_local : limits.Trees (d.local given T) goes_restricted (declarations.parameter effort.turns rec (holder ident_text) false)
  counts_local = counts_parameter (λ text. k.Ident text) ident_text false (exact_ident effort never)

  counts_variable : limits.Trees (d.variable given T) goes_restricted (declarations.parameter effort.turns rec (holder variable_text) true)
  counts_variable = counts_parameter (λ text. k.InstanceVariable text) variable_text true (exact_instance_variable effort never)

  counts_param : (instance : Bool) → limits.Trees (d.param given T instance) goes_restricted (declarations.param effort.turns rec instance)
  counts_param true n =
      counts_map (d.param given T true) back
      (counts_either (seen l.InstanceVariable)
      (starts_bind _ (starts_holding (λ text. k.InstanceVariable text) l.InstanceVariable (λ text. refl) (at_seen l.InstanceVariable)))
      (starts_bind _ (starts_holding (λ text. k.Ident text) l.Ident (λ text. refl) (not_seen l.Ident l.InstanceVariable (λ e. cc))))
      (counts_variable n) (counts_local n)) where
        back : (w : List Token) (x : Tree) → d.param given T true w x → (f.◌<|>◌ (d.variable given T) (d.local given T)) w x
        back w x (inl c) = inr c
        back w x (inr c) = inl c.1
  counts_param false n = counts_map (d.param given T false) back (counts_local n) where
    back : (w : List Token) (x : Tree) → d.param given T false w x → d.local given T w x
    back w x (inl c) = c
    back w x (inr c) = absurd (both_ways _ refl c.0)

  rises_params : (instance : Bool) → Rises (size_of_all nodes) (top_of_all part_height) Any (f.listed (d.param given T instance)) goes_listed
      (listed effort.turns (part (declarations.param effort.turns rec instance)))
  rises_params instance =
      rises_list nodes part_height (reads_part (d.reads_param given instance))
      (not_either _ (seen l.Colon) g.goes_type (not_seen l.Comma l.Colon (λ e. cc)) (λ spaced. refl))
      (d.begins_param given l.Newline instance (λ e. cc) (λ e. cc))
      (rises_part nodes nesting (counts_param instance))

  rises_parameters : (within : Within) → Rises (size_of_all nodes) (top_of_all part_height) Any (d.parameters given T within.initialize) (tight_seen l.OpenParenthesis)
      (declarations.parameters effort.turns rec within)
  rises_parameters within n height =
      counts_or_nothing (tight_seen l.OpenParenthesis) [] (starts_tight l.OpenParenthesis (starts_bind _ (starts_word l.OpenParenthesis (at_seen l.OpenParenthesis))))
      (known_is _ _ _ _ (omega arith) (omega arith))
      (counts_map (f.tight (f.parenthesized (f.or_none (f.listed param)))) (λ w x c. c.1)
      (counts_word effort (k.Plain l.OpenParenthesis) _ _ _ (λ at. enclosed n height))) where
        param : Form Tree
        param = d.param given T within.initialize

        enclosed : Rises (size_of_all nodes) (top_of_all part_height) Any (f.◌>>=◌ f.seps (λ _. f.◌>>=◌ (f.or_none (f.listed param)) (λ xs. closed l.CloseParenthesis xs))) never
            (separators effort.turns >> (unless_closed l.CloseParenthesis (listed effort.turns (part (declarations.param effort.turns rec within.initialize))) >>= λ xs. read_closed effort.turns l.CloseParenthesis xs))
        enclosed =
            rises_or_none effort (f.listed (d.param given S within.initialize)) (f.listed param) goes_listed _ (d.reads_params given within.initialize).0
            (starts_bind _ (d.begins_param given l.Newline within.initialize (λ e. cc) (λ e. cc))).first
            (d.listed_not given l.Newline (λ e. cc) (λ e. cc) (λ spaced. refl)) l.CloseParenthesis
            (d.listed_not given l.CloseParenthesis (λ e. cc) (λ e. cc) (λ spaced. refl)) (λ e. cc)
            (starts_bind _ (d.begins_param given l.CloseParenthesis within.initialize (λ e. cc) (λ e. cc))).first
            (size_of_all nodes) (top_of_all part_height) refl refl (rises_params within.initialize)

  -- ---- methods

  rises_result : (initialize : Bool) → Rises (if_some nodes) (if_some part_height) Any (d.result given T initialize) goes_restricted (declarations.result_type effort.turns rec initialize)
  rises_result true n height =
      counts_map (d.result given T true) back
      (counts_pure None goes_restricted (known n height) (λ x. known (n + if_some nodes x) (max height (if_some part_height x))) (known_is _ _ _ _ (omega arith) (omega arith))) where
        back : (w : List Token) (x : Option Tree) → d.result given T true w x → nothing None w x
        back w x (inl c) = c
        back w x (inr c) = absurd (both_ways _ refl c.0)
  rises_result false n height =
      counts_map (d.result given T false) (d.result_back given T false)
      (rises_maybe_restriction n height)

  counts_def : (class : Bool) → limits.Trees (gr.def T class) never (declarations.def effort.turns rec class)
  counts_def class n =
      counts_begun effort (k.Plain l.Def) (told n) n (λ at.
      counts_past (d.reads_name given) still_name (λ name.
      let within = in_method class name in
      let initialize = bytes_eq name o.initialize_name in
      counts_then (d.reads_parameters given within) (rises_parameters within (n + 1) 1) (λ parameters.
      counts_then (d.reads_result given initialize)
      (rises_result initialize (n + 1 + size_of_all nodes parameters) (max 1 (top_of_all part_height parameters))) (λ result.
      counts_word effort (k.Plain l.Newline) _ _ _ (λ line.
      counts_ended l.KeywordEnd (λ body. tree.Def at name parameters result body) (λ spaced. refl) (counts_body given counts within (n + 1 + size_of_all nodes parameters + if_some nodes result) (max (max 1 (top_of_all part_height parameters)) (if_some part_height result))) (λ body. def_told n at name parameters result body)))
      (λ result. starts_bind _ (starts_word l.Newline (not_either _ (seen l.Colon) g.goes_type (not_seen l.Newline l.Colon (λ e. cc)) (λ spaced. refl)))))
      (λ parameters. d.starts_result given (tight_seen l.OpenParenthesis) initialize _ (not_tight_seen l.Colon l.OpenParenthesis (other_look l.Colon l.OpenParenthesis (λ e. cc)))
      (λ result. starts_bind _ (starts_word l.Newline (not_tight_seen l.Newline l.OpenParenthesis (other_look l.Newline l.OpenParenthesis (λ e. cc)))))))
      (λ name. d.starts_enclosed given m.goes_name _ (d.name_not given l.OpenParenthesis (λ e. cc) (λ e. cc))
      (λ parameters. d.starts_result given m.goes_name (bytes_eq name o.initialize_name) _ (d.name_not given l.Colon (λ e. cc) (λ e. cc))
      (λ result. starts_bind _ (starts_word l.Newline (d.name_not given l.Newline (λ e. cc) (λ e. cc)))))))

  -- ---- members

  counts_include : limits.Trees (gr.include T) never declarations.include
  counts_include n =
      counts_begun effort (k.Plain l.Include) (told n) n (λ at.
      counts_made (λ name. tree.Include at name.text) (counts_silent f.constant never (known (n + 1) 1) (still_take _)) (λ name. include_told n at name.text))

  counts_declaration : limits.Trees (d.declaration given T) g.goes_type (declarations.declaration effort.turns rec)
  counts_declaration n =
      counts_named (λ text. k.InstanceVariable text) variable_text (told n) (exact_instance_variable effort never) n (λ name.
      counts_made (λ of. tree.Declaration name.at name.text of) (rises_restriction (n + 1) 1) (λ of. declaration_told n name.at name.text of))

  counts_acc : limits.Trees (gr.acc T) goes_restricted (declarations.acc effort.turns rec)
  counts_acc n =
      counts_named (λ text. k.Ident text) ident_text (told n) (exact_ident effort never) n (λ name.
      counts_made (λ of. tree.Accessor name.at name.text of) (rises_maybe_restriction (n + 1) 1) (λ of. accessor_told n name.at name.text of))

  counts_accessors : (kind : TokenKind) (property : Bool) → limits.Trees (gr.accessors T (look_of kind) property) goes_listed (declarations.accessors effort.turns rec (look_of kind) property)
  counts_accessors kind property n =
      counts_begun effort kind (told n) n (λ at.
      counts_made (λ found. tree.Accessors at property found) (rises_list nodes part_height (reads_part (d.reads_acc given))
      (not_either _ (seen l.Colon) g.goes_type (not_seen l.Comma l.Colon (λ e. cc)) (λ spaced. refl))
      (starts_bind _ (starts_holding (λ text. k.Ident text) l.Ident (λ text. refl) (not_seen l.Ident l.Newline (λ e. cc))))
      (rises_part nodes nesting counts_acc) (n + 1) 1) (λ found. accessors_told n at property found))

  counts_member : limits.Trees (gr.member T) goes_listed (declarations.member effort.turns rec)
  counts_member n =
      counts_either (seen l.Def) (d.starts_def given true (at_seen l.Def))
      (starts_or (d.starts_include given (not_seen l.Include l.Def (λ e. cc)))
      (starts_or (d.starts_declaration given (not_seen l.InstanceVariable l.Def (λ e. cc)))
      (starts_or (d.starts_accessors given l.Getter false (not_seen l.Getter l.Def (λ e. cc)))
      (d.starts_accessors given l.Property true (not_seen l.Property l.Def (λ e. cc))))))
      (counts_free goes_listed (counts_def true n))
      (counts_either (seen l.Include) (d.starts_include given (at_seen l.Include))
      (starts_or (d.starts_declaration given (not_seen l.InstanceVariable l.Include (λ e. cc)))
      (starts_or (d.starts_accessors given l.Getter false (not_seen l.Getter l.Include (λ e. cc)))
      (d.starts_accessors given l.Property true (not_seen l.Property l.Include (λ e. cc)))))
      (counts_free goes_listed (counts_include n))
      (counts_either (seen l.InstanceVariable) (d.starts_declaration given (at_seen l.InstanceVariable))
      (starts_or (d.starts_accessors given l.Getter false (not_seen l.Getter l.InstanceVariable (λ e. cc)))
      (d.starts_accessors given l.Property true (not_seen l.Property l.InstanceVariable (λ e. cc))))
      (counts_goes goes_listed (λ rest stop. stops_right (seen l.Colon) g.goes_type rest (stops_right (seen l.Comma) goes_restricted rest stop)) (counts_declaration n))
      (counts_either (seen l.Getter) (d.starts_accessors given l.Getter false (at_seen l.Getter))
      (d.starts_accessors given l.Property true (not_seen l.Property l.Getter (λ e. cc)))
      (counts_accessors (k.Plain l.Getter) false n) (counts_accessors (k.Plain l.Property) true n))))

  counts_module_member : limits.Trees (d.module_member given T) never (declarations.module_member effort.turns rec)
  counts_module_member n =
      counts_either (seen l.Def) (d.starts_def given true (at_seen l.Def)) (d.starts_include given (not_seen l.Include l.Def (λ e. cc)))
      (counts_def true n) (counts_include n)

  rises_members : Rises (size_of_all nodes) (top_of_all part_height) Any (f.stmts (gr.member T)) g.goes_body (stmts effort.turns declarations.begins_member (part (declarations.member effort.turns rec)))
  rises_members =
      rises_lines declarations.begins_member nodes part_height (reads_part (d.reads_member given)) (d.starts_member given) (λ spaced. refl)
      (d.listed_not given l.Newline (λ e. cc) (λ e. cc) (λ spaced. refl)) g.goes_body
      (λ a spaced stop. (d.closed_line given a spaced stop, d.closed_member given a spaced stop, d.closed_listed given a spaced stop))
      (rises_part nodes nesting counts_member)

  rises_module_members : Rises (size_of_all nodes) (top_of_all part_height) Any (f.stmts (d.module_member given T)) g.goes_body
      (stmts effort.turns declarations.begins_module_member (part (declarations.module_member effort.turns rec)))
  rises_module_members =
      rises_lines declarations.begins_module_member nodes part_height (reads_part (d.reads_module_member given)) (d.starts_module_member given)
      (λ spaced. refl) (λ spaced. refl) g.goes_body
      (λ a spaced stop. (d.closed_line given a spaced stop, d.closed_module_member given a spaced stop, refl))
      (rises_part nodes nesting counts_module_member)

  -- ---- classes and modules

  still_class_parameters : Still (declarations.enclosed effort.turns rec (listed effort.turns declarations.constant_name))
  still_class_parameters = still_choose (tight_seen l.OpenParenthesis) (still_parenthesized effort.turns (still_listed effort.turns still_constant_name)) (still_pure [])

  still_superclass : Still (optional (seen l.Less) (expect l.Less >> declarations.constant_name))
  still_superclass = still_optional (seen l.Less) (still_bind (still_word l.Less) (λ at. still_constant_name))

  counts_class : limits.Trees (gr.class T) never (declarations.class effort.turns rec)
  counts_class n =
      counts_begun effort (k.Plain l.Class) (told n) n (λ at.
      counts_over (m.reads_constant effort never) (still_take _) (λ name.
      counts_past (d.reads_class_parameters given) still_class_parameters (λ parameters.
      counts_past (d.reads_superclass given) still_superclass (λ superclass.
      counts_word effort (k.Plain l.Newline) _ _ _ (λ line.
      counts_ended l.KeywordEnd (λ members. tree.Class at name.text parameters superclass members) (λ spaced. refl) (rises_members (n + 1) 1) (λ members. class_told n at name.text parameters superclass members)))
      (λ superclass. starts_bind _ (starts_word l.Newline (not_either _ (seen l.Less) never (not_seen l.Newline l.Less (λ e. cc)) (λ spaced. refl)))))
      (λ parameters. starts_maybe _ (starts_bind _ (starts_word l.Less (not_tight_seen l.Less l.OpenParenthesis (other_look l.Less l.OpenParenthesis (λ e. cc)))))
      (λ superclass. starts_bind _ (starts_word l.Newline (not_tight_seen l.Newline l.OpenParenthesis (other_look l.Newline l.OpenParenthesis (λ e. cc))))))))

  counts_module : limits.Trees (gr.module_of T) never (declarations.module_of effort.turns rec)
  counts_module n =
      counts_begun effort (k.Plain l.Module) (told n) n (λ at.
      counts_over (m.reads_constant effort never) (still_take _) (λ name.
      counts_word effort (k.Plain l.Newline) _ _ _ (λ line.
      counts_ended l.KeywordEnd (λ members. tree.Module at name.text members) (λ spaced. refl) (rises_module_members (n + 1) 1) (λ members. module_told n at name.text members))))

  -- ---- programs

  counts_item : limits.Trees (gr.item T) g.goes_stmt (declarations.item effort.turns rec)
  counts_item n =
      counts_either (seen l.Class) (d.starts_class given (at_seen l.Class))
      (starts_or (d.starts_module given (not_seen l.Module l.Class (λ e. cc)))
      (starts_or (d.starts_def given false (not_seen l.Def l.Class (λ e. cc))) (d.begins_stmt_not given l.Class refl)))
      (counts_free g.goes_stmt (counts_class n))
      (counts_either (seen l.Module) (d.starts_module given (at_seen l.Module))
      (starts_or (d.starts_def given false (not_seen l.Def l.Module (λ e. cc))) (d.begins_stmt_not given l.Module refl))
      (counts_free g.goes_stmt (counts_module n))
      (counts_either (seen l.Def) (d.starts_def given false (at_seen l.Def)) (d.begins_stmt_not given l.Def refl)
      (counts_free g.goes_stmt (counts_def false n)) (counts.stmt top n)))

  rises_items : Rises (size_of_all nodes) (top_of_all nesting) Any (f.stmts (gr.item T)) g.goes_body (stmts effort.turns declarations.begins_item (beside (declarations.item effort.turns rec)))
  rises_items =
      rises_lines declarations.begins_item nodes nesting (reads_beside (d.reads_item given)) (d.starts_item given) (λ spaced. refl) (λ spaced. refl) g.goes_body
      (λ a spaced stop. (d.closed_line given a spaced stop, d.closed_item given a spaced stop, d.closed_stmt given a spaced stop))
      (rises_beside nodes nesting counts_item)

  -- A program is as many nodes as its items, and as high as the highest.
  pub counts_program : table.Program effort rec T
  counts_program n height =
      counts_ended l.End (λ items. tree.Statements items) (λ spaced. refl) (rises_items n height) (λ items. statements_told n height items)
