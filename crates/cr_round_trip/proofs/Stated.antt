-- What is claimed of all that proper tokens spell, line by line of the grammar: statements, declarations and programs.
use Rattle.std.proofs.Common.{◌≡◌, ℕ, zero, suc, Bool, true, false, not, ◌&&◌, ◌||◌, List, [], ◌∷◌, ◌++◌, Option, Some, None, refl, sym, ap, subst, ◌∙◌, inl, inr}
use Rattle.std.specs.Prelude.{IsTrue}
use Rattle.std.specs.Str.{bytes_eq}
use Rattle.std.proofs.lemmas.Bool.{not-true}
use Rattle.cr_syntax.specs.declared.look.TokenLook.{TokenLook}
use Rattle.cr_syntax.specs.declared.look.TokenLook.TheVariants as l
use Rattle.cr_syntax.specs.declared.token.Token.{Token}
use Rattle.cr_syntax.specs.declared.token.TokenKind.TheVariants as k
use Rattle.cr_syntax.specs.Look.{look_of}
use Rattle.cr_grammar.specs.declared.operator.Assignment.{Assignment}
use Rattle.cr_grammar.specs.declared.operator.Assignment.TheVariants as assignment
use Rattle.cr_grammar.specs.declared.tree.Tree.{Tree}
use Rattle.cr_grammar.specs.declared.tree.Tree.TheVariants as tree
use Rattle.cr_grammar.specs.declared.within.Within.{Within}
use Rattle.cr_grammar.specs.Forms.{Form, nothing, ◌>>=◌, ◌>>◌, ◌<|>◌, where_true, maybe, word, ident, instance_variable}
use Rattle.cr_grammar.specs.Operators as o
use Rattle.cr_grammar.specs.declared.wanted.Wanted.{Wanted}
use Rattle.cr_grammar.specs.declared.wanted.Wanted.TheVariants.{Program}
use Rattle.cr_grammar.specs.Wanted.{in_method, top}
use Rattle.cr_grammar.specs.Expressions as ex
use Rattle.cr_grammar.specs.Grammar as g
use Rattle.cr_grammar.specs.Grammar.{Spells_in, Spells}
use Rattle.cr_pieces.specs.Proper.{IsName, IsConstantName, IsVariableName, AllProper}
use Rattle.cr_round_trip.proofs.Known.{All, Any, IsAnyConstant, IsMethodName}
use Rattle.cr_round_trip.proofs.Claims.{Claims, Whatever, AllFrom, after, either, gives, perhaps, any_number, under, tested, closely, a_word, a_name, a_list, some_list, within_parentheses, statements, anything, weaker, placed, from_all}
use Rattle.cr_round_trip.proofs.Closed.{Claimed, Closed, ClosedValues, ClosedCalls, ClosedStatements, ClosedDeclarations, OfField, IsResult}
use Rattle.cr_round_trip.proofs.Derived.{Given, a_constant, an_ident, from_first, body_is, doblock_is, indices_is, postfix_is, or_is, unary_is, when_is, written_is}

a_variable : Claims instance_variable (λ x. IsVariableName x.text)
a_variable = a_name (λ text. k.InstanceVariable text)

-- ---- what assigns

never_or : (seen : TokenLook) → o.field_assignment seen ≡ Some assignment.Or → ⊥
never_or l.OrOrEqual e = cc
never_or l.Equal e = cc
never_or l.PlusEqual e = cc
never_or l.MinusEqual e = cc
never_or l.StarEqual e = cc
never_or l.SlashSlashEqual e = cc
never_or l.PercentEqual e = cc
never_or other e = cc

of_field : (seen : TokenLook) (operator : Assignment) → o.field_assignment seen ≡ Some operator → OfField operator
of_field seen operator e is = never_or seen (e ∙ ap (λ (z : Assignment). Some z) is)

module _ (c : Claimed) (closed : Closed c) (S : Wanted → Form Tree) (given : Given c S) (within : Within) where
  abbrev Value : Tree → Type 0
  Value = c.value within

  abbrev calls : ClosedCalls c
  calls = closed.calls

  abbrev stated : ClosedStatements c
  stated = closed.statements

  -- ---- assignments

  abbrev IsTarget : (TokenLook → Option Assignment) → Tree → Type 0
  IsTarget table x = (operator : Assignment) (seen : TokenLook) → table seen ≡ Some operator → c.target within operator x

  local_is : Claims (g.local S within) (IsTarget o.any_assignment)
  local_is = after an_ident (λ name h. gives (λ operator seen e. stated.local_target within operator name.at name.text h))

  variable_is : Claims (ex.variable S within true) (IsTarget o.any_assignment)
  variable_is = under (λ is. after a_variable (λ name h. gives (λ operator seen e. stated.variable_target within operator name.at name.text is h)))

  place_is : Claims (g.place S within) (IsTarget o.field_assignment)
  place_is = either (after (postfix_is c closed S given within true) (λ x hx. after a_word (λ at u. after an_ident (λ name h. gives (λ operator seen e. stated.field_target within operator name.at x name.text (of_field seen operator e) hx h)))))
      (after (postfix_is c closed S given within true) (λ x hx. after (indices_is c closed S given within true) (λ found hs. gives (λ operator seen e.
      from_first Value (λ xs. c.target within operator (tree.Index found.0 x xs false)) (λ z zs h hz. stated.index_target within operator found.0 x z zs (of_field seen operator e) hx h hz) found.1 hs))))

  assigning_is : (table : TokenLook → Option Assignment) → Claims (g.assigning S within table) (λ x. (seen : TokenLook) × (table seen ≡ Some x.1))
  assigning_is table = record { holds = λ w x t p. (look_of (t.0).kind, t.2.0) }

  assigned_is : (target : Form Tree) (table : TokenLook → Option Assignment) → Claims target (IsTarget table) → Claims (g.assigned S within target table) Value
  assigned_is target table r = placed (λ at. after r (λ x hx. after (assigning_is table) (λ found hf. after (given.simple within) (λ value hv.
      gives (stated.assign within at x found.1 found.0 value (hx found.1 hf.0 hf.1) hv)))))

  assignment_is : Claims (g.assignment S within) Value
  assignment_is = either (assigned_is _ o.any_assignment (either local_is variable_is)) (assigned_is _ o.field_assignment place_is)

  -- ---- commands and jumps

  bare_is : Claims (g.bare_arguments S within) (All Value)
  bare_is = weaker (λ xs h. from_all Value xs h) (tested (a_list (given.or within false)))

  command_is : Claims (g.command S within) Value
  command_is = either (after an_ident (λ name h. after bare_is (λ xs hs. after (perhaps (doblock_is c closed S given within)) (λ b hb. gives (calls.called within name.at None name.text xs b tt h hs hb)))))
      (either (after (postfix_is c closed S given within true) (λ x hx. after a_word (λ at u. after an_ident (λ name h. after bare_is (λ xs hs. after (perhaps (doblock_is c closed S given within)) (λ b hb.
      gives (calls.called within name.at (Some x) name.text xs b hx h hs hb)))))))
      (either (under (λ is. after a_word (λ at u. after bare_is (λ xs hs. gives (calls.yield within at xs is hs)))))
      (under (λ is. after a_word (λ at u. after bare_is (λ xs hs. gives (calls.super within at xs is hs)))))))

  leaving_by : (seen : TokenLook) (make : ℕ → Option Tree → Tree) → ((at : ℕ) (value : Option Tree) → Any Value value → Value (make at value)) → Claims (g.leaving S within seen make) Value
  leaving_by seen make h = after a_word (λ at u. after (perhaps (tested (or_is c closed S given within true))) (λ value hv. gives (h at value hv)))

  jump_is : Claims (g.jump S within) Value
  jump_is = either (under (λ is. leaving_by l.Return (λ at value. tree.Return at value) (λ at value hv. stated.return within at value is hv)))
      (either (under (λ is. leaving_by l.Next (λ at value. tree.Next at value) (λ at value hv. stated.next within at value is hv))) (under (λ is. after a_word (λ at u. gives (stated.break within at is)))))

  pub simple_is : Claims (g.simple S within) Value
  simple_is = either assignment_is (either command_is (either jump_is (or_is c closed S given within true)))

  abbrev modified_form : TokenLook → Bool → ℕ → Form Tree
  modified_form seen unless at = g.simple S within >>= (λ x. word seen >> (g.simple S within >>= (λ condition. nothing (tree.If at unless condition (x ∷ []) [] None))))

  modified_at : (seen : TokenLook) (unless : Bool) (at : ℕ) → Claims (modified_form seen unless at) Value
  modified_at seen unless at = after simple_is (λ x hx. after a_word (λ at' u. after simple_is (λ condition hc. gives ((closed.compounds).conditional within at unless condition (x ∷ []) [] None hc (hx, tt) tt (λ e. refl) tt))))

  modified_is : (seen : TokenLook) (unless : Bool) → Claims (g.modified S within seen unless) Value
  modified_is seen unless = placed {R = modified_form seen unless} (modified_at seen unless)

  pub stmt_is : Claims (g.stmt S within) Value
  stmt_is = either simple_is (either (modified_is l.If false) (modified_is l.Unless true))

-- ---- declarations

module _ (c : Claimed) (closed : Closed c) (S : Wanted → Form Tree) (given : Given c S) where
  abbrev declared : ClosedDeclarations c
  declared = closed.declarations

  restriction_is : Claims (g.restriction S) (c.written true)
  restriction_is = after a_word (λ at u. given.written true)

  parameter_is : (within : Within) → Claims (g.param S within) (c.parameter within)
  parameter_is within = either (after an_ident (λ name h. after (perhaps restriction_is) (λ type ht. gives (declared.parameter within name.at name.text type h ht))))
      (under (λ is. after a_variable (λ name h. after (perhaps restriction_is) (λ type ht. gives (declared.instance_parameter within name.at name.text type is h ht)))))

  name_is : Claims (g.name S) IsMethodName
  name_is = either (after an_ident (λ name h. gives (inl h)))
      (either (after an_ident (λ name h. after (under {P = λ (u : ℕ). not (o.is_marked name.text) ≡ true} (λ is. weaker (λ at u. is) (closely a_word))) (λ at is. gives (inr (inl (name.text, h, not-true (o.is_marked name.text) is, refl))))))
      (either (record { holds = λ w x t p. inr (inr (inl (look_of (t.0).kind, t.2))) }) index_is))
    where
      index_is : Claims (g.index_names S) IsMethodName
      index_is = after (after a_word (λ at u. closely a_word)) (λ at u. either (gives (inr (inr (inr (inl refl)))))
          (either (after (closely a_word) (λ at' u'. gives (inr (inr (inr (inr (inl refl))))))) (after (closely a_word) (λ at' u'. gives (inr (inr (inr (inr (inr refl)))))))))

  result_is : (name : List ℕ) (type : Option Tree) → IsTrue (not (bytes_eq name o.initialize_name)) → Any (c.written true) type → IsResult c.written name type
  result_is name None is h = tt
  result_is name (Some type) is h = (is, h)

  def_is : (class : Bool) → Claims (g.def S class) (c.definition class)
  def_is class = after a_word (λ at u. after name_is (λ name h. after (either (closely (within_parentheses (some_list (a_list (parameter_is (in_method class name)))))) (gives tt)) (λ parameters hp.
      after (either (gives tt) (under (λ is. weaker (λ type ht. result_is name type is ht) (perhaps restriction_is)))) (λ result hr. after a_word (λ at' u'. after (body_is c closed S given (in_method class name)) (λ list hl. after a_word (λ at'' u''.
      gives (declared.define class at name parameters result list h hp hr hl))))))))

  accessor_is : Claims (g.acc S) c.accessor
  accessor_is = after an_ident (λ name h. after (perhaps restriction_is) (λ type ht. gives (declared.accessor name.at name.text type h ht)))

  accessors_is : (seen : TokenLook) (property : Bool) → Claims (g.accessors S seen property) c.member
  accessors_is seen property = after a_word (λ at u. after (a_list accessor_is) (λ found hs. gives (from_first c.accessor (λ xs. c.member (tree.Accessors at property xs)) (λ x xs h hx. declared.accessors at property x xs h hx) found hs)))

  member_is : Claims (g.member S) c.member
  member_is = either (weaker declared.member (def_is true)) (either (after a_word (λ at u. after a_constant (λ name h. gives (declared.include at name.text h))))
      (either (after a_variable (λ name h. after restriction_is (λ type ht. gives (declared.declaration name.at name.text type h ht)))) (either (accessors_is l.Getter false) (accessors_is l.Property true))))

  constant_text_is : Claims (g.constant_text S) IsConstantName
  constant_text_is = after a_constant (λ name h. gives h)

  any_constant : (name : Option (List ℕ)) → Any IsConstantName name → IsAnyConstant name
  any_constant None h = tt
  any_constant (Some name) h = h

  class_is : Claims (g.class S) c.item
  class_is = after a_word (λ at u. after a_constant (λ name h. after (either (closely (within_parentheses (weaker (λ xs hs. from_all IsConstantName xs hs) (a_list constant_text_is)))) (gives tt)) (λ parameters hp.
      after (weaker any_constant (perhaps (after a_word (λ at'' u''. constant_text_is)))) (λ superclass hs. after a_word (λ at' u'. after (statements member_is) (λ members hm. after a_word (λ at3 u3.
      gives (declared.class at name.text parameters superclass members h hp hs hm))))))))

  module_is : Claims (g.module_of S) c.item
  module_is = after a_word (λ at u. after a_constant (λ name h. after a_word (λ at' u'. after (statements (either (weaker declared.part (def_is true)) (after a_word (λ at3 u3. after a_constant (λ included hi. gives (declared.include_part at3 included.text hi))))))
      (λ members hm. after a_word (λ at'' u''. gives (declared.module_of at name.text members h hm))))))

  item_is : Claims (g.item S) c.item
  item_is = either class_is (either module_is (either (weaker declared.definition (def_is false)) (weaker declared.statement (given.stmt top))))

  program_is : Claims (g.program S) (λ x. (list : List Tree) × All c.item list × (x ≡ tree.Statements list))
  program_is = after (statements item_is) (λ list hl. after a_word (λ at u. gives (list, hl, refl)))

-- ---- the knot

module _ (c : Claimed) (closed : Closed c) where
  all_given : (n : ℕ) → Given c (Spells_in n)
  all_given zero = record {
    written = λ flag. record { holds = λ w x t p. absurd t };
    when = λ within free. record { holds = λ w x t p. absurd t };
    unary = λ within free. record { holds = λ w x t p. absurd t };
    or = λ within free. record { holds = λ w x t p. absurd t };
    simple = λ within. record { holds = λ w x t p. absurd t };
    stmt = λ within. record { holds = λ w x t p. absurd t };
  }
  all_given (suc n) = let given = all_given n in record {
    written = written_is c closed (Spells_in n) given;
    when = when_is c closed (Spells_in n) given;
    unary = unary_is c closed (Spells_in n) given;
    or = or_is c closed (Spells_in n) given;
    simple = simple_is c closed (Spells_in n) given;
    stmt = stmt_is c closed (Spells_in n) given;
  }

  -- the items of a program
  pub items_of : (w : List Token) (x : Tree) → Spells Program w x → AllProper w → (list : List Tree) × All c.item list × (x ≡ tree.Statements list)
  items_of w x (zero, r) p = absurd r
  items_of w x (suc n, r) p = (program_is c closed (Spells_in n) (all_given n)).holds w x r p
