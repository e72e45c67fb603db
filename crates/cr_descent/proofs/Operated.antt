-- What follows a first operand begins with an operator, or is nothing.
use Rattle.std.proofs.Common.{◌≡◌, zero, suc, Bool, true, false, ◌&&◌, ◌||◌, List, [], ◌∷◌, ◌++◌, ◌⊎◌, inl, inr, refl, sym, ap, subst, ◌∙◌}
use Rattle.std.proofs.lemmas.Bool.{and_right, or_from}
use Rattle.std.specs.Prelude.{not, IsTrue, Option, Some, is_some}
use Rattle.cr_syntax.specs.declared.look.TokenLook.{TokenLook}
use Rattle.cr_syntax.specs.declared.look.TokenLook.TheVariants as l
use Rattle.cr_syntax.specs.declared.token.Token.{Token}
use Rattle.cr_syntax.specs.Look.{look_of}
use Rattle.cr_grammar.specs.declared.operator.Binary.{Binary}
use Rattle.cr_grammar.specs.declared.tree.Tree.{Tree}
use Rattle.cr_grammar.specs.declared.within.Within.{Within}
use Rattle.cr_grammar.specs.Forms.{Form, ◌>>=◌}
use Rattle.cr_grammar.specs.Operators as o
use Rattle.cr_grammar.specs.declared.wanted.Wanted.{Wanted}
use Rattle.cr_grammar.specs.Expressions as ex
use Rattle.cr_readers.specs.Reader.{Test, passes}
use Rattle.cr_readers.specs.Goes.{goes_operand}
use Rattle.cr_readers.specs.Statements.{is_assigning}
use Rattle.cr_exact.proofs.Forms.{Real, append_none}
use Rattle.cr_descent.proofs.OperationForms.{chain, at_most_one, prod_rest, sum_rest, shift_rest, cmp_rest, and_rest, or_rest, level_real, prod_splits, sum_splits, shift_splits, cmp_splits, and_splits, first_real, operator_out}
use Rattle.cr_exact.proofs.TwoTokens.{Settled, settled_same}
use Rattle.cr_descent.proofs.StatementForms.{settled_front}

-- An operator and an operand: no argument begins so behind a name, and nothing is assigned.
pub record Operated (before : TokenLook) (w : List Token) : Type 0 where
  pub settled : Settled w
  pub no_argument : o.is_name before ≡ true → o.begins_argument w ≡ false
  pub no_assignment : passes (is_assigning o.any_assignment) w ≡ false
  pub no_link : passes (goes_operand true) w ≡ false

-- the operators of a table begin no argument and assign nothing
abbrev pub IsTable : (TokenLook → Option Binary) → Type 0
IsTable table = (look : TokenLook) (op : Binary) → table look ≡ Some op → (o.begins_value look ≡ false) × (is_some (o.any_assignment look) ≡ false) × ((spaced : Bool) → goes_operand true look spaced ≡ false)

prod_table : IsTable o.prod_operator
prod_table l.Star op e = (refl, refl, λ spaced. refl)
prod_table l.SlashSlash op e = (refl, refl, λ spaced. refl)
prod_table l.Percent op e = (refl, refl, λ spaced. refl)
prod_table l.WrappingStar op e = (refl, refl, λ spaced. refl)
prod_table _ op e = absurd cc

sum_table : IsTable o.sum_operator
sum_table l.Plus op e = (refl, refl, λ spaced. refl)
sum_table l.Minus op e = (refl, refl, λ spaced. refl)
sum_table l.WrappingPlus op e = (refl, refl, λ spaced. refl)
sum_table l.WrappingMinus op e = (refl, refl, λ spaced. refl)
sum_table _ op e = absurd cc

shift_table : IsTable o.shift_operator
shift_table l.ShiftLeft op e = (refl, refl, λ spaced. refl)
shift_table _ op e = absurd cc

cmp_table : IsTable o.cmp_operator
cmp_table l.EqualEqual op e = (refl, refl, λ spaced. refl)
cmp_table l.NotEqual op e = (refl, refl, λ spaced. refl)
cmp_table l.Less op e = (refl, refl, λ spaced. refl)
cmp_table l.LessEqual op e = (refl, refl, λ spaced. refl)
cmp_table l.Greater op e = (refl, refl, λ spaced. refl)
cmp_table l.GreaterEqual op e = (refl, refl, λ spaced. refl)
cmp_table _ op e = absurd cc

and_table : IsTable o.and_operator
and_table l.AndAnd op e = (refl, refl, λ spaced. refl)
and_table _ op e = absurd cc

or_table : IsTable o.or_operator
or_table l.OrOr op e = (refl, refl, λ spaced. refl)
or_table _ op e = absurd cc

-- not (name && sign), and name
not_both : (name sign : Bool) → IsTrue (not (name && sign)) → name ≡ true → sign ≡ false
not_both true true is e = absurd cc
not_both true false is e = refl
not_both false sign is e = absurd cc

pub neither : (a b c : Bool) → b ≡ false → c ≡ false → (a && b) || c ≡ false
neither a b c e f = or_from (a && b) c (and_right a b e) f

pub passes_front : (test : Test) (a b : List Token) → Settled a → passes test (a ++ b) ≡ passes test a
passes_front test [] b is = absurd is
passes_front test (t ∷ a) b is = refl

operated_front : (before : TokenLook) (a b : List Token) → Operated before a → Operated before (a ++ b)
operated_front before a b is = record {
  settled = settled_front a b is.settled;
  no_argument = λ name. settled_same a b is.settled ∙ is.no_argument name;
  no_assignment = passes_front (is_assigning o.any_assignment) a b is.settled ∙ is.no_assignment;
  no_link = passes_front (goes_operand true) a b is.settled ∙ is.no_link;
}

two_tokens : (before : TokenLook) (t : Token) (v : List Token) → (v ≡ [] → ⊥) → o.begins_value (look_of t.kind) ≡ false → is_some (o.any_assignment (look_of t.kind)) ≡ false
    → goes_operand true (look_of t.kind) t.spaced ≡ false → IsTrue (o.is_operation before (t ∷ v)) → Operated before (t ∷ v)
two_tokens before t [] some value assigns link is = absurd (some refl)
two_tokens before t (u ∷ v) some value assigns link is = record {
  settled = tt;
  no_argument = λ name. neither t.spaced _ _ value (not_both _ _ is name);
  no_assignment = assigns;
  no_link = link;
}

module _ (S : Wanted → Form Tree) (within : Within) (free : Bool) where
  -- Nothing is spelled and nothing changed, or an operator comes.
  abbrev pub Fine : (Tree × TokenLook → Form (Tree × TokenLook)) → Type 0
  Fine F = (x : Tree × TokenLook) (w : List Token) (y : Tree × TokenLook) → F x w y → ((w ≡ []) × (y ≡ x)) ⊎ Operated x.1 w

  operation_fine : (table : TokenLook → Option Binary) → IsTable table → (L : Form Tree) → Real L → (x : Tree × TokenLook) (w : List Token) (y : Tree × TokenLook)
      → ex.operation S within free table L x w y → Operated x.1 w
  operation_fine table is L real x w y c =
      let d = c.1 in
      let op = operator_out S within free table d.0 d.2 d.4 in
      let t = op.0 in
      let n = d.5 in
      let split : w ≡ t ∷ (op.1 ++ d.1) = d.3 ∙ ap (λ (v : List Token). v ++ d.1) op.2 in
      let some : op.1 ++ d.1 ≡ [] → ⊥ = λ none. real n.0 n.2.0 n.4.0 (append_none n.0 n.1 (sym n.3 ∙ (append_none op.1 d.1 none).1)).0 in
      let facts = is (look_of t.kind) d.2.1 op.3 in
      subst (Operated x.1) (sym split) (two_tokens x.1 t (op.1 ++ d.1) some facts.0 facts.1 (facts.2 t.spaced) (subst (λ (v : List Token). IsTrue (o.is_operation x.1 v)) split c.0))

  chain_fine : (table : TokenLook → Option Binary) → IsTable table → (L : Form Tree) → Real L → Fine (chain S within free table L)
  chain_fine table is L real x w y (zero, c) = inl (c.0, c.1)
  chain_fine table is L real x w y (suc n, c) =
      inr (subst (Operated x.1) (sym c.3) (operated_front x.1 c.0 c.1 (operation_fine table is L real x c.0 c.2 c.4)))

  single_fine : (table : TokenLook → Option Binary) → IsTable table → (L : Form Tree) → Real L → Fine (at_most_one S within free table L)
  single_fine table is L real x w y (inl c) = inr (operation_fine table is L real x w y c)
  single_fine table is L real x w y (inr c) = inl c

  bind_fine : (F M : Tree × TokenLook → Form (Tree × TokenLook)) → Fine F → Fine M → Fine (λ x. F x >>= M)
  bind_fine F M f m x w y c = elim (f x c.0 c.2 c.4) [
    | inl none ↦ elim (m c.2 c.1 y c.5) [
      | inl neither ↦ inl (c.3 ∙ ap (λ (v : List Token). v ++ c.1) none.0 ∙ neither.0, neither.1 ∙ none.1)
      | inr is ↦ inr (subst (λ (v : List Token). Operated x.1 v) (sym (c.3 ∙ ap (λ (v : List Token). v ++ c.1) none.0)) (subst (λ (v : Tree × TokenLook). Operated v.1 c.1) none.1 is))
    ]
    | inr is ↦ inr (subst (Operated x.1) (sym c.3) (operated_front x.1 c.0 c.1 is))
  ]

  pub rest_fine : Fine (or_rest S within free)
  rest_fine =
      let prod = chain_fine o.prod_operator prod_table (ex.unary S within free) (first_real S within free) in
      let sum = bind_fine (prod_rest S within free) (chain S within free o.sum_operator (ex.prod S within free)) prod
      (chain_fine o.sum_operator sum_table (ex.prod S within free) (level_real S within free _ _ (prod_splits S within free))) in
      let shift = bind_fine (sum_rest S within free) (chain S within free o.shift_operator (ex.sum S within free)) sum
      (chain_fine o.shift_operator shift_table (ex.sum S within free) (level_real S within free _ _ (sum_splits S within free))) in
      let cmp = bind_fine (shift_rest S within free) (at_most_one S within free o.cmp_operator (ex.shift S within free)) shift
      (single_fine o.cmp_operator cmp_table (ex.shift S within free) (level_real S within free _ _ (shift_splits S within free))) in
      let and = bind_fine (cmp_rest S within free) (chain S within free o.and_operator (ex.cmp S within free)) cmp
      (chain_fine o.and_operator and_table (ex.cmp S within free) (level_real S within free _ _ (cmp_splits S within free))) in
      bind_fine (and_rest S within free) (chain S within free o.or_operator (ex.and S within free)) and
      (chain_fine o.or_operator or_table (ex.and S within free) (level_real S within free _ _ (and_splits S within free)))
