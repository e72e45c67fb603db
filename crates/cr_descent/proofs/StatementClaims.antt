-- What is known of the constructs in a statement.
use Rattle.std.specs.Prelude.{◌≡◌, true, false, List, [], ◌∷◌}
use Rattle.cr_syntax.specs.declared.token.Token.{Token}
use Rattle.cr_syntax.specs.Look.{look_of}
use Rattle.cr_grammar.specs.declared.tree.Tree.{Tree}
use Rattle.cr_grammar.specs.declared.within.Within.{Within}
use Rattle.cr_grammar.specs.declared.wanted.Wanted.{Wanted}
use Rattle.cr_grammar.specs.declared.wanted.Wanted.TheVariants.{Or}
use Rattle.cr_grammar.specs.Forms.{Form}
use Rattle.cr_grammar.specs.Operators.{is_minus}
use Rattle.cr_readers.specs.Reader.{Reader}
use Rattle.cr_grammar.specs.Laws.{begins_or}
use Rattle.cr_grammar.specs.Expressions as ex
use Rattle.cr_exact.specs.Exact.{Effort, hollow}
use Rattle.cr_exact.proofs.TwoTokens.{Settled, tight_nil, spaced_nil}
use Rattle.cr_descent.proofs.Claims as claims
use Rattle.cr_descent.proofs.StatementForms as forms

-- The constructs are read exactly, for T and again for U, which has a signed value, and a value with each token that begins one. An argument is told by its tokens, a spaced `nil` is
-- one, and a signed one as well. What spells nothing else is apart.
pub record Premises (effort : Effort) (sure : Type 0) (rec : Wanted → Reader Tree) (S T U : Wanted → Form Tree) (within : Within) : Type 0 where
  pub given : claims.Given effort rec S T
  pub other : claims.Given (record { deep = sure; turns = effort.turns }) rec S U
  pub s_settled : (w : List Token) (x : Tree) → S (Or within false) w x → Settled w
  pub t_settled : (w : List Token) (x : Tree) → T (Or within false) w x → Settled w
  pub plain : (x : Tree) × S (Or within false) (spaced_nil ∷ []) x
  pub s_signed : (t : Token) → is_minus (look_of t.kind) ≡ true → (x : Tree) × S (Or within false) (t ∷ tight_nil ∷ []) x
  pub u_signed : (t : Token) → is_minus (look_of t.kind) ≡ true → (x : Tree) × U (Or within false) (t ∷ tight_nil ∷ []) x
  pub opened : (t : Token) → hollow t.kind ≡ false → begins_or within (look_of t.kind) ≡ true → (w : List Token) × (x : Tree) × ex.or U within true (t ∷ w) x
  pub apart_s : forms.Apart S within
  pub apart_t : forms.Apart T within
