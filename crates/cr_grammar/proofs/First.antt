-- The first tokens of what is spelled.
use Rattle.std.proofs.Common.{◌≡◌, ℕ, zero, suc, Bool, true, List, [], ◌∷◌, ◌++◌, ◌⊎◌, inl, inr, refl, sym, ap, subst}
use Rattle.std.specs.Prelude.{Option}
use Rattle.cr_syntax.specs.declared.look.TokenLook.{TokenLook}
use Rattle.cr_syntax.specs.declared.look.TokenLook.TheVariants as l
use Rattle.cr_syntax.specs.declared.token.Token.{Token}
use Rattle.cr_syntax.specs.declared.token.TokenKind.{TokenKind}
use Rattle.cr_syntax.specs.declared.token.TokenKind.TheVariants as k
use Rattle.cr_syntax.specs.Look.{look_of}
use Rattle.cr_grammar.specs.declared.operator.Binary.{Binary}
use Rattle.cr_grammar.specs.declared.tree.Tree.{Tree}
use Rattle.cr_grammar.specs.declared.within.Within.{Within}
use Rattle.cr_grammar.specs.Forms.{Form, word}
use Rattle.cr_grammar.specs.Operators as o
use Rattle.cr_grammar.specs.declared.wanted.Wanted.{Wanted}
use Rattle.cr_grammar.specs.declared.wanted.Wanted.TheVariants.{Written, Or, Stmt}
use Rattle.cr_grammar.specs.Expressions as ex
use Rattle.cr_grammar.specs.Grammar as g
use Rattle.cr_grammar.specs.Grammar.{Spells_in, Spells}
use Rattle.cr_grammar.specs.Laws.{first_is, begins_or, begins_stmt, begins_type, ValuesBegin, StatementsBegin, TypesBegin}
use Rattle.cr_grammar.specs.declared.word.Path.{Path}
use Rattle.cr_grammar.specs.declared.word.Atom.{Atom}

pub front : (test : TokenLook → Bool) (a b : List Token) → first_is test a ≡ true → first_is test (a ++ b) ≡ true
front test [] b e = absurd cc
front test (t ∷ ts) b e = e

-- what begins as its front does
pub behind : (test : TokenLook → Bool) (w a b : List Token) → w ≡ a ++ b → first_is test a ≡ true → first_is test w ≡ true
behind test w a b e h = subst (λ v. first_is test v ≡ true) (sym e) (front test a b h)

-- one token of a look
pub lone : (test : TokenLook → Bool) (seen : TokenLook) (w : List Token) (t : Token) → w ≡ t ∷ [] → look_of t.kind ≡ seen → test seen ≡ true → first_is test w ≡ true
lone test seen w t e is h = subst (λ v. first_is test v ≡ true) (sym e) (subst (λ a. test a ≡ true) (sym is) h)

-- what a word leads
pub led : (test : TokenLook → Bool) (look : TokenLook) (w a b : List Token) (at : ℕ) → w ≡ a ++ b → word look a at → test look ≡ true → first_is test w ≡ true
led test look w a b at e r h = behind test w a b e (lone test look a r.0 r.1 r.2.0 h)

-- what a token of a kind leads
pub led_by : (test : TokenLook → Bool) (kind : TokenKind) (w a b : List Token) (t : Token) → w ≡ a ++ b → a ≡ t ∷ [] → t.kind ≡ kind → test (look_of kind) ≡ true → first_is test w ≡ true
led_by test kind w a b t e e' is h = behind test w a b e (lone test (look_of kind) a t e' (ap look_of is) h)

pub path_first : (test : TokenLook → Bool) → test l.Constant ≡ true → (w : List Token) (p : Path) → ex.path w p → first_is test w ≡ true
path_first test h w p r = led_by test (k.Constant r.2.text) w r.0 r.1 r.4.0 r.3 r.4.1 r.4.2.0 h

module _ (S : Wanted → Form Tree) where
  pub atom_first : (test : TokenLook → Bool) → test l.Constant ≡ true → (with_arguments : Bool) (w : List Token) (a : Atom) → ex.atom S with_arguments w a → first_is test w ≡ true
  atom_first test h with_arguments w a r = behind test w r.0 r.1 r.3 (path_first test h r.0 r.2 r.4)

  pub written_first : (with_arguments : Bool) (w : List Token) (x : Tree) → ex.written S with_arguments w x → first_is begins_type w ≡ true
  written_first with_arguments w x r = behind begins_type w r.0 r.1 r.3 (atom_first begins_type refl with_arguments r.0 r.2 r.4)

  module _ (within : Within) (free : Bool) where
    number_first : (w : List Token) (x : Tree) → ex.number S within free w x → first_is (begins_or within) w ≡ true
    number_first w x (t, e, inl q) = lone (begins_or within) l.Int32 w t e (ap look_of q.1) refl
    number_first w x (t, e, inr q) = lone (begins_or within) l.Int64 w t e (ap look_of q.1) refl

    text_first : (w : List Token) (x : Tree) → ex.text S within free w x → first_is (begins_or within) w ≡ true
    text_first w x (inl r) = led_by (begins_or within) (k.Text r.2.text) w r.0 r.1 r.4.0 r.3 r.4.1 r.4.2.0 refl
    text_first w x (inr r) = led_by (begins_or within) (k.TextFirst r.2.text) w r.0 r.1 r.4.0 r.3 r.4.1 r.4.2.0 refl

    constants_first : (w : List Token) (x : Tree) → ex.constants S within free w x → first_is (begins_or within) w ≡ true
    constants_first w x (inl r) = led (begins_or within) l.Nil w r.0 r.1 r.2 r.3 r.4 refl
    constants_first w x (inr (inl r)) = led (begins_or within) l.True w r.0 r.1 r.2 r.3 r.4 refl
    constants_first w x (inr (inr r)) = led (begins_or within) l.False w r.0 r.1 r.2 r.3 r.4 refl

    above_first : within.method ≡ true → (w : List Token) (x : Tree) → ex.above S within free w x → first_is (begins_or within) w ≡ true
    above_first is w x (inl r) = led (begins_or within) l.Super w r.0 r.1 r.2 r.3 r.4 is
    above_first is w x (inr r) = led (begins_or within) l.Super w r.0 r.1 r.2 r.3 r.4 is

    super_first : within.method ≡ true → (w : List Token) (x : Tree) → (ex.yielded S within free w x ⊎ ex.above S within free w x) → first_is (begins_or within) w ≡ true
    super_first is w x (inl r) = led (begins_or within) l.Yield w r.0 r.1 r.2 r.3 r.4 is
    super_first is w x (inr r) = above_first is w x r

    conditional_first : (w : List Token) (x : Tree) → ex.conditional S within free w x → first_is (begins_or within) w ≡ true
    conditional_first w x (inl r) = led (begins_or within) l.If w r.0 r.1 r.2 r.3 r.4 refl
    conditional_first w x (inr r) = led (begins_or within) l.Unless w r.0 r.1 r.2 r.3 r.4 refl

    looping_first : (w : List Token) (x : Tree) → ex.looping S within free w x → first_is (begins_or within) w ≡ true
    looping_first w x (inl r) = led (begins_or within) l.While w r.0 r.1 r.2 r.3 r.4 refl
    looping_first w x (inr r) = led (begins_or within) l.Until w r.0 r.1 r.2 r.3 r.4 refl

    variable_first : (w : List Token) (x : Tree) → ex.variable S within free w x → first_is (begins_or within) w ≡ true
    variable_first w x (is, r) = led_by (begins_or within) (k.InstanceVariable r.2.text) w r.0 r.1 r.4.0 r.3 r.4.1 r.4.2.0 is

    pub primary_first : (w : List Token) (x : Tree) → ex.primary S within free w x → first_is (begins_or within) w ≡ true
    primary_first w x (inl r) = number_first w x r
    primary_first w x (inr (inl r)) = text_first w x r
    primary_first w x (inr (inr (inl r))) = constants_first w x r
    primary_first w x (inr (inr (inr (inl (is, r))))) = led (begins_or within) l.KeywordSelf w r.0 r.1 r.2 r.3 r.4 is
    primary_first w x (inr (inr (inr (inr (inl r))))) = variable_first w x r
    primary_first w x (inr (inr (inr (inr (inr (inl r)))))) = led_by (begins_or within) (k.Ident r.2.text) w r.0 r.1 r.4.0 r.3 r.4.1 r.4.2.0 refl
    primary_first w x (inr (inr (inr (inr (inr (inr (inl (is, r)))))))) = super_first is w x r
    primary_first w x (inr (inr (inr (inr (inr (inr (inr (inl r)))))))) = behind (begins_or within) w r.0 r.1 r.3 (atom_first (begins_or within) refl true r.0 r.2 r.4)
    primary_first w x (inr (inr (inr (inr (inr (inr (inr (inr (inl r))))))))) = led_by (begins_or within) (k.Constant o.fiber_name) w r.0 r.1 r.4.0 r.3 r.4.1 r.4.2.0 refl
    primary_first w x (inr (inr (inr (inr (inr (inr (inr (inr (inr (inl r)))))))))) = led (begins_or within) l.OpenBracket w r.0 r.1 r.2 r.3 r.4 refl
    primary_first w x (inr (inr (inr (inr (inr (inr (inr (inr (inr (inr (inl r))))))))))) = led (begins_or within) l.OpenBrace w r.0 r.1 r.2 r.3 r.4 refl
    primary_first w x (inr (inr (inr (inr (inr (inr (inr (inr (inr (inr (inr (inl r)))))))))))) = led (begins_or within) l.OpenParenthesis w r.0 r.1 r.2 r.3 r.4 refl
    primary_first w x (inr (inr (inr (inr (inr (inr (inr (inr (inr (inr (inr (inr (inl r))))))))))))) = led (begins_or within) l.Spawn w r.0 r.1 r.2 r.3 r.4 refl
    primary_first w x (inr (inr (inr (inr (inr (inr (inr (inr (inr (inr (inr (inr (inr (inl r)))))))))))))) = conditional_first w x r
    primary_first w x (inr (inr (inr (inr (inr (inr (inr (inr (inr (inr (inr (inr (inr (inr (inl r))))))))))))))) = looping_first w x r
    primary_first w x (inr (inr (inr (inr (inr (inr (inr (inr (inr (inr (inr (inr (inr (inr (inr (inl r)))))))))))))))) = led (begins_or within) l.Case w r.0 r.1 r.2 r.3 r.4 refl
    primary_first w x (inr (inr (inr (inr (inr (inr (inr (inr (inr (inr (inr (inr (inr (inr (inr (inr r)))))))))))))))) = led (begins_or within) l.Select w r.0 r.1 r.2 r.3 r.4 refl

    pub postfix_first : (w : List Token) (x : Tree) → ex.postfix S within free w x → first_is (begins_or within) w ≡ true
    postfix_first w x r = behind (begins_or within) w r.0 r.1 r.3 (primary_first r.0 r.2 r.4)

    unary_first : (w : List Token) (x : Tree) → ex.unary S within free w x → first_is (begins_or within) w ≡ true
    unary_first w x (inl r) = led (begins_or within) l.Bang w r.0 r.1 r.2 r.3 r.4 refl
    unary_first w x (inr (inl r)) = led (begins_or within) l.Minus w r.0 r.1 r.2 r.3 r.4 refl
    unary_first w x (inr (inr r)) = postfix_first w x r

    -- a chain begins as its operands do
    chain_first : (table : TokenLook → Option Binary) (R : Form Tree) → ((w : List Token) (x : Tree) → R w x → first_is (begins_or within) w ≡ true)
        → (w : List Token) (x : Tree) → ex.operations S within free table R w x → first_is (begins_or within) w ≡ true
    chain_first table R h w x r = behind (begins_or within) w r.0 r.1 r.3 (h r.0 r.2.0 r.4.0)

    one_first : (table : TokenLook → Option Binary) (R : Form Tree) → ((w : List Token) (x : Tree) → R w x → first_is (begins_or within) w ≡ true)
        → (w : List Token) (x : Tree) → ex.one_operation S within free table R w x → first_is (begins_or within) w ≡ true
    one_first table R h w x (inl r) = h w x r
    one_first table R h w x (inr r) = behind (begins_or within) w r.0 r.1 r.3 (h r.0 r.2.0 r.4.0)

    pub or_first : (w : List Token) (x : Tree) → ex.or S within free w x → first_is (begins_or within) w ≡ true
    or_first =
        chain_first o.or_operator (ex.and S within free)
        (chain_first o.and_operator (ex.cmp S within free)
        (one_first o.cmp_operator (ex.shift S within free)
        (chain_first o.shift_operator (ex.sum S within free)
        (chain_first o.sum_operator (ex.prod S within free) (chain_first o.prod_operator (ex.unary S within free) unary_first)))))

wider : (within : Within) (look : TokenLook) → begins_or within look ≡ true → begins_stmt within look ≡ true
wider within l.Return e = absurd cc
wider within l.Next e = absurd cc
wider within l.Break e = absurd cc
wider within other e = e

widen : (within : Within) (w : List Token) → first_is (begins_or within) w ≡ true → first_is (begins_stmt within) w ≡ true
widen within [] e = e
widen within (t ∷ ts) e = wider within (look_of t.kind) e

module _ (S : Wanted → Form Tree) (within : Within) where
  local_first : (w : List Token) (x : Tree) → (g.local S within w x ⊎ ex.variable S within true w x) → first_is (begins_or within) w ≡ true
  local_first w x (inl r) = led_by (begins_or within) (k.Ident r.2.text) w r.0 r.1 r.4.0 r.3 r.4.1 r.4.2.0 refl
  local_first w x (inr (is, r)) = led_by (begins_or within) (k.InstanceVariable r.2.text) w r.0 r.1 r.4.0 r.3 r.4.1 r.4.2.0 is

  place_first : (w : List Token) (x : Tree) → g.place S within w x → first_is (begins_or within) w ≡ true
  place_first w x (inl r) = behind (begins_or within) w r.0 r.1 r.3 (postfix_first S within true r.0 r.2 r.4)
  place_first w x (inr r) = behind (begins_or within) w r.0 r.1 r.3 (postfix_first S within true r.0 r.2 r.4)

  assignment_first : (w : List Token) (x : Tree) → g.assignment S within w x → first_is (begins_or within) w ≡ true
  assignment_first w x (inl r) = behind (begins_or within) w r.0 r.1 r.3 (local_first r.0 r.2 r.4)
  assignment_first w x (inr r) = behind (begins_or within) w r.0 r.1 r.3 (place_first r.0 r.2 r.4)

  command_first : (w : List Token) (x : Tree) → g.command S within w x → first_is (begins_or within) w ≡ true
  command_first w x (inl r) = led_by (begins_or within) (k.Ident r.2.text) w r.0 r.1 r.4.0 r.3 r.4.1 r.4.2.0 refl
  command_first w x (inr (inl r)) = behind (begins_or within) w r.0 r.1 r.3 (postfix_first S within true r.0 r.2 r.4)
  command_first w x (inr (inr (inl (is, r)))) = led (begins_or within) l.Yield w r.0 r.1 r.2 r.3 r.4 is
  command_first w x (inr (inr (inr (is, r)))) = led (begins_or within) l.Super w r.0 r.1 r.2 r.3 r.4 is

  jump_first : (w : List Token) (x : Tree) → g.jump S within w x → first_is (begins_stmt within) w ≡ true
  jump_first w x (inl (is, r)) = led (begins_stmt within) l.Return w r.0 r.1 r.2 r.3 r.4 is
  jump_first w x (inr (inl (is, r))) = led (begins_stmt within) l.Next w r.0 r.1 r.2 r.3 r.4 is
  jump_first w x (inr (inr (is, r))) = led (begins_stmt within) l.Break w r.0 r.1 r.2 r.3 r.4 is

  pub simple_first : (w : List Token) (x : Tree) → g.simple S within w x → first_is (begins_stmt within) w ≡ true
  simple_first w x (inl r) = widen within w (assignment_first w x r)
  simple_first w x (inr (inl r)) = widen within w (command_first w x r)
  simple_first w x (inr (inr (inl r))) = jump_first w x r
  simple_first w x (inr (inr (inr r))) = widen within w (or_first S within true w x r)

  pub stmt_first : (w : List Token) (x : Tree) → g.stmt S within w x → first_is (begins_stmt within) w ≡ true
  stmt_first w x (inl r) = simple_first w x r
  stmt_first w x (inr (inl r)) = behind (begins_stmt within) w r.0 r.1 r.3 (simple_first r.0 r.2 r.4)
  stmt_first w x (inr (inr r)) = behind (begins_stmt within) w r.0 r.1 r.3 (simple_first r.0 r.2 r.4)

values_in : (n : ℕ) (within : Within) (free : Bool) (w : List Token) (x : Tree) → Spells_in n (Or within free) w x → first_is (begins_or within) w ≡ true
values_in zero within free w x r = absurd r
values_in (suc n) within free w x r = or_first (Spells_in n) within free w x r

pub values_begin : ValuesBegin
values_begin within free w x (n, r) = values_in n within free w x r

statements_in : (n : ℕ) (within : Within) (w : List Token) (x : Tree) → Spells_in n (Stmt within) w x → first_is (begins_stmt within) w ≡ true
statements_in zero within w x r = absurd r
statements_in (suc n) within w x r = stmt_first (Spells_in n) within w x r

pub statements_begin : StatementsBegin
statements_begin within w x (n, r) = statements_in n within w x r

types_in : (n : ℕ) (with_arguments : Bool) (w : List Token) (x : Tree) → Spells_in n (Written with_arguments) w x → first_is begins_type w ≡ true
types_in zero with_arguments w x r = absurd r
types_in (suc n) with_arguments w x r = written_first (Spells_in n) with_arguments w x r

pub types_begin : TypesBegin
types_begin with_arguments w x (n, r) = types_in n with_arguments w x r
