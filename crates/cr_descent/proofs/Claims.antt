-- What is claimed of each reader: it is exact for its line of the grammar, given that the constructs in it are read exactly.
use Rattle.std.proofs.Common.{◌≡◌, ℕ, Bool, true, false, List, []}
use Rattle.cr_syntax.specs.declared.look.TokenLook.TheVariants as l
use Rattle.cr_syntax.specs.declared.token.Token.{Token}
use Rattle.cr_grammar.specs.declared.tree.Tree.{Tree}
use Rattle.cr_grammar.specs.declared.within.Within.{Within}
use Rattle.cr_grammar.specs.Forms.{Form, nothing, ◌<|>◌, maybe, many}
use Rattle.cr_grammar.specs.declared.wanted.Wanted.{Wanted}
use Rattle.cr_grammar.specs.declared.wanted.Wanted.TheVariants.{Written, When, Unary, Or, Simple, Stmt}
use Rattle.cr_grammar.specs.Laws.{first_is, begins_type, begins_or, begins_stmt}
use Rattle.cr_grammar.specs.Expressions as ex
use Rattle.cr_readers.specs.Reader.{Reader, Test, ◌>>=◌, pure, either, never, seen, tight_seen}
use Rattle.cr_exact.specs.Exact.{Effort, Exact, Any}
use Rattle.cr_exact.proofs.Moves.{Moves}
use Rattle.cr_readers.specs.Goes as g
use Rattle.cr_readers.specs.Operand.{whole}
use Rattle.cr_readers.specs.Types as types
use Rattle.cr_readers.specs.Bodies as bodies
use Rattle.cr_readers.specs.Primaries as primaries
use Rattle.cr_readers.specs.Compounds as compounds
use Rattle.cr_readers.specs.Links as links
use Rattle.cr_readers.specs.Operations as operations
use Rattle.cr_descent.proofs.Operands as operands

module _ (effort : Effort) (rec : Wanted → Reader Tree) (S T : Wanted → Form Tree) where
  -- the constructs in which the grammar reaches itself
  pub record Given : Type 0 where
    pub exact : (v : Wanted) → Exact effort Any (S v) (T v) (g.goes_of v) (rec v)
    pub some : (v : Wanted) → (w : List Token) × (x : Tree) × S v w x
    pub type_begins : (with_arguments : Bool) (w : List Token) (x : Tree) → T (Written with_arguments) w x → first_is begins_type w ≡ true
    pub when_begins : (within : Within) (free : Bool) (w : List Token) (x : Tree) → T (When within free) w x → first_is (λ a. seen l.When a false) w ≡ true
    pub unary_begins : (within : Within) (free : Bool) (w : List Token) (x : Tree) → T (Unary within free) w x → first_is (begins_or within) w ≡ true
    pub or_begins : (within : Within) (free : Bool) (w : List Token) (x : Tree) → T (Or within free) w x → first_is (begins_or within) w ≡ true
    pub simple_begins : (within : Within) (w : List Token) (x : Tree) → T (Simple within) w x → first_is (begins_stmt within) w ≡ true
    pub stmt_begins : (within : Within) (w : List Token) (x : Tree) → T (Stmt within) w x → first_is (begins_stmt within) w ≡ true
    pub when_moves : (within : Within) (free : Bool) → Moves (seen l.When) (rec (When within free))
    pub or_moves : (within : Within) (free : Bool) → Moves (λ found _. begins_or within found) (rec (Or within free))
    pub stmt_moves : (within : Within) → Moves (g.begins_line within) (rec (Stmt within))

  abbrev turns : ℕ
  turns = effort.turns

  -- ---- types

  abbrev pub Atom : Type 0
  Atom = (with_arguments : Bool) → Exact effort Any (ex.atom S with_arguments) (ex.atom T with_arguments) g.goes_type (types.atom turns rec with_arguments)

  abbrev pub TypeWritten : Type 0
  TypeWritten = (with_arguments : Bool) → Exact effort Any (ex.written S with_arguments) (ex.written T with_arguments) g.goes_type (types.written turns rec with_arguments)

  -- ---- bodies, blocks and arguments

  abbrev pub Body : Type 0
  Body = (within : Within) → Exact effort Any (ex.body S within) (ex.body T within) g.goes_body (bodies.body turns rec within)

  abbrev pub Then : Type 0
  Then = Exact effort Any (ex.then S) (ex.then T) never (bodies.then turns rec)

  abbrev pub Otherwise : Type 0
  Otherwise = (within : Within) → Exact effort Any (ex.otherwise S within) (ex.otherwise T within) (either (seen l.Else) g.goes_body) (bodies.otherwise turns rec within)

  abbrev pub DoBlock : Type 0
  DoBlock = (within : Within) → Exact effort Any (ex.doblock S within) (ex.doblock T within) never (bodies.doblock turns rec within)

  abbrev pub MaybeBlock : Type 0
  MaybeBlock = (within : Within) (free : Bool)
      → Exact effort Any (maybe (ex.block S within free)) (maybe (ex.block T within free)) (g.begins_block free) (bodies.maybe_block turns rec within free)

  abbrev pub Plain : Type 0
  Plain = (within : Within) (free : Bool) → Exact effort Any (ex.plain S within free) (ex.plain T within free) never (bodies.plain turns rec within free)

  abbrev pub Inside : Type 0
  Inside = (within : Within) (free : Bool)
      → Exact effort Any (ex.inside S within free) (ex.inside T within free) (either (seen l.Comma) (g.goes_or true)) (bodies.inside turns rec within)

  abbrev pub Arguments : Type 0
  Arguments = (within : Within) (free : Bool)
      → Exact effort Any (operands.arguments S within free) (operands.arguments T within free) (tight_seen l.OpenParenthesis) (bodies.arguments turns rec within)

  -- ---- what stands at the head of a postfix

  module _ (within : Within) (free : Bool) where
    abbrev Is : Form Tree → Form Tree → Test → Reader Tree → Type 0
    Is R C goes p = Exact effort Any R C goes p

    abbrev pub Conditional : Type 0
    Conditional =
        Is (ex.conditional_of S within free l.If false (many (ex.elsif S within free))) (ex.conditional_of T within free l.If false (many (ex.elsif T within free)))
        never (compounds.conditional turns rec within free l.If false)
        × Is (ex.conditional_of S within free l.Unless true (nothing [])) (ex.conditional_of T within free l.Unless true (nothing []))
        never (compounds.conditional turns rec within free l.Unless true)

    abbrev pub Looping : Type 0
    Looping =
        Is (ex.looping_of S within free l.While false) (ex.looping_of T within free l.While false) never (compounds.looping turns rec within free l.While false)
        × Is (ex.looping_of S within free l.Until true) (ex.looping_of T within free l.Until true) never (compounds.looping turns rec within free l.Until true)

    abbrev pub Cases : Type 0
    Cases = Is (ex.cases S within free) (ex.cases T within free) never (compounds.cases turns rec within free)

    abbrev pub Select : Type 0
    Select = Is (ex.select S within free) (ex.select T within free) never (compounds.select turns rec within free)

    abbrev pub OfClass : Type 0
    OfClass = Is (ex.made S within free <|> ex.pause S within free) (ex.made T within free <|> ex.pause T within free) (g.goes_primary free)
        (primaries.of_class turns rec within free)

    abbrev pub Primary : Type 0
    Primary = Exact effort Any (operands.primary S within free) (operands.primary T within free) (g.goes_primary free) (primaries.primary turns rec within free)

    -- ---- postfix and operators

    abbrev pub Postfix : Type 0
    Postfix = Exact effort Any (operands.postfix S within free) (operands.postfix T within free) (g.goes_operand free) (links.postfix turns rec within free)

    abbrev pub PostfixTree : Type 0
    PostfixTree = Exact effort Any (ex.postfix S within free) (ex.postfix T within free) (g.goes_operand free) (links.postfix turns rec within free >>= λ x. pure (whole x))

    abbrev pub WhenClause : Type 0
    WhenClause = Is (ex.when S within free) (ex.when T within free) g.goes_body (links.when turns rec within free)

    abbrev pub UnaryTree : Type 0
    UnaryTree = Is (ex.unary S within free) (ex.unary T within free) (g.goes_operand free) (operations.unary turns rec within free)

    abbrev pub OrTree : Type 0
    OrTree = Is (ex.or S within free) (ex.or T within free) (g.goes_or free) (operations.or turns rec within free)
