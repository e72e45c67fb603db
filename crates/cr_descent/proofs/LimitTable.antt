-- What is claimed of the counts of each reader: the nodes and the nesting of what it finds, and that it stops at a limit only
-- where all that is spelled there is beyond it.
use Rattle.std.specs.Prelude.{ℕ, ◌+◌, Bool, true, false, List, [], Option}
use Rattle.cr_syntax.specs.declared.look.TokenLook.{TokenLook}
use Rattle.cr_syntax.specs.declared.look.TokenLook.TheVariants as l
use Rattle.cr_grammar.specs.declared.tree.Tree.{Tree}
use Rattle.cr_grammar.specs.declared.within.Within.{Within}
use Rattle.cr_grammar.specs.Count.{nodes, nesting}
use Rattle.cr_grammar.specs.Forms.{Form, nothing, ◌<|>◌, maybe, many}
use Rattle.cr_grammar.specs.declared.wanted.Wanted.{Wanted}
use Rattle.cr_grammar.specs.Expressions as ex
use Rattle.cr_grammar.specs.Grammar as gr
use Rattle.cr_readers.specs.Reader.{Reader, Test, ◌>>=◌, pure, either, never, seen, tight_seen}
use Rattle.cr_exact.specs.Exact.{Effort, Any}
use Rattle.cr_exact.specs.Limits.{Counts, Whole, Rises, known, size_of_all, top_of_all, if_some}
use Rattle.cr_readers.specs.Goes as g
use Rattle.cr_readers.specs.declared.operand.Operand.{Operand}
use Rattle.cr_readers.specs.Operand.{whole}
use Rattle.cr_readers.specs.Bodies as bodies
use Rattle.cr_readers.specs.Primaries as primaries
use Rattle.cr_readers.specs.Compounds as compounds
use Rattle.cr_readers.specs.Links as links
use Rattle.cr_readers.specs.Operations as operations
use Rattle.cr_readers.specs.Statements as statements
use Rattle.cr_readers.specs.Declarations as declarations
use Rattle.cr_descent.proofs.Operands as operands
use Rattle.cr_descent.proofs.OperationForms.{or_rest}
use Rattle.cr_descent.proofs.LimitClaims.{Trees, Parts}

abbrev pub part_height : Tree → ℕ
part_height x = nesting x + 1

-- a reader of a list of parts
abbrev pub ManyParts : Form (List Tree) → Test → Reader (List Tree) → Type 0
ManyParts C goes p = Rises (size_of_all nodes) (top_of_all part_height) Any C goes p

abbrev pub MaybeParts : Form (Option (List Tree)) → Test → Reader (Option (List Tree)) → Type 0
MaybeParts C goes p = Rises (if_some (size_of_all nodes)) (if_some (top_of_all part_height)) Any C goes p

-- a reader of an operand
abbrev pub Operands : Form Operand → Test → Reader Operand → Type 0
Operands C goes p = Whole (λ x. nodes (whole x)) (λ x. nesting (whole x)) Any C goes p

module _ (effort : Effort) (rec : Wanted → Reader Tree) (T : Wanted → Form Tree) where
  abbrev turns : ℕ
  turns = effort.turns

  abbrev pub Body : Type 0
  Body = (within : Within) → ManyParts (ex.body T within) g.goes_body (bodies.body turns rec within)

  abbrev pub Otherwise : Type 0
  Otherwise = (within : Within) → MaybeParts (ex.otherwise T within) (either (seen l.Else) g.goes_body) (bodies.otherwise turns rec within)

  abbrev pub DoBlock : Type 0
  DoBlock = (within : Within) → Parts (ex.doblock T within) never (bodies.doblock turns rec within)

  abbrev pub MaybeBlock : Type 0
  MaybeBlock = (within : Within) (free : Bool) → Rises (if_some nodes) (if_some part_height) Any (maybe (ex.block T within free)) (g.begins_block free) (bodies.maybe_block turns rec within free)

  abbrev pub Plain : Type 0
  Plain = (within : Within) (free : Bool) → ManyParts (ex.plain T within free) never (bodies.plain turns rec within free)

  abbrev pub Inside : Type 0
  Inside = (within : Within) (free : Bool) → ManyParts (ex.inside T within free) (either (seen l.Comma) (g.goes_or true)) (bodies.inside turns rec within)

  abbrev pub Arguments : Type 0
  Arguments = (within : Within) (free : Bool) → MaybeParts (operands.arguments T within free) (tight_seen l.OpenParenthesis) (bodies.arguments turns rec within)

  module _ (within : Within) (free : Bool) where
    abbrev pub Conditional : Type 0
    Conditional =
        Trees (ex.conditional_of T within free l.If false (many (ex.elsif T within free))) never (compounds.conditional turns rec within free l.If false)
        × Trees (ex.conditional_of T within free l.Unless true (nothing [])) never (compounds.conditional turns rec within free l.Unless true)

    abbrev pub Looping : Type 0
    Looping =
        Trees (ex.looping_of T within free l.While false) never (compounds.looping turns rec within free l.While false)
        × Trees (ex.looping_of T within free l.Until true) never (compounds.looping turns rec within free l.Until true)

    abbrev pub Cases : Type 0
    Cases = Trees (ex.cases T within free) never (compounds.cases turns rec within free)

    abbrev pub Select : Type 0
    Select = Trees (ex.select T within free) never (compounds.select turns rec within free)

    abbrev pub OfClass : Type 0
    OfClass = Trees (ex.made T within free <|> ex.pause T within free) (g.goes_primary free) (primaries.of_class turns rec within free)

    abbrev pub Primary : Type 0
    Primary = Operands (operands.primary T within free) (g.goes_primary free) (primaries.primary turns rec within free)

    abbrev pub Postfix : Type 0
    Postfix = Operands (operands.postfix T within free) (g.goes_operand free) (links.postfix turns rec within free)

    abbrev pub PostfixTree : Type 0
    PostfixTree = Trees (ex.postfix T within free) (g.goes_operand free) (links.postfix turns rec within free >>= λ x. pure (whole x))

    abbrev pub WhenClause : Type 0
    WhenClause = Parts (ex.when T within free) g.goes_body (links.when turns rec within free)

    abbrev pub UnaryTree : Type 0
    UnaryTree = Trees (ex.unary T within free) (g.goes_operand free) (operations.unary turns rec within free)

    abbrev pub OrTree : Type 0
    OrTree = Trees (ex.or T within free) (g.goes_or free) (operations.or turns rec within free)

    -- what follows a first operand
    abbrev pub OrFrom : Type 0
    OrFrom = (x : Tree × TokenLook) (n : ℕ)
        → Counts Any (or_rest T within free x) (g.goes_or free) (known (n + nodes x.0) (nesting x.0)) (λ (y : Tree × TokenLook). known (n + nodes y.0) (nesting y.0)) (operations.or_from turns rec within free x)

  abbrev pub Simple : Type 0
  Simple = (within : Within) → Trees (gr.simple T within) g.goes_simple (statements.simple turns rec within)

  abbrev pub Stmt : Type 0
  Stmt = (within : Within) → Trees (gr.stmt T within) g.goes_stmt (statements.stmt turns rec within)

  -- items stand beside one another
  abbrev pub Program : Type 0
  Program = Rises nodes nesting Any (gr.program T) never (declarations.program turns rec)
