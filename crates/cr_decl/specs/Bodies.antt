-- A body within the limits is refused nowhere.
use Rattle.std.specs.Prelude.{List, Result}
use Rattle.cr_syntax.specs.declared.token.Token.{Token}
use Rattle.cr_grammar.specs.declared.tree.Tree.{Tree}
use Rattle.cr_grammar.specs.declared.within.Within.{Within}
use Rattle.cr_readers.specs.declared.fault.ParseFault.{ParseFault}
use Rattle.cr_descent.specs.Bodies.{AnswersBody, IsBody}
use Rattle.cr_descent.specs.Programs.{IsOnly}

-- What answers so of a body within the limits is its tree, or want of memory.
abbrev pub BodyIsAccepted : Type 0
BodyIsAccepted = (within : Within) (list : List Token) (x : Tree) (r : Result Tree ParseFault) → AnswersBody within list r → IsBody within list x → IsOnly x r
