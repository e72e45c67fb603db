-- Names in parts and in lists.
use Rattle.std.specs.Prelude.{ℕ, List, [], Option}
use Rattle.cr_syntax.specs.declared.look.TokenLook.TheVariants as l
use Rattle.cr_grammar.specs.Operators as o
use Rattle.cr_readers.specs.Reader.{Reader, ◌>>=◌, ◌>>◌, pure, seen, tight_seen, expect, choose}
use Rattle.cr_readers.specs.Lists.{optional, comma, listed, parenthesized}
use Rattle.cr_readers.specs.Declarations.{constant_name}

-- what stands behind `[]` in the name of a method
abbrev pub index_ending : Reader (List ℕ)
index_ending = choose (tight_seen l.Equal) (expect l.Equal >> pure o.index_set_name)
    (choose (tight_seen l.Question) (expect l.Question >> pure o.index_question_name) (pure o.index_name))

-- a comma, and the name of a class that stands behind it
abbrev pub name_behind : ℕ → Reader (List ℕ)
name_behind turns = comma turns >> constant_name

-- the names of type parameters in tight parentheses, or none
abbrev pub type_parameters : ℕ → Reader (List (List ℕ))
type_parameters turns = choose (tight_seen l.OpenParenthesis) (parenthesized turns (listed turns constant_name)) (pure [])

-- "<" Const, if it comes
abbrev pub superclass : Reader (Option (List ℕ))
superclass = optional (seen l.Less) (expect l.Less >> constant_name)
