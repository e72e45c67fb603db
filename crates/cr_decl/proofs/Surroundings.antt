-- A method is read by what surrounds its body, and that by its name.
use Rattle.std.proofs.Common.{◌≡◌, ℕ, Bool, List, Result, subst}
use Rattle.std.specs.Str.{bytes_eq}
use Rattle.cr_grammar.specs.declared.tree.Tree.{Tree}
use Rattle.cr_grammar.specs.declared.wanted.Wanted.{Wanted}
use Rattle.cr_grammar.specs.declared.within.Within.{Within}
use Rattle.cr_grammar.specs.Operators as o
use Rattle.cr_grammar.specs.Wanted.{in_method}
use Rattle.cr_readers.specs.declared.fault.ParseFault.{ParseFault}
use Rattle.cr_readers.specs.Reader.{Reader, State}
use Rattle.cr_readers.specs.Reads.{Reads}
use Rattle.cr_decl.specs.Methods.{def_inside, def_behind}

pub by_name : (turns : ℕ) (rec : Wanted → Reader Tree) (class : Bool) (at : ℕ) (name : List ℕ) (within : Within) (initialize : Bool) (s new : State) (r : Result Tree ParseFault)
    → within ≡ in_method class name → initialize ≡ bytes_eq name o.initialize_name
    → Reads (def_inside turns rec within initialize at name s) r new → Reads (def_behind turns rec class at name s) r new
by_name turns rec class at name within initialize s new r is same reads = subst (λ w. Reads (def_inside turns rec w (bytes_eq name o.initialize_name) at name s) r new) is
    (subst (λ b. Reads (def_inside turns rec within b at name s) r new) same reads)
