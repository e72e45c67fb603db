-- What can be spelled, and what surrounds it.
use Rattle.std.specs.Prelude.{ℕ, Bool, true, false, ◌&&◌, List}
use Rattle.std.specs.Str.{bytes_eq}
use Rattle.cr_grammar.specs.declared.within.Within.{Within}
use Rattle.cr_grammar.specs.Operators as o

-- ---- what surrounds the parts of a construct

abbrev pub in_loop : Within → Within
in_loop within = record within { in_loop = true }

abbrev pub in_block : Within → Within
in_block within = record within { block = true; in_loop = false }

-- where `self` and instance variables stand: in a method of a class or module
abbrev pub in_object : Within → Bool
in_object within = within.class && within.method

abbrev pub top : Within
top = record { class = false; method = false; initialize = false; block = false; in_loop = false }

-- in a method of this name; the flag tells whether it is one of a class or module
abbrev pub in_method : Bool → List ℕ → Within
in_method class name = record { class = class; method = true; initialize = class && bytes_eq name o.initialize_name; block = false; in_loop = false }
