-- A small program, and what its world answers.
use Rattle.std.specs.Prelude.{◌≡◌, ℕ, true, false, List, [], ◌∷◌, codes, Option, Some, None}
use Rattle.cr_base.specs.declared.ids.ClassId.{ClassId}
use Rattle.cr_base.specs.declared.ids.MethodId.{MethodId}
use Rattle.cr_base.specs.declared.ids.NameId.{NameId}
use Rattle.cr_core.specs.Core.{Core, none, one, ◌⊕◌}
use Rattle.cr_core.specs.Arena.{rows}
use Rattle.cr_core.specs.Tree.{Contents}
use Rattle.cr_core.specs.declared.form.Form.{Form}
use Rattle.cr_core.specs.declared.form.Form.TheVariants as f
use Rattle.cr_prelude.specs.declared.class.BuiltinClass.TheVariants as c
use Rattle.cr_tables.specs.declared.onwards.Onwards.TheVariants.{Nowhere, To, NoneMatches}
use Rattle.cr_tables.specs.Numbers.{class, class_id}
use Rattle.cr_tables.specs.Hierarchy.{ancestors}
use Rattle.cr_tables.specs.Choosing.{chosen, chosen_super, chosen_initialize}

-- ---- the program
--
-- class A
--   def f(x : Int32)
--   def f(x)
--   def initialize(x)
-- module M
--   def f(x : Int32 | Nil)
-- class B < A
--   include M
--   def f(x, y)
-- def f(x)
-- class G(T)
--   def f(x : T)

abbrev pub named : ℕ → NameId
named n = record { 0 = n }

abbrev pub f_name : NameId
f_name = named 0

abbrev pub initialize_name : NameId
initialize_name = named 1

abbrev pub plus_name : NameId
plus_name = named 2

abbrev pub equal_name : NameId
equal_name = named 3

abbrev pub of : Form → Core → Core
of form parts = one form (record { prelude = false; at = 0 }) parts

abbrev pub any : Core
any = of (f.Parameter 0 false) none

abbrev pub atom : ℕ → Core
atom n = of (f.Atom (named n)) none

abbrev pub typed : Core → Core
typed atoms = of (f.Parameter 0 true) (of f.Union atoms)

abbrev pub def : NameId → Core → Core
def name parameters = of (f.Def name (record { 0 = 0 }) false true) (parameters ⊕ of f.Nil none)

abbrev pub program : Core
program = of (f.Program (record { 0 = 0 }))
    (of (f.Class (named 4) None) (def f_name (typed (atom 8)) ⊕ (def f_name any ⊕ def initialize_name any))
    ⊕ (of (f.Module (named 5)) (def f_name (typed (atom 8 ⊕ atom 9)))
    ⊕ (of (f.Class (named 6) (Some (named 4))) (of (f.Include (named 5)) none ⊕ def f_name (any ⊕ any))
    ⊕ (def f_name any
    ⊕ (of (f.Class (named 7) None) (of (f.TypeParameter (named 10)) none ⊕ def f_name (typed (atom 10)))
    ⊕ of f.IsA (of f.Nil none ⊕ atom 5))))))

abbrev pub sample : Contents
sample = record {
  rows = rows program;
  scopes = [];
  names = codes "f" ∷ codes "initialize" ∷ codes "+" ∷ codes "==" ∷ codes "A" ∷ codes "M" ∷ codes "B" ∷ codes "G" ∷ codes "Int32" ∷ codes "Nil" ∷ codes "T" ∷ [];
  texts = [];
}

-- ---- its classes and methods

abbrev pub a : ClassId
a = class_id 12

abbrev pub m : ClassId
m = class_id 13

abbrev pub b : ClassId
b = class_id 14

abbrev pub g : ClassId
g = class_id 15

-- the nth of its methods
abbrev pub nth : ℕ → Option MethodId
nth n = Some (record { 0 = n })

abbrev pub calls : ClassId → NameId → List ClassId → Option MethodId
calls receiver name args = chosen sample receiver name args false false

-- ---- what is answered; the first 93 methods are built in

pub record Chooses : Type 0 where
  pub lookup_order : ancestors sample b ≡ b ∷ m ∷ a ∷ class c.Object ∷ []
  pub most_special : calls a f_name (class c.Int32 ∷ []) ≡ nth 93
  pub other : calls a f_name (class c.Nil ∷ []) ≡ nth 94
  pub module_first : calls b f_name (class c.Nil ∷ []) ≡ nth 96
  pub superclass_next : calls b f_name (class c.String ∷ []) ≡ nth 94
  pub own : calls b f_name (class c.Nil ∷ class c.Nil ∷ []) ≡ nth 97
  pub no_block : chosen sample a f_name (class c.Int32 ∷ []) true false ≡ None
  pub type_parameter : calls g f_name (class c.String ∷ []) ≡ nth 99
  pub of_top_level : chosen sample (class c.Object) f_name (a ∷ []) false true ≡ nth 98
  pub through_top_level : chosen sample (class c.Nil) f_name (a ∷ []) false true ≡ nth 98
  pub with_receiver : calls (class c.Nil) f_name (a ∷ []) ≡ None
  pub sum : calls (class c.Int32) plus_name (class c.Int32 ∷ []) ≡ nth 5
  pub other_operand : calls (class c.Int32) plus_name (class c.Int64 ∷ []) ≡ None
  pub other_integer : calls (class c.Int32) equal_name (class c.Int64 ∷ []) ≡ None
  pub identity : calls b equal_name (class c.Nil ∷ []) ≡ nth 0
  pub no_identity : calls (class c.Array) equal_name (class c.Array ∷ []) ≡ None

pub record GoesOn : Type 0 where
  pub out_of_module : chosen_super sample b (record { 0 = 96 }) (class c.Int32 ∷ []) ≡ To (record { 0 = 93 })
  pub out_of_first : chosen_super sample b (record { 0 = 97 }) (class c.Int32 ∷ []) ≡ To (record { 0 = 96 })
  pub none_matches : chosen_super sample b (record { 0 = 97 }) [] ≡ NoneMatches
  pub nowhere : chosen_super sample a (record { 0 = 93 }) (class c.Int32 ∷ []) ≡ Nowhere
  pub out_of_top_level : chosen_super sample (class c.Object) (record { 0 = 98 }) (class c.Int32 ∷ []) ≡ Nowhere
  pub inherited : chosen_initialize sample b (class c.Nil ∷ []) ≡ To (record { 0 = 95 })
  pub no_initialize : chosen_initialize sample g [] ≡ Nowhere
  pub other_arguments : chosen_initialize sample b [] ≡ NoneMatches
