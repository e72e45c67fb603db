use Rattle.std.proofs.Common.{◌≡◌, ◌++◌, drop}
use Rattle.std.specs.Prelude.{filter_map}
use Rattle.cr_declarations.specs.declared.declaration.Declaration.{Declaration}
use Rattle.cr_tables.specs.Hierarchy.{superclass_by}
use Rattle.cr_tables.proofs.above.named_superclasses.Given as goal

abbrev pub invariant-loop-declaration : goal.invariant-loop-declaration
invariant-loop-declaration l =
    l.links.items ++ filter_map (λ (d : Declaration). superclass_by l.lookup.core.now d.declared) (drop l.declaration-index l.declared)
    ≡ filter_map (λ (d : Declaration). superclass_by l.lookup.core.now d.declared) l.declared
