use Rattle.std.proofs.Common.{ℕ, List, subst}
use Rattle.std.specs.List.{IsDistinct}
use Rattle.std.specs.Str.{bytes_eq}
use Rattle.std.specs.String.{string_bytes}
use Rattle.cr_syntax.proofs.Named.{distinct_names}
use Rattle.cr_syntax.proofs.names.Names.len.Goals as goal

pub returns-clause-distinct : goal.returns-clause-distinct
returns-clause-distinct c = subst (λ (names : List (List ℕ)). IsDistinct bytes_eq names) c.self.view_is (distinct_names string_bytes c.self.inside.texts.keys c.len.ensures.unique)
