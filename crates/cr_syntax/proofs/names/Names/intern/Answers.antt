use Rattle.std.proofs.Common.{◌≡◌, ℕ, List, subst, ap, ◌∙◌}
use Rattle.std.specs.Prelude.{map}
use Rattle.std.specs.String.{string_bytes}
use Rattle.cr_syntax.specs.Names.{name_place, with_name}
use Rattle.cr_syntax.proofs.Named.{known_place, known_names, new_place, new_names}
use Rattle.cr_syntax.proofs.names.Names.intern.Goals as goal

pub returns-in-Some-clause-place : goal.returns-in-Some-clause-place
returns-in-Some-clause-place c =
    subst (λ (names : List (List ℕ)). c.in-Some.place ≡ name_place names c.args.text.now) c.self.view_is
    (known_place string_bytes c.args.text.now c.self.inside.texts.keys c.in-Some.place c.in-Some.ensures.index)

pub returns-in-Some-clause-ok : goal.returns-in-Some-clause-ok
returns-in-Some-clause-ok c =
    subst (λ (names : List (List ℕ)). names ≡ with_name names c.args.text.now) c.self.view_is
    (known_names string_bytes c.args.text.now c.self.inside.texts.keys c.in-Some.ensures.found)

pub returns-clause-place : goal.returns-clause-place
returns-clause-place c =
    subst (λ (names : List (List ℕ)). c.in_ok-place.place ≡ name_place names c.args.text.now) c.self.view_is
    (c.in_ok-place.ensures.index ∙ new_place string_bytes c.in_ok-from_str.field-0 c.args.text.now c.self.inside.texts.keys c.in_ok-from_str.ensures.ok)

pub returns-clause-ok : goal.returns-clause-ok
returns-clause-ok c =
    subst (λ (names : List (List ℕ)). map string_bytes c.insert_full.new.self.keys ≡ with_name names c.args.text.now) c.self.view_is
    (ap (map string_bytes) c.in_ok-place.ensures.keys ∙ new_names string_bytes c.in_ok-from_str.field-0 c.args.text.now c.self.inside.texts.keys c.in_ok-from_str.ensures.ok)
