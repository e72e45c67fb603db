use Rattle.std.proofs.Common.{rules, ◌≡◌, ◌∷◌, drop, ap, ◌∙◌}
use Rattle.cr_readers.specs.Reader.{passes, tail}
use Rattle.cr_readers.specs.Cursor.{any_tight}
use Rattle.cr_readers.proofs.Rest.{tail_drop, minus_begins_here}
use Rattle.cr_readers.proofs.cursor.Cursor.begins_argument.Goals as goal

pub returns-then-is_minus : goal.returns-then-is_minus
returns-then-is_minus c =
    let s = c.args.self.now in
    let t = c.in-Some.token.now in
    let first : drop s.at s.list.now ≡ t ∷ tail (drop s.at s.list.now) = search rules in
    c.is_tight_at.ensures ∙ ap (passes any_tight) (tail_drop s.at s.list.now)
    ∙ minus_begins_here t (drop s.at s.list.now) first (search rules) (search rules) (search rules)
