use Rattle.std.proofs.Common.{rules, ◌∙◌}
use Rattle.cr_value.proofs.Characters.{characters_begin}
use Rattle.std.proofs.lemmas.Str.{chars_from_encodes}
use Rattle.cr_value.proofs.text.Text.size.Goals as goal

pub returns-clause-characters : goal.returns-clause-characters
returns-clause-characters c = search (rules, chars_from_encodes)

pub returns-clause-beginnings : goal.returns-clause-beginnings
returns-clause-beginnings c = returns-clause-characters c ∙ characters_begin c.args.self.now c.as_str.ensures.utf8
