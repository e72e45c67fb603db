use Rattle.cr_decl.proofs.Accepted as accepted
use Rattle.cr_decl.proofs.laws.body_is_accepted.Goals as goal

pub returns : goal.returns
returns c = accepted.body_is_accepted c.one_tree.ensures c.new_cursor_is_limited.ensures c.within_is_found.ensures c.longest_front.ensures
