use Rattle.cr_grammar.proofs.Spelled as spelled
use Rattle.cr_grammar.proofs.examples.words_stand_in_their_place.Goals as goal

pub returns : goal.returns
returns c = spelled.words_out_of_place
