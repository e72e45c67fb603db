use Rattle.cr_items.specs.Channel.{new_channel, run}
use Rattle.cr_items.proofs.Lawful.{lawful_new, lawful_run, received_front, received_in_order, received_stays, received_after_close}
use Rattle.cr_items.proofs.laws.received_law.Goals as goal

pub returns-clause-front : goal.returns-clause-front
returns-clause-front c = λ capacity operations.
    received_front (run (new_channel capacity) operations) (lawful_run (new_channel capacity) operations (lawful_new capacity))

pub returns-clause-in_order : goal.returns-clause-in_order
returns-clause-in_order c = λ capacity operations.
    received_in_order (run (new_channel capacity) operations) (lawful_run (new_channel capacity) operations (lawful_new capacity))

pub returns-clause-stays : goal.returns-clause-stays
returns-clause-stays c = received_stays

pub returns-clause-after_a_close : goal.returns-clause-after_a_close
returns-clause-after_a_close c = received_after_close
