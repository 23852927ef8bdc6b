-- Each schedule, computed.
use Rattle.std.proofs.Common.{refl}
use Rattle.ch_protocol.specs.Sets.{least, all_below}
use Rattle.ch_protocol.specs.Machine.{step}
use Rattle.ch_protocol.specs.Drain.{repeat, sends, turns, round}
use Rattle.ch_protocol_rows.proofs.worked_on_counts.Goals as goal

pub returns-clause-count_at_its_end : goal.returns-clause-count_at_its_end
unfolding least all_below step repeat sends turns round
returns-clause-count_at_its_end _ = refl

pub returns-clause-steps_at_their_end : goal.returns-clause-steps_at_their_end
unfolding least all_below step repeat sends turns round
returns-clause-steps_at_their_end _ = refl

pub returns-clause-nothing_after_the_end : goal.returns-clause-nothing_after_the_end
unfolding least all_below step repeat sends turns round
returns-clause-nothing_after_the_end _ = record { outcome = refl; counted = refl; acked = refl; received = refl }
