-- Each schedule, computed.
use Rattle.std.proofs.Common.{refl}
use Rattle.ch_protocol.specs.Sets.{least, all_below}
use Rattle.ch_protocol.specs.Machine.{step}
use Rattle.ch_protocol.specs.Drain.{repeat, sends, turns, round}
use Rattle.ch_protocol_rows.proofs.worked_in_two_passes.Goals as goal

pub returns-clause-sum_on_one_cell : goal.returns-clause-sum_on_one_cell
unfolding least all_below step repeat sends turns round
returns-clause-sum_on_one_cell _ = record { outcome = refl; counted = refl; acked = refl; received = refl }

pub returns-clause-lost_ack_in_pass_1 : goal.returns-clause-lost_ack_in_pass_1
unfolding least all_below step repeat sends turns round
returns-clause-lost_ack_in_pass_1 _ = record { outcome = refl; counted = refl; acked = refl; received = refl }

pub returns-clause-lost_ack_in_pass_2 : goal.returns-clause-lost_ack_in_pass_2
unfolding least all_below step repeat sends turns round
returns-clause-lost_ack_in_pass_2 _ = record { outcome = refl; counted = refl; acked = refl; received = refl }

pub returns-clause-restart_before_two_passes : goal.returns-clause-restart_before_two_passes
unfolding least all_below step repeat sends turns round
returns-clause-restart_before_two_passes _ = record { outcome = refl; counted = refl; acked = refl; received = refl }

pub returns-clause-old_ack_in_pass_2 : goal.returns-clause-old_ack_in_pass_2
unfolding least all_below step repeat sends turns round
returns-clause-old_ack_in_pass_2 _ = record { outcome = refl; counted = refl; acked = refl; received = refl }

pub returns-clause-join : goal.returns-clause-join
unfolding least all_below step repeat sends turns round
returns-clause-join _ = record { outcome = refl; counted = refl; acked = refl; received = refl }

pub returns-clause-semi_join : goal.returns-clause-semi_join
unfolding least all_below step repeat sends turns round
returns-clause-semi_join _ = record { outcome = refl; counted = refl; acked = refl; received = refl }
