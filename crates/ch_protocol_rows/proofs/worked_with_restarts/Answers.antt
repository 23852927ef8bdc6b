-- Each schedule, computed.
use Rattle.std.proofs.Common.{refl}
use Rattle.ch_protocol.specs.Sets.{least, all_below}
use Rattle.ch_protocol.specs.Machine.{step}
use Rattle.ch_protocol.specs.Drain.{repeat, sends, turns, round}
use Rattle.ch_protocol_rows.proofs.worked_with_restarts.Goals as goal

pub returns-clause-old_ack_after_a_restart : goal.returns-clause-old_ack_after_a_restart
unfolding least all_below step repeat sends turns round
returns-clause-old_ack_after_a_restart _ = record { outcome = refl; counted = refl; acked = refl; received = refl }

pub returns-clause-old_packet_after_a_restart : goal.returns-clause-old_packet_after_a_restart
unfolding least all_below step repeat sends turns round
returns-clause-old_packet_after_a_restart _ = record { outcome = refl; counted = refl; acked = refl; received = refl }

pub returns-clause-cut_at_a_restart : goal.returns-clause-cut_at_a_restart
unfolding least all_below step repeat sends turns round
returns-clause-cut_at_a_restart _ = record { outcome = refl; counted = refl; acked = refl; received = refl }

pub returns-clause-before_the_cut : goal.returns-clause-before_the_cut
unfolding least all_below step repeat sends turns round
returns-clause-before_the_cut _ = record { outcome = refl; counted = refl; acked = refl; received = refl }

pub returns-clause-expected_after_a_restart : goal.returns-clause-expected_after_a_restart
unfolding least all_below step repeat sends turns round
returns-clause-expected_after_a_restart _ = record { outcome = refl; counted = refl; acked = refl; received = refl }

pub returns-clause-expected_from_the_least : goal.returns-clause-expected_from_the_least
unfolding least all_below step repeat sends turns round
returns-clause-expected_from_the_least _ = record { outcome = refl; counted = refl; acked = refl; received = refl }

pub returns-clause-pruned_in_the_new_epoch : goal.returns-clause-pruned_in_the_new_epoch
unfolding least all_below step repeat sends turns round
returns-clause-pruned_in_the_new_epoch _ = record { outcome = refl; counted = refl; acked = refl; received = refl }

pub returns-clause-fin_in_the_new_epoch : goal.returns-clause-fin_in_the_new_epoch
unfolding least all_below step repeat sends turns round
returns-clause-fin_in_the_new_epoch _ = record { outcome = refl; counted = refl; acked = refl; received = refl }

pub returns-clause-passed_in_the_new_epoch : goal.returns-clause-passed_in_the_new_epoch
unfolding least all_below step repeat sends turns round
returns-clause-passed_in_the_new_epoch _ = record { outcome = refl; counted = refl; acked = refl; received = refl }

pub returns-clause-restart_in_pass_2 : goal.returns-clause-restart_in_pass_2
unfolding least all_below step repeat sends turns round
returns-clause-restart_in_pass_2 _ = record { outcome = refl; counted = refl; acked = refl; received = refl }
