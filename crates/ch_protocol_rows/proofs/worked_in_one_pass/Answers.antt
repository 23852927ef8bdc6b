-- Each schedule, computed.
use Rattle.std.proofs.Common.{refl}
use Rattle.ch_protocol.specs.Sets.{least, all_below}
use Rattle.ch_protocol.specs.Machine.{step}
use Rattle.ch_protocol.specs.Drain.{repeat, sends, turns, round}
use Rattle.ch_protocol_rows.proofs.worked_in_one_pass.Goals as goal

pub returns-clause-filter_end_to_end : goal.returns-clause-filter_end_to_end
unfolding least all_below step repeat sends turns round
returns-clause-filter_end_to_end _ = record { outcome = refl; counted = refl; acked = refl; received = refl }

pub returns-clause-empty_part : goal.returns-clause-empty_part
unfolding least all_below step repeat sends turns round
returns-clause-empty_part _ = record { outcome = refl; counted = refl; acked = refl; received = refl }

pub returns-clause-two_parts : goal.returns-clause-two_parts
unfolding least all_below step repeat sends turns round
returns-clause-two_parts _ = record { outcome = refl; counted = refl; acked = refl; received = refl }

pub returns-clause-reordered_before_the_switch : goal.returns-clause-reordered_before_the_switch
unfolding least all_below step repeat sends turns round
returns-clause-reordered_before_the_switch _ = record { outcome = refl; counted = refl; acked = refl; received = refl }

pub returns-clause-open_run : goal.returns-clause-open_run
unfolding least all_below step repeat sends turns round
returns-clause-open_run _ = record { outcome = refl; counted = refl; acked = refl; received = refl }

pub returns-clause-open_run_received : goal.returns-clause-open_run_received
unfolding least all_below step repeat sends turns round
returns-clause-open_run_received _ = record { outcome = refl; counted = refl; acked = refl; received = refl }

pub returns-clause-repeats : goal.returns-clause-repeats
unfolding least all_below step repeat sends turns round
returns-clause-repeats _ = record { outcome = refl; counted = refl; acked = refl; received = refl }

pub returns-clause-repeats_of_a_key : goal.returns-clause-repeats_of_a_key
unfolding least all_below step repeat sends turns round
returns-clause-repeats_of_a_key _ = record { outcome = refl; counted = refl; acked = refl; received = refl }

pub returns-clause-one_cached_key : goal.returns-clause-one_cached_key
unfolding least all_below step repeat sends turns round
returns-clause-one_cached_key _ = record { outcome = refl; counted = refl; acked = refl; received = refl }

pub returns-clause-lost_four_times : goal.returns-clause-lost_four_times
unfolding least all_below step repeat sends turns round
returns-clause-lost_four_times _ = record { outcome = refl; counted = refl; acked = refl; received = refl }

pub returns-clause-lost_then_drained : goal.returns-clause-lost_then_drained
unfolding least all_below step repeat sends turns round
returns-clause-lost_then_drained _ = record { outcome = refl; counted = refl; acked = refl; received = refl }

pub returns-clause-injected_byte : goal.returns-clause-injected_byte
unfolding least all_below step repeat sends turns round
returns-clause-injected_byte _ = record { outcome = refl; counted = refl; acked = refl; received = refl }

pub returns-clause-kept_at_its_place : goal.returns-clause-kept_at_its_place
unfolding least all_below step repeat sends turns round
returns-clause-kept_at_its_place _ = record { outcome = refl; counted = refl; acked = refl; received = refl }
