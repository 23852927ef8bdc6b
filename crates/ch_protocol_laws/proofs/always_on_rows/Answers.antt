use Rattle.ch_protocol_laws.proofs.Reached.{reached_sound}
use Rattle.ch_protocol_laws.proofs.Facts.{processed_in_order, end_below_expected, exactly_below_expected, history_ordered, verdicts_given, first_pass_whole, pruned_in_first_epoch, received_once, acked_settled}
use Rattle.ch_protocol_laws.proofs.always_on_rows.Goals as goal

pub returns-clause-processed_in_order : goal.returns-clause-processed_in_order
returns-clause-processed_in_order _ c s r = processed_in_order c s (reached_sound c s r)

pub returns-clause-end_below_expected : goal.returns-clause-end_below_expected
returns-clause-end_below_expected _ c s r = end_below_expected c s (reached_sound c s r)

pub returns-clause-exactly_below_expected : goal.returns-clause-exactly_below_expected
returns-clause-exactly_below_expected _ c s r = exactly_below_expected c s (reached_sound c s r)

pub returns-clause-history_ordered : goal.returns-clause-history_ordered
returns-clause-history_ordered _ c s r = history_ordered c s (reached_sound c s r)

pub returns-clause-verdicts_given : goal.returns-clause-verdicts_given
returns-clause-verdicts_given _ c s r = verdicts_given c s (reached_sound c s r)

pub returns-clause-first_pass_whole : goal.returns-clause-first_pass_whole
returns-clause-first_pass_whole _ c s r = first_pass_whole c s (reached_sound c s r)

pub returns-clause-pruned_in_first_epoch : goal.returns-clause-pruned_in_first_epoch
returns-clause-pruned_in_first_epoch _ c s r = pruned_in_first_epoch c s (reached_sound c s r)

pub returns-clause-received_once : goal.returns-clause-received_once
returns-clause-received_once _ c s r = received_once c s (reached_sound c s r)

pub returns-clause-acked_settled : goal.returns-clause-acked_settled
returns-clause-acked_settled _ c s r = acked_settled c s (reached_sound c s r)
