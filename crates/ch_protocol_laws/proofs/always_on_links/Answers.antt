use Rattle.ch_protocol_laws.proofs.Reached.{reached_sound}
use Rattle.ch_protocol_laws.proofs.Facts.{links_known, no_epoch_above, down_below_expected, acks_true, other_passes_expected, expected_sent, fin_last}
use Rattle.ch_protocol_laws.proofs.always_on_links.Goals as goal

pub returns-clause-links_known : goal.returns-clause-links_known
returns-clause-links_known _ c s r = links_known c s (reached_sound c s r)

pub returns-clause-no_epoch_above : goal.returns-clause-no_epoch_above
returns-clause-no_epoch_above _ c s r = no_epoch_above c s (reached_sound c s r)

pub returns-clause-down_below_expected : goal.returns-clause-down_below_expected
returns-clause-down_below_expected _ c s r = down_below_expected c s (reached_sound c s r)

pub returns-clause-acks_true : goal.returns-clause-acks_true
returns-clause-acks_true _ c s r = acks_true c s (reached_sound c s r)

pub returns-clause-pass_in_range : goal.returns-clause-pass_in_range
returns-clause-pass_in_range _ c s r = (reached_sound c s r).in_range

pub returns-clause-other_passes_expected : goal.returns-clause-other_passes_expected
returns-clause-other_passes_expected _ c s r = other_passes_expected c s (reached_sound c s r)

pub returns-clause-expected_sent : goal.returns-clause-expected_sent
returns-clause-expected_sent _ c s r = expected_sent c s (reached_sound c s r)

pub returns-clause-fin_last : goal.returns-clause-fin_last
returns-clause-fin_last _ c s r = fin_last c s (reached_sound c s r)
