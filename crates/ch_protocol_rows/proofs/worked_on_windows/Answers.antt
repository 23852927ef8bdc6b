-- Each schedule, computed.
use Rattle.std.proofs.Common.{refl}
use Rattle.ch_protocol.specs.Sets.{least, all_below}
use Rattle.ch_protocol.specs.Machine.{step}
use Rattle.ch_protocol.specs.Drain.{repeat, sends, turns, round}
use Rattle.ch_protocol_rows.proofs.worked_on_windows.Goals as goal

pub returns-clause-window_of_one : goal.returns-clause-window_of_one
unfolding least all_below step repeat sends turns round
returns-clause-window_of_one _ = record { outcome = refl; counted = refl; acked = refl; received = refl }

pub returns-clause-fin_waits : goal.returns-clause-fin_waits
unfolding least all_below step repeat sends turns round
returns-clause-fin_waits _ = record { outcome = refl; counted = refl; acked = refl; received = refl }

pub returns-clause-nothing_there : goal.returns-clause-nothing_there
unfolding least all_below step repeat sends turns round
returns-clause-nothing_there _ = record { outcome = refl; counted = refl; acked = refl; received = refl }

pub returns-clause-window_from_the_least : goal.returns-clause-window_from_the_least
unfolding least all_below step repeat sends turns round
returns-clause-window_from_the_least _ = record { outcome = refl; counted = refl; acked = refl; received = refl }
