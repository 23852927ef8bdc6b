-- Each schedule, computed.
use Rattle.std.proofs.Common.{refl}
use Rattle.ch_protocol.specs.Sets.{least, all_below}
use Rattle.ch_protocol.specs.Machine.{step}
use Rattle.ch_protocol.specs.Drain.{repeat, sends, turns, round}
use Rattle.ch_protocol.specs.DrainEvents.{send_events, turns_events, back_events, rounds_events}
use Rattle.ch_protocol_rows.proofs.worked_on_events.Goals as goal

pub returns-clause-every_fate : goal.returns-clause-every_fate
unfolding least all_below step repeat sends turns round send_events turns_events back_events rounds_events
returns-clause-every_fate _ = refl

pub returns-clause-events_of_drain : goal.returns-clause-events_of_drain
unfolding least all_below step repeat sends turns round send_events turns_events back_events rounds_events
returns-clause-events_of_drain _ = refl

pub returns-clause-resends_of_drain : goal.returns-clause-resends_of_drain
unfolding least all_below step repeat sends turns round send_events turns_events back_events rounds_events
returns-clause-resends_of_drain _ = refl

pub returns-clause-rows_in_order : goal.returns-clause-rows_in_order
unfolding least all_below step repeat sends turns round send_events turns_events back_events rounds_events
returns-clause-rows_in_order _ = refl
