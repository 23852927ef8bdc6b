use Rattle.ch_protocol_laws.proofs.Arrived.{same_rows, arrived_once, arrived_known, arrived_rows}
use Rattle.ch_protocol_laws.proofs.Reached.{reached_sound}
use Rattle.ch_protocol_laws.proofs.received_in_order.Goals as goal

pub returns-clause-different : goal.returns-clause-different
returns-clause-different _ c s pass r = arrived_once c s (reached_sound c s r) pass

pub returns-clause-rows : goal.returns-clause-rows
returns-clause-rows _ c s pass r = arrived_known c s (reached_sound c s r) pass

pub returns-clause-test : goal.returns-clause-test
returns-clause-test _ c s is_row pass r are = arrived_rows c s (reached_sound c s r) pass is_row are

pub returns-clause-same : goal.returns-clause-same
returns-clause-same _ c s pass = same_rows c pass s.received
