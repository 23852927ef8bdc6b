-- What a run comes to, as its caller sees it.
use Rattle.std.specs.Prelude.{map}
use Rattle.ch_cells.specs.declared.outcome.Counts.{Counts as RustCounts}
use Rattle.ch_cells.specs.declared.outcome.OpenFlow.{OpenFlow as RustFlow}
use Rattle.ch_protocol.specs.Machine.{Counts}
use Rattle.ch_protocol.specs.Outcome.{OpenFlow, Outcome}
use Rattle.ch_protocol.specs.Outcome.Outcome.{Done, Open}
use Rattle.ch_run.specs.declared.outcome.Outcome.{Outcome as RustOutcome}
use Rattle.ch_run.specs.declared.outcome.Outcome.TheVariants as seen

abbrev pub counts_seen : Counts → RustCounts
counts_seen n = record { rows = n.rows; sends = n.sends; pruned = n.pruned; forwarded = n.forwarded; steps = n.steps }

abbrev pub flow_seen : OpenFlow → RustFlow
flow_seen f = record { pass = f.pass; worker = f.worker; acknowledged = f.acknowledged; of = f.of; unacknowledged = f.unacknowledged }

abbrev pub outcome_seen : Outcome → RustOutcome
outcome_seen (Done n) = seen.Done (counts_seen n)
outcome_seen (Open flows) = seen.Open (map flow_seen flows)
