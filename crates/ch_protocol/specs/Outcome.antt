-- What a run comes to: its counts where it stopped, and otherwise the flows that are open.
use Rattle.std.specs.Prelude.{ℕ, suc, Bool, not, if◌then◌else◌, List, map, filter}
use Rattle.ch_protocol.specs.Sets.{numbers_from}
use Rattle.ch_protocol.specs.Sender.{acknowledged, is_done, open_numbers}
use Rattle.ch_protocol.specs.Machine.{Config, State, Counts, Event, size, workers, stopped, run, start}
use Rattle.ch_protocol.specs.Drain.{drain}

-- a worker whose Fin isn't acknowledged in the current pass: how many of its numbers are, of how many, and which of the
-- sent ones aren't, ascending
pub record OpenFlow : Type 0 where
  pub pass : ℕ
  pub worker : ℕ
  pub acknowledged : ℕ
  pub of : ℕ
  pub unacknowledged : List ℕ

abbrev pub open_flow : Config → State → ℕ → OpenFlow
open_flow c s w = record {
  pass = s.pass;
  worker = w;
  acknowledged = acknowledged (size c w) (s.acked w);
  of = suc (size c w);
  unacknowledged = open_numbers (s.next w) (s.acked w);
}

-- the open flows, in the order of the workers
abbrev pub report : Config → State → List OpenFlow
report c s = map (open_flow c s) (filter (λ w. not (is_done (size c w) (s.acked w))) (numbers_from 0 (workers c)))

pub data Outcome : Type 0 where
  Done : Counts → Outcome
  Open : List OpenFlow → Outcome

abbrev pub outcome : Config → State → Outcome
outcome c s = if stopped c s then Done s.counts else Open (report c s)

-- the state after a schedule: its events, and then drain where it ends in it
abbrev pub after_schedule : Config → List Event → Bool → State
after_schedule c events drains = let s = run c events (start c) in if drains then drain c s else s
