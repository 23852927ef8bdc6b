-- Which states of the protocol an engine stands for.
use Rattle.std.specs.Prelude.{◌≡◌, ℕ, ◌+◌, ◌<◌, ◌≤◌, ◌^◌, Bool, false, if◌then◌else◌, List, length, map, slice_get, remove, Option, Some, None, vec_capacity}
use Rattle.ch_cells.specs.declared.outcome.Counts.{Counts as RustCounts}
use Rattle.ch_pred.specs.declared.bound.Bound.{Bound}
use Rattle.ch_pred.specs.Sound.{IsSound as IsSoundQuery}
use Rattle.ch_fold_lines.specs.Rows.{RowFits}
use Rattle.ch_finish.specs.Fold.{StandsFor}
use Rattle.ch_protocol.specs.Packets.{Packet, Ack}
use Rattle.ch_protocol.specs.Machine.{Config, State, Counts, size, workers, passes, row_at, fate_at, meet, receive, learn, stopped}
use Rattle.ch_protocol.specs.Sender.{is_current}
use Rattle.ch_protocol.specs.Receiver.{has}
use Rattle.ch_protocol.specs.Received.{rows_arrived}
use Rattle.ch_protocol.specs.Invariant.{IsSound}
use Rattle.ch_protocol.specs.Fates.{switch_fate}
use Rattle.ch_protocol.specs.declared.fate.NoteFate.{NoteFate}
use Rattle.ch_protocol.specs.declared.fate.NoteFate.TheVariants.{Nothing, New, Old, Taken, Ignored}
use Rattle.ch_schedule.specs.declared.step.Step.{Step}
use Rattle.ch_schedule.specs.declared.step.Step.TheVariants as step
use Rattle.ch_survival.specs.Given.{Given, IsPlanned}
use Rattle.ch_ends.specs.Packets.{packet_bytes, ack_bytes}
use Rattle.ch_stands.specs.Parties.{WorkersStand, SwitchStands, MasterStands, first_undone}
use Rattle.ch_engine.specs.declared.engine.Engine.{Engine}

-- the workers' rows are rows of the query, which the master can fold
pub record AreFolded (texts : List (List ℕ)) (b : Bound) (c : Config) : Type 0 where
  pub sound : IsSoundQuery b
  pub fits : (pass w k : ℕ) → w < workers c → k < size c w → let r = row_at c (record { pass = pass; worker = w; number = k }) in RowFits texts b r.side r.words

abbrev pub counts_of : RustCounts → Counts
counts_of n = record { rows = n.rows; sends = n.sends; pruned = n.pruned; forwarded = n.forwarded; steps = n.steps }

-- The engine stands for the state of a run with this beginning: bullet by bullet as the parties do, each link holds the
-- spellings of the state's packets, and the fold stands for the rows that arrived in the last pass
pub record Stands (g : Given) (x : Engine) (s : State) : Type 0 where
  pub parts : g.config.parts ≡ x.parts
  pub kind : x.two_passes ≡ g.config.two_passes
  pub folded : AreFolded x.ranks.now x.bound.now g.config
  pub pass : x.pass ≡ s.pass
  pub workers_are : WorkersStand g.config x.workers.items s.pass s.epoch s.next s.acked
  pub first : x.first_open ≡ first_undone g.config s.acked
  pub switch : SwitchStands g x.switch s.epoch s.expected s.processed
  pub master : MasterStands g.config x.master s.received
  pub up : x.up.packets ≡ map (packet_bytes g.config) s.up
  pub down : x.down.packets ≡ map (packet_bytes g.config) s.down
  pub back : x.back.packets ≡ map ack_bytes s.back
  pub fold : StandsFor x.ranks.now x.bound.now x.fold (rows_arrived g.config (passes g.config) s.received)
  pub counts : counts_of x.counts ≡ s.counts
  pub room : 16 ≤ vec_capacity x.arriving

-- there is a state that can be reached and that the engine stands for
pub record IsStanding (x : Engine) : Type 0 where
  pub given : Given
  pub state : State
  pub planned : IsPlanned given
  pub sound : IsSound given.config state
  pub stands : Stands given x state

-- for each state that the old engine stands for, the new one stands for what f makes of it
abbrev pub Follows : Engine → Engine → (Config → State → State) → Type 0
Follows old new f = (g : Given) (s : State) → IsPlanned g → IsSound g.config s → Stands g old s → Stands g new (f g.config s)

-- for each state that the engine stands for, the note is what f says of it
abbrev pub IsNoted : Engine → NoteFate → (Config → State → NoteFate) → Type 0
IsNoted old note f = (g : Given) (s : State) → IsPlanned g → IsSound g.config s → Stands g old s → note ≡ f g.config s

-- the same, where the run has not stopped
abbrev pub IsNotedOpen : Engine → NoteFate → (Config → State → NoteFate) → Type 0
IsNotedOpen old note f = (g : Given) (s : State) → IsPlanned g → IsSound g.config s → Stands g old s → stopped g.config s ≡ false → note ≡ f g.config s

-- the query and its dictionary stay
abbrev pub IsSameQuery : Engine → Engine → Type 0
IsSameQuery old new = (new.bound ≡ old.bound) × (new.ranks ≡ old.ranks)

-- an epoch is left, where the step is a restart
abbrev pub HasEpoch : Step → ℕ → Type 0
HasEpoch (step.Send worker) epoch = Unit {0}
HasEpoch (step.Resend worker place) epoch = Unit {0}
HasEpoch (step.Up at how) epoch = Unit {0}
HasEpoch (step.Down at how) epoch = Unit {0}
HasEpoch (step.Back at how) epoch = Unit {0}
HasEpoch (step.Inject link bytes) epoch = Unit {0}
HasEpoch step.Restart epoch = epoch + 1 < 2 ^ 32

-- the worker has this number, as a row or as its Fin
abbrev pub HasNumber : Engine → ℕ → ℕ → Type 0
HasNumber x worker number = (g : Given) (s : State) → IsPlanned g → IsSound g.config s → Stands g x s → number ≤ size g.config worker

-- the packet meets the switch, and stays on the link or is removed
abbrev pub meet_there : Config → State → ℕ → Bool → Option Packet → State
meet_there c s i stays None = s
meet_there c s i stays (Some m) = meet c (record s { up = if stays then s.up else remove s.up i }) m.name

abbrev pub note_there : Config → State → Option Packet → NoteFate
note_there c s None = Nothing
note_there c s (Some m) = switch_fate (fate_at c s m.name)

-- the master takes the packet, and it stays on the link or is removed
abbrev pub receive_there : Config → State → ℕ → Bool → Option Packet → State
receive_there c s i stays None = s
receive_there c s i stays (Some m) = receive (record s { down = if stays then s.down else remove s.down i }) m

abbrev pub note_received : State → Option Packet → NoteFate
note_received s None = Nothing
note_received s (Some m) = if has s.received m.name then Old else New

-- a worker learns of the acknowledgement, and it stays on the link or is removed
abbrev pub learn_there : Config → State → ℕ → Bool → Option Ack → State
learn_there c s i stays None = s
learn_there c s i stays (Some a) = learn (record s { back = if stays then s.back else remove s.back i }) a

abbrev pub note_learned : State → Option Ack → NoteFate
note_learned s None = Nothing
note_learned s (Some a) = if is_current s.pass s.epoch a.name.pass a.epoch then Taken else Ignored
