-- What a run of a planned query is begun with.
use Rattle.std.specs.Prelude.{◌≡◌, ℕ, ◌+◌, ◌<◌, ◌≤◌, ◌==◌, ◌^◌, List, length, slice_index, Some}
use Rattle.ch_ir.specs.Machine.{cleared}
use Rattle.ch_prune.specs.Sent.{is_sent}
use Rattle.ch_switch.specs.Switching.{Switching, fresh}
use Rattle.ch_verdicts.specs.Agrees.{Agrees}
use Rattle.ch_verdicts.specs.declared.Slot.{Slot}
use Rattle.ch_pred.specs.declared.bound.Bound.{Bound}
use Rattle.ch_plan.specs.Kinds.{kind_policy, kind_program, kind_times}
use Rattle.ch_plan.specs.declared.kind.PlanKind.{PlanKind}
use Rattle.ch_protocol.specs.Machine.{Config}
use Rattle.ch_protocol.specs.Packets.{Part}
use Rattle.ch_parts.specs.Scanned.{parts_of}
use Rattle.ch_stands.specs.Team.{sizes_of}
use Rattle.ch_survival.specs.Asked.{asked_gate}
use Rattle.ch_survival.specs.Given.{given_of}
use Rattle.ch_tables.specs.TableValue.{TableValue}
use Rattle.ch_run.specs.Runs.{Begun}

-- the workers' parts, the window, and the passes and the policy of the plan's kind
abbrev pub config_of : List (List ℕ) → Bound → List TableValue → PlanKind → ℕ → Config
config_of texts b tables k window = record { parts = parts_of texts b tables; window = window; two_passes = kind_times k == 2; prunes = kind_policy k }

-- a plan alone on its switch
abbrev pub begun_of : List (List ℕ) → Bound → List TableValue → PlanKind → ℕ → Begun
begun_of texts b tables k window = record { texts = texts; query = b; given = given_of k (asked_gate texts b) b (config_of texts b tables k window) }

-- there are at most 65,536 workers, and the numbers of each, with its Fin's, are below 2^32
pub record AreFew (parts : List Part) : Type 0 where
  pub many : length parts ≤ 65536
  pub sizes : (w : ℕ) → w < length parts → slice_index (sizes_of parts) w + 1 < 2 ^ 32

-- a plan over a switch as it stands
abbrev pub begun_over : List (List ℕ) → Bound → List TableValue → PlanKind → ℕ → Switching → Begun
begun_over texts b tables k window sw =
    record { texts = texts; query = b; given = record { config = config_of texts b tables k window; program = sw.program; slot = sw.slot; begun = sw.registers; is_row = is_sent (asked_gate texts b) b } }

-- A switch on which a run of the plan may begin. It is new, for so many workers, and belongs to one program of a packed
-- one, whose selector stands behind all words of the plan's rows; and its verdicts, from its present registers and from
-- cleared ones, are the plan's policy
pub record MayBegin (texts : List (List ℕ)) (b : Bound) (k : PlanKind) (workers : ℕ) (sw : Switching) : Type 0 where
  pub is_new : sw ≡ fresh sw.program sw.registers sw.slot workers
  pub slot : Slot
  pub slot_is : sw.slot ≡ Some slot
  pub within : slot.place < sw.program.width
  pub wide : (kind_program k).width ≤ slot.place
  pub begun : Agrees (is_sent (asked_gate texts b) b) sw.program sw.slot sw.registers (kind_policy k)
  pub cleared : Agrees (is_sent (asked_gate texts b) b) sw.program sw.slot (cleared sw.program.arrays) (kind_policy k)
