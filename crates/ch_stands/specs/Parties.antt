-- Which states of the protocol the workers, the switch and the master stand for.
use Rattle.std.specs.Prelude.{◌≡◌, ℕ, ◌+◌, ◌<◌, ◌^◌, ◌==◌, Bool, false, if◌then◌else◌, List, length, map, slice_index_or}
use Rattle.ch_ir.specs.Machine.{Registers, cleared}
use Rattle.ch_cover.specs.Rows.{Row}
use Rattle.ch_ends.specs.Worker.{Progress, IsAt}
use Rattle.ch_ends.specs.Master.{Receipts, flows_of, bits_of, Stands}
use Rattle.ch_protocol.specs.Packets.{Name}
use Rattle.ch_protocol.specs.Machine.{Config, Entry, size, workers, seen, entries_of, keeps_all}
use Rattle.ch_protocol.specs.Sets.{least}
use Rattle.ch_protocol.specs.Sender.{is_done}
use Rattle.ch_verdicts.specs.Handed.{IsPass, registers_by}
use Rattle.ch_switch.specs.Switching.{Switching, Expects}
use Rattle.ch_survival.specs.Given.{Given}

-- each worker is where the state has it
pub record WorkersStand (c : Config) (ws : List Progress) (pass epoch : ℕ) (next : ℕ → ℕ) (acked : ℕ → ℕ → Bool) : Type 0 where
  pub many : length ws ≡ workers c
  pub each : (w : ℕ) (d : Progress) → w < workers c → IsAt (slice_index_or ws w d) (size c w) c.window pass epoch (next w) (acked w)

-- the first worker whose Fin isn't acknowledged, or the number of workers
abbrev pub first_undone : Config → (ℕ → ℕ → Bool) → ℕ
first_undone c acked = least (λ w. is_done (size c w) (acked w)) (workers c)

-- the registers at the begin of an epoch
abbrev pub begun_in : Given → ℕ → Registers
begun_in g epoch = if epoch == 0 then g.begun else cleared g.program.arrays

-- the rows that were processed in an epoch, as the policy sees them
abbrev pub history : Given → ℕ → List Entry → List (ℕ × Row)
history g epoch processed = map (λ y. seen g.config y.name) (entries_of epoch processed)

-- The switch has the program, expects what the state expects, and its registers are those after the rows that were
-- processed in the epoch. Once it keeps each row, in a kind of two passes after a restart, nothing is said of them
pub record SwitchStands (g : Given) (st : Switching) (epoch : ℕ) (expected : ℕ → ℕ → ℕ) (processed : List Entry) : Type 0 where
  pub program_is : st.program ≡ g.program
  pub slot_is : st.slot ≡ g.slot
  pub workers_is : st.workers ≡ workers g.config
  pub epoch_is : st.epoch ≡ epoch
  pub small : epoch < 2 ^ 32
  pub keeps_is : st.keeps ≡ keeps_all g.config epoch
  pub expects : Expects st expected
  pub registers_is : st.keeps ≡ false → st.registers ≡ registers_by g.program g.slot (begun_in g epoch) (history g epoch processed)

-- the master has a bit for each name that is there, and it is set where the name was received
pub record MasterStands (c : Config) (r : Receipts) (received : List Name) : Type 0 where
  pub many : (pass : ℕ) → IsPass pass → length (flows_of r pass) ≡ workers c
  pub numbers : (pass w : ℕ) → IsPass pass → w < workers c → length (bits_of r pass w) ≡ size c w + 1
  pub stands : Stands r received
