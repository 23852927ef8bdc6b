-- A worker, as contracts see it.
use Rattle.std.specs.Prelude.{◌≡◌, ℕ, ◌+◌, ◌<◌, ◌≤◌, ◌^◌, Bool, true, false, List, length}
use Rattle.ch_ends.specs.Bits.{has_bit}

-- its number of rows and its window, and how far it has come: its pass and epoch, the number that it sends next, and a bit
-- for each of its numbers, which is set where the number is acknowledged
pub record Progress : Type 0 where
  pub rows : ℕ
  pub window : ℕ
  pub pass : ℕ
  pub epoch : ℕ
  pub next : ℕ
  pub bits : List Bool

-- the acknowledged numbers
abbrev pub acked_of : Progress → ℕ → Bool
acked_of w = has_bit w.bits

-- a worker of so many rows with this window is in this pass and epoch, and sends this number next, and these numbers are
-- acknowledged to it
pub record IsAt (w : Progress) (rows window pass epoch next : ℕ) (acked : ℕ → Bool) : Type 0 where
  pub rows_is : w.rows ≡ rows
  pub window_is : w.window ≡ window
  pub pass_is : w.pass ≡ pass
  pub epoch_is : w.epoch ≡ epoch
  pub next_is : w.next ≡ next
  pub acked_is : (k : ℕ) → acked_of w k ≡ acked k

-- what holds of the fields: least is the least number that isn't acknowledged
pub record IsTidy (rows window next least : ℕ) (bits : List Bool) : Type 0 where
  pub small : rows + 1 < 2 ^ 32
  pub some : 1 ≤ window
  pub whole : length bits ≡ rows + 1
  pub below : (k : ℕ) → k < least → has_bit bits k ≡ true
  pub here : has_bit bits least ≡ false
  pub beyond : (k : ℕ) → next ≤ k → has_bit bits k ≡ false
  pub low : least ≤ next
  pub room : next ≤ least + window
  pub high : next ≤ rows + 1
  pub ends : next ≡ rows + 1 → rows ≤ least
