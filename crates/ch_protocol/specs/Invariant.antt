-- What holds in each state that a run reaches, one record for each topic. Each event keeps all of it together.
use Rattle.std.specs.Prelude.{◌≡◌, ℕ, suc, ◌<◌, ◌≤◌, ◌==◌, min, Bool, true, ◌⊎◌, if◌then◌else◌, ◌&&◌, List, [], ◌∷◌, Option, Some, None}
use Rattle.ch_lists.specs.Members.{In, Each, AreDifferent}
use Rattle.ch_protocol.specs.Packets.{Name, Packet, Ack, same_name}
use Rattle.ch_protocol.specs.Packets.Origin.{Switch, Master}
use Rattle.ch_protocol.specs.Machine.{Entry, Config, State, size, workers, passes, verdict}

-- A name of a row or a Fin that is there, of the current or an earlier pass. In the current pass it is sent. (In an
-- earlier one it has a number up to n, as each name has.)
pub record IsKnown (c : Config) (pass : ℕ) (next : ℕ → ℕ) (x : Name) : Type 0 where
  pub worker : x.worker < workers c
  pub first : 1 ≤ x.pass
  pub begun : x.pass ≤ pass
  pub number : x.number ≤ size c x.worker
  pub sent : x.pass ≡ pass → x.number < next x.worker

-- the workers' numbers and the numbers that the switch expects
pub record AreNumbered (c : Config) (pass : ℕ) (next : ℕ → ℕ) (acked : ℕ → ℕ → Bool) (expected : ℕ → ℕ → ℕ) : Type 0 where
  -- in the current pass the expected number is at most the next one, which is at most n + 1
  pub within : (w : ℕ) → w < workers c → next w ≤ suc (size c w)
  pub sent : (w : ℕ) → w < workers c → expected pass w ≤ next w
  -- each flow of an earlier pass is processed whole, and none of a later one
  pub earlier : (q w : ℕ) → 1 ≤ q → q < pass → w < workers c → expected q w ≡ suc (size c w)
  pub later : (q w : ℕ) → pass < q → expected q w ≡ 0
  -- each acknowledged number is below the expected one, and so it is sent
  pub below : (w k : ℕ) → w < workers c → acked w k ≡ true → k < expected pass w
  -- the Fin is sent only where each row is acknowledged
  pub ends : (w k : ℕ) → w < workers c → next w ≡ suc (size c w) → k < size c w → acked w k ≡ true

-- whether a name was pruned in the last epoch in which it was processed, if it was processed
abbrev pub mark_of : List Entry → Name → Option Bool
mark_of [] x = None
mark_of (y ∷ before) x = if same_name y.name x then Some y.pruned else mark_of before x

-- it was received, or was pruned in the last epoch in which it was processed
abbrev pub IsSettled : List Name → List Entry → Name → Type 0
IsSettled received processed x = In x received ⊎ (mark_of processed x ≡ Some true)

-- a packet on the link up
pub record IsOnUp (c : Config) (pass epoch : ℕ) (next : ℕ → ℕ) (m : Packet) : Type 0 where
  pub known : IsKnown c pass next m.name
  pub past : m.epoch ≤ epoch

-- a packet on the link down: in the current pass and epoch its number is below the expected one
pub record IsOnDown (c : Config) (pass epoch : ℕ) (next : ℕ → ℕ) (expected : ℕ → ℕ → ℕ) (m : Packet) : Type 0 where
  pub known : IsKnown c pass next m.name
  pub past : m.epoch ≤ epoch
  pub below : m.name.pass ≡ pass → m.epoch ≡ epoch → m.name.number < expected pass m.name.worker

-- An acknowledgement: the switch's is of a row that it pruned in the acknowledgement's epoch, the master's of a name that
-- it received. In the current pass and epoch its number is below the expected one, and the name is settled
pub record IsOnBack (c : Config) (pass epoch : ℕ) (next : ℕ → ℕ) (expected : ℕ → ℕ → ℕ) (received : List Name) (processed : List Entry) (a : Ack) : Type 0 where
  pub known : IsKnown c pass next a.name
  pub past : a.epoch ≤ epoch
  pub below : a.name.pass ≡ pass → a.epoch ≡ epoch → a.name.number < expected pass a.name.worker
  pub master : a.origin ≡ Master → In a.name received
  pub switch : a.origin ≡ Switch → In (record { name = a.name; epoch = a.epoch; pruned = true }) processed
  pub settled : a.name.pass ≡ pass → a.epoch ≡ epoch → IsSettled received processed a.name

-- the number of the newest entry of a flow in an epoch
abbrev pub newest_number : List Entry → ℕ → ℕ → ℕ → Option ℕ
newest_number [] pass worker epoch = None
newest_number (y ∷ before) pass worker epoch =
    if (y.name.pass == pass) && ((y.name.worker == worker) && (y.epoch == epoch)) then Some y.name.number else newest_number before pass worker epoch

-- there is none, or its successor is n
abbrev pub IsNext : Option ℕ → ℕ → Type 0
IsNext None n = Unit {0}
IsNext (Some k) n = suc k ≡ n

-- the row was processed in epoch 0
abbrev pub IsFirstProcessed : ℕ → ℕ → ℕ → List Entry → Type 0
IsFirstProcessed pass worker number entries =
    (pruned : Bool) × In (record { name = record { pass = pass; worker = worker; number = number }; epoch = 0; pruned = pruned }) entries

-- every row of the pass was processed in epoch 0
abbrev pub IsWhole : Config → ℕ → List Entry → Type 0
IsWhole c pass entries = (w k : ℕ) → w < workers c → k < size c w → IsFirstProcessed pass w k entries

-- what an entry is after the entries before it
pub record MayFollow (c : Config) (before : List Entry) (x : Entry) : Type 0 where
  -- it is of a row, with the verdict that the switch gives after them
  pub row : x.name.number < size c x.name.worker
  pub verdict : x.pruned ≡ verdict c x.epoch before x.name
  -- the epochs never fall, and no row of pass 1 stands after one of pass 2
  pub epochs : Each (λ y. y.epoch ≤ x.epoch) before
  pub passes : Each (λ y. y.name.pass ≤ x.name.pass) before
  -- its number is above those of its flow and epoch, and next after the newest of them
  pub ascends : Each (λ y. y.name.pass ≡ x.name.pass → y.name.worker ≡ x.name.worker → y.epoch ≡ x.epoch → y.name.number < x.name.number) before
  pub consecutive : IsNext (newest_number before x.name.pass x.name.worker x.epoch) x.name.number
  -- where it is of pass 2 and pruned, all of pass 1 was processed in epoch 0
  pub after_whole : x.name.pass ≡ 2 → x.pruned ≡ true → IsWhole c 1 before
  -- in a kind of two passes nothing is pruned above epoch 0
  pub first_epoch : c.two_passes ≡ true → x.pruned ≡ true → x.epoch ≡ 0

-- each entry after those before it
abbrev pub AreLawful : Config → List Entry → Type 0
AreLawful c [] = Unit {0}
AreLawful c (x ∷ before) = MayFollow c before x × AreLawful c before

-- an entry in the present state
pub record IsProcessed (c : Config) (pass epoch : ℕ) (next : ℕ → ℕ) (expected : ℕ → ℕ → ℕ) (y : Entry) : Type 0 where
  pub known : IsKnown c pass next y.name
  pub past : y.epoch ≤ epoch
  pub below : y.name.pass ≡ pass → y.epoch ≡ epoch → y.name.number < expected pass y.name.worker

-- the whole invariant
pub record IsSound (c : Config) (s : State) : Type 0 where
  pub in_range : (1 ≤ s.pass) × (s.pass ≤ passes c)
  pub numbered : AreNumbered c s.pass s.next s.acked s.expected
  -- each acknowledged number is settled
  pub settled : (w k : ℕ) → w < workers c → s.acked w k ≡ true → IsSettled s.received s.processed (record { pass = s.pass; worker = w; number = k })
  pub up : Each (IsOnUp c s.pass s.epoch s.next) s.up
  pub down : Each (IsOnDown c s.pass s.epoch s.next s.expected) s.down
  pub back : Each (IsOnBack c s.pass s.epoch s.next s.expected s.received s.processed) s.back
  pub lawful : AreLawful c s.processed
  pub entries : Each (IsProcessed c s.pass s.epoch s.next s.expected) s.processed
  -- the entries of a flow of the current pass and epoch end with the last row below the expected number
  pub latest : (w : ℕ) → w < workers c → IsNext (newest_number s.processed s.pass w s.epoch) (min (s.expected s.pass w) (size c w))
  -- while no restart came, each row below the expected number was processed
  pub complete : s.epoch ≡ 0 → (q w k : ℕ) → k < s.expected q w → k < size c w → IsFirstProcessed q w k s.processed
  -- each received name is there once, and in the current pass it is sent
  pub taken : Each (IsKnown c s.pass s.next) s.received
  pub once : AreDifferent s.received
