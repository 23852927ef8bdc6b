-- What holds in every state that a run reaches, fact by fact.
use Rattle.std.specs.Prelude.{◌≡◌, ◌↔◌, ◌⊎◌, ℕ, suc, ◌==◌, ◌<◌, ◌≤◌, min, true, ◌&&◌, if◌then◌else◌, List, [], ◌∷◌, ◌++◌, length}
use Rattle.ch_lists.specs.Members.{In, Each, AreDifferent}
use Rattle.ch_protocol.specs.Sets.{all_below, numbers_from}
use Rattle.ch_protocol.specs.Packets.Origin.{Switch, Master}
use Rattle.ch_protocol.specs.Machine.{Entry, Config, State, size, workers, verdict}
use Rattle.ch_protocol.specs.Invariant.{IsKnown, IsSettled, IsFirstProcessed, IsWhole}

-- Each packet on a link is of the current or an earlier pass, by `begun`. One of the current pass has a sent number, by
-- `sent`, and one of an earlier pass a number up to n, by `number`. (A Row has the words and the bit of its row, since a
-- packet names its row and carries neither.)
pub record AreLinksKnown (c : Config) (s : State) : Type 0 where
  pub up : Each (λ m. IsKnown c s.pass s.next m.name) s.up
  pub down : Each (λ m. IsKnown c s.pass s.next m.name) s.down
  pub back : Each (λ a. IsKnown c s.pass s.next a.name) s.back

-- no epoch is above the current one, on a link or among the processed rows
pub record IsNoEpochAbove (s : State) : Type 0 where
  pub up : Each (λ m. m.epoch ≤ s.epoch) s.up
  pub down : Each (λ m. m.epoch ≤ s.epoch) s.down
  pub back : Each (λ a. a.epoch ≤ s.epoch) s.back
  pub processed : Each (λ y. y.epoch ≤ s.epoch) s.processed

-- the numbers of a flow that were processed in an epoch, the oldest first
abbrev pub numbers_of : List Entry → ℕ → ℕ → ℕ → List ℕ
numbers_of [] pass worker epoch = []
numbers_of (y ∷ before) pass worker epoch =
    if (y.name.pass == pass) && ((y.name.worker == worker) && (y.epoch == epoch))
    then numbers_of before pass worker epoch ++ y.name.number ∷ []
    else numbers_of before pass worker epoch

-- each number is one more than the number before it
abbrev pub AreConsecutive : List ℕ → Type 0
AreConsecutive numbers = (first : ℕ) × (numbers ≡ numbers_from first (length numbers))

-- the last number is the one below n, or there is none
abbrev pub EndBelow : List ℕ → ℕ → Type 0
EndBelow numbers n = (numbers ≡ []) ⊎ ((front : List ℕ) × (last : ℕ) × (numbers ≡ front ++ last ∷ []) × (suc last ≡ n))

-- For each flow and each epoch, the processed rows are consecutive numbers in ascending order, once each
abbrev pub AreProcessedInOrder : State → Type 0
AreProcessedInOrder s = (pass worker epoch : ℕ) → AreConsecutive (numbers_of s.processed pass worker epoch)

-- for a flow of the current pass and epoch they end with the last row below the expected number, or there are none
abbrev pub EndBelowExpected : Config → State → Type 0
EndBelowExpected c s = (w : ℕ) → w < workers c → EndBelow (numbers_of s.processed s.pass w s.epoch) (min (s.expected s.pass w) (size c w))

-- while the epoch is 0, the processed rows of each flow are exactly those with a number below the expected one
abbrev pub AreExactlyBelowExpected : Config → State → Type 0
AreExactlyBelowExpected c s = s.epoch ≡ 0 → (pass worker k : ℕ) → IsFirstProcessed pass worker k s.processed ↔ ((1 ≤ pass) × (worker < workers c) × (k < s.expected pass worker) × (k < size c worker))

-- Among the processed rows the epochs never fall, and no row of pass 1 stands after a row of pass 2
abbrev pub IsHistoryOrdered : State → Type 0
IsHistoryOrdered s = (later before : List Entry) (x : Entry) → s.processed ≡ later ++ x ∷ before → Each (λ y. (y.epoch ≤ x.epoch) × (y.name.pass ≤ x.name.pass)) before

-- each row's verdict is the one that the switch gives after the rows before it
abbrev pub AreVerdictsGiven : Config → State → Type 0
AreVerdictsGiven c s = (later before : List Entry) (x : Entry) → s.processed ≡ later ++ x ∷ before → x.pruned ≡ verdict c x.epoch before x.name

-- where a row of pass 2 was pruned, every row of pass 1 was processed in epoch 0
abbrev pub IsFirstPassWhole : Config → State → Type 0
IsFirstPassWhole c s = Each (λ x. x.name.pass ≡ 2 → x.pruned ≡ true → IsWhole c 1 s.processed) s.processed

-- the switch expects n + 1 of each flow of an earlier pass, and 0 of each flow of a later one
pub record AreOtherPassesExpected (c : Config) (s : State) : Type 0 where
  pub earlier : (pass worker : ℕ) → 1 ≤ pass → pass < s.pass → worker < workers c → s.expected pass worker ≡ suc (size c worker)
  pub later : (pass worker : ℕ) → s.pass < pass → s.expected pass worker ≡ 0

-- in the current pass the expected number is at most the worker's next one, which is at most n + 1
abbrev pub IsExpectedSent : Config → State → Type 0
IsExpectedSent c s = (w : ℕ) → w < workers c → (s.expected s.pass w ≤ s.next w) × (s.next w ≤ suc (size c w))

-- each name is received at most once, and one of the current pass is sent
pub record AreReceivedOnce (s : State) : Type 0 where
  pub once : AreDifferent s.received
  pub sent : Each (λ x. x.pass ≡ s.pass → x.number < s.next x.worker) s.received

-- a packet of the current pass and epoch on the link down has a number below the expected one
abbrev pub IsDownBelowExpected : State → Type 0
IsDownBelowExpected s = Each (λ m. m.name.pass ≡ s.pass → m.epoch ≡ s.epoch → m.name.number < s.expected s.pass m.name.worker) s.down

-- An acknowledgement of the switch is of a row that was pruned in the acknowledgement's epoch, and one of the master of a
-- name that it received. One of the current pass and epoch has a number below the expected one
pub record AreAcksTrue (s : State) : Type 0 where
  pub switch : Each (λ a. a.origin ≡ Switch → In (record { name = a.name; epoch = a.epoch; pruned = true }) s.processed) s.back
  pub master : Each (λ a. a.origin ≡ Master → In a.name s.received) s.back
  pub below : Each (λ a. a.name.pass ≡ s.pass → a.epoch ≡ s.epoch → a.name.number < s.expected s.pass a.name.worker) s.back

-- Each acknowledged number is sent and below the expected one, and it was received, or was pruned in the last epoch in
-- which it was processed
abbrev pub AreAckedSettled : Config → State → Type 0
AreAckedSettled c s = (w k : ℕ) → w < workers c → s.acked w k ≡ true
    → (k < s.next w) × (k < s.expected s.pass w) × IsSettled s.received s.processed (record { pass = s.pass; worker = w; number = k })

-- in a kind of two passes no row is pruned in an epoch above 0
abbrev pub IsPrunedInFirstEpoch : Config → State → Type 0
IsPrunedInFirstEpoch c s = c.two_passes ≡ true → Each (λ x. x.pruned ≡ true → x.epoch ≡ 0) s.processed

-- the Fin of the current pass is sent only where each of the worker's rows is acknowledged
abbrev pub IsFinLast : Config → State → Type 0
IsFinLast c s = (w : ℕ) → w < workers c → size c w < s.next w → all_below (s.acked w) (size c w) ≡ true
