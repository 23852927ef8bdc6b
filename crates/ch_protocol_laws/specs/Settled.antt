-- What holds of the last pass's rows once the run has stopped.
use Rattle.std.specs.Prelude.{◌≡◌, ◌<◌, true, false}
use Rattle.ch_lists.specs.Members.{In, Each}
use Rattle.ch_protocol.specs.Packets.{Name}
use Rattle.ch_protocol.specs.Machine.{Config, State, size, workers, passes}
use Rattle.ch_protocol.specs.Invariant.{IsSettled, IsWhole}

-- the name of a row of the last pass
pub record IsLast (c : Config) (x : Name) : Type 0 where
  pub pass : x.pass ≡ passes c
  pub worker : x.worker < workers c
  pub number : x.number < size c x.worker

-- each row of the last pass was received, or was pruned in the last epoch in which it was processed
abbrev pub AreAllSettled : Config → State → Type 0
AreAllSettled c s = (x : Name) → IsLast c x → IsSettled s.received s.processed x

-- in a kind of two passes a row that wasn't received was pruned in epoch 0, after all rows of pass 1 were processed in it
abbrev pub AreMissingPruned : Config → State → Type 0
AreMissingPruned c s = (x : Name) → IsLast c x → (In x s.received → ⊥)
    → In (record { name = x; epoch = 0; pruned = true }) s.processed × IsWhole c 1 s.processed

-- in a kind of two passes each row that was kept in the last pass was received
abbrev pub AreKeptReceived : Config → State → Type 0
AreKeptReceived c s = Each (λ y. y.name.pass ≡ passes c → y.pruned ≡ false → In y.name s.received) s.processed
