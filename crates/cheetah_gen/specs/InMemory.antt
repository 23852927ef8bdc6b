-- Shelves and sinks in memory, of which no call is to fail.
use Rattle.std.specs.Prelude.{[]}
use Rattle.ch_outside.specs.FaultPlan.{Plan}

-- no call was made yet, and none is to fail
abbrev pub untouched : Plan
untouched = record { fail = []; calls = 0; faults = 0 }
