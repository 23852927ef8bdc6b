use Rattle.std.proofs.Common.{◌≡◌, ◌++◌, take}
use Rattle.ch_bind.proofs.printed.push_header.Given as goal

abbrev pub invariant-loop-at : goal.invariant-loop-at
invariant-loop-at l = l.names ≡ l.initial.names ++ take l.at l.table.header
