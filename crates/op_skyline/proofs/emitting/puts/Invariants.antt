use Rattle.std.proofs.Common.{◌≡◌, ◌+◌, ◌-◌, ◌++◌}
use Rattle.op_skyline.specs.Emitted.{puts_from}
use Rattle.op_skyline.proofs.emitting.puts.Given as goal

abbrev pub invariant-loop-done : goal.invariant-loop-done
invariant-loop-done l = l.puts ++ puts_from (l.words - l.done) (l.from + l.done) ≡ puts_from l.words l.from
