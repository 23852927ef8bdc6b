use Rattle.std.proofs.Common.{◌≡◌, ◌++◌, length, List, ℕ}
use Rattle.std.specs.Option.{option_map}
use Rattle.ch_schedule.specs.Field.{bytes_of}
use Rattle.ch_schedule.proofs.field.read_bytes.Given as goal

abbrev pub invariant-loop-rest : goal.invariant-loop-rest
invariant-loop-rest l = option_map (λ (more : List ℕ). l.bytes.items ++ more) (bytes_of l.rest) ≡ bytes_of l.digits

abbrev pub decreases-loop-rest : goal.decreases-loop-rest
decreases-loop-rest l = length l.rest
