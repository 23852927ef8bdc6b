use Rattle.std.proofs.Common.{ℕ, List, ◌≤◌, length}
use Rattle.std.specs.Prelude.{All}
use Rattle.ch_command.specs.Reading.{most_bytes}
use Rattle.cheetah_rows.proofs.asking.texts_of.Given as goal

abbrev pub invariant-loop-file : goal.invariant-loop-file
invariant-loop-file l = All (λ (bytes : List ℕ). length bytes ≤ most_bytes) l.read
