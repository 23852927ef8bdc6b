use Rattle.std.proofs.Common.{◌≡◌, drop, length}
use Rattle.ch_pipe.specs.Flat.{IsLaid, cut}
use Rattle.ch_pipe.specs.Stages.{total_accesses, AccessesCan}
use Rattle.ch_pipe.proofs.stage.run_accesses.Given as goal

abbrev pub invariant-loop-x : goal.invariant-loop-x
invariant-loop-x l = record {
  laid : IsLaid l.arrays l.bases (length l.registers);
  can : AccessesCan (length l.words) (length l.room) l.arrays (drop l.x-index l.accesses) (record { words = l.words; registers = cut l.arrays l.registers });
  same : total_accesses l.arrays (drop l.x-index l.accesses) (record { words = l.words; registers = cut l.arrays l.registers })
      ≡ total_accesses l.arrays l.accesses (record { words = l.fn.words; registers = cut l.arrays l.fn.registers });
}
