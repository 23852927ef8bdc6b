use Rattle.std.proofs.Common.{◌≡◌, drop, length}
use Rattle.ch_pipe.specs.Flat.{IsLaid, cut}
use Rattle.ch_pipe.specs.Stages.{total_stages, StagesCan}
use Rattle.ch_pipe.proofs.stage.run_stages.Given as goal

abbrev pub invariant-loop-stage : goal.invariant-loop-stage
invariant-loop-stage l = record {
  laid : IsLaid l.arrays l.bases (length l.registers);
  can : StagesCan (length l.words) (length l.room) l.arrays (drop l.stage-index l.stages) (record { words = l.words; registers = cut l.arrays l.registers });
  same : total_stages l.arrays (drop l.stage-index l.stages) (record { words = l.words; registers = cut l.arrays l.registers })
      ≡ total_stages l.arrays l.stages (record { words = l.fn.words; registers = cut l.arrays l.fn.registers });
}
