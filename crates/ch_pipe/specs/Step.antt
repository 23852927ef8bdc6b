-- A checked program with memory for it.
use Rattle.std.specs.Prelude.{◌<◌, ◌≤◌, ℕ}
use Rattle.ch_ir.specs.declared.program.Program.{Program}
use Rattle.ch_ir.specs.Machine.{Registers}
use Rattle.ch_verify.specs.Checked.{IsChecked}
use Rattle.ch_verify.specs.Fits.{RegistersFit}
use Rattle.ch_pipe.specs.Stages.{StagesRoom}

-- what a checked program and its memory are
pub record Ready (p : Program) (n room : ℕ) (registers : Registers) : Type 0 where
  pub checked : IsChecked p
  pub rooms : StagesRoom n room p.arrays p.stages
  pub verdict : p.verdict < n
  pub width : p.width ≤ n
  pub fits : RegistersFit p.arrays registers
