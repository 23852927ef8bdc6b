-- A checked program with enough memory is ready to step.
use Rattle.std.proofs.Common.{◌≡◌, ℕ, arith}
use Rattle.ch_ir.specs.declared.program.Program.{Program}
use Rattle.ch_ir.specs.Machine.{Registers}
use Rattle.ch_ir.specs.Measure.{words_of}
use Rattle.ch_ir.specs.Rules.{rule_refusal, none_used, inputs, stages_refusal}
use Rattle.ch_verify.proofs.Sound.{none_else}
use Rattle.ch_verify.specs.Checked.{IsChecked}
use Rattle.ch_verify.specs.Fits.{RegistersFit}
use Rattle.ch_pipe.specs.Installed.{widest}
use Rattle.ch_pipe.proofs.Rooms.{stages_room}
use Rattle.ch_pipe.specs.Step.{Ready}

pub ready : (p : Program) (n room : ℕ) (registers : Registers) → IsChecked p → n ≡ words_of p → room ≡ widest p.arrays → RegistersFit p.arrays registers → Ready p n room registers
unfolding rule_refusal
ready p n room registers c e w f =
    let parts = none_else (stages_refusal p.arrays 0 none_used (inputs p.width) p.stages) _ c.unbroken in
    record {
      checked = c;
      rooms = rw w (stages_room n 0 p.arrays none_used (inputs p.width) p.stages (omega arith) parts.0);
      verdict = omega arith;
      width = omega arith;
      fits = f;
    }

pub ready_with : (p : Program) (n room : ℕ) (registers now : Registers) → Ready p n room registers → RegistersFit p.arrays now → Ready p n room now
ready_with p n room registers now r f = record { checked = r.checked; rooms = r.rooms; verdict = r.verdict; width = r.width; fits = f }
