use Rattle.std.proofs.Common.{◌≡◌, ◌≤◌, drop, length}
use Rattle.ch_ir.specs.Measure.{stages_end}
use Rattle.ch_ir.specs.Rules.{stages_refusal, after_stages}
use Rattle.ch_verify.specs.Fits.{AllStagesFit}
use Rattle.ch_verify.specs.Known.{known_of, used_of}
use Rattle.ch_verify.proofs.stages.stages_refusal.Given as goal

abbrev pub invariant-loop-t : goal.invariant-loop-t
invariant-loop-t l = record {
  number : l.stage ≡ l.t-index;
  room : stages_end l.arrays (drop l.t-index l.stages) ≤ length l.known;
  rule : stages_refusal l.arrays l.stage (used_of l.used) (known_of l.known) (drop l.t-index l.stages) ≡ stages_refusal l.arrays 0 (used_of l.fn.used) (known_of l.fn.known) l.stages;
  known : after_stages l.arrays (drop l.t-index l.stages) (known_of l.known) ≡ after_stages l.arrays l.stages (known_of l.fn.known);
  fits : AllStagesFit (drop l.t-index l.stages) → AllStagesFit l.stages;
}
