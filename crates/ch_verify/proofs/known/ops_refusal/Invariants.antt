use Rattle.std.proofs.Common.{◌≡◌, ◌≤◌, drop, length}
use Rattle.ch_ir.specs.Measure.{ops_end}
use Rattle.ch_ir.specs.Rules.{ops_refusal, after_ops}
use Rattle.ch_verify.specs.Fits.{AllOpsFit}
use Rattle.ch_verify.specs.Known.{known_of}
use Rattle.ch_verify.proofs.known.ops_refusal.Given as goal

abbrev pub invariant-loop-op : goal.invariant-loop-op
invariant-loop-op l = record {
  room : ops_end (drop l.op-index l.ops) ≤ length l.known;
  rule : ops_refusal l.stage (known_of l.known) (drop l.op-index l.ops) ≡ ops_refusal l.stage (known_of l.fn.known) l.ops;
  known : after_ops (drop l.op-index l.ops) (known_of l.known) ≡ after_ops l.ops (known_of l.fn.known);
  fits : AllOpsFit (drop l.op-index l.ops) → AllOpsFit l.ops;
}
