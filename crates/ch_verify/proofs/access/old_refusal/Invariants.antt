use Rattle.std.proofs.Common.{◌≡◌, ◌+◌, ◌-◌}
use Rattle.ch_ir.specs.Rules.{old_refusal, after_old}
use Rattle.ch_verify.specs.Known.{known_of}
use Rattle.ch_verify.proofs.access.old_refusal.Given as goal

abbrev pub invariant-loop-at : goal.invariant-loop-at
invariant-loop-at l = record {
  rule : old_refusal l.stage (l.old + l.at) (l.cells - l.at) (known_of l.known) ≡ old_refusal l.stage l.old l.cells (known_of l.fn.known);
  known : after_old (l.old + l.at) (l.cells - l.at) (known_of l.known) ≡ after_old l.old l.cells (known_of l.fn.known);
}
