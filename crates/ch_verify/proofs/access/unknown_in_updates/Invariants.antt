use Rattle.std.proofs.Common.{◌≡◌, drop}
use Rattle.ch_ir.specs.Rules.{first_unknown, update_operands}
use Rattle.ch_verify.specs.Fits.{AllConstFit}
use Rattle.ch_verify.specs.Known.{known_of}
use Rattle.ch_verify.proofs.access.unknown_in_updates.Given as goal

abbrev pub invariant-loop-update : goal.invariant-loop-update
invariant-loop-update l = record {
  word : first_unknown (known_of l.known) (update_operands (drop l.update-index l.updates)) ≡ first_unknown (known_of l.known) (update_operands l.updates);
  fits : AllConstFit (update_operands (drop l.update-index l.updates)) → AllConstFit (update_operands l.updates);
}
