use Rattle.std.proofs.Common.{◌≡◌, drop}
use Rattle.ch_ir.specs.Rules.{first_unknown}
use Rattle.ch_verify.specs.Fits.{AllConstFit}
use Rattle.ch_verify.specs.Known.{known_of}
use Rattle.ch_verify.proofs.access.unknown_among.Given as goal

abbrev pub invariant-loop-a : goal.invariant-loop-a
invariant-loop-a l = record {
  word : first_unknown (known_of l.known) (drop l.a-index l.operands) ≡ first_unknown (known_of l.known) l.operands;
  fits : AllConstFit (drop l.a-index l.operands) → AllConstFit l.operands;
}
