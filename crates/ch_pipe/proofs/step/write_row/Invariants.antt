use Rattle.std.proofs.Common.{◌≡◌, ◌<◌, ℕ, drop, get_or, pos}
use Rattle.ch_verify.specs.Fits.{AllFits}
use Rattle.ch_pipe.proofs.step.write_row.Given as goal

abbrev pub invariant-loop-at : goal.invariant-loop-at
invariant-loop-at l = record {
  each : (v : ℕ) → v < l.at → get_or l.words v (pos 0) ≡ get_or l.row v (pos 0);
  fits : AllFits (drop l.at l.row) → AllFits l.row;
}
