use Rattle.std.proofs.Common.{List, take}
use Rattle.ch_cover.specs.Rows.{Row}
use Rattle.ch_finish.specs.Fold.{StandsFor}
use Rattle.ch_finish.specs.Received.{AreRowsOf}
use Rattle.ch_finish.proofs.arriving.folded.Given as goal

abbrev pub invariant-loop-row : goal.invariant-loop-row
invariant-loop-row l = (given : List Row) → AreRowsOf (take l.row-index l.row-items) given → StandsFor l.ranks l.query l.fold given
