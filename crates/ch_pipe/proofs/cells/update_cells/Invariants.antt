use Rattle.std.proofs.Common.{◌≡◌, ◌++◌, drop, take, length}
use Rattle.ch_pipe.specs.Total.{total_updates, UpdatesRoom}
use Rattle.ch_pipe.proofs.cells.update_cells.Given as goal

abbrev pub invariant-loop-at : goal.invariant-loop-at
invariant-loop-at l = record {
  many : length l.cells ≡ length l.updates;
  room : UpdatesRoom (length l.words) (drop l.at l.updates);
  same : take l.at l.cells ++ total_updates l.words (drop l.at l.updates) (drop l.at l.cells) ≡ total_updates l.words l.updates l.fn.cells;
}
