use Rattle.std.proofs.Common.{◌≡◌, ◌+◌, drop}
use Rattle.ch_pred.specs.Sound.{place_in}
use Rattle.ch_word_cells.proofs.kinds.place_in.Given as goal

-- the columns so far are others
abbrev pub invariant-loop-col : goal.invariant-loop-col
invariant-loop-col l = record {
  counted : l.place ≡ l.col-index;
  others : place_in l.carried l.at ≡ l.place + place_in (drop l.col-index l.carried) l.at;
}
