use Rattle.std.proofs.Common.{◌≡◌, ◌+◌, drop}
use Rattle.ch_fold_groups.specs.Lines.{key_place}
use Rattle.ch_fold_groups.proofs.places.key_place.Given as goal

-- the columns so far are others
abbrev pub invariant-loop-key : goal.invariant-loop-key
invariant-loop-key l = record {
  counted : l.place ≡ l.key-index;
  others : key_place l.keys l.col ≡ l.place + key_place (drop l.key-index l.keys) l.col;
}
