use Rattle.std.proofs.Common.{◌≡◌, take, pos}
use Rattle.ch_pred.specs.Meaning.{both, line}
use Rattle.ch_words.specs.Rows.{words_seen}
use Rattle.ch_fold_pairs.proofs.pairs.pair_line.Given as goal

abbrev pub invariant-loop-item : goal.invariant-loop-item
invariant-loop-item l = l.line.items ≡ line (take l.item-index l.item-items) (pos 0) (both (words_seen l.query l.first) (words_seen l.query l.second))
