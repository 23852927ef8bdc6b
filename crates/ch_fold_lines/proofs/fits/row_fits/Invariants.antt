use Rattle.std.proofs.Common.{take}
use Rattle.ch_lists.specs.Members.{Each}
use Rattle.ch_words.specs.Packets.{kinds_read}
use Rattle.ch_words.specs.Rows.{words_seen}
use Rattle.ch_word_cells.specs.Fits.{FitsWord}
use Rattle.ch_fold_lines.proofs.fits.row_fits.Given as goal

abbrev pub invariant-loop-at : goal.invariant-loop-at
invariant-loop-at l = Each (λ at. FitsWord l.ranks (kinds_read l.query l.query.shape l.side at) (words_seen l.query l.words l.side at)) (take l.at-index l.carried)
