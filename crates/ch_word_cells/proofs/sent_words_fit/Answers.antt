use Rattle.ch_word_cells.proofs.Sent.{row_fits, pair_fits}
use Rattle.ch_word_cells.proofs.sent_words_fit.Goals as goal

pub returns-clause-row : goal.returns-clause-row
returns-clause-row _ = row_fits

pub returns-clause-pair : goal.returns-clause-pair
returns-clause-pair _ = pair_fits
