use Rattle.ch_pred.specs.Sound.{IsCarried}
use Rattle.ch_words.proofs.Tied.{answer_read}
use Rattle.ch_words.proofs.words_tell_cells.Goals as goal

pub returns : goal.returns
returns _ b d reading names rows inner wss inner_words z zi = answer_read b d reading (IsCarried b) rows inner wss inner_words z zi names
