use Rattle.ch_fold_lines.proofs.WordFits.{sent_fit}
use Rattle.ch_fold_lines.proofs.laws.sent_rows_fit.Goals as goal

pub returns : goal.returns
returns c = λ texts b tables gate s. sent_fit texts b gate tables s
