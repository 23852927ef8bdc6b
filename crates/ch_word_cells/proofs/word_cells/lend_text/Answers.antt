use Rattle.std.proofs.Common.{rules, of_z, w32}
use Rattle.ch_word_cells.proofs.Texts.{lent}
use Rattle.ch_word_cells.proofs.word_cells.lend_text.Goals as goal

pub returns : goal.returns
returns c = lent c.args.ranks.now c.args.word (of_z w32 c.args.word) c.unwrap.result.now (search rules) (search rules)
