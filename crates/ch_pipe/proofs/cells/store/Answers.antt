use Rattle.std.proofs.Common.{arith}
use Rattle.ch_pipe.proofs.Cuts.{written}
use Rattle.ch_pipe.proofs.cells.store.Goals as goal

pub returns : goal.returns
returns c = written c.args.cells.now c.copy_from_slice.new.self c.args.words.now c.args.to _ c.copy_from_slice.ensures.after (omega arith) c.requires
