use Rattle.ch_pack_runs.proofs.Begins.{may_begin}
use Rattle.ch_pack_runs.proofs.packed_queries_may_begin.Goals as goal

pub returns : goal.returns
returns c plans profile it q p texts b tables workers registers is from = may_begin plans profile it q p texts b tables is registers from workers
