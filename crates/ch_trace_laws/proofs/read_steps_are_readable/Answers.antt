use Rattle.ch_trace_laws.proofs.Readable.{all_readable}
use Rattle.ch_trace_laws.proofs.read_steps_are_readable.Goals as goal

pub returns : goal.returns
returns c = all_readable
