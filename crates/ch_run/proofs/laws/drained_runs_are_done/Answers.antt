use Rattle.ch_protocol_laws.proofs.OutcomeLaws.{drained_done}
use Rattle.ch_run.specs.Asked.{config_of}
use Rattle.ch_run.proofs.laws.drained_runs_are_done.Goals as goal

pub returns : goal.returns
returns c texts b tables k window events = drained_done (config_of texts b tables k window) events
