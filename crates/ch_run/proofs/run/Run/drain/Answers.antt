use Rattle.std.proofs.lemmas.Result.{on_ok_weaker}
use Rattle.ch_run.proofs.Leading.{drained}
use Rattle.ch_run.proofs.run.Run.drain.Goals as goal

pub returns-clause-ok : goal.returns-clause-ok
returns-clause-ok c = on_ok_weaker c.drain_all.result (λ f q s r. drained c.drain_all.new.self q s (f q s r).0) c.drain_all.ensures.ok
