use Rattle.std.proofs.Common.{◌≡◌, sym, ◌∙◌, arith}
use Rattle.ch_engine.proofs.Restarting.{stopped_is}
use Rattle.ch_engine.proofs.engine.Engine.stopped.Goals as goal

pub returns-then-self-last_pass : goal.returns-then-self-last_pass
returns-then-self-last_pass c g s h = stopped_is g c.args.self.now s c.last_pass.result c.len.result h c.last_pass.ensures (omega (arith, c.len.ensures, c.args.self.now.workers.ok.0)) c.if-self-last_pass.true
