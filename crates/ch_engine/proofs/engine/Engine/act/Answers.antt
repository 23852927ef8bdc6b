use Rattle.std.proofs.Common.{◌≡◌, sym, subst}
use Rattle.std.specs.Prelude.{OnOk}
use Rattle.ch_protocol.specs.Machine.{effect}
use Rattle.ch_schedule.specs.declared.step.Step.{Step}
use Rattle.ch_schedule.specs.Event.{event_of}
use Rattle.ch_engine.specs.Stands.{Follows}
use Rattle.ch_engine.proofs.engine.Engine.act.Goals as goal

pub returns-in-Send-clause-ok : goal.returns-in-Send-clause-ok
returns-in-Send-clause-ok c = subst (λ (k : Step). OnOk c.send.result (Follows c.args.self.now c.send.new.self (λ c' s. effect c' s (event_of k)))) (sym c.in-Send.is) c.send.ensures.ok

pub returns-in-Up-clause-ok : goal.returns-in-Up-clause-ok
returns-in-Up-clause-ok c = subst (λ (k : Step). OnOk c.up.result (Follows c.args.self.now c.up.new.self (λ c' s. effect c' s (event_of k)))) (sym c.in-Up.is) c.up.ensures.ok
