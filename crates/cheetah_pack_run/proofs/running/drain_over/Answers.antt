use Rattle.std.proofs.Common.{◌∙◌, ap}
use Rattle.ch_protocol.specs.Drain.{drain}
use Rattle.cheetah_pack_run.proofs.running.drain_over.Goals as goal

pub say_done-requires : goal.say_done-requires
say_done-requires c =
    let r = c.requires in
    record { begun = r.begun; state = drain r.begun.given.config r.state; is = c.in_ok-drain.ensures.ok r.begun r.state r.is; stop = r.stop }

pub returns-clause-left : goal.returns-clause-left
returns-clause-left c = λ q s run.
    record {
      run = c.drain.new.self;
      is = c.in_ok-drain.ensures.ok q s run;
      program = ap (λ i. i.program) c.into_pipe-pipe.ensures ∙ ap (λ w. w.program) c.into_switch.ensures;
      registers = ap (λ i. i.registers) c.into_pipe-pipe.ensures ∙ ap (λ w. w.registers) c.into_switch.ensures;
    }

pub returns-clause-said : goal.returns-clause-said
returns-clause-said c = λ q s run. c.in_ok-said.ensures q _ (c.in_ok-drain.ensures.ok q s run)
