use Rattle.std.proofs.Common.{◌∙◌, sym}
use Rattle.ch_protocol.specs.Outcome.{outcome}
use Rattle.cheetah_pack_run.proofs.Said.{done_said, not_open}
use Rattle.cheetah_pack_run.proofs.running.say_done.Goals as goal

pub unreachable-requires : goal.unreachable-requires
unreachable-requires c =
    let h = c.requires in
    not_open h.begun h.state _ h.stop (sym c.in-Open.is ∙ c.in_ok-outcome.ensures h.begun h.state h.is)

pub returns : goal.returns
returns c q s r =
    let e = sym c.in-Done.is ∙ c.in_ok-outcome.ensures q s r in
    rw c.in_ok-err-in-Done.ensures (done_said q s (outcome q.given.config s) c.in_ok-out-in-Done.out _ e (c.in_ok-out-in-Done.ensures q s r))
