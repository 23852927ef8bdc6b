use Rattle.std.proofs.Common.{◌≡◌, ℕ, ◌<◌, suc, ◌+◌, sym, ◌∙◌, ap, arith, subst, List, length, Bool, ◌||◌}
use Rattle.std.specs.Prelude.{slice_index, slice_index_or}
use Rattle.ch_ends.specs.Worker.{Progress, acked_of}
use Rattle.ch_protocol.specs.Sender.{least_open}
use Rattle.ch_protocol.specs.Machine.{size, workers}
use Rattle.ch_stands.specs.Team.{HasRestarted}
use Rattle.ch_stands.proofs.Restarting.{workers_restarted, switch_restarted, told_is}
use Rattle.ch_engine.proofs.Restarting.{restarted_stands}
use Rattle.ch_engine.proofs.engine.Engine.restart.Goals as goal

pub returns-clause-ok : goal.returns-clause-ok
returns-clause-ok c g s p i h =
    let x = c.args.self.now in
    let t = c.in_ok-told.ensures in
    let e : c.epoch-epoch.result + 1 ≡ suc s.epoch = omega (arith, c.epoch-epoch.ensures, h.switch.epoch_is) in
    let r = c.restart.ensures in
    let f = t.each in
    restarted_stands g x s c.restart_all.new.workers c.restart.new.self c.as_slice.result.now i h
    (workers_restarted g.config x.workers.items c.restart_all.new.workers.items s.pass s.epoch (suc s.epoch) s.next s.acked h.workers_are t.many
    (λ w d lt. subst (λ (n : ℕ). HasRestarted n (slice_index_or x.workers.items w d) (slice_index_or c.restart_all.new.workers.items w d)) e (f w d lt)))
    (switch_restarted g s x.switch c.restart.new.self x.pass c.as_slice.result.now i h.switch h.pass c.requires.epoch r.registers r.epoch (r.keeps ∙ ap (λ (b : Bool). x.switch.keeps || b) h.kind) r.expected r.same
    (subst (λ (l : List ℕ). (w : ℕ) → w < workers g.config → slice_index l w ≡ least_open (size g.config w) (s.acked w)) (sym c.as_slice.ensures.value) (told_is g.config x.workers.items s.pass s.epoch s.next s.acked c.in_ok-told.told.items h.workers_are t.least)))
