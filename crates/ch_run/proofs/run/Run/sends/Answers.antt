use Rattle.std.proofs.Common.{◌≡◌, ◌+◌, ◌-◌, ◌<◌, suc, [], ◌∷◌, length, refl, ap, ◌∙◌, arith}
use Rattle.ch_protocol.specs.Machine.{size}
use Rattle.ch_protocol.specs.Machine.Event.{Send}
use Rattle.ch_engine.specs.declared.engine.Engine.{Engine}
use Rattle.std.specs.Prelude.{slice_index_or}
use Rattle.ch_protocol.specs.DrainEvents.{send_events}
use Rattle.ch_run.proofs.Leading.{way_init, way_more, way_end, way_fails, makes_same, sends_more, sends_over, sends_stop, on_err}
use Rattle.ch_run.proofs.Team.{may_is, may_not, most_is, most_small, part_there}
use Rattle.ch_run.proofs.run.Run.sends.Goals as goal

pub rows-most-requires : goal.rows-most-requires
rows-most-requires c = part_there c.self.inside.engine c.args.self.now c.args.worker c.self.invariant c.self.view_is c.requires

pub overflow_add-most : goal.overflow_add-most
overflow_add-most c = record { fits = most_small c.self.inside.engine c.args.self.now c.args.worker c.rows-most.result c.self.invariant c.self.view_is c.requires c.rows-most.ensures }

pub loop-done-init : goal.loop-done-init
loop-done-init c = record {
  team = refl;
  on = way_init (c.args.self.now, c.args.notes.now) (λ d t. send_events d c.args.worker ((c.rows-most.result + 1) - 0) t) (λ d s. send_events d c.args.worker (c.rows-most.result + 1) s) (λ d s. let e : (c.rows-most.result + 1) - 0 ≡ (c.rows-most.result + 1) = omega arith in ap (λ k. send_events d c.args.worker k s) e);
}

pub loop-done-preserved : goal.loop-done-preserved
loop-done-preserved c =
    let y = c.loop-done.self in
    let lt : c.args.worker < length y.workers.items = omega (arith, c.requires, c.loop-done.invariant.team) in
    let p = c.index.result.now in
    let is = c.index.ensures ∙ ap (λ (x : Engine). slice_index_or x.workers.items c.args.worker p) c.self-in-loop-done.view_is in
    let left : (c.rows-most.result + 1) - c.loop-done.done ≡ suc ((c.rows-most.result + 1) - (c.loop-done.done + 1)) = omega (arith, c.loop-done-test.true) in
    record {
      team = c.in_ok-make-in-Some.ensures.team ∙ c.loop-done.invariant.team;
      on = way_more (c.args.self.now, c.args.notes.now) (y, c.loop-done.notes) (c.make.new.self, c.make.new.notes) (λ d t. Send c.args.worker ∷ []) (λ d t. send_events d c.args.worker ((c.rows-most.result + 1) - c.loop-done.done) t) (λ d t. send_events d c.args.worker ((c.rows-most.result + 1) - (c.loop-done.done + 1)) t) (λ d s. send_events d c.args.worker (c.rows-most.result + 1) s)
          c.loop-done.invariant.on c.in_ok-make-in-Some.ensures.ok (λ q t r. sends_more q.given.config c.args.worker _ _ t left (may_is q y t c.args.worker _ p r lt is c.in-Some.ensures));
    }

pub returns-in_err-make-in-Some-clause-err : goal.returns-in_err-make-in-Some-clause-err
returns-in_err-make-in-Some-clause-err c = on_err c.from_residual.result (way_fails (c.args.self.now, c.args.notes.now) (c.loop-done.self, c.loop-done.notes) (c.make.new.self, c.make.new.notes) (λ d t. send_events d c.args.worker ((c.rows-most.result + 1) - c.loop-done.done) t) (λ d s. send_events d c.args.worker (c.rows-most.result + 1) s) c.loop-done.invariant.on c.in_err-make-in-Some.ensures.err)

pub returns-in_err-make-in-Some-clause-team : goal.returns-in_err-make-in-Some-clause-team
returns-in_err-make-in-Some-clause-team c = c.in_err-make-in-Some.ensures.team ∙ c.loop-done.invariant.team

pub returns-in-None-clause-ok : goal.returns-in-None-clause-ok
returns-in-None-clause-ok c =
    let y = c.loop-done.self in
    let lt : c.args.worker < length y.workers.items = omega (arith, c.requires, c.loop-done.invariant.team) in
    let p = c.index.result.now in
    let is = c.index.ensures ∙ ap (λ (x : Engine). slice_index_or x.workers.items c.args.worker p) c.self-in-loop-done.view_is in
    makes_same (c.args.self.now, c.args.notes.now) (y, c.loop-done.notes) (λ d s. send_events d c.args.worker (c.rows-most.result + 1) s) (λ d s. send_events d c.args.worker (suc (size d c.args.worker)) s)
    (way_end (c.args.self.now, c.args.notes.now) (y, c.loop-done.notes) (λ d t. send_events d c.args.worker ((c.rows-most.result + 1) - c.loop-done.done) t) (λ d s. send_events d c.args.worker (c.rows-most.result + 1) s) c.loop-done.invariant.on (λ q t r. sends_stop q.given.config c.args.worker _ t (may_not q y t c.args.worker p r lt is c.in-None.ensures)))
    (λ q s r. ap (λ k. send_events q.given.config c.args.worker k s) (most_is q c.self.inside.engine c.args.self.now s c.args.worker c.rows-most.result c.self.view_is r c.rows-most.ensures))

pub returns-clause-ok : goal.returns-clause-ok
returns-clause-ok c =
    let none : (c.rows-most.result + 1) - c.loop-done.done ≡ 0 = omega (arith, c.loop-done-test.false) in
    makes_same (c.args.self.now, c.args.notes.now) (c.loop-done.self, c.loop-done.notes) (λ d s. send_events d c.args.worker (c.rows-most.result + 1) s) (λ d s. send_events d c.args.worker (suc (size d c.args.worker)) s)
    (way_end (c.args.self.now, c.args.notes.now) (c.loop-done.self, c.loop-done.notes) (λ d t. send_events d c.args.worker ((c.rows-most.result + 1) - c.loop-done.done) t) (λ d s. send_events d c.args.worker (c.rows-most.result + 1) s) c.loop-done.invariant.on (λ q t r. sends_over q.given.config c.args.worker _ t none))
    (λ q s r. ap (λ k. send_events q.given.config c.args.worker k s) (most_is q c.self.inside.engine c.args.self.now s c.args.worker c.rows-most.result c.self.view_is r c.rows-most.ensures))
