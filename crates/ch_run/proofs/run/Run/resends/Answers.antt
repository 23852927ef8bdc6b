use Rattle.std.proofs.Common.{◌≡◌, ◌+◌, ◌-◌, suc, [], ◌∷◌, map, ap, ◌∙◌, arith}
use Rattle.ch_protocol.specs.Machine.Event.{Resend}
use Rattle.ch_protocol.specs.Sets.{numbers_from}
use Rattle.ch_protocol.specs.Drain.{resend_events}
use Rattle.ch_run.proofs.Leading.{way_init, way_more, way_end, way_fails, makes_same, resends_more, resends_none, on_err}
use Rattle.ch_run.proofs.Team.{count_is, team_made, team_lead}
use Rattle.ch_run.proofs.run.Run.resends.Goals as goal

pub loop-place-init : goal.loop-place-init
loop-place-init c = way_init (c.args.self.now, c.args.notes.now) (λ d t. map (λ place. Resend c.args.worker place) (numbers_from 0 (c.unacknowledged-count.result - 0))) (λ d t. map (λ place. Resend c.args.worker place) (numbers_from 0 c.unacknowledged-count.result)) (λ d s. let e : c.unacknowledged-count.result - 0 ≡ c.unacknowledged-count.result = omega arith in ap (λ k. map (λ place. Resend c.args.worker place) (numbers_from 0 k)) e)

pub loop-place-preserved : goal.loop-place-preserved
loop-place-preserved c =
    let left : c.unacknowledged-count.result - c.loop-place.place ≡ suc (c.unacknowledged-count.result - (c.loop-place.place + 1)) = omega (arith, c.loop-place-test.true) in
    way_more (c.args.self.now, c.args.notes.now) (c.loop-place.self, c.loop-place.notes) (c.make.new.self, c.make.new.notes) (λ d t. Resend c.args.worker c.loop-place.place ∷ []) (λ d t. map (λ place. Resend c.args.worker place) (numbers_from c.loop-place.place (c.unacknowledged-count.result - c.loop-place.place))) (λ d t. map (λ place. Resend c.args.worker place) (numbers_from (c.loop-place.place + 1) (c.unacknowledged-count.result - (c.loop-place.place + 1)))) (λ d t. map (λ place. Resend c.args.worker place) (numbers_from 0 c.unacknowledged-count.result))
    c.loop-place.invariant c.in_ok-make.ensures.ok (λ q t r. resends_more c.args.worker c.loop-place.place _ _ left)

pub returns-in_err-make-clause-err : goal.returns-in_err-make-clause-err
returns-in_err-make-clause-err c = on_err c.from_residual.result (way_fails (c.args.self.now, c.args.notes.now) (c.loop-place.self, c.loop-place.notes) (c.make.new.self, c.make.new.notes) (λ d t. map (λ place. Resend c.args.worker place) (numbers_from c.loop-place.place (c.unacknowledged-count.result - c.loop-place.place))) (λ d t. map (λ place. Resend c.args.worker place) (numbers_from 0 c.unacknowledged-count.result)) c.loop-place.invariant c.in_err-make.ensures.err)

pub returns-in_err-make-clause-team : goal.returns-in_err-make-clause-team
returns-in_err-make-clause-team c = team_lead c.self.inside.engine c.args.self.now c.make.new.self c.self.invariant c.self.view_is (way_fails (c.args.self.now, c.args.notes.now) (c.loop-place.self, c.loop-place.notes) (c.make.new.self, c.make.new.notes) (λ d t. map (λ place. Resend c.args.worker place) (numbers_from c.loop-place.place (c.unacknowledged-count.result - c.loop-place.place))) (λ d t. map (λ place. Resend c.args.worker place) (numbers_from 0 c.unacknowledged-count.result)) c.loop-place.invariant c.in_err-make.ensures.err)

pub returns-clause-ok : goal.returns-clause-ok
returns-clause-ok c =
    let none : c.unacknowledged-count.result - c.loop-place.place ≡ 0 = omega (arith, c.loop-place-test.false) in
    makes_same (c.args.self.now, c.args.notes.now) (c.loop-place.self, c.loop-place.notes) (λ d t. map (λ place. Resend c.args.worker place) (numbers_from 0 c.unacknowledged-count.result)) (λ d s. resend_events s c.args.worker)
    (way_end (c.args.self.now, c.args.notes.now) (c.loop-place.self, c.loop-place.notes) (λ d t. map (λ place. Resend c.args.worker place) (numbers_from c.loop-place.place (c.unacknowledged-count.result - c.loop-place.place))) (λ d t. map (λ place. Resend c.args.worker place) (numbers_from 0 c.unacknowledged-count.result)) c.loop-place.invariant (λ q t r. resends_none c.args.worker c.loop-place.place _ none))
    (λ q s r. let k = c.unacknowledged-count.ensures ∙ count_is q c.self.inside.engine c.args.self.now s c.args.worker c.index.result.now c.self.view_is r c.requires c.index.ensures in ap (λ k. map (λ place. Resend c.args.worker place) (numbers_from 0 k)) k)

pub returns-clause-team : goal.returns-clause-team
returns-clause-team c =
    let none : c.unacknowledged-count.result - c.loop-place.place ≡ 0 = omega (arith, c.loop-place-test.false) in
    team_made c.self.inside.engine (c.args.self.now, c.args.notes.now) (c.loop-place.self, c.loop-place.notes) (λ d t. map (λ place. Resend c.args.worker place) (numbers_from 0 c.unacknowledged-count.result)) c.self.invariant c.self.view_is
    (way_end (c.args.self.now, c.args.notes.now) (c.loop-place.self, c.loop-place.notes) (λ d t. map (λ place. Resend c.args.worker place) (numbers_from c.loop-place.place (c.unacknowledged-count.result - c.loop-place.place))) (λ d t. map (λ place. Resend c.args.worker place) (numbers_from 0 c.unacknowledged-count.result)) c.loop-place.invariant (λ q t r. resends_none c.args.worker c.loop-place.place _ none))
