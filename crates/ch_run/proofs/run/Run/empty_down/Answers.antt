use Rattle.std.proofs.Common.{◌≡◌, ◌+◌, ◌-◌, suc, [], ◌∷◌, length, replicate, ap, arith}
use Rattle.ch_protocol.specs.Machine.Event.{Down}
use Rattle.ch_protocol.specs.Machine.How.{Take}
use Rattle.ch_engine.specs.declared.engine.Engine.{Engine}
use Rattle.ch_stands.proofs.Lists.{length-map}
use Rattle.ch_ends.specs.Packets.{packet_bytes}
use Rattle.ch_run.proofs.Leading.{way_init, way_more, way_end, way_fails, makes_same, replicate_more, replicate_none, on_err}
use Rattle.ch_run.proofs.run.Run.empty_down.Goals as goal

pub loop-done-init : goal.loop-done-init
loop-done-init c = way_init (c.args.self.now, c.args.notes.now) (λ d t. replicate (c.len-count.result - 0) (Down 0 Take)) (λ d s. replicate c.len-count.result (Down 0 Take)) (λ d s. let e : c.len-count.result - 0 ≡ c.len-count.result = omega arith in ap (λ n. replicate n (Down 0 Take)) e)

pub loop-done-preserved : goal.loop-done-preserved
loop-done-preserved c =
    let left : c.len-count.result - c.loop-done.done ≡ suc (c.len-count.result - (c.loop-done.done + 1)) = omega (arith, c.loop-done-test.true) in
    way_more (c.args.self.now, c.args.notes.now) (c.loop-done.self, c.loop-done.notes) (c.make.new.self, c.make.new.notes) (λ d t. Down 0 Take ∷ []) (λ d t. replicate (c.len-count.result - c.loop-done.done) (Down 0 Take)) (λ d t. replicate (c.len-count.result - (c.loop-done.done + 1)) (Down 0 Take)) (λ d s. replicate c.len-count.result (Down 0 Take))
    c.loop-done.invariant c.in_ok-make.ensures.ok (λ q t r. replicate_more 0 _ _ (Down 0 Take) left)

pub returns-in_err-make-clause-err : goal.returns-in_err-make-clause-err
returns-in_err-make-clause-err c = on_err c.from_residual.result (way_fails (c.args.self.now, c.args.notes.now) (c.loop-done.self, c.loop-done.notes) (c.make.new.self, c.make.new.notes) (λ d t. replicate (c.len-count.result - c.loop-done.done) (Down 0 Take)) (λ d s. replicate c.len-count.result (Down 0 Take)) c.loop-done.invariant c.in_err-make.ensures.err)

pub returns-clause-ok : goal.returns-clause-ok
returns-clause-ok c =
    let none : c.len-count.result - c.loop-done.done ≡ 0 = omega (arith, c.loop-done-test.false) in
    makes_same (c.args.self.now, c.args.notes.now) (c.loop-done.self, c.loop-done.notes) (λ d s. replicate c.len-count.result (Down 0 Take)) (λ d s. replicate (length s.down) (Down 0 Take))
    (way_end (c.args.self.now, c.args.notes.now) (c.loop-done.self, c.loop-done.notes) (λ d t. replicate (c.len-count.result - c.loop-done.done) (Down 0 Take)) (λ d s. replicate c.len-count.result (Down 0 Take)) c.loop-done.invariant (λ q t r. replicate_none _ (Down 0 Take) none))
    (λ q s r. let n : c.len-count.result ≡ length s.down = omega (arith, c.len-count.ensures, ap (λ l. length l) r.stands.down, ap (λ (x : Engine). length x.down.packets) c.self.view_is, length-map (packet_bytes q.given.config) s.down) in ap (λ n. replicate n (Down 0 Take)) n)
