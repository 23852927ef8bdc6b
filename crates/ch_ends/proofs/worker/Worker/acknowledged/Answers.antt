use Rattle.std.proofs.Common.{◌≡◌, ℕ, ◌<◌, ◌-◌, suc, List, length, ap, sym, ◌∙◌, arith, refl}
use Rattle.ch_protocol.specs.Sender.{acknowledged}
use Rattle.ch_ends.specs.Bits.{has_bit}
use Rattle.ch_ends.specs.Worker.{Progress, acked_of}
use Rattle.ch_ends.proofs.Windows.{count_all, passing-take, passing-skip, passing-none}
use Rattle.ch_ends.proofs.worker.Worker.acknowledged.Goals as goal
use Rattle.ch_ends.proofs.worker.Worker.acknowledged.Goals.{then-get, else-get}

pub loop-number-init : goal.loop-number-init
loop-number-init c =
    let x = c.self.inside in
    record {
      small = omega arith;
      counted = count_all (has_bit x.acked) x.least (suc x.rows) (omega (arith, c.self.invariant.low, c.self.invariant.high)) c.self.invariant.below;
    }

pub loop-number-preserved : goal.loop-number-preserved
loop-number-preserved c =
    let x = c.self.inside in
    let n = c.loop-number.number in
    let lt : n < suc x.rows = omega (arith, c.loop-number-test.true, c.self.invariant.high) in
    elim c.if-get.branch [
      | then-get w ↦ record {
        small = omega (arith, w.count-is, c.loop-number.invariant.small);
        counted = omega (arith, w.count-is, c.loop-number.invariant.counted, ap (λ (l : List ℕ). length l) (passing-take (has_bit x.acked) n (suc x.rows) lt (sym c.get.ensures ∙ w.if-get.true)));
      }
      | else-get w ↦ record {
        small = omega (arith, w.count-is, c.loop-number.invariant.small);
        counted = omega (arith, w.count-is, c.loop-number.invariant.counted, ap (λ (l : List ℕ). length l) (passing-skip (has_bit x.acked) n (suc x.rows) lt (sym c.get.ensures ∙ w.if-get.false)));
      }
    ]

pub returns : goal.returns
returns c =
    let x = c.self.inside in
    let n = c.loop-number.number in
    let none = passing-none (has_bit x.acked) n (suc x.rows) (suc x.rows - n) refl (λ k le. c.self.invariant.beyond k (omega (arith, le, c.loop-number-test.false))) in
    let all : c.loop-number.count ≡ acknowledged x.rows (has_bit x.acked) = omega (arith, c.loop-number.invariant.counted, ap (λ (l : List ℕ). length l) none) in
    all ∙ ap (λ (w : Progress). acknowledged w.rows (acked_of w)) c.self.view_is
