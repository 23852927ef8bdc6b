use Rattle.std.proofs.Common.{ℕ, ◌<◌, ◌+◌, List, not, slice_get, ap, sym, ◌∙◌, arith}
use Rattle.ch_ends.specs.Bits.{has_bit}
use Rattle.ch_ends.proofs.Windows.{passing, passing-from, passing-take, passing-skip, get-later}
use Rattle.ch_ends.proofs.worker.Worker.again.Goals as goal
use Rattle.ch_ends.proofs.worker.Worker.again.Goals.{then-not-get+else-left-eq0, else-not-get}

pub loop-number-init : goal.loop-number-init
loop-number-init c =
    let x = c.self.inside in
    ap (λ (l : List ℕ). slice_get l c.args.k) (passing-from (λ k. not (has_bit x.acked k)) x.least x.next (c.self.invariant.low) (λ k lt. ap not (c.self.invariant.below k lt)))

pub loop-number-preserved : goal.loop-number-preserved
loop-number-preserved c =
    let x = c.self.inside in
    let n = c.loop-number.number in
    let p = λ (k : ℕ). not (has_bit x.acked k) in
    c.loop-number.invariant ∙ elim c.if-not-get.branch [
      | then-not-get+else-left-eq0 w ↦
          let some : 0 < c.loop-number.left = omega (arith, w.if-left-eq0.false) in
          ap (λ (l : List ℕ). slice_get l c.loop-number.left) (passing-take p n x.next c.loop-number-test.true (ap not (sym c.get.ensures ∙ w.if-not-get.true)))
          ∙ (get-later n (passing p (n + 1) x.next) c.loop-number.left some ∙ ap (slice_get (passing p (n + 1) x.next)) (sym w.left-is))
      | else-not-get w ↦
          ap (λ (l : List ℕ). slice_get l c.loop-number.left) (passing-skip p n x.next c.loop-number-test.true (ap not (sym c.get.ensures ∙ w.if-not-get.false)))
          ∙ ap (slice_get (passing p (n + 1) x.next)) (sym w.left-is)
    ]
