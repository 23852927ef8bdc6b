use Rattle.std.proofs.Common.{◌≡◌, ◌-◌, ℕ, ℤ, List, pos, arith, ap, length, replicate, take, drop, ◌∙◌}
use Rattle.ch_pipe.proofs.Accessed.{row_padded}
use Rattle.ch_pipe.proofs.Cuts.{length_part}
use Rattle.ch_pipe.proofs.step.write_row.Goals as goal

pub returns-clause-given : goal.returns-clause-given
returns-clause-given c =
    let row : List ℤ = c.args.row.now in
    let words : List ℤ = c.loop-at.words in
    let width : ℕ = c.args.width in
    let same = c.loop-at.auto.words in
    let all = c.loop-at-test.false in
    let many = c.requires.many in
    let room = c.requires.room in
    let zeros : length (take (width - length row) (drop (length row) words)) ≡ width - length row = length_part words (length row) (width - length row) (omega arith) in
    λ w lt. row_padded row words c.fill.new.self width w (λ v below. c.loop-at.invariant.each v (omega arith)) many (omega arith)
    (c.fill.ensures.after (λ y e. e) ∙ ap (λ (m : ℕ). replicate m (pos 0)) zeros) lt
