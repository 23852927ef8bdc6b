use Rattle.std.proofs.Common.{◌≡◌, ◌+◌, ◌-◌, ℕ, ℤ, List, pos, arith, ap, set, replicate, length, take, drop, ◌∙◌}
use Rattle.std.proofs.lemmas.List.{length-replicate}
use Rattle.ch_pipe.proofs.Cuts.{written, length_part}
use Rattle.ch_pipe.proofs.access.access_off.Goals as goal

pub returns : goal.returns
returns c =
    let words : List ℤ = c.args.words.now in
    let old : ℕ = c.args.x.now.old in
    let cells : ℕ = c.args.cells in
    let k : old + cells - old ≡ cells = omega arith in
    let many : length (take (old + cells - old) (drop old words)) ≡ cells = ap (λ (m : ℕ). length (take m (drop old words))) k ∙ length_part words old cells c.requires.old in
    let zeros = length-replicate cells (pos 0) in
    let room = c.requires.old in
    ap (λ (ws : List ℤ). set ws c.args.x.now.hit (pos 0))
    (written (replicate cells (pos 0)) c.fill.new.self words old _ (c.fill.ensures.after (λ y e. e) ∙ ap (λ (m : ℕ). replicate m (pos 0)) many) (omega arith) (omega arith))
