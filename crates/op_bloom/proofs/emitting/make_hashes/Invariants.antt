use Rattle.std.proofs.Common.{◌≡◌, ◌+◌, ◌*◌, ◌-◌, List, ◌++◌}
use Rattle.op_moves.specs.Built.{stages_after}
use Rattle.op_moves.specs.Moves.{Move}
use Rattle.op_bloom.specs.Program.{bad_after, bad_word, sweep}
use Rattle.op_bloom.proofs.emitting.make_hashes.Given as goal

-- the hashes that are left come next
abbrev pub invariant-loop-hash : goal.invariant-loop-hash
invariant-loop-hash l =
    let d = l.sizes in
    let left = d.hashes - l.hash in
    (l.base ≡ d.width + 5 + 10 * l.hash) × (bad_after left l.base l.bad ≡ bad_word d)
    × ((rest : List Move) → stages_after l.builder (sweep d left l.hash l.base l.bad ++ rest) ≡ stages_after l.fn.builder (sweep d d.hashes 0 (d.width + 5) (d.width + 1) ++ rest))
