use Rattle.std.proofs.Common.{◌≡◌, ◌+◌, ◌-◌, ℕ, suc, List, ◌++◌, sym, ◌∙◌, ap, arith}
use Rattle.op_moves.specs.Built.{stages_after}
use Rattle.op_moves.specs.Moves.{Move}
use Rattle.op_bloom.specs.Program.{bad_after, sweep, tests_of_hash}
use Rattle.op_bloom.proofs.emitting.make_hashes.Goals as goal

pub loop-hash-preserved : goal.loop-hash-preserved
loop-hash-preserved c =
    let d = c.args.sizes in
    let l = c.loop-hash in
    let inside = c.loop-hash-test.true in
    let base = l.invariant.0 in
    let left : ℕ = d.hashes - (l.hash + 1) in
    let e : d.hashes - l.hash ≡ suc left = omega arith in (
      omega arith,
      ap (λ (n : ℕ). bad_after n l.base l.bad) (sym e) ∙ l.invariant.1,
      λ rest.
          let more : List Move = sweep d left (l.hash + 1) (l.base + 10) (l.base + 9) ++ rest in
          c.in_ok-make_tests.ensures more ∙ (c.in_ok-make_places.ensures (tests_of_hash l.base l.bad ++ more)
          ∙ (ap (λ (n : ℕ). stages_after l.builder (sweep d n l.hash l.base l.bad ++ rest)) (sym e) ∙ l.invariant.2 rest)),
    )
