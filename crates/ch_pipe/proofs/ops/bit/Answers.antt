use Rattle.std.proofs.Common.{◌≡◌, ◌<◌, ℤ, ◌*◌, ◌%◌, ◌^◌, pos, negsuc, ◌≤ℤ◌, ◌<ℤ◌, to_z, of_z, w64, arith, ap, refl, ◌∙◌}
use Rattle.std.proofs.lemmas.Bool.{lt-ltb}
use Rattle.std.proofs.lemmas.Nat.{pow_below}
use Rattle.std.proofs.lemmas.Int.{to_z_pos, ints}
use Rattle.ch_ir.specs.Machine.{bit_of}
use Rattle.ch_pipe.proofs.ops.bit.Goals as goal

bit_is : (a : ℤ) → pos 0 ≤ℤ a → a <ℤ pos 62 → to_z w64 (1 * 2 ^ of_z w64 a % 18446744073709551616) ≡ bit_of a
bit_is (pos n) low high =
    let h : n < 62 = omega (arith, ints) in
    let p = pow_below n 62 h in
    let e : 1 * 2 ^ n % 18446744073709551616 ≡ 2 ^ n = omega (arith, p) in
    ap (to_z w64) e ∙ to_z_pos w64 (2 ^ n) (omega (arith, p)) ∙ rw (lt-ltb n 62 h) refl
bit_is (negsuc n) low high = absurd (omega (arith, ints))

pub returns-then-a-lt62 : goal.returns-then-a-lt62
returns-then-a-lt62 c =
    let low : pos 0 ≤ℤ c.args.a = grind (arith, ints) in
    let high : c.args.a <ℤ pos 62 = grind (arith, ints) in
    bit_is c.args.a low high
