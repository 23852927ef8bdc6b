-- What the test of a place says.
use Rattle.std.proofs.Common.{◌≡◌, ◌≤◌, ◌<◌, ℕ, true, nat_le, nat_lt}
use Rattle.std.proofs.lemmas.Bool.{and_parts, leb-true, ltb-true}
use Rattle.op_moves.specs.Values.{is_place}

pub place_of : (width p : ℕ) → is_place width p ≡ true → (2 ≤ p) × (p < width)
place_of width p h = let t = and_parts (nat_le 2 p) (nat_lt p width) h in (leb-true 2 p t.0, ltb-true p width t.1)
