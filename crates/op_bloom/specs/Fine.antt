-- What the sizes and places of the Bloom filters meet.
use Rattle.std.specs.Prelude.{◌≤◌, ◌<◌, ◌^◌}
use Rattle.op_bloom.specs.declared.sizes.Sizes.{Sizes}

pub record IsFine (d : Sizes) : Type 0 where
  pub wide : 3 ≤ d.width
  pub narrow : d.width ≤ 20
  pub few : d.hashes ≤ 8
  pub left : (2 ≤ d.left) × (d.left < d.width)
  pub right : (2 ≤ d.right) × (d.right < d.width)
  pub some : 0 < d.cells
  pub small : d.cells < 2 ^ 31
