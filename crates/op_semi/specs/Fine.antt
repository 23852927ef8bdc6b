-- What the sizes of a semi-join's program meet.
use Rattle.std.specs.Prelude.{◌≤◌, ◌<◌, ◌^◌}
use Rattle.op_bloom.specs.Fine as bloom
use Rattle.op_semi.specs.declared.sizes.Sizes.{Sizes}

pub record IsFine (d : Sizes) : Type 0 where
  pub bloom : bloom.IsFine d.bloom
  pub some : 0 < d.rows
  pub small : d.rows < 2 ^ 31
  pub few : d.cols ≤ 16
