-- Sizes that a profile and a query can have.
use Rattle.std.specs.Prelude.{◌≤◌, ◌<◌, ◌^◌}
use Rattle.op_topn.specs.declared.sizes.Sizes.{Sizes}

pub record IsFine (s : Sizes) : Type 0 where
  pub past : 2 ≤ s.value
  pub wide : s.value < s.width
  pub narrow : s.width < 2 ^ 31
  pub few_steps : s.steps ≤ 40
  pub small_gap : s.gap ≤ 2 ^ 20
  pub some_rows : 1 ≤ s.limit
  pub few_rows : s.limit < 2 ^ 32
