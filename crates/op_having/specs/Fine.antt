-- What the sizes and places of Having's program meet.
use Rattle.std.specs.Prelude.{◌≡◌, ℕ, ◌≤◌, ◌<◌, Bool, true, length, Option, Some, None}
use Rattle.std.specs.List.{list_all}
use Rattle.ch_prune.specs.Sent.{is_cell_word}
use Rattle.op_moves.specs.Values.{is_place}
use Rattle.op_having.specs.declared.sizes.Sizes.{Sizes}

abbrev pub is_value_place : ℕ → Option ℕ → Bool
is_value_place width None = true
is_value_place width (Some p) = is_place width p

pub record IsFine (d : Sizes) : Type 0 where
  pub wide : 3 ≤ d.width
  pub narrow : d.width ≤ 20
  pub few : d.hashes ≤ 8
  pub short : length d.keys ≤ 16
  pub keys : list_all (is_place d.width) d.keys ≡ true
  pub value : is_value_place d.width d.value ≡ true
  pub some : 0 < d.cells
  pub above : is_cell_word d.above ≡ true
