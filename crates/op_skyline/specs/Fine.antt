-- Sizes that a profile and a query can have.
use Rattle.std.specs.Prelude.{◌≡◌, ◌≤◌, ◌<◌, ◌^◌, ◌&&◌, ℕ, Bool, true, nat_le, nat_lt, length}
use Rattle.std.specs.List.{list_all}
use Rattle.op_skyline.specs.declared.sizes.Sizes.{Sizes}

-- a place of the row's bit or of one of its words
abbrev pub is_place : ℕ → ℕ → Bool
is_place width p = nat_le 2 p && nat_lt p width

pub record IsFine (s : Sizes) : Type 0 where
  pub wide : 2 < s.width
  pub narrow : s.width < 2 ^ 31
  pub some : 1 ≤ length s.places
  pub few : length s.places ≤ 4
  pub same : length s.max ≡ length s.places
  pub placed : list_all (is_place s.width) s.places ≡ true
  pub few_points : s.points ≤ 2 ^ 16
