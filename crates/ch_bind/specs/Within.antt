-- A column of the first table is one of its columns.
use Rattle.std.specs.Prelude.{◌≡◌, ◌<◌, ℕ}
use Rattle.ch_bind.specs.declared.scope.Found.{Found}
use Rattle.ch_bind.specs.declared.scope.Found.TheVariants as found

abbrev pub IsWithin : ℕ → Found → Type 0
IsWithin n found.Nowhere = Unit {0}
IsWithin n found.Twice = Unit {0}
IsWithin n (found.At col) = col.side ≡ 0 → col.at < n
