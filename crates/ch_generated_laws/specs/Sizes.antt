-- Files that a command may read.
use Rattle.std.specs.Prelude.{ℕ, ◌≤◌, List, length, sum_by}
use Rattle.std.specs.List.{AllByRecursion}

abbrev pub size_of : List ℕ × List ℕ → ℕ
size_of file = length file.1

-- none is longer than a file may be, nor are all of them together longer than the files of a run
pub record AreSmall (files : List (List ℕ × List ℕ)) : Type 0 where
  pub each : AllByRecursion (λ (file : List ℕ × List ℕ). size_of file ≤ 67108864) files
  pub together : sum_by size_of files ≤ 536870912
