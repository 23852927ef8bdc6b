-- The first so many of some rows of words.
use Rattle.std.specs.Prelude.{ℕ, ℤ, List}
use Rattle.std.proofs.Common.{Vec, Global}
use Rattle.std.specs.declared.cmp.Ordering.{Ordering}
use Rattle.std.specs.Ordering.{int_cmp}
use Rattle.std.specs.Cmp.Lexicographic.{slice_cmp}

pub record Bounded : Type 0 where
  pub limit : ℕ
  pub rows : List (List ℤ)

-- vectors compare as their items do
abbrev pub vector_cmp : Vec ℤ Global → Vec ℤ Global → Ordering
vector_cmp a b = slice_cmp int_cmp a.items b.items
