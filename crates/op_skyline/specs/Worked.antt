-- Worked lists of rows, on which policy and program have the same verdicts.
use Rattle.std.specs.Prelude.{◌≡◌, ℕ, ℤ, pos, neg_ℤ, Bool, true, false, List, [], ◌∷◌, map, Some, None}
use Rattle.ch_cover.specs.Rows.{Row}
use Rattle.ch_ir.specs.Machine.{cleared, verdicts}
use Rattle.ch_verdicts.specs.Agrees.{judged}
use Rattle.ch_verdicts.specs.Handed.{handed}
use Rattle.op_skyline.specs.Emitted.{arrays_of, skyline_program}
use Rattle.op_skyline.specs.Policy.{skyline_policy}
use Rattle.op_skyline.specs.declared.sizes.Sizes.{Sizes}

-- a MAX, b MIN
abbrev pub up_and_down : ℕ → Sizes
up_and_down points = record { width = 5; points = points; places = 3 ∷ 4 ∷ []; max = true ∷ false ∷ [] }

abbrev pub row : Bool → ℤ → ℤ → ℕ × Row
row bit a b = (1, record { side = 0; bit = bit; words = a ∷ b ∷ [] })

abbrev pub pair : ℕ → ℕ → ℕ × Row
pair a b = row true (pos a) (pos b)

-- both have these verdicts on the rows in turn
pub record HaveVerdicts (s : Sizes) (rows : List (ℕ × Row)) (pruned : List Bool) : Type 0 where
  pub policy : judged (skyline_policy s) [] rows ≡ pruned
  pub program : verdicts (skyline_program s) (cleared (arrays_of s)) (map (λ x. handed None x.0 x.1) rows) ≡ Some pruned

pub record Verdicts : Type 0 where
  -- a repeat isn't dominated, and (4,2) is, by (5,1)
  pub repeats : HaveVerdicts (up_and_down 3) (pair 5 1 ∷ pair 5 1 ∷ pair 4 2 ∷ pair 3 0 ∷ []) (false ∷ false ∷ true ∷ false ∷ [])
  -- one stored point: that of the greatest score so far
  pub one_point : HaveVerdicts (up_and_down 1) (pair 3 0 ∷ pair 5 1 ∷ pair 2 0 ∷ pair 4 2 ∷ []) (false ∷ false ∷ false ∷ true ∷ [])
  -- zeros of a free entry dominate no row of negative values
  pub negative : HaveVerdicts (up_and_down 2) (row true (neg_ℤ (pos 3)) (pos 2) ∷ row true (neg_ℤ (pos 3)) (pos 3) ∷ row true (neg_ℤ (pos 2)) (pos 5) ∷ []) (false ∷ true ∷ false ∷ [])
  -- rows that don't pass the front are pruned and stored nowhere
  pub shut : HaveVerdicts (up_and_down 2) (row false (pos 9) (pos 0) ∷ pair 5 1 ∷ row false (pos 9) (pos 0) ∷ pair 4 2 ∷ []) (true ∷ false ∷ true ∷ true ∷ [])
