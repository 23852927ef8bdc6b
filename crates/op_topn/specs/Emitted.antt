-- The program of ORDER BY with LIMIT, as moves.
use Rattle.std.specs.Prelude.{ℕ, zero, suc, ◌+◌, ◌*◌, ◌^◌, Bool, if◌then◌else◌, List, [], ◌∷◌, ◌++◌, pos, replicate}
use Rattle.ch_ir.specs.declared.program.Operand.{Operand}
use Rattle.ch_ir.specs.declared.program.Operand.TheVariants.{Word, Const}
use Rattle.ch_ir.specs.declared.program.Binary.TheVariants as binary
use Rattle.ch_ir.specs.declared.program.Op.{Op}
use Rattle.ch_ir.specs.declared.program.Op.TheVariants.{Two, Pick}
use Rattle.ch_ir.specs.declared.program.Test.{Test}
use Rattle.ch_ir.specs.declared.program.Test.TheVariants.{Always, Less}
use Rattle.ch_ir.specs.declared.program.Update.{Update}
use Rattle.ch_ir.specs.declared.program.Update.TheVariants as update
use Rattle.ch_ir.specs.declared.program.Access.{Access}
use Rattle.ch_ir.specs.declared.program.Array.{Array}
use Rattle.ch_ir.specs.declared.program.Program.{Program}
use Rattle.ch_prune.specs.Fronts.{front_operand}
use Rattle.op_moves.specs.Moves.{Move, Compute, Reach, program_of}
use Rattle.op_topn.specs.Policy.{distance}
use Rattle.op_topn.specs.declared.sizes.Sizes.{Sizes}

-- The words from the width w on
--   w      the bit                                      w + 1  how many rows came before, up to the limit
--   w + 2  hit: whether the row is one of the first     w + 3  2^61 less the oriented value
--   w + 4  the same for one of the first, else 0        w + 5  the greatest of those
--   w + 6  (hit)                                        w + 7  whether the row is a later one
--   w + 8  whether the value is below the least         w + 9  whether the row is bad
-- and then seven words for each step, after the word `base`, which tells whether the row is bad so far
--   base + 1  2^61 less the value, and the distance     base + 2  whether the value reaches the threshold
--   base + 3  how many values reached it                base + 4  (hit)
--   base + 5  whether these are enough                  base + 6  enough did, and the value doesn't
--   base + 7  whether the row is bad so far

-- an access to the only cell of an array
abbrev pub register : (array guard : ℕ) → Test → (key : List Operand) → Update → (old : ℕ) → Access
register array guard test key change old = record {
  array = array;
  index = Const (pos 0);
  guard = Word guard;
  test = test;
  key = key;
  yes = change ∷ [];
  no = update.Keep ∷ [];
  old = old;
  hit = old + 1;
}

abbrev pub bit_op : ℕ → Op
bit_op w = Two w binary.Ne front_operand (Const (pos 0))

abbrev pub first_access : (w limit : ℕ) → Access
first_access w limit = register 0 w (Less 0) (Const (pos limit) ∷ []) (update.AddSat (Const (pos 1))) (w + 1)

abbrev pub turned_op : (w : ℕ) → Bool → (value : ℕ) → Op
turned_op w descending value = Two (w + 3) (if descending then binary.Sub else binary.Add) (Const (pos (2 ^ 61))) (Word value)

abbrev pub pick_op : ℕ → Op
pick_op w = Pick (w + 4) (Word (w + 2)) (Word (w + 3)) (Const (pos 0))

abbrev pub greatest_access : ℕ → Access
greatest_access w = register 1 w Always [] (update.Max (Word (w + 4))) (w + 5)

abbrev pub later_op : ℕ → Op
later_op w = Two (w + 7) binary.Lt (Word (w + 2)) (Word w)

abbrev pub below_op : ℕ → Op
below_op w = Two (w + 8) binary.Lt (Word (w + 5)) (Word (w + 3))

abbrev pub bad_op : ℕ → Op
bad_op w = Two (w + 9) binary.And (Word (w + 7)) (Word (w + 8))

abbrev pub firsts : Sizes → List Move
firsts s =
    Compute (bit_op s.width) ∷ Reach (first_access s.width s.limit)
    ∷ Compute (turned_op s.width s.descending s.value) ∷ Compute (pick_op s.width) ∷ Reach (greatest_access s.width)
    ∷ Compute (later_op s.width) ∷ Compute (below_op s.width) ∷ Compute (bad_op s.width) ∷ []

abbrev pub far_op : (w base distance : ℕ) → Op
far_op w base distance = Two (base + 1) binary.Add (Word (w + 3)) (Const (pos distance))

abbrev pub reach_op : (w base : ℕ) → Op
reach_op w base = Two (base + 2) binary.Le (Word (base + 1)) (Word (w + 5))

abbrev pub count_access : (w base i : ℕ) → Access
count_access w base i = register (i + 1) (w + 7) Always [] (update.AddSat (Word (base + 2))) (base + 3)

abbrev pub enough_op : (base limit : ℕ) → Op
enough_op base limit = Two (base + 5) binary.Le (Const (pos limit)) (Word (base + 3))

abbrev pub beaten_op : ℕ → Op
beaten_op base = Two (base + 6) binary.Lt (Word (base + 2)) (Word (base + 5))

abbrev pub or_op : ℕ → Op
or_op base = Two (base + 7) binary.Or (Word base) (Word (base + 6))

-- the moves of the i-th threshold
abbrev pub step : Sizes → (i base : ℕ) → List Move
step s i base =
    Compute (far_op s.width base (distance s.gap i)) ∷ Compute (reach_op s.width base) ∷ Reach (count_access s.width base i)
    ∷ Compute (enough_op base s.limit) ∷ Compute (beaten_op base) ∷ Compute (or_op base) ∷ []

-- those of so many thresholds from the i-th on
abbrev pub steps : Sizes → (left i base : ℕ) → List Move
steps s zero i base = []
steps s (suc left) i base = step s i base ++ steps s left (i + 1) (base + 7)

abbrev pub last_bad : Sizes → ℕ
last_bad s = s.width + 9 + 7 * s.steps

abbrev pub verdict_op : Sizes → Op
verdict_op s = Two (last_bad s + 1) binary.Le (Word s.width) (Word (last_bad s))

abbrev pub arrays_of : Sizes → List Array
arrays_of s = replicate (2 + s.steps) (record { entries = 1; cells = 1 })

abbrev pub moves_of : Sizes → List Move
moves_of s = firsts s ++ (steps s s.steps 1 (s.width + 9) ++ Compute (verdict_op s) ∷ [])

abbrev pub top_program : Sizes → Program
top_program s = program_of s.width (arrays_of s) (moves_of s) (last_bad s + 1)
