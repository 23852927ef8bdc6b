-- What moves in order need of each limit.
use Rattle.std.proofs.Common.{◌≡◌, ◌<◌, ◌≤◌, ℕ, zero, suc, ◌+◌, ◌*◌, List, [], arith, replicate}
use Rattle.ch_ir.specs.declared.program.Array.{Array}
use Rattle.ch_ir.specs.Measure.{greatest_array, sizes_of}
use Rattle.ch_ir.specs.Rules.{inputs}
use Rattle.ch_prune.specs.Needs.{IsWithin}
use Rattle.ch_prune.specs.declared.operator.Need.{Need}
use Rattle.op_moves.specs.Moves.{Move, program_of, reaches, longest}
use Rattle.op_moves.specs.InOrder.{InOrder, next_word}
use Rattle.op_moves.specs.Fits.{words_within, stages_of, ops_of}

pub greatest_same : (n entries cells : ℕ) → greatest_array (replicate n (record { entries = entries; cells = cells })) ≤ entries * cells
greatest_same zero entries cells = omega arith
greatest_same (suc n) entries cells = let more = greatest_same n entries cells in omega arith

-- the measure of moves in order, whose stages have at most 48 ops each
pub within : (need : Need) (ops width : ℕ) (arrays : List Array) (moves : List Move) (verdict : ℕ) → InOrder arrays width 0 (inputs width) moves → verdict < next_word arrays width moves
    → width ≡ need.width → greatest_array arrays ≤ need.cells → next_word arrays width moves ≤ need.words → reaches moves + 1 ≤ need.stages → longest 0 moves ≤ 48 → 48 ≤ ops
    → IsWithin need ops (sizes_of (program_of width arrays moves verdict))
unfolding sizes_of
within need ops width arrays moves verdict o h fits_width fits_cells fits_words fits_stages fits_ops many = record {
  width = fits_width;
  cells = fits_cells;
  words = let k = words_within width arrays moves verdict o h in omega arith;
  stages = let k = stages_of [] moves in omega arith;
  many = let k = ops_of [] moves in omega arith;
}
