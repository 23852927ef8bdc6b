-- Profiles whose numbers are in the ranges of their settings.
use Rattle.std.specs.Prelude.{◌≤◌, ℕ}
use Rattle.ch_ir.specs.declared.profile.Profile.{Profile}
use Rattle.ch_ir.specs.declared.setting.Setting.{Setting}
use Rattle.ch_ir.specs.declared.setting.Setting.TheVariants.{Stages, Cells, Ops, Words, Width, Window, DistinctRows, DistinctCols, GroupRows, GroupCols, TopSteps, TopGap, SketchHashes, SketchCells, BloomHashes, BloomCells, SkylinePoints}
use Rattle.ch_ir.specs.Profile.{range_of}

abbrev pub value_of : Profile → Setting → ℕ
value_of p Stages = p.stages
value_of p Cells = p.cells
value_of p Ops = p.ops
value_of p Words = p.words
value_of p Width = p.width
value_of p Window = p.window
value_of p DistinctRows = p.distinct_rows
value_of p DistinctCols = p.distinct_cols
value_of p GroupRows = p.group_rows
value_of p GroupCols = p.group_cols
value_of p TopSteps = p.top_steps
value_of p TopGap = p.top_gap
value_of p SketchHashes = p.sketch_hashes
value_of p SketchCells = p.sketch_cells
value_of p BloomHashes = p.bloom_hashes
value_of p BloomCells = p.bloom_cells
value_of p SkylinePoints = p.skyline_points

-- the number is in the range of the setting
abbrev pub Ranges : Setting → ℕ → Type 0
Ranges s v = ((range_of s).low ≤ v) × (v ≤ (range_of s).high)

abbrev pub IsRanged : Profile → Type 0
IsRanged p = (s : Setting) → Ranges s (value_of p s)
