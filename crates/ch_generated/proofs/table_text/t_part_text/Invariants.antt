use Rattle.std.proofs.Common.{◌≡◌, ◌++◌, drop, flat_map, map}
use Rattle.ch_generated.specs.TableText.{part_from, row_line, t_fields, t_part_text}
use Rattle.ch_generated.proofs.table_text.t_part_text.Given as goal

-- what is written, and what the rows that are left give
abbrev pub invariant-loop-place : goal.invariant-loop-place
invariant-loop-place l = l.text.items ++ flat_map row_line (map t_fields (part_from l.part l.place (drop l.place l.rows))) ≡ t_part_text l.part l.rows
