use Rattle.std.proofs.Common.{◌≡◌, drop, map, take, Some}
use Rattle.std.specs.List.{list_all}
use Rattle.ch_cells.specs.Number.{number_of}
use Rattle.ch_tables.specs.Table.{is_number}
use Rattle.ch_tables.proofs.column.numbers_of.Given as goal

abbrev pub invariant-loop-at : goal.invariant-loop-at
invariant-loop-at l = record {
  same : map number_of (take l.at l.column) ≡ map Some l.numbers.items;
  left : list_all is_number (drop l.at l.column) ≡ list_all is_number l.column;
}
