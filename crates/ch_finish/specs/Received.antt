-- Rows that arrived, as the rows of packets that they are.
use Rattle.std.specs.Prelude.{◌≡◌, List}
use Rattle.std.specs.List.{AllZip}
use Rattle.ch_cover.specs.Rows.{Row}
use Rattle.ch_finish.specs.declared.received.Arrived.{Arrived}

-- the row has this side and these words; its bit says nothing to a fold
pub record IsRowOf (a : Arrived) (r : Row) : Type 0 where
  pub side : r.side ≡ a.side
  pub words : r.words ≡ a.words

abbrev pub AreRowsOf : List Arrived → List Row → Type 0
AreRowsOf received rows = AllZip IsRowOf received rows
