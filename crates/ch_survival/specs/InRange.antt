-- The tables of a query have words in the cell range.
use Rattle.std.specs.Prelude.{◌≡◌, ℕ, true, List, slice_index_or, pos}
use Rattle.ch_cells.specs.declared.Cell.{Cell}
use Rattle.ch_cells.specs.declared.Cell.TheVariants as cell
use Rattle.ch_lists.specs.Members.{Each}
use Rattle.ch_pred.specs.declared.bound.Bound.{Bound}
use Rattle.ch_words.specs.Packets.{table_of}
use Rattle.ch_words.specs.Ranks.{word_of}
use Rattle.ch_pred.specs.Sound.{carried_of}
use Rattle.ch_prune.specs.Sent.{is_cell_word}

-- each carried cell of each row has a word in the cell range
abbrev pub AreInRange : List (List ℕ) → Bound → List (List (List Cell)) → Type 0
AreInRange texts b tables = (side : ℕ)
    → Each (λ row. Each (λ at. is_cell_word (word_of texts (slice_index_or row at (cell.Number (pos 0)))) ≡ true) (carried_of b side)) (table_of tables side)
