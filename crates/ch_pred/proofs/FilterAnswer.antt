-- The answer of a filter in the words of sort_rows.
use Rattle.std.proofs.Common.{◌≡◌, List, [], ◌∷◌, refl, ◌∙◌, ap, map}
use Rattle.ch_cells.specs.Cell.{cell_cmp}
use Rattle.ch_cells.specs.Row.{ascending}
use Rattle.ch_cells.specs.declared.Cell.{Cell}
use Rattle.ch_lists.proofs.Carried.{filter-map, map-map}
use Rattle.ch_pred.specs.Holds.{holds_of}
use Rattle.ch_pred.specs.Plain.{plain_of}
use Rattle.ch_pred.specs.Values.{cells, cells_seen}
use Rattle.ch_pred.specs.Meaning.{line, in_order, meaning_by, answer, holding, printed_of, asked_of_cells}
use Rattle.ch_pred.specs.declared.bound.Bound.{Bound}
use Rattle.ch_pred.specs.declared.bound.Shape.{Shape}
use Rattle.ch_pred.specs.declared.bound.Shape.TheVariants as shape

pub filter_answer : (b : Bound) (rows : List (List Cell)) → b.shape ≡ shape.Filter → answer b (rows ∷ []) ≡ ascending (printed_of b (holding b rows))
filter_answer b rows kind =
    ap (λ (s : Shape). in_order cell_cmp s (meaning_by s (asked_of_cells b) (map cells_seen rows) [])) kind
    ∙ ap ascending (ap (map (line b.printed cells.none)) (filter-map cells_seen (λ v. holds_of v (plain_of b.filter)) (λ row. holds_of (cells_seen row) (plain_of b.filter)) (λ row. refl) rows)
    ∙ map-map cells_seen (line b.printed cells.none) (holding b rows))
