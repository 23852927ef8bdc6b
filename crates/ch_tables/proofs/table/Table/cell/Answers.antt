use Rattle.std.proofs.Common.{◌<◌, ◌+◌, [], length, get_or, sym, ap, subst, ◌∙◌, arith, pos, Some}
use Rattle.std.proofs.lemmas.List.{get_or-map}
use Rattle.ch_cells.specs.CellRef.{cell_of}
use Rattle.ch_cells.specs.declared.cell.Cell.TheVariants as cell
use Rattle.ch_tables.specs.Columns.{IsColumn, cells_in}
use Rattle.ch_tables.specs.declared.column.Column.{Column}
use Rattle.ch_tables.proofs.ViewLemmas.{column-within, number-of-kind, place-within, shows, text-of-kind}
use Rattle.ch_tables.proofs.table.Table.cell.Goals as goal

pub lend_number-requires : goal.lend_number-requires
lend_number-requires c =
    let t = c.self.inside in
    let p = place-within t c.args.self.now c.args.part c.args.row c.index.result.now c.self.invariant c.self.view_is c.requires.part c.requires.row c.index.ensures in
    let k = subst (IsColumn t.texts t.rows) c.in-Numbers.is (column-within t c.args.self.now c.args.col c.index-2.result.now c.self.invariant c.self.view_is c.requires.col c.index-2.ensures) in
    let same = ap length c.as_slice.ensures.value in
    omega arith

pub index-requires-in-Places : goal.index-requires-in-Places
index-requires-in-Places c =
    let t = c.self.inside in
    let p = place-within t c.args.self.now c.args.part c.args.row c.index.result.now c.self.invariant c.self.view_is c.requires.part c.requires.row c.index.ensures in
    let k = subst (IsColumn t.texts t.rows) c.in-Places.is (column-within t c.args.self.now c.args.col c.index-2.result.now c.self.invariant c.self.view_is c.requires.col c.index-2.ensures) in
    omega arith

pub get-requires : goal.get-requires
get-requires c =
    let t = c.self.inside in
    let p = place-within t c.args.self.now c.args.part c.args.row c.index.result.now c.self.invariant c.self.view_is c.requires.part c.requires.row c.index.ensures in
    let k = subst (IsColumn t.texts t.rows) c.in-Places.is (column-within t c.args.self.now c.args.col c.index-2.result.now c.self.invariant c.self.view_is c.requires.col c.index-2.ensures) in
    let at = c.index.result.now.from + c.args.row in
    let below : at < length c.in-Places.places.items = omega arith in
    rw c.index-in-Places.ensures (k.1 at c.index-in-Places.result.now below)

pub returns-in-Numbers-clause-value : goal.returns-in-Numbers-clause-value
returns-in-Numbers-clause-value c =
    let t = c.self.inside in
    let p = place-within t c.args.self.now c.args.part c.args.row c.index.result.now c.self.invariant c.self.view_is c.requires.part c.requires.row c.index.ensures in
    let k = subst (IsColumn t.texts t.rows) c.in-Numbers.is (column-within t c.args.self.now c.args.col c.index-2.result.now c.self.invariant c.self.view_is c.requires.col c.index-2.ensures) in
    let at = c.index.result.now.from + c.args.row in
    let below : at < length c.in-Numbers.numbers.items = omega arith in
    shows t c.args.self.now c.args.part c.args.row c.args.col c.index.result.now c.index-2.result.now c.self.invariant c.self.view_is c.requires.part c.requires.row c.requires.col c.index.ensures c.index-2.ensures
    ∙ (ap (λ (w : Column). Some (get_or (cells_in t.texts w) at (cell.Number (pos 0)))) c.in-Numbers.is
    ∙ (ap Some (get_or-map cell.Number c.in-Numbers.numbers.items at (pos 0) (cell.Number (pos 0)) below)
    ∙ (ap (λ ns. Some (cell.Number (get_or ns at (pos 0)))) (sym c.as_slice.ensures.value) ∙ ap Some (sym c.lend_number.ensures))))

pub returns-in-Places-clause-value : goal.returns-in-Places-clause-value
returns-in-Places-clause-value c =
    let t = c.self.inside in
    let p = place-within t c.args.self.now c.args.part c.args.row c.index.result.now c.self.invariant c.self.view_is c.requires.part c.requires.row c.index.ensures in
    let k = subst (IsColumn t.texts t.rows) c.in-Places.is (column-within t c.args.self.now c.args.col c.index-2.result.now c.self.invariant c.self.view_is c.requires.col c.index-2.ensures) in
    let at = c.index.result.now.from + c.args.row in
    let below : at < length c.in-Places.places.items = omega arith in
    shows t c.args.self.now c.args.part c.args.row c.args.col c.index.result.now c.index-2.result.now c.self.invariant c.self.view_is c.requires.part c.requires.row c.requires.col c.index.ensures c.index-2.ensures
    ∙ (ap (λ (w : Column). Some (get_or (cells_in t.texts w) at (cell.Number (pos 0)))) c.in-Places.is
    ∙ (ap Some (get_or-map (λ place. cell.Text (get_or t.texts place [])) c.in-Places.places.items at c.index-in-Places.result.now (cell.Number (pos 0)) below)
    ∙ ap (λ text. Some (cell.Text text)) (ap (λ place. get_or t.texts place []) (sym c.index-in-Places.ensures) ∙ sym c.get.ensures)))

pub returns-in-Numbers-clause-kind : goal.returns-in-Numbers-clause-kind
returns-in-Numbers-clause-kind c =
    let t = c.self.inside in
    let p = place-within t c.args.self.now c.args.part c.args.row c.index.result.now c.self.invariant c.self.view_is c.requires.part c.requires.row c.index.ensures in
    let k = subst (IsColumn t.texts t.rows) c.in-Numbers.is (column-within t c.args.self.now c.args.col c.index-2.result.now c.self.invariant c.self.view_is c.requires.col c.index-2.ensures) in
    let at = c.index.result.now.from + c.args.row in
    let below : at < length c.in-Numbers.numbers.items = omega arith in
    number-of-kind t c.args.self.now c.args.col at c.index-2.result.now c.in-Numbers.numbers c.as_slice.result.now (cell_of c.lend_number.result) c.self.invariant c.self.view_is
    c.requires.col c.index-2.ensures c.in-Numbers.is c.as_slice.ensures.value c.lend_number.ensures below

pub returns-in-Places-clause-kind : goal.returns-in-Places-clause-kind
returns-in-Places-clause-kind c =
    text-of-kind c.self.inside c.args.self.now c.args.col c.index-2.result.now c.in-Places.places c.get.result.now c.self.invariant c.self.view_is c.requires.col c.index-2.ensures
    c.in-Places.is
