use Rattle.std.proofs.Common.{◌<◌, [], length, get_or, map, sym, ap, ◌∙◌, arith}
use Rattle.std.proofs.lemmas.List.{length-map}
use Rattle.ch_tables.specs.Columns.{cells_in, rows_in}
use Rattle.ch_tables.specs.TableValue.{TableValue}
use Rattle.ch_tables.proofs.ViewLemmas.{length-part}
use Rattle.ch_tables.proofs.table.Table.rows.Goals as goal

pub returns : goal.returns
returns c =
    let t = c.self.inside in
    let columns = map (cells_in t.texts) t.columns.items in
    let parts = ap (λ (v : TableValue). v.parts) c.self.view_is in
    let size = ap length parts in
    let within : c.args.part < length t.spans.items = omega (arith, length-map t.spans.items (rows_in columns)) in
    sym (length-part columns t.spans.items c.args.part c.index-span.result.now within c.index-span.ensures) ∙ ap (λ ps. length (get_or ps c.args.part [])) parts
