use Rattle.std.proofs.Common.{◌≡◌, ◌+◌, ◌<◌, ◌≤◌, List, [], length, ap, sym, ◌∙◌, arith, subst}
use Rattle.std.specs.Prelude.{slice_index_or}
use Rattle.ch_pred.specs.Holds.{holds_of}
use Rattle.ch_pred.specs.Names.{Names}
use Rattle.ch_pred.specs.Plain.{plain_of}
use Rattle.ch_pred.specs.Values.{cells_seen}
use Rattle.ch_tables.specs.TableValue.{TableValue}
use Rattle.ch_parts.proofs.Reading.{bit_is, few_sides, own_named}
use Rattle.ch_parts.proofs.row.read_row.Goals as goal

pub row_bit-requires-clause-names : goal.row_bit-requires-clause-names
row_bit-requires-clause-names c =
    let t = c.requires.tables_are in
    subst (λ (v : TableValue). Names (λ s at. (s ≡ c.args.source.side) × (at < length v.header)) (plain_of c.args.side.now.own)) (sym c.table_of-table.ensures)
    (own_named c.args.ranks.now c.args.bound.now c.args.tables.now c.args.source.side (plain_of c.args.side.now.own) t c.requires.source.side c.requires.side.own)

pub returns-clause-bit : goal.returns-clause-bit
returns-clause-bit c =
    let t = c.requires.tables_are in
    let s = c.requires.source in
    let few = few_sides c.args.ranks.now c.args.bound.now c.args.tables.now t in
    c.row_bit.ensures
    ∙ (ap (λ (v : TableValue). holds_of (cells_seen (slice_index_or (slice_index_or v.parts c.args.source.part []) c.args.number [])) (plain_of c.args.side.now.own)) c.table_of-table.ensures
    ∙ bit_is c.args.ranks.now c.args.bound.now c.args.tables.now c.args.source.side c.args.source.part c.args.number (plain_of c.args.side.now.own) t s.side (omega (arith, few, s.side)) s.part (omega (arith, c.requires.number, s.rows)) c.requires.side.own)
