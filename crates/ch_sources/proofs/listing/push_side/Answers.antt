use Rattle.std.proofs.Common.{◌≡◌, ℕ, List, [], map, ap, sym, ◌∙◌, subst, ◌++◌}
use Rattle.std.specs.Prelude.{OnOk}
use Rattle.std.proofs.lemmas.Result.{on_ok_weaker}
use Rattle.ch_parts.specs.Tidy.{IsSource, source_part}
use Rattle.ch_sources.proofs.Listed.{none_more, side_all, side_none}
use Rattle.ch_sources.proofs.listing.push_side.Goals as goal

pub returns-then-table_number-number-clause-parts : goal.returns-then-table_number-number-clause-parts
returns-then-table_number-number-clause-parts c texts =
    let b = c.args.bound.now in
    none_more (map (source_part texts b c.args.tables.now) c.args.sources.now.items) _ (side_none texts b c.args.tables.now c.args.number c.args.side c.table_number.result c.table_number.ensures c.if-table_number-number.true)

pub returns-clause-sources : goal.returns-clause-sources
returns-clause-sources c all =
    let b = c.args.bound.now in
    let tables = c.args.tables.now in
    let f = c.push_sources.ensures.sources in
    f b tables c.requires.side (side_all [] b tables c.args.number c.args.side c.table_number.result c.index-tables-number.result c.table_number.ensures c.if-table_number-number.false c.requires.number c.index-tables-number.is).0 all

pub returns-clause-parts : goal.returns-clause-parts
returns-clause-parts c texts =
    let b = c.args.bound.now in
    let tables = c.args.tables.now in
    let s = side_all texts b tables c.args.number c.args.side c.table_number.result c.index-tables-number.result c.table_number.ensures c.if-table_number-number.false c.requires.number c.index-tables-number.is in
    let f = c.push_sources.ensures.parts in
    on_ok_weaker c.push_sources.result (λ e. e ∙ ap (λ ps. map (source_part texts b tables) c.args.sources.now.items ++ ps) s.1) (f texts b tables s.0)
