use Rattle.std.proofs.Common.{sym}
use Rattle.std.specs.Prelude.{slice_index}
use Rattle.ch_parts.proofs.Tabled.{table_read}
use Rattle.ch_parts.proofs.row.table_of.Goals as goal

pub returns : goal.returns
returns c = sym (table_read c.args.bound.now c.args.tables.now c.args.side c.as_slice.result.now c.index-tables-as_slice.result c.as_slice.ensures c.requires.side c.requires.there c.index-tables-as_slice.is)
