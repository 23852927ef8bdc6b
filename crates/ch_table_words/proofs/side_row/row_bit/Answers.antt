use Rattle.std.proofs.Common.{length, ap}
use Rattle.ch_pred.specs.Plain.{plain_of}
use Rattle.ch_table_words.proofs.Sided.{named_alike}
use Rattle.ch_table_words.proofs.side_row.row_bit.Goals as goal

pub holds-requires : goal.holds-requires
holds-requires c = named_alike (plain_of c.args.own.now) c.new.result.side c.args.side (length c.new.result.table.now.header) (length c.args.table.now.header)
    c.new.ensures.side (ap (λ t. length t.now.header) c.new.ensures.table) c.requires.names
