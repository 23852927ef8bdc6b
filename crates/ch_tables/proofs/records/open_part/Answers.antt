use Rattle.std.proofs.Common.{◌≡◌, rules, subst, sym}
use Rattle.ch_tables.specs.Reading.{AreShort, records_left}
use Rattle.ch_tables.specs.Records.{records_of}
use Rattle.ch_tables.proofs.RecordLemmas.{short_records}
use Rattle.ch_tables.proofs.records.open_part.Goals as goal

pub returns-clause-short : goal.returns-clause-short
returns-clause-short c =
    let all : records_left c.from_reader.result ≡ records_of c.args.text.now = search rules in
    subst AreShort (sym all) (short_records c.args.text.now c.requires)
