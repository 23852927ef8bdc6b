use Rattle.csv.specs.Records.{fields_of}
use Rattle.ch_tables.proofs.FieldLemmas.{found, there}
use Rattle.ch_tables.proofs.field.field.Goals as goal

pub unwrap-requires : goal.unwrap-requires
unwrap-requires c = there (fields_of c.args.fields.now) c.args.at c.get.result c.get.ensures.value c.requires

pub returns : goal.returns
returns c = found (fields_of c.args.fields.now) c.args.at c.get.result c.unwrap.result c.get.ensures.value c.requires c.unwrap.ensures
