-- The records of a part.
use Rattle.std.specs.Prelude.{ℕ, List}
use Rattle.csv.specs.Reading.{default_config, strip_bom, records}

-- every record of a part's bytes, the header among them: one leading EF BB BF is cut
abbrev pub records_of : List ℕ → List (List (List ℕ))
records_of bytes = records default_config (strip_bom bytes)
