-- What a join prunes: each row in the first pass; in the second each row whose bit isn't set or that fails the Bloom test.
use Rattle.std.specs.Prelude.{◌==◌, not, ◌||◌}
use Rattle.ch_cover.specs.Rows.{Policy}
use Rattle.op_bloom.specs.declared.sizes.Sizes.{Sizes}
use Rattle.op_bloom.specs.Policy.{passes_bloom}

abbrev pub prunes : Sizes → Policy
prunes d before x = (x.0 == 1) || (not x.1.bit || not (passes_bloom d before x.1))
