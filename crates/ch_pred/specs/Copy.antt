-- A copy of a bound query.
use Rattle.std.specs.Prelude.{◌≡◌}
use Rattle.ch_pred.specs.Plain.{plain_of}
use Rattle.ch_pred.specs.declared.bound.Bound.{Bound}

-- equal, but for the room of the lists in the filter
pub record IsCopy (copy b : Bound) : Type 0 where
  pub fields : copy ≡ record b { filter = copy.filter }
  pub filter : plain_of copy.filter ≡ plain_of b.filter
