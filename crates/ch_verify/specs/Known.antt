-- What a list of intervals says of the words, and a list of flags of the arrays.
use Rattle.std.specs.Prelude.{Bool, false, List, Option, None, get_or}
use Rattle.ch_ir.specs.declared.rules.Interval.{Interval}
use Rattle.ch_ir.specs.Rules.{Known, Used}

abbrev pub known_of : List (Option Interval) → Known
known_of ks w = get_or ks w None

abbrev pub used_of : List Bool → Used
used_of flags a = get_or flags a false
