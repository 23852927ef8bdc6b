-- What the rows ask of a switch.
use Rattle.std.specs.Prelude.{◌≡◌}
use Rattle.ch_verdicts.specs.Handed.{HasPlaces}
use Rattle.ch_switch.specs.Switching.{Switching}

-- it is one of two workers, and its program has a place for one word of a row
abbrev pub TakesAWord : Switching → Type 0
TakesAWord st = (st.workers ≡ 2) × HasPlaces st.slot st.program.width 1
