-- Fewer words of a row have places, too.
use Rattle.std.proofs.Common.{ℕ, ◌≤◌, Option, Some, None, arith}
use Rattle.ch_verdicts.specs.declared.Slot.{Slot}
use Rattle.ch_verdicts.specs.Handed.{HasPlaces}

pub fewer_words : (slot : Option Slot) (width few most : ℕ) → few ≤ most → HasPlaces slot width most → HasPlaces slot width few
fewer_words None width few most le h = omega (arith, le, h)
fewer_words (Some s) width few most le h = omega (arith, le, h)
