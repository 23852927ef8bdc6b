-- More words have the places that fewer have.
use Rattle.std.proofs.Common.{ℕ, ◌≤◌, Option, Some, None, arith}
use Rattle.ch_verdicts.specs.declared.Slot.{Slot}
use Rattle.ch_verdicts.specs.Handed.{IsSlot, HasPlaces}

pub wider_slot : (slot : Option Slot) (width most : ℕ) → width ≤ most → IsSlot slot width → IsSlot slot most
wider_slot None width most le h = omega (arith, le, h)
wider_slot (Some s) width most le h = (h.0, omega (arith, le, h.1))

pub wider_places : (slot : Option Slot) (width most words : ℕ) → width ≤ most → HasPlaces slot width words → HasPlaces slot most words
wider_places None width most words le h = omega (arith, le, h)
wider_places (Some s) width most words le h = h
