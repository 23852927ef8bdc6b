-- The gate of a row: its side's part of a predicate.
use Rattle.std.specs.Prelude.{ℕ, ◌==◌, Bool, true, false, not, ◌&&◌, ◌||◌, if◌then◌else◌, [], ◌∷◌}
use Rattle.ch_pred.specs.Values.{View}
use Rattle.ch_cells.specs.declared.Cell.{Cell}
use Rattle.ch_pred.specs.Plain.{Plain, Plains, Truth, Compare, Between, Within, Like, And, Or, Not, nil, cons}
use Rattle.ch_pred.specs.Holds.{holds_of}
use Rattle.ch_pred.specs.declared.pred.Arg.{Arg}
use Rattle.ch_pred.specs.declared.pred.Arg.TheVariants as arg

abbrev pub is_of_side : ℕ → Arg → Bool
is_of_side side (arg.Column col) = col.side == side
is_of_side side (arg.Value value) = true

-- an atom of the side is as it is, or negated; one that names a column of another side is true
abbrev pub of_side : Bool → Bool → Bool → Bool
of_side own negated t = if own then (if negated then not t else t) else true

-- Whether the part of a side holds, under a negation that is pushed inward or not: atoms of other sides are true
abbrev mutual
  pub part_holds : ℕ → Bool → View Cell → Plain → Bool
  part_holds side negated row Truth = not negated
  part_holds side negated row (Compare col c other) = of_side ((col.side == side) && is_of_side side other) negated (holds_of row (Compare col c other))
  part_holds side negated row (Between col low high) = of_side (col.side == side) negated (holds_of row (Between col low high))
  part_holds side negated row (Within col literals) = of_side (col.side == side) negated (holds_of row (Within col literals))
  part_holds side negated row (Like col prefix) = of_side (col.side == side) negated (holds_of row (Like col prefix))
  part_holds side negated row (And members) = if negated then any_part side negated row members else all_part side negated row members
  part_holds side negated row (Or members) = if negated then all_part side negated row members else any_part side negated row members
  part_holds side negated row (Not inner) = part_holds side (not negated) row inner

  pub all_part : ℕ → Bool → View Cell → Plains → Bool
  all_part side negated row nil = true
  all_part side negated row (cons p ps) = part_holds side negated row p && all_part side negated row ps

  pub any_part : ℕ → Bool → View Cell → Plains → Bool
  any_part side negated row nil = false
  any_part side negated row (cons p ps) = part_holds side negated row p || any_part side negated row ps

-- no list is empty, and `Truth` stands nowhere within
abbrev mutual
  pub IsFull : Plain → Type 0
  IsFull Truth = ⊥
  IsFull (Compare col c other) = Unit {0}
  IsFull (Between col low high) = Unit {0}
  IsFull (Within col []) = ⊥
  IsFull (Within col (value ∷ literals)) = Unit {0}
  IsFull (Like col prefix) = Unit {0}
  IsFull (And nil) = ⊥
  IsFull (And (cons p ps)) = IsFull p × AreFull ps
  IsFull (Or nil) = ⊥
  IsFull (Or (cons p ps)) = IsFull p × AreFull ps
  IsFull (Not inner) = IsFull inner

  pub AreFull : Plains → Type 0
  AreFull nil = Unit {0}
  AreFull (cons p ps) = IsFull p × AreFull ps
