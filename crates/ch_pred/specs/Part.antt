-- The part of a predicate that one side can tell, and its weak filter, which has no LIKE.
use Rattle.std.specs.Prelude.{◌≡◌, ◌⊎◌, ℕ, ◌==◌, Bool, true, false, not, ◌&&◌, ◌||◌, if◌then◌else◌, List, [], ◌∷◌}
use Rattle.ch_pred.specs.Plain.{Plain, Plains, Truth, Compare, Between, Within, Like, And, Or, Not, nil, cons}
use Rattle.ch_pred.specs.Gate.{is_of_side}
use Rattle.ch_pred.specs.declared.pred.Arg.TheVariants as arg
use Rattle.ch_pred.specs.declared.pred.Cmp.{Cmp}
use Rattle.ch_pred.specs.declared.pred.Cmp.TheVariants as cmp
use Rattle.ch_pred.specs.declared.pred.Col.{Col}
use Rattle.ch_pred.specs.declared.pred.Literal.{Literal}

-- the comparison that holds where the other doesn't
abbrev pub turned : Cmp → Cmp
turned cmp.Eq = cmp.Ne
turned cmp.Ne = cmp.Eq
turned cmp.Lt = cmp.Ge
turned cmp.Le = cmp.Gt
turned cmp.Gt = cmp.Le
turned cmp.Ge = cmp.Lt

abbrev pub is_true : Plain → Bool
is_true Truth = true
is_true (Compare col c other) = false
is_true (Between col low high) = false
is_true (Within col literals) = false
is_true (Like col prefix) = false
is_true (And members) = false
is_true (Or members) = false
is_true (Not inner) = false

-- without those that are true
abbrev pub kept_members : Plains → Plains
kept_members nil = nil
kept_members (cons p ps) = if is_true p then kept_members ps else cons p (kept_members ps)

abbrev pub some_true : Plains → Bool
some_true nil = false
some_true (cons p ps) = is_true p || some_true ps

-- no member left is true, and one member left is that member
abbrev pub and_of : Plains → Plain
and_of nil = Truth
and_of (cons p nil) = p
and_of (cons p (cons q ps)) = And (cons p (cons q ps))

abbrev pub both_of : Plains → Plain
both_of ps = and_of (kept_members ps)

abbrev pub any_of : Plains → Plain
any_of ps = if some_true ps then Truth else Or ps

abbrev pub differs_from : Col → List Literal → Plains
differs_from col [] = nil
differs_from col (value ∷ literals) = cons (Compare col cmp.Ne (arg.Value value)) (differs_from col literals)

-- below the low end or above the high end
abbrev pub outside : Col → Literal → Literal → Plain
outside col low high = Or (cons (Compare col cmp.Lt (arg.Value low)) (cons (Compare col cmp.Gt (arg.Value high)) nil))

-- always true, or never
abbrev pub constant : Bool → Plain
constant holds = if holds then Truth else Or nil

abbrev pub own_atom : Bool → Plain → Plain
own_atom own p = if own then p else Truth

-- `likes`: whether a LIKE of the side stays; `negated`: under a negation that is pushed inward
abbrev mutual
  pub pushed : Bool → ℕ → Bool → Plain → Plain
  pushed likes side negated Truth = constant (not negated)
  pushed likes side negated (Compare col c other) = own_atom ((col.side == side) && is_of_side side other) (Compare col (if negated then turned c else c) other)
  pushed likes side negated (Between col low high) = own_atom (col.side == side) (if negated then outside col low high else Between col low high)
  pushed likes side negated (Within col literals) = own_atom (col.side == side) (if negated then and_of (differs_from col literals) else Within col literals)
  pushed likes side negated (Like col prefix) = own_atom (likes && (col.side == side)) (if negated then Not (Like col prefix) else Like col prefix)
  pushed likes side negated (And members) = if negated then any_of (all_pushed likes side negated members) else both_of (all_pushed likes side negated members)
  pushed likes side negated (Or members) = if negated then both_of (all_pushed likes side negated members) else any_of (all_pushed likes side negated members)
  pushed likes side negated (Not inner) = pushed likes side (not negated) inner

  pub all_pushed : Bool → ℕ → Bool → Plains → Plains
  all_pushed likes side negated nil = nil
  all_pushed likes side negated (cons p ps) = cons (pushed likes side negated p) (all_pushed likes side negated ps)

abbrev pub part_of : Plain → ℕ → Plain
part_of p side = pushed true side false p

abbrev pub weak_of : Plain → ℕ → Plain
weak_of p side = pushed false side false p

-- no LIKE stands in it
abbrev mutual
  pub is_exact : Plain → Bool
  is_exact Truth = true
  is_exact (Compare col c other) = true
  is_exact (Between col low high) = true
  is_exact (Within col literals) = true
  is_exact (Like col prefix) = false
  is_exact (And members) = all_exact members
  is_exact (Or members) = all_exact members
  is_exact (Not inner) = is_exact inner

  pub all_exact : Plains → Bool
  all_exact nil = true
  all_exact (cons p ps) = is_exact p && all_exact ps

abbrev pub is_like : Plain → Bool
is_like Truth = false
is_like (Compare col c other) = false
is_like (Between col low high) = false
is_like (Within col literals) = false
is_like (Like col prefix) = true
is_like (And members) = false
is_like (Or members) = false
is_like (Not inner) = false

-- without `Truth`, and where LIKEs may stand with NOT around a LIKE alone, else without LIKE and NOT
abbrev mutual
  pub is_formed : Bool → Plain → Bool
  is_formed likes Truth = false
  is_formed likes (Compare col c other) = true
  is_formed likes (Between col low high) = true
  is_formed likes (Within col literals) = true
  is_formed likes (Like col prefix) = likes
  is_formed likes (And members) = all_formed likes members
  is_formed likes (Or members) = all_formed likes members
  is_formed likes (Not inner) = likes && is_like inner

  pub all_formed : Bool → Plains → Bool
  all_formed likes nil = true
  all_formed likes (cons p ps) = is_formed likes p && all_formed likes ps

-- `Truth`, or of that form
abbrev pub HasForm : Bool → Plain → Type 0
HasForm likes p = (p ≡ Truth) ⊎ (is_formed likes p ≡ true)
