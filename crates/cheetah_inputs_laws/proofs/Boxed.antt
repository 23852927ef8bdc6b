-- A predicate of each plain tree whose lists are short.
use Rattle.std.proofs.Common.{◌≡◌, ◌∙◌, ap, sym, refl, ℕ, suc, ◌<◌, ◌^◌, List, [], ◌∷◌, map, length, Vec, Box, Global, arith}
use Rattle.std.proofs.Handle.{handle}
use denote.RawPtr.{null_ptr}
use Rattle.ch_pred.proofs.Layers.{plain_of-And, plain_of-Compare, plain_of-Truth}
use Rattle.ch_pred.specs.Plain.{And, Between, Compare, Like, Not, Or, Plain, Plains, Truth, Within, cons, nil, plain_of, plain_step, plains}
use Rattle.ch_pred.specs.declared.pred.BoundPred.{BoundPred}
use Rattle.ch_pred.specs.declared.pred.BoundPred.TheFolds.{fold-roll-BoundPred}
use Rattle.ch_pred.specs.declared.pred.BoundPred.TheOpen as layer
use Rattle.ch_pred.specs.declared.pred.BoundPred.TheVariants as pred
use Rattle.ch_pred.specs.declared.pred.Col.{Col}
use Rattle.ch_pred.specs.declared.pred.Literal.{Literal}

-- a vector of some elements, and a box of a value
abbrev vec_of : {X : Type 0} (xs : List X) → length xs < 2 ^ 63 → Vec X Global
vec_of xs lt = record { ptr = null_ptr; len = length xs; cap = length xs; alloc = handle; items = xs; ok = (refl, omega arith); small = lt }

abbrev box_of : {X : Type 0} (x : X) → Box X Global
box_of x = record { ptr = null_ptr; alloc = handle; value = x }

-- the plain tree of a predicate that is written out

plain_of-Between : (col : Col) (low high : Literal) → plain_of (pred.Between col low high) ≡ Between col low high
plain_of-Between col low high = ap plain_of (sym (pred.rolls-Between col low high)) ∙ fold-roll-BoundPred Plain plain_step (layer.Between col low high)

plain_of-Within : (col : Col) (literals : Vec Literal Global) → plain_of (pred.Within col literals) ≡ Within col literals.items
plain_of-Within col literals = ap plain_of (sym (pred.rolls-Within col literals)) ∙ fold-roll-BoundPred Plain plain_step (layer.Within col literals)

plain_of-Like : (col : Col) (prefix : List ℕ) → plain_of (pred.Like col prefix) ≡ Like col prefix
plain_of-Like col prefix = ap plain_of (sym (pred.rolls-Like col prefix)) ∙ fold-roll-BoundPred Plain plain_step (layer.Like col prefix)

plain_of-Or : (members : Vec BoundPred Global) → plain_of (pred.Or members) ≡ Or (plains (map plain_of members.items))
plain_of-Or members = ap plain_of (sym (pred.rolls-Or members)) ∙ fold-roll-BoundPred Plain plain_step (layer.Or members)

plain_of-Not : (inner : Box BoundPred Global) → plain_of (pred.Not inner) ≡ Not (plain_of inner.value)
plain_of-Not inner = ap plain_of (sym (pred.rolls-Not inner)) ∙ fold-roll-BoundPred Plain plain_step (layer.Not inner)

-- short lists

abbrev pub members_of : Plains → ℕ
members_of nil = 0
members_of (cons p ps) = suc (members_of ps)

abbrev mutual
  pub IsShort : Plain → Type 0
  IsShort Truth = Unit {0}
  IsShort (Compare col cmp arg) = Unit {0}
  IsShort (Between col low high) = Unit {0}
  IsShort (Within col literals) = length literals < 2 ^ 63
  IsShort (Like col prefix) = Unit {0}
  IsShort (And members) = (members_of members < 2 ^ 63) × AreShort members
  IsShort (Or members) = (members_of members < 2 ^ 63) × AreShort members
  IsShort (Not inner) = IsShort inner

  pub AreShort : Plains → Type 0
  AreShort nil = Unit {0}
  AreShort (cons p ps) = IsShort p × AreShort ps

mutual
  pub boxed : (p : Plain) → IsShort p → (b : BoundPred) × (plain_of b ≡ p)
  boxed Truth short = (pred.Truth, plain_of-Truth)
  boxed (Compare col cmp arg) short = (pred.Compare col cmp arg, plain_of-Compare col cmp arg)
  boxed (Between col low high) short = (pred.Between col low high, plain_of-Between col low high)
  boxed (Within col literals) short = (pred.Within col (vec_of literals short), plain_of-Within col (vec_of literals short))
  boxed (Like col prefix) short = (pred.Like col prefix, plain_of-Like col prefix)
  boxed (And members) short =
      let m = all_boxed members short.1 in
      let few : length m.0 < 2 ^ 63 = (let count = m.2 in let least = short.0 in omega (arith, count, least)) in
      (pred.And (vec_of m.0 few), plain_of-And (vec_of m.0 few) ∙ ap And m.1)
  boxed (Or members) short =
      let m = all_boxed members short.1 in
      let few : length m.0 < 2 ^ 63 = (let count = m.2 in let least = short.0 in omega (arith, count, least)) in
      (pred.Or (vec_of m.0 few), plain_of-Or (vec_of m.0 few) ∙ ap Or m.1)
  boxed (Not inner) short = let b = boxed inner short in (pred.Not (box_of b.0), plain_of-Not (box_of b.0) ∙ ap Not b.1)

  all_boxed : (ps : Plains) → AreShort ps → (bs : List BoundPred) × (plains (map plain_of bs) ≡ ps) × (length bs ≡ members_of ps)
  all_boxed nil short = ([], refl, refl)
  all_boxed (cons p ps) short =
      let b = boxed p short.0 in
      let m = all_boxed ps short.1 in
      (b.0 ∷ m.0, (λ i. cons (b.1 i) (m.1 i)), ap suc m.2)
