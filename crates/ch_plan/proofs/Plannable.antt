-- Sound queries are plannable: each column that they name is carried.
use Rattle.std.proofs.Common.{◌≡◌, ◌≤◌, ℕ, List, [], ◌∷◌, ◌++◌, length, Some, None, refl, arith, inl, inr}
use Rattle.std.specs.Prelude.{max}
use Rattle.ch_lists.specs.Members.{Each}
use Rattle.ch_lists.proofs.Members.{In-left, In-map_from, In-right}
use Rattle.ch_pred.specs.Named.{inner_cols, outer_named, pred_cols, printed_cols, shape_cols}
use Rattle.ch_pred.specs.Plain.{plain_of}
use Rattle.ch_pred.specs.Sound.{AreSided, IsCarried, IsSound, sides_of}
use Rattle.ch_pred.specs.declared.bound.Bound.{Bound}
use Rattle.ch_pred.specs.declared.bound.Shape.{Shape}
use Rattle.ch_pred.specs.declared.bound.Shape.TheVariants as shape
use Rattle.ch_pred.specs.declared.pred.Col.{Col}
use Rattle.ch_plan.specs.Kinds.{IsPlannable, NumbersFit}
use Rattle.ch_plan.specs.Needs.{greatest_length}

module _ (b : Bound) (sound : IsSound b) where
  abbrev Carried : List Col → Type 0
  Carried cols = Each (λ c. IsCarried b c.side c.at) cols

  outer_carried : Carried (outer_named b)
  outer_carried c i = sound.columns c (In-left c (outer_named b) (inner_cols b.shape) i)

  printed_carried : Carried (printed_cols b.printed)
  printed_carried c i =
      let filtered : List Col = pred_cols (plain_of b.filter) in
      outer_carried c (In-left c (filtered ++ printed_cols b.printed) (shape_cols b.shape) (In-right c filtered (printed_cols b.printed) i))

  shape_carried : Carried (shape_cols b.shape)
  shape_carried c i = outer_carried c (In-right c (pred_cols (plain_of b.filter) ++ printed_cols b.printed) (shape_cols b.shape) i)

  inner_carried : Carried (inner_cols b.shape)
  inner_carried c i = sound.columns c (In-right c (outer_named b) (inner_cols b.shape) i)

  plannable_by : (s : Shape) → length b.carried ≡ sides_of s → Carried (shape_cols s) → Carried (inner_cols s) → AreSided s (outer_named b) → NumbersFit s → IsPlannable b s
  plannable_by shape.Filter one cols inner sides fit = tt
  plannable_by shape.Distinct one cols inner sides fit = (printed_carried, one)
  plannable_by (shape.Top by descending limit) one cols inner sides fit = (cols by (inl refl), fit)
  plannable_by (shape.Group keys max value) one cols inner sides fit = (((λ c i. cols c (inr i)), one), cols value (inl refl))
  plannable_by (shape.Having keys None above) one cols inner sides fit = ((cols, one), tt, fit)
  plannable_by (shape.Having keys (Some value) above) one cols inner sides fit = (((λ c i. cols c (inr i)), one), cols value (inl refl), fit)
  plannable_by (shape.Join left right) one cols inner sides fit = (cols left (inl refl), cols right (inr (inl refl)), sides.0, sides.1)
  plannable_by (shape.Skyline dims) one cols inner sides fit = ((λ k i. cols k.col (In-map_from (λ d. d.col) k dims i)), fit.0, fit.1)
  plannable_by (shape.Semi key within) one cols inner sides fit = (cols key (inl refl), inner within (inl refl))

  pub sound_is_plannable : NumbersFit b.shape → IsPlannable b b.shape
  sound_is_plannable fit = plannable_by b.shape sound.tables.1 shape_carried inner_carried sound.sides fit

pub few_carried : (lists : List (List ℕ)) (most : ℕ) → Each (λ columns. length columns ≤ most) lists → greatest_length lists ≤ most
few_carried [] most h = omega arith
few_carried (columns ∷ lists) most h = let first = h columns (inl refl) in let rest = few_carried lists most (λ l i. h l (inr i)) in omega arith
