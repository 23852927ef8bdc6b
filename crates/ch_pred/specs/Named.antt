-- The columns that a query names.
use Rattle.std.specs.Prelude.{List, [], ◌∷◌, ◌++◌, map, Some, None}
use Rattle.ch_pred.specs.Plain.{Plain, Plains, Truth, Compare, Between, Within, Like, And, Or, Not, nil, cons, plain_of}
use Rattle.ch_pred.specs.declared.bound.Bound.{Bound}
use Rattle.ch_pred.specs.declared.bound.Printed.{Printed}
use Rattle.ch_pred.specs.declared.bound.Printed.TheVariants as printed
use Rattle.ch_pred.specs.declared.bound.Shape.{Shape}
use Rattle.ch_pred.specs.declared.bound.Shape.TheVariants as shape
use Rattle.ch_pred.specs.declared.pred.Arg.{Arg}
use Rattle.ch_pred.specs.declared.pred.Arg.TheVariants as arg
use Rattle.ch_pred.specs.declared.pred.Col.{Col}

abbrev pub arg_cols : Arg → List Col
arg_cols (arg.Column col) = col ∷ []
arg_cols (arg.Value value) = []

abbrev mutual
  pub pred_cols : Plain → List Col
  pred_cols Truth = []
  pred_cols (Compare col c other) = col ∷ arg_cols other
  pred_cols (Between col low high) = col ∷ []
  pred_cols (Within col literals) = col ∷ []
  pred_cols (Like col prefix) = col ∷ []
  pred_cols (And members) = all_cols members
  pred_cols (Or members) = all_cols members
  pred_cols (Not inner) = pred_cols inner

  pub all_cols : Plains → List Col
  all_cols nil = []
  all_cols (cons p ps) = pred_cols p ++ all_cols ps

abbrev pub printed_cols : List Printed → List Col
printed_cols [] = []
printed_cols (printed.Column col ∷ items) = col ∷ printed_cols items
printed_cols (printed.Best ∷ items) = printed_cols items

-- those of the kind, but for the inner column of a semi-join
abbrev pub shape_cols : Shape → List Col
shape_cols shape.Filter = []
shape_cols shape.Distinct = []
shape_cols (shape.Top by descending limit) = by ∷ []
shape_cols (shape.Group keys max value) = value ∷ keys
shape_cols (shape.Having keys None above) = keys
shape_cols (shape.Having keys (Some value) above) = value ∷ keys
shape_cols (shape.Join left right) = left ∷ right ∷ []
shape_cols (shape.Skyline dims) = map (λ d. d.col) dims
shape_cols (shape.Semi key inner) = key ∷ []

abbrev pub inner_cols : Shape → List Col
inner_cols shape.Filter = []
inner_cols shape.Distinct = []
inner_cols (shape.Top by descending limit) = []
inner_cols (shape.Group keys max value) = []
inner_cols (shape.Having keys sum above) = []
inner_cols (shape.Join left right) = []
inner_cols (shape.Skyline dims) = []
inner_cols (shape.Semi key inner) = inner ∷ []

-- each column that the query names but the inner one of a semi-join
abbrev pub outer_named : Bound → List Col
outer_named b = pred_cols (plain_of b.filter) ++ printed_cols b.printed ++ shape_cols b.shape

abbrev pub named : Bound → List Col
named b = outer_named b ++ inner_cols b.shape
