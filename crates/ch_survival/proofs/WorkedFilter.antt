-- The worked plan.
use Rattle.std.proofs.Common.{◌≡◌, ℕ, zero, suc, [], ◌∷◌, length, refl, inl, inr, arith}
use Rattle.ch_lists.specs.Members.{In}
use Rattle.ch_pred.specs.Sound.{IsAscending, IsCarried, IsSound, carried_of, kind_of, kinds_of}
use Rattle.ch_pred.specs.declared.pred.Arg.TheVariants as arg
use Rattle.ch_pred.specs.declared.pred.Cmp.TheVariants as cmp
use Rattle.ch_pred.specs.declared.pred.Col.{Col}
use Rattle.ch_pred.specs.declared.pred.Literal.TheVariants as literal
use Rattle.ch_pred.proofs.Layers.{plain_of-Compare}
use Rattle.std.specs.Prelude.{pos}
use Rattle.ch_words.specs.Packets.{TableFits, column, table_of}
use Rattle.ch_words.specs.Rows.{row_seen}
use Rattle.ch_plan.specs.declared.kind.PlanKind.TheVariants as kind
use Rattle.ch_survival.specs.InRange.{AreInRange}
use Rattle.ch_survival.specs.Worked.{FilterSurvives, a, query, tables}

carried : (side : ℕ) → IsAscending (carried_of query side) × (length (kinds_of query side) ≡ length (carried_of query side))
carried zero = (tt, refl)
carried (suc side) = (tt, refl)

named_carried : (c : Col) → In c (a ∷ a ∷ []) → IsCarried query c.side c.at
named_carried c (inl e) = rw e (inl refl)
named_carried c (inr (inl e)) = rw e (inl refl)
named_carried c (inr (inr i)) = elim i [ ]

sound : IsSound query
sound = record {
  tables = (refl, refl, refl);
  sides = tt;
  carried = carried;
  header = refl;
  columns = rw (plain_of-Compare a cmp.Gt (arg.Value (literal.Number (pos 4)))) named_carried;
  whole = rw (plain_of-Compare a cmp.Gt (arg.Value (literal.Number (pos 4)))) (inr tt);
  keys = tt;
  best = refl;
  sums = tt;
  alike = tt;
}

cells : (side : ℕ) → TableFits [] (λ s at. kind_of query (column s at)) query side (table_of tables side)
cells zero row (inl e) at (inl c) = rw (e, c) tt
cells zero row (inr (inl e)) at (inl c) = rw (e, c) tt
cells zero row (inr (inr i)) at c = elim i [ ]
cells zero row (inl e) at (inr x) = elim x [ ]
cells zero row (inr (inl e)) at (inr x) = elim x [ ]
cells (suc side) row i at c = elim i [ ]

range : AreInRange [] query tables
range zero row (inl e) at (inl c) = rw (e, c) refl
range zero row (inr (inl e)) at (inl c) = rw (e, c) refl
range zero row (inr (inr i)) at c = elim i [ ]
range zero row (inl e) at (inr x) = elim x [ ]
range zero row (inr (inl e)) at (inr x) = elim x [ ]
range (suc side) row i at c = elim i [ ]

pub filter_survives : FilterSurvives
unfolding row_seen
filter_survives = record {
  asked = record { sound = sound; ascends = tt; fits = record { sides = refl; cells = cells }; range = range; sums = λ r i. refl };
  planned = (kind.Filter (record { front = record {}; ops = 64; width = 4; least = omega arith; some = omega arith }), record { own = refl; policy = refl; program = refl; times = refl; needs = refl; most = refl; within = refl; serves = λ d gate fits. (refl, fits) });
  rows = rw (plain_of-Compare a cmp.Gt (arg.Value (literal.Number (pos 4)))) refl;
  over_cells = rw (plain_of-Compare a cmp.Gt (arg.Value (literal.Number (pos 4)))) refl;
  without_pruned = rw (plain_of-Compare a cmp.Gt (arg.Value (literal.Number (pos 4)))) refl;
}
