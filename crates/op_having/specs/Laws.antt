-- The laws of Having as an operator.
use Rattle.std.proofs.Common.{◌≡◌, ℕ, true, List, refl, sym, ◌∙◌, ap, Option, Some, None}
use Rattle.std.specs.Prelude.{ℤ, int_le, pos}
use Rattle.std.proofs.lemmas.Bool.{and_from, and_parts}
use Rattle.ch_cover.specs.Rows.{Row}
use Rattle.ch_cover.specs.Cover.{CoversTwice}
use Rattle.ch_cover.proofs.Narrower.{narrower_twice}
use Rattle.ch_pred.specs.Meaning.{amount, at_each}
use Rattle.ch_pred.specs.Values.{words}
use Rattle.ch_pred.specs.declared.bound.Bound.{Bound}
use Rattle.ch_pred.specs.declared.bound.Shape.{Shape}
use Rattle.ch_pred.specs.declared.bound.Shape.TheVariants as shape
use Rattle.ch_pred.specs.declared.pred.Col.{Col}
use Rattle.ch_prune.specs.Sent.{is_countable, is_sent}
use Rattle.ch_words.specs.Prunable.{is_summed}
use Rattle.ch_words.specs.Rows.{Gate, answer_over, is_gated, row_seen}
use Rattle.ch_words.specs.Words.{Reading}
use Rattle.ch_words.proofs.HavingCover as covers
use Rattle.op_moves.specs.Columns.{column_word, only_columns}
use Rattle.op_having.specs.declared.sizes.Sizes.{Sizes}
use Rattle.op_having.specs.Fine.{IsFine}
use Rattle.op_having.specs.Policy.{amount_at, prunes}
use Rattle.op_having.specs.Agrees.{counts, above_low}
use Rattle.op_having.specs.Serves.{HavingServes, IsSumPlace}
use Rattle.op_having.specs.Small.{prunes_small}

-- what a row counts is what its column says
own_amount : (b : Bound) (r : Row) (place : Option ℕ) (sum : Option Col) → IsSumPlace b place sum → amount_at place r ≡ amount words sum (row_seen b r)
own_amount b r None None h = refl
own_amount b r None (Some c) h = absurd h
own_amount b r (Some w) None h = absurd h
own_amount b r (Some w) (Some c) h = column_word b c w r h

-- what the test of sent rows says of an amount
countable : (b : Bound) (r : Row) (keys : List Col) (sum : Option Col) (above : ℤ) → is_countable b r (shape.Having keys sum above) ≡ true → int_le (pos 0) (amount words sum (row_seen b r)) ≡ true
countable b r keys None above h = refl
countable b r keys (Some value) above h = h

module _ (d : Sizes) (o : Reading) (b : Bound) (gate : Gate) (s : HavingServes d o b gate) where
  abbrev value : Row → ℤ
  value r = amount words s.sum (row_seen b r)

  sent_is_summed : (r : Row) → is_sent gate b r ≡ true → is_summed gate b value r ≡ true
  sent_is_summed r h =
      let p = and_parts (is_gated gate b r) _ h in
      let c = (and_parts _ (is_countable b r b.shape) (and_parts _ _ p.1).1).1 in
      and_from _ _ p.0 (countable b r s.keys s.sum d.above (ap (λ (k : Shape). is_countable b r k) (sym s.own) ∙ c))

  pub having_sent : (r : Row) → is_sent gate b r ≡ true → counts d r ≡ true
  having_sent r h = ap (int_le (pos 0)) (own_amount b r d.value s.sum s.sum_place) ∙ (and_parts (is_gated gate b r) (int_le (pos 0) (value r)) (sent_is_summed r h)).1

  pub having_covers : IsFine d → CoversTwice (is_sent gate b) (prunes d) (answer_over o b)
  having_covers fine =
      narrower_twice (is_summed gate b value) (is_sent gate b) (prunes d) (answer_over o b) sent_is_summed
      (covers.having_covers o b gate s.keys s.sum d.above s.own s.fits (prunes d)
      (prunes_small d (above_low d fine) gate b (λ r. at_each (row_seen b r) s.keys) value (λ r x e. sym (only_columns b s.keys d.keys r x s.only e)) (λ r. own_amount b r d.value s.sum s.sum_place)))
