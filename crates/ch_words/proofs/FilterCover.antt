-- What a filter by the bit prunes doesn't change the answer of a kind of one table.
use Rattle.std.proofs.Common.{◌≡◌, Bool, true, false, cond, not, List, [], ◌∷◌, map, filter, refl, sym, ◌∙◌, ap}
use Rattle.std.specs.Prelude.{ℤ}
use Rattle.std.specs.Ordering.{int_cmp}
use Rattle.ch_cover.specs.Rows.{Row}
use Rattle.ch_cover.specs.Cover.{CoversOnce}
use Rattle.ch_cover.proofs.Stepwise.{once_from_steps}
use Rattle.ch_pred.specs.Values.{View}
use Rattle.ch_pred.specs.Meaning.{of_held, in_order}
use Rattle.ch_pred.specs.declared.bound.Bound.{Bound}
use Rattle.ch_words.specs.Words.{Reading, asked_of_words}
use Rattle.ch_words.specs.Rows.{row_seen, answer_over, Gate, GateFits, is_gated, open_seen}
use Rattle.ch_pred.specs.Sound.{has_one_table}
use Rattle.ch_words.specs.Policies.{by_bit}
use Rattle.ch_words.proofs.OneTable.{over_order, over_open}

-- the rows that hold with a row more
pub open_more : (b : Bound) (r : Row) (t : Bool) → r.bit ≡ t → (rows : List Row) → open_seen b (r ∷ rows) ≡ cond t (row_seen b r ∷ open_seen b rows) (open_seen b rows)
open_more b r true e rows = ap (λ (t : Bool). map (row_seen b) (cond t (r ∷ filter (λ x. x.bit) rows) (filter (λ x. x.bit) rows))) e
open_more b r false e rows = ap (λ (t : Bool). map (row_seen b) (cond t (r ∷ filter (λ x. x.bit) rows) (filter (λ x. x.bit) rows))) e

pub filter_covers : (d : Reading) (b : Bound) (gate : Gate) → has_one_table b.shape ≡ true → GateFits gate (asked_of_words d b) b.shape → CoversOnce (is_gated gate b) by_bit (answer_over d b)
filter_covers d b gate one fits = once_from_steps (is_gated gate b) by_bit (answer_over d b) (open_seen b) (record {
  order = λ xs ys are p. over_order d b xs ys p;
  tells = λ xs ys ax ay e. over_open d b gate one fits xs ax ∙ (ap (λ held. in_order int_cmp b.shape (of_held b.shape (asked_of_words d b) held [])) e ∙ sym (over_open d b gate one fits ys ay));
  more = λ r xs ys ax ay e. open_more b r r.bit refl xs ∙ (ap (λ (zs : List (View ℤ)). cond r.bit (row_seen b r ∷ zs) zs) e ∙ sym (open_more b r r.bit refl ys));
  drop = λ r before are p. pruned r r.bit refl before p;
})
  where
    pruned : (r : Row) (t : Bool) → r.bit ≡ t → (before : List Row) → not r.bit ≡ true → open_seen b (r ∷ before) ≡ open_seen b before
    pruned r true e before p = absurd (cc (ap not e, p))
    pruned r false e before p = open_more b r false e before
