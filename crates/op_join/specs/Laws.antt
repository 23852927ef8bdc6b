-- The laws of a join as an operator.
use Rattle.std.proofs.Common.{◌≡◌, Bool, true, false, not, refl, sym, inl, inr}
use Rattle.std.proofs.lemmas.Bool.{and_parts, or_cases}
use Rattle.ch_cover.specs.Rows.{Row}
use Rattle.ch_cover.specs.Cover.{CoversTwice}
use Rattle.ch_cover.proofs.Narrower.{narrower_twice}
use Rattle.ch_pred.specs.declared.bound.Bound.{Bound}
use Rattle.ch_prune.specs.Sent.{is_sent}
use Rattle.ch_words.specs.Prunable.{PrunesAlone}
use Rattle.ch_words.specs.Rows.{Gate, answer_over, is_gated}
use Rattle.ch_words.specs.Words.{Reading}
use Rattle.ch_words.proofs.JoinCover as covers
use Rattle.op_bloom.specs.declared.sizes.Sizes.{Sizes}
use Rattle.op_bloom.specs.Policy.{key_of, passes_bloom}
use Rattle.op_bloom.specs.Filter.{has_side}
use Rattle.op_bloom.specs.Partners.{history, no_partner}
use Rattle.op_bloom.specs.Sides.{sent_has_side, left_key, right_key}
use Rattle.op_join.specs.Policy.{prunes}
use Rattle.op_join.specs.Serves.{JoinServes}

-- an open row that is pruned has no open row of another side with its key in the first pass
prunes_alone : (d : Sizes) → PrunesAlone (key_of d) (prunes d)
prunes_alone d r second first set p = elim (or_cases (not r.bit) (not (passes_bloom d (history second first) r)) p) [
  | inl shut ↦ absurd (cc (shut, set))
  | inr fails ↦ no_partner d second first r (not_true (passes_bloom d (history second first) r) fails)
]
  where
    not_true : (t : Bool) → not t ≡ true → t ≡ false
    not_true true e = sym e
    not_true false e = refl

pub join_sent : (b : Bound) (gate : Gate) (r : Row) → is_sent gate b r ≡ true → has_side r ≡ true
join_sent b gate r h = sent_has_side b gate r h

pub join_covers : (d : Sizes) (o : Reading) (b : Bound) (gate : Gate) → JoinServes d o b gate → CoversTwice (is_sent gate b) (prunes d) (answer_over o b)
join_covers d o b gate s =
    narrower_twice (is_gated gate b) (is_sent gate b) (prunes d) (answer_over o b) (λ r h. (and_parts (is_gated gate b r) _ h).0)
    (covers.join_covers o b gate s.left s.right s.own s.left_side s.right_side s.fits (prunes d) (key_of d)
    (left_key d b s.left s.left_place) (right_key d b s.right s.right_place) (prunes_alone d))
