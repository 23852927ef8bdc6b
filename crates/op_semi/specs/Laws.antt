-- The laws of a semi-join as an operator.
use Rattle.std.proofs.Common.{◌≡◌, eqb, eqb-true, Bool, true, false, not, ◌&&◌, ◌||◌, [], ◌∷◌, refl, sym, ap, inl, inr}
use Rattle.std.specs.Prelude.{ℤ}
use Rattle.std.proofs.lemmas.Bool.{and_parts, or_cases}
use Rattle.ch_cover.specs.Cover.{CoversTwice}
use Rattle.ch_cover.proofs.Narrower.{narrower_twice}
use Rattle.ch_pred.specs.declared.bound.Bound.{Bound}
use Rattle.ch_prune.specs.Sent.{is_sent}
use Rattle.ch_words.specs.Policies.{Key}
use Rattle.ch_words.specs.Prunable.{PrunesUnmatched}
use Rattle.ch_words.specs.Rows.{Gate, answer_over, is_gated}
use Rattle.ch_words.specs.Words.{Reading}
use Rattle.ch_words.proofs.SemiCover as covers
use Rattle.op_bloom.specs.Policy.{key_of, passes_bloom}
use Rattle.op_bloom.specs.Partners.{history, no_partner}
use Rattle.op_bloom.specs.Sides.{left_key, right_key}
use Rattle.op_semi.specs.declared.sizes.Sizes.{Sizes}
use Rattle.op_semi.specs.Policy.{passed, inner_key, hash_row, is_listed, prunes}
use Rattle.op_semi.specs.Came.{listed_came, passed_second}
use Rattle.op_semi.specs.Serves.{SemiServes}

not_true : (t : Bool) → not t ≡ true → t ≡ false
not_true true e = sym e
not_true false e = refl

abbrev head_of : ℤ → Key → ℤ
head_of none [] = none
head_of none (k ∷ ks) = k

-- an open row that is pruned has no open row of the other side with its key in the first pass, or is an inner row that comes
-- after one of its key in the second
prunes_unmatched : (d : Sizes) → PrunesUnmatched (key_of d.bloom) (prunes d)
prunes_unmatched d r second first set p =
    let test : Bool = passes_bloom d.bloom (history second first) r in
    let listed : Bool = is_listed d (history second first) r in
    elim (or_cases (not r.bit) (not test || (eqb r.side 1 && listed)) p) [
      | inl shut ↦ absurd (cc (shut, set))
      | inr more ↦ elim (or_cases (not test) (eqb r.side 1 && listed) more) [
        | inl fails ↦ inl (no_partner d.bloom second first r (not_true test fails))
        | inr last ↦
            let t = and_parts (eqb r.side 1) listed last in
            let came = listed_came d.cols (hash_row d) (inner_key d) (inner_key d r) (passed d (history second first)) (hash_row d (inner_key d r)) t.1 in
            let y = passed_second d came.0 second first came.1 in
            inr ((came.0).1, eqb-true r.side 1 t.0, y.1, y.0, ap (head_of (key_of d.bloom r)) came.2)
      ]
    ]

pub semi_covers : (d : Sizes) (o : Reading) (b : Bound) (gate : Gate) → SemiServes d o b gate → CoversTwice (is_sent gate b) (prunes d) (answer_over o b)
semi_covers d o b gate s =
    narrower_twice (is_gated gate b) (is_sent gate b) (prunes d) (answer_over o b) (λ r h. (and_parts (is_gated gate b r) _ h).0)
    (covers.semi_covers o b gate s.key s.within s.own s.fits (prunes d) (key_of d.bloom)
    (left_key d.bloom b s.key s.key_place) (right_key d.bloom b s.within s.inner_place) (prunes_unmatched d))
