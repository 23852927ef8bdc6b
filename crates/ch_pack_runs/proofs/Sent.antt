-- A row that is sent has few words, and each fits.
use Rattle.std.proofs.Common.{◌≡◌, ◌≤◌, refl, ℕ, suc, ◌+◌, Bool, true, false, cond, eqb, eqb-true, List, [], ◌∷◌, length, arith, inl, inr}
use Rattle.std.specs.Prelude.{ℤ, pos, negsuc, FitsSigned}
use Rattle.std.specs.Int.{w64}
use Rattle.std.specs.List.{list_all}
use Rattle.std.proofs.lemmas.Bool.{and_parts, leb-true}
use Rattle.ch_cover.specs.Rows.{Row, same_bit}
use Rattle.ch_ir.specs.Machine.{truth}
use Rattle.ch_plan.proofs.Placed.{shorter}
use Rattle.ch_plan.specs.Needs.{greatest_length}
use Rattle.ch_pred.specs.Sound.{carried_of, has_one_table}
use Rattle.ch_pred.specs.declared.bound.Bound.{Bound}
use Rattle.ch_prune.specs.Sent.{is_cell_word, is_sent}
use Rattle.ch_verdicts.specs.Agrees.{IsTaken}
use Rattle.ch_verdicts.specs.Handed.{IsPass, front}
use Rattle.ch_verify.specs.Fits.{AllFits}
use Rattle.ch_words.specs.Rows.{Gate, is_gated, is_sided, row_seen}

-- a word in the cell range is an i64
word_fits : (v : ℤ) → is_cell_word v ≡ true → FitsSigned w64 v
word_fits (pos n) h = let e = leb-true n 2305843009213693951 h in record { sfits = omega arith }
word_fits (negsuc n) h = let e = leb-true (suc n) 2305843009213693951 h in record { sfits = omega arith }

words_fit : (words : List ℤ) → list_all is_cell_word words ≡ true → AllFits words
words_fit [] h = tt
words_fit (v ∷ words) h = let p = and_parts (is_cell_word v) (list_all is_cell_word words) h in (word_fits v p.0, words_fit words p.1)

small_fits : (n : ℕ) → n ≤ 2 → FitsSigned w64 (pos n)
small_fits n h = record { sfits = omega (arith, h) }

side_small : (side : ℕ) (one : Bool) → cond one (eqb side 0) (cond (eqb side 0) true (eqb side 1)) ≡ true → side ≤ 2
side_small side true h = let e = eqb-true side 0 h in omega (arith, e)
side_small side false h = by (eqb side 0) (λ e. eqb-true side 0 e) h
  where
    by : (first : Bool) → (first ≡ true → side ≡ 0) → cond first true (eqb side 1) ≡ true → side ≤ 2
    by true zero_is k = let e = zero_is refl in omega (arith, e)
    by false zero_is k = let e = eqb-true side 1 k in omega (arith, e)

pass_small : (pass : ℕ) → IsPass pass → pass ≤ 2
pass_small pass (inl e) = omega (arith, e)
pass_small pass (inr e) = omega (arith, e)

bit_fits : (bit : Bool) → FitsSigned w64 (truth bit)
bit_fits true = small_fits 1 (omega arith)
bit_fits false = small_fits 0 (omega arith)

module _ (gate : Gate) (b : Bound) (x : ℕ × Row) (taken : IsTaken (is_sent gate b) x) where
  pub few_words : length (front x.0 x.1) ≤ greatest_length b.carried + 3
  few_words =
      let p = and_parts (is_gated gate b x.1) _ taken.1 in
      let q = and_parts (eqb (length x.1.words) (length (carried_of b x.1.side))) _ p.1 in
      let e = eqb-true (length x.1.words) (length (carried_of b x.1.side)) q.0 in
      let m = shorter b.carried x.1.side in
      omega (arith, e, m)

  pub words_are_small : AllFits (front x.0 x.1)
  words_are_small =
      let p = and_parts (is_gated gate b x.1) _ taken.1 in
      let q = and_parts (eqb (length x.1.words) (length (carried_of b x.1.side))) _ p.1 in
      let w = and_parts (list_all is_cell_word x.1.words) _ q.1 in
      let g = and_parts (is_sided b.shape x.1) (same_bit x.1.bit (gate x.1.side (row_seen b x.1))) p.0 in
      (small_fits x.0 (pass_small x.0 taken.0), (small_fits x.1.side (side_small x.1.side (has_one_table b.shape) g.0), (bit_fits x.1.bit, words_fit x.1.words w.0)))
