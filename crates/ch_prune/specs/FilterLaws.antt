-- The laws of Filter.
use Rattle.std.proofs.Common.{◌≡◌, ◌≤◌, ℕ, Bool, true, false, [], pos, refl, arith, None}
use Rattle.std.specs.Prelude.{not}
use Rattle.std.proofs.lemmas.Bool.{lt-ltb, le-ltb, eq-eqb, and_parts}
use Rattle.ch_cover.specs.Rows.{Row}
use Rattle.ch_cover.specs.Cover.{CoversOnce}
use Rattle.ch_cover.proofs.Narrower.{narrower_once}
use Rattle.std.specs.Ordering.{int_eq}
use Rattle.ch_ir.specs.Machine.{is_set, truth}
use Rattle.ch_ir.specs.Measure.{sizes_of}
use Rattle.ch_ir.specs.Rules.{BreaksNoRule, rule_refusal}
use Rattle.ch_pred.specs.declared.bound.Bound.{Bound}
use Rattle.ch_verdicts.specs.Agrees.{Agrees}
use Rattle.ch_words.specs.Policies.{by_bit}
use Rattle.ch_words.specs.Rows.{Gate, answer_over, is_gated}
use Rattle.ch_words.specs.Words.{Reading}
use Rattle.ch_words.proofs.FilterCover as covers
use Rattle.ch_prune.specs.Needs.{IsWithin}
use Rattle.ch_prune.specs.Sent.{is_sent}
use Rattle.ch_prune.specs.Filtering.{filter_program, filter_need, FilterServes}

-- the verdict on a bit
opposite : (bit : Bool) → is_set (truth (int_eq (truth bit) (pos 0))) ≡ not bit
opposite true = refl
opposite false = refl

pub filter_agrees : (width : ℕ) → 3 ≤ width → Agrees (λ r. true) (filter_program width) None [] by_bit
filter_agrees width h before x b r = rw (lt-ltb 2 width h, eq-eqb width width refl) (opposite x.1.bit)

pub filter_sent : (d : Reading) (b : Bound) (gate : Gate) → FilterServes d b gate → (r : Row) → is_sent gate b r ≡ true → true ≡ true
filter_sent d b gate s r h = refl

pub filter_unbroken : (width : ℕ) → 3 ≤ width → BreaksNoRule (filter_program width)
unfolding rule_refusal
filter_unbroken width h = rw (lt-ltb 2 width h, le-ltb width width (omega arith), eq-eqb width width refl) refl

pub filter_measured : (width ops : ℕ) → 3 ≤ width → 1 ≤ ops → IsWithin (filter_need width) ops (sizes_of (filter_program width))
unfolding sizes_of
filter_measured width ops h many = record {
  width = refl;
  cells = omega arith;
  words = omega arith;
  stages = omega arith;
  many = omega arith;
}

pub filter_covers : (d : Reading) (b : Bound) (gate : Gate) → FilterServes d b gate → CoversOnce (is_sent gate b) by_bit (answer_over d b)
filter_covers d b gate s =
    narrower_once (is_gated gate b) (is_sent gate b) by_bit (answer_over d b) (λ r h. (and_parts (is_gated gate b r) _ h).0) (covers.filter_covers d b gate s.0 s.1)
