-- The laws of Distinct.
use Rattle.std.proofs.Common.{◌≡◌, ◌≤◌, ℕ, Bool, true, List, [], ◌∷◌, ℤ, pos, refl, ap₂, map, None, inl, inr}
use Rattle.std.proofs.lemmas.Bool.{and_parts}
use Rattle.ch_lists.specs.Members.{In}
use Rattle.ch_cover.specs.Rows.{Row}
use Rattle.ch_cover.specs.Cover.{CoversOnce}
use Rattle.ch_cover.proofs.Narrower.{narrower_once}
use Rattle.ch_ir.specs.Machine.{cleared}
use Rattle.ch_pred.specs.Meaning.{line}
use Rattle.ch_pred.specs.Named.{printed_cols}
use Rattle.ch_pred.specs.declared.bound.Bound.{Bound}
use Rattle.ch_pred.specs.declared.bound.Printed.{Printed}
use Rattle.ch_pred.specs.declared.bound.Printed.TheVariants as printed
use Rattle.ch_prune.specs.Sent.{is_sent}
use Rattle.ch_verdicts.specs.Agrees.{Agrees}
use Rattle.ch_words.specs.Rows.{Gate, answer_over, is_gated, row_seen}
use Rattle.ch_words.specs.Words.{Reading}
use Rattle.ch_words.proofs.DistinctCover as covers
use Rattle.op_moves.specs.Columns.{AreRead, read_column}
use Rattle.op_moves.specs.Steps.{steps_agree}
use Rattle.op_moves.specs.Values.{word_at}
use Rattle.op_distinct.specs.Sizes.{Sizes, IsFine}
use Rattle.op_distinct.specs.Program.{distinct_program}
use Rattle.op_distinct.specs.Run.{distinct_steps, registers_after}
use Rattle.op_distinct.specs.Serving.{DistinctServes, distinct_policy, hash_row, key_of}

pub distinct_agrees : (s : Sizes) → IsFine s → Agrees (λ r. true) (distinct_program s) None (cleared (distinct_program s).arrays) (distinct_policy s)
distinct_agrees s fine = steps_agree (λ r. true) (distinct_program s) (distinct_policy s) (registers_after s) (distinct_steps s fine)

pub distinct_sent : (s : Sizes) (d : Reading) (b : Bound) (gate : Gate) → DistinctServes s d b gate → (r : Row) → is_sent gate b r ≡ true → true ≡ true
distinct_sent s d b gate serves r h = refl

-- rows with the same key print the same
prints : (b : Bound) (places : List ℕ) (r x : Row) (items : List Printed) → AreRead b (printed_cols items) places → map (word_at r) places ≡ map (word_at x) places
    → line items (pos 0) (row_seen b r) ≡ line items (pos 0) (row_seen b x)
prints b places r x [] read e = refl
prints b places r x (printed.Column c ∷ items) read e =
    ap₂ (λ (v : ℤ) (vs : List ℤ). v ∷ vs) (read_column b c places r x (read c (inl refl)) e) (prints b places r x items (λ k i. read k (inr i)) e)
prints b places r x (printed.Best ∷ items) read e = ap₂ (λ (v : ℤ) (vs : List ℤ). v ∷ vs) refl (prints b places r x items read e)

pub distinct_covers : (s : Sizes) (d : Reading) (b : Bound) (gate : Gate) → DistinctServes s d b gate → CoversOnce (is_sent gate b) (distinct_policy s) (answer_over d b)
distinct_covers s d b gate serves =
    narrower_once (is_gated gate b) (is_sent gate b) (distinct_policy s) (answer_over d b) (λ r h. (and_parts (is_gated gate b r) _ h).0)
    (covers.distinct_covers s.cols (hash_row s) (key_of s) d b gate serves.own serves.fits (λ r x e. prints b s.key r x b.printed serves.read e))
