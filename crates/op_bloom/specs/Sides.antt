-- The rows that workers send are of the two sides, and their key words are those of the key columns.
use Rattle.std.proofs.Common.{◌≡◌, ◌<◌, ℕ, Bool, true, false, refl, ◌∙◌, ap, arith}
use Rattle.std.specs.Prelude.{◌==◌, if◌then◌else◌}
use Rattle.std.proofs.lemmas.Bool.{and_parts, eqb-true, lt-ltb}
use Rattle.ch_cover.specs.Rows.{Row}
use Rattle.ch_pred.specs.Meaning.{at}
use Rattle.ch_pred.specs.Sound.{has_one_table}
use Rattle.ch_pred.specs.declared.bound.Bound.{Bound}
use Rattle.ch_pred.specs.declared.pred.Col.{Col}
use Rattle.ch_prune.specs.Sent.{is_sent}
use Rattle.ch_words.specs.Rows.{Gate, is_gated, is_sided, row_seen}
use Rattle.op_moves.specs.Columns.{StandsAt, column_word}
use Rattle.op_moves.specs.Values.{word_at}
use Rattle.op_bloom.specs.declared.sizes.Sizes.{Sizes}
use Rattle.op_bloom.specs.Policy.{key_of}
use Rattle.op_bloom.specs.Filter.{has_side}

of_two : (side : ℕ) (one : Bool) → (if one then side == 0 else (if side == 0 then true else side == 1)) ≡ true → side < 2
of_two side true h = let e : side ≡ 0 = eqb-true side 0 h in omega arith
of_two side false h = go (side == 0) refl h
  where
    go : (t : Bool) → (side == 0) ≡ t → (if t then true else side == 1) ≡ true → side < 2
    go true e h = let z : side ≡ 0 = eqb-true side 0 e in omega arith
    go false e h = let z : side ≡ 1 = eqb-true side 1 h in omega arith

pub sent_has_side : (b : Bound) (gate : Gate) (r : Row) → is_sent gate b r ≡ true → has_side r ≡ true
sent_has_side b gate r h =
    let gated = (and_parts (is_gated gate b r) _ h).0 in
    lt-ltb r.side 2 (of_two r.side (has_one_table b.shape) (and_parts (is_sided b.shape r) _ gated).0)

-- the key of a row is its side's key column
pub left_key : (d : Sizes) (b : Bound) (col : Col) → StandsAt b col d.left → (r : Row) → r.side ≡ 0 → key_of d r ≡ at (row_seen b r) col
left_key d b col h r e = ap (λ (n : ℕ). if n == 0 then word_at r d.left else word_at r d.right) e ∙ column_word b col d.left r h

pub right_key : (d : Sizes) (b : Bound) (col : Col) → StandsAt b col d.right → (r : Row) → r.side ≡ 1 → key_of d r ≡ at (row_seen b r) col
right_key d b col h r e = ap (λ (n : ℕ). if n == 0 then word_at r d.left else word_at r d.right) e ∙ column_word b col d.right r h
