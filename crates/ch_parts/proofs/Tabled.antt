-- The table of a side, as it is found.
use Rattle.std.proofs.Common.{◌≡◌, ℕ, zero, suc, ◌<◌, List, [], ◌∷◌, length, ap, sym, ◌∙◌, refl, arith, All}
use Rattle.std.specs.Prelude.{slice_index, slice_index_or}
use Rattle.ch_pred.specs.declared.bound.Bound.{Bound}
use Rattle.ch_tables.specs.TableValue.{TableValue}
use Rattle.ch_parts.specs.Scanned.{no_table, side_table}
use Rattle.ch_parts.proofs.Spelling.{all_at}

pub same_item : {X : Type 0} (xs : List X) (i : ℕ) (d e : X) → i < length xs → slice_index_or xs i d ≡ slice_index_or xs i e
same_item [] i d e lt = absurd (omega arith)
same_item (x ∷ xs) zero d e lt = refl
same_item (x ∷ xs) (suc i) d e lt = same_item xs i d e (omega (arith, lt))

pub table_read : (b : Bound) (tables : List TableValue) (side : ℕ) (lent : List ℕ) (t : TableValue) → lent ≡ b.tables → side < length b.tables
    → All (λ n. n < length tables) b.tables → t ≡ slice_index_or tables (slice_index lent side) t → side_table b tables side ≡ t
table_read b tables side lent t e lt there at =
    let n : slice_index lent side ≡ slice_index_or b.tables side 0 = ap (λ l. slice_index_or l side 0) e in
    let k : slice_index_or b.tables side 0 < length tables = all_at (λ n. n < length tables) b.tables side (slice_index_or b.tables side 0) there lt (same_item b.tables side 0 (slice_index_or b.tables side 0) lt) in
    same_item tables (slice_index_or b.tables side 0) no_table t k ∙ (sym (ap (λ i. slice_index_or tables i t) n) ∙ sym at)
