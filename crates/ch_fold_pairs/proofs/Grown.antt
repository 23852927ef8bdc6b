-- By how much what is kept grows, whether memory was there or not.
use Rattle.std.proofs.Common.{◌≡◌, ◌+◌, ◌≤◌, Bool, true, false, cond, List, [], ◌∷◌, ◌++◌, length, ap, length-append, arith, ℤ, Result, Ok, Err, OnOk, OnErr}
use Rattle.std.specs.Ordering.{int_cmp}
use Rattle.ch_lists.specs.Ordered.{is_among}
use Rattle.ch_flat.specs.Flat.{Flat, with_row}
use Rattle.ch_fold_laws.specs.Kept.{with_key}

with_key_length : (old : List ℤ) (w : ℤ) → length (with_key int_cmp old w) ≤ length old + 1
with_key_length old w = go (is_among int_cmp w old)
  where
    go : (t : Bool) → length (cond t old (old ++ w ∷ [])) ≤ length old + 1
    go true = omega arith
    go false = omega (arith, length-append old (w ∷ []))

pub words_grown : {T E : Type 0} (r : Result T E) (old new : List ℤ) (w : ℤ) → OnOk r (new ≡ with_key int_cmp old w) → OnErr r (new ≡ old) → length new ≤ length old + 1
words_grown (Ok x) old new w ok err = omega (arith, ap length ok, with_key_length old w)
words_grown (Err e) old new w ok err = omega (arith, ap length err)

pub rows_grown : {T E : Type 0} (r : Result T E) (old new : Flat) (row : List ℤ) → OnOk r (new ≡ with_row old row) → OnErr r (new ≡ old) → length new.rows ≤ length old.rows + 1
rows_grown (Ok x) old new row ok err = omega (arith, ap (λ (f : Flat). length f.rows) ok, length-append old.rows (row ∷ []))
rows_grown (Err e) old new row ok err = omega (arith, ap (λ (f : Flat). length f.rows) err)
