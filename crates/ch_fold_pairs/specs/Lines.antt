-- Lines of rows whose next word is one of some.
use Rattle.std.specs.Prelude.{ℕ, List, map, filter, slice_index_or, ℤ, pos}
use Rattle.std.specs.Ordering.{int_cmp}
use Rattle.ch_lists.specs.Ordered.{is_among}
use Rattle.ch_flat.specs.Flat.{pick}
use Rattle.ch_fold_pairs.specs.Places.{firsts}

-- the first so many words of each row whose next word is one of some
abbrev pub matched_lines : ℕ → List ℤ → List (List ℤ) → List (List ℤ)
matched_lines n inner rows = map (λ row. pick row (firsts n)) (filter (λ row. is_among int_cmp (slice_index_or row n (pos 0)) inner) rows)
