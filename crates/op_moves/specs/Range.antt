-- Words in the cell range.
use Rattle.std.proofs.Common.{◌≡◌, ℕ, zero, suc, true, List, [], ◌∷◌, ℤ, pos, negsuc, neg_ℤ, ◌≤ℤ◌, get_or, arith, leb-true, w64, Bool, false, ◌-◌}
use Rattle.std.specs.List.{list_all}
use Rattle.std.specs.Int.{saturate_signed}
use Rattle.std.proofs.lemmas.Bool.{and_parts}
use Rattle.std.proofs.lemmas.Int.{ints}
use Rattle.ch_cover.specs.Rows.{Row}
use Rattle.ch_ir.specs.Machine.{truth}
use Rattle.ch_prune.specs.Sent.{is_cell_word}
use Rattle.op_moves.specs.Values.{word_at}

pub record Small (v : ℤ) : Type 0 where
  pub low : negsuc 2305843009213693950 ≤ℤ v
  pub high : v ≤ℤ pos 2305843009213693951

pub cell_small : (v : ℤ) → is_cell_word v ≡ true → Small v
cell_small (pos n) h = let l = leb-true n 2305843009213693951 h in record { low = omega (arith, ints); high = omega (arith, ints) }
cell_small (negsuc n) h = let l = leb-true (suc n) 2305843009213693951 h in record { low = omega (arith, ints); high = omega (arith, ints) }

pub turned_small : (v : ℤ) → Small v → Small (neg_ℤ v)
turned_small v s = let l = s.low in let h = s.high in record { low = omega (arith, ints); high = omega (arith, ints) }

truth_small : (b : Bool) → Small (truth b)
truth_small true = record { low = omega (arith, ints); high = omega (arith, ints) }
truth_small false = record { low = omega (arith, ints); high = omega (arith, ints) }

listed_small : (words : List ℤ) (place : ℕ) → list_all is_cell_word words ≡ true → Small (get_or words place (pos 0))
listed_small [] place h = record { low = omega (arith, ints); high = omega (arith, ints) }
listed_small (v ∷ vs) zero h = cell_small v (and_parts (is_cell_word v) (list_all is_cell_word vs) h).0
listed_small (v ∷ vs) (suc place) h = listed_small vs place (and_parts (is_cell_word v) (list_all is_cell_word vs) h).1

-- a word of a row is in the range, and so is its bit
pub word_small : (r : Row) (place : ℕ) → list_all is_cell_word r.words ≡ true → Small (word_at r place)
word_small r place h = go (place - 2)
  where
    go : (n : ℕ) → Small (get_or (truth r.bit ∷ r.words) n (pos 0))
    go zero = truth_small r.bit
    go (suc n) = listed_small r.words n h

-- what fits i64 isn't changed
pub saturated : (z : ℤ) → negsuc 9223372036854775807 ≤ℤ z → z ≤ℤ pos 9223372036854775807 → saturate_signed w64 z ≡ z
saturated (pos n) l h = grind (arith, ints)
saturated (negsuc n) l h = grind (arith, ints)
