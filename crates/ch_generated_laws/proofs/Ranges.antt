-- The ranges of what words ask for.
use Rattle.std.proofs.Common.{◌≡◌, ◌≤◌, ◌<◌, ◌^◌, ℕ, zero, suc, List, [], ◌∷◌, Option, Some, None, refl, subst, arith}
use Rattle.std.specs.Prelude.{option_and_then}
use Rattle.ch_numbers.specs.Natural.{natural_of}
use Rattle.ch_numbers.proofs.Digits.{natural_is}
use Rattle.ch_generated.specs.Request.{kind_of, positive, request_of, request_with, rows_of, seed_of}
use Rattle.ch_generated.specs.declared.InputKind.{InputKind}
use Rattle.ch_generated.specs.declared.Request.{Request}
use Rattle.ch_generated_laws.specs.Tables.{IsInRange}

seed_most : (text : List ℕ) (m : ℕ) → seed_of text ≡ Some m → m < 2 ^ 64
unfolding seed_of
seed_most text m e = let h = (natural_is 18446744073709551615 text m (omega arith) e).0 in omega arith

positive_some : (o : Option ℕ) (m : ℕ) → option_and_then positive o ≡ Some m → (1 ≤ m) × (o ≡ Some m)
positive_some None m e = cc
positive_some (Some zero) m e = cc
positive_some (Some (suc n)) m e = let k : suc n ≡ m = cc in (omega arith, e)

rows_most : (text : List ℕ) (m : ℕ) → rows_of text ≡ Some m → (1 ≤ m) × (m ≤ 1000000)
unfolding rows_of
rows_most text m e = let p = positive_some (natural_of 1000000 text) m e in (p.0, (natural_is 1000000 text m (omega arith) p.1).0)

with_range : (seed rows : Option ℕ) (kind : Option InputKind) (r : Request) → ((m : ℕ) → seed ≡ Some m → m < 2 ^ 64) → ((m : ℕ) → rows ≡ Some m → (1 ≤ m) × (m ≤ 1000000))
    → request_with seed rows kind ≡ Some r → IsInRange r
with_range None rows kind r s n e = cc
with_range (Some seed) None kind r s n e = cc
with_range (Some seed) (Some rows) None r s n e = cc
with_range (Some seed) (Some rows) (Some kind) r s n e =
    let made : Request = record { seed = seed; rows = rows; kind = kind } in
    let same : made ≡ r = cc in
    subst IsInRange same (record { seed = s seed refl; some = (n rows refl).0; few = (n rows refl).1 })

pub in_range : (words : List (List ℕ)) (r : Request) → request_of words ≡ Some r → IsInRange r
unfolding request_of
in_range [] r e = cc
in_range (p ∷ []) r e = cc
in_range (p ∷ s ∷ []) r e = cc
in_range (p ∷ s ∷ n ∷ []) r e = cc
in_range (p ∷ s ∷ n ∷ k ∷ []) r e = with_range (seed_of s) (rows_of n) (kind_of k) r (seed_most s) (rows_most n) e
in_range (p ∷ s ∷ n ∷ k ∷ m ∷ others) r e = cc
