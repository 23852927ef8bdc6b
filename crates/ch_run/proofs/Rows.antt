-- How many rows the first workers have.
use Rattle.std.proofs.Common.{◌≡◌, ℕ, zero, suc, ◌+◌, ◌<◌, ◌≤◌, List, [], ◌∷◌, ◌++◌, length, take, refl, ap, sym, ◌∙◌, arith}
use Rattle.std.specs.Prelude.{slice_index_or}
use Rattle.std.specs.List.{fold}
use Rattle.ch_protocol.specs.Packets.{Part}
use Rattle.ch_protocol.specs.Machine.{Config, total}
use Rattle.ch_ends.specs.Packets.{no_part}
use Rattle.ch_stands.specs.Team.{sizes_of}
use Rattle.ch_stands.proofs.Starting.{total_is}

-- the rows of the parts below a number
abbrev pub rows_below : List Part → ℕ → ℕ
rows_below ps n = fold (λ a p. a + length p.tuples) 0 (take n ps)

fold_push : (a : ℕ) (ps : List Part) (p : Part) → fold (λ b q. b + length q.tuples) a (ps ++ p ∷ []) ≡ fold (λ b q. b + length q.tuples) a ps + length p.tuples
fold_push a [] p = refl
fold_push a (q ∷ ps) p = fold_push (a + length q.tuples) ps p

take_next : (ps : List Part) (n : ℕ) → n < length ps → take (n + 1) ps ≡ take n ps ++ slice_index_or ps n no_part ∷ []
take_next [] n lt = absurd (omega (arith, lt))
take_next (p ∷ ps) zero lt = refl
take_next (p ∷ ps) (suc n) lt = let e : suc n + 1 ≡ suc (n + 1) = omega arith in rw e (ap (λ qs. p ∷ qs) (take_next ps n (omega (arith, lt))))

pub rows_more : (ps : List Part) (n : ℕ) → n < length ps → rows_below ps (n + 1) ≡ rows_below ps n + length (slice_index_or ps n no_part).tuples
rows_more ps n lt = ap (fold (λ b q. b + length q.tuples) 0) (take_next ps n lt) ∙ fold_push 0 (take n ps) (slice_index_or ps n no_part)

take_all : (ps : List Part) (n : ℕ) → length ps ≤ n → take n ps ≡ ps
take_all [] zero le = refl
take_all [] (suc n) le = refl
take_all (p ∷ ps) zero le = absurd (omega (arith, le))
take_all (p ∷ ps) (suc n) le = ap (λ qs. p ∷ qs) (take_all ps n (omega (arith, le)))

fold_sizes : (a : ℕ) (ps : List Part) → fold (λ b q. b + length q.tuples) a ps ≡ fold (λ b n. b + n) a (sizes_of ps)
fold_sizes a [] = refl
fold_sizes a (p ∷ ps) = fold_sizes (a + length p.tuples) ps

-- the rows of all parts
pub rows_all : (c : Config) (ps : List Part) (n : ℕ) → c.parts ≡ ps → length ps ≤ n → rows_below ps n ≡ total c
rows_all c ps n e le = ap (fold (λ b q. b + length q.tuples) 0) (take_all ps n le) ∙ (fold_sizes 0 ps ∙ (ap (λ qs. fold (λ b m. b + m) 0 (sizes_of qs)) (sym e) ∙ total_is c))
