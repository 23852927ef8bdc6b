-- What several plans in one need of each limit.
use Rattle.std.specs.Prelude.{ℕ, ◌+◌, ◌*◌, max, List, [], ◌∷◌}
use Rattle.ch_ir.specs.declared.program.Program.{Program}
use Rattle.ch_ir.specs.Measure.{sizes_of}
use Rattle.ch_prune.specs.Needs.{IsWithin}
use Rattle.ch_prune.specs.declared.operator.Need.{Need}

abbrev pub greatest : (Need → ℕ) → List Need → ℕ
greatest f [] = 0
greatest f (n ∷ needs) = max (f n) (greatest f needs)

abbrev pub total : (Need → ℕ) → List Need → ℕ
total f [] = 0
total f (n ∷ needs) = f n + total f needs

-- One more word than the widest, for the selector; the largest array; and the words and stages of all, with a word for each
-- guard, and two stages for one.
abbrev pub packed_need : List Need → Need
packed_need needs = record {
  width = greatest (λ n. n.width) needs + 1;
  cells = greatest (λ n. n.cells) needs;
  words = greatest (λ n. n.width) needs + 1 + total (λ n. n.words + n.stages) needs + 16;
  stages = 2 + 2 * total (λ n. n.stages) needs;
}

-- each program is within its need
abbrev pub AllWithin : ℕ → List Need → List Program → Type 0
AllWithin ops [] [] = Unit {0}
AllWithin ops [] (p ∷ ps) = ⊥
AllWithin ops (n ∷ needs) [] = ⊥
AllWithin ops (n ∷ needs) (p ∷ ps) = IsWithin n ops (sizes_of p) × AllWithin ops needs ps
