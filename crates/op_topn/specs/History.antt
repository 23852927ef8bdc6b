-- On every history of rows in the cell range the program's verdicts are the policy's.
use Rattle.std.proofs.Common.{◌≡◌, ℕ, zero, suc, ◌+◌, Bool, true, false, List, [], ◌∷◌, ℤ, pos, refl, sym, ◌∙◌, ap, ap₂, arith, take, drop, replicate, map, filter, inl, inr, subst, Some, None, min}
use Rattle.std.specs.List.{list_all}
use Rattle.std.proofs.lemmas.List.{reverse-append}
use Rattle.ch_cover.specs.Rows.{Row}
use Rattle.ch_ir.specs.Machine.{Registers, machine, cleared, given, truth}
use Rattle.ch_prune.specs.Sent.{is_cell_word}
use Rattle.ch_verdicts.specs.Agrees.{Agrees, ArePassed, IsTaken}
use Rattle.op_moves.specs.Steps.{steps_agree}
use Rattle.op_moves.specs.Values.{row_words, word_at, given_at, word_given}
use Rattle.op_topn.specs.Emitted.{arrays_of, top_program}
use Rattle.op_topn.specs.Fine.{IsFine}
use Rattle.op_topn.specs.Policy.{reached, threshold, top_policy, value_of, values}
use Rattle.op_moves.specs.Range.{Small, word_small}
use Rattle.op_topn.specs.Run.{registers_from}
use Rattle.op_topn.specs.Step.{registers_of, reaches, values_after, row_runs}
use Rattle.op_topn.specs.Values.{AllSmall, oriented_small, small_more, counted, greatest}
use Rattle.op_topn.specs.declared.sizes.Sizes.{Sizes}

-- the rows on which they agree: their words are in the cell range
abbrev pub top_takes : Row → Bool
top_takes r = list_all is_cell_word r.words

-- the values after one more row
values_more : (s : Sizes) (before : List (ℕ × Row)) (pass side : ℕ) (bit : Bool) (words : List ℤ)
    → values s ((pass, record { side = side; bit = bit; words = words }) ∷ before) ≡ values_after bit (values s before) (value_of s (record { side = side; bit = bit; words = words }))
values_more s before pass side true words = reverse-append (value_of s (record { side = side; bit = true; words = words }) ∷ []) (map (λ x. value_of s x.1) (filter (λ x. x.1.bit) before))
values_more s before pass side false words = refl

nothing_left : (n : ℕ) → drop {A = ℤ} n [] ≡ []
nothing_left zero = refl
nothing_left (suc n) = refl

nothing_taken : (n : ℕ) → take {A = ℤ} n [] ≡ []
nothing_taken zero = refl
nothing_taken (suc n) = refl

cleared_from : (left i : ℕ) (count : ℕ → ℤ) → ((j : ℕ) → count j ≡ pos 0) → registers_from left i count ≡ cleared (replicate left (record { entries = 1; cells = 1 }))
cleared_from zero i count h = refl
cleared_from (suc left) i count h = ap₂ (λ (c : ℤ) (r : Registers). ((c ∷ []) ∷ []) ∷ r) (h i) (cleared_from left (i + 1) count h)

module _ (s : Sizes) (fine : IsFine s) where
  abbrev after : List (ℕ × Row) → Registers
  after before = registers_of s (values s before)

  small_values : (before : List (ℕ × Row)) → ArePassed top_takes before → AllSmall (values s before)
  small_values [] h = tt
  small_values (x ∷ before) h = subst AllSmall (sym (values_more s before x.0 x.1.side x.1.bit x.1.words)) (go (small_values before (λ y i. h y (inr i))) x.1.bit)
    where
      here : Small (value_of s x.1)
      here = oriented_small s.descending (word_at x.1 s.value) (word_small x.1 s.value (h x (inl refl)).1)

      go : AllSmall (values s before) → (bit : Bool) → AllSmall (values_after bit (values s before) (value_of s x.1))
      go more true = small_more (values s before) (value_of s x.1) more here
      go more false = more

  row_step : (before : List (ℕ × Row)) (x : ℕ × Row) → ArePassed top_takes before → IsTaken top_takes x
      → machine (top_program s) (after before) (row_words x) ≡ Some (record { prune = top_policy s before x; registers = after (x ∷ before) })
  row_step before x h hx =
      let wide = fine.wide in
      let past = fine.past in
      let value : given s.width (row_words x) s.value ≡ Some (word_at x.1 s.value) = given_at s.width (row_words x) s.value wide ∙ ap Some (word_given x s.value past) in
      let bit : given s.width (row_words x) 2 ≡ Some (truth x.1.bit) = given_at s.width (row_words x) 2 (omega arith) in
      row_runs s fine (values s before) (small_values before h) (row_words x) (word_at x.1 s.value) x.1.bit (word_small x.1 s.value hx.1) bit value
      ∙ ap (λ (vs : List ℤ). Some (record { prune = top_policy s before x; registers = registers_of s vs })) (sym (values_more s before x.0 x.1.side x.1.bit x.1.words))

  begun : registers_of s [] ≡ cleared (arrays_of s)
  begun =
      let two : suc (suc s.steps) ≡ 2 + s.steps = omega arith in
      let none : min s.limit 0 ≡ 0 = omega arith in
      ap₂ (λ (c m : ℤ). ((c ∷ []) ∷ []) ∷ ((m ∷ []) ∷ []) ∷ registers_from s.steps 1 (λ i. counted (reaches s [] i))) (ap pos none) (ap greatest (nothing_taken s.limit))
      ∙ ap (λ (r : Registers). ((pos 0 ∷ []) ∷ []) ∷ ((pos 0 ∷ []) ∷ []) ∷ r)
      (cleared_from s.steps 1 (λ i. counted (reaches s [] i)) (λ j. ap (λ (xs : List ℤ). counted (reached (threshold s [] j) xs)) (nothing_left s.limit)))
      ∙ ap (λ (n : ℕ). cleared (replicate n (record { entries = 1; cells = 1 }))) two

  pub top_agrees : Agrees top_takes (top_program s) None (cleared (arrays_of s)) (top_policy s)
  top_agrees = steps_agree top_takes (top_program s) (top_policy s) after (record { begun = begun; step = row_step })
