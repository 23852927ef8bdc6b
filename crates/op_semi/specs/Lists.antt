-- The lists of inner keys after a row more.
use Rattle.std.proofs.Common.{◌≡◌, ◌≤◌, ℕ, Bool, true, false, ◌&&◌, List, [], ◌∷◌, refl, sym, ◌∙◌, ap, ap₂, arith, length, inl, inr}
use Rattle.std.specs.Prelude.{if◌then◌else◌, ◌==◌}
use Rattle.std.proofs.lemmas.Bool.{cases_eq, eq-eqb, ne_eqb}
use Rattle.ch_cover.specs.Rows.{Row}
use Rattle.ch_words.specs.Policies.{Key, touched, listed_after}
use Rattle.op_cache.specs.Lists.{AreFormed, changed, touched_formed, touched_short, unchanged}

module _ (cols : ℕ) (row : Key → ℕ) (key : Row → Key) where
  abbrev lists : List (ℕ × Row) → ℕ → List Key
  lists rows = listed_after cols row key rows

  pub short : (rows : List (ℕ × Row)) (at : ℕ) → length (lists rows at) ≤ cols
  short [] at = omega arith
  short (x ∷ rows) at = go (x.1.bit && (row (key x.1) == at)) (short rows at)
    where
      go : (t : Bool) → length (lists rows at) ≤ cols → length (if t then touched cols (key x.1) (lists rows at) else lists rows at) ≤ cols
      go true ih = touched_short cols (key x.1) (lists rows at)
      go false ih = ih

  pub formed : ((r : Row) → length (key r) ≡ 1) → (rows : List (ℕ × Row)) (at : ℕ) → AreFormed 1 (lists rows at)
  formed one [] at = tt
  formed one (x ∷ rows) at = go (x.1.bit && (row (key x.1) == at)) (formed one rows at)
    where
      go : (t : Bool) → AreFormed 1 (lists rows at) → AreFormed 1 (if t then touched cols (key x.1) (lists rows at) else lists rows at)
      go true ih = touched_formed 1 cols (key x.1) (lists rows at) (one x.1) ih
      go false ih = ih

  -- an open row touches the list of its own hash row
  pub one_more : (x : ℕ × Row) (rows : List (ℕ × Row)) (b : Bool) → (b ≡ true → x.1.bit ≡ true) → (q : ℕ)
      → changed (row (key x.1)) (if b then touched cols (key x.1) (lists rows (row (key x.1))) else lists rows (row (key x.1))) (lists rows) q ≡ lists (if b then x ∷ rows else rows) q
  one_more x rows false set q = unchanged (row (key x.1)) (lists rows) q
  one_more x rows true set q =
      let k : Key = key x.1 in
      let r : ℕ = row (key x.1) in
      elim (cases_eq q r) [
        | inl e ↦ ap (λ (t : Bool). if t then touched cols k (lists rows r) else lists rows q) (eq-eqb q r e)
            ∙ (ap (λ (n : ℕ). touched cols k (lists rows n)) (sym e)
            ∙ sym (ap₂ (λ (a b : Bool). if a && b then touched cols k (lists rows q) else lists rows q) (set refl) (eq-eqb r q (sym e))))
        | inr n ↦ ap (λ (t : Bool). if t then touched cols k (lists rows r) else lists rows q) (ne_eqb q r n)
            ∙ sym (ap₂ (λ (a b : Bool). if a && b then touched cols k (lists rows q) else lists rows q) (set refl) (ne_eqb r q (λ m. n (sym m))))
      ]
