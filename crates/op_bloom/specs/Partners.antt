-- A Bloom test fails only where no open row of the other side had the key in the first pass.
use Rattle.std.proofs.Common.{◌≡◌, ℕ, zero, suc, eqb, eqb-true, eq-eqb, true, false, not, ◌&&◌, List, [], ◌∷◌, ◌++◌, map, refl, sym, ◌∙◌, ap, inl, inr}
use Rattle.std.proofs.lemmas.Bool.{cases_Bool, and_from, or_left, or_right}
use Rattle.ch_lists.specs.Members.{In}
use Rattle.ch_lists.proofs.Members.{In-filter}
use Rattle.ch_cover.specs.Rows.{Row}
use Rattle.ch_words.specs.Prunable.{open_rows}
use Rattle.op_bloom.specs.declared.sizes.Sizes.{Sizes}
use Rattle.op_bloom.specs.Policy.{key_of, bit_of, cell_of, same_place, is_other, meets, meets_all, passes_bloom}

-- rows of the second pass and then those of the first, the newest first
abbrev pub history : List Row → List Row → List (ℕ × Row)
history second first = map (λ y. (2, y)) second ++ map (λ y. (1, y)) first

module _ (d : Sizes) (r s : Row) (apart : s.side ≡ r.side → ⊥) (same : key_of d s ≡ key_of d r) (set : s.bit ≡ true) where
  other : not (eqb s.side r.side) ≡ true
  other = elim (cases_Bool (eqb s.side r.side)) [
    | inl e ↦ absurd (apart (eqb-true s.side r.side e))
    | inr f ↦ ap not f
  ]

  shared : (i : ℕ) → same_place d i (key_of d s) (key_of d r) ≡ true
  shared i =
      and_from (eqb (cell_of d i (key_of d s)) (cell_of d i (key_of d r))) (eqb (bit_of i (key_of d s)) (bit_of i (key_of d r)))
      (eq-eqb (cell_of d i (key_of d s)) (cell_of d i (key_of d r)) (ap (cell_of d i) same)) (eq-eqb (bit_of i (key_of d s)) (bit_of i (key_of d r)) (ap (bit_of i) same))

  met : (i : ℕ) → is_other (1, s) r && same_place d i (key_of d s) (key_of d r) ≡ true
  met i = and_from (s.bit && not (eqb s.side r.side)) (same_place d i (key_of d s) (key_of d r)) (and_from s.bit (not (eqb s.side r.side)) set other) (shared i)

  partner_meets : (i : ℕ) (second first : List Row) → In s first → meets d (history second first) r i ≡ true
  partner_meets i [] [] h = absurd h
  partner_meets i [] (x ∷ first) (inl e) =
      or_left (is_other (1, x) r && same_place d i (key_of d x) (key_of d r)) (meets d (history [] first) r i)
      (ap (λ (y : Row). is_other (1, y) r && same_place d i (key_of d y) (key_of d r)) (sym e) ∙ met i)
  partner_meets i [] (x ∷ first) (inr h) =
      or_right (is_other (1, x) r && same_place d i (key_of d x) (key_of d r)) (meets d (history [] first) r i) (partner_meets i [] first h)
  partner_meets i (x ∷ second) first h = partner_meets i second first h

  partner_passes : (n : ℕ) (second first : List Row) → In s first → meets_all d (history second first) r n ≡ true
  partner_passes zero second first h = refl
  partner_passes (suc i) second first h =
      and_from (meets d (history second first) r i) (meets_all d (history second first) r i) (partner_meets i second first h) (partner_passes i second first h)

pub no_partner : (d : Sizes) (second first : List Row) (r : Row) → passes_bloom d (history second first) r ≡ false
    → (s : Row) → In s (open_rows first) → (s.side ≡ r.side → ⊥) → key_of d s ≡ key_of d r → ⊥
no_partner d second first r fails s i apart same =
    let h = In-filter (λ x. x.bit) s first i in
    cc (fails, partner_passes d r s apart same h.1 d.hashes second first h.0)
