-- Ranks and texts belong to each other, and rise together.
use Rattle.std.proofs.Common.{◌≡◌, ℕ, zero, suc, ◌<◌, cond, Bool, true, false, List, [], ◌∷◌, Some, None, slice_get, eqb, lt-ltb, refl, sym, ◌∙◌, ap, inl, inr, arith, subst}
use Rattle.std.specs.Prelude.{bytes_eq}
use Rattle.std.specs.List.{list_any}
use Rattle.std.specs.declared.cmp.Ordering.TheVariants.{Less, Equal, Greater}
use Rattle.std.specs.Ordering.{nat_cmp, ordering_reverse}
use Rattle.std.proofs.lemmas.Cmp.{nat_cmp_total, nat_list_cmp_total, tied_itself}
use Rattle.std.proofs.lemmas.Bool.{cases_lt, cases_eq}
use Rattle.ch_ranks.specs.Dictionary.{text_cmp, Ascends, rank_in, rank_of}
use Rattle.ch_ranks.proofs.Ascending.{tail_ascends, above_first, In-get, rank_at, among_from, place_of}

pub rank_from : (texts : List (List ℕ)) → Ascends texts → (t : List ℕ) (r : ℕ) → slice_get texts r ≡ Some t → rank_of texts t ≡ Some r
rank_from texts h t r e = ap (λ b. cond b (Some (rank_in texts t)) None) (among_from texts t (In-get texts r t e)) ∙ ap Some (rank_at texts r t h e)

pub no_rank : (texts : List (List ℕ)) (t : List ℕ) → list_any (bytes_eq t) texts ≡ false → rank_of texts t ≡ None
no_rank texts t e = ap (λ b. cond b (Some (rank_in texts t)) None) e

pub text_from : (texts : List (List ℕ)) → Ascends texts → (t : List ℕ) (r : ℕ) → rank_of texts t ≡ Some r → slice_get texts r ≡ Some t
text_from texts h t r e = go (list_any (bytes_eq t) texts) refl e
  where
    number : (a b : ℕ) → Some a ≡ Some b → a ≡ b
    number a b k = cc

    go : (b : Bool) → list_any (bytes_eq t) texts ≡ b → cond b (Some (rank_in texts t)) None ≡ Some r → slice_get texts r ≡ Some t
    go true i k =
        let (at, found) = place_of texts t i in
        let same : at ≡ r = sym (rank_at texts at t h found) ∙ number (rank_in texts t) r k in
        subst (λ (n : ℕ). slice_get texts n ≡ Some t) same found
    go false i k = cc

before : (texts : List (List ℕ)) → Ascends texts → (r s : ℕ) (t u : List ℕ) → r < s → slice_get texts r ≡ Some t → slice_get texts s ≡ Some u → text_cmp t u ≡ Less
before [] h r s t u l e f = cc
before (x ∷ texts) h r zero t u l e f = absurd (omega arith)
before (x ∷ texts) h zero (suc s) t u l e f = let same : x ≡ t = cc in subst (λ (v : List ℕ). text_cmp v u ≡ Less) same (above_first x texts h u (In-get texts s u f))
before (x ∷ texts) h (suc r) (suc s) t u l e f = before texts (tail_ascends x texts h) r s t u (omega arith) e f

less : (a b : ℕ) → a < b → nat_cmp a b ≡ Less
less a b l = ap (λ t. cond t Less (cond (eqb a b) Equal Greater)) (lt-ltb a b l)

pub rise : (texts : List (List ℕ)) → Ascends texts → (a b : List ℕ) (rank_a rank_b : ℕ) → rank_of texts a ≡ Some rank_a → rank_of texts b ≡ Some rank_b → text_cmp a b ≡ nat_cmp rank_a rank_b
rise texts h a b m n e f =
    let p = text_from texts h a m e in
    let q = text_from texts h b n f in
    elim (cases_lt m n) [
      | inl l ↦ before texts h m n a b l p q ∙ sym (less m n l)
      | inr g ↦ elim (cases_eq m n) [
        | inl same ↦
            let k : Some a ≡ Some b = sym p ∙ (ap (slice_get texts) same ∙ q) in
            let equal : a ≡ b = cc in
            ap (λ t. text_cmp t b) equal ∙ (tied_itself nat_list_cmp_total b ∙ (sym (tied_itself nat_cmp_total n) ∙ sym (ap (λ k. nat_cmp k n) same)))
        | inr other ↦
            let l : n < m = omega arith in
            nat_list_cmp_total.antisymm a b ∙ (ap ordering_reverse (before texts h n m b a l q p ∙ sym (less n m l)) ∙ sym (nat_cmp_total.antisymm m n))
      ]
    ]
