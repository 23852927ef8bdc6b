-- Texts that ascend, and their ranks.
use Rattle.std.proofs.Common.{◌≡◌, ℕ, zero, suc, cond, Bool, true, false, ◌||◌, List, [], ◌∷◌, filter, length, Some, slice_get, refl, sym, ◌∙◌, ap, inl, inr, subst}
use Rattle.std.specs.Prelude.{bytes_eq}
use Rattle.std.specs.List.{list_any}
use Rattle.std.specs.declared.cmp.Ordering.TheVariants.{Less}
use Rattle.std.specs.Ordering.{is_lt, ordering_reverse}
use Rattle.std.proofs.lemmas.Cmp.{nat_list_cmp_total, tied_itself}
use Rattle.std.proofs.lemmas.Bool.{or_cases}
use Rattle.std.proofs.lemmas.Slice.Eq.{bytes_eq-Decides}
use Rattle.ch_lists.specs.Members.{In}
use Rattle.ch_ranks.specs.Dictionary.{text_cmp, Ascends, rank_in}

pub tail_ascends : (t : List ℕ) (ts : List (List ℕ)) → Ascends (t ∷ ts) → Ascends ts
tail_ascends t [] h = tt
tail_ascends t (u ∷ ts) h = h.1

-- no text after the first is below it
pub above_first : (t : List ℕ) (ts : List (List ℕ)) → Ascends (t ∷ ts) → (u : List ℕ) → In u ts → text_cmp t u ≡ Less
above_first t [] h u i = absurd i
above_first t (v ∷ ts) h u (inl e) = ap (text_cmp t) e ∙ h.0
above_first t (v ∷ ts) h u (inr i) = nat_list_cmp_total.trans t v u h.0 (above_first v ts h.1 u i)

none_smaller : (t : List ℕ) (ts : List (List ℕ)) → ((u : List ℕ) → In u ts → text_cmp t u ≡ Less) → rank_in ts t ≡ 0
none_smaller t [] h = refl
none_smaller t (u ∷ ts) h = ap (λ b. length (cond b (u ∷ filter (λ s. is_lt (text_cmp s t)) ts) (filter (λ s. is_lt (text_cmp s t)) ts)))
    (ap is_lt (nat_list_cmp_total.antisymm u t ∙ ap ordering_reverse (h u (inl refl)))) ∙ none_smaller t ts (λ v i. h v (inr i))

-- the first text has rank 0, and a later one a rank more than among those behind the first
pub first_rank : (t : List ℕ) (ts : List (List ℕ)) → Ascends (t ∷ ts) → rank_in (t ∷ ts) t ≡ 0
first_rank t ts h = ap (λ b. length (cond b (t ∷ filter (λ s. is_lt (text_cmp s t)) ts) (filter (λ s. is_lt (text_cmp s t)) ts))) (ap is_lt (tied_itself nat_list_cmp_total t))
    ∙ none_smaller t ts (above_first t ts h)

pub later_rank : (t : List ℕ) (ts : List (List ℕ)) (u : List ℕ) → Ascends (t ∷ ts) → In u ts → rank_in (t ∷ ts) u ≡ suc (rank_in ts u)
later_rank t ts u h i = ap (λ b. length (cond b (t ∷ filter (λ s. is_lt (text_cmp s u)) ts) (filter (λ s. is_lt (text_cmp s u)) ts))) (ap is_lt (above_first t ts h u i))

some_same : (t u : List ℕ) → Some t ≡ Some u → t ≡ u
some_same t u e = cc

pub In-get : (texts : List (List ℕ)) (r : ℕ) (t : List ℕ) → slice_get texts r ≡ Some t → In t texts
In-get [] r t e = cc
In-get (u ∷ texts) zero t e = inl (sym (some_same u t e))
In-get (u ∷ texts) (suc r) t e = inr (In-get texts r t e)

-- the text at a place has this rank
pub rank_at : (texts : List (List ℕ)) (r : ℕ) (t : List ℕ) → Ascends texts → slice_get texts r ≡ Some t → rank_in texts t ≡ r
rank_at [] r t h e = cc
rank_at (u ∷ texts) zero t h e = subst (λ (v : List ℕ). rank_in (u ∷ texts) v ≡ 0) (some_same u t e) (first_rank u texts h)
rank_at (u ∷ texts) (suc r) t h e = later_rank u texts t h (In-get texts r t e) ∙ ap suc (rank_at texts r t (tail_ascends u texts h) e)

pub among_from : (texts : List (List ℕ)) (t : List ℕ) → In t texts → list_any (bytes_eq t) texts ≡ true
among_from [] t i = absurd i
among_from (u ∷ texts) t (inl e) = ap (λ b. b || list_any (bytes_eq t) texts) ((bytes_eq-Decides t u).1 e)
among_from (u ∷ texts) t (inr i) = go (bytes_eq t u) (among_from texts t i)
  where
    go : (b : Bool) → list_any (bytes_eq t) texts ≡ true → (b || list_any (bytes_eq t) texts) ≡ true
    go true e = refl
    go false e = e

pub place_of : (texts : List (List ℕ)) (t : List ℕ) → list_any (bytes_eq t) texts ≡ true → (r : ℕ) × (slice_get texts r ≡ Some t)
place_of [] t e = cc
place_of (u ∷ texts) t e = elim (or_cases (bytes_eq t u) (list_any (bytes_eq t) texts) e) [
  | inl h ↦ (0, ap Some (sym ((bytes_eq-Decides t u).0 h)))
  | inr h ↦ let (r, at) = place_of texts t h in (suc r, at)
]
