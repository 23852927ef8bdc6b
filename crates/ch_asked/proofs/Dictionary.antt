-- A dictionary ascends, has exactly the texts that it is of, and is the only list that does.
use Rattle.std.proofs.Common.{◌≡◌, ℕ, Bool, true, false, cond, ◌||◌, List, [], ◌∷◌, ◌++◌, refl, sym, ◌∙◌, ap, inl, inr, subst}
use Rattle.std.specs.Prelude.{bytes_eq}
use Rattle.std.specs.List.{list_any}
use Rattle.std.specs.declared.cmp.Ordering.{Ordering}
use Rattle.std.specs.declared.cmp.Ordering.TheVariants.{Less, Equal, Greater}
use Rattle.std.specs.Ordering.{is_lt, ordering_reverse}
use Rattle.std.proofs.lemmas.Cmp.{nat_list_cmp_total, tied_itself}
use Rattle.std.proofs.lemmas.Map.Lookups.{exact_bytes}
use Rattle.std.proofs.lemmas.Slice.Eq.{bytes_eq-Decides}
use Rattle.ch_lists.specs.Members.{AreDifferent, In}
use Rattle.ch_lists.specs.Ordered.{ordered, placed}
use Rattle.ch_lists.proofs.Bags.{any_same}
use Rattle.ch_lists.proofs.Members.{AreDifferent-append}
use Rattle.ch_lists.proofs.Sorting.{ordered_keeps}
use Rattle.ch_ranks.specs.Dictionary.{Ascends, text_cmp}
use Rattle.ch_ranks.proofs.Ascending.{above_first, among_from, tail_ascends}
use Rattle.ch_tables.specs.Texts.{with_text, with_texts}
use Rattle.ch_asked.specs.Texts.{dictionary_of}
use Rattle.ch_asked.proofs.Added.{holds_both}

pub any_in : (t : List ℕ) (texts : List (List ℕ)) → list_any (bytes_eq t) texts ≡ true → In t texts
any_in t [] h = cc
any_in t (u ∷ texts) h = go (bytes_eq t u) refl h (any_in t texts)
  where
    go : (b : Bool) → bytes_eq t u ≡ b → (b || list_any (bytes_eq t) texts) ≡ true → (list_any (bytes_eq t) texts ≡ true → In t texts) → In t (u ∷ texts)
    go true e h ih = inl ((bytes_eq-Decides t u).0 e)
    go false e h ih = inr (ih h)

-- ---- each text once

different_text : (texts : List (List ℕ)) (t : List ℕ) → AreDifferent texts → AreDifferent (with_text texts t)
different_text texts t d = go (list_any (bytes_eq t) texts) refl
  where
    go : (b : Bool) → list_any (bytes_eq t) texts ≡ b → AreDifferent (cond b texts (texts ++ t ∷ []))
    go true e = d
    go false e = AreDifferent-append texts (t ∷ []) d ((λ i. i), tt) (λ u i j. elim j [
      | inl s ↦ let a = among_from texts t (subst (λ (v : List ℕ). In v texts) s i) in cc
      | inr k ↦ k
    ])

different_texts : (texts more : List (List ℕ)) → AreDifferent texts → AreDifferent (with_texts texts more)
different_texts texts [] d = d
different_texts texts (t ∷ more) d = different_texts (with_text texts t) more (different_text texts t d)

-- ---- ascending

less : (o : Ordering) → is_lt o ≡ true → o ≡ Less
less Less e = refl
less Equal e = cc
less Greater e = cc

-- the order of two that differ, of which the second isn't below the first
below : (t u : List ℕ) → (t ≡ u → ⊥) → is_lt (text_cmp u t) ≡ false → text_cmp t u ≡ Less
below t u n f = go (text_cmp t u) refl
  where
    go : (o : Ordering) → text_cmp t u ≡ o → o ≡ Less
    go Less e = refl
    go Equal e = absurd (n (exact_bytes t u e))
    go Greater e = let s : text_cmp u t ≡ Less = nat_list_cmp_total.antisymm u t ∙ ap ordering_reverse e in cc (ap is_lt s, f)

placed_after : (u t : List ℕ) (ts : List (List ℕ)) → Ascends (u ∷ ts) → text_cmp u t ≡ Less → (In t ts → ⊥) → Ascends (u ∷ placed text_cmp t ts)
placed_after u t [] h l n = (l, tt)
placed_after u t (v ∷ ts) h l n = go (is_lt (text_cmp v t)) refl (λ e. placed_after v t ts h.1 e (λ i. n (inr i)))
  where
    go : (b : Bool) → is_lt (text_cmp v t) ≡ b → (text_cmp v t ≡ Less → Ascends (v ∷ placed text_cmp t ts)) → Ascends (u ∷ cond b (v ∷ placed text_cmp t ts) (t ∷ v ∷ ts))
    go true e ih = (h.0, ih (less (text_cmp v t) e))
    go false e ih = (l, (below t v (λ s. n (inl s)) e, h.1))

placed_ascends : (t : List ℕ) (ts : List (List ℕ)) → Ascends ts → (In t ts → ⊥) → Ascends (placed text_cmp t ts)
placed_ascends t [] h n = tt
placed_ascends t (u ∷ ts) h n = go (is_lt (text_cmp u t)) refl
  where
    go : (b : Bool) → is_lt (text_cmp u t) ≡ b → Ascends (cond b (u ∷ placed text_cmp t ts) (t ∷ u ∷ ts))
    go true e = placed_after u t ts h (less (text_cmp u t) e) (λ i. n (inr i))
    go false e = (below t u (λ s. n (inl s)) e, h)

any_ordered : (text : List ℕ) (ts : List (List ℕ)) → list_any (bytes_eq text) (ordered text_cmp ts) ≡ list_any (bytes_eq text) ts
any_ordered text ts = any_same (bytes_eq text) (ordered text_cmp ts) ts (ordered_keeps text_cmp ts)

ordered_ascends : (ts : List (List ℕ)) → AreDifferent ts → Ascends (ordered text_cmp ts)
ordered_ascends [] d = tt
ordered_ascends (t ∷ ts) d =
    placed_ascends t (ordered text_cmp ts) (ordered_ascends ts d.1) (λ i. d.0 (any_in t ts (sym (any_ordered t ts) ∙ among_from (ordered text_cmp ts) t i)))

pub dictionary_ascends : (texts : List (List ℕ)) → Ascends (dictionary_of texts)
dictionary_ascends texts = ordered_ascends (with_texts [] texts) (different_texts [] texts tt)

pub dictionary_holds : (texts : List (List ℕ)) (text : List ℕ) → list_any (bytes_eq text) (dictionary_of texts) ≡ list_any (bytes_eq text) texts
dictionary_holds texts text = any_ordered text (with_texts [] texts) ∙ holds_both [] texts text

-- ---- the only one

abbrev Within : List (List ℕ) → List (List ℕ) → Type 0
Within ts us = (t : List ℕ) → In t ts → In t us

not_below_itself : (t : List ℕ) → text_cmp t t ≡ Less → ⊥
not_below_itself t e = let s = tied_itself nat_list_cmp_total t in cc

not_both_below : (t u : List ℕ) → text_cmp t u ≡ Less → text_cmp u t ≡ Less → ⊥
not_both_below t u e f = not_below_itself t (nat_list_cmp_total.trans t u t e f)

same_first : (t u : List ℕ) (ts us : List (List ℕ)) → Ascends (t ∷ ts) → Ascends (u ∷ us) → In t (u ∷ us) → In u (t ∷ ts) → t ≡ u
same_first t u ts us h k (inl e) j = e
same_first t u ts us h k (inr i) (inl e) = sym e
same_first t u ts us h k (inr i) (inr j) = absurd (not_both_below t u (above_first t ts h u j) (above_first u us k t i))

-- what stands behind the first text is another one
behind : (t u : List ℕ) (ts us : List (List ℕ)) → Ascends (t ∷ ts) → t ≡ u → Within (t ∷ ts) (u ∷ us) → Within ts us
behind t u ts us h e w v i = elim (w v (inr i)) [
  | inl s ↦ absurd (not_below_itself t (ap (text_cmp t) (e ∙ sym s) ∙ above_first t ts h v i))
  | inr j ↦ j
]

same_members : (ts us : List (List ℕ)) → Ascends ts → Ascends us → Within ts us → Within us ts → ts ≡ us
same_members [] [] h k w x = refl
same_members [] (u ∷ us) h k w x = absurd (x u (inl refl))
same_members (t ∷ ts) [] h k w x = absurd (w t (inl refl))
same_members (t ∷ ts) (u ∷ us) h k w x =
    let e = same_first t u ts us h k (w t (inl refl)) (x u (inl refl)) in
    let more = same_members ts us (tail_ascends t ts h) (tail_ascends u us k) (behind t u ts us h e w) (behind u t us ts k (sym e) x) in
    ap (λ v. v ∷ ts) e ∙ ap (λ (vs : List (List ℕ)). u ∷ vs) more

within_from : (ts us : List (List ℕ)) → ((text : List ℕ) → list_any (bytes_eq text) ts ≡ list_any (bytes_eq text) us) → Within ts us
within_from ts us e t i = any_in t us (sym (e t) ∙ among_from ts t i)

pub one_dictionary : (ts us : List (List ℕ)) → Ascends ts → Ascends us → ((text : List ℕ) → list_any (bytes_eq text) ts ≡ list_any (bytes_eq text) us) → ts ≡ us
one_dictionary ts us h k e = same_members ts us h k (within_from ts us e) (within_from us ts (λ text. sym (e text)))

pub only_dictionary : (texts ranks : List (List ℕ)) → Ascends ranks → ((text : List ℕ) → list_any (bytes_eq text) ranks ≡ list_any (bytes_eq text) texts) → ranks ≡ dictionary_of texts
only_dictionary texts ranks h e = one_dictionary ranks (dictionary_of texts) h (dictionary_ascends texts) (λ text. e text ∙ sym (dictionary_holds texts text))
