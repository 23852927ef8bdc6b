-- The forms of parts and of weak filters, and that they are one where no LIKE stands.
use Rattle.std.proofs.Common.{◌≡◌, ℕ, Bool, true, false, cond, not, ◌&&◌, ◌||◌, eqb, List, [], ◌∷◌, refl, ap, inl, inr}
use Rattle.std.proofs.lemmas.Bool.{and_parts, and_from}
use Rattle.ch_pred.specs.Plain.{Plain, Plains, Truth, Compare, Between, Within, Like, And, Or, Not, nil, cons}
use Rattle.ch_pred.specs.Gate.{is_of_side}
use Rattle.ch_pred.specs.Part.{turned, is_true, kept_members, some_true, and_of, both_of, any_of, differs_from, own_atom, outside, pushed, all_pushed, part_of, weak_of, is_exact, all_exact, is_formed, all_formed, HasForm}
use Rattle.ch_pred.specs.declared.pred.Col.{Col}
use Rattle.ch_pred.specs.declared.pred.Literal.{Literal}

-- each member is true or of the form
abbrev Formed : Bool → Plains → Type 0
Formed likes nil = Unit {0}
Formed likes (cons p ps) = HasForm likes p × Formed likes ps

module _ (likes : Bool) where
  own_form : (own : Bool) (p : Plain) → (own ≡ true → is_formed likes p ≡ true) → HasForm likes (own_atom own p)
  own_form true p h = inr (h refl)
  own_form false p h = inl refl

  and_form : (ps : Plains) → all_formed likes ps ≡ true → HasForm likes (and_of ps)
  and_form nil h = inl refl
  and_form (cons p nil) h = inr (and_parts (is_formed likes p) true h).0
  and_form (cons p (cons q ps)) h = inr h

  not_true : (p : Plain) → is_true p ≡ false → HasForm likes p → is_formed likes p ≡ true
  not_true p e (inl t) = absurd cc
  not_true p e (inr h) = h

  kept_form : (ps : Plains) → Formed likes ps → all_formed likes (kept_members ps) ≡ true
  kept_form nil h = refl
  kept_form (cons p ps) h = go (is_true p) refl (kept_form ps h.1)
    where
      go : (t : Bool) → is_true p ≡ t → all_formed likes (kept_members ps) ≡ true → all_formed likes (cond t (kept_members ps) (cons p (kept_members ps))) ≡ true
      go true e ih = ih
      go false e ih = and_from (is_formed likes p) (all_formed likes (kept_members ps)) (not_true p e h.0) ih

  none_true : (ps : Plains) → some_true ps ≡ false → Formed likes ps → all_formed likes ps ≡ true
  none_true nil e h = refl
  none_true (cons p ps) e h = go (is_true p) refl (some_true ps) refl e (λ k. none_true ps k h.1)
    where
      go : (s : Bool) → is_true p ≡ s → (t : Bool) → some_true ps ≡ t → (s || t) ≡ false → (some_true ps ≡ false → all_formed likes ps ≡ true) → (is_formed likes p && all_formed likes ps) ≡ true
      go true i t k f rest = absurd cc
      go false i true k f rest = absurd cc
      go false i false k f rest = and_from (is_formed likes p) (all_formed likes ps) (not_true p i h.0) (rest k)

  any_form : (ps : Plains) → Formed likes ps → HasForm likes (any_of ps)
  any_form ps h = go (some_true ps) refl
    where
      go : (t : Bool) → some_true ps ≡ t → HasForm likes (cond t Truth (Or ps))
      go true e = inl refl
      go false e = inr (none_true ps e h)

  differs_form : (col : Col) (literals : List Literal) → all_formed likes (differs_from col literals) ≡ true
  differs_form col [] = refl
  differs_form col (value ∷ literals) = differs_form col literals

  like_form : (own negated : Bool) (col : Col) (prefix : List ℕ) → HasForm likes (own_atom (likes && own) (cond negated (Not (Like col prefix)) (Like col prefix)))
  like_form own negated col prefix = own_form (likes && own) (cond negated (Not (Like col prefix)) (Like col prefix)) (λ e. formed negated (and_parts likes own e).0)
    where
      formed : (negated : Bool) → likes ≡ true → is_formed likes (cond negated (Not (Like col prefix)) (Like col prefix)) ≡ true
      formed true e = and_from likes true e refl
      formed false e = e

  within_form : (own : Bool) (col : Col) (literals : List Literal) → HasForm likes (own_atom own (and_of (differs_from col literals)))
  within_form true col literals = and_form (differs_from col literals) (differs_form col literals)
  within_form false col literals = inl refl

  mutual
    pub pushed_form : (side : ℕ) (negated : Bool) (p : Plain) → HasForm likes (pushed likes side negated p)
    pushed_form side true Truth = inr refl
    pushed_form side false Truth = inl refl
    pushed_form side negated (Compare col c other) = own_form (eqb col.side side && is_of_side side other) (Compare col (cond negated (turned c) c) other) (λ e. refl)
    pushed_form side true (Between col low high) = own_form (eqb col.side side) (outside col low high) (λ e. refl)
    pushed_form side false (Between col low high) = own_form (eqb col.side side) (Between col low high) (λ e. refl)
    pushed_form side true (Within col literals) = within_form (eqb col.side side) col literals
    pushed_form side false (Within col literals) = own_form (eqb col.side side) (Within col literals) (λ e. refl)
    pushed_form side negated (Like col prefix) = like_form (eqb col.side side) negated col prefix
    pushed_form side true (And members) = any_form (all_pushed likes side true members) (all_form side true members)
    pushed_form side false (And members) = and_form (kept_members (all_pushed likes side false members)) (kept_form (all_pushed likes side false members) (all_form side false members))
    pushed_form side true (Or members) = and_form (kept_members (all_pushed likes side true members)) (kept_form (all_pushed likes side true members) (all_form side true members))
    pushed_form side false (Or members) = any_form (all_pushed likes side false members) (all_form side false members)
    pushed_form side negated (Not inner) = pushed_form side (not negated) inner

    all_form : (side : ℕ) (negated : Bool) (ps : Plains) → Formed likes (all_pushed likes side negated ps)
    all_form side negated nil = tt
    all_form side negated (cons p ps) = (pushed_form side negated p, all_form side negated ps)

pub part_form : (p : Plain) (side : ℕ) → HasForm true (part_of p side)
part_form p side = pushed_form true side false p

pub weak_form : (p : Plain) (side : ℕ) → HasForm false (weak_of p side)
weak_form p side = pushed_form false side false p

-- where no LIKE stands, the weak filter is the part
mutual
  exact_same : (side : ℕ) (negated : Bool) (p : Plain) → is_exact p ≡ true → pushed false side negated p ≡ pushed true side negated p
  exact_same side negated Truth e = refl
  exact_same side negated (Compare col c other) e = refl
  exact_same side negated (Between col low high) e = refl
  exact_same side negated (Within col literals) e = refl
  exact_same side negated (Like col prefix) e = absurd cc
  exact_same side true (And members) e = ap any_of (all_same side true members e)
  exact_same side false (And members) e = ap both_of (all_same side false members e)
  exact_same side true (Or members) e = ap both_of (all_same side true members e)
  exact_same side false (Or members) e = ap any_of (all_same side false members e)
  exact_same side negated (Not inner) e = exact_same side (not negated) inner e

  all_same : (side : ℕ) (negated : Bool) (ps : Plains) → all_exact ps ≡ true → all_pushed false side negated ps ≡ all_pushed true side negated ps
  all_same side negated nil e = refl
  all_same side negated (cons p ps) e = let h = and_parts (is_exact p) (all_exact ps) e in λ i. cons ((exact_same side negated p h.0) i) ((all_same side negated ps h.1) i)

pub exact_weak : (p : Plain) (side : ℕ) → is_exact p ≡ true → weak_of p side ≡ part_of p side
exact_weak p side e = exact_same side false p e
