-- What the checks of a derivation ask is that it fits the limits.
use Rattle.std.proofs.Common.{◌≡◌, ℕ, ◌+◌, ◌<◌, ◌≤◌, Bool, true, ◌&&◌, nat_lt, List, [], ◌∷◌, ◌++◌, length, Option, Some, None, refl, ap₂, arith, length-append}
use Rattle.std.proofs.lemmas.Bool.{ltb-true, lt-ltb}
use Rattle.ch_pred.specs.declared.pred.Literal.{Literal}
use Rattle.ch_sql_grammar.specs.Grammar as grammar
use Rattle.ch_sql_grammar.specs.Grammar.{Pred, conj, or, Conj, neg, and, Neg, not, parens, atom}
use Rattle.ch_sql_places.specs.Machine.{Place, is_pattern}
use Rattle.ch_sql_places.proofs.Run.{Check, opens, lists, matches, Fold, Settled, literals_on, atom_on, pred_on, conj_on, neg_on, where_on, and_on, form_on}
use Rattle.ch_sql_places.proofs.Walked.{and_left, and_right}
use Rattle.ch_sql_limits.specs.Limits.{pred_depth, conj_depth, neg_depth, AtomFits, PredAtomsFit, ConjAtomsFit, NegAtomsFit, FilterFits, SemiFilterFits, FitsLimits}

-- the fold that asks each check

abbrev pub keeps : Check → Bool
keeps (opens depth) = nat_lt depth 32
keeps (lists number) = nat_lt number 16
keeps (matches text) = is_pattern text

abbrev pub keeping : Fold Bool
keeping = record { on = λ c r. keeps c && r; stuck = true; end = λ place. true }

abbrev pub keeping_settled : Settled Bool keeping
keeping_settled = record { done = λ o. true; is_done = λ place. refl }

-- what is kept fits

literals_fit : (front : List Literal) (last : Literal) (n : ℕ) (r : Bool) → literals_on keeping n (front ++ (last ∷ [])) r ≡ true → (n + length (front ++ (last ∷ [])) ≤ 16) × (r ≡ true)
literals_fit [] last n r e = let l : n < 16 = ltb-true n 16 (and_left (nat_lt n 16) r e) in (omega arith, and_right (nat_lt n 16) r e)
literals_fit (v ∷ vs) last n r e = let h = literals_fit vs last (n + 1) r (and_right (nat_lt n 16) _ e) in let k = h.0 in (omega arith, h.1)

atom_fits : (a : grammar.Atom) (r : Bool) → atom_on keeping a r ≡ true → AtomFits a × (r ≡ true)
atom_fits (grammar.compare col c s) r e = (tt, e)
atom_fits (grammar.between col low high) r e = (tt, e)
atom_fits (grammar.within col front last) r e = let h = literals_fit front last 0 r e in let k = h.0 in (omega arith, h.1)
atom_fits (grammar.like col text) r e = (and_left (is_pattern text) r e, and_right (is_pattern text) r e)

mutual
  pred_fits : (p : Pred) (d : ℕ) (r : Bool) → d ≤ 32 → pred_on keeping d p r ≡ true → (d + pred_depth p ≤ 32) × PredAtomsFit p × (r ≡ true)
  pred_fits (conj c) d r l e = conj_fits c d r l e
  pred_fits (or p c) d r l e =
      let a = pred_fits p d (conj_on keeping d c r) l e in
      let b = conj_fits c d r l a.2 in
      (omega (arith, a.0, b.0), (a.1, b.1), b.2)

  conj_fits : (c : Conj) (d : ℕ) (r : Bool) → d ≤ 32 → conj_on keeping d c r ≡ true → (d + conj_depth c ≤ 32) × ConjAtomsFit c × (r ≡ true)
  conj_fits (neg n) d r l e = neg_fits n d r l e
  conj_fits (and c n) d r l e =
      let a = conj_fits c d (neg_on keeping d n r) l e in
      let b = neg_fits n d r l a.2 in
      (omega (arith, a.0, b.0), (a.1, b.1), b.2)

  neg_fits : (n : Neg) (d : ℕ) (r : Bool) → d ≤ 32 → neg_on keeping d n r ≡ true → (d + neg_depth n ≤ 32) × NegAtomsFit n × (r ≡ true)
  neg_fits (not n) d r l e =
      let m : d < 32 = ltb-true d 32 (and_left (nat_lt d 32) (neg_on keeping (d + 1) n r) e) in
      let a = neg_fits n (d + 1) r (omega arith) (and_right (nat_lt d 32) (neg_on keeping (d + 1) n r) e) in
      (omega (arith, a.0), a.1, a.2)
  neg_fits (parens p) d r l e =
      let m : d < 32 = ltb-true d 32 (and_left (nat_lt d 32) (pred_on keeping (d + 1) p r) e) in
      let a = pred_fits p (d + 1) r (omega arith) (and_right (nat_lt d 32) (pred_on keeping (d + 1) p r) e) in
      (omega (arith, a.0), a.1, a.2)
  neg_fits (atom a) d r l e = let h = atom_fits a r e in (omega arith, h.0, h.1)

-- what fits is kept

both : (a b : Bool) → a ≡ true → b ≡ true → (a && b) ≡ true
both a b h k = ap₂ (λ x y. x && y) h k

literals_kept : (vs : List Literal) (n : ℕ) (r : Bool) → n + length vs ≤ 16 → r ≡ true → literals_on keeping n vs r ≡ true
literals_kept [] n r l e = e
literals_kept (v ∷ vs) n r l e = both _ _ (lt-ltb n 16 (omega arith)) (literals_kept vs (n + 1) r (omega arith) e)

atom_kept : (a : grammar.Atom) (r : Bool) → AtomFits a → r ≡ true → atom_on keeping a r ≡ true
atom_kept (grammar.compare col c s) r f e = e
atom_kept (grammar.between col low high) r f e = e
atom_kept (grammar.within col front last) r f e = literals_kept (front ++ (last ∷ [])) 0 r (omega arith) e
atom_kept (grammar.like col text) r f e = both _ _ f e

mutual
  pred_kept : (p : Pred) (d : ℕ) (r : Bool) → d + pred_depth p ≤ 32 → PredAtomsFit p → r ≡ true → pred_on keeping d p r ≡ true
  pred_kept (conj c) d r l f e = conj_kept c d r l f e
  pred_kept (or p c) d r l f e = pred_kept p d (conj_on keeping d c r) (omega arith) f.0 (conj_kept c d r (omega arith) f.1 e)

  conj_kept : (c : Conj) (d : ℕ) (r : Bool) → d + conj_depth c ≤ 32 → ConjAtomsFit c → r ≡ true → conj_on keeping d c r ≡ true
  conj_kept (neg n) d r l f e = neg_kept n d r l f e
  conj_kept (and c n) d r l f e = conj_kept c d (neg_on keeping d n r) (omega arith) f.0 (neg_kept n d r (omega arith) f.1 e)

  neg_kept : (n : Neg) (d : ℕ) (r : Bool) → d + neg_depth n ≤ 32 → NegAtomsFit n → r ≡ true → neg_on keeping d n r ≡ true
  neg_kept (not n) d r l f e = both _ _ (lt-ltb d 32 (omega arith)) (neg_kept n (d + 1) r (omega arith) f e)
  neg_kept (parens p) d r l f e = both _ _ (lt-ltb d 32 (omega arith)) (pred_kept p (d + 1) r (omega arith) f e)
  neg_kept (atom a) d r l f e = atom_kept a r f e

-- the filter of a form

where_fits : (filter : Option Pred) → where_on keeping filter true ≡ true → FilterFits filter
where_fits None e = tt
where_fits (Some p) e = let a = pred_fits p 0 true (omega arith) e in (omega (arith, a.0), a.1)

and_fits : (filter : Option Conj) → and_on keeping filter true ≡ true → SemiFilterFits filter
and_fits None e = tt
and_fits (Some c) e = let a = conj_fits c 0 true (omega arith) e in (omega (arith, a.0), a.1)

where_kept : (filter : Option Pred) → FilterFits filter → where_on keeping filter true ≡ true
where_kept None f = refl
where_kept (Some p) f = pred_kept p 0 true (omega (arith, f.0)) f.1 refl

and_kept : (filter : Option Conj) → SemiFilterFits filter → and_on keeping filter true ≡ true
and_kept None f = refl
and_kept (Some c) f = conj_kept c 0 true (omega (arith, f.0)) f.1 refl

pub form_fits : (form : grammar.Form) → form_on keeping form true ≡ true → FitsLimits form
form_fits (grammar.distinct front last table filter) e = where_fits filter e
form_fits (grammar.join front last left right first_on second_on filter) e = where_fits filter e
form_fits (grammar.semi front last outer key inner_key inner filter) e = and_fits filter e
form_fits (grammar.one front last table filter ending) e = where_fits filter e

pub form_kept : (form : grammar.Form) → FitsLimits form → form_on keeping form true ≡ true
form_kept (grammar.distinct front last table filter) f = where_kept filter f
form_kept (grammar.join front last left right first_on second_on filter) f = where_kept filter f
form_kept (grammar.semi front last outer key inner_key inner filter) f = and_kept filter f
form_kept (grammar.one front last table filter ending) f = where_kept filter f
