-- The numbers of a flow that were processed in an epoch are consecutive.
use Rattle.std.proofs.Common.{◌≡◌, ℕ, zero, suc, ◌+◌, ◌⊎◌, Bool, true, false, cond, ◌&&◌, eqb, List, [], ◌∷◌, ◌++◌, length, Option, Some, None, refl, ap, sym, ◌∙◌, subst, arith, inl, inr, eqb-true}
use Rattle.std.proofs.lemmas.Bool.{and_parts}
use Rattle.ch_protocol.specs.Sets.{numbers_from}
use Rattle.ch_protocol.specs.Machine.{Entry, Config}
use Rattle.ch_protocol.specs.Invariant.{AreLawful, IsNext, newest_number}
use Rattle.ch_protocol_laws.specs.Always.{numbers_of, AreConsecutive, EndBelow}

numbers_from-push : (first n : ℕ) → numbers_from first n ++ (first + n) ∷ [] ≡ numbers_from first (suc n)
numbers_from-push first zero = let e : first + 0 ≡ first = omega arith in ap (λ k. k ∷ []) e
numbers_from-push first (suc n) = let e : first + suc n ≡ suc first + n = omega arith in ap (λ k. first ∷ (numbers_from (suc first) n ++ k ∷ [])) e ∙ ap (λ ks. first ∷ ks) (numbers_from-push (suc first) n)

length-numbers_from : (first n : ℕ) → length (numbers_from first n) ≡ n
length-numbers_from first zero = refl
length-numbers_from first (suc n) = omega (arith, length-numbers_from (suc first) n)

-- there are none, or they are consecutive and end with the newest
abbrev pub HasShape : List ℕ → Option ℕ → Type 0
HasShape numbers newest = ((numbers ≡ []) × (newest ≡ None)) ⊎ ((first : ℕ) × (n : ℕ) × (numbers ≡ numbers_from first (suc n)) × (newest ≡ Some (first + n)))

push_shape : (numbers : List ℕ) (newest : Option ℕ) (k : ℕ) → IsNext newest k → HasShape numbers newest → HasShape (numbers ++ k ∷ []) (Some k)
push_shape numbers newest k next (inl none) =
    let zeroth : k ≡ k + 0 = omega arith in
    inr (k, 0, ap (λ ks. ks ++ k ∷ []) none.0, ap Some zeroth)
push_shape numbers newest k next (inr some) =
    let first : ℕ = some.0 in
    let n : ℕ = some.1 in
    let k' : suc (first + n) ≡ k = subst (λ (o : Option ℕ). IsNext o k) some.3 next in
    let at : k ≡ first + suc n = omega (arith, k') in
    inr (first, suc n, (λ i. some.2 i ++ at i ∷ []) ∙ numbers_from-push first (suc n), ap Some at)

pub shape_of : (c : Config) (ys : List Entry) → AreLawful c ys → (p w e : ℕ) → HasShape (numbers_of ys p w e) (newest_number ys p w e)
shape_of c [] l p w e = inl (refl, refl)
shape_of c (y ∷ ys) l p w e = go (eqb y.name.pass p && (eqb y.name.worker w && eqb y.epoch e)) refl (shape_of c ys l.1 p w e)
  where
    go : (b : Bool) → (eqb y.name.pass p && (eqb y.name.worker w && eqb y.epoch e)) ≡ b → HasShape (numbers_of ys p w e) (newest_number ys p w e)
        → HasShape (cond b (numbers_of ys p w e ++ y.name.number ∷ []) (numbers_of ys p w e)) (cond b (Some y.name.number) (newest_number ys p w e))
    go false t ih = ih
    go true t ih =
        let a = and_parts (eqb y.name.pass p) (eqb y.name.worker w && eqb y.epoch e) t in
        let b = and_parts (eqb y.name.worker w) (eqb y.epoch e) a.1 in
        let p' : y.name.pass ≡ p = eqb-true y.name.pass p a.0 in
        let w' : y.name.worker ≡ w = eqb-true y.name.worker w b.0 in
        let e' : y.epoch ≡ e = eqb-true y.epoch e b.1 in
        let same : newest_number ys y.name.pass y.name.worker y.epoch ≡ newest_number ys p w e = λ i. newest_number ys (p' i) (w' i) (e' i) in
        push_shape (numbers_of ys p w e) (newest_number ys p w e) y.name.number (subst (λ (o : Option ℕ). IsNext o y.name.number) same l.0.consecutive) ih

pub consecutive_by : (numbers : List ℕ) (newest : Option ℕ) → HasShape numbers newest → AreConsecutive numbers
consecutive_by numbers newest (inl none) = (0, none.0 ∙ ap (λ (ks : List ℕ). numbers_from 0 (length ks)) (sym none.0))
consecutive_by numbers newest (inr some) =
    let count : length numbers ≡ suc some.1 = ap (λ (ks : List ℕ). length ks) some.2 ∙ length-numbers_from some.0 (suc some.1) in
    (some.0, some.2 ∙ ap (numbers_from some.0) (sym count))

pub ends_by : (numbers : List ℕ) (newest : Option ℕ) (m : ℕ) → HasShape numbers newest → IsNext newest m → EndBelow numbers m
ends_by numbers newest m (inl none) next = inl none.0
ends_by numbers newest m (inr some) next =
    inr (numbers_from some.0 some.1, some.0 + some.1, some.2 ∙ sym (numbers_from-push some.0 some.1), subst (λ (o : Option ℕ). IsNext o m) some.3 next)
