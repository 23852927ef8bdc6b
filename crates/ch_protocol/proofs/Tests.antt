-- What the tests of the machine say.
use Rattle.std.proofs.Common.{◌≡◌, ℕ, zero, suc, ◌<◌, ◌≤◌, Bool, true, false, cond, ◌&&◌, ◌||◌, eqb, List, [], ◌∷◌, refl, ap, ◌∙◌, arith, inl, inr, eqb-true, eq-eqb}
use Rattle.std.proofs.lemmas.Bool.{cases_Bool, cases_eq, and_parts, and_from, cond-true, cond-false, ne_eqb, false_from_ne_true}
use Rattle.std.specs.List.{list_any}
use Rattle.ch_lists.specs.Members.{In}
use Rattle.ch_protocol.specs.Sets.{least, all_below, set_at}
use Rattle.ch_protocol.specs.Packets.{Name, same_name}

pub least-below : (a : ℕ → Bool) (n k : ℕ) → k < least a n → a k ≡ true
unfolding least
least-below a zero k lt = absurd (omega arith)
least-below a (suc n) k lt = go (least-below (λ i. a (suc i)) n) (a zero) refl k lt
  where
    go : ((k : ℕ) → k < least (λ i. a (suc i)) n → a (suc k) ≡ true) → (b : Bool) → a zero ≡ b → (k : ℕ) → k < cond b (suc (least (λ i. a (suc i)) n)) zero → a k ≡ true
    go ih true e zero lt = e
    go ih true e (suc k) lt = ih k (omega arith)
    go ih false e k lt = absurd (omega arith)

pub least-at : (a : ℕ → Bool) (n : ℕ) → least a n < n → a (least a n) ≡ false
unfolding least
least-at a zero lt = absurd (omega arith)
least-at a (suc n) lt = go (least-at (λ i. a (suc i)) n) (a zero) refl lt
  where
    go : (least (λ i. a (suc i)) n < n → a (suc (least (λ i. a (suc i)) n)) ≡ false) → (b : Bool) → a zero ≡ b → cond b (suc (least (λ i. a (suc i)) n)) zero < suc n → a (cond b (suc (least (λ i. a (suc i)) n)) zero) ≡ false
    go ih true e lt = ih (omega arith)
    go ih false e lt = e

pub least-le : (a : ℕ → Bool) (n : ℕ) → least a n ≤ n
unfolding least
least-le a zero = omega arith
least-le a (suc n) = go (least-le (λ i. a (suc i)) n) (a zero)
  where
    go : least (λ i. a (suc i)) n ≤ n → (b : Bool) → cond b (suc (least (λ i. a (suc i)) n)) zero ≤ suc n
    go ih true = omega arith
    go ih false = omega arith

pub all_below-at : (a : ℕ → Bool) (n k : ℕ) → all_below a n ≡ true → k < n → a k ≡ true
unfolding all_below
all_below-at a zero k t lt = absurd (omega arith)
all_below-at a (suc n) k t lt = elim (cases_eq k n) [
  | inl e ↦ ap a e ∙ (and_parts (a n) (all_below a n) t).0
  | inr ne ↦ all_below-at a n k (and_parts (a n) (all_below a n) t).1 (omega arith)
]

pub all_below-from : (a : ℕ → Bool) (n : ℕ) → ((k : ℕ) → k < n → a k ≡ true) → all_below a n ≡ true
unfolding all_below
all_below-from a zero h = refl
all_below-from a (suc n) h = and_from (a n) (all_below a n) (h n (omega arith)) (all_below-from a n (λ k lt. h k (omega arith)))

pub set_at-same : {X : Type 0} (k i : ℕ) (x : X) (f : ℕ → X) → i ≡ k → set_at k x f i ≡ x
set_at-same k i x f e = cond-true (eqb i k) x (f i) (eq-eqb i k e)

pub set_at-other : {X : Type 0} (k i : ℕ) (x : X) (f : ℕ → X) → (i ≡ k → ⊥) → set_at k x f i ≡ f i
set_at-other k i x f ne = cond-false (eqb i k) x (f i) (ne_eqb i k ne)

-- what holds at both outcomes of a test holds at the choice
pub either_way : {X : Type 0} (P : X → Type 0) (b : Bool) (x y : X) → (b ≡ true → P x) → (b ≡ false → P y) → P (cond b x y)
either_way P true x y t f = t refl
either_way P false x y t f = f refl

pub same_name-true : (x y : Name) → same_name x y ≡ true → x ≡ y
same_name-true x y t =
    let p = and_parts (eqb x.pass y.pass) (eqb x.worker y.worker && eqb x.number y.number) t in
    let q = and_parts (eqb x.worker y.worker) (eqb x.number y.number) p.1 in
    let e0 : x.pass ≡ y.pass = eqb-true x.pass y.pass p.0 in
    let e1 : x.worker ≡ y.worker = eqb-true x.worker y.worker q.0 in
    let e2 : x.number ≡ y.number = eqb-true x.number y.number q.1 in
    λ i. record { pass = e0 i; worker = e1 i; number = e2 i }

pub same_name-from : (x y : Name) → x ≡ y → same_name x y ≡ true
same_name-from x y e =
    and_from (eqb x.pass y.pass) (eqb x.worker y.worker && eqb x.number y.number) (eq-eqb x.pass y.pass (ap (λ n. n.pass) e))
    (and_from (eqb x.worker y.worker) (eqb x.number y.number) (eq-eqb x.worker y.worker (ap (λ n. n.worker) e)) (eq-eqb x.number y.number (ap (λ n. n.number) e)))

pub any_same-true : (x : Name) (ys : List Name) → list_any (same_name x) ys ≡ true → In x ys
any_same-true x [] t = absurd (cc)
any_same-true x (y ∷ ys) t = go (any_same-true x ys) (same_name x y) refl t
  where
    go : (list_any (same_name x) ys ≡ true → In x ys) → (b : Bool) → same_name x y ≡ b → (b || list_any (same_name x) ys) ≡ true → In x (y ∷ ys)
    go ih true e t = inl (same_name-true x y e)
    go ih false e t = inr (ih t)

pub any_same-from : (x : Name) (ys : List Name) → In x ys → list_any (same_name x) ys ≡ true
any_same-from x [] h = absurd h
any_same-from x (y ∷ ys) (inl e) = Rattle.std.proofs.lemmas.Bool.or_left (same_name x y) (list_any (same_name x) ys) (same_name-from x y e)
any_same-from x (y ∷ ys) (inr h) = Rattle.std.proofs.lemmas.Bool.or_right (same_name x y) (list_any (same_name x) ys) (any_same-from x ys h)
