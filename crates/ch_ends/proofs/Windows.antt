-- A worker's window, as its fields have it.
use Rattle.std.proofs.Common.{◌≡◌, ℕ, zero, suc, ◌+◌, ◌-◌, ◌<◌, ◌≤◌, Bool, true, false, cond, ◌&&◌, ◌||◌, eqb, eq-eqb, eqb-true, nat_lt, ltb-true, lt-ltb, le-ltb, List, [], ◌∷◌, length, filter, slice_get, refl, ap, sym, ◌∙◌, arith, inl, inr}
use Rattle.std.proofs.lemmas.Bool.{cases_Bool, cases_eq, cases_lt, and_parts, and_from, cond-true, cond-false, ne_eqb, false_from_ne_true}
use Rattle.ch_protocol.specs.Sets.{least, all_below, numbers_from}
use Rattle.ch_protocol.specs.Sender.{least_open, may_send, cut_to_least}
use Rattle.ch_protocol.proofs.Tests.{least-below, least-at, least-le, all_below-at, all_below-from}
use Rattle.ch_ends.specs.Bits.{has_bit}
use Rattle.ch_ends.specs.Worker.{IsTidy}

-- the least number below a bound that isn't in a set
pub least_is : (a : ℕ → Bool) (n k : ℕ) → k ≤ n → ((j : ℕ) → j < k → a j ≡ true) → (k < n → a k ≡ false) → least a n ≡ k
least_is a n k le before here = elim (cases_lt (least a n) k) [
  | inl lt ↦ absurd (cc (before (least a n) lt, least-at a n (omega arith)))
  | inr ge ↦ elim (cases_lt k (least a n)) [
    | inl lt ↦ absurd (cc (least-below a n k lt, here (omega (arith, least-le a n))))
    | inr same ↦ omega arith
  ]
]

module _ (rows window next low : ℕ) (bits : List Bool) (t : IsTidy rows window next low bits) where
  pub tidy_least : least_open rows (has_bit bits) ≡ low
  tidy_least = least_is (has_bit bits) (suc rows) low (omega (arith, t.low, t.high)) t.below (λ lt. t.here)

  -- while rows are left to send, the window decides
  pub may_send-row : next < rows → may_send rows window next (has_bit bits) ≡ nat_lt (next - low) window
  may_send-row lt =
      let first : nat_lt next rows ≡ true = lt-ltb next rows lt in
      let second : eqb next rows ≡ false = ne_eqb next rows (λ e. omega (arith, e)) in
      (λ i. (first i && nat_lt (next - tidy_least i) window) || (second i && all_below (has_bit bits) rows)) ∙ last (nat_lt (next - low) window)
    where
      last : (b : Bool) → (b || false) ≡ b
      last true = refl
      last false = refl

  all_is : next ≡ rows → all_below (has_bit bits) rows ≡ eqb low rows
  all_is e = elim (cases_eq low rows) [
    | inl same ↦ all_below-from (has_bit bits) rows (λ k lt. t.below k (omega (arith, same))) ∙ sym (eq-eqb low rows same)
    | inr ne ↦ false_from_ne_true (all_below (has_bit bits) rows) (λ all. absurd (cc (all_below-at (has_bit bits) rows low all (omega (arith, t.low, e)), t.here))) ∙ sym (ne_eqb low rows ne)
  ]

  -- and then the Fin may be sent where each row is acknowledged
  pub may_send-fin : rows ≤ next → may_send rows window next (has_bit bits) ≡ (eqb next rows && eqb low rows)
  may_send-fin le = elim (cases_eq next rows) [
    | inl e ↦
        let first : nat_lt next rows ≡ false = le-ltb next rows le in
        λ i. (first i && nat_lt (next - least_open rows (has_bit bits)) window) || (eqb next rows && all_is e i)
    | inr ne ↦
        let first : nat_lt next rows ≡ false = le-ltb next rows le in
        let second : eqb next rows ≡ false = ne_eqb next rows ne in
        (λ i. (first i && nat_lt (next - least_open rows (has_bit bits)) window) || (second i && all_below (has_bit bits) rows)) ∙ sym (ap (λ b. b && eqb low rows) second)
  ]

-- The numbers from one on that pass a test

abbrev pub passing : (ℕ → Bool) → ℕ → ℕ → List ℕ
passing p from to = filter p (numbers_from from (to - from))

-- those below low don't pass
skip_none : (p : ℕ → Bool) (first count extra : ℕ) → ((k : ℕ) → first ≤ k → k < first + count → p k ≡ false) → filter p (numbers_from first (count + extra)) ≡ filter p (numbers_from (first + count) extra)
skip_none p first zero extra none =
    let a : zero + extra ≡ extra = omega arith in
    let b : first ≡ first + zero = omega arith in
    λ i. filter p (numbers_from (b i) (a i))
skip_none p first (suc count) extra none =
    let a : suc count + extra ≡ suc (count + extra) = omega arith in
    let b : suc first + count ≡ first + suc count = omega arith in
    ap (λ n. filter p (numbers_from first n)) a
    ∙ (cond-false (p first) (first ∷ filter p (numbers_from (suc first) (count + extra))) (filter p (numbers_from (suc first) (count + extra))) (none first (omega arith) (omega arith))
    ∙ (skip_none p (suc first) count extra (λ k le lt. none k (omega arith) (omega arith))
    ∙ ap (λ n. filter p (numbers_from n extra)) b))

pub passing-from : (p : ℕ → Bool) (low to : ℕ) → low ≤ to → ((k : ℕ) → k < low → p k ≡ false) → filter p (numbers_from 0 to) ≡ passing p low to
passing-from p low to le none =
    let a : to ≡ low + (to - low) = omega arith in
    let b : 0 + low ≡ low = omega arith in
    ap (λ n. filter p (numbers_from 0 n)) a ∙ (skip_none p 0 low (to - low) (λ k _ lt. none k (omega arith)) ∙ ap (λ n. filter p (numbers_from n (to - low))) b)

next_passing : (p : ℕ → Bool) (from to : ℕ) → from < to → passing p from to ≡ cond (p from) (from ∷ passing p (suc from) to) (passing p (suc from) to)
next_passing p from to lt =
    let a : to - from ≡ suc (to - suc from) = omega arith in
    ap (λ n. filter p (numbers_from from n)) a

pub passing-take : (p : ℕ → Bool) (from to : ℕ) → from < to → p from ≡ true → passing p from to ≡ from ∷ passing p (from + 1) to
passing-take p from to lt t =
    let e : suc from ≡ from + 1 = omega arith in
    next_passing p from to lt ∙ (cond-true (p from) (from ∷ passing p (suc from) to) (passing p (suc from) to) t ∙ ap (λ n. from ∷ passing p n to) e)

pub passing-skip : (p : ℕ → Bool) (from to : ℕ) → from < to → p from ≡ false → passing p from to ≡ passing p (from + 1) to
passing-skip p from to lt f =
    let e : suc from ≡ from + 1 = omega arith in
    next_passing p from to lt ∙ (cond-false (p from) (from ∷ passing p (suc from) to) (passing p (suc from) to) f ∙ ap (λ n. passing p n to) e)

pub passing-end : (p : ℕ → Bool) (from to : ℕ) → to ≤ from → passing p from to ≡ []
passing-end p from to le = let a : to - from ≡ 0 = omega arith in ap (λ n. filter p (numbers_from from n)) a

-- the numbers of a set up to a bound, when its first numbers are all there and those from the end on aren't
pub count_all : (p : ℕ → Bool) (low to : ℕ) → low ≤ to → ((k : ℕ) → k < low → p k ≡ true) → length (filter p (numbers_from 0 to)) ≡ low + length (passing p low to)
count_all p zero to le all =
    let a : to - 0 ≡ to = omega arith in
    omega (arith, ap (λ n. length (filter p (numbers_from 0 n))) a)
count_all p (suc low) to le all =
    let before = count_all p low to (omega arith) (λ k lt. all k (omega arith)) in
    let e : low + 1 ≡ suc low = omega arith in
    omega (arith, before, ap (λ (l : List ℕ). length l) (passing-take p low to (omega arith) (all low (omega arith))), ap (λ n. length (passing p n to)) e)

pub passing-none : (p : ℕ → Bool) (from to count : ℕ) → to - from ≡ count → ((k : ℕ) → from ≤ k → p k ≡ false) → passing p from to ≡ []
passing-none p from to zero e none = passing-end p from to (omega arith)
passing-none p from to (suc count) e none = passing-skip p from to (omega arith) (none from (omega arith)) ∙ passing-none p (from + 1) to count (omega arith) (λ k le. none k (omega arith))

module _ (rows window next low : ℕ) (bits : List Bool) (t : IsTidy rows window next low bits) where
  -- where the bits from low on are unset, the numbers below low stay
  pub cut_is : (new : List Bool) → ((k : ℕ) → k < low → has_bit new k ≡ has_bit bits k) → ((k : ℕ) → low ≤ k → k < next → has_bit new k ≡ false) → ((k : ℕ) → next ≤ k → has_bit new k ≡ has_bit bits k)
      → (k : ℕ) → has_bit new k ≡ cut_to_least rows (has_bit bits) k
  cut_is new below between above k = elim (cases_lt k low) [
    | inl lt ↦ below k lt ∙ (t.below k lt ∙ sym (and_from (has_bit bits k) (nat_lt k (least_open rows (has_bit bits))) (t.below k lt) (lt-ltb k (least_open rows (has_bit bits)) (omega (arith, lt, tidy_least rows window next low bits t)))))
    | inr ge ↦ unset k ge ∙ sym (Rattle.std.proofs.lemmas.Bool.and_right (has_bit bits k) (nat_lt k (least_open rows (has_bit bits))) (le-ltb k (least_open rows (has_bit bits)) (omega (arith, ge, tidy_least rows window next low bits t))))
  ]
    where
      unset : (k : ℕ) → low ≤ k → has_bit new k ≡ false
      unset k ge = elim (cases_lt k next) [
        | inl lt ↦ between k ge lt
        | inr le ↦ above k le ∙ t.beyond k le
      ]

  -- one more number is sent
  pub sent_tidy : may_send rows window next (has_bit bits) ≡ true → IsTidy rows window (next + 1) low bits
  sent_tidy may = elim (cases_lt next rows) [
    | inl lt ↦
        let near : next - low < window = ltb-true (next - low) window (sym (may_send-row rows window next low bits t lt) ∙ may) in
        record {
          small = t.small;
          some = t.some;
          whole = t.whole;
          below = t.below;
          here = t.here;
          beyond = λ k le. t.beyond k (omega arith);
          low = omega (arith, t.low);
          room = omega (arith, near, t.low);
          high = omega arith;
          ends = λ e. absurd (omega arith);
        }
    | inr le ↦
        let both = and_parts (eqb next rows) (eqb low rows) (sym (may_send-fin rows window next low bits t le) ∙ may) in
        let last : next ≡ rows = eqb-true next rows both.0 in
        let all : low ≡ rows = eqb-true low rows both.1 in
        record {
          small = t.small;
          some = t.some;
          whole = t.whole;
          below = t.below;
          here = t.here;
          beyond = λ k le. t.beyond k (omega arith);
          low = omega (arith, t.low);
          room = omega (arith, t.some);
          high = omega arith;
          ends = λ e. omega arith;
        }
  ]

-- a place after the first
pub get-later : {X : Type 0} (x : X) (xs : List X) (k : ℕ) → 0 < k → slice_get (x ∷ xs) k ≡ slice_get xs (k - 1)
get-later x xs zero lt = absurd (omega arith)
get-later x xs (suc k) lt = let e : k ≡ suc k - 1 = omega arith in ap (slice_get xs) e
