-- Marks of columns, and the columns that are marked, ascending.
use Rattle.std.proofs.Common.{◌≡◌, ◌∙◌, ap, sym, refl, ℕ, ◌+◌, ◌<◌, ◌≤◌, Bool, true, false, cond, ◌||◌, ◌&&◌, eqb, List, [], ◌∷◌, ◌++◌, length, map, get_or, set, inl, inr, arith, length-append, zero-add, get_or-set_same, get_or-set_other}
use Rattle.std.specs.Prelude.{filter}
use Rattle.std.specs.List.{range_with_len}
use Rattle.std.proofs.lemmas.Bool.{cases_eq, eq-eqb, ne_eqb}
use Rattle.std.proofs.lemmas.List.FromFn.{filter_of_map_range_with_len_more}
use Rattle.std.proofs.Math.Bool.{or-false}
use Rattle.ch_bind.specs.Marks.{AreMarks}
use Rattle.ch_bind.specs.References.{is_named, stands_at}
use Rattle.ch_bind.specs.declared.references.Reference.{Reference}
use Rattle.ch_bind.specs.declared.scope.Found.{Found}
use Rattle.ch_bind.specs.declared.scope.Found.TheVariants as found

map_itself : (xs : List ℕ) → map (λ x. x) xs ≡ xs
map_itself [] = refl
map_itself (x ∷ xs) = ap (λ ys. x ∷ ys) (map_itself xs)

pub filter_more : (p : ℕ → Bool) (n : ℕ) → filter p (range_with_len 0 (n + 1)) ≡ filter p (range_with_len 0 n) ++ cond (p n) (n ∷ []) []
filter_more p n =
    ap (filter p) (sym (map_itself (range_with_len 0 (n + 1))))
    ∙ (filter_of_map_range_with_len_more p (λ x. x) 0 n n (zero-add n) ∙ ap (λ xs. filter p xs ++ cond (p n) (n ∷ []) []) (map_itself (range_with_len 0 n)))

pub or_later : (m s rest whole : Bool) → (m || (s || rest)) ≡ whole → ((m || s) || rest) ≡ whole
or_later true s rest whole h = h
or_later false s rest whole h = h

or_true : (b : Bool) → (b || true) ≡ true
or_true true = refl
or_true false = refl

and_false : (b : Bool) → (b && false) ≡ false
and_false true = refl
and_false false = refl

pub marked : (marks : List Bool) (side : ℕ) (f : Found) (k : ℕ) → f ≡ found.At (record { side = side; at = k }) → k < length marks → (at : ℕ) → at < length marks
    → get_or (set marks k true) at false ≡ (get_or marks at false || stands_at side at f)
marked marks side f k is h at l = elim (cases_eq at k) [
  | inl same ↦
      let here : stands_at side at f ≡ true = ap (stands_at side at) is ∙ rw (eq-eqb side side refl, eq-eqb k at (sym same)) refl in
      rw same (get_or-set_same marks k true false h) ∙ sym (ap (λ b. get_or marks at false || b) here ∙ or_true (get_or marks at false))
  | inr other ↦
      let elsewhere : stands_at side at f ≡ false = ap (stands_at side at) is ∙ (ap (λ b. eqb side side && b) (ne_eqb k at (λ e. other (sym e))) ∙ and_false (eqb side side)) in
      get_or-set_other marks k at true false other ∙ sym (ap (λ b. get_or marks at false || b) elsewhere ∙ or-false (get_or marks at false))
]

pub not_marked : (marks : List Bool) (side : ℕ) (f : Found) (at : ℕ) → stands_at side at f ≡ false → get_or marks at false ≡ (get_or marks at false || stands_at side at f)
not_marked marks side f at e = sym (ap (λ b. get_or marks at false || b) e ∙ or-false (get_or marks at false))

-- a column behind those that are kept
pub carried_step : (whole : Bool) (marks : List Bool) (n side : ℕ) (refs : List Reference) (kept after : List ℕ) (at : ℕ) (is : Bool) → AreMarks marks n side refs → at < n
    → kept ≡ filter (λ k. whole || is_named refs side k) (range_with_len 0 at) → is ≡ (whole || get_or marks at false) → after ≡ kept ++ cond is (at ∷ []) []
    → after ≡ filter (λ k. whole || is_named refs side k) (range_with_len 0 (at + 1))
carried_step whole marks n side refs kept after at is m l e b grown =
    let same : is ≡ (whole || is_named refs side at) = b ∙ ap (λ t. whole || t) (m.each at l) in
    grown ∙ (ap (λ xs. xs ++ cond is (at ∷ []) []) e ∙ (ap (λ t. filter (λ k. whole || is_named refs side k) (range_with_len 0 at) ++ cond t (at ∷ []) []) same
    ∙ sym (filter_more (λ k. whole || is_named refs side k) at)))

pub few_step : (kept after : List ℕ) (is : Bool) (at : ℕ) → after ≡ kept ++ cond is (at ∷ []) [] → length kept ≤ at → length after ≤ at + 1
few_step kept after true at e h = omega (arith, ap length e, length-append kept (at ∷ []))
few_step kept after false at e h = omega (arith, ap length e, length-append kept [])
