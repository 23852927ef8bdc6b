-- The elements that none is over, where one element more comes.
use Rattle.std.proofs.Common.{◌≡◌, Bool, true, false, cond, not, ◌&&◌, ◌||◌, List, [], ◌∷◌, ◌++◌, map, filter, refl, ap, sym, ◌∙◌, subst, inl, inr}
use Rattle.std.proofs.Common.{ℕ, zero, suc, ◌≤◌, length, drop, arith, ℤ, Vec, Global}
use Rattle.std.specs.List.{list_any}
use Rattle.std.proofs.lemmas.Bool.{cases_Bool, or_cases, or_left, or_right}
use Rattle.std.proofs.lemmas.List.{map-append}
use Rattle.std.proofs.lemmas.List.Elements.{filter-append, filter_agree}
use Rattle.ch_lists.specs.Members.{In}
use Rattle.ch_lists.proofs.Carried.{filter-map}
use Rattle.ch_lists.proofs.Members.{In-filter, In-filter_from}
use Rattle.std.proofs.lemmas.List.Folds.{list_any-append}
use Rattle.ch_fold_lines.proofs.Held.{nothing_more}
use Rattle.ch_words.proofs.JoinCover.{filter-filter}
use Rattle.ch_keys.specs.Keys.{items_of}
use Rattle.ch_fold_orders.specs.Front.{with_point}

-- some element passes
any_some : {X : Type 0} (p : X → Bool) (xs : List X) → list_any p xs ≡ true → (y : X) × In y xs × (p y ≡ true)
any_some p [] e = absurd cc
any_some p (x ∷ xs) e = elim (or_cases (p x) (list_any p xs) e) [
  | inl h ↦ (x, inl refl, h)
  | inr h ↦ let s = any_some p xs h in (s.0, inr s.1, s.2)
]

any_In : {X : Type 0} (p : X → Bool) (y : X) (xs : List X) → In y xs → p y ≡ true → list_any p xs ≡ true
any_In p y [] i e = absurd i
any_In p y (x ∷ xs) (inl s) e = or_left (p x) (list_any p xs) (ap p (sym s) ∙ e)
any_In p y (x ∷ xs) (inr i) e = or_right (p x) (list_any p xs) (any_In p y xs i e)

any_map : {X Y : Type 0} (f : X → Y) (p : Y → Bool) (q : X → Bool) → ((x : X) → p (f x) ≡ q x) → (xs : List X) → list_any p (map f xs) ≡ list_any q xs
any_map f p q h [] = refl
any_map f p q h (x ∷ xs) = λ i. h x i || any_map f p q h xs i

not_true : (t : Bool) → not t ≡ true → t ≡ false
not_true true e = absurd cc
not_true false e = refl

module _ {X : Type 0} (over : X → X → Bool) where
  abbrev pub beaten : List X → X → Bool
  beaten xs x = list_any (λ y. over y x) xs

  abbrev pub unbeaten : List X → List X
  unbeaten xs = filter (λ x. not (beaten xs x)) xs

  -- nothing is over itself, and what is over something is over all that this is over
  pub record IsDominance : Type 0 where
    pub itself : (x : X) → over x x ≡ false
    pub on : (x y z : X) → over x y ≡ true → over y z ≡ true → over x z ≡ true

  module _ (d : IsDominance) where
    -- what some element is over, one is over that none is over
    champion : (xs : List X) (z y : X) → In y xs → over y z ≡ true → (w : X) × In w xs × (beaten xs w ≡ false) × (over w z ≡ true)
    champion [] z y i h = absurd i
    champion (x ∷ xs) z y i h = elim (cases_Bool (beaten xs x)) [
      | inl t ↦ let u = any_some (λ v. over v x) xs t in below (champion xs z) u.0 u.1 u.2 i
      | inr f ↦ above (champion xs z) f i
    ]
      where
        within : (w : X) → In w xs → beaten xs w ≡ false → over w z ≡ true → over x w ≡ false → (v : X) × In v (x ∷ xs) × (beaten (x ∷ xs) v ≡ false) × (over v z ≡ true)
        within w j b k f = (w, inr j, (λ i. f i || b i), k)

        below : ((v : X) → In v xs → over v z ≡ true → (w : X) × In w xs × (beaten xs w ≡ false) × (over w z ≡ true)) → (u : X) → In u xs → over u x ≡ true → In y (x ∷ xs) → (v : X) × In v (x ∷ xs) × (beaten (x ∷ xs) v ≡ false) × (over v z ≡ true)
        below ih u j k m =
            let w = start m in
            within w.0 w.1 w.2 w.3 (elim (cases_Bool (over x w.0)) [
              | inl t ↦ absurd (cc (any_In (λ v. over v w.0) u xs j (d.on u x w.0 k t), w.2))
              | inr f ↦ f
            ])
          where
            start : In y (x ∷ xs) → (w : X) × In w xs × (beaten xs w ≡ false) × (over w z ≡ true)
            start (inl e) = ih u j (d.on u x z k (subst (λ (v : X). over v z ≡ true) e h))
            start (inr l) = ih y l h

        above : ((v : X) → In v xs → over v z ≡ true → (w : X) × In w xs × (beaten xs w ≡ false) × (over w z ≡ true)) → beaten xs x ≡ false → In y (x ∷ xs) → (v : X) × In v (x ∷ xs) × (beaten (x ∷ xs) v ≡ false) × (over v z ≡ true)
        above ih f (inl e) = (x, inl refl, (λ i. d.itself x i || f i), subst (λ (v : X). over v z ≡ true) e h)
        above ih f (inr l) =
            let w = ih y l h in
            elim (cases_Bool (over x w.0)) [
              | inl t ↦ (x, inl refl, (λ i. d.itself x i || f i), d.on x w.0 z t w.3)
              | inr g ↦ within w.0 w.1 w.2 w.3 g
            ]

    -- so the unbeaten ones are over all that all are over
    pub same_beaten : (xs : List X) (z : X) → beaten (unbeaten xs) z ≡ beaten xs z
    same_beaten xs z = elim (cases_Bool (beaten xs z)) [
      | inl t ↦
          let y = any_some (λ v. over v z) xs t in
          let w = champion xs z y.0 y.1 y.2 in
          any_In (λ v. over v z) w.0 (unbeaten xs) (In-filter_from (λ v. not (beaten xs v)) w.0 xs w.1 (ap not w.2)) w.3 ∙ sym t
      | inr f ↦ elim (cases_Bool (beaten (unbeaten xs) z)) [
        | inl t ↦
            let y = any_some (λ v. over v z) (unbeaten xs) t in
            absurd (cc (any_In (λ v. over v z) y.0 xs (In-filter (λ v. not (beaten xs v)) y.0 xs y.1).0 y.2, f))
        | inr g ↦ g ∙ sym f
      ]
    ]

    -- one more
    pub unbeaten_more : (xs : List X) (x : X) → unbeaten (xs ++ x ∷ []) ≡ with_point over (unbeaten xs) x
    unbeaten_more xs x = filter-append (λ r. not (beaten (xs ++ x ∷ []) r)) xs (x ∷ []) ∙ (go (beaten xs x) refl ∙ ap (λ t. cond t (unbeaten xs) (filter (λ r. not (over x r)) (unbeaten xs) ++ x ∷ [])) (sym (same_beaten xs x)))
      where
        last : (r : X) → beaten (xs ++ x ∷ []) r ≡ (over x r || beaten xs r)
        last r = list_any-append (λ y. over y r) xs (x ∷ []) ∙ turn (beaten xs r) (over x r)
          where
            turn : (t u : Bool) → (t || (u || false)) ≡ (u || t)
            turn true true = refl
            turn true false = refl
            turn false true = refl
            turn false false = refl

        itself : (t : Bool) → beaten xs x ≡ t → filter (λ r. not (beaten (xs ++ x ∷ []) r)) (x ∷ []) ≡ cond (not t) (x ∷ []) []
        itself t e = ap (λ u. cond (not u) (x ∷ []) []) (last x ∙ (λ i. d.itself x i || e i))

        absorbed : beaten xs x ≡ true → (r : X) → not (beaten (xs ++ x ∷ []) r) ≡ not (beaten xs r)
        absorbed t r = ap not (last r ∙ elim (cases_Bool (over x r)) [
          | inl o ↦ let u = any_some (λ v. over v x) xs t in (λ i. o i || beaten xs r) ∙ sym (any_In (λ v. over v r) u.0 xs u.1 (d.on u.0 x r u.2 o))
          | inr f ↦ λ i. f i || beaten xs r
        ])

        parted : (o t : Bool) → not (o || t) ≡ (not t && not o)
        parted true true = refl
        parted true false = refl
        parted false true = refl
        parted false false = refl

        go : (t : Bool) → beaten xs x ≡ t → filter (λ r. not (beaten (xs ++ x ∷ []) r)) xs ++ filter (λ r. not (beaten (xs ++ x ∷ []) r)) (x ∷ [])
            ≡ cond t (unbeaten xs) (filter (λ r. not (over x r)) (unbeaten xs) ++ x ∷ [])
        go true e = (λ i. filter_agree (λ r. not (beaten (xs ++ x ∷ []) r)) (λ r. not (beaten xs r)) (absorbed e) xs i ++ itself true e i) ∙ nothing_more (unbeaten xs)
        go false e = λ i. (filter_agree (λ r. not (beaten (xs ++ x ∷ []) r)) (λ r. not (beaten xs r) && not (over x r)) (λ r. ap not (last r) ∙ parted (over x r) (beaten xs r)) xs
            ∙ sym (filter-filter (λ r. not (beaten xs r)) (λ r. not (over x r)) xs)) i ++ itself false e i

-- through a function that keeps what is over what
pub point-map : {X Y : Type 0} (f : X → Y) (over : X → X → Bool) (above : Y → Y → Bool) → ((a b : X) → above (f a) (f b) ≡ over a b) → (front : List X) (x : X)
    → map f (with_point over front x) ≡ with_point above (map f front) (f x)
point-map f over above h front x = go (list_any (λ s. over s x) front) (list_any (λ s. above s (f x)) (map f front)) (sym (any_map f (λ s. above s (f x)) (λ s. over s x) (λ s. h s x) front))
  where
    go : (t u : Bool) → t ≡ u → map f (cond t front (filter (λ s. not (over x s)) front ++ x ∷ [])) ≡ cond u (map f front) (filter (λ s. not (above (f x) s)) (map f front) ++ f x ∷ [])
    go true true e = refl
    go true false e = absurd cc
    go false true e = absurd cc
    go false false e = map-append f (filter (λ s. not (over x s)) front) (x ∷ []) ∙ ap (λ ys. ys ++ f x ∷ []) (sym (filter-map f (λ s. not (above (f x) s)) (λ s. not (over x s)) (λ s. ap not (h x s)) front))

-- rows of words that are kept as vectors
pub any_items : (p : List ℤ → Bool) (vs : List (Vec ℤ Global)) → list_any p (map items_of vs) ≡ list_any (λ v. p v.items) vs
any_items p vs = any_map items_of p (λ v. p v.items) (λ v. refl) vs

pub vectors_more : (over : List ℤ → List ℤ → Bool) (words : List ℤ) (old kept new : List (Vec ℤ Global)) (row : Vec ℤ Global) → list_any (λ s. over s words) (map items_of old) ≡ false
    → kept ≡ filter (λ v. not (over words v.items)) old → new ≡ kept ++ row ∷ [] → row.items ≡ words → map items_of new ≡ with_point over (map items_of old) words
vectors_more over words old kept new row none k n r =
    ap (map items_of) n
    ∙ (map-append items_of kept (row ∷ [])
    ∙ ((λ i. (ap (map items_of) k ∙ sym (filter-map items_of (λ s. not (over words s)) (λ v. not (over words v.items)) (λ v. refl) old)) i ++ r i ∷ [])
    ∙ sym (ap (λ t. cond t (map items_of old) (filter (λ s. not (over words s)) (map items_of old) ++ words ∷ [])) none)))

pub drop_all : {X : Type 0} (n : ℕ) (xs : List X) → length xs ≤ n → drop n xs ≡ []
drop_all zero [] h = refl
drop_all (suc n) [] h = refl
drop_all zero (x ∷ xs) h = absurd (omega arith)
drop_all (suc n) (x ∷ xs) h = drop_all n xs (omega arith)
