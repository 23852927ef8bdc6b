-- The tables that parts give, one after the other.
use Rattle.std.proofs.Common.{◌≡◌, ◌≢◌, ◌∙◌, ap, ap₂, sym, refl, subst, ℕ, ◌≤◌, ◌<◌, Bool, true, false, not, List, [], ◌∷◌, map, filter, length, get_or, inl, inr, arith}
use Rattle.std.specs.Prelude.{bytes_eq}
use Rattle.std.proofs.lemmas.Bool.{cases_Bool}
use Rattle.std.proofs.lemmas.Slice.Eq.{bytes_eq-Decides}
use Rattle.cheetah_inputs.specs.Parts.{NamedText, TableText, different, is_of, tables_in, texts_of}

-- filters, one behind the other

filters_swap : {X : Type 0} (p q : X → Bool) (xs : List X) → filter p (filter q xs) ≡ filter q (filter p xs)
filters_swap p q [] = refl
filters_swap p q (x ∷ xs) =
    let more = filters_swap p q xs in
    elim (cases_Bool (p x)) [
      | inl t ↦ elim (cases_Bool (q x)) [
        | inl u ↦ rw (u, t, u) (ap (λ ys. x ∷ ys) more)
        | inr g ↦ rw (g, t, g) more
      ]
      | inr f ↦ elim (cases_Bool (q x)) [
        | inl u ↦ rw (u, f) more
        | inr g ↦ rw (g, f) more
      ]
    ]

filters_within : {X : Type 0} (p q : X → Bool) → ((x : X) → q x ≡ false → p x ≡ false) → (xs : List X) → filter p (filter q xs) ≡ filter p xs
filters_within p q out [] = refl
filters_within p q out (x ∷ xs) =
    let more = filters_within p q out xs in
    elim (cases_Bool (q x)) [
      | inl t ↦ elim (cases_Bool (p x)) [
        | inl u ↦ rw (t, u) (ap (λ ys. x ∷ ys) more)
        | inr g ↦ rw (t, g) more
      ]
      | inr f ↦ rw (f, out x f) more
    ]

-- names

abbrev is_other : List ℕ → List ℕ → Bool
is_other name other = not (bytes_eq other name)

others_different : (name : List ℕ) (names : List (List ℕ)) → different (filter (is_other name) names) ≡ filter (is_other name) (different names)
others_different name [] = refl
others_different name (n ∷ names) =
    let more = others_different name names in
    elim (cases_Bool (bytes_eq n name)) [
      | inl t ↦
          let same : n ≡ name = (bytes_eq-Decides n name).0 t in
          rw t (more ∙ sym (filters_within (is_other name) (is_other n) (λ o e. subst (λ m. is_other m o ≡ false) same e) (different names)))
      | inr f ↦ rw f (ap (λ ns. n ∷ ns) (ap (filter (is_other n)) more ∙ filters_swap (is_other n) (is_other name) (different names)))
    ]

-- parts

abbrev pub is_others : List ℕ → NamedText → Bool
is_others name part = not (is_of name part)

names_of_others : (name : List ℕ) (parts : List NamedText) → map (λ part. part.name) (filter (is_others name) parts) ≡ filter (is_other name) (map (λ part. part.name) parts)
names_of_others name [] = refl
names_of_others name (part ∷ parts) =
    let more = names_of_others name parts in
    elim (cases_Bool (bytes_eq part.name name)) [
      | inl t ↦ rw t more
      | inr f ↦ rw f (ap (λ ns. part.name ∷ ns) more)
    ]

no_true : true ≡ false → ⊥
no_true e = cc

apart : (name other third : List ℕ) → bytes_eq other name ≡ false → not (bytes_eq third name) ≡ false → bytes_eq third other ≡ false
apart name other third e out = elim (cases_Bool (bytes_eq third other)) [
  | inl t ↦
      let here : not (bytes_eq other name) ≡ false = subst (λ m. not (bytes_eq m name) ≡ false) ((bytes_eq-Decides third other).0 t) out in
      absurd (no_true (rw e at here))
  | inr f ↦ f
]

texts_of_others : (name other : List ℕ) → bytes_eq other name ≡ false → (parts : List NamedText) → texts_of other (filter (is_others name) parts) ≡ texts_of other parts
texts_of_others name other e parts = ap (map (λ (part : NamedText). part.text)) (filters_within (is_of other) (is_others name) (λ part out. apart name other part.name e out) parts)

abbrev pub table_in : List NamedText → List ℕ → TableText
table_in parts name = record { name = name; texts = texts_of name parts }

others_agree : (name : List ℕ) (parts : List NamedText) (names : List (List ℕ)) → map (table_in parts) (filter (is_other name) names) ≡ map (table_in (filter (is_others name) parts)) (filter (is_other name) names)
others_agree name parts [] = refl
others_agree name parts (n ∷ names) =
    let more = others_agree name parts names in
    elim (cases_Bool (bytes_eq n name)) [
      | inl t ↦ rw t more
      | inr f ↦
          let here : table_in parts n ≡ table_in (filter (is_others name) parts) n = λ i. record { name = n; texts = (sym (texts_of_others name n f parts)) i } in
          rw f (ap₂ (λ (t : TableText) ts. t ∷ ts) here more)
    ]

first_table : (part : NamedText) (parts : List NamedText) → tables_in (part ∷ parts) ≡ table_in (part ∷ parts) part.name ∷ tables_in (filter (is_others part.name) (part ∷ parts))
first_table part parts =
    let name = part.name in
    let all = part ∷ parts in
    let names = map (λ (p : NamedText). p.name) parts in
    let gone : filter (is_others name) all ≡ filter (is_others name) parts = rw ((bytes_eq-Decides name name).1 refl) refl in
    let left : filter (is_other name) (different names) ≡ different (map (λ (p : NamedText). p.name) (filter (is_others name) all)) =
    sym (others_different name names) ∙ (ap different (sym (names_of_others name parts)) ∙ ap (λ (ps : List NamedText). different (map (λ (p : NamedText). p.name) ps)) (sym gone)) in
    ap (λ ts. table_in all name ∷ ts) (others_agree name all (different names) ∙ ap (map (table_in (filter (is_others name) all))) left)

-- the first table is that of the first part, and the others are those of all other parts
pub next_table : (part : NamedText) (parts : List NamedText)
    → tables_in (part ∷ parts) ≡ record { name = part.name; texts = part.text ∷ texts_of part.name parts } ∷ tables_in (filter (is_others part.name) parts)
next_table part parts =
    let itself : bytes_eq part.name part.name ≡ true = (bytes_eq-Decides part.name part.name).1 refl in
    let texts : texts_of part.name (part ∷ parts) ≡ part.text ∷ texts_of part.name parts = rw itself refl in
    let gone : filter (is_others part.name) (part ∷ parts) ≡ filter (is_others part.name) parts = rw itself refl in
    first_table part parts ∙ ap₂ (λ (t : TableText) ts. t ∷ ts) (λ i. record { name = part.name; texts = texts i }) (ap tables_in gone)

pub kept : {X : Type 0} (p : X → Bool) (xs : List X) → length (filter p xs) ≤ length xs
kept p [] = omega arith
kept p (x ∷ xs) =
    let more = kept p xs in
    elim (cases_Bool (p x)) [
      | inl t ↦ rw t (omega (arith, more))
      | inr f ↦ rw f (omega (arith, more))
    ]
