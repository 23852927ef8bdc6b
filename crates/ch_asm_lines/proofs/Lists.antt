-- A list of items, as a loop comes to it.
use Rattle.std.proofs.Common.{◌≡◌, ℕ, false, List, [], ◌∷◌, ◌++◌, Option, Some, None, refl, sym, ap, ◌∙◌, append_assoc, inl, inr}
use Rattle.std.specs.Prelude.{option_map, ◌==◌, bytes_eq, codes}
use Rattle.std.specs.List.{slice_split, onto_first}
use Rattle.std.proofs.lemmas.Bool.{cases_Bool}
use Rattle.ch_asm_lines.specs.Reading.{cut_of, each_of, list_of}
use Rattle.ch_asm_lines.proofs.Options.{mapped}

-- the items so far, in front of the others
abbrev pub with_items : {X : Type 0} → List X → Option (List X) → Option (List X)
with_items front o = option_map (λ xs. front ++ xs) o

-- the parts of a text are its first part and the parts behind that
pub split_cut : (byte : ℕ) (text : List ℕ) (c : List ℕ × List ℕ) → cut_of byte text ≡ Some c → slice_split (λ x. x == byte) text ≡ c.0 ∷ slice_split (λ x. x == byte) c.1
unfolding cut_of
split_cut byte [] c e = cc
split_cut byte (x ∷ xs) c e = elim (cases_Bool (x == byte)) [
  | inl t ↦
      let k : Some ([], xs) ≡ Some c = rw t at e in
      let same : ([], xs) ≡ c = cc in
      rw t (ap (λ (d : List ℕ × List ℕ). d.0 ∷ slice_split (λ x. x == byte) d.1) same)
  | inr t ↦
      let m = mapped (λ d. (x ∷ d.0, d.1)) (cut_of byte xs) c (rw t at e) in
      rw t (ap (onto_first x) (split_cut byte xs m.0 m.1) ∙ ap (λ (d : List ℕ × List ℕ). d.0 ∷ slice_split (λ x. x == byte) d.1) m.2)
]

not_none : {A B : Type 0} (f : A → B) (o : Option A) → option_map f o ≡ None → o ≡ None
not_none f None e = refl
not_none f (Some x) e = cc

pub split_whole : (byte : ℕ) (text : List ℕ) → cut_of byte text ≡ None → slice_split (λ x. x == byte) text ≡ text ∷ []
unfolding cut_of
split_whole byte [] e = refl
split_whole byte (x ∷ xs) e = elim (cases_Bool (x == byte)) [
  | inl t ↦ let k : Some ([], xs) ≡ None = rw t at e in absurd cc
  | inr t ↦ rw t (ap (onto_first x) (split_whole byte xs (not_none (λ d. (x ∷ d.0, d.1)) (cut_of byte xs) (rw t at e))))
]

items_more : {X : Type 0} (front : List X) (x : X) (o : Option (List X)) → with_items front (option_map (λ xs. x ∷ xs) o) ≡ with_items (front ++ x ∷ []) o
items_more front x None = refl
items_more front x (Some xs) = ap Some (sym (append_assoc front (x ∷ []) xs))

-- the first of some items was read
pub items_next : {X : Type 0} (item : List ℕ → Option X) (front : List X) (text : List ℕ) (texts : List (List ℕ)) (x : X) → item text ≡ Some x
    → with_items front (each_of item (text ∷ texts)) ≡ with_items (front ++ x ∷ []) (each_of item texts)
items_next item front text texts x e = rw e (items_more front x (each_of item texts))

-- it was no item
pub items_bad : {X : Type 0} (item : List ℕ → Option X) (front : List X) (text : List ℕ) (texts : List (List ℕ)) → item text ≡ None
    → with_items front (each_of item (text ∷ texts)) ≡ None
items_bad item front text texts e = rw e refl

-- the text is no `-`
pub list_is : {X : Type 0} (item : List ℕ → Option X) (text : List ℕ) (o : Option (List X)) → bytes_eq text (codes "-") ≡ false
    → each_of item (slice_split (λ b. b == 44) text) ≡ o → list_of item text ≡ o
unfolding list_of
list_is item text o t e = rw t e
