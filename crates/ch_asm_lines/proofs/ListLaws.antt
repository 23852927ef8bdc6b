-- Lists are read as they are spelled, and only so.
use Rattle.std.proofs.Common.{◌≡◌, ℕ, true, false, List, [], ◌∷◌, ◌++◌, Option, Some, refl, sym, ap, ◌∙◌, subst, map, inl, inr}
use Rattle.std.specs.Prelude.{option_map, ◌==◌, bytes_eq, codes}
use Rattle.std.specs.List.{list_all, join_with_byte, slice_split, onto_first, AllByRecursion}
use Rattle.std.proofs.lemmas.Bool.{cases_Bool}
use Rattle.std.proofs.lemmas.List.{append-nil}
use Rattle.std.proofs.lemmas.List.Splits.{join_with_byte-slice_split}
use Rattle.ch_asm_lines.specs.Spelling.{list_text}
use Rattle.ch_asm_lines.specs.Reading.{each_of, list_of}
use Rattle.ch_asm_lines.proofs.Options.{bound, mapped, chosen}
use Rattle.ch_asm_lines.proofs.Bytes.{is_field_byte, items_are_fields, items_no_comma, all_both, cut_back, cut_none}
use Rattle.ch_asm_lines.proofs.Lists.{split_cut, split_whole}
use Rattle.ch_asm_lines.proofs.Parts.{Codes, same_bytes}

each_is : {X : Type 0} (Fits : X → Type 0) (text : X → List ℕ) (read : List ℕ → Option X) → Codes Fits text read
    → (ts : List (List ℕ)) (xs : List X) → each_of read ts ≡ Some xs → (ts ≡ map text xs) × AllByRecursion Fits xs
each_is {X} Fits text read code [] xs e =
    let same : [] ≡ xs = cc in
    subst (λ (ys : List X). ([] ≡ map text ys) × AllByRecursion Fits ys) same (refl, tt)
each_is {X} Fits text read code (t ∷ ts) xs e =
    let b = bound (read t) (λ x. option_map (λ ys. x ∷ ys) (each_of read ts)) xs e in
    let m = mapped (λ ys. b.0 ∷ ys) (each_of read ts) xs b.2 in
    let first = code.is t b.0 b.1 in
    let more = each_is Fits text read code ts m.0 m.1 in
    subst (λ (ys : List X). (t ∷ ts ≡ map text ys) × AllByRecursion Fits ys) m.2
    (ap (λ x. x ∷ ts) first.0 ∙ ap (λ (ys : List (List ℕ)). text b.0 ∷ ys) more.0, (first.1, more.1))

each_back : {X : Type 0} (Fits : X → Type 0) (text : X → List ℕ) (read : List ℕ → Option X) → Codes Fits text read
    → (xs : List X) → AllByRecursion Fits xs → each_of read (map text xs) ≡ Some xs
each_back Fits text read code [] h = refl
each_back Fits text read code (x ∷ xs) h = rw (code.back x h.0, each_back Fits text read code xs h.1) refl

-- the parts of joined texts are those texts
split_join : {X : Type 0} (Fits : X → Type 0) (text : X → List ℕ) (read : List ℕ → Option X) → Codes Fits text read
    → (x : X) (xs : List X) → AllByRecursion Fits (x ∷ xs) → slice_split (λ b. b == 44) (join_with_byte 44 (map text (x ∷ xs))) ≡ map text (x ∷ xs)
split_join Fits text read code x [] h = split_whole 44 (text x) (cut_none 44 (text x) (items_no_comma (text x) (code.bytes x h.0)))
split_join Fits text read code x (y ∷ ys) h =
    let rest = join_with_byte 44 (map text (y ∷ ys)) in
    split_cut 44 (text x ++ 44 ∷ rest) (text x, rest) (cut_back 44 (text x) rest (items_no_comma (text x) (code.bytes x h.0)))
    ∙ ap (λ (ts : List (List ℕ)). text x ∷ ts) (split_join Fits text read code y ys h.1)

no_dash : {X : Type 0} (Fits : X → Type 0) (text : X → List ℕ) (read : List ℕ → Option X) → Codes Fits text read
    → (x : X) (xs : List X) → bytes_eq (join_with_byte 44 (map text (x ∷ xs))) (codes "-") ≡ false
no_dash Fits text read code x [] = ap (λ t. bytes_eq t (codes "-")) (sym (append-nil (text x))) ∙ code.starts x []
no_dash Fits text read code x (y ∷ ys) = code.starts x (44 ∷ join_with_byte 44 (map text (y ∷ ys)))

pub list_back : {X : Type 0} (Fits : X → Type 0) (text : X → List ℕ) (read : List ℕ → Option X) → Codes Fits text read
    → (xs : List X) → AllByRecursion Fits xs → list_of read (list_text (map text xs)) ≡ Some xs
unfolding list_of
list_back Fits text read code [] h = refl
list_back Fits text read code (x ∷ xs) h =
    rw (no_dash Fits text read code x xs) (ap (each_of read) (split_join Fits text read code x xs h) ∙ each_back Fits text read code (x ∷ xs) h)

onto_some : (b : ℕ) (ts : List (List ℕ)) → onto_first b ts ≡ [] → ⊥
onto_some b [] e = cc
onto_some b (t ∷ ts) e = cc

pub split_some : (byte : ℕ) (t : List ℕ) → slice_split (λ b. b == byte) t ≡ [] → ⊥
split_some byte [] e = cc
split_some byte (b ∷ bs) e = elim (cases_Bool (b == byte)) [
  | inl y ↦ let k : [] ∷ slice_split (λ x. x == byte) bs ≡ [] = rw y at e in cc
  | inr n ↦ onto_some b (slice_split (λ x. x == byte) bs) (rw n at e)
]

-- joined, and spelled as a list
joined_list : (ts : List (List ℕ)) → (ts ≡ [] → ⊥) → join_with_byte 44 ts ≡ list_text ts
joined_list [] some = absurd (some refl)
joined_list (t ∷ ts) some = refl

pub list_is : {X : Type 0} (Fits : X → Type 0) (text : X → List ℕ) (read : List ℕ → Option X) → Codes Fits text read
    → (t : List ℕ) (xs : List X) → list_of read t ≡ Some xs → (t ≡ list_text (map text xs)) × AllByRecursion Fits xs
unfolding list_of
list_is {X} Fits text read code t xs e = elim (chosen (bytes_eq t (codes "-")) (Some []) (each_of read (slice_split (λ b. b == 44) t)) xs e) [
  | inl p ↦
      let same : [] ≡ xs = let k = p.1 in cc in
      subst (λ (ys : List X). (t ≡ list_text (map text ys)) × AllByRecursion Fits ys) same (same_bytes t (codes "-") p.0, tt)
  | inr p ↦
      let m = each_is Fits text read code (slice_split (λ b. b == 44) t) xs p.1 in
      (sym (join_with_byte-slice_split 44 t) ∙ joined_list (slice_split (λ b. b == 44) t) (split_some 44 t) ∙ ap list_text m.0, m.1)
]

joined_field : {X : Type 0} (Fits : X → Type 0) (text : X → List ℕ) (read : List ℕ → Option X) → Codes Fits text read
    → (x : X) (xs : List X) → AllByRecursion Fits (x ∷ xs) → list_all is_field_byte (join_with_byte 44 (map text (x ∷ xs))) ≡ true
joined_field Fits text read code x [] h = items_are_fields (text x) (code.bytes x h.0)
joined_field Fits text read code x (y ∷ ys) h =
    all_both is_field_byte (text x) (44 ∷ join_with_byte 44 (map text (y ∷ ys))) (items_are_fields (text x) (code.bytes x h.0)) (joined_field Fits text read code y ys h.1)

pub list_field : {X : Type 0} (Fits : X → Type 0) (text : X → List ℕ) (read : List ℕ → Option X) → Codes Fits text read
    → (xs : List X) → AllByRecursion Fits xs → list_all is_field_byte (list_text (map text xs)) ≡ true
list_field Fits text read code [] h = refl
list_field Fits text read code (x ∷ xs) h = joined_field Fits text read code x xs h
