-- The word at hand, among those that name parts.
use Rattle.std.proofs.Common.{◌≡◌, ◌∙◌, ap, sym, refl, ℕ, suc, ◌+◌, ◌<◌, List, [], ◌∷◌, ◌++◌, add-one, append_assoc, drop, drop-cons, get_or, length, Option, Some, None}
use Rattle.cheetah_words.specs.Tables.{Part, bad_from, part_of, parts_in}

-- it names none
pub bad_here : (words : List (List ℕ)) (at : ℕ) (d : List ℕ) → at < length words → part_of (get_or words at d) ≡ None → bad_from at (drop at words) ≡ bad_from 0 words → bad_from 0 words ≡ Some at
bad_here words at d lt none left = sym left ∙ rw (drop-cons words at d lt, none) refl

-- it names this one
pub good_here : (words : List (List ℕ)) (at : ℕ) (d : List ℕ) (part : Part) → at < length words → part_of (get_or words at d) ≡ Some part → bad_from at (drop at words) ≡ bad_from 0 words → bad_from (at + 1) (drop (at + 1) words) ≡ bad_from 0 words
good_here words at d part lt some left =
    let here : bad_from at (drop at words) ≡ bad_from (at + 1) (drop (suc at) words) = rw (drop-cons words at d lt, some) refl in
    ap (λ n. bad_from (at + 1) (drop n words)) (add-one at) ∙ (sym here ∙ left)

pub part_more : (parts : List Part) (words : List (List ℕ)) (at : ℕ) (d : List ℕ) (part : Part) → at < length words → part_of (get_or words at d) ≡ Some part → parts ++ parts_in (drop at words) ≡ parts_in words
    → (parts ++ part ∷ []) ++ parts_in (drop (at + 1) words) ≡ parts_in words
part_more parts words at d part lt some left =
    let here : parts_in (drop at words) ≡ part ∷ parts_in (drop (suc at) words) = rw (drop-cons words at d lt, some) refl in
    append_assoc parts (part ∷ []) (parts_in (drop (at + 1) words)) ∙ (ap (λ n. parts ++ part ∷ parts_in (drop n words)) (add-one at) ∙ (ap (λ ps. parts ++ ps) (sym here) ∙ left))
