-- The text at hand, with the name of its table.
use Rattle.std.proofs.Common.{◌≡◌, ◌∙◌, add-one, ap, append_assoc, append-nil, refl, sym, ℕ, suc, ◌+◌, ◌<◌, List, [], ◌∷◌, ◌++◌, drop, drop-cons, get_or, length, map}
use Rattle.cheetah_words.specs.Tables.{Part, part_word}
use Rattle.cheetah_words.specs.declared.table_word.TableWord.{TableWord}
use Rattle.cheetah_inputs.specs.Parts.{NamedText, named_texts}

none_left : (words : List Part) → named_texts words [] ≡ []
none_left [] = refl
none_left (word ∷ words) = refl

-- no text is left
pub all_named : (parts : List NamedText) (words : List Part) (texts : List (List ℕ)) (all : List NamedText) → texts ≡ [] → parts ++ named_texts words texts ≡ all → parts ≡ all
all_named parts words texts all none left = sym (append-nil parts) ∙ (sym (ap (λ ts. parts ++ named_texts words ts) none ∙ ap (λ ps. parts ++ ps) (none_left words)) ∙ left)

pub one_named : (parts : List NamedText) (words : List TableWord) (k : ℕ) (d : TableWord) (text : List ℕ) (texts rest : List (List ℕ)) (all : List NamedText) → k < length words → texts ≡ text ∷ rest
    → parts ++ named_texts (map part_word (drop k words)) texts ≡ all → (parts ++ record { name = (part_word (get_or words k d)).name; text = text } ∷ []) ++ named_texts (map part_word (drop (k + 1) words)) rest ≡ all
one_named parts words k d text texts rest all lt first left =
    let name = (part_word (get_or words k d)).name in
    let one : NamedText = record { name = name; text = text } in
    let here : named_texts (map part_word (drop k words)) texts ≡ one ∷ named_texts (map part_word (drop (suc k) words)) rest =
    ap (named_texts (map part_word (drop k words))) first ∙ ap (λ (ws : List TableWord). named_texts (map part_word ws) (text ∷ rest)) (drop-cons words k d lt) in
    append_assoc parts (one ∷ []) (named_texts (map part_word (drop (k + 1) words)) rest)
    ∙ (ap (λ n. parts ++ one ∷ named_texts (map part_word (drop n words)) rest) (add-one k) ∙ (ap (λ ps. parts ++ ps) (sym here) ∙ left))
