-- Numbers joined by commas: the first, and each other behind a comma.
use Rattle.std.proofs.Common.{◌≡◌, ◌++◌, ◌-◌, ◌<◌, ℕ, List, [], ◌∷◌, ◌∙◌, ap, arith, length, take, drop, get_or}
use Rattle.std.proofs.lemmas.List.{append-nil, take_all}
use Rattle.std.specs.Fmt.{decimal}
use Rattle.ch_print.specs.RunTexts.{behind_commas, numbers_text}

joined : (n : ℕ) (ns : List ℕ) → decimal n ++ behind_commas ns ≡ numbers_text (n ∷ ns)
joined n [] = append-nil (decimal n)
joined n (m ∷ ms) = ap (λ (xs : List ℕ). decimal n ++ 44 ∷ xs) (joined m ms)

pub parted : (numbers : List ℕ) → 0 < length numbers → decimal (get_or numbers 0 0) ++ behind_commas (take (length numbers - 1) (drop 1 numbers)) ≡ numbers_text numbers
parted [] h = absurd (omega arith)
parted (n ∷ ns) h = ap (λ (xs : List ℕ). decimal n ++ behind_commas xs) (take_all (length (n ∷ ns) - 1) ns (omega arith)) ∙ joined n ns
