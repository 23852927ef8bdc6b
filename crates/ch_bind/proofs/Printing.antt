-- The columns of a table, one by one.
use Rattle.std.proofs.Common.{◌≡◌, ◌∙◌, ap, sym, ℕ, ◌+◌, List, [], ◌∷◌, ◌++◌, map, append_assoc, zero-add}
use Rattle.std.specs.List.{range_with_len}
use Rattle.std.proofs.lemmas.List.FromFn.{map-range_with_len_more}
use Rattle.ch_pred.specs.declared.bound.Printed.{Printed}

pub all_step : (f : ℕ → Printed) (n : ℕ) (start before after : List Printed) → before ≡ start ++ map f (range_with_len 0 n) → after ≡ before ++ f n ∷ [] → after ≡ start ++ map f (range_with_len 0 (n + 1))
all_step f n start before after b a =
    a ∙ (ap (λ xs. xs ++ f n ∷ []) b ∙ (append_assoc start (map f (range_with_len 0 n)) (f n ∷ []) ∙ sym (ap (λ xs. start ++ xs) (map-range_with_len_more f 0 n n (zero-add n)))))
