-- What a line shows, word by word.
use Rattle.std.proofs.Common.{◌≡◌, ℕ, ◌+◌, ◌<◌, ◌≤◌, List, [], ◌∷◌, ◌++◌, length, get_or, take, refl, ap, ◌∙◌, arith, ℤ, pos}
use Rattle.std.specs.Prelude.{slice_index_or}
use Rattle.std.proofs.lemmas.List.{take_more, length-take-le}
use Rattle.ch_cells.specs.declared.Kind.{Kind}
use Rattle.ch_cells.specs.declared.Kind.TheVariants as kind
use Rattle.ch_fold_lines.specs.Shown.{shown_cell, shown_line}

last : (texts : List (List ℕ)) (ks : List Kind) (ws : List ℤ) (w : ℤ) → shown_line texts ks (ws ++ w ∷ []) ≡ shown_line texts ks ws ++ shown_cell texts (slice_index_or ks (length ws) kind.Number) w ∷ []
last texts [] [] w = refl
last texts [] (v ∷ ws) w = ap (λ cs. shown_cell texts kind.Number v ∷ cs) (last texts [] ws w)
last texts (k ∷ ks) [] w = refl
last texts (k ∷ ks) (v ∷ ws) w = ap (λ cs. shown_cell texts k v ∷ cs) (last texts ks ws w)

pub shown_more : (texts : List (List ℕ)) (ks : List Kind) (ws : List ℤ) (i : ℕ) → i < length ws → shown_line texts ks (take (i + 1) ws) ≡ shown_line texts ks (take i ws) ++ shown_cell texts (slice_index_or ks i kind.Number) (get_or ws i (pos 0)) ∷ []
shown_more texts ks ws i h =
    let long : i ≤ length ws = omega arith in
    let here : length (take i ws) ≡ i = length-take-le i ws long in
    ap (shown_line texts ks) (take_more ws i (pos 0) h) ∙ (last texts ks (take i ws) (get_or ws i (pos 0)) ∙ ap (λ k. shown_line texts ks (take i ws) ++ shown_cell texts (slice_index_or ks k kind.Number) (get_or ws i (pos 0)) ∷ []) here)
