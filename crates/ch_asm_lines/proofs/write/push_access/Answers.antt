use Rattle.std.proofs.Common.{◌≡◌, ℕ, List, [], ◌∷◌, ◌++◌, append_assoc, ap, ◌∙◌}
use Rattle.std.specs.Fmt.{decimal}
use Rattle.ch_asm_lines.proofs.write.push_access.Goals as goal

-- nine fields, written in four pieces
pieces : (old a i g t k y n o h o1 o2 o3 o4 : List ℕ) → o1 ≡ (old ++ a) ++ 32 ∷ (i ++ 32 ∷ (g ++ 32 ∷ (t ++ 32 ∷ []))) → o2 ≡ (o1 ++ k) ++ 32 ∷ (y ++ 32 ∷ (n ++ 32 ∷ []))
    → o3 ≡ (o2 ++ o) ++ 32 ∷ [] → o4 ≡ o3 ++ h
    → o4 ≡ old ++ (a ++ 32 ∷ (i ++ 32 ∷ (g ++ 32 ∷ (t ++ 32 ∷ (k ++ 32 ∷ (y ++ 32 ∷ (n ++ 32 ∷ (o ++ 32 ∷ h))))))))
pieces old a i g t k y n o h o1 o2 o3 o4 p1 p2 p3 p4 = rw (p4, p3, p2, p1) (simp append_assoc)

pub returns-clause-text : goal.returns-clause-text
returns-clause-text c =
    pieces _ _ _ _ _ _ _ _ _ _ _ _ _ _ c.in_ok-push_asked.ensures.text c.in_ok-push_lists.ensures.text c.in_ok-push_number_field.ensures.text
    (c.in_ok-push_number.ensures ∙ ap (λ m. c.push_number_field.new.text.items ++ decimal m) c.from.ensures)
