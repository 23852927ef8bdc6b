-- Columns that gain a row.
use Rattle.std.proofs.Common.{◌≡◌, ℕ, zero, suc, ◌+◌, ◌<◌, ◌≤◌, List, [], ◌∷◌, ◌++◌, length, get_or, take, drop, refl, ap, arith, ◌∙◌, add-one}
use Rattle.std.proofs.Math.ListN.{set}
use Rattle.std.proofs.lemmas.List.{append-nil, drop_all, take_all}
use Rattle.ch_tables.specs.Draft.{with_row}

-- the columns after the first i fields
abbrev pub part_row : List (List (List ℕ)) → List (List ℕ) → ℕ → List (List (List ℕ))
part_row columns fields i = with_row (take i columns) (take i fields) ++ drop i columns

suc_step : (cs : List (List (List ℕ))) (fs : List (List ℕ)) (i : ℕ) → length fs ≡ length cs → i < length cs
    → set (part_row cs fs i) i (get_or cs i [] ++ get_or fs i [] ∷ []) ≡ part_row cs fs (suc i)
suc_step [] fs i e h = absurd (omega arith)
suc_step (c ∷ cs) [] i e h = absurd (omega arith)
suc_step (c ∷ cs) (f ∷ fs) zero e h = refl
suc_step (c ∷ cs) (f ∷ fs) (suc i) e h = ap (λ rest. (c ++ f ∷ []) ∷ rest) (suc_step cs fs i (omega arith) (omega arith))

-- one more field
pub part_row-step : (cs : List (List (List ℕ))) (fs : List (List ℕ)) (i : ℕ) → length fs ≡ length cs → i < length cs
    → set (part_row cs fs i) i (get_or cs i [] ++ get_or fs i [] ∷ []) ≡ part_row cs fs (i + 1)
part_row-step cs fs i e h = rw (add-one) (suc_step cs fs i e h)

-- the column at i is as it was
same_column : (cs : List (List (List ℕ))) (fs : List (List ℕ)) (i : ℕ) (d e : List (List ℕ)) → length fs ≡ length cs → i < length cs
    → get_or (part_row cs fs i) i d ≡ get_or cs i e
same_column [] fs i d e s h = absurd (omega arith)
same_column (c ∷ cs) [] i d e s h = absurd (omega arith)
same_column (c ∷ cs) (f ∷ fs) zero d e s h = refl
same_column (c ∷ cs) (f ∷ fs) (suc i) d e s h = same_column cs fs i d e (omega arith) (omega arith)

-- a push to the column at i
pub pushed : (cs now : List (List (List ℕ))) (fs : List (List ℕ)) (i : ℕ) (before after : List (List ℕ)) (text : List ℕ) → length fs ≡ length cs → i < length cs
    → now ≡ part_row cs fs i → before ≡ get_or now i before → text ≡ get_or fs i [] → after ≡ before ++ text ∷ []
    → set now i after ≡ part_row cs fs (i + 1)
pushed cs now fs i before after text e h same b t a =
    let column : before ≡ get_or cs i [] = b ∙ (ap (λ xs. get_or xs i before) same ∙ same_column cs fs i before [] e h) in
    rw (same, a, column, t) (part_row-step cs fs i e h)

-- all fields
pub part_row-all : (cs : List (List (List ℕ))) (fs : List (List ℕ)) (i : ℕ) → length fs ≡ length cs → length cs ≤ i → part_row cs fs i ≡ with_row cs fs
part_row-all cs fs i e h =
    let f : length fs ≤ i = omega arith in
    rw (take_all, take_all, drop_all) (append-nil (with_row cs fs))

-- there are as many columns as before
pub length-with_row : (cs : List (List (List ℕ))) (fs : List (List ℕ)) → length fs ≡ length cs → length (with_row cs fs) ≡ length cs
length-with_row [] fs e = refl
length-with_row (c ∷ cs) [] e = absurd (omega arith)
length-with_row (c ∷ cs) (f ∷ fs) e = let more = length-with_row cs fs (omega arith) in omega arith
