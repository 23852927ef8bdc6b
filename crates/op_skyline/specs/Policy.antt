-- What SKYLINE OF prunes: a row whose point a stored one dominates.
use Rattle.std.specs.Prelude.{ℕ, ℤ, pos, neg_ℤ, ◌+ℤ◌, int_lt, int_le, Bool, true, false, not, ◌&&◌, ◌||◌, if◌then◌else◌, List, [], ◌∷◌, take}
use Rattle.std.specs.List.{list_any}
use Rattle.ch_cover.specs.Rows.{Policy, Row}
use Rattle.op_moves.specs.Values.{word_at}
use Rattle.op_skyline.specs.declared.sizes.Sizes.{Sizes}

-- of MIN the negated word
abbrev pub oriented : Bool → ℤ → ℤ
oriented max v = if max then v else neg_ℤ v

-- the oriented words of a row at its dimensions' places
abbrev pub point_at : List ℕ → List Bool → Row → List ℤ
point_at [] max r = []
point_at (p ∷ places) [] r = []
point_at (p ∷ places) (m ∷ max) r = oriented m (word_at r p) ∷ point_at places max r

abbrev pub point_of : Sizes → Row → List ℤ
point_of s r = point_at s.places s.max r

-- one point is at least as good as another in each dimension
abbrev pub is_as_good : List ℤ → List ℤ → Bool
is_as_good [] [] = true
is_as_good [] (y ∷ ys) = false
is_as_good (x ∷ xs) [] = false
is_as_good (x ∷ xs) (y ∷ ys) = int_le y x && is_as_good xs ys

-- it is better in one
abbrev pub is_better : List ℤ → List ℤ → Bool
is_better [] ys = false
is_better (x ∷ xs) [] = false
is_better (x ∷ xs) (y ∷ ys) = int_lt y x || is_better xs ys

abbrev pub dominates : List ℤ → List ℤ → Bool
dominates p t = is_as_good p t && is_better p t

-- the sum of its values
abbrev pub score : List ℤ → ℤ
score [] = pos 0
score (v ∷ p) = v +ℤ score p

-- a point goes after the stored points of at least its score
abbrev pub inserted : List ℤ → List (List ℤ) → List (List ℤ)
inserted p [] = p ∷ []
inserted p (t ∷ stored) = if int_le (score p) (score t) then t ∷ inserted p stored else p ∷ t ∷ stored

-- the stored points after a point: as before where one of them dominates it, and else with it and cut
abbrev pub stored_after : ℕ → List ℤ → List (List ℤ) → List (List ℤ)
stored_after points p stored = if list_any (λ t. dominates t p) stored then stored else take points (inserted p stored)

-- the stored points after the rows before, the newest first
abbrev pub stored : Sizes → List (ℕ × Row) → List (List ℤ)
stored s [] = []
stored s (x ∷ before) = if x.1.bit then stored_after s.points (point_of s x.1) (stored s before) else stored s before

-- a row is pruned where its bit isn't set, or a stored point dominates it
abbrev pub skyline_policy : Sizes → Policy
skyline_policy s before x = not x.1.bit || list_any (λ t. dominates t (point_of s x.1)) (stored s before)
