-- What the points' moves make of the stored points, and what the entries hold.
use Rattle.std.proofs.Common.{◌≡◌, ℕ, suc, Bool, true, false, List, [], ◌∷◌, ℤ, pos, int_lt, refl, Option, Some, None, length, replicate}
use Rattle.std.specs.Prelude.{if◌then◌else◌, ◌&&◌, not}
use Rattle.std.proofs.lemmas.List.{length-replicate}
use Rattle.ch_ir.specs.Machine.{Registers}
use Rattle.op_skyline.specs.Policy.{score}
use Rattle.op_skyline.specs.Run.{entry_of, IsFormed, is_lower, all_le}

-- above each score
abbrev pub largest : ℤ
largest = pos 9223372036854775807

-- what a point's access reads of its entry, where its gate is open
abbrev pub old_score : Bool → Option (List ℤ) → ℤ
old_score false d = pos 0
old_score true None = pos 0
old_score true (Some p) = score p

abbrev pub old_values : ℕ → Bool → Option (List ℤ) → List ℤ
old_values n false d = replicate n (pos 0)
old_values n true None = replicate n (pos 0)
old_values n true (Some p) = p

abbrev pub old_mark : Bool → Option (List ℤ) → ℤ
old_mark false d = pos 0
old_mark true None = pos 0
old_mark true (Some p) = pos 1

abbrev pub hits : Bool → Bool → ℤ → Option (List ℤ) → Bool
hits g shift sx d = g && is_lower (if shift then largest else sx) d

abbrev pub opens : ℕ → Bool → Bool → ℤ → List ℤ → Option (List ℤ) → Bool
opens n g shift sx xs d = not (not (hits g shift sx d) && (int_lt sx (old_score g d) && all_le xs (old_values n g d))) && g

-- what the points become, and whether the last is open
abbrev pub settled : ℕ → ℤ → List ℤ → List (Option (List ℤ)) → Bool → Bool → Option (List ℤ) → List (Option (List ℤ))
settled n sx xs [] g shift c = []
settled n sx xs (d ∷ ds) g shift c =
    (if hits g shift sx d then c else d) ∷ settled n sx xs ds (opens n g shift sx xs d) (hits g shift sx d) (if hits g shift sx d then d else c)

abbrev pub stays : ℕ → ℤ → List ℤ → List (Option (List ℤ)) → Bool → Bool → Bool
stays n sx xs [] g shift = g
stays n sx xs (d ∷ ds) g shift = stays n sx xs ds (opens n g shift sx xs d) (hits g shift sx d)

abbrev pub encoded : ℕ → List (Option (List ℤ)) → Registers
encoded n [] = []
encoded n (d ∷ ds) = (entry_of n d ∷ []) ∷ encoded n ds

abbrev pub AreFormed : ℕ → List (Option (List ℤ)) → Type 0
AreFormed n [] = Unit {0}
AreFormed n (d ∷ ds) = IsFormed n d × AreFormed n ds

pub cells_are : (n : ℕ) (g : Bool) (d : Option (List ℤ)) → (if g then entry_of n d else replicate (suc (suc n)) (pos 0)) ≡ old_mark g d ∷ old_score g d ∷ old_values n g d
cells_are n false d = refl
cells_are n true None = refl
cells_are n true (Some p) = refl

pub values_long : (n : ℕ) (g : Bool) (d : Option (List ℤ)) → IsFormed n d → length (old_values n g d) ≡ n
values_long n false d f = length-replicate n (pos 0)
values_long n true None f = length-replicate n (pos 0)
values_long n true (Some p) f = f

-- a hit hands on the old entry
pub carries : (n : ℕ) (g b : Bool) (c d : Option (List ℤ)) → (if g && b then old_mark g d ∷ old_score g d ∷ old_values n g d else entry_of n c) ≡ entry_of n (if g && b then d else c)
carries n false b c d = refl
carries n true false c d = refl
carries n true true c None = refl
carries n true true c (Some p) = refl

pub formed_one : (n : ℕ) (b : Bool) (c d : Option (List ℤ)) → IsFormed n c → IsFormed n d → IsFormed n (if b then d else c)
formed_one n true c d fc fd = fd
formed_one n false c d fc fd = fc
