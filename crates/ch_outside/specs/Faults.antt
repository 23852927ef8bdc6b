-- A count of faults, which ends at the end of a 64-bit number.
use Rattle.std.specs.Prelude.{◌≡◌, ℕ, ◌+◌, ◌-◌, ◌^◌, ◌<◌, ◌≤◌, ◌⊎◌, min}

-- one more, or the end
abbrev pub one_more : ℕ → ℕ
one_more n = min (n + 1) (2 ^ 64 - 1)

-- whoever promised that no call fails from here on still does, and has counted no fault
abbrev pub StaysReliable : Type 0 → Type 0 → ℕ → ℕ → Type 0
StaysReliable promised promises before now = promised → promises × (now ≡ before)

-- the count grew, or stands at its end
abbrev pub Rose : ℕ → ℕ → Type 0
Rose before now = (before < now) ⊎ (2 ^ 64 - 1 ≤ now)
