-- The switch's half: the number that it expects next of each flow, what becomes of a packet, and what a restart makes of
-- both.
use Rattle.std.specs.Prelude.{ℕ, suc, nat_lt, Bool, true, false, ◌||◌, if◌then◌else◌}
use Rattle.ch_protocol.specs.Sets.{set_at}
use Rattle.ch_protocol.specs.declared.fate.Fate.{Fate}
use Rattle.ch_protocol.specs.declared.fate.Fate.TheVariants.{Dropped, Pruned, Forwarded, Passed}

-- at first it expects number 0 of each flow
abbrev pub none_expected : ℕ → ℕ → ℕ
none_expected pass worker = 0

-- the fate of a number where this one is expected, and whether the verdict prunes it where it is the expected one
abbrev pub fate_of : ℕ → ℕ → Bool → Fate
fate_of expected number pruned =
    if nat_lt expected number then Dropped else if nat_lt number expected then Passed else if pruned then Pruned else Forwarded

-- whether the packet was the expected one
abbrev pub is_accepted : Fate → Bool
is_accepted Dropped = false
is_accepted Pruned = true
is_accepted Forwarded = true
is_accepted Passed = false

-- the expected numbers after an accepted packet of a flow
abbrev pub expect_next : ℕ → ℕ → (ℕ → ℕ → ℕ) → ℕ → ℕ → ℕ
expect_next pass worker expected = set_at pass (set_at worker (suc (expected pass worker)) (expected pass)) expected

-- the expected numbers after a packet of a flow with this fate
abbrev pub expect_after : Fate → ℕ → ℕ → (ℕ → ℕ → ℕ) → ℕ → ℕ → ℕ
expect_after fate pass worker expected = if is_accepted fate then expect_next pass worker expected else expected

-- the expected numbers after a restart: in the pass it is told each worker's
abbrev pub expect_from : ℕ → ℕ → (ℕ → ℕ) → (ℕ → ℕ → ℕ) → ℕ → ℕ → ℕ
expect_from workers pass told expected = set_at pass (λ w. if nat_lt w workers then told w else expected pass w) expected

-- whether it keeps each row, after a restart that tells it to or doesn't
abbrev pub keeps_after : Bool → Bool → Bool
keeps_after keeps told = keeps || told
