-- What a sink takes.
use Rattle.std.specs.Prelude.{◌≡◌, ℕ, List, ◌++◌, Option, option_map, Result, Ok, Err}
use Rattle.ch_outside.specs.Faults.{Rose}
use Rattle.ch_outside.specs.declared.sink.SinkError.{SinkError}
use Rattle.ch_outside.specs.declared.sink.SinkError.TheVariants.{Failed, Memory}

-- with these bytes at the end, where what was written is told
abbrev pub with_more : Option (List ℕ) → List ℕ → Option (List ℕ)
with_more written piece = option_map (λ bytes. bytes ++ piece) written

-- what a call may answer, and what is written then: of what was written before and is now, the
-- piece, the faults before and after, and the answer
abbrev pub Puts : {T : Type 0} → Option (List ℕ) → Option (List ℕ) → List ℕ → ℕ → ℕ → Result T SinkError → Type 0
Puts old new piece before now (Ok _) = new ≡ with_more old piece
Puts old new piece before now (Err Failed) = Rose before now × (part : List ℕ) × (rest : List ℕ) × (part ++ rest ≡ piece) × (new ≡ with_more old part)
Puts old new piece before now (Err Memory) = new ≡ old
