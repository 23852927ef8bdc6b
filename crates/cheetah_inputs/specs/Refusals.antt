-- A value that is read, or the line that refuses it, as code answers them.
use Rattle.std.specs.Prelude.{◌≡◌, ℕ, List, Result, Ok, Err}
use Rattle.cheetah_inputs.specs.declared.refusal.Refusal.{Refusal}
use Rattle.cheetah_inputs.specs.declared.refusal.Refusal.TheVariants as refusal

-- code has this value or this line, unless memory ran out
abbrev pub Reads : {X : Type 0} → Result X (List ℕ) → Result X Refusal → Type 0
Reads wanted (Ok x) = wanted ≡ Ok x
Reads wanted (Err (refusal.Line line)) = wanted ≡ Err line
Reads wanted (Err refusal.Memory) = Unit {0}
