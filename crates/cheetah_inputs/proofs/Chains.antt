-- A link of a chain whose reader is a function.
use Rattle.std.proofs.Common.{◌≡◌, Result, Ok, Err}
use Rattle.ch_command.specs.Command.{ReadThen}
use Rattle.ch_command.specs.declared.outcome.Outcome.{Outcome}

pub reads_then : {X E : Type 0} (read : Result X E) (says : E → Outcome) (next : X → Outcome → Type 0) (x : X) (outcome : Outcome) → read ≡ Ok x → next x outcome → ReadThen read says next outcome
reads_then read says next x outcome e p = rw e p

pub refused_then : {X E : Type 0} (read : Result X E) (says : E → Outcome) (next : X → Outcome → Type 0) (error : E) (outcome : Outcome) → read ≡ Err error → outcome ≡ says error → ReadThen read says next outcome
refused_then read says next error outcome e p = rw e p
