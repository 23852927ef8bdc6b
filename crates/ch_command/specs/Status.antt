-- Exit statuses.
use Rattle.std.specs.Prelude.{ℕ, Bool, true, false}
use Rattle.ch_command.specs.declared.outcome.Ending.{Ending}
use Rattle.ch_command.specs.declared.outcome.Ending.TheVariants as ending
use Rattle.ch_command.specs.declared.status.Status.{Status}
use Rattle.ch_command.specs.declared.status.Status.TheVariants as status

abbrev pub code_of : Ending → ℕ
code_of ending.Done = 0
code_of ending.Usage = 1
code_of ending.Input = 2
code_of ending.Rejected = 3
code_of ending.Open = 4

abbrev pub exit_code : Status → ℕ
exit_code (status.Ended e) = code_of e
exit_code status.ReadFault = 5
exit_code status.WriteFault = 6
exit_code status.Memory = 7

-- the words are refused
abbrev pub is_usage : Ending → Bool
is_usage ending.Done = false
is_usage ending.Usage = true
is_usage ending.Input = false
is_usage ending.Rejected = false
is_usage ending.Open = false
