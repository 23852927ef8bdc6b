-- What the audit comes to, from its words and the files.
use Rattle.std.specs.Prelude.{ℕ, List, option_map}
use Rattle.ch_command.specs.Command.{Command}
use Rattle.cheetah_audit_meaning.specs.Meaning.{Runs, command_for}
use Rattle.cheetah_audit_words.specs.Words.{wish_of}
use Rattle.cheetah_inputs.specs.Limits.{limit_exceeded, plan_line}
use Rattle.cheetah_run.specs.Running.{config_of}

-- the run that query, profile and tables say, and the limit that its plan exceeds
abbrev pub runs : Runs
runs = record { config = config_of; refusal = λ given. option_map plan_line (limit_exceeded given.query given.profile) }

abbrev pub command_of : List (List ℕ) → Command
command_of words = command_for runs (wish_of words)
