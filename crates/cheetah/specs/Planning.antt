-- The program of a query's plan.
use Rattle.ch_bind.specs.Binding.{PlainBound}
use Rattle.ch_ir.specs.declared.profile.Profile.{Profile}
use Rattle.ch_ir.specs.declared.program.Program.{Program}
use Rattle.ch_plan.specs.Policy.{program_of}
use Rattle.cheetah_inputs.specs.Question.{unfiltered}

-- the program of the query's operator
abbrev pub program_planned : PlainBound → Profile → Program
program_planned q profile = program_of (unfiltered q) profile
