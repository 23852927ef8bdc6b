-- The lines that refuse a schedule, a query's binding and its sums.
use Rattle.std.specs.Prelude.{ℕ, List, [], ◌∷◌, ◌++◌, codes}
use Rattle.std.specs.List.{concat}
use Rattle.std.specs.Fmt.{decimal, signed_decimal}
use Rattle.ch_bind.specs.declared.error.BindError.{BindError}
use Rattle.ch_bind.specs.declared.error.BindError.TheVariants as bind
use Rattle.ch_bind.specs.declared.error.SumError.{SumError}
use Rattle.ch_bind.specs.declared.error.SumError.TheVariants.{NegativeSum}
use Rattle.ch_command.specs.Lines.{memory_line}
use Rattle.ch_schedule.specs.declared.read.ScheduleError.{ScheduleError}
use Rattle.ch_schedule.specs.declared.read.ScheduleError.TheVariants as schedule
use Rattle.ch_schedule.specs.declared.read.ScheduleWhy.{ScheduleWhy}
use Rattle.ch_schedule.specs.declared.read.ScheduleWhy.TheVariants as why

abbrev pub why_text : ScheduleWhy → List ℕ
why_text why.NotAStep = codes "not a step"
why_text why.AfterDrain = codes "after drain"
why_text why.TooMany = codes "too many"
why_text why.Forged = codes "forged packet"

abbrev pub schedule_line : ScheduleError → List ℕ
schedule_line (schedule.Bad line why) = concat (codes "input: schedule line " ∷ decimal line ∷ codes ": " ∷ why_text why ∷ codes "\n" ∷ [])
schedule_line schedule.Memory = memory_line

abbrev pub bind_line : BindError → List ℕ
bind_line (bind.NoTable which) = concat (codes "input: query table " ∷ decimal which ∷ codes ": unknown\n" ∷ [])
bind_line bind.SelfJoin = codes "input: query: self join\n"
bind_line (bind.NoColumn place) = concat (codes "input: query column " ∷ decimal place ∷ codes ": unknown\n" ∷ [])
bind_line (bind.Ambiguous place) = concat (codes "input: query column " ∷ decimal place ∷ codes ": ambiguous\n" ∷ [])
bind_line bind.BadOn = codes "input: query: on needs a column of each table\n"
bind_line (bind.BadItem item) = concat (codes "input: query item " ∷ decimal item ∷ codes ": not allowed\n" ∷ [])
bind_line (bind.KindClash place) = concat (codes "input: query column " ∷ decimal place ∷ codes ": wrong kind\n" ∷ [])
bind_line (bind.TooManyColumns side have) = concat (codes "input: query side " ∷ decimal side ∷ codes ": " ∷ decimal have ∷ codes " columns, at most 16\n" ∷ [])
bind_line (bind.TooManyDims have) = concat (codes "input: query: " ∷ decimal have ∷ codes " dimensions, at most 4\n" ∷ [])
bind_line (bind.LimitRange n) = concat (codes "input: query: limit " ∷ signed_decimal n ∷ codes "\n" ∷ [])
bind_line bind.Memory = memory_line

abbrev pub sum_tail : SumError → List ℕ
sum_tail (NegativeSum part row) = concat (codes " part " ∷ decimal part ∷ codes " row " ∷ decimal row ∷ codes ": negative sum\n" ∷ [])

abbrev pub sum_line : List ℕ → SumError → List ℕ
sum_line name error = codes "input: table " ++ name ++ sum_tail error
