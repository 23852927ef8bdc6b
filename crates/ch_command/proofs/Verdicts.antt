-- From what was read and judged to what a command has to say.
use Rattle.std.proofs.Common.{◌≡◌, false, inl, List, Option, Some, Result, Ok, Err, refl, ℕ}
use Rattle.std.specs.Option.{IfSome}
use Rattle.std.specs.Result.{IfOk}
use Rattle.ch_outside.specs.Shelf.{Files}
use Rattle.ch_command.specs.Call.{Faults}
use Rattle.ch_command.specs.Command.{ReadThen, Then, misused, reading}
use Rattle.ch_command.specs.Reading.{read_all}
use Rattle.ch_command.specs.Status.{is_usage}
use Rattle.ch_command.specs.Verdict.{AreRead, Fits, ReadsFiles, misuse_verdict, verdict_of}
use Rattle.ch_command.specs.declared.outcome.Outcome.{Outcome}
use Rattle.ch_command.specs.declared.verdict.Misuse.TheVariants as misuse
use Rattle.ch_command.specs.declared.verdict.Verdict.{Verdict}
use Rattle.ch_command.specs.declared.verdict.Verdict.TheVariants.{Said, ReadFault, Memory}

told_by : (told : Option Files) (files : Files) (P : Files → Type 0) → IfSome told P → told ≡ Some files → P files
told_by told files P h e = rw e at h

-- a read that ends the command
pub unread_fits : (told : Option Files) (shelf : Faults) (names : List (List ℕ)) (next : List (List ℕ) → Outcome → Type 0) (why : Verdict) → ReadsFiles told shelf names (Err why) → Fits told shelf (reading names next) why
unread_fits told shelf names next (Said outcome) reads =
    (rw reads.0 refl, λ files e. let none : read_all files names ≡ Err outcome.err = told_by told files _ reads.1 e in rw none reads.0)
unread_fits told shelf names next (ReadFault line) reads = (reads.0, record { file = reads.1.file; named = reads.1.named; said = reads.1.said }, refl)
unread_fits told shelf names next Memory reads = tt

-- what the bytes of the files come to, unless memory ran out
pub judged_fits : {E : Type 0} (told : Option Files) (shelf : Faults) (names contents : List (List ℕ)) (next : List (List ℕ) → Outcome → Type 0) (judged : Result Outcome E) →
    AreRead told names contents → ((outcome : Outcome) → next contents outcome → is_usage outcome.ending ≡ false) → IfOk judged (λ outcome. next contents outcome) → Fits told shelf (reading names next) (verdict_of judged)
judged_fits told shelf names contents next (Ok outcome) read fine comes =
    (fine outcome comes, λ files e. let all : read_all files names ≡ Ok contents = told_by told files _ read.told_so e in rw all comes)
judged_fits told shelf names contents next (Err memory) read fine comes = tt

-- words that are refused
pub misuse_fits : (told : Option Files) (shelf : Faults) (lines : List ℕ → Type 0) (line : List ℕ) → lines line → Fits told shelf (misused lines) (misuse_verdict (misuse.Line line))
misuse_fits told shelf lines line is = (refl, λ files e. (line, is, refl))

-- A step of a chain that read its value: what the rest comes to is what the chain comes to.

pub then_goes_on : {X E : Type 0} (reads : X → Type 0) (refuses : Outcome → Type 0) (next : X → Outcome → Type 0) (x : X) (judged : Result Outcome E) → reads x → IfOk judged (λ outcome. next x outcome) → IfOk judged (λ outcome. Then reads refuses next outcome)
then_goes_on reads refuses next x (Ok outcome) is rest = inl (record { value = x; is = is; rest = rest })
then_goes_on reads refuses next x (Err memory) is rest = tt

pub read_goes_on : {X E F : Type 0} (read : Result X E) (says : E → Outcome) (next : X → Outcome → Type 0) (x : X) (judged : Result Outcome F) → read ≡ Ok x → IfOk judged (λ outcome. next x outcome) → IfOk judged (λ outcome. ReadThen read says next outcome)
read_goes_on read says next x (Ok outcome) is rest = rw is rest
read_goes_on read says next x (Err memory) is rest = tt
