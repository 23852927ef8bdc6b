-- What a run says that has stopped.
use Rattle.std.proofs.Common.{◌≡◌, ℕ, true, List}
use Rattle.ch_cells.specs.declared.outcome.Counts.{Counts}
use Rattle.ch_cells.specs.declared.outcome.OpenFlow.{OpenFlow}
use Rattle.ch_command.specs.declared.outcome.Ending.TheVariants as ending
use Rattle.ch_command.specs.declared.outcome.Outcome.{Outcome}
use Rattle.ch_print.specs.AnswerText.{text_of}
use Rattle.ch_print.specs.RunTexts.{counts_line}
use Rattle.ch_protocol.specs.Machine.{State, stopped}
use Rattle.ch_protocol.specs.Outcome as run
use Rattle.ch_run.specs.Outcomes.{counts_seen, outcome_seen}
use Rattle.ch_run.specs.Runs.{Begun}
use Rattle.ch_run.specs.declared.outcome.Outcome.TheVariants as seen
use Rattle.cheetah_pack_meaning.specs.Saying.{arrived_in, said_of_run}

pub done_said : (q : Begun) (s : State) (o : run.Outcome) (out : List ℕ) (counts : Counts) → seen.Done counts ≡ outcome_seen o → out ≡ text_of (record { header = q.query.header; rows = arrived_in q s })
    → ◌≡◌ {A = Outcome} (record { ending = ending.Done; out = out; err = counts_line counts }) (said_of_run q s o)
done_said q s (run.Outcome.Done n) out counts e text =
    let same : counts ≡ counts_seen n = cc in
    λ i. record { ending = ending.Done; out = text i; err = counts_line (same i) }
done_said q s (run.Outcome.Open flows) out counts e text = absurd cc

-- a run that has stopped isn't open
pub not_open : (q : Begun) (s : State) (flows : List OpenFlow) → stopped q.given.config s ≡ true → seen.Open flows ≡ outcome_seen (run.outcome q.given.config s) → ⊥
not_open q s flows stop e = let f = rw stop at e in cc
