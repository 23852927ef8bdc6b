-- The event of the protocol that a step stands for.
use Rattle.std.specs.Prelude.{List, map}
use Rattle.ch_protocol.specs.Machine.{How, Event}
use Rattle.ch_protocol.specs.Machine.How.{Take, Keep, Lose}
use Rattle.ch_protocol.specs.Machine.Event.{Send, Resend, Up, Down, Back, Inject, Restart}
use Rattle.ch_schedule.specs.declared.step.How.{How as SaidHow}
use Rattle.ch_schedule.specs.declared.step.How.TheVariants as how
use Rattle.ch_schedule.specs.declared.step.Step.{Step}
use Rattle.ch_schedule.specs.declared.step.Step.TheVariants as step

abbrev pub how_of : SaidHow → How
how_of how.Take = Take
how_of how.Keep = Keep
how_of how.Lose = Lose

-- an inject stands for the event that does nothing
abbrev pub event_of : Step → Event
event_of (step.Send worker) = Send worker
event_of (step.Resend worker place) = Resend worker place
event_of (step.Up at said) = Up at (how_of said)
event_of (step.Down at said) = Down at (how_of said)
event_of (step.Back at said) = Back at (how_of said)
event_of (step.Inject link bytes) = Inject
event_of step.Restart = Restart

-- the events of a schedule
abbrev pub events_of : List Step → List Event
events_of steps = map event_of steps
