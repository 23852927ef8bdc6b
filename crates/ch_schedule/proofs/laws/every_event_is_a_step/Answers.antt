use Rattle.std.proofs.Common.{◌≡◌, List, [], ◌∷◌, refl, ap, ap₂}
use Rattle.ch_protocol.specs.Machine.{How, Event}
use Rattle.ch_protocol.specs.Machine.How.{Take, Keep, Lose}
use Rattle.ch_protocol.specs.Machine.Event.{Send, Resend, Up, Down, Back, Inject, Restart}
use Rattle.ch_schedule.specs.declared.step.How.{How as SaidHow}
use Rattle.ch_schedule.specs.declared.step.How.TheVariants as how
use Rattle.ch_schedule.specs.declared.step.Link.TheVariants as link
use Rattle.ch_schedule.specs.declared.step.Step.{Step}
use Rattle.ch_schedule.specs.declared.step.Step.TheVariants as step
use Rattle.ch_schedule.specs.Event.{how_of, event_of, events_of}
use Rattle.ch_schedule.proofs.laws.every_event_is_a_step.Goals as goal

how_is : (h : How) → (s : SaidHow) × (how_of s ≡ h)
how_is Take = (how.Take, refl)
how_is Keep = (how.Keep, refl)
how_is Lose = (how.Lose, refl)

event_is : (e : Event) → (s : Step) × (event_of s ≡ e)
event_is (Send worker) = (step.Send worker, refl)
event_is (Resend worker place) = (step.Resend worker place, refl)
event_is (Up at said) = let h = how_is said in (step.Up at h.0, ap (Up at) h.1)
event_is (Down at said) = let h = how_is said in (step.Down at h.0, ap (Down at) h.1)
event_is (Back at said) = let h = how_is said in (step.Back at h.0, ap (Back at) h.1)
event_is Inject = (step.Inject link.Up [], refl)
event_is Restart = (step.Restart, refl)

events_are : (es : List Event) → (ss : List Step) × (events_of ss ≡ es)
events_are [] = ([], refl)
events_are (e ∷ es) = let s = event_is e in let ss = events_are es in (s.0 ∷ ss.0, ap₂ (λ (x : Event) (xs : List Event). x ∷ xs) s.1 ss.1)

pub returns : goal.returns
returns c events = events_are events
