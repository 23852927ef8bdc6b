-- What the contents give is one thing, and contents that give it aren't refused.
use Rattle.std.proofs.Common.{◌≡◌, ◌∙◌, ap, sym, refl, ℕ, List, [], map, Result, Ok}
use Rattle.ch_bind.specs.Binding.{bound_of, plain_bound}
use Rattle.ch_bind.specs.Shapes.{shape_of}
use Rattle.ch_command.specs.Command.{refused}
use Rattle.ch_command.specs.declared.outcome.Ending.TheVariants.{Input, Rejected}
use Rattle.ch_command.specs.declared.outcome.Outcome.{Outcome}
use Rattle.ch_sql.proofs.Readings.{one_query}
use Rattle.cheetah_inputs.proofs.Meanings.{contents_all, contents_one, contents_read, contents_refused}
use Rattle.cheetah_inputs.proofs.Schedules.{schedules_decided}
use Rattle.cheetah_inputs.specs.Inputs.{AreInputs, OfContents, given_of, never, schedule_text}
use Rattle.cheetah_inputs.specs.declared.inputs.Inputs.{Inputs}
use Rattle.cheetah_words.specs.Words.{Request}
use Rattle.cheetah_inputs_laws.specs.Read.{answering}

same_value : {X E : Type 0} (r : Result X E) (x y : X) → r ≡ Ok x → r ≡ Ok y → x ≡ y
same_value r x y p q = cc

pub given_once : (request : Request) (contents : List (List ℕ)) (a b : Inputs) → AreInputs request contents a → AreInputs request contents b → given_of a ≡ given_of b
given_once request contents a b p q =
    let profile : a.profile ≡ b.profile = same_value _ a.profile b.profile p.profile q.profile in
    let schedule = (schedules_decided (schedule_text request contents)).one_value a.schedule b.schedule p.schedule q.schedule in
    let tables : a.tables ≡ b.tables = same_value _ a.tables b.tables p.tables q.tables in
    let query : p.question.query ≡ q.question.query = one_query request.query p.question.query q.question.query p.question.spelled q.question.spelled in
    let bound : plain_bound a.bound ≡ plain_bound b.bound = p.question.is_bound ∙ ((λ i. bound_of (query i) (map shape_of (tables i))) ∙ sym q.question.is_bound) in
    λ i. record { profile = profile i; schedule = schedule i; tables = tables i; query = bound i }

pub refused_ending : (request : Request) (contents : List (List ℕ)) (outcome : Outcome) → OfContents request never contents outcome → outcome.ending ≡ Input
refused_ending request contents = contents_all request contents never (λ o. o.ending ≡ Input) (λ line. refl) (λ given o none. absurd none)

pub apart : (request : Request) (contents : List (List ℕ)) (inputs : Inputs) (outcome : Outcome) → AreInputs request contents inputs → OfContents request never contents outcome → ⊥
apart request contents inputs outcome are bad =
    let next = answering (λ given. refused Rejected []) in
    let same : outcome ≡ refused Rejected [] =
    contents_one request contents next (λ given a b p q. p ∙ sym q) outcome (refused Rejected []) (contents_refused request contents next outcome bad) (contents_read request contents next inputs (refused Rejected []) are refl) in
    let wrong : Input ≡ Rejected = sym (refused_ending request contents outcome bad) ∙ ap (λ (o : Outcome). o.ending) same in
    cc
