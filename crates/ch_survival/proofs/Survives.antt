-- The answer of a planned query survives its run.
use Rattle.std.proofs.Common.{◌≡◌, ◌≤◌, ℕ, Bool, true, false, List, IsPermutation, refl, sym, subst, ◌∙◌, ap}
use Rattle.std.specs.Prelude.{if◌then◌else◌}
use Rattle.ch_cells.specs.declared.Cell.{Cell}
use Rattle.ch_cells.specs.declared.Kind.{Kind}
use Rattle.ch_lists.proofs.Members.{Each-permutation}
use Rattle.ch_cover.specs.Rows.{AreRows, Policy, Row}
use Rattle.ch_ir.specs.declared.profile.Profile.{Profile}
use Rattle.ch_pred.specs.Meaning.{answer}
use Rattle.ch_pred.specs.declared.bound.Bound.{Bound}
use Rattle.ch_pred.specs.Sound.{IsCarried}
use Rattle.ch_words.specs.Gates.{gate_of}
use Rattle.ch_words.specs.Packets.{AreSound, all_sent, kinds_read}
use Rattle.ch_words.specs.Ranks.{read_by}
use Rattle.ch_words.specs.Rows.{Gate, GateFits, answer_over}
use Rattle.ch_words.specs.Words.{asked_of_words, read_answer}
use Rattle.ch_words.proofs.Gates.{gates_fit}
use Rattle.ch_words.proofs.SoundQueries.{sound_names, sound_tables}
use Rattle.ch_words.proofs.Packets.{rows_read}
use Rattle.ch_prune.specs.Sent.{is_sent}
use Rattle.ch_plan.specs.Kinds.{Covers, IsPlanOf, kind_policy, kind_times}
use Rattle.ch_plan.specs.declared.kind.PlanKind.{PlanKind}
use Rattle.ch_plan.proofs.KindLaws.{kind_holds}
use Rattle.ch_plan.specs.Needs.{greatest_length}
use Rattle.ch_survival.specs.Asked.{IsAsked, answer_arrived, asked_gate, asked_reading, asked_rows}
use Rattle.ch_survival.specs.Given.{AreParts, IsPlanned, given_of}
use Rattle.ch_survival.proofs.Starts.{starts}
use Rattle.ch_survival.proofs.Sending.{sent_pass}
use Rattle.ch_protocol.specs.Machine.{Config, IsReached, State, passes, stopped}
use Rattle.ch_protocol.specs.Received.{all_rows, rows_arrived}
use Rattle.ch_protocol_laws.proofs.Arrived.{in_order}
use Rattle.ch_protocol_laws.proofs.Once.{one_pass_answer}
use Rattle.ch_protocol_laws.proofs.Reached.{reached_sound}
use Rattle.ch_protocol_laws.proofs.Twice.{two_pass_answer}

-- what arrives of rows that a policy covers in its passes has their answer
pub arrived_answer : {A : Type 0} (c : Config) (is_row : Row → Bool) (answer : List Row → A) (s : State) → Covers (passes c) is_row c.prunes answer → AreRows is_row (all_rows c)
    → IsReached c s → stopped c s ≡ true → answer (rows_arrived c (passes c) s.received) ≡ answer (all_rows c)
arrived_answer c is_row answer s law are reached stop = go c.two_passes refl
  where
    go : (t : Bool) → c.two_passes ≡ t → answer (rows_arrived c (passes c) s.received) ≡ answer (all_rows c)
    go false e =
        let covers = law.once (ap (λ (t : Bool). if t then 2 else 1) e) in
        in_order c s (reached_sound c s reached) (passes c) is_row answer covers.order are ∙ one_pass_answer c is_row answer s e covers are reached stop
    go true e =
        let covers = law.twice (ap (λ (t : Bool). if t then 2 else 1) e) in
        in_order c s (reached_sound c s reached) (passes c) is_row answer covers.order are ∙ two_pass_answer c is_row answer s e covers are reached stop

pub survives : (texts : List (List ℕ)) (kinds : ℕ → ℕ → Kind) (b : Bound) (tables : List (List (List Cell))) (gate : Gate) → AreSound texts kinds b tables
    → (is_row : Row → Bool) → AreRows is_row (all_sent texts gate b tables) → (c : Config) (s : State) → Covers (passes c) is_row c.prunes (answer_over (read_by texts kinds) b)
    → IsPermutation (all_sent texts gate b tables) (all_rows c) → IsReached c s → stopped c s ≡ true
    → answer b tables ≡ read_answer (read_by texts kinds) b (answer_over (read_by texts kinds) b (rows_arrived c (passes c) s.received))
survives texts kinds b tables gate sound is_row are c s law p reached stop =
    rows_read texts kinds b tables gate sound (all_rows c) p
    ∙ ap (read_answer (read_by texts kinds) b) (sym (arrived_answer c is_row (answer_over (read_by texts kinds) b) s law (Each-permutation (λ r. is_row r ≡ true) (all_sent texts gate b tables) (all_rows c) p are) reached stop))

-- the same for a plan of the query
pub plan_survives : (texts : List (List ℕ)) (kinds : ℕ → ℕ → Kind) (b : Bound) (tables : List (List (List Cell))) (gate : Gate) (k : PlanKind) (profile : Profile) → AreSound texts kinds b tables
    → IsPlanOf k b profile → GateFits gate (asked_of_words (read_by texts kinds) b) b.shape → AreRows (is_sent gate b) (all_sent texts gate b tables)
    → (c : Config) (s : State) → c.prunes ≡ kind_policy k → passes c ≡ kind_times k → IsPermutation (all_sent texts gate b tables) (all_rows c) → IsReached c s → stopped c s ≡ true
    → answer b tables ≡ read_answer (read_by texts kinds) b (answer_over (read_by texts kinds) b (rows_arrived c (passes c) s.received))
plan_survives texts kinds b tables gate k profile sound plan fits are c s policy_is passes_is p reached stop =
    let d = read_by texts kinds in
    let h = kind_holds k d b gate (plan.serves d gate fits) in
    let in_passes : Covers (passes c) (is_sent gate b) (kind_policy k) (answer_over d b) = subst (λ (n : ℕ). Covers n (is_sent gate b) (kind_policy k) (answer_over d b)) (sym passes_is) h.covers in
    survives texts kinds b tables gate sound (is_sent gate b) are c s (subst (λ (prunes : Policy). Covers (passes c) (is_sent gate b) prunes (answer_over d b)) (sym policy_is) in_passes) p reached stop

-- and for a sound query
pub asked_survives : (texts : List (List ℕ)) (b : Bound) (tables : List (List (List Cell))) (k : PlanKind) (profile : Profile) → IsAsked texts b tables → IsPlanOf k b profile
    → (c : Config) (s : State) → c.prunes ≡ kind_policy k → passes c ≡ kind_times k → IsPermutation (asked_rows texts b tables) (all_rows c) → IsReached c s → stopped c s ≡ true
    → answer b tables ≡ answer_arrived texts b (rows_arrived c (passes c) s.received)
asked_survives texts b tables k profile asked plan c s policy_is passes_is p reached stop =
    let kinds = kinds_read b b.shape in
    let d = read_by texts kinds in
    let sound : AreSound texts kinds b tables = sound_tables texts b tables asked.sound asked.ascends asked.fits in
    plan_survives texts kinds b tables (gate_of d b) k profile sound plan (gates_fit d b (IsCarried b) (sound_names b asked.sound) asked.sound.whole)
    (sent_pass texts kinds b tables (gate_of d b) sound asked.range asked.sums) c s policy_is passes_is p reached stop

-- what workers send of such tables passes the test of rows
pub asked_sent : (texts : List (List ℕ)) (b : Bound) (tables : List (List (List Cell))) → IsAsked texts b tables → AreRows (is_sent (asked_gate texts b) b) (asked_rows texts b tables)
asked_sent texts b tables asked = sent_pass texts (kinds_read b b.shape) b tables (asked_gate texts b) (sound_tables texts b tables asked.sound asked.ascends asked.fits) asked.range asked.sums

-- a plan of a sound query over the rows of its tables may be started
pub asked_starts : (texts : List (List ℕ)) (b : Bound) (tables : List (List (List Cell))) (k : PlanKind) (profile : Profile) → IsAsked texts b tables → IsPlanOf k b profile → greatest_length b.carried ≤ 16
    → (c : Config) → AreParts c → c.prunes ≡ kind_policy k → IsPermutation (asked_rows texts b tables) (all_rows c) → IsPlanned (given_of k (asked_gate texts b) b c)
asked_starts texts b tables k profile asked plan few c parts policy_is p =
    let d = asked_reading texts b in
    starts k d b profile (asked_gate texts b) plan few (gates_fit d b (IsCarried b) (sound_names b asked.sound) asked.sound.whole) c parts policy_is
    (Each-permutation (λ r. is_sent (asked_gate texts b) b r ≡ true) (asked_rows texts b tables) (all_rows c) p (asked_sent texts b tables asked))
