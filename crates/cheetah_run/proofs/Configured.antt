-- A run that query, profile and tables say is that of a plan of the query: nothing is left to choose.
use Rattle.std.proofs.Common.{◌≡◌, ◌∙◌, ap, sym, refl, ℕ, ◌==◌, false, List, length, filter, map, ℤ}
use Rattle.std.proofs.lemmas.List.{length-map}
use Rattle.ch_bind.specs.Binding.{plain_bound}
use Rattle.ch_cells.specs.declared.Cell.{Cell}
use Rattle.ch_cover.specs.Rows.{Row}
use Rattle.ch_parts.specs.Scanned as scanned
use Rattle.ch_parts.specs.Scanned.{parts_by}
use Rattle.ch_plan.specs.Kinds.{IsPlanOf, kind_policy, kind_times}
use Rattle.ch_plan.specs.Policy.{passes_of, policy_of}
use Rattle.ch_plan.specs.declared.kind.PlanKind.{PlanKind}
use Rattle.ch_pred.specs.Gate.{part_holds}
use Rattle.ch_pred.specs.Holds.{holds_of}
use Rattle.ch_pred.specs.Meaning.{answer_to}
use Rattle.ch_pred.specs.Plain.{plain_of}
use Rattle.ch_pred.specs.Values.{View, words}
use Rattle.ch_pred.specs.declared.bound.Bound.{Bound}
use Rattle.ch_pred.specs.declared.bound.Shape.{Shape}
use Rattle.ch_pred.specs.declared.bound.Shape.TheVariants as shape
use Rattle.ch_protocol.specs.Packets.{Tuple}
use Rattle.ch_run.specs.Asked as run
use Rattle.ch_survival.specs.Asked.{answer_arrived, asked_gate, asked_reading}
use Rattle.ch_tables.specs.TableValue.{TableValue}
use Rattle.ch_words.specs.Packets.{kinds_read, sent_row}
use Rattle.ch_words.specs.Ranks.{read_by}
use Rattle.ch_words.specs.Rows.{Gate, answer_over, row_seen, side_seen}
use Rattle.ch_words.specs.Words.{Reading, read_row}
use Rattle.cheetah_inputs.specs.Inputs.{given_of}
use Rattle.cheetah_inputs.specs.Question.{unfiltered}
use Rattle.cheetah_inputs.specs.declared.inputs.Inputs.{Inputs}
use Rattle.cheetah_run.specs.Running.{asked_of_words, config_of, gate_of, reading_of, texts_of, tuple_of}

-- the kinds by which words are read know nothing of the filter
same_kinds : (b : Bound) (s : Shape) → kinds_read (unfiltered (plain_bound b)) s ≡ kinds_read b s
same_kinds b shape.Filter = refl
same_kinds b shape.Distinct = refl
same_kinds b (shape.Top by descending limit) = refl
same_kinds b (shape.Group keys max value) = refl
same_kinds b (shape.Having keys sum above) = refl
same_kinds b (shape.Join left right) = refl
same_kinds b (shape.Skyline dims) = refl
same_kinds b (shape.Semi key inner) = refl

same_reading : (texts : List (List ℕ)) (b : Bound) → reading_of texts (plain_bound b) ≡ asked_reading texts b
same_reading texts b = ap (read_by texts) (same_kinds b b.shape)

same_gate : (texts : List (List ℕ)) (b : Bound) → gate_of texts (plain_bound b) ≡ asked_gate texts b
same_gate texts b = ap (λ (d : Reading). λ (side : ℕ). λ (row : View ℤ). part_holds side false (read_row d row) (plain_of b.filter)) (same_reading texts b)

same_tuple : (texts : List (List ℕ)) (b : Bound) → tuple_of texts (plain_bound b) ≡ scanned.tuple_of texts b
same_tuple texts b = ap (λ (gate : Gate). λ (side : ℕ). λ (row : List Cell). let sent = sent_row texts gate b side row in record { bit = sent.bit; words = sent.words }) (same_gate texts b)

pub same_parts : (texts : List (List ℕ)) (b : Bound) (tables : List TableValue) → parts_by (tuple_of texts (plain_bound b)) b.tables tables ≡ scanned.parts_of texts b tables
same_parts texts b tables = ap (λ (tuple : ℕ → List Cell → Tuple). parts_by tuple b.tables tables) (same_tuple texts b)

pub configured : (inputs : Inputs) (k : PlanKind) → IsPlanOf k inputs.bound inputs.profile
    → config_of (given_of inputs) ≡ run.config_of (texts_of (given_of inputs)) inputs.bound inputs.tables k inputs.profile.window
configured inputs k is =
    let b = inputs.bound in
    let tuple = same_tuple (texts_of (given_of inputs)) b in
    let times : passes_of b.shape ≡ kind_times k = sym is.times in
    let policy : policy_of b inputs.profile ≡ kind_policy k = sym is.policy in
    λ i. record { parts = parts_by (tuple i) b.tables inputs.tables; window = inputs.profile.window; two_passes = times i == 2; prunes = policy i }

-- the rows of an answer over rows of words, by the query's plain form
seen_rows : (b : Bound) → row_seen (unfiltered (plain_bound b)) ≡ row_seen b
unfolding row_seen
seen_rows b = refl

pub same_partial : (texts : List (List ℕ)) (b : Bound) (rows : List Row)
    → length (answer_arrived texts b rows) ≡ length (answer_to (asked_of_words texts (plain_bound b)) (side_seen (unfiltered (plain_bound b)) 0 rows) (side_seen (unfiltered (plain_bound b)) 1 rows))
same_partial texts b rows =
    length-map (answer_over (asked_reading texts b) b rows) _
    ∙ sym (λ i.
    let d = same_reading texts b i in
    let seen = seen_rows b i in
    length (answer_to (record { values = words; holds = (λ row. holds_of (read_row d row) (plain_of b.filter)); printed = b.printed; shape = b.shape }) (map seen (sided 0)) (map seen (sided 1))))
  where
    sided : ℕ → List Row
    sided side = filter (λ r. r.side == side) rows
