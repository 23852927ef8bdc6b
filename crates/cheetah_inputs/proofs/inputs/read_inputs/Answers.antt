use Rattle.std.proofs.Common.{◌≡◌, ◌≤◌, ◌∙◌, ℕ, List, Option, Ok, ap, arith, length, map, subst, sym, Err}
use Rattle.std.specs.Prelude.{option_map}
use Rattle.std.proofs.lemmas.List.{length-map}
use Rattle.cheetah_words.specs.Tables.{part_word}
use Rattle.cheetah_words.specs.Words.{Request, request_of}
use Rattle.cheetah_words.specs.declared.table_word.TableWord.{TableWord}
use Rattle.cheetah_inputs.proofs.Gathered.{question_refused}
use Rattle.cheetah_inputs.proofs.Texts.{few_parts, few_tables, many_tables, named_short}
use Rattle.cheetah_inputs.proofs.inputs.read_inputs.Goals as goal
use Rattle.cheetah_inputs.specs.Inputs.{GivesSchedule, behind, first_text, part_texts, profile_text, schedule_text, tables_or_line}
use Rattle.cheetah_inputs.specs.Parts.{named_texts, part_text, tables_in}
use Rattle.cheetah_inputs.specs.Question.{ReadsQuestion}
use Rattle.cheetah_inputs.specs.Tables.{room, tables_within}

pub read_tables-requires-clause-few : goal.read_tables-requires-clause-few
read_tables-requires-clause-few c =
    let n = few_parts (map part_word c.as_slice.result.now) c.take_first-schedule_text.new.texts.items in
    let m = length-map c.in_ok-parts.parts.items part_text in
    let w = length-map c.as_slice.result.now part_word in
    let s = ap length c.as_slice.ensures in
    let e = ap length c.in_ok-parts.ensures in
    omega (arith, n, m, w, s, e, c.requires.few)

pub read_tables-requires-clause-short : goal.read_tables-requires-clause-short
read_tables-requires-clause-short c =
    rw c.in_ok-parts.ensures (named_short (map part_word c.as_slice.result.now) c.take_first-schedule_text.new.texts.items c.take_first-schedule_text.ensures.others)

pub read_question-requires : goal.read_question-requires
read_question-requires c =
    let parts = map part_text c.in_ok-parts.parts.items in
    let many = many_tables room (tables_in parts) c.in_ok-tables.tables c.in_ok-tables.ensures in
    let t = few_tables parts in
    let n = few_parts (map part_word c.as_slice.result.now) c.take_first-schedule_text.new.texts.items in
    let m = length-map c.in_ok-parts.parts.items part_text in
    let w = length-map c.as_slice.result.now part_word in
    let s = ap length c.as_slice.ensures in
    let e = ap length c.in_ok-parts.ensures in
    omega (arith, many, t, n, m, w, s, e, c.requires.few)

pub returns : goal.returns
returns c =
    let request : Request = request_of c.args.asked.now in
    let contents : List (List ℕ) = c.args.contents in
    let whole : c.from-texts.result.items ≡ contents = c.from-texts.ensures.0 ∙ c.into_vec.ensures in
    let text : option_map (λ t. t.now) c.bytes_in.result ≡ profile_text request contents =
    c.bytes_in.ensures ∙ (c.take_first-profile_text.ensures.text ∙ ap (first_text request.profile) whole) in
    let left : c.take_first-profile_text.new.texts.items ≡ behind request.profile contents = c.take_first-profile_text.ensures.rest ∙ ap (behind request.profile) whole in
    let lines : option_map (λ t. t.now) c.bytes_in-2.result ≡ schedule_text request contents =
    c.bytes_in-2.ensures ∙ (c.take_first-schedule_text.ensures.text ∙ ap (first_text request.schedule) left) in
    let gone : c.take_first-schedule_text.new.texts.items ≡ part_texts request contents = c.take_first-schedule_text.ensures.rest ∙ ap (behind request.schedule) left in
    let given : GivesSchedule (schedule_text request contents) c.in_ok-schedule.schedule = rw lines at c.in_ok-schedule.ensures in
    let parts : map part_text c.in_ok-parts.parts.items ≡ named_texts request.tables (part_texts request contents) =
    c.in_ok-parts.ensures ∙ (ap (λ (ws : List TableWord). named_texts (map part_word ws) c.take_first-schedule_text.new.texts.items) c.as_slice.ensures ∙ ap (named_texts request.tables) gone) in
    let tables : tables_or_line request contents ≡ Ok c.in_ok-tables.tables = sym (ap (λ ps. tables_within room (tables_in ps)) parts) ∙ c.in_ok-tables.ensures in
    let reads : ReadsQuestion c.as_bytes.result.now c.in_ok-tables.tables (Err c.in-Err.why) = c.in-Err.ensures in
    let asked : ReadsQuestion request.query c.in_ok-tables.tables (Err c.in-Err.why) = subst (λ t. ReadsQuestion t c.in_ok-tables.tables (Err c.in-Err.why)) c.as_bytes.ensures.value reads in
    question_refused request contents _ c.in_ok-profile.profile text c.in_ok-profile.ensures c.in_ok-schedule.schedule given c.in_ok-tables.tables c.in-Err.why tables asked
