-- What `cheetah` reads of the generated files: the default profile, the schedule and the tables that are drawn, and the query.
use Rattle.std.proofs.Common.{◌≡◌, ◌≤◌, ◌-◌, ◌*◌, ◌∙◌, ◌++◌, ap, arith, codes, cond, length, map, refl, Bool, true, false, List, [], ◌∷◌, None, Result, Ok, ℕ}
use Rattle.std.specs.Prelude.{pos}
use Rattle.std.proofs.lemmas.List.{length-append, length-map}
use Rattle.ch_bind.proofs.Sounding.{bound_few, bound_sound}
use Rattle.ch_bind.specs.Binding.{PlainBound, plain_bound}
use Rattle.ch_generated.specs.Draws.{generator_of}
use Rattle.ch_generated.specs.Inputs.{is_join, query_text, u_begins}
use Rattle.ch_generated.specs.TableText.{part_from, t_fields, u_text}
use Rattle.ch_generated.specs.declared.InputKind.{InputKind}
use Rattle.ch_generated.specs.declared.InputKind.TheVariants.{Filter, Distinct, Top, Group, Having, Join, Skyline}
use Rattle.ch_generated.specs.declared.Request.{Request}
use Rattle.ch_generated.specs.declared.TableRow.{TableRow}
use Rattle.ch_generated_laws.proofs.Binding.{none_refused, plan_is, sums_are}
use Rattle.ch_generated_laws.proofs.Queries.{spelled}
use Rattle.ch_generated_laws.proofs.Schedules.{read_as}
use Rattle.ch_generated_laws.proofs.Tables.{parts_len, t_rows_len, t_rows_small, t_table_is, u_table_is}
use Rattle.ch_generated_laws.specs.Queries.{select_of, shapes_of, tables_of}
use Rattle.ch_generated_laws.specs.Steps.{schedule_of}
use Rattle.ch_generated_laws.specs.Tables.{IsInRange, cells_of, part_cells, rows_of, t_table, t_texts, u_table}
use Rattle.ch_ir.specs.Profile.{default_settings}
use Rattle.ch_pred.proofs.Layers.{plain_of-Compare, plain_of-Truth}
use Rattle.ch_pred.specs.Plain.{Plain, plain_of}
use Rattle.ch_pred.specs.declared.bound.Bound.{Bound}
use Rattle.ch_pred.specs.declared.pred.Arg.TheVariants as arg
use Rattle.ch_pred.specs.declared.pred.BoundPred.{BoundPred}
use Rattle.ch_pred.specs.declared.pred.BoundPred.TheVariants as pred
use Rattle.ch_pred.specs.declared.pred.Cmp.TheVariants as cmp
use Rattle.ch_pred.specs.declared.pred.Literal.TheVariants as literal
use Rattle.ch_sql.proofs.Readings.{spelled_parsed}
use Rattle.ch_tables.specs.Table.{table_of}
use Rattle.ch_tables.specs.TableValue.{TableValue}
use Rattle.ch_tables.specs.declared.TableError.{TableError}
use Rattle.cheetah_inputs.proofs.Limits.{same_limits}
use Rattle.cheetah_inputs.specs.Inputs.{AreInputs, given_of, tables_or_line}
use Rattle.cheetah_inputs.specs.Limits.{limit_exceeded}
use Rattle.cheetah_inputs.specs.Parts.{TableText, named_texts, tables_in}
use Rattle.cheetah_inputs.specs.Question.{IsQuestion}
use Rattle.cheetah_inputs.specs.Tables.{and_more, room, room_after, tables_within, with_more}
use Rattle.cheetah_inputs.specs.Tables as tables
use Rattle.cheetah_inputs.specs.declared.inputs.Inputs.{Inputs}
use Rattle.cheetah_gen.specs.Given.{given_by, query_of}
use Rattle.cheetah_gen_words.specs.Asked.{asked_of, parts_by}
use Rattle.cheetah_gen_words.specs.Files.{contents_of}

-- The bound query, as code has it.

abbrev pub filter_by : InputKind → BoundPred
filter_by Filter = pred.Compare (record { side = 0; at = 1 }) cmp.Lt (arg.Value (literal.Number (pos 1000)))
filter_by Distinct = pred.Truth
filter_by Top = pred.Truth
filter_by Group = pred.Truth
filter_by Having = pred.Truth
filter_by Join = pred.Truth
filter_by Skyline = pred.Truth

abbrev pub bound_by : Request → Bound
bound_by request = let q = query_of request in
    record { tables = q.tables; carried = q.carried; kinds = q.kinds; header = q.header; printed = q.printed; filter = filter_by request.kind; shape = q.shape }

-- its filter is the query's
same_filter : (kind : InputKind) (seed rows : ℕ) → let r : Request = record { seed = seed; rows = rows; kind = kind } in plain_of (filter_by kind) ≡ (query_of r).filter
same_filter Filter seed rows = plain_of-Compare (record { side = 0; at = 1 }) cmp.Lt (arg.Value (literal.Number (pos 1000)))
same_filter Distinct seed rows = plain_of-Truth
same_filter Top seed rows = plain_of-Truth
same_filter Group seed rows = plain_of-Truth
same_filter Having seed rows = plain_of-Truth
same_filter Join seed rows = plain_of-Truth
same_filter Skyline seed rows = plain_of-Truth

pub is_bound : (request : Request) → plain_bound (bound_by request) ≡ query_of request
is_bound request =
    let q = query_of request in
    ap (λ (f : Plain). record { tables = q.tables; carried = q.carried; kinds = q.kinds; header = q.header; printed = q.printed; filter = f; shape = q.shape }) (same_filter request.kind request.seed request.rows)

is_question : (request : Request) → IsQuestion (query_text request.kind) (tables_of request) (bound_by request)
is_question request =
    let passes = none_refused request.kind request.seed request.rows in
    let parsed = spelled_parsed (query_text request.kind) (select_of request.kind) (spelled request.kind) in
    let bound = bound_by request in
    record {
      query = select_of request.kind;
      spelled = spelled request.kind;
      passes = passes;
      is_bound = is_bound request;
      summed = sums_are request.kind request.seed request.rows bound (is_bound request);
      sound = bound_sound (Ok bound) (select_of request.kind) (shapes_of request) parsed (passes, is_bound request);
      few = bound_few (Ok bound) (select_of request.kind) (shapes_of request) (passes, is_bound request);
    }

-- The tables.

abbrev text_of : List ℕ → List (List ℕ) → TableText
text_of name texts = record { name = name; texts = texts }

grouped : (join : Bool) (a b c d u : List ℕ) → tables_in (named_texts (parts_by join) (a ∷ b ∷ c ∷ d ∷ [] ++ (cond join (u ∷ []) [])))
    ≡ text_of (codes "t") (a ∷ b ∷ c ∷ d ∷ []) ∷ (cond join (text_of (codes "u") (u ∷ []) ∷ []) [])
grouped true a b c d u = refl
grouped false a b c d u = refl

within_by : (join : Bool) (texts : List (List ℕ)) (u : List ℕ) (t_value u_value : TableValue) → table_of (codes "t") room texts ≡ Ok t_value → table_of (codes "u") (room_after room t_value) (u ∷ []) ≡ Ok u_value
    → tables_within room (text_of (codes "t") texts ∷ (cond join (text_of (codes "u") (u ∷ []) ∷ []) [])) ≡ Ok (t_value ∷ (cond join (u_value ∷ []) []))
within_by join texts u t_value u_value t_is u_is =
    let behind = λ (table : TableValue). tables_within (room_after room table) (cond join (text_of (codes "u") (u ∷ []) ∷ []) []) in
    ap (λ (r : Result TableValue TableError). with_more (tables.or_line (codes "t") r) behind) t_is ∙ ap (and_more t_value) (last_by join)
  where
    last_by : (b : Bool) → tables_within (room_after room t_value) (cond b (text_of (codes "u") (u ∷ []) ∷ []) []) ≡ Ok (cond b (u_value ∷ []) [])
    last_by true = ap (λ (r : Result TableValue TableError). with_more (tables.or_line (codes "u") r) (λ table. Ok [])) u_is
    last_by false = refl

-- the first table leaves room for the second
rows_are : (rows : List TableRow) → length (tables.rows_of (t_table rows)) ≤ length rows
rows_are rows =
    let len = parts_len 0 rows in
    let all = length-append (part_cells rows 0) (part_cells rows 1 ++ (part_cells rows 2 ++ (part_cells rows 3 ++ []))) in
    let three = length-append (part_cells rows 1) (part_cells rows 2 ++ (part_cells rows 3 ++ [])) in
    let two = length-append (part_cells rows 2) (part_cells rows 3 ++ []) in
    let one = length-append (part_cells rows 3) [] in
    let a = cells_len 0 in
    let b = cells_len 1 in
    let c = cells_len 2 in
    let d = cells_len 3 in
    let same : length (tables.rows_of (t_table rows)) ≡ length (part_cells rows 0 ++ (part_cells rows 1 ++ (part_cells rows 2 ++ (part_cells rows 3 ++ [])))) = refl in
    omega arith
  where
    cells_len : (part : ℕ) → length (part_cells rows part) ≡ length (map t_fields (part_from part 0 rows))
    cells_len part = length-map (map t_fields (part_from part 0 rows)) cells_of

tables_are : (request : Request) → IsInRange request → tables_or_line (asked_of request.kind) (contents_of request) ≡ Ok (tables_of request)
tables_are request range =
    let rows = rows_of request in
    let len = t_rows_len request.rows (generator_of request.seed) in
    let some = range.some in
    let few = range.few in
    let small = t_rows_small request.rows (generator_of request.seed) in
    let t_is = t_table_is room rows small (omega arith) (omega arith) (omega arith) in
    let many = rows_are rows in
    let rows_left : 100 ≤ 4000000 - length (tables.rows_of (t_table rows)) = omega arith in
    let cells_left : 200 ≤ 32000000 - length (tables.rows_of (t_table rows)) * 3 = omega arith in
    let u_is = u_table_is (room_after room (t_table rows)) (u_begins request) rows_left cells_left in
    ap (tables_within room) (grouped (is_join request.kind) _ _ _ _ (u_text (u_begins request))) ∙ within_by (is_join request.kind) (t_texts rows) (u_text (u_begins request)) (t_table rows) (u_table (u_begins request)) t_is u_is

-- All of them.

abbrev pub inputs_by : Request → Inputs
inputs_by request = record { profile = default_settings; schedule = schedule_of request; tables = tables_of request; bound = bound_by request }

pub are_inputs : (request : Request) → IsInRange request → AreInputs (asked_of request.kind) (contents_of request) (inputs_by request)
are_inputs request range = record {
  profile = refl;
  schedule = read_as request;
  tables = tables_are request range;
  question = is_question request;
}

pub same_given : (request : Request) → given_of (inputs_by request) ≡ given_by request
same_given request = ap (λ (q : PlainBound). record { profile = default_settings; schedule = schedule_of request; tables = tables_of request; query = q }) (is_bound request)

pub within_limits : (request : Request) → limit_exceeded (given_of (inputs_by request)).query default_settings ≡ None
within_limits request = same_limits (bound_by request) default_settings ∙ plan_is request.kind request.seed request.rows (bound_by request) (is_bound request)
