use Rattle.std.proofs.Common.{◌<◌, ◌-◌, ◌^◌, List, ℕ, [], length, get_or, map, Ok, sym, ap, subst, ◌∙◌, arith}
use Rattle.std.proofs.lemmas.List.{length-map}
use Rattle.std.proofs.lemmas.Result.{err_from_is_err_and}
use Rattle.ch_tables.specs.Draft.{all_rows}
use Rattle.ch_tables.specs.Records.{records_of}
use Rattle.ch_tables.specs.Refusal.{body_of, header_of, repeated}
use Rattle.ch_tables.specs.Whole.{AreWide}
use Rattle.ch_tables.proofs.AcceptLemmas.{accepted_parts, header-at, header-short, refused_parts, taken_parts, whole_draft}
use Rattle.ch_tables.proofs.RecordLemmas.{short_records}
use Rattle.ch_tables.proofs.read.read_table.Goals as goal

pub returns-in_err-draft : goal.returns-in_err-draft
returns-in_err-draft c =
    let p = err_from_is_err_and c.from_residual.result c.from_residual.ensures.1 in
    rw (p.1, p.2) (λ other. refused_parts c.args.name.now c.args.room c.args.parts.now c.as_slice.result.now c.in_err-draft.field-0.0 c.as_slice.ensures (c.in_err-draft.ensures other))

pub table_of_draft-requires : goal.table_of_draft-requires
table_of_draft-requires c =
    let texts = c.as_slice.result.now in
    let records = map records_of texts in
    let e = c.in_ok-draft.ensures in
    let size = ap length c.as_slice.ensures in
    let some : 0 < length texts = omega arith in
    let many : 0 < length records = omega (arith, length-map texts records_of) in
    let t = taken_parts c.args.room records many e.0 in
    let named = header-at texts some in
    let few : length (map body_of records) < 2 ^ 32 = omega (arith, length-map texts records_of, length-map records body_of) in
    let first : length (get_or texts 0 []) < 2 ^ 32 - 1 = rw c.as_slice.ensures (c.requires.short 0 [] (omega arith)) in
    record {
      whole = whole_draft c.args.room c.in_ok-draft.draft (header_of (records_of (get_or texts 0 []))) (map body_of records) e.1 e.2
          (subst (λ (header : List (List ℕ)). AreWide (length header) (all_rows (map body_of records))) named t.1) (ap repeated (sym named) ∙ t.0) few
          (header-short (records_of (get_or texts 0 [])) (short_records (get_or texts 0 []) first));
    }

pub returns : goal.returns
returns c =
    let texts = c.as_slice.result.now in
    let records = map records_of texts in
    let e = c.in_ok-draft.ensures in
    let size = ap length c.as_slice.ensures in
    let some : 0 < length texts = omega arith in
    let many : 0 < length records = omega (arith, length-map texts records_of) in
    let t = taken_parts c.args.room records many e.0 in
    let named = header-at texts some in
    accepted_parts c.args.name.now c.args.room c.args.parts.now texts some c.as_slice.ensures e.0
    ∙ ap Ok (sym (c.in_ok-table_of_draft.ensures (header_of (records_of (get_or texts 0 []))) (map body_of records) e.1
    (subst (λ (header : List (List ℕ)). AreWide (length header) (all_rows (map body_of records))) named t.1)))
