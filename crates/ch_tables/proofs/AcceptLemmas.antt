-- What parts that aren't refused keep.
use Rattle.std.proofs.Common.{◌≡◌, ℕ, zero, suc, ◌+◌, ◌^◌, ◌<◌, ◌≤◌, Bool, true, false, List, [], ◌∷◌, ◌++◌, length, get_or, map, Option, Some, None, Ok, Err, eqb, ltb, refl, sym, ap, subst, ◌∙◌, arith, length-append}
use Rattle.std.specs.Prelude.{All, bytes_eq, if◌then◌else◌, option_map, sum_by}
use Rattle.std.specs.Option.{option_or}
use Rattle.std.specs.Cmp.Lexicographic.{pointwise}
use Rattle.std.specs.List.{range_with_len}
use Rattle.std.proofs.lemmas.Bool.{eqb-true}
use Rattle.std.proofs.lemmas.List.{length-map}
use Rattle.std.proofs.lemmas.List.FromFn.{get_or-map-range_with_len, length-map-range_with_len}
use Rattle.ch_tables.specs.Draft.{IsDraftOf, IsWithin, all_rows, spans_from}
use Rattle.ch_tables.specs.Reading.{AreShort}
use Rattle.ch_tables.specs.Records.{records_of}
use Rattle.ch_tables.specs.Refusal.{body_of, first_refusal, header_of, later_refusal, part_refusal, refusal, repeated, rows_refusal}
use Rattle.ch_tables.specs.Table.{column_of, kinds_of, table_from, table_of, table_or, table_with}
use Rattle.ch_tables.specs.TableValue.{TableValue}
use Rattle.ch_tables.specs.Whole.{AreWide, IsWhole}
use Rattle.ch_tables.specs.declared.draft.Draft.{Draft}
use Rattle.ch_tables.specs.declared.draft.Span.{Span}
use Rattle.ch_tables.specs.declared.error.Room.{Room}
use Rattle.ch_tables.specs.declared.error.TableError.{TableError}
use Rattle.ch_tables.specs.declared.error.TableError.TheVariants as refused
use Rattle.ch_tables.proofs.ValueLemmas.{no_texts, sum-no_texts, sum-with_rows, with_rows-columns}

neither : (a b : Option TableError) → option_or a b ≡ None → (a ≡ None) × (b ≡ None)
neither None b e = (refl, e)
neither (Some x) b e = cc

row-taken : (long rows cells : Bool) (a b c : TableError) (rest : Option TableError)
    → (if long then (if rows then Some a else (if cells then Some b else rest)) else Some c) ≡ None → (long ≡ true) × (rest ≡ None)
row-taken true false false a b c rest e = (refl, e)
row-taken true false true a b c rest e = cc
row-taken true true cells a b c rest e = cc
row-taken false rows cells a b c rest e = cc

rows-taken : (room : Room) (part width row rows cells : ℕ) (body : List (List (List ℕ))) → rows_refusal room part width row rows cells body ≡ None → AreWide width body
rows-taken room part width row rows cells [] e = tt
rows-taken room part width row rows cells (fields ∷ more) e =
    let t = row-taken (eqb (length fields) width) (ltb room.rows (rows + 1)) (ltb room.cells (cells + width)) (refused.TooManyRows part row) (refused.TooManyCells part row)
    (refused.Ragged part row (length fields) width) (rows_refusal room part width (row + 1) (rows + 1) (cells + width) more) e in
    (eqb-true (length fields) width t.0, rows-taken room part width (row + 1) (rows + 1) (cells + width) more t.1)

names-taken : (same : Bool) (rest : Option TableError) (a : TableError) → (if same then rest else Some a) ≡ None → rest ≡ None
names-taken true rest a e = e
names-taken false rest a e = cc

part-taken : (room : Room) (header : List (List ℕ)) (part rows cells : ℕ) (records : List (List (List ℕ))) → part_refusal room header part rows cells records ≡ None
    → AreWide (length header) (body_of records)
part-taken room header part rows cells [] e = cc
part-taken room header part rows cells (names ∷ body) e =
    rows-taken room part (length header) 0 rows cells body
    (names-taken (pointwise bytes_eq names header) (rows_refusal room part (length header) 0 rows cells body) (refused.HeaderDiffers part) e)

wide-append : (width : ℕ) (xs ys : List (List (List ℕ))) → AreWide width xs → AreWide width ys → AreWide width (xs ++ ys)
wide-append width [] ys a b = b
wide-append width (x ∷ xs) ys a b = (a.0, wide-append width xs ys a.1 b)

later-taken : (room : Room) (header : List (List ℕ)) (part rows cells : ℕ) (parts : List (List (List (List ℕ)))) → later_refusal room header part rows cells parts ≡ None
    → AreWide (length header) (all_rows (map body_of parts))
later-taken room header part rows cells [] e = tt
later-taken room header part rows cells (records ∷ parts) e =
    let n = neither (part_refusal room header part rows cells records)
    (later_refusal room header (part + 1) (rows + length (body_of records)) (cells + sum_by length (body_of records)) parts) e in
    wide-append (length header) (body_of records) (all_rows (map body_of parts)) (part-taken room header part rows cells records n.0)
    (later-taken room header (part + 1) (rows + length (body_of records)) (cells + sum_by length (body_of records)) parts n.1)

no-repeat : (o : Option ℕ) → option_map refused.DuplicateColumn o ≡ None → o ≡ None
no-repeat None e = refl
no-repeat (Some at) e = cc

first-taken : (room : Room) (records : List (List (List ℕ))) → first_refusal room records ≡ None
    → (repeated (header_of records) ≡ None) × AreWide (length (header_of records)) (body_of records)
first-taken room [] e = cc
first-taken room (header ∷ body) e =
    let n = neither (option_map refused.DuplicateColumn (repeated header)) (rows_refusal room 0 (length header) 0 0 0 body) e in
    (no-repeat (repeated header) n.0, rows-taken room 0 (length header) 0 0 0 body n.1)

-- parts that aren't refused have a header without repeats, and rows of its length
pub taken_parts : (room : Room) (parts : List (List (List (List ℕ)))) → 0 < length parts → refusal room parts ≡ None
    → (repeated (header_of (get_or parts 0 [])) ≡ None) × AreWide (length (header_of (get_or parts 0 []))) (all_rows (map body_of parts))
taken_parts room [] h e = absurd (omega arith)
taken_parts room (records ∷ parts) h e =
    let n = neither (first_refusal room records) (later_refusal room (header_of records) 1 (length (body_of records)) (sum_by length (body_of records)) parts) e in
    let first = first-taken room records n.0 in (
      first.0,
      wide-append (length (header_of records)) (body_of records) (all_rows (map body_of parts)) first.1
          (later-taken room (header_of records) 1 (length (body_of records)) (sum_by length (body_of records)) parts n.1),
    )

length-spans_from : (s : ℕ) (bodies : List (List (List (List ℕ)))) → length (spans_from s bodies) ≡ length bodies
length-spans_from s [] = refl
length-spans_from s (body ∷ bodies) = ap suc (length-spans_from (s + length body) bodies)

spans-within : (s end : ℕ) (bodies : List (List (List (List ℕ)))) → s + length (all_rows bodies) ≡ end → (k : ℕ) (d : Span) → k < length (spans_from s bodies)
    → ((get_or (spans_from s bodies) k d).from ≤ (get_or (spans_from s bodies) k d).to) × ((get_or (spans_from s bodies) k d).to ≤ end)
spans-within s end [] e k d h = absurd (omega arith)
spans-within s end (body ∷ bodies) e zero d h = let n = length-append body (all_rows bodies) in (omega arith, omega arith)
spans-within s end (body ∷ bodies) e (suc k) d h =
    let n = length-append body (all_rows bodies) in
    spans-within (s + length body) end bodies (omega arith) k d (omega arith)

-- a short record's names are few
pub header-short : (records : List (List (List ℕ))) → AreShort records → length (header_of records) < 2 ^ 32
header-short [] s = omega arith
header-short (fields ∷ records) s = s.0

pub whole_draft : (room : Room) (draft : Draft) (header : List (List ℕ)) (bodies : List (List (List (List ℕ)))) → IsDraftOf draft header bodies → IsWithin room draft
    → AreWide (length header) (all_rows bodies) → repeated header ≡ None → length bodies < 2 ^ 32 → length header < 2 ^ 32 → IsWhole draft
whole_draft room draft header bodies d within w r few short =
    let rows = all_rows bodies in
    let raw : draft.columns.items ≡ map (column_of rows) (range_with_len 0 (length header)) = d.columns ∙ with_rows-columns header rows w in
    let full : All (λ column. length column ≡ draft.rows) (map (column_of rows) (range_with_len 0 (length header))) = λ k e h.
    let size = length-map-range_with_len (column_of rows) 0 (length header) in
    ap length (get_or-map-range_with_len (column_of rows) 0 (length header) k k e (omega arith) (omega arith))
    ∙ (length-map rows (λ (fields : List (List ℕ)). get_or fields k []) ∙ sym d.rows) in
    let n = length-map header (λ (name : List ℕ). []) in
    let wide : AreWide (length (no_texts header)) rows = subst (λ k. AreWide k rows) (sym n) w in
    let sum : sum_by length draft.columns.items ≡ draft.cells =
    ap (sum_by length) d.columns ∙ (sum-with_rows (no_texts header) rows wide ∙ (ap (λ k. k + sum_by length rows) (sum-no_texts header) ∙ (omega arith ∙ sym d.cells))) in
    let limit = within.few_cells in
    record {
      width = within.width;
      few_columns = let named = ap length d.named in omega arith;
      full = subst (All (λ column. length column ≡ draft.rows)) (sym raw) full;
      few = omega arith;
      few_parts = let size = ap length d.spans in let count = length-spans_from 0 bodies in omega arith;
      spans = subst (All (λ (span : Span). (span.from ≤ span.to) × (span.to ≤ draft.rows))) (sym d.spans) (spans-within 0 draft.rows bodies (omega (arith, d.rows)));
      names = ap repeated d.named ∙ r;
      bodies = bodies;
      draft_of = subst (λ (h : List (List ℕ)). IsDraftOf draft h bodies) (sym d.named) d;
      wide = subst (λ (h : List (List ℕ)). AreWide (length h) rows) (sym d.named) w;
    }

-- the answer for parts that are refused
pub refused_parts : (name : List ℕ) (room : Room) (parts texts : List (List ℕ)) (e : TableError) → texts ≡ parts → refusal room (map records_of texts) ≡ Some e → table_of name room parts ≡ Err e
unfolding table_of
refused_parts name room parts texts e same r = rw (← same, r) refl

abbrev pub table_here : List ℕ → List (List ℕ) → TableValue
table_here name texts = table_with name (header_of (records_of (get_or texts 0 [])))
    (kinds_of (length (header_of (records_of (get_or texts 0 [])))) (all_rows (map body_of (map records_of texts)))) (map body_of (map records_of texts))

accepted_here : (name : List ℕ) (room : Room) (texts : List (List ℕ)) → 0 < length texts → refusal room (map records_of texts) ≡ None
    → table_of name room texts ≡ Ok (table_here name texts)
unfolding table_of
accepted_here name room [] h r = absurd (omega arith)
accepted_here name room (text ∷ texts) h r = ap (λ o. table_or o (table_from name (map records_of (text ∷ texts)))) r

-- and for those that aren't
pub accepted_parts : (name : List ℕ) (room : Room) (parts texts : List (List ℕ)) → 0 < length texts → texts ≡ parts → refusal room (map records_of texts) ≡ None
    → table_of name room parts ≡ Ok (table_here name texts)
accepted_parts name room parts texts h same r = subst (λ p. table_of name room p ≡ Ok (table_here name texts)) same (accepted_here name room texts h r)

-- the header of part 0
pub header-at : (texts : List (List ℕ)) → 0 < length texts → header_of (get_or (map records_of texts) 0 []) ≡ header_of (records_of (get_or texts 0 []))
header-at [] h = absurd (omega arith)
header-at (text ∷ texts) h = refl
