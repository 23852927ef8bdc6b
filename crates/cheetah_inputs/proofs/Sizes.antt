-- How large the tables of a request are.
use Rattle.std.proofs.Common.{◌≡◌, ◌∙◌, ap, sym, refl, subst, ℕ, ◌+◌, ◌≤◌, Bool, true, false, not, List, [], ◌∷◌, map, filter, length, Option, Some, None, Result, Ok, Err, inl, inr, arith}
use Rattle.std.specs.Prelude.{bytes_eq, slice_index_or, if◌then◌else◌, nat_lt, ◌==◌, sum_by}
use Rattle.std.specs.Cmp.Lexicographic.{pointwise}
use Rattle.std.specs.List.{zip}
use Rattle.std.specs.Option.{option_or}
use Rattle.std.proofs.lemmas.Bool.Decides.{nat_tests}
use Rattle.std.proofs.lemmas.List.{length-map}
use Rattle.std.proofs.lemmas.Slice.Eq.{bytes_eq-Decides}
use Rattle.ch_lists.specs.Members.{Each, In}
use Rattle.ch_lists.proofs.Members.{In-filter, In-filter_from, In-map}
use Rattle.ch_tables.specs.Draft.{all_rows}
use Rattle.ch_tables.specs.Records.{records_of}
use Rattle.ch_tables.specs.Refusal.{body_of, first_refusal, header_of, later_refusal, part_refusal, refusal, rows_refusal}
use Rattle.ch_tables.specs.Table.{kinds_of, row_as, table_from, table_of, table_or}
use Rattle.ch_tables.specs.TableValue.{TableValue}
use Rattle.ch_tables.specs.declared.error.Room.{Room}
use Rattle.ch_tables.specs.declared.error.TableError.{TableError}
use Rattle.ch_tables.specs.declared.error.TableError.TheVariants as refused
use Rattle.ch_asked.specs.Suits.{AreSmall}
use Rattle.cheetah_words.specs.Tables.{Part}
use Rattle.cheetah_words.specs.Words.{Request}
use Rattle.cheetah_inputs.specs.Inputs.{AreInputs, part_texts}
use Rattle.cheetah_inputs.specs.Parts.{NamedText, TableText, different, is_of, named_texts, tables_in, texts_of}
use Rattle.cheetah_inputs.specs.Tables.{or_line, room as whole_room, room_after, tables_within, with_more, and_more}
use Rattle.cheetah_inputs.specs.declared.inputs.Inputs.{Inputs}
use Rattle.cheetah_inputs.proofs.Grouping.{kept}

-- ---- the rows of a part that isn't refused

neither : (a b : Option TableError) → option_or a b ≡ None → (a ≡ None) × (b ≡ None)
neither None b e = (refl, e)
neither (Some x) b e = cc

row_taken : (long rows cells : Bool) (a b c : TableError) (rest : Option TableError)
    → (if long then (if rows then Some a else (if cells then Some b else rest)) else Some c) ≡ None → (rows ≡ false) × (rest ≡ None)
row_taken true false false a b c rest e = (refl, e)
row_taken true false true a b c rest e = cc
row_taken true true cells a b c rest e = cc
row_taken false rows cells a b c rest e = cc

not_past : (room rows : ℕ) → nat_lt room (rows + 1) ≡ false → rows + 1 ≤ room
not_past room rows e = grind (arith, nat_tests)

rows_within : (room : Room) (part width row rows cells : ℕ) (body : List (List (List ℕ))) → rows_refusal room part width row rows cells body ≡ None → rows ≤ room.rows
    → rows + length body ≤ room.rows
rows_within room part width row rows cells [] e h = omega (arith, h)
rows_within room part width row rows cells (fields ∷ more) e h =
    let t = row_taken (length fields == width) (nat_lt room.rows (rows + 1)) (nat_lt room.cells (cells + width)) (refused.TooManyRows part row) (refused.TooManyCells part row)
    (refused.Ragged part row (length fields) width) (rows_refusal room part width (row + 1) (rows + 1) (cells + width) more) e in
    let rest = rows_within room part width (row + 1) (rows + 1) (cells + width) more t.1 (not_past room.rows rows t.0) in
    omega (arith, rest)

names_taken : (same : Bool) (rest : Option TableError) (a : TableError) → (if same then rest else Some a) ≡ None → rest ≡ None
names_taken true rest a e = e
names_taken false rest a e = cc

part_within : (room : Room) (header : List (List ℕ)) (part rows cells : ℕ) (records : List (List (List ℕ))) → part_refusal room header part rows cells records ≡ None → rows ≤ room.rows
    → rows + length (body_of records) ≤ room.rows
part_within room header part rows cells [] e h = cc
part_within room header part rows cells (names ∷ body) e h =
    rows_within room part (length header) 0 rows cells body
    (names_taken (pointwise bytes_eq names header) (rows_refusal room part (length header) 0 rows cells body) (refused.HeaderDiffers part) e) h

abbrev IsWithin : Room → List (List (List ℕ)) → Type 0
IsWithin room records = length (body_of records) ≤ room.rows

later_within : (room : Room) (header : List (List ℕ)) (part rows cells : ℕ) (parts : List (List (List (List ℕ)))) → later_refusal room header part rows cells parts ≡ None → rows ≤ room.rows
    → Each (IsWithin room) parts
later_within room header part rows cells [] e h records i = absurd i
later_within room header part rows cells (first ∷ parts) e h records i =
    let n = neither (part_refusal room header part rows cells first)
    (later_refusal room header (part + 1) (rows + length (body_of first)) (cells + sum_by length (body_of first)) parts) e in
    let here = part_within room header part rows cells first n.0 h in
    elim i [
      | inl s ↦ subst (IsWithin room) (sym s) (omega (arith, here))
      | inr j ↦ later_within room header (part + 1) (rows + length (body_of first)) (cells + sum_by length (body_of first)) parts n.1 here records j
    ]

first_within : (room : Room) (records : List (List (List ℕ))) → first_refusal room records ≡ None → IsWithin room records
first_within room [] e = cc
first_within room (header ∷ body) e =
    let rest = rows_within room 0 (length header) 0 0 0 body (neither _ (rows_refusal room 0 (length header) 0 0 0 body) e).1 (omega arith) in omega (arith, rest)

parts_within : (room : Room) (parts : List (List (List (List ℕ)))) → refusal room parts ≡ None → Each (IsWithin room) parts
parts_within room [] e records i = absurd i
parts_within room (first ∷ parts) e records i =
    let n = neither (first_refusal room first) (later_refusal room (header_of first) 1 (length (body_of first)) (sum_by length (body_of first)) parts) e in
    let here = first_within room first n.0 in
    elim i [
      | inl s ↦ subst (IsWithin room) (sym s) here
      | inr j ↦ later_within room (header_of first) 1 (length (body_of first)) (sum_by length (body_of first)) parts n.1 here records j
    ]

-- ---- a table

-- a table of some texts, and not too many, in a room for at most 4,000,000 rows
pub record IsRead (most : ℕ) (table : TableValue) : Type 0 where
  pub name : List ℕ
  pub left : Room
  pub texts : List (List ℕ)
  pub rows : left.rows ≤ 4000000
  pub some : 1 ≤ length texts
  pub few : length texts ≤ most
  pub is : table_of name left texts ≡ Ok table

accepted : (o : Option TableError) (table made : TableValue) → table_or o made ≡ Ok table → (o ≡ None) × (made ≡ table)
accepted None table made e = (refl, cc)
accepted (Some error) table made e = cc

made_parts : (name : List ℕ) (texts : List (List ℕ)) → length (table_from name (map records_of texts)).parts ≡ length texts
made_parts name texts =
    let records = map records_of texts in
    length-map (map body_of records) (map (row_as (kinds_of (length (header_of (slice_index_or records 0 []))) (all_rows (map body_of records)))))
    ∙ (length-map records body_of ∙ length-map texts records_of)

made_rows : (name : List ℕ) (room : Room) (records : List (List (List (List ℕ)))) → Each (IsWithin room) records → Each (λ part. length part ≤ room.rows) (table_from name records).parts
made_rows name room records h part i =
    let rows = row_as (kinds_of (length (header_of (slice_index_or records 0 []))) (all_rows (map body_of records))) in
    let m = In-map (map rows) part (map body_of records) i in
    let n = In-map body_of m.0 records m.1 in
    let here = h n.0 n.1 in
    let size = ap length m.2 ∙ (length-map m.0 rows ∙ ap length n.2) in
    omega (arith, here, size)

table_parts : (most : ℕ) (table : TableValue) → (r : IsRead most table) → length table.parts ≡ length r.texts
unfolding table_of
table_parts most table r =
    let records = map records_of r.texts in
    let a = accepted (refusal r.left records) table (table_from r.name records) r.is in
    ap (λ (t : TableValue). length t.parts) (sym a.1) ∙ made_parts r.name r.texts

table_rows : (most : ℕ) (table : TableValue) → IsRead most table → Each (λ part. length part ≤ 4000000) table.parts
unfolding table_of
table_rows most table r =
    let records = map records_of r.texts in
    let a = accepted (refusal r.left records) table (table_from r.name records) r.is in
    let most = r.rows in
    subst (λ (t : TableValue). Each (λ part. length part ≤ 4000000) t.parts) a.1
    (λ part i. let here = made_rows r.name r.left records (parts_within r.left records a.0) part i in omega (arith, here, most))

-- ---- tables, one after the other

abbrev IsFew : ℕ → TableText → Type 0
IsFew most t = (1 ≤ length t.texts) × (length t.texts ≤ most)

pub record AreRead (most count : ℕ) (tables : List TableValue) : Type 0 where
  pub size : length tables ≡ count
  pub each : Each (IsRead most) tables

none_read : (most : ℕ) (tables : List TableValue) → [] ≡ tables → AreRead most 0 tables
none_read most tables e = subst (AreRead most 0) e (record { size = refl; each = λ t i. absurd i })

one_more : (most count : ℕ) (table : TableValue) (more tables : List TableValue) → IsRead most table → AreRead most count more → table ∷ more ≡ tables → AreRead most (count + 1) tables
one_more most count table more tables r m e =
    let size = m.size in
    subst (AreRead most (count + 1)) e (record {
      size = omega (arith, size);
      each = λ t i. elim i [
        | inl s ↦ subst (IsRead most) (sym s) r
        | inr j ↦ m.each t j
      ];
    })

tables_read : (most : ℕ) (left : Room) (ts : List TableText) (tables : List TableValue) → left.rows ≤ 4000000 → Each (IsFew most) ts → tables_within left ts ≡ Ok tables → AreRead most (length ts) tables
tables_read most left [] tables h few e = none_read most tables cc
tables_read most left (t ∷ ts) tables h few e =
    let size : length (t ∷ ts) ≡ length ts + 1 = omega arith in
    subst (λ n. AreRead most n tables) (sym size)
    (go (table_of t.name left t.texts) refl e (λ table more. tables_read most (room_after left table) ts more (omega (arith, h)) (λ u i. few u (inr i))))
  where
    behind : (table : TableValue) (rest : Result (List TableValue) (List ℕ)) → IsRead most table → ((more : List TableValue) → rest ≡ Ok more → AreRead most (length ts) more) → and_more table rest ≡ Ok tables
        → AreRead most (length ts + 1) tables
    behind table (Ok more) r ih e = one_more most (length ts) table more tables r (ih more refl) cc
    behind table (Err line) r ih e = cc

    go : (r : Result TableValue TableError) → table_of t.name left t.texts ≡ r → with_more (or_line t.name r) (λ table. tables_within (room_after left table) ts) ≡ Ok tables
        → ((table : TableValue) (more : List TableValue) → tables_within (room_after left table) ts ≡ Ok more → AreRead most (length ts) more) → AreRead most (length ts + 1) tables
    go (Err error) is e ih = cc
    go (Ok table) is e ih =
        let texts = few t (inl refl) in
        behind table (tables_within (room_after left table) ts) (record { name = t.name; left = left; texts = t.texts; rows = h; some = texts.0; few = texts.1; is = is }) (ih table) e

-- ---- the texts of each

zip_few : {X Y : Type 0} (xs : List X) (ys : List Y) → length (zip xs ys) ≤ length xs
zip_few [] ys = omega arith
zip_few (x ∷ xs) [] = omega arith
zip_few (x ∷ xs) (y ∷ ys) = let rest = zip_few xs ys in omega (arith, rest)

named_few : (parts : List Part) (texts : List (List ℕ)) → length (named_texts parts texts) ≤ length parts
named_few parts texts = let few = zip_few parts texts in let size = length-map (zip parts texts) (λ p. let n : NamedText = record { name = p.0.name; text = p.1 } in n) in omega (arith, few, size)

different_few : (names : List (List ℕ)) → length (different names) ≤ length names
different_few [] = omega arith
different_few (name ∷ names) = let rest = different_few names in let less = kept (λ other. not (bytes_eq other name)) (different names) in omega (arith, rest, less)

In-different : (name : List ℕ) (names : List (List ℕ)) → In name (different names) → In name names
In-different name [] i = absurd i
In-different name (n ∷ names) (inl e) = inl e
In-different name (n ∷ names) (inr i) = inr (In-different name names (In-filter (λ other. not (bytes_eq other n)) name (different names) i).0)

some_in : {X : Type 0} (x : X) (xs : List X) → In x xs → 1 ≤ length xs
some_in x [] i = absurd i
some_in x (y ∷ ys) i = omega arith

texts_few : (most : ℕ) (parts : List NamedText) (name : List ℕ) → length parts ≤ most → In name (map (λ part. part.name) parts) → IsFew most (record { name = name; texts = texts_of name parts })
texts_few most parts name h i =
    let m = In-map (λ (part : NamedText). part.name) name parts i in
    let here : In m.0 (filter (is_of name) parts) = In-filter_from (is_of name) m.0 parts m.1 ((bytes_eq-Decides m.0.name name).1 (sym m.2)) in
    let some = some_in m.0 (filter (is_of name) parts) here in
    let less = kept (is_of name) parts in
    let size = length-map (filter (is_of name) parts) (λ (part : NamedText). part.text) in (
      omega (arith, some, size),
      omega (arith, less, size, h),
    )

tables_few : (most : ℕ) (parts : List NamedText) → length parts ≤ most → (length (tables_in parts) ≤ most) × Each (IsFew most) (tables_in parts)
tables_few most parts h =
    let names = map (λ (part : NamedText). part.name) parts in
    let table = λ (name : List ℕ). (let t : TableText = record { name = name; texts = texts_of name parts } in t) in
    let less = different_few names in
    let size = length-map parts (λ (part : NamedText). part.name) in
    let count = length-map (different names) table in (
      omega (arith, less, size, count, h),
      λ t i. let m = In-map table t (different names) i in subst (IsFew most) (sym m.2) (texts_few most parts m.0 h (In-different m.0 names m.1)),
    )

small : (count : ℕ) (tables : List TableValue) → count ≤ 64 → AreRead 64 count tables → AreSmall tables
small count tables h r = let size = r.size in record {
  few = omega (arith, size, h);
  some_parts = λ t i. let one = r.each t i in let parts = table_parts 64 t one in let some = one.some in omega (arith, parts, some);
  few_parts = λ t i. let one = r.each t i in let parts = table_parts 64 t one in let few = one.few in omega (arith, parts, few);
  few_rows = λ t i. table_rows 64 t (r.each t i);
}

pub inputs_read : (most : ℕ) (request : Request) (contents : List (List ℕ)) (inputs : Inputs) → AreInputs request contents inputs → length request.tables ≤ most
    → AreRead most (length (tables_in (named_texts request.tables (part_texts request contents)))) inputs.tables
inputs_read most request contents inputs is h =
    let named = named_texts request.tables (part_texts request contents) in
    let few = named_few request.tables (part_texts request contents) in
    tables_read most whole_room (tables_in named) inputs.tables (omega arith) (tables_few most named (omega (arith, few, h))).1 is.tables

pub inputs_small : (request : Request) (contents : List (List ℕ)) (inputs : Inputs) → AreInputs request contents inputs → length request.tables ≤ 64 → AreSmall inputs.tables
inputs_small request contents inputs is h =
    let named = named_texts request.tables (part_texts request contents) in
    let few = named_few request.tables (part_texts request contents) in
    small (length (tables_in named)) inputs.tables (tables_few 64 named (omega (arith, few, h))).0 (inputs_read 64 request contents inputs is h)
