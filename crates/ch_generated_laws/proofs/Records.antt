-- Lines of numbers as records of a text.
use Rattle.std.proofs.Common.{◌≡◌, ◌<◌, ◌≤◌, ◌+◌, ◌++◌, ◌==◌, ℕ, zero, suc, true, false, List, [], ◌∷◌, refl, sym, ◌∙◌, ap, ap₂, arith, codes, length, length-append, map, flat_map, append_assoc}
use Rattle.std.specs.Prelude.{◌&&◌, nat_le}
use Rattle.std.specs.Fmt.{decimal}
use Rattle.std.specs.List.{AllByRecursion, list_any}
use Rattle.std.specs.Str.{all_ascii_digits}
use Rattle.std.proofs.lemmas.List.{length-map}
use Rattle.std.proofs.lemmas.Bool.{and_parts}
use Rattle.std.proofs.lemmas.Bool.Decides.{nat_tests}
use Rattle.std.proofs.lemmas.Fmt.{digits_decimal}
use Rattle.csv.specs.Machine.{next_record}
use Rattle.csv.specs.Reading.{default_config, records, records_from, strip_bom}
use Rattle.csv.specs.Writing.{default_writer, field_text, fields_text, is_blank, needs_byte, row_body, row_text}
use Rattle.csv.specs.declared.parser.State.TheVariants as st
use Rattle.csv.proofs.RoundTrip.{read-write-many}
use Rattle.ch_cells.proofs.Spelling.{own}
use Rattle.ch_generated.specs.TableText.{part_text, row_line, t_header, u_header}
use Rattle.ch_tables.specs.Records.{records_of}

-- a number that is drawn
abbrev pub IsSmall : ℕ → Type 0
IsSmall n = n < 1000000

-- rows of so many small numbers
pub record IsRow (width : ℕ) (row : List ℕ) : Type 0 where
  pub wide : length row ≡ width
  pub small : AllByRecursion IsSmall row

abbrev pub AreRows : ℕ → List (List ℕ) → Type 0
AreRows width rows = AllByRecursion (IsRow width) rows

-- a digit calls for no quotes
digit_plain : (c : ℕ) → (nat_le 48 c && nat_le c 57) ≡ true → needs_byte default_writer c ≡ false
digit_plain c d =
    let p = and_parts (nat_le 48 c) (nat_le c 57) d in
    let low : 48 ≤ c = grind (arith, nat_tests) in
    let a : (c == 44) ≡ false = grind (arith, nat_tests) in
    let b : (c == 34) ≡ false = grind (arith, nat_tests) in
    let r : (c == 13) ≡ false = grind (arith, nat_tests) in
    let n : (c == 10) ≡ false = grind (arith, nat_tests) in
    rw (a, b, r, n) refl

digits_plain : (ds : List ℕ) → all_ascii_digits ds ≡ true → list_any (needs_byte default_writer) ds ≡ false
digits_plain [] d = refl
digits_plain (c ∷ cs) d =
    let p = and_parts (nat_le 48 c && nat_le c 57) (all_ascii_digits cs) d in
    rw (digit_plain c p.0, digits_plain cs p.1) refl

field_plain : (n : ℕ) → n < 1000000 → field_text default_writer (decimal n) ≡ decimal n
field_plain n h = rw (digits_plain (decimal n) (digits_decimal own n (omega arith))) refl

fields_line : (n : ℕ) (ns : List ℕ) → AllByRecursion IsSmall ns → row_line (n ∷ ns) ≡ decimal n ++ (fields_text default_writer (map decimal ns) ++ 10 ∷ [])
unfolding fields_text
fields_line n [] small = refl
fields_line n (m ∷ ms) small =
    let rest : List ℕ = fields_text default_writer (map decimal ms) in
    ap (λ (t : List ℕ). decimal n ++ 44 ∷ t) (fields_line m ms small.1 ∙ sym (append_assoc (decimal m) rest (10 ∷ [])) ∙ ap (λ (t : List ℕ). (t ++ rest) ++ 10 ∷ []) (sym (field_plain m small.0)))

-- a line of two numbers or more is what is written of them
line_is : (n m : ℕ) (ns : List ℕ) → AllByRecursion IsSmall (n ∷ m ∷ ns) → row_line (n ∷ m ∷ ns) ≡ row_text default_writer (map decimal (n ∷ m ∷ ns))
unfolding is_blank
line_is n m ns small =
    let rest : List ℕ = fields_text default_writer (map decimal (m ∷ ns)) in
    fields_line n (m ∷ ns) small.1 ∙ sym (append_assoc (decimal n) rest (10 ∷ [])) ∙ ap (λ (t : List ℕ). (t ++ rest) ++ 10 ∷ []) (sym (field_plain n small.0))

row_is : (width : ℕ) (row : List ℕ) → IsRow width row → 2 ≤ width → row_line row ≡ row_text default_writer (map decimal row)
row_is width [] r h = let w = r.wide in absurd (omega arith)
row_is width (n ∷ []) r h = let w = r.wide in absurd (omega arith)
row_is width (n ∷ m ∷ ns) r h = line_is n m ns r.small

abbrev pub decimals : List (List ℕ) → List (List (List ℕ))
decimals rows = map (map decimal) rows

-- records, as they are written
abbrev written : List (List (List ℕ)) → List ℕ
written rows = flat_map (row_text default_writer) rows

written_is : (width : ℕ) (rows : List (List ℕ)) → AreRows width rows → 2 ≤ width → flat_map row_line rows ≡ written (decimals rows)
written_is width [] are h = refl
written_is width (row ∷ rows) are h = ap₂ (λ (x y : List ℕ). x ++ y) (row_is width row are.0 h) (written_is width rows are.1 h)

abbrev AreWide : List (List (List ℕ)) → Type 0
AreWide rows = AllByRecursion (λ (fields : List (List ℕ)). 2 ≤ length fields) rows

decimals_wide : (width : ℕ) (rows : List (List ℕ)) → AreRows width rows → 2 ≤ width → AreWide (decimals rows)
decimals_wide width [] are h = tt
decimals_wide width (row ∷ rows) are h = (let w = are.0.wide in let l = length-map row decimal in omega arith, decimals_wide width rows are.1 h)

read_from : (rows : List (List (List ℕ))) (n : ℕ) → AreWide rows → length rows ≤ n → records_from default_config n st.StartRecord (written rows) ≡ rows
unfolding records_from next_record
read_from [] zero wide h = refl
read_from [] (suc n) wide h = refl
read_from (row ∷ rows) zero wide h = absurd (omega arith)
read_from ([] ∷ rows) (suc n) wide h = let w = wide.0 in absurd (omega arith)
read_from ((x ∷ []) ∷ rows) (suc n) wide h = let w = wide.0 in absurd (omega arith)
read_from ((x ∷ y ∷ ys) ∷ rows) (suc n) wide h =
    rw (read-write-many x y ys (written rows)) (ap (λ (rs : List (List (List ℕ))). (x ∷ y ∷ ys) ∷ rs) (read_from rows n wide.1 (omega arith)))

last_byte : (a b : List ℕ) (c : ℕ) → 1 ≤ length (a ++ (b ++ c ∷ []))
last_byte a b c = let l = length-append a (b ++ c ∷ []) in let m = length-append b (c ∷ []) in omega arith

row_some : (fields : List (List ℕ)) → 1 ≤ length (row_text default_writer fields)
row_some fields = last_byte (row_body default_writer fields) _ 10

written_long : (rows : List (List (List ℕ))) → length rows ≤ length (written rows)
written_long [] = omega arith
written_long (row ∷ rows) = let s = row_some row in let l = length-append (row_text default_writer row) (written rows) in let m = written_long rows in omega arith

all_records : (rows : List (List (List ℕ))) → AreWide rows → records default_config (written rows) ≡ rows
all_records rows wide = let l = written_long rows in read_from rows (length (written rows) + 1) wide (omega arith)

abbrev pub t_names : List (List ℕ)
t_names = codes "k" ∷ codes "v" ∷ codes "b" ∷ []

abbrev pub u_names : List (List ℕ)
u_names = codes "k" ∷ codes "y" ∷ []

-- the records of a part: the names of the columns, then its rows
pub t_records : (rows : List (List ℕ)) → AreRows 3 rows → records_of (part_text t_header rows) ≡ t_names ∷ decimals rows
unfolding strip_bom is_blank fields_text
t_records rows are =
    ap (λ (t : List ℕ). records default_config (t_header ++ t)) (written_is 3 rows are (omega arith))
    ∙ all_records (t_names ∷ decimals rows) (omega arith, decimals_wide 3 rows are (omega arith))

pub u_records : (rows : List (List ℕ)) → AreRows 2 rows → records_of (part_text u_header rows) ≡ u_names ∷ decimals rows
unfolding strip_bom is_blank fields_text
u_records rows are =
    ap (λ (t : List ℕ). records default_config (u_header ++ t)) (written_is 2 rows are (omega arith))
    ∙ all_records (u_names ∷ decimals rows) (omega arith, decimals_wide 2 rows are (omega arith))
