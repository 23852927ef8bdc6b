-- How long the texts of generated files are.
use Rattle.std.proofs.Common.{◌<◌, ◌≤◌, ◌+◌, ◌*◌, ◌++◌, ℕ, zero, suc, Bool, true, false, List, [], ◌∷◌, codes, length, length-append, flat_map, cond, arith, lit≤}
use Rattle.std.specs.Prelude.{sum_by}
use Rattle.std.proofs.lemmas.List.Sums.{sum_by-cons}
use Rattle.std.specs.Fmt.{decimal}
use Rattle.std.specs.List.{AllByRecursion}
use Rattle.std.proofs.lemmas.Fmt.{length-decimal-le}
use Rattle.rand_pcg.specs.Lcg.{Lcg}
use Rattle.ch_generated.specs.Draws.{after, drawn, generator_of}
use Rattle.ch_generated.specs.Inputs.{files_of, is_join, schedule_begins, u_begins, workers_of}
use Rattle.ch_generated.specs.ScheduleText.{after_step, line_of, numbered_line, schedule_text, step_line, steps_text}
use Rattle.ch_generated.specs.TableText.{row_line, t_header, t_part_text, u_header, u_rows, u_text}
use Rattle.ch_generated.specs.declared.InputKind.{InputKind}
use Rattle.ch_generated.specs.declared.Request.{Request}
use Rattle.ch_generated.specs.declared.TableRow.{TableRow}
use Rattle.ch_generated_laws.specs.Sizes.{AreSmall, size_of}
use Rattle.ch_generated_laws.specs.Tables.{IsInRange, rows_of}
use Rattle.ch_generated_laws.proofs.Records.{AreRows, IsRow, IsSmall}
use Rattle.ch_generated_laws.proofs.Schedules.{below_eight, below_five, few_workers}
use Rattle.ch_generated_laws.proofs.Tables.{IsSmallRow, part_fields, part_rows_are, parts_len, t_rows_len, t_rows_small, u_rows_are, u_rows_len}

number_len : (n : ℕ) → n < 1000000 → length (decimal n) ≤ 6
number_len n h = length-decimal-le 6 n (omega arith) (omega arith) (omega arith)

-- seven bytes for each number
line_len : (n : ℕ) (ns : List ℕ) → IsSmall n → AllByRecursion IsSmall ns → length (row_line (n ∷ ns)) ≤ 7 * (length ns + 1)
line_len n [] small others = let d = number_len n small in let l = length-append (decimal n) (10 ∷ []) in omega arith
line_len n (m ∷ ms) small others =
    let d = number_len n small in
    let l = length-append (decimal n) (44 ∷ row_line (m ∷ ms)) in
    let more = line_len m ms others.0 others.1 in
    omega arith

row_len : (width : ℕ) (row : List ℕ) → IsRow width row → 1 ≤ width → length (row_line row) ≤ 7 * width
row_len width [] r h = let w = r.wide in absurd (omega arith)
row_len width (n ∷ ns) r h = let w = r.wide in let l = line_len n ns r.small.0 r.small.1 in omega arith

rows_len_3 : (rows : List (List ℕ)) → AreRows 3 rows → length (flat_map row_line rows) ≤ 21 * length rows
rows_len_3 [] are = omega arith
rows_len_3 (row ∷ rows) are =
    let r = row_len 3 row are.0 (lit≤ tt) in
    let l = length-append (row_line row) (flat_map row_line rows) in
    let more = rows_len_3 rows are.1 in
    omega arith

rows_len_2 : (rows : List (List ℕ)) → AreRows 2 rows → length (flat_map row_line rows) ≤ 14 * length rows
rows_len_2 [] are = omega arith
rows_len_2 (row ∷ rows) are =
    let r = row_len 2 row are.0 (lit≤ tt) in
    let l = length-append (row_line row) (flat_map row_line rows) in
    let more = rows_len_2 rows are.1 in
    omega arith

part_len : (part : ℕ) (rows : List TableRow) → AllByRecursion IsSmallRow rows → length (t_part_text part rows) ≤ 6 + 21 * length (part_fields part 0 rows)
unfolding t_part_text
part_len part rows small =
    let m = rows_len_3 (part_fields part 0 rows) (part_rows_are part 0 rows small) in
    let l = length-append t_header (flat_map row_line (part_fields part 0 rows)) in
    omega arith

u_len : (g : Lcg) → length (u_text g) ≤ 1404
unfolding u_text
u_len g =
    let m = rows_len_2 (u_rows 100 g) (u_rows_are 100 g) in
    let n = u_rows_len 100 g in
    let l = length-append u_header (flat_map row_line (u_rows 100 g)) in
    omega arith

-- ten bytes for each step
numbered_len : (name : List ℕ) (n : ℕ) → n < 5 → length name ≤ 5 → length (numbered_line name n) ≤ 10
numbered_len name n h k =
    let d = length-decimal-le 1 n (omega arith) (omega arith) (omega arith) in
    let l = length-append name (decimal n ++ 10 ∷ []) in
    let m = length-append (decimal n) (10 ∷ []) in
    omega arith

step_len : (kind : InputKind) (g : Lcg) (number : ℕ) → number < 8 → length (line_of (workers_of kind) number g) ≤ 10
step_len kind g = below_eight (λ number. length (line_of (workers_of kind) number g) ≤ 10)
    (below_five (λ number. length (line_of (workers_of kind) number g) ≤ 10)
    (numbered_len (codes "send ") (drawn (workers_of kind) g) (few_workers kind g) (lit≤ tt))
    (numbered_len (codes "send ") (drawn (workers_of kind) g) (few_workers kind g) (lit≤ tt))
    (numbered_len (codes "send ") (drawn (workers_of kind) g) (few_workers kind g) (lit≤ tt))
    (lit≤ tt)
    (numbered_len (codes "up ") (drawn 4 g) (omega arith) (lit≤ tt)))
    (lit≤ tt) (lit≤ tt) (lit≤ tt)

one_step_len : (kind : InputKind) (g : Lcg) → length (step_line (workers_of kind) g) ≤ 10
unfolding step_line
one_step_len kind g = step_len kind (after 1 g) (drawn 8 g) (omega arith)

steps_len : (kind : InputKind) (n : ℕ) (g : Lcg) → length (steps_text (workers_of kind) n g) ≤ 10 * n
unfolding steps_text
steps_len kind zero g = omega arith
steps_len kind (suc n) g =
    let s = one_step_len kind g in
    let l = length-append (step_line (workers_of kind) g) (steps_text (workers_of kind) n (after_step g)) in
    let more = steps_len kind n (after_step g) in
    omega arith

schedule_len : (kind : InputKind) (g : Lcg) → length (schedule_text (workers_of kind) g) ≤ 10006
unfolding schedule_text
schedule_len kind g =
    let s = steps_len kind 1000 g in
    let l = length-append (steps_text (workers_of kind) 1000 g) (codes "drain\n") in
    omega arith

-- files, each of at most `most` bytes, and of `all` bytes in sum
record Short (most all : ℕ) (files : List (List ℕ × List ℕ)) : Type 0 where
  each : AllByRecursion (λ (file : List ℕ × List ℕ). size_of file ≤ most) files
  together : sum_by size_of files ≤ all

onto : (most all more : ℕ) (file : List ℕ × List ℕ) (files : List (List ℕ × List ℕ)) → more ≤ most → size_of file ≤ more → Short most all files → Short most (more + all) (file ∷ files)
onto most all more file files le h s = record { each = (omega arith, s.each); together = let c = sum_by-cons size_of file files in let t = s.together in omega arith }

no_files : (most : ℕ) → Short most 0 []
no_files most = record { each = tt; together = omega arith }

behind_t : (b : Bool) (u s : List ℕ × List ℕ) → size_of u ≤ 1404 → size_of s ≤ 10006 → Short 67108864 (1404 + (10006 + 0)) ((cond b (u ∷ []) []) ++ s ∷ [])
behind_t true u s hu hs = onto 67108864 (10006 + 0) 1404 u (s ∷ []) (lit≤ tt) hu (onto 67108864 0 10006 s [] (lit≤ tt) hs (no_files 67108864))
behind_t false u s hu hs = let only = onto 67108864 0 10006 s [] (lit≤ tt) hs (no_files 67108864) in record { each = only.each; together = let t = only.together in omega arith }

pub sizes : (request : Request) → IsInRange request → AreSmall (files_of request)
unfolding files_of
sizes request range =
    let rows : List TableRow = rows_of request in
    let small = t_rows_small request.rows (generator_of request.seed) in
    let n = t_rows_len request.rows (generator_of request.seed) in
    let few = range.few in
    let parts = parts_len 0 rows in
    let a = part_len 0 rows small in
    let b = part_len 1 rows small in
    let c = part_len 2 rows small in
    let d = part_len 3 rows small in
    let p0 : length (t_part_text 0 rows) ≤ 21000006 = omega arith in
    let p1 : length (t_part_text 1 rows) ≤ 21000006 = omega arith in
    let p2 : length (t_part_text 2 rows) ≤ 21000006 = omega arith in
    let p3 : length (t_part_text 3 rows) ≤ 21000006 = omega arith in
    let rest = behind_t (is_join request.kind) (codes "u0", u_text (u_begins request)) (codes "s", schedule_text (workers_of request.kind) (schedule_begins request)) (u_len (u_begins request)) (schedule_len request.kind (schedule_begins request)) in
    let all = onto 67108864 _ 21000006 (codes "t0", t_part_text 0 rows) _ (lit≤ tt) p0 (onto 67108864 _ 21000006 (codes "t1", t_part_text 1 rows) _ (lit≤ tt) p1
    (onto 67108864 _ 21000006 (codes "t2", t_part_text 2 rows) _ (lit≤ tt) p2 (onto 67108864 _ 21000006 (codes "t3", t_part_text 3 rows) _ (lit≤ tt) p3 rest))) in
    record { each = all.each; together = let t = all.together in omega arith }
