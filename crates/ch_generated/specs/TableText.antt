-- The tables: rows of numbers that are drawn, and the texts of their parts.
use Rattle.std.specs.Prelude.{ℕ, ◌*◌, ◌%◌, ◌==◌, Bool, List, [], ◌∷◌, ◌++◌, map, filter, flat_map, codes}
use Rattle.std.specs.Fmt.{decimal}
use Rattle.std.specs.List.{enumerate_from, range_with_len}
use Rattle.rand_pcg.specs.Lcg.{Lcg}
use Rattle.ch_generated.specs.Draws.{after, drawn}
use Rattle.ch_generated.specs.declared.table_text.TableRow.{TableRow}

-- a row of table t
unfoldable pub t_row : Lcg → TableRow
t_row generator = record { k = drawn 1000 generator; v = drawn 1000000 (after 1 generator); b = drawn 1000000 (after 2 generator) }

-- the rows of table t, each by three words
unfoldable pub t_rows : ℕ → Lcg → List TableRow
t_rows rows generator = map (λ r. t_row (after (3 * r) generator)) (range_with_len 0 rows)

-- a row of table u: its k and y
unfoldable pub u_row : Lcg → List ℕ
u_row generator = drawn 1000 generator ∷ drawn 1000000 (after 1 generator) ∷ []

unfoldable pub u_rows : ℕ → Lcg → List (List ℕ)
u_rows rows generator = map (λ r. u_row (after (2 * r) generator)) (range_with_len 0 rows)

-- numbers as a line, with a comma between two of them
abbrev pub row_line : List ℕ → List ℕ
row_line [] = 10 ∷ []
row_line (n ∷ []) = decimal n ++ 10 ∷ []
row_line (n ∷ m ∷ ns) = decimal n ++ 44 ∷ row_line (m ∷ ns)

-- the text of a part: the names of the columns, then its rows
abbrev pub part_text : List ℕ → List (List ℕ) → List ℕ
part_text header rows = header ++ flat_map row_line rows

abbrev pub t_header : List ℕ
t_header = codes "k,v,b\n"

abbrev pub u_header : List ℕ
u_header = codes "k,y\n"

abbrev pub is_in_part : ℕ → ℕ × TableRow → Bool
is_in_part part placed = placed.0 % 4 == part

-- the rows of one of the four parts: row r is in part r mod 4
abbrev pub part_from : ℕ → ℕ → List TableRow → List TableRow
part_from part place rows = map (λ placed. placed.1) (filter (is_in_part part) (enumerate_from place rows))

abbrev pub t_fields : TableRow → List ℕ
t_fields row = row.k ∷ row.v ∷ row.b ∷ []

unfoldable pub t_part_text : ℕ → List TableRow → List ℕ
t_part_text part rows = part_text t_header (map t_fields (part_from part 0 rows))

unfoldable pub u_text : Lcg → List ℕ
u_text generator = part_text u_header (u_rows 100 generator)
