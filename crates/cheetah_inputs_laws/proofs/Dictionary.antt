-- The dictionary of a query over the tables that are read is small.
use Rattle.std.proofs.Common.{◌≡◌, ◌∙◌, ap, refl, ℕ, zero, suc, ◌+◌, ◌*◌, ◌≤◌, ◌^◌, Bool, true, false, cond, List, [], ◌∷◌, map, flat_map, length, length-append, mul_comm, pos, inl, inr, arith}
use Rattle.std.specs.List.{filter_map, range_with_len}
use Rattle.std.specs.Ordering.{is_lt}
use Rattle.std.specs.Prelude.{slice_index_or}
use Rattle.std.specs.declared.cmp.Ordering.{Ordering}
use Rattle.std.proofs.lemmas.List.{length-map}
use Rattle.std.proofs.lemmas.List.FromFn.{length-range_with_len}
use Rattle.ch_asked.proofs.Added.{no_longer}
use Rattle.ch_asked.specs.Texts.{asked_texts, dictionary_of, filter_texts, tables_texts}
use Rattle.ch_bind.specs.Binding.{PlainBound, filter_of}
use Rattle.ch_bind.specs.Scope.{scope_of}
use Rattle.ch_bind.specs.Shapes.{shape_of}
use Rattle.ch_cells.specs.declared.Cell.{Cell}
use Rattle.ch_cells.specs.declared.Cell.TheVariants as cell
use Rattle.ch_lists.specs.Members.{Each}
use Rattle.ch_lists.specs.Ordered.{ordered, placed}
use Rattle.ch_parts.specs.Scanned.{table_at}
use Rattle.ch_pred.specs.Plain.{plain_of}
use Rattle.ch_pred.specs.Sound.{has_one_table, sides_of}
use Rattle.ch_pred.specs.declared.bound.Shape.{Shape}
use Rattle.ch_ranks.specs.Dictionary.{text_cmp}
use Rattle.ch_sql.proofs.Readings.{spelled_parsed}
use Rattle.ch_tables.specs.TableValue.{TableValue}
use Rattle.ch_tables.specs.Texts.{cell_text, column_cells, texts_of, with_texts}
use Rattle.cheetah_inputs.specs.Inputs.{AreInputs, part_texts}
use Rattle.cheetah_inputs.specs.Parts.{named_texts, tables_in}
use Rattle.cheetah_inputs.specs.Tables.{room}
use Rattle.cheetah_inputs.specs.declared.inputs.Inputs.{Inputs}
use Rattle.cheetah_words.specs.Words.{Request}
use Rattle.cheetah_inputs_laws.proofs.Cells.{IsSmall, tables_small}
use Rattle.cheetah_inputs_laws.proofs.Literals.{filter_few}

-- an ordered list is as long

placed_length : {X : Type 0} (cmp : X → X → Ordering) (x : X) (xs : List X) → length (placed cmp x xs) ≡ suc (length xs)
placed_length cmp x [] = refl
placed_length cmp x (y ∷ ys) = go (is_lt (cmp y x)) (placed_length cmp x ys)
  where
    go : (b : Bool) → length (placed cmp x ys) ≡ suc (length ys) → length (cond b (y ∷ placed cmp x ys) (x ∷ y ∷ ys)) ≡ suc (suc (length ys))
    go true e = ap suc e
    go false e = refl

ordered_length : {X : Type 0} (cmp : X → X → Ordering) (xs : List X) → length (ordered cmp xs) ≡ length xs
ordered_length cmp [] = refl
ordered_length cmp (x ∷ xs) = placed_length cmp x (ordered cmp xs) ∙ ap suc (ordered_length cmp xs)

-- at most so many for each element
each_few : {X Y : Type 0} (f : X → List Y) (most : ℕ) → ((x : X) → length (f x) ≤ most) → (xs : List X) → length (flat_map f xs) ≤ length xs * most
each_few f most few [] = omega arith
each_few f most few (x ∷ xs) =
    let product : length (x ∷ xs) * most ≡ length xs * most + most = omega arith in
    omega (arith, few x, each_few f most few xs, length-append (f x) (flat_map f xs), product)

picked_few : (cells : List Cell) → length (filter_map cell_text cells) ≤ length cells
picked_few [] = omega arith
picked_few (cell.Number n ∷ cells) = omega (arith, picked_few cells)
picked_few (cell.Text text ∷ cells) = omega (arith, picked_few cells)

texts_few : (table : TableValue) → length (texts_of table) ≤ length table.header * length (flat_map (λ rows. rows) table.parts)
unfolding texts_of
texts_few table =
    let all = flat_map (λ (part : List (List Cell)). part) table.parts in
    let column = λ (col : ℕ). filter_map cell_text (column_cells table col) in
    let one = λ (col : ℕ). (let picked = picked_few (column_cells table col) in let size = length-map all (λ row. slice_index_or row col (cell.Number (pos 0))) in (let h : length (column col) ≤ length all = omega (arith, picked, size) in h)) in
    let few = each_few column (length all) one (range_with_len 0 (length table.header)) in
    let count = ap (λ n. n * length all) (length-range_with_len 0 (length table.header)) in
    let longer = no_longer [] (flat_map column (range_with_len 0 (length table.header))) in
    omega (arith, few, count, longer)

small_texts : (table : TableValue) → IsSmall table → length (texts_of table) ≤ 32000000
small_texts table small = let few = texts_few table in let same = mul_comm (length table.header) (length (flat_map (λ (rows : List (List Cell)). rows) table.parts)) in omega (arith, few, same, small)

at_small : (tables : List TableValue) → Each IsSmall tables → (number : ℕ) → IsSmall (table_at tables number)
at_small [] each number = omega arith
at_small (t ∷ tables) each zero = each t (inl refl)
at_small (t ∷ tables) each (suc number) = at_small tables (λ u i. each u (inr i)) number

sides_few : (s : Shape) → sides_of s ≤ 2
sides_few s = go (has_one_table s)
  where
    go : (b : Bool) → cond b 1 2 ≤ 2
    go true = omega arith
    go false = omega arith

pub dictionary_small : (request : Request) (contents : List (List ℕ)) (inputs : Inputs) → AreInputs request contents inputs → length (dictionary_of (asked_texts inputs.bound inputs.tables)) ≤ 2 ^ 32
dictionary_small request contents inputs are =
    let b = inputs.bound in
    let q = are.question in
    let small = tables_small room (tables_in (named_texts request.tables (part_texts request contents))) inputs.tables (omega arith) are.tables in
    let texts = asked_texts b inputs.tables in
    let literals = filter_few q.query.source (map shape_of inputs.tables) q.query (spelled_parsed request.query q.query q.spelled) in
    let filter : length (filter_texts (plain_of b.filter)) ≡ length (filter_texts (filter_of (scope_of q.query.source (map shape_of inputs.tables)) q.query.filter)) =
    ap (λ (p : PlainBound). length (filter_texts p.filter)) q.is_bound in
    let tabled = each_few (λ number. texts_of (table_at inputs.tables number)) 32000000 (λ number. small_texts (table_at inputs.tables number) (at_small inputs.tables small number)) b.tables in
    let sides : length b.tables ≡ sides_of b.shape = q.sound.tables.0 in
    let two = sides_few b.shape in
    let both = length-append (filter_texts (plain_of b.filter)) (tables_texts inputs.tables b.tables) in
    let longer = no_longer [] texts in
    let same = ordered_length text_cmp (with_texts [] texts) in
    omega (arith, literals, filter, tabled, sides, two, both, longer, same)
