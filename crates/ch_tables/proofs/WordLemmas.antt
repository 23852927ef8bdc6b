-- Columns of words that stand for columns of texts.
use Rattle.std.proofs.Common.{◌≡◌, ℕ, zero, suc, ◌+◌, ◌<◌, ◌≤◌, Bool, true, false, List, [], ◌∷◌, ◌++◌, length, get_or, map, drop, Some, slice_get, ℤ, refl, sym, ap, ◌∙◌, arith, length-append, drop-cons, add-one, ap₂}
use Rattle.std.specs.Prelude.{bytes_eq, flat_map, sum_by}
use Rattle.std.specs.List.{list_all, list_any}
use Rattle.std.proofs.lemmas.List.{get_or_default, map-append}
use Rattle.std.proofs.lemmas.List.Sums.{fold-append, sum_by-cons}
use Rattle.ch_cells.specs.Number.{number_of}
use Rattle.ch_tables.specs.Columns.{AllStandFor, ArePlaces, StandsFor}
use Rattle.ch_tables.specs.Table.{is_number}
use Rattle.ch_tables.specs.Texts.{texts_in, with_text, with_texts}
use Rattle.ch_tables.specs.declared.column.Column.{Column}
use Rattle.ch_tables.specs.declared.column.Column.TheVariants.{Numbers, Places}
use Rattle.ch_tables.proofs.TextLemmas.{with_text-new, with_text-there}

-- what stands in a list stands there in a longer one
slice_get-longer : (xs ys : List (List ℕ)) (at : ℕ) (text : List ℕ) → slice_get xs at ≡ Some text → slice_get (xs ++ ys) at ≡ Some text
slice_get-longer [] ys at text e = cc
slice_get-longer (x ∷ xs) ys zero text e = e
slice_get-longer (x ∷ xs) ys (suc at) text e = slice_get-longer xs ys at text e

-- adding a text leaves the places
kept : (texts : List (List ℕ)) (more : List ℕ) (at : ℕ) (text : List ℕ) → slice_get texts at ≡ Some text → slice_get (with_text texts more) at ≡ Some text
kept texts more at text e = by (list_any (bytes_eq more) texts) refl
  where
    by : (b : Bool) → list_any (bytes_eq more) texts ≡ b → slice_get (with_text texts more) at ≡ Some text
    by true there = rw (with_text-there texts more there) e
    by false new = rw (with_text-new texts more new) (slice_get-longer texts (more ∷ []) at text e)

pub ArePlaces-with_text : (texts : List (List ℕ)) (more : List ℕ) (column : List (List ℕ)) (places : List ℕ) → ArePlaces texts column places → ArePlaces (with_text texts more) column places
ArePlaces-with_text texts more [] [] e = refl
ArePlaces-with_text texts more [] (at ∷ places) e = cc
ArePlaces-with_text texts more (text ∷ column) [] e = cc
ArePlaces-with_text texts more (text ∷ column) (at ∷ places) e =
    let here : slice_get texts at ≡ Some text = cc in
    let rest : ArePlaces texts column places = cc in
    ap₂ (λ x xs. x ∷ xs) (kept texts more at text here) (ArePlaces-with_text texts more column places rest)

pub ArePlaces-with_texts : (texts more : List (List ℕ)) (column : List (List ℕ)) (places : List ℕ) → ArePlaces texts column places → ArePlaces (with_texts texts more) column places
ArePlaces-with_texts texts [] column places e = e
ArePlaces-with_texts texts (text ∷ more) column places e = ArePlaces-with_texts (with_text texts text) more column places (ArePlaces-with_text texts text column places e)

-- one more place
pub ArePlaces-push : (texts : List (List ℕ)) (column : List (List ℕ)) (places : List ℕ) (text : List ℕ) (at : ℕ) → ArePlaces texts column places → slice_get texts at ≡ Some text
    → ArePlaces texts (column ++ text ∷ []) (places ++ at ∷ [])
ArePlaces-push texts column places text at e h = map-append (slice_get texts) places (at ∷ []) ∙ (ap₂ (λ xs x. xs ++ x ∷ []) e h ∙ sym (map-append Some column (text ∷ [])))

-- one text adds at most one
pub length-with_text : (texts : List (List ℕ)) (text : List ℕ) → length (with_text texts text) ≤ length texts + 1
length-with_text texts text = by (list_any (bytes_eq text) texts) refl
  where
    by : (b : Bool) → list_any (bytes_eq text) texts ≡ b → length (with_text texts text) ≤ length texts + 1
    by true there = rw (with_text-there texts text there) (omega arith)
    by false new = rw (with_text-new texts text new) (omega (arith, length-append texts (text ∷ [])))

StandsFor-with_texts : (texts more : List (List ℕ)) (words : Column) (column : List (List ℕ)) → StandsFor texts words column → StandsFor (with_texts texts more) words column
StandsFor-with_texts texts more (Numbers numbers) column s = s
StandsFor-with_texts texts more (Places places) column s = (s.0, ArePlaces-with_texts texts more column places.items s.1)

pub AllStandFor-with_texts : (texts more : List (List ℕ)) (words : List Column) (columns : List (List (List ℕ))) → AllStandFor texts words columns → AllStandFor (with_texts texts more) words columns
AllStandFor-with_texts texts more [] [] s = s
AllStandFor-with_texts texts more [] (column ∷ columns) s = s
AllStandFor-with_texts texts more (word ∷ words) [] s = s
AllStandFor-with_texts texts more (word ∷ words) (column ∷ columns) s = (StandsFor-with_texts texts more word column s.0, AllStandFor-with_texts texts more words columns s.1)

pub AllStandFor-push : (texts : List (List ℕ)) (words : List Column) (columns : List (List (List ℕ))) (word : Column) (column : List (List ℕ))
    → AllStandFor texts words columns → StandsFor texts word column → AllStandFor texts (words ++ word ∷ []) (columns ++ column ∷ [])
AllStandFor-push texts [] [] word column s h = (h, tt)
AllStandFor-push texts [] (c ∷ columns) word column s h = absurd s
AllStandFor-push texts (w ∷ words) [] word column s h = absurd s
AllStandFor-push texts (w ∷ words) (c ∷ columns) word column s h = (s.0, AllStandFor-push texts words columns word column s.1 h)

-- a column whose texts spell numbers
pub list_all-spelled : (column : List (List ℕ)) (numbers : List ℤ) → map number_of column ≡ map Some numbers → list_all is_number column ≡ true
list_all-spelled [] numbers e = refl
list_all-spelled (text ∷ column) [] e = cc
list_all-spelled (text ∷ column) (n ∷ numbers) e =
    let here : number_of text ≡ Some n = cc in
    let rest : map number_of column ≡ map Some numbers = cc in
    rw (here, list_all-spelled column numbers rest) refl

-- it adds no texts
pub with_texts-spelled : (texts column : List (List ℕ)) (numbers : List ℤ) → map number_of column ≡ map Some numbers → texts ≡ with_texts texts (texts_in column)
with_texts-spelled texts column numbers e = rw (list_all-spelled column numbers e) refl

-- one more text of a column
pub places-step : (before old new : List (List ℕ)) (column : List (List ℕ)) (i : ℕ) (text : List ℕ) → i < length column → text ≡ get_or column i [] → new ≡ with_text old text
    → with_texts old (drop i column) ≡ before → with_texts new (drop (i + 1) column) ≡ before
places-step before old new column i text h t n e =
    let left : drop i column ≡ text ∷ drop (i + 1) column = rw (t, add-one) (drop-cons column i [] h) in
    ap (λ texts. with_texts texts (drop (i + 1) column)) n ∙ (sym (ap (with_texts old) left) ∙ e)

-- one more column
pub columns-step : (before old new : List (List ℕ)) (columns : List (List (List ℕ))) (i : ℕ) (column : List (List ℕ)) → i < length columns → column ≡ get_or columns i column
    → new ≡ with_texts old (texts_in column)
    → with_texts old (flat_map texts_in (drop i columns)) ≡ before → with_texts new (flat_map texts_in (drop (i + 1) columns)) ≡ before
columns-step before old new columns i column h c n e =
    let left : drop i columns ≡ column ∷ drop (i + 1) columns = drop-cons columns i column h ∙ ap₂ (λ x k. x ∷ drop k columns) (sym c) (sym (add-one i)) in
    ap (λ texts. with_texts texts (flat_map texts_in (drop (i + 1) columns))) n
    ∙ (sym (fold-append with_text old (texts_in column) (flat_map texts_in (drop (i + 1) columns)))
    ∙ (sym (ap (λ cs. with_texts old (flat_map texts_in cs)) left) ∙ e))

pub sum-step : (columns : List (List (List ℕ))) (i : ℕ) (column : List (List ℕ)) → i < length columns → column ≡ get_or columns i column
    → sum_by length (drop i columns) ≡ length column + sum_by length (drop (i + 1) columns)
sum-step columns i column h c =
    let left : drop i columns ≡ column ∷ drop (i + 1) columns = drop-cons columns i column h ∙ ap₂ (λ x k. x ∷ drop k columns) (sym c) (sym (add-one i)) in
    ap (sum_by length) left ∙ sum_by-cons length column (drop (i + 1) columns)

pub sum-left : (columns : List (List (List ℕ))) (i : ℕ) → i < length columns → length (get_or columns i []) ≤ sum_by length (drop i columns)
sum-left columns i h = omega (arith, sum-step columns i (get_or columns i []) h (get_or_default columns i [] (get_or columns i []) h))
