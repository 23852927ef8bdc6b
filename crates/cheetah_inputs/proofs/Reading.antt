-- Tables that are read one after the other.
use Rattle.std.proofs.Common.{◌≡◌, ◌∙◌, ap, ap₂, sym, refl, ℕ, List, [], ◌∷◌, ◌++◌, append_assoc, append-nil, filter, Result, Ok, Err}
use Rattle.ch_tables.specs.TableValue.{TableValue}
use Rattle.ch_tables.specs.declared.Room.{Room}
use Rattle.cheetah_inputs.specs.Parts.{NamedText, TableText, tables_in, texts_of}
use Rattle.cheetah_inputs.specs.Tables.{and_more, room_after, table_or_line, tables_within}
use Rattle.cheetah_inputs.proofs.Grouping.{is_others, next_table}

-- tables behind those that are read
abbrev pub behind_them : List TableValue → Result (List TableValue) (List ℕ) → Result (List TableValue) (List ℕ)
behind_them tables (Ok more) = Ok (tables ++ more)
behind_them tables (Err line) = Err line

one_more : (tables : List TableValue) (table : TableValue) (more : Result (List TableValue) (List ℕ)) → behind_them tables (and_more table more) ≡ behind_them (tables ++ table ∷ []) more
one_more tables table (Ok more) = ap Ok (sym (append_assoc tables (table ∷ []) more))
one_more tables table (Err line) = refl

-- the next table is read
pub read_more : (tables : List TableValue) (room : Room) (parts : List NamedText) (name : List ℕ) (texts : List (List ℕ)) (others : List NamedText) (table : TableValue) (all : Result (List TableValue) (List ℕ))
    → tables_in parts ≡ record { name = name; texts = texts } ∷ tables_in others → table_or_line name room texts ≡ Ok table
    → behind_them tables (tables_within room (tables_in parts)) ≡ all → behind_them (tables ++ table ∷ []) (tables_within (room_after room table) (tables_in others)) ≡ all
read_more tables room parts name texts others table all e is left =
    let here : behind_them tables (tables_within room (tables_in parts)) ≡ behind_them tables (and_more table (tables_within (room_after room table) (tables_in others))) =
    rw (e, is) refl in
    sym (here ∙ one_more tables table (tables_within (room_after room table) (tables_in others))) ∙ left

-- the next one is refused
pub read_none : (tables : List TableValue) (room : Room) (parts : List NamedText) (name : List ℕ) (texts : List (List ℕ)) (others : List TableText) (line : List ℕ) (all : Result (List TableValue) (List ℕ))
    → tables_in parts ≡ record { name = name; texts = texts } ∷ others → table_or_line name room texts ≡ Err line
    → behind_them tables (tables_within room (tables_in parts)) ≡ all → all ≡ Err line
read_none tables room parts name texts others line all e is left = let here : behind_them tables (tables_within room (tables_in parts)) ≡ Err line = rw (e, is) refl in sym left ∙ here

-- all are read
pub read_all : (tables : List TableValue) (room : Room) (parts : List NamedText) (all : Result (List TableValue) (List ℕ)) → parts ≡ [] → behind_them tables (tables_within room (tables_in parts)) ≡ all → all ≡ Ok tables
read_all tables room parts all none left =
    sym left ∙ (ap (λ (ps : List NamedText). behind_them tables (tables_within room (tables_in ps))) none ∙ ap Ok (append-nil tables))

-- the first of the parts that are left
pub first_parts : (parts : List NamedText) (part : NamedText) (rest others : List NamedText) (texts : List (List ℕ)) → parts ≡ part ∷ rest → texts ≡ part.text ∷ texts_of part.name rest → others ≡ filter (is_others part.name) rest
    → tables_in parts ≡ record { name = part.name; texts = texts } ∷ tables_in others
first_parts parts part rest others texts first chosen left =
    ap tables_in first ∙ (next_table part rest ∙ ap₂ (λ (t : TableText) ts. t ∷ ts) (λ i. record { name = part.name; texts = (sym chosen) i }) (ap tables_in (sym left)))
