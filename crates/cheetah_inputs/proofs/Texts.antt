-- The texts of tables: how many there are, and how long.
use Rattle.std.proofs.Common.{◌≡◌, ◌≤◌, ◌∙◌, ap, refl, sym, ℕ, suc, List, [], ◌∷◌, All, filter, length, map, not, Result, Ok, Err, arith}
use Rattle.std.specs.Prelude.{bytes_eq}
use Rattle.std.proofs.lemmas.List.{length-map}
use Rattle.std.proofs.lemmas.List.Elements.{All-cons, All-filter, All-map, All-nil}
use Rattle.ch_command.specs.Reading.{most_bytes}
use Rattle.cheetah_words.specs.Tables.{Part}
use Rattle.ch_tables.specs.TableValue.{TableValue}
use Rattle.ch_tables.specs.declared.Room.{Room}
use Rattle.cheetah_inputs.specs.Parts.{AreShort, NamedText, TableText, different, is_of, named_texts, tables_in, texts_of}
use Rattle.cheetah_inputs.specs.Tables.{and_more, room_after, table_or_line, tables_within, with_more}
use Rattle.cheetah_inputs.proofs.Grouping.{kept, table_in}

pub few_texts : (name : List ℕ) (parts : List NamedText) → length (texts_of name parts) ≤ length parts
few_texts name parts = rw (length-map (filter (is_of name) parts) (λ part. part.text)) (kept (is_of name) parts)

pub short_texts : (name : List ℕ) (parts : List NamedText) → AreShort parts → All (λ text. length text ≤ most_bytes) (texts_of name parts)
short_texts name parts short = All-map (λ text. length text ≤ most_bytes) (λ part. part.text) (filter (is_of name) parts) (All-filter (is_of name) (λ part. length part.text ≤ most_bytes) parts short)

-- as many parts as words at most, and each has one of the texts
pub few_parts : (words : List Part) (texts : List (List ℕ)) → length (named_texts words texts) ≤ length words
few_parts [] texts = omega arith
few_parts (word ∷ words) [] = omega arith
few_parts (word ∷ words) (text ∷ texts) = let more = few_parts words texts in omega (arith, more)

pub short_all : (part : NamedText) (parts : List NamedText) → AreShort (part ∷ parts) → (length part.text ≤ most_bytes) × AreShort parts
short_all part parts short = (short 0 part (omega arith), λ k d lt. short (suc k) d (omega (arith, lt)))

pub named_short : (words : List Part) (texts : List (List ℕ)) → All (λ text. length text ≤ most_bytes) texts → AreShort (named_texts words texts)
named_short [] texts short = All-nil (λ (part : NamedText). length part.text ≤ most_bytes)
named_short (word ∷ words) [] short = All-nil (λ (part : NamedText). length part.text ≤ most_bytes)
named_short (word ∷ words) (text ∷ texts) short =
    All-cons (λ (part : NamedText). length part.text ≤ most_bytes) (record { name = word.name; text = text }) (named_texts words texts) (short 0 text (omega arith))
    (named_short words texts (λ k d lt. short (suc k) d (omega (arith, lt))))

-- no more tables than parts

few_different : (names : List (List ℕ)) → length (different names) ≤ length names
few_different [] = omega arith
few_different (name ∷ names) =
    let more = few_different names in
    let fewer = kept (λ other. not (bytes_eq other name)) (different names) in
    omega (arith, more, fewer)

pub few_tables : (parts : List NamedText) → length (tables_in parts) ≤ length parts
few_tables parts =
    let names = map (λ (part : NamedText). part.name) parts in
    let n = few_different names in
    let m : length names ≡ length parts = length-map parts (λ part. part.name) in
    let t : length (tables_in parts) ≡ length (different names) = length-map (different names) (table_in parts) in
    omega (arith, n, m, t)

pub many_tables : (left : Room) (ts : List TableText) (tables : List TableValue) → tables_within left ts ≡ Ok tables → length tables ≡ length ts
many_tables left [] tables e = let same : [] ≡ tables = cc in sym (ap length same)
many_tables left (t ∷ ts) tables e = by (table_or_line t.name left t.texts) e (λ table more. many_tables (room_after left table) ts more)
  where
    Counts : TableValue → Type 0
    Counts table = (more : List TableValue) → tables_within (room_after left table) ts ≡ Ok more → length more ≡ length ts

    counted : (table : TableValue) (read : Result (List TableValue) (List ℕ)) → tables_within (room_after left table) ts ≡ read → and_more table read ≡ Ok tables → Counts table → length tables ≡ suc (length ts)
    counted table (Ok more) is e counts = let same : table ∷ more ≡ tables = cc in sym (ap length same) ∙ ap suc (counts more is)
    counted table (Err line) is e counts = absurd cc

    by : (read : Result TableValue (List ℕ)) → with_more read (λ table. tables_within (room_after left table) ts) ≡ Ok tables → ((table : TableValue) → Counts table) → length tables ≡ suc (length ts)
    by (Ok table) e counts = counted table (tables_within (room_after left table) ts) refl e (counts table)
    by (Err line) e counts = absurd cc
