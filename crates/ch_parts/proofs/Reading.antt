-- The rows of a query's tables, as they are read.
use Rattle.std.proofs.Common.{◌≡◌, ℕ, zero, suc, ◌+◌, ◌<◌, ◌≤◌, List, [], ◌∷◌, ◌++◌, length, map, flat_map, All, refl, ap, sym, ◌∙◌, arith, subst, inl, inr}
use Rattle.std.specs.Prelude.{slice_index_or, pos}
use Rattle.ch_cells.specs.declared.Cell.{Cell}
use Rattle.ch_cells.specs.declared.Cell.TheVariants as cell
use Rattle.ch_lists.specs.Members.{In, Each}
use Rattle.ch_lists.proofs.Members.{In-left, In-right, Each-from_All}
use Rattle.ch_pred.specs.declared.bound.Bound.{Bound}
use Rattle.ch_pred.specs.Holds.{holds_of}
use Rattle.ch_pred.specs.Names.{Names}
use Rattle.ch_pred.specs.Part.{part_of as filter_part}
use Rattle.ch_pred.specs.Plain.{Plain, plain_of}
use Rattle.ch_pred.specs.Sound.{IsCarried, carried_of}
use Rattle.ch_pred.specs.Values.{cells_seen}
use Rattle.ch_words.specs.Packets.{FitsKind, kinds_read, table_of}
use Rattle.ch_words.proofs.Gates.{names_wider}
use Rattle.ch_words.proofs.PartBits.{bit_by_part}
use Rattle.ch_words.proofs.PartNames.{part_named}
use Rattle.ch_words.proofs.SoundQueries.{sound_filter, sound_tables}
use Rattle.ch_tables.specs.TableValue.{TableValue}
use Rattle.ch_parts.specs.Scanned.{AreTables, asked_tables, side_table, table_at, tuple_of}

-- the rows of a side's table
pub table_is : (b : Bound) (tables : List TableValue) (side : ℕ) → side < length b.tables → table_of (asked_tables b tables) side ≡ flat_map (λ part. part) (side_table b tables side).parts
table_is b tables side lt = go b.tables side lt
  where
    go : (ns : List ℕ) (i : ℕ) → i < length ns → slice_index_or (map (λ number. flat_map (λ part. part) (table_at tables number).parts) ns) i [] ≡ flat_map (λ part. part) (table_at tables (slice_index_or ns i 0)).parts
    go [] i lt = absurd (omega arith)
    go (n ∷ ns) zero lt = refl
    go (n ∷ ns) (suc i) lt = go ns i (omega (arith, lt))

In-at : {X : Type 0} (xs : List X) (k : ℕ) (d : X) → k < length xs → In (slice_index_or xs k d) xs
In-at [] k d lt = absurd (omega arith)
In-at (x ∷ xs) zero d lt = inl refl
In-at (x ∷ xs) (suc k) d lt = inr (In-at xs k d (omega (arith, lt)))

In-flat : {X : Type 0} (xss : List (List X)) (i k : ℕ) (d : X) → i < length xss → k < length (slice_index_or xss i []) → In (slice_index_or (slice_index_or xss i []) k d) (flat_map (λ xs. xs) xss)
In-flat [] i k d lt less = absurd (omega arith)
In-flat (xs ∷ xss) zero k d lt less = In-left (slice_index_or xs k d) xs (flat_map (λ ys. ys) xss) (In-at xs k d less)
In-flat (xs ∷ xss) (suc i) k d lt less = In-right (slice_index_or (slice_index_or xss i []) k d) xs (flat_map (λ ys. ys) xss) (In-flat xss i k d (omega (arith, lt)) less)

-- the bit of a row
pub bit_is : (texts : List (List ℕ)) (b : Bound) (tables : List TableValue) (side part k : ℕ) (own : Plain) → AreTables texts b tables → side < length b.tables → side ≤ 1
    → part < length (side_table b tables side).parts → k < length (slice_index_or (side_table b tables side).parts part []) → own ≡ filter_part (plain_of b.filter) side
    → let row = slice_index_or (slice_index_or (side_table b tables side).parts part []) k [] in holds_of (cells_seen row) own ≡ (tuple_of texts b side row).bit
bit_is texts b tables side part k own t lt one p less e =
    let row : List Cell = slice_index_or (slice_index_or (side_table b tables side).parts part []) k [] in
    let a = t.asked in
    let s = sound_tables texts b (asked_tables b tables) a.sound a.ascends a.fits in
    let there : In row (table_of (asked_tables b tables) side) = subst (λ (rows : List (List Cell)). In row rows) (sym (table_is b tables side lt)) (In-flat (side_table b tables side).parts part k [] p less) in
    ap (holds_of (cells_seen row)) e ∙ bit_by_part texts (kinds_read b b.shape) b a.sound a.ascends side row (go side one row there s.first s.second)
  where
    go : (sd : ℕ) → sd ≤ 1 → (r : List Cell) → In r (table_of (asked_tables b tables) sd)
        → ((x : List Cell) → In x (table_of (asked_tables b tables) 0) → Each (λ at. FitsKind texts (kinds_read b b.shape 0 at) (slice_index_or x at (cell.Number (pos 0)))) (carried_of b 0))
        → ((x : List Cell) → In x (table_of (asked_tables b tables) 1) → Each (λ at. FitsKind texts (kinds_read b b.shape 1 at) (slice_index_or x at (cell.Number (pos 0)))) (carried_of b 1))
        → Each (λ at. FitsKind texts (kinds_read b b.shape sd at) (slice_index_or r at (cell.Number (pos 0)))) (carried_of b sd)
    go zero le r i first second = first r i
    go (suc zero) le r i first second = second r i
    go (suc (suc sd)) le r i first second = absurd (omega (arith, le))

-- the part of the filter names columns of the table
pub own_named : (texts : List (List ℕ)) (b : Bound) (tables : List TableValue) (side : ℕ) (own : Plain) → AreTables texts b tables → side < length b.tables → own ≡ filter_part (plain_of b.filter) side
    → Names (λ s at. (s ≡ side) × (at < length (side_table b tables side).header)) own
own_named texts b tables side own t lt e =
    subst (λ (p : Plain). Names (λ s at. (s ≡ side) × (at < length (side_table b tables side).header)) p) (sym e)
    (names_wider (λ s at. (s ≡ side) × IsCarried b s at) (λ s at. (s ≡ side) × (at < length (side_table b tables side).header))
    (λ s at h. (h.0, Each-from_All (λ col. col < length (side_table b tables side).header) (carried_of b side) (t.columns side lt) at (subst (λ (k : ℕ). IsCarried b k at) h.0 h.1)))
    (filter_part (plain_of b.filter) side) (part_named side (IsCarried b) (plain_of b.filter) (sound_filter b t.asked.sound)))

-- a query has at most two tables
pub few_sides : (texts : List (List ℕ)) (b : Bound) (tables : List TableValue) → AreTables texts b tables → length b.tables ≤ 2
few_sides texts b tables t = let n = t.asked.sound.tables.0 in let k = go (Rattle.ch_pred.specs.Sound.has_one_table b.shape) in omega (arith, n, k)
  where
    go : (one : Rattle.std.proofs.Common.Bool) → Rattle.std.proofs.Common.cond one 1 2 ≤ 2
    go Rattle.std.proofs.Common.true = omega arith
    go Rattle.std.proofs.Common.false = omega arith
