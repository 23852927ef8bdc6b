-- The packets of a worker's rows.
use Rattle.std.proofs.Common.{◌≡◌, ℕ, zero, suc, ◌+◌, ◌<◌, ◌≤◌, false, true, Bool, List, [], ◌∷◌, ℤ, length, map, All, refl, ap, sym, ◌∙◌, arith, subst}
use Rattle.std.specs.Prelude.{slice_index_or}
use Rattle.std.proofs.lemmas.Bool.{ne_eqb, eq-eqb}
use Rattle.std.proofs.lemmas.List.{length-map}
use Rattle.std.proofs.lemmas.List.Elements.{All-head, All-tail}
use Rattle.ch_cells.specs.declared.Cell.{Cell}
use Rattle.ch_cover.specs.Rows.{Row}
use Rattle.ch_packet.specs.declared.packet.Packet.{Packet as BytePacket}
use Rattle.ch_packet.specs.declared.packet.PacketKind.TheVariants.{Row as RowKind, Fin}
use Rattle.ch_protocol.specs.Packets.{Part, Tuple}
use Rattle.ch_protocol.specs.Machine.{Config, size, rows_in, rows_of, row_at, no_row, is_fin}
use Rattle.ch_pred.specs.declared.bound.Bound.{Bound}
use Rattle.ch_ends.specs.Packets.{no_part, packet_for, sent, side_of}
use Rattle.ch_stands.proofs.Lists.{at_map}
use Rattle.ch_stands.proofs.Spelled.{rows_part, fin_row}
use Rattle.ch_tables.specs.TableValue.{TableValue}
use Rattle.ch_parts.specs.Scanned.{part_of, side_table, tuple_of}
use Rattle.ch_parts.specs.Tidy.{IsSource, source_part}
use Rattle.ch_parts.specs.declared.row.Source.{Source}

-- an item that is there
pub all_at : {X : Type 0} (P : X → Type 0) (xs : List X) (i : ℕ) (x : X) → All P xs → i < length xs → x ≡ slice_index_or xs i x → P x
all_at P [] i x h lt e = absurd (omega arith)
all_at P (y ∷ ys) zero x h lt e = subst P (sym e) (All-head P y ys h)
all_at P (y ∷ ys) (suc i) x h lt e = all_at P ys i x (All-tail P y ys h) (omega (arith, lt)) e

-- the part of a worker
pub part_is : (texts : List (List ℕ)) (b : Bound) (tables : List TableValue) (ss : List Source) (w : ℕ) (s : Source) (parts : List Part) → map (source_part texts b tables) ss ≡ parts → w < length parts → s ≡ slice_index_or ss w s
    → slice_index_or parts w no_part ≡ source_part texts b tables s
part_is texts b tables ss w s parts h lt e =
    ap (λ (qs : List Part). slice_index_or qs w no_part) (sym h)
    ∙ at_map (source_part texts b tables) ss w s no_part (let n = ap (λ (qs : List Part). length qs) h in let m = length-map ss (source_part texts b tables) in omega (arith, lt, n, m)) e

rows_are : (c : Config) (parts : List Part) (w : ℕ) (p : Part) → c.parts ≡ parts → slice_index_or parts w no_part ≡ p → rows_of c w ≡ rows_in p
rows_are c parts w p h e = rows_part c w ∙ ap rows_in (ap (λ (qs : List Part). slice_index_or qs w no_part) h ∙ e)

pub size_is : (c : Config) (parts : List Part) (w : ℕ) (p : Part) → c.parts ≡ parts → slice_index_or parts w no_part ≡ p → size c w ≡ length p.tuples
size_is c parts w p h e = ap (λ (rows : List Row). length rows) (rows_are c parts w p h e) ∙ length-map p.tuples (λ t. record { side = p.side; bit = t.bit; words = t.words })

pub row_made : (c : Config) (parts : List Part) (pass w k epoch : ℕ) (texts : List (List ℕ)) (b : Bound) (side : ℕ) (rows : List (List Cell)) (bit : Bool) (words : List ℤ) → c.parts ≡ parts
    → slice_index_or parts w no_part ≡ part_of texts b side rows → k < length rows → bit ≡ (tuple_of texts b side (slice_index_or rows k [])).bit → words ≡ (tuple_of texts b side (slice_index_or rows k [])).words
    → packet_for c (sent pass w k epoch) ≡ record { kind = RowKind; pass = pass; worker = w; side = side; number = k; epoch = epoch; bit = bit; words = words }
row_made c parts pass w k epoch texts b side rows bit words h e lt bit_is words_are =
    let p : Part = part_of texts b side rows in
    let t : Tuple = tuple_of texts b side (slice_index_or rows k []) in
    let n = size_is c parts w p h e ∙ length-map rows (tuple_of texts b side) in
    let fin : is_fin c (sent pass w k epoch).name ≡ false = ne_eqb k (size c w) (λ q. (omega (arith, n, q, lt))) in
    let row : row_at c (sent pass w k epoch).name ≡ record { side = side; bit = t.bit; words = t.words } =
    ap (λ (rs : List Row). slice_index_or rs k no_row) (rows_are c parts w p h e)
    ∙ at_map (λ (u : Tuple). record { side = side; bit = u.bit; words = u.words }) p.tuples k t no_row (let m = length-map rows (tuple_of texts b side) in omega (arith, m, lt)) (sym (at_map (tuple_of texts b side) rows k (slice_index_or rows k []) t lt (there rows k lt))) in
    let its : side_of c w ≡ side = ap (λ (q : Part). q.side) (ap (λ (qs : List Part). slice_index_or qs w no_part) h ∙ e) in
    rw (fin, row, its, bit_is, words_are) refl
  where
    there : (rs : List (List Cell)) (i : ℕ) → i < length rs → slice_index_or rs i [] ≡ slice_index_or rs i (slice_index_or rs i [])
    there [] i lt = absurd (omega arith)
    there (r ∷ rs) zero lt = refl
    there (r ∷ rs) (suc i) lt = same rs i (omega (arith, lt))
      where
        same : (rs : List (List Cell)) (i : ℕ) → i < length rs → slice_index_or rs i [] ≡ slice_index_or rs i (slice_index_or rs i [])
        same [] i lt = absurd (omega arith)
        same (r ∷ rs) zero lt = refl
        same (r ∷ rs) (suc i) lt = same rs i (omega (arith, lt))

pub fin_made : (c : Config) (parts : List Part) (pass w k epoch : ℕ) (p : Part) (words : List ℤ) → c.parts ≡ parts → slice_index_or parts w no_part ≡ p → k ≡ length p.tuples → words ≡ []
    → packet_for c (sent pass w k epoch) ≡ record { kind = Fin; pass = pass; worker = w; side = p.side; number = k; epoch = epoch; bit = false; words = words }
fin_made c parts pass w k epoch p words h e q same =
    let n = size_is c parts w p h e in
    let fin : is_fin c (sent pass w k epoch).name ≡ true = eq-eqb k (size c w) (q ∙ sym n) in
    let its : side_of c w ≡ p.side = ap (λ (r : Part). r.side) (ap (λ (qs : List Part). slice_index_or qs w no_part) h ∙ e) in
    rw (fin, fin_row c (sent pass w k epoch).name (q ∙ sym n), its, same) refl

-- a configuration with these parts
abbrev pub some_config : List Part → Config
some_config parts = record { parts = parts; window = 0; two_passes = false; prunes = λ before x. false }

-- a worker's source is that of its part
pub record HasSource (texts : List (List ℕ)) (b : Bound) (tables : List TableValue) (parts : List Part) (w : ℕ) (s : Source) : Type 0 where
  pub is : IsSource b tables s
  pub part : slice_index_or parts w no_part ≡ source_part texts b tables s

pub worker_source : (texts : List (List ℕ)) (b : Bound) (tables : List TableValue) (ss : List Source) (parts : List Part) (w : ℕ) (s : Source) → map (source_part texts b tables) ss ≡ parts
    → All (IsSource b tables) ss → w < length parts → s ≡ slice_index_or ss w s → HasSource texts b tables parts w s
worker_source texts b tables ss parts w s h all lt e = record {
  is = all_at (IsSource b tables) ss w s all (let n = ap (λ (qs : List Part). length qs) h in let m = length-map ss (source_part texts b tables) in omega (arith, lt, n, m)) e;
  part = part_is texts b tables ss w s parts h lt e;
}
