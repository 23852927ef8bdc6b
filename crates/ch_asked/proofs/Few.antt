-- How many workers a query has, and how many rows each of them.
use Rattle.std.proofs.Common.{◌≡◌, ℕ, zero, suc, ◌+◌, ◌*◌, ◌^◌, ◌<◌, ◌≤◌, All, Bool, true, false, cond, eq-eqb, List, [], ◌∷◌, map, length, refl, sym, ap, inl, inr, subst, arith}
use Rattle.std.specs.Prelude.{flat_map, slice_index, slice_index_or, ◌==◌}
use Rattle.std.proofs.Math.Nat.{mul-suc}
use Rattle.std.proofs.lemmas.List.{length-append, length-map}
use Rattle.ch_lists.specs.Members.{Each, In}
use Rattle.ch_lists.proofs.Members.{Each-from_All, In-append, In-map}
use Rattle.ch_pred.specs.Sound.{IsSound, has_one_table}
use Rattle.ch_pred.specs.declared.bound.Bound.{Bound}
use Rattle.ch_protocol.specs.Packets.{Part}
use Rattle.ch_protocol.specs.Sets.{numbers_from}
use Rattle.ch_protocol.proofs.Lists.{In-numbers_from}
use Rattle.ch_parts.specs.Team.{sizes_of}
use Rattle.ch_tables.specs.TableValue.{TableValue}
use Rattle.ch_parts.specs.Scanned.{part_of, parts_of, parts_of_side, parts_of_table, table_at, tuple_of}
use Rattle.ch_asked.specs.Suits.{AreSmall}

-- ---- lists end to end

flat_few : {X Y : Type 0} (k : ℕ) (f : X → List Y) (xs : List X) → ((x : X) → length (f x) ≤ k) → length (flat_map f xs) ≤ k * length xs
flat_few k f [] h = omega arith
flat_few k f (x ∷ xs) h =
    let first = h x in
    let rest = flat_few k f xs h in
    let size = length-append (f x) (flat_map f xs) in
    let more = mul-suc k (length xs) in
    omega (arith, first, rest, size, more)

flat_some : {X Y : Type 0} (f : X → List Y) (x : X) (xs : List X) → In x xs → 0 < length (f x) → 0 < length (flat_map f xs)
flat_some f x [] i h = absurd i
flat_some f x (y ∷ ys) (inl e) h =
    let same = ap (λ z. length (f z)) e in
    let size = length-append (f y) (flat_map f ys) in
    omega (arith, same, size, h)
flat_some f x (y ∷ ys) (inr i) h =
    let rest = flat_some f x ys i h in
    let size = length-append (f y) (flat_map f ys) in
    omega (arith, rest, size)

flat_each : {X Y : Type 0} (P : Y → Type 0) (f : X → List Y) (xs : List X) → ((x : X) → Each P (f x)) → Each P (flat_map f xs)
flat_each P f [] h y i = absurd i
flat_each P f (x ∷ xs) h y i = elim (In-append y (f x) (flat_map f xs) i) [
  | inl j ↦ h x y j
  | inr j ↦ flat_each P f xs h y j
]

numbers_count : (from count : ℕ) → length (numbers_from from count) ≡ count
numbers_count from zero = refl
numbers_count from (suc count) = ap suc (numbers_count (suc from) count)

-- ---- the tables

-- what holds of each table, and where there is none, holds of the table of each number
at_each : (P : TableValue → Type 0) (tables : List TableValue) → Each P tables → P (table_at [] 0) → (number : ℕ) → P (table_at tables number)
at_each P [] h none number = none
at_each P (t ∷ tables) h none zero = h t (inl refl)
at_each P (t ∷ tables) h none (suc number) = at_each P tables (λ u i. h u (inr i)) none number

there_each : (P : TableValue → Type 0) (tables : List TableValue) → Each P tables → (number : ℕ) → number < length tables → P (table_at tables number)
there_each P [] h number lt = absurd (omega (arith, lt))
there_each P (t ∷ tables) h zero lt = h t (inl refl)
there_each P (t ∷ tables) h (suc number) lt = there_each P tables (λ u i. h u (inr i)) number (omega (arith, lt))

one_or_two : (b : Bound) → IsSound b → (1 ≤ length b.tables) × (length b.tables ≤ 2)
one_or_two b sound = go (has_one_table b.shape) sound.tables.0
  where
    go : (one : Bool) → length b.tables ≡ cond one 1 2 → (1 ≤ length b.tables) × (length b.tables ≤ 2)
    go true e = (omega (arith, e), omega (arith, e))
    go false e = (omega (arith, e), omega (arith, e))

-- ---- the workers

module _ (texts : List (List ℕ)) (b : Bound) (tables : List TableValue) (small : AreSmall tables) where
  side_few : (number side : ℕ) → length (parts_of_side texts b tables number side) ≤ 64
  side_few number side = go (slice_index_or b.tables side 0 == number)
    where
      go : (t : Bool) → length (cond t (map (part_of texts b side) (table_at tables number).parts) []) ≤ 64
      go true =
          let size = length-map (table_at tables number).parts (part_of texts b side) in
          let few = at_each (λ t. length t.parts ≤ 64) tables small.few_parts (omega arith) number in
          omega (arith, size, few)
      go false = omega arith

  table_few : IsSound b → (number : ℕ) → length (parts_of_table texts b tables number) ≤ 128
  table_few sound number =
      let few = flat_few 64 (parts_of_side texts b tables number) (numbers_from 0 (length b.tables)) (side_few number) in
      let size = numbers_count 0 (length b.tables) in
      let sides = (one_or_two b sound).1 in
      omega (arith, few, size, sides)

  pub few_workers_in : IsSound b → length (parts_of texts b tables) ≤ 65536
  few_workers_in sound =
      let few = flat_few 128 (parts_of_table texts b tables) (numbers_from 0 (length tables)) (table_few sound) in
      let size = numbers_count 0 (length tables) in
      let most = small.few in
      omega (arith, few, size, most)

  side_rows : (number side : ℕ) → Each (λ (p : Part). length p.tuples ≤ 4000000) (parts_of_side texts b tables number side)
  side_rows number side = go (slice_index_or b.tables side 0 == number)
    where
      go : (t : Bool) → Each (λ (p : Part). length p.tuples ≤ 4000000) (cond t (map (part_of texts b side) (table_at tables number).parts) [])
      go true p i =
          let m = In-map (part_of texts b side) p (table_at tables number).parts i in
          let few = at_each (λ t. Each (λ part. length part ≤ 4000000) t.parts) tables small.few_rows (λ part j. absurd j) number m.0 m.1 in
          let size = length-map m.0 (tuple_of texts b side) in
          subst (λ (q : Part). length q.tuples ≤ 4000000) (sym m.2) (omega (arith, few, size))
      go false p i = absurd i

  pub all_rows : Each (λ (p : Part). length p.tuples ≤ 4000000) (parts_of texts b tables)
  all_rows =
      flat_each (λ (p : Part). length p.tuples ≤ 4000000) (parts_of_table texts b tables) (numbers_from 0 (length tables))
      (λ number. flat_each (λ (p : Part). length p.tuples ≤ 4000000) (parts_of_side texts b tables number) (numbers_from 0 (length b.tables)) (side_rows number))

  -- the parts of the table of the first side
  first_some : (number : ℕ) → number < length tables → slice_index_or b.tables 0 0 ≡ number → 0 < length (parts_of_side texts b tables number 0)
  first_some number lt e =
      let size = length-map (table_at tables number).parts (part_of texts b 0) in
      let some = there_each (λ t. 1 ≤ length t.parts) tables small.some_parts number lt in
      let is : length (parts_of_side texts b tables number 0) ≡ length (map (part_of texts b 0) (table_at tables number).parts) =
      ap (λ t. length (cond t (map (part_of texts b 0) (table_at tables number).parts) [])) (eq-eqb (slice_index_or b.tables 0 0) number e) in
      omega (arith, size, some, is)

  pub some_workers_in : IsSound b → All (λ number. number < length tables) b.tables → 0 < length (parts_of texts b tables)
  some_workers_in sound there =
      let one = (one_or_two b sound).0 in
      let number = slice_index_or b.tables 0 0 in
      let lt : number < length tables = Each-from_All (λ n. n < length tables) b.tables there number (first_in b.tables one) in
      flat_some (parts_of_table texts b tables) number (numbers_from 0 (length tables)) (In-numbers_from number 0 (length tables) (omega arith) (omega (arith, lt)))
      (flat_some (parts_of_side texts b tables number) 0 (numbers_from 0 (length b.tables)) (In-numbers_from 0 0 (length b.tables) (omega arith) (omega (arith, one)))
      (first_some number lt refl))
    where
      first_in : (ns : List ℕ) → 1 ≤ length ns → In (slice_index_or ns 0 0) ns
      first_in [] h = absurd (omega (arith, h))
      first_in (n ∷ ns) h = inl refl

size_at : (parts : List Part) → Each (λ p. length p.tuples ≤ 4000000) parts → (w : ℕ) → slice_index (sizes_of parts) w ≤ 4000000
size_at [] h w = omega arith
size_at (p ∷ parts) h zero = h p (inl refl)
size_at (p ∷ parts) h (suc w) = size_at parts (λ q i. h q (inr i)) w

pub some_workers : (texts : List (List ℕ)) (b : Bound) (tables : List TableValue) → IsSound b → All (λ number. number < length tables) b.tables → AreSmall tables → 0 < length (parts_of texts b tables)
some_workers texts b tables sound there small = some_workers_in texts b tables small sound there

pub few_workers : (texts : List (List ℕ)) (b : Bound) (tables : List TableValue) → IsSound b → AreSmall tables → length (parts_of texts b tables) ≤ 65536
few_workers texts b tables sound small = few_workers_in texts b tables small sound

pub small_workers : (texts : List (List ℕ)) (b : Bound) (tables : List TableValue) → AreSmall tables → (w : ℕ) → w < length (parts_of texts b tables) → slice_index (sizes_of (parts_of texts b tables)) w + 1 < 2 ^ 32
small_workers texts b tables small w lt = let most = size_at (parts_of texts b tables) (all_rows texts b tables small) w in omega (arith, most)
