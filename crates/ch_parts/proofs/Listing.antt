-- The workers of a query, listed.
use Rattle.std.proofs.Common.{◌≡◌, ℕ, zero, suc, ◌+◌, ◌<◌, ◌≤◌, List, [], ◌∷◌, ◌++◌, length, map, flat_map, take, All, refl, ap, sym, ◌∙◌, arith, subst}
use Rattle.std.specs.Prelude.{slice_index_or}
use Rattle.std.proofs.lemmas.List.{append-nil, length-map}
use Rattle.std.proofs.lemmas.List.Elements.{All-nil, All-cons, All-head, All-tail}
use Rattle.ch_cells.specs.declared.Cell.{Cell}
use Rattle.ch_pred.specs.declared.bound.Bound.{Bound}
use Rattle.ch_protocol.specs.Sets.{numbers_from}
use Rattle.ch_stands.specs.Team.{sizes_of}
use Rattle.ch_stands.proofs.Lists.{map_push}
use Rattle.ch_tables.specs.TableValue.{TableValue}
use Rattle.ch_parts.specs.Scanned.{part_of, parts_of_side, side_table, table_at, tuple_of}
use Rattle.ch_parts.specs.Tidy.{IsSource, source_part}
use Rattle.ch_parts.specs.declared.row.Source.{Source}

pub sizes_are : (texts : List (List ℕ)) (b : Bound) (tables : List TableValue) (ss : List Source) → All (IsSource b tables) ss → map (λ s. s.rows) ss ≡ sizes_of (map (source_part texts b tables) ss)
sizes_are texts b tables [] h = refl
sizes_are texts b tables (s ∷ ss) h =
    let rows : List (List Cell) = slice_index_or (side_table b tables s.side).parts s.part [] in
    let e : s.rows ≡ length (map (tuple_of texts b s.side) rows) = (All-head (IsSource b tables) s ss h).rows ∙ sym (length-map rows (tuple_of texts b s.side)) in
    ap (λ n. n ∷ map (λ q. q.rows) ss) e ∙ ap (λ ns. length (map (tuple_of texts b s.side) rows) ∷ ns) (sizes_are texts b tables ss (All-tail (IsSource b tables) s ss h))

-- all of a list is taken
pub taken_all : {X : Type 0} (xs : List X) (i : ℕ) → length xs ≤ i → take i xs ≡ xs
taken_all [] zero le = refl
taken_all [] (suc i) le = refl
taken_all (x ∷ xs) zero le = absurd (omega (arith, le))
taken_all (x ∷ xs) (suc i) le = ap (λ ys. x ∷ ys) (taken_all xs i (omega (arith, le)))

appended : {X : Type 0} (xs ys zs : List X) → (xs ++ ys) ++ zs ≡ xs ++ (ys ++ zs)
appended [] ys zs = refl
appended (x ∷ xs) ys zs = ap (λ us. x ∷ us) (appended xs ys zs)

flat_from : {X : Type 0} (f : ℕ → List X) (from n : ℕ) → flat_map f (numbers_from from (suc n)) ≡ flat_map f (numbers_from from n) ++ f (from + n)
flat_from f from zero = let e : from + 0 ≡ from = omega arith in rw e (append-nil (f from))
flat_from f from (suc n) =
    let e : from + suc n ≡ suc from + n = omega arith in
    rw e (ap (λ xs. f from ++ xs) (flat_from f (suc from) n) ∙ sym (appended (f from) (flat_map f (numbers_from (suc from) n)) (f (suc from + n))))

-- one more number
pub flat_more : {X : Type 0} (f : ℕ → List X) (n : ℕ) → flat_map f (numbers_from 0 (n + 1)) ≡ flat_map f (numbers_from 0 n) ++ f n
flat_more f n = let e : n + 1 ≡ suc n = omega arith in let z : 0 + n ≡ n = omega arith in rw e (flat_from f 0 n ∙ ap (λ k. flat_map f (numbers_from 0 n) ++ f k) z)
