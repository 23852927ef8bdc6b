-- The workers of a query, listed.
use Rattle.std.proofs.Common.{◌≡◌, ℕ, zero, suc, ◌+◌, ◌<◌, ◌≤◌, List, [], ◌∷◌, ◌++◌, length, map, take, All, refl, ap, sym, ◌∙◌, arith, subst}
use Rattle.std.specs.Prelude.{slice_index_or}
use Rattle.std.proofs.lemmas.List.{append-nil}
use Rattle.std.proofs.lemmas.List.Elements.{All-nil, All-cons, All-head, All-tail}
use Rattle.std.specs.List.{flat_map}
use Rattle.ch_cells.specs.declared.Cell.{Cell}
use Rattle.ch_pred.specs.declared.bound.Bound.{Bound}
use Rattle.ch_protocol.specs.Sets.{numbers_from}
use Rattle.ch_parts.proofs.Lists.{map_push}
use Rattle.ch_tables.specs.TableValue.{TableValue}
use Rattle.ch_parts.specs.Scanned.{part_of, parts_of_side, side_table, table_at}
use Rattle.ch_parts.specs.Tidy.{IsSource, source_part}
use Rattle.ch_parts.specs.declared.row.Source.{Source}
use Rattle.ch_parts.proofs.Listing.{flat_more}

pub all_more : {X : Type 0} (P : X → Type 0) (xs : List X) (x : X) → All P xs → P x → All P (xs ++ x ∷ [])
all_more P [] x h p = All-cons P x [] p (All-nil P)
all_more P (y ∷ xs) x h p = All-cons P y (xs ++ x ∷ []) (All-head P y xs h) (all_more P xs x (All-tail P y xs h) p)

appended : {X : Type 0} (xs ys zs : List X) → (xs ++ ys) ++ zs ≡ xs ++ (ys ++ zs)
appended [] ys zs = refl
appended (x ∷ xs) ys zs = ap (λ us. x ∷ us) (appended xs ys zs)

take_next : {X : Type 0} (xs : List X) (i : ℕ) (d : X) → i < length xs → take (i + 1) xs ≡ take i xs ++ slice_index_or xs i d ∷ []
take_next [] i d lt = absurd (omega arith)
take_next (x ∷ xs) zero d lt = refl
take_next (x ∷ xs) (suc i) d lt = let e : suc i + 1 ≡ suc (i + 1) = omega arith in rw e (ap (λ ys. x ∷ ys) (take_next xs i d (omega (arith, lt))))

-- one more part of a table
pub parts_more : (texts : List (List ℕ)) (b : Bound) (tables : List TableValue) (old sources : List Source) (s : Source) (parts : List (List (List Cell))) (side part : ℕ)
    → map (source_part texts b tables) sources ≡ map (source_part texts b tables) old ++ map (part_of texts b side) (take part parts)
    → part < length parts → source_part texts b tables s ≡ part_of texts b side (slice_index_or parts part [])
    → map (source_part texts b tables) (sources ++ s ∷ []) ≡ map (source_part texts b tables) old ++ map (part_of texts b side) (take (part + 1) parts)
parts_more texts b tables old sources s parts side part h lt e =
    map_push (source_part texts b tables) sources s
    ∙ (ap (λ xs. xs ++ source_part texts b tables s ∷ []) h
    ∙ (appended (map (source_part texts b tables) old) (map (part_of texts b side) (take part parts)) (source_part texts b tables s ∷ [])
    ∙ ap (λ xs. map (source_part texts b tables) old ++ xs)
    (ap (λ x. map (part_of texts b side) (take part parts) ++ x ∷ []) e ∙ (sym (map_push (part_of texts b side) (take part parts) (slice_index_or parts part [])) ∙ ap (map (part_of texts b side)) (sym (take_next parts part [] lt))))))

-- lists one after the other, of which the last is listed by a number
pub listed_more : {X : Type 0} (f : ℕ → List X) (n : ℕ) (old now new more : List X) → now ≡ old ++ flat_map f (numbers_from 0 n) → new ≡ now ++ more → more ≡ f n → new ≡ old ++ flat_map f (numbers_from 0 (n + 1))
listed_more f n old now new more a b e =
    b ∙ (ap (λ xs. xs ++ more) a ∙ (appended old (flat_map f (numbers_from 0 n)) more ∙ ap (λ xs. old ++ xs) (ap (λ m. flat_map f (numbers_from 0 n) ++ m) e ∙ sym (flat_more f n))))

pub listed_same : {X : Type 0} (f : ℕ → List X) (n : ℕ) (old now : List X) → now ≡ old ++ flat_map f (numbers_from 0 n) → f n ≡ [] → now ≡ old ++ flat_map f (numbers_from 0 (n + 1))
listed_same f n old now a e = listed_more f n old now now [] a (sym (append-nil now)) (sym e)

pub listed_first : {X : Type 0} (f : ℕ → List X) (n : ℕ) (now new more : List X) → now ≡ flat_map f (numbers_from 0 n) → new ≡ now ++ more → more ≡ f n → new ≡ flat_map f (numbers_from 0 (n + 1))
listed_first f n now new more a b e = listed_more f n [] now new more a b e

-- a source for a part of a table
pub new_source : (b : Bound) (tables : List TableValue) (side part rows : ℕ) (t : TableValue) → side < length b.tables → side_table b tables side ≡ t → part < length t.parts → rows ≡ length (slice_index_or t.parts part [])
    → IsSource b tables (record { side = side; part = part; rows = rows })
new_source b tables side part rows t lt e there is = record {
  side = lt;
  part = subst (λ (u : TableValue). part < length u.parts) (sym e) there;
  rows = is ∙ ap (λ (u : TableValue). length (slice_index_or u.parts part [])) (sym e);
}

-- the parts of a table that isn't the side's, and of one that is
pub side_none : (texts : List (List ℕ)) (b : Bound) (tables : List TableValue) (number side at : ℕ) → at ≡ slice_index_or b.tables side 0 → (at ≡ number → ⊥) → parts_of_side texts b tables number side ≡ []
side_none texts b tables number side at e ne =
    let no : Rattle.std.proofs.Common.eqb (slice_index_or b.tables side 0) number ≡ Rattle.std.proofs.Common.false = Rattle.std.proofs.lemmas.Bool.ne_eqb (slice_index_or b.tables side 0) number (λ q. ne (e ∙ q)) in
    rw no refl

pub side_all : (texts : List (List ℕ)) (b : Bound) (tables : List TableValue) (number side at : ℕ) (t : TableValue) → at ≡ slice_index_or b.tables side 0 → at ≡ number → number < length tables → t ≡ slice_index_or tables number t
    → (side_table b tables side ≡ t) × (map (part_of texts b side) t.parts ≡ parts_of_side texts b tables number side)
side_all texts b tables number side at t e q lt is =
    let n : slice_index_or b.tables side 0 ≡ number = sym e ∙ q in
    let found : table_at tables number ≡ t = Rattle.ch_parts.proofs.Tabled.same_item tables number Rattle.ch_parts.specs.Scanned.no_table t lt ∙ sym is in
    let yes : Rattle.std.proofs.Common.eqb (slice_index_or b.tables side 0) number ≡ Rattle.std.proofs.Common.true = Rattle.std.proofs.Common.eq-eqb (slice_index_or b.tables side 0) number n in
    (ap (table_at tables) n ∙ found, rw yes (ap (λ (u : TableValue). map (part_of texts b side) u.parts) (sym found)))

pub none_more : {X : Type 0} (xs ys : List X) → ys ≡ [] → xs ≡ xs ++ ys
none_more xs ys e = sym (append-nil xs) ∙ ap (λ zs. xs ++ zs) (sym e)
