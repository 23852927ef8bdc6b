-- A flat list of cells cut up: its shape, one entry, what a write to one entry makes of it, and all cells 0.
use Rattle.std.proofs.Common.{◌≡◌, ◌<◌, ◌≤◌, ℕ, zero, suc, ◌+◌, ◌*◌, ◌-◌, List, [], ◌∷◌, ◌++◌, ℤ, pos, refl, sym, ◌∙◌, ap, ap₂, arith, length, get_or, set, take, drop, replicate}
use Rattle.std.proofs.lemmas.List.{length-replicate, length-set, length-drop, drop-drop, take-replicate, drop-replicate, take-append-drop, take-set-le, drop-set-add, drop-set-lt, length-take-le}
use Rattle.std.proofs.Math.Nat.{mul-le-mul_right}
use Rattle.ch_ir.specs.declared.program.Array.{Array}
use Rattle.ch_ir.specs.Machine.{Registers, cells_of, cleared}
use Rattle.ch_ir.specs.Rules.{entries_of}
use Rattle.ch_verify.specs.Fits.{RegistersFit}
use Rattle.ch_verify.proofs.SoundAccess.{zeros_fit}
use Rattle.ch_pipe.specs.Total.{total_store}
use Rattle.ch_pipe.specs.Flat.{entries_in, cut, all_cells, bases_from, base_of, IsLaid}
use borrow.Rule.Slice.PartMut.{put_mid}

pub bases_at : (arrays : List Array) (a at d : ℕ) → a < length arrays → get_or (bases_from at arrays) a d ≡ at + base_of arrays a
bases_at [] a at d h = absurd (omega arith)
bases_at (x ∷ xs) zero at d h = omega arith
bases_at (x ∷ xs) (suc a) at d h = let e = bases_at xs a (at + x.entries * x.cells) d (omega arith) in omega arith

pub bases_many : (arrays : List Array) (at : ℕ) → length (bases_from at arrays) ≡ length arrays
bases_many [] at = refl
bases_many (x ∷ xs) at = ap suc (bases_many xs (at + x.entries * x.cells))

pub base_there : (arrays : List Array) (bases : List ℕ) (size a : ℕ) → IsLaid arrays bases size → a < length arrays → a < length bases
base_there arrays bases size a l h = let many = ap (λ (xs : List ℕ). length xs) l.bases_are ∙ bases_many arrays 0 in omega arith

pub base_is : (arrays : List Array) (bases : List ℕ) (size a d : ℕ) → IsLaid arrays bases size → a < length arrays → get_or bases a d ≡ base_of arrays a
base_is arrays bases size a d l h = ap (λ (xs : List ℕ). get_or xs a d) l.bases_are ∙ bases_at arrays a 0 d h ∙ omega arith

store_cons : (ys xs : List ℤ) (x : ℤ) (a : ℕ) → total_store (suc a) ys (x ∷ xs) ≡ x ∷ total_store a ys xs
store_cons [] xs x a = refl
store_cons (y ∷ ys) xs x a = let e : suc a + 1 ≡ suc (a + 1) = omega arith in rw e (store_cons ys (set xs a y) x (a + 1))

pub length_stored : (ys xs : List ℤ) (a : ℕ) → length (total_store a ys xs) ≡ length xs
length_stored [] xs a = refl
length_stored (y ∷ ys) xs a = length_stored ys (set xs a y) (a + 1) ∙ length-set xs a y

-- before, from the front on, and behind what is written

take_before : (ys xs : List ℤ) (n a : ℕ) → n ≤ a → take n (total_store a ys xs) ≡ take n xs
take_before [] xs n a h = refl
take_before (y ∷ ys) xs n a h = take_before ys (set xs a y) n (a + 1) (omega arith) ∙ take-set-le n xs a y h

drop_before : (ys xs : List ℤ) (n a : ℕ) → drop n (total_store (n + a) ys xs) ≡ total_store a ys (drop n xs)
drop_before [] xs n a = refl
drop_before (y ∷ ys) xs n a =
    let e : n + a + 1 ≡ n + (a + 1) = omega arith in
    rw e (drop_before ys (set xs (n + a) y) n (a + 1)) ∙ ap (total_store (a + 1) ys) (drop-set-add n xs a y)

drop_behind : (ys xs : List ℤ) (n a : ℕ) → a + length ys ≤ n → drop n (total_store a ys xs) ≡ drop n xs
drop_behind [] xs n a h = refl
drop_behind (y ∷ ys) xs n a h = drop_behind ys (set xs a y) n (a + 1) (omega arith) ∙ drop-set-lt n xs a y (omega arith)

take_front : (ys xs : List ℤ) (n : ℕ) → length ys ≡ n → n ≤ length xs → take n (total_store 0 ys xs) ≡ ys
take_front [] xs zero e h = refl
take_front [] xs (suc n) e h = absurd (omega arith)
take_front (y ∷ ys) xs zero e h = absurd (omega arith)
take_front (y ∷ ys) [] (suc n) e h = absurd (omega arith)
take_front (y ∷ ys) (x ∷ xs) (suc n) e h = ap (take (suc n)) (store_cons ys xs y 0) ∙ ap (λ (zs : List ℤ). y ∷ zs) (take_front ys xs n (omega arith) (omega arith))

-- what a write to a part of a slice leaves
pub stored : (ys xs : List ℤ) (a n : ℕ) → length ys ≡ n → a + n ≤ length xs → total_store a ys xs ≡ take a xs ++ (ys ++ drop n (drop a xs))
stored ys xs a n e h =
    let rest : List ℤ = drop a xs in
    let many = length-drop a xs in
    let zero_on : a + 0 ≡ a = omega arith in
    let behind : drop a (total_store a ys xs) ≡ total_store 0 ys rest = ap (λ (m : ℕ). drop a (total_store m ys xs)) (sym zero_on) ∙ drop_before ys xs a 0 in
    let front : take n (total_store 0 ys rest) ≡ ys = take_front ys rest n e (omega arith) in
    let back : drop n (total_store 0 ys rest) ≡ drop n rest = drop_behind ys rest n 0 (omega arith) in
    sym (take-append-drop a (total_store a ys xs))
    ∙ ap₂ (λ (p q : List ℤ). p ++ q) (take_before ys xs a a (omega arith)) (behind ∙ sym (take-append-drop n (total_store 0 ys rest)) ∙ ap₂ (λ (p q : List ℤ). p ++ q) front back)

pub written : (ys zs xs : List ℤ) (a n : ℕ) → zs ≡ ys → n ≡ length ys → a + length ys ≤ length xs → put_mid a n xs zs ≡ total_store a ys xs
written ys zs xs a n e m h = ap₂ (λ (ws : List ℤ) (k : ℕ). put_mid a k xs ws) e m ∙ sym (stored ys xs a (length ys) refl h)

pub length_part : (xs : List ℤ) (a n : ℕ) → a + n ≤ length xs → length (take n (drop a xs)) ≡ n
length_part xs a n h = let many = length-drop a xs in length-take-le n (drop a xs) (omega arith)

-- the entries of one array

entries_many : (n cells : ℕ) (flat : List ℤ) → length (entries_in n cells flat) ≡ n
entries_many zero cells flat = refl
entries_many (suc n) cells flat = ap suc (entries_many n cells (drop cells flat))

entries_at : (n cells : ℕ) (flat : List ℤ) (e : ℕ) → e < n → get_or (entries_in n cells flat) e [] ≡ take cells (drop (e * cells) flat)
entries_at zero cells flat e h = absurd (omega arith)
entries_at (suc n) cells flat zero h = let z : zero * cells ≡ 0 = omega arith in rw z refl
entries_at (suc n) cells flat (suc e) h =
    let z : cells + e * cells ≡ suc e * cells = omega arith in
    entries_at n cells (drop cells flat) e (omega arith) ∙ ap (take cells) (drop-drop (e * cells) cells flat ∙ ap (λ (m : ℕ). drop m flat) z)

entries_set : (n cells : ℕ) (flat new : List ℤ) (e : ℕ) → e < n → length new ≡ cells → n * cells ≤ length flat
    → entries_in n cells (total_store (e * cells) new flat) ≡ set (entries_in n cells flat) e new
entries_set zero cells flat new e h k l = absurd (omega arith)
entries_set (suc n) cells flat new zero h k l =
    let z : zero * cells ≡ 0 = omega arith in
    let at : total_store (zero * cells) new flat ≡ total_store 0 new flat = ap (λ (m : ℕ). total_store m new flat) z in
    ap₂ (λ (p : List ℤ) (q : List ℤ). p ∷ entries_in n cells q) (ap (take cells) at ∙ take_front new flat cells k (omega arith)) (ap (drop cells) at ∙ drop_behind new flat cells 0 (omega arith))
entries_set (suc n) cells flat new (suc e) h k l =
    let z : suc e * cells ≡ cells + e * cells = omega arith in
    let at : total_store (suc e * cells) new flat ≡ total_store (cells + e * cells) new flat = ap (λ (m : ℕ). total_store m new flat) z in
    let many = length-drop cells flat in
    ap₂ (λ (p : List ℤ) (q : List (List ℤ)). p ∷ q) (ap (take cells) at ∙ take_before new flat cells (cells + e * cells) (omega arith))
    (ap (entries_in n cells) (ap (drop cells) at ∙ drop_before new flat cells (e * cells)) ∙ entries_set n cells (drop cells flat) new e (omega arith) k (omega arith))

-- a write behind them
entries_kept : (n cells b : ℕ) (flat new : List ℤ) → entries_in n cells (total_store (n * cells + b) new flat) ≡ entries_in n cells flat
entries_kept zero cells b flat new = refl
entries_kept (suc n) cells b flat new =
    let z : suc n * cells + b ≡ cells + (n * cells + b) = omega arith in
    let at : total_store (suc n * cells + b) new flat ≡ total_store (cells + (n * cells + b)) new flat = ap (λ (m : ℕ). total_store m new flat) z in
    ap₂ (λ (p : List ℤ) (q : List (List ℤ)). p ∷ q) (ap (take cells) at ∙ take_before new flat cells (cells + (n * cells + b)) (omega arith))
    (ap (entries_in n cells) (ap (drop cells) at ∙ drop_before new flat cells (n * cells + b)) ∙ entries_kept n cells b (drop cells flat) new)

entries_zero : (n cells m : ℕ) → n * cells ≤ m → entries_in n cells (replicate m (pos 0)) ≡ replicate n (replicate cells (pos 0))
entries_zero zero cells m h = refl
entries_zero (suc n) cells m h =
    ap₂ (λ (p : List ℤ) (q : List (List ℤ)). p ∷ q) (take-replicate cells m (pos 0) (omega arith))
    (ap (entries_in n cells) (drop-replicate cells m (pos 0)) ∙ entries_zero n cells (m - cells) (omega arith))

-- all arrays

pub cut_count : (arrays : List Array) (flat : List ℤ) → length (cut arrays flat) ≡ length arrays
cut_count [] flat = refl
cut_count (x ∷ xs) flat = ap suc (cut_count xs (drop (x.entries * x.cells) flat))

pub cut_many : (arrays : List Array) (flat : List ℤ) (a : ℕ) → length (get_or (cut arrays flat) a []) ≡ entries_of arrays a
cut_many [] flat a = refl
cut_many (x ∷ xs) flat zero = entries_many x.entries x.cells flat
cut_many (x ∷ xs) flat (suc a) = cut_many xs (drop (x.entries * x.cells) flat) a

entry_inside : (n cells e : ℕ) → e < n → e * cells + cells ≤ n * cells
entry_inside n cells e h = let m = mul-le-mul_right {m = suc e} {n = n} cells (omega arith) in omega arith

-- each entry lies among the cells
pub inside : (arrays : List Array) (a e : ℕ) → e < entries_of arrays a → base_of arrays a + e * cells_of arrays a + cells_of arrays a ≤ all_cells arrays
inside [] a e h = absurd (omega arith)
inside (x ∷ xs) zero e h = let m = entry_inside x.entries x.cells e h in omega arith
inside (x ∷ xs) (suc a) e h = let m = inside xs a e h in omega arith

pub cut_at : (arrays : List Array) (flat : List ℤ) (a e : ℕ) → e < entries_of arrays a
    → get_or (get_or (cut arrays flat) a []) e [] ≡ take (cells_of arrays a) (drop (base_of arrays a + e * cells_of arrays a) flat)
cut_at [] flat a e h = absurd (omega arith)
cut_at (x ∷ xs) flat zero e h =
    let z : e * x.cells ≡ 0 + e * x.cells = omega arith in
    entries_at x.entries x.cells flat e h ∙ ap (λ (m : ℕ). take x.cells (drop m flat)) z
cut_at (x ∷ xs) flat (suc a) e h =
    let here : ℕ = x.entries * x.cells in
    let z : here + (base_of xs a + e * cells_of xs a) ≡ here + base_of xs a + e * cells_of xs a = omega arith in
    cut_at xs (drop here flat) a e h ∙ ap (take (cells_of xs a)) (drop-drop (base_of xs a + e * cells_of xs a) here flat ∙ ap (λ (m : ℕ). drop m flat) z)

-- what a write to one entry makes of the arrays
pub cut_set : (arrays : List Array) (flat new : List ℤ) (a e : ℕ) → e < entries_of arrays a → length new ≡ cells_of arrays a → all_cells arrays ≤ length flat
    → cut arrays (total_store (base_of arrays a + e * cells_of arrays a) new flat) ≡ set (cut arrays flat) a (set (get_or (cut arrays flat) a []) e new)
cut_set [] flat new a e h k l = absurd (omega arith)
cut_set (x ∷ xs) flat new zero e h k l =
    let m = entry_inside x.entries x.cells e h in
    let z : 0 + e * x.cells ≡ e * x.cells = omega arith in
    let at : total_store (0 + e * x.cells) new flat ≡ total_store (e * x.cells) new flat = ap (λ (i : ℕ). total_store i new flat) z in
    ap₂ (λ (p : List (List ℤ)) (q : List ℤ). p ∷ cut xs q) (ap (entries_in x.entries x.cells) at ∙ entries_set x.entries x.cells flat new e h k (omega arith))
    (ap (drop (x.entries * x.cells)) at ∙ drop_behind new flat (x.entries * x.cells) (e * x.cells) (omega arith))
cut_set (x ∷ xs) flat new (suc a) e h k l =
    let here : ℕ = x.entries * x.cells in
    let there : ℕ = base_of xs a + e * cells_of xs a in
    let many = length-drop here flat in
    let z : here + base_of xs a + e * cells_of xs a ≡ here + there = omega arith in
    let at : total_store (here + base_of xs a + e * cells_of xs a) new flat ≡ total_store (here + there) new flat = ap (λ (i : ℕ). total_store i new flat) z in
    ap₂ (λ (p : List (List ℤ)) (q : Registers). p ∷ q) (ap (entries_in x.entries x.cells) at ∙ entries_kept x.entries x.cells there flat new)
    (ap (cut xs) (ap (drop here) at ∙ drop_before new flat here there) ∙ cut_set xs (drop here flat) new a e h k (omega arith))

pub cut_zero : (arrays : List Array) (n : ℕ) → all_cells arrays ≤ n → cut arrays (replicate n (pos 0)) ≡ cleared arrays
cut_zero [] n h = refl
cut_zero (x ∷ xs) n h =
    ap₂ (λ (p : List (List ℤ)) (q : Registers). p ∷ q) (entries_zero x.entries x.cells n (omega arith))
    (ap (cut xs) (drop-replicate (x.entries * x.cells) n (pos 0)) ∙ cut_zero xs (n - x.entries * x.cells) (omega arith))

replicated : {A : Type 0} (n : ℕ) (x d : A) (i : ℕ) → i < n → get_or (replicate n x) i d ≡ x
replicated zero x d i h = absurd (omega arith)
replicated (suc n) x d zero h = refl
replicated (suc n) x d (suc i) h = replicated n x d i (omega arith)

cleared_count : (arrays : List Array) → length (cleared arrays) ≡ length arrays
cleared_count [] = refl
cleared_count (x ∷ xs) = ap suc (cleared_count xs)

cleared_many : (arrays : List Array) (a : ℕ) → length (get_or (cleared arrays) a []) ≡ entries_of arrays a
cleared_many [] a = refl
cleared_many (x ∷ xs) zero = length-replicate x.entries (replicate x.cells (pos 0))
cleared_many (x ∷ xs) (suc a) = cleared_many xs a

cleared_entry : (arrays : List Array) (a e : ℕ) → e < entries_of arrays a → get_or (get_or (cleared arrays) a []) e [] ≡ replicate (cells_of arrays a) (pos 0)
cleared_entry [] a e h = absurd (omega arith)
cleared_entry (x ∷ xs) zero e h = replicated x.entries (replicate x.cells (pos 0)) [] e h
cleared_entry (x ∷ xs) (suc a) e h = cleared_entry xs a e h

pub cleared_fit : (arrays : List Array) → RegistersFit arrays (cleared arrays)
cleared_fit arrays = record {
  count = cleared_count arrays;
  many = cleared_many arrays;
  wide = λ a e h. ap length (cleared_entry arrays a e h) ∙ length-replicate (cells_of arrays a) (pos 0);
  fits = λ a e h. rw (cleared_entry arrays a e h) (zeros_fit (cells_of arrays a));
}
