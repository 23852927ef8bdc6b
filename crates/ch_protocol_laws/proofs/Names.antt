-- The names of all rows, and the rows that they name.
use Rattle.std.proofs.Common.{◌≡◌, ℕ, zero, suc, ◌<◌, Bool, true, List, [], ◌∷◌, ◌++◌, map, flat_map, length, slice_index_or, refl, ap, sym, ◌∙◌, subst, arith, inl, inr}
use mathlib.Core.Path.{fun_ext}
use Rattle.ch_lists.specs.Members.{In, AreDifferent}
use Rattle.ch_lists.proofs.Members.{In-left, In-right, In-append, In-map, In-map_from, AreDifferent-append, AreDifferent-map}
use Rattle.ch_protocol.specs.Sets.{numbers_from}
use Rattle.ch_protocol.specs.Packets.{Name}
use Rattle.ch_protocol.specs.Machine.{no_row, Config, rows_of, row_at, size, workers, tables}
use Rattle.ch_cover.specs.Rows.{AreRows, Row}
use Rattle.ch_protocol.specs.Received.{all_rows}
use Rattle.ch_protocol.proofs.Lists.{In-numbers, In-numbers_from, AreDifferent-numbers}

abbrev pub name : ℕ → ℕ → ℕ → Name
name p w k = record { pass = p; worker = w; number = k }

unfoldable pub names_of : Config → ℕ → List Name
names_of c p = flat_map (λ w. map (name p w) (numbers_from 0 (size c w))) (numbers_from 0 (workers c))

In-flat_map : {X Y : Type 0} (f : X → List Y) (y : Y) (xs : List X) → In y (flat_map f xs) → (x : X) × In x xs × In y (f x)
In-flat_map f y [] h = absurd h
In-flat_map f y (x ∷ xs) h = elim (In-append y (f x) (flat_map f xs) h) [
  | inl i ↦ (x, inl refl, i)
  | inr i ↦ let r = In-flat_map f y xs i in (r.0, inr r.1, r.2)
]

In-flat_map_from : {X Y : Type 0} (f : X → List Y) (y : Y) (x : X) (xs : List X) → In x xs → In y (f x) → In y (flat_map f xs)
In-flat_map_from f y x [] h i = absurd h
In-flat_map_from {X} {Y} f y x (z ∷ xs) (inl e) i = In-left y (f z) (flat_map f xs) (subst (λ (u : X). In y (f u)) e i)
In-flat_map_from f y x (z ∷ xs) (inr h) i = In-right y (f z) (flat_map f xs) (In-flat_map_from f y x xs h i)

AreDifferent-flat_map : {X Y : Type 0} (f : X → List Y) (xs : List X) → ((x : X) → AreDifferent (f x)) → ((a b : X) (y : Y) → In y (f a) → In y (f b) → a ≡ b) → AreDifferent xs → AreDifferent (flat_map f xs)
AreDifferent-flat_map f [] each apart d = tt
AreDifferent-flat_map {X} f (x ∷ xs) each apart d = AreDifferent-append (f x) (flat_map f xs) (each x) (AreDifferent-flat_map f xs each apart d.1)
    (λ y h i. let r = In-flat_map f y xs i in d.0 (subst (λ (u : X). In u xs) (sym (apart x r.0 y h r.2)) r.1))

pub names-In : (c : Config) (p : ℕ) (x : Name) → In x (names_of c p) → (x.pass ≡ p) × (x.worker < workers c) × (x.number < size c x.worker)
unfolding names_of
names-In c p x h =
    let r = In-flat_map (λ w. map (name p w) (numbers_from 0 (size c w))) x (numbers_from 0 (workers c)) h in
    let q = In-map (name p r.0) x (numbers_from 0 (size c r.0)) r.2 in
    let w : x.worker ≡ r.0 = ap (λ (n : Name). n.worker) q.2 in
    let k : x.number ≡ q.0 = ap (λ (n : Name). n.number) q.2 in
    (ap (λ (n : Name). n.pass) q.2, omega (arith, In-numbers r.0 0 (workers c) r.1), omega (arith, In-numbers q.0 0 (size c r.0) q.1, ap (size c) w))

pub names-from : (c : Config) (p : ℕ) (x : Name) → x.pass ≡ p → x.worker < workers c → x.number < size c x.worker → In x (names_of c p)
unfolding names_of
names-from c p x e w k = In-flat_map_from (λ w. map (name p w) (numbers_from 0 (size c w))) x x.worker (numbers_from 0 (workers c))
    (In-numbers_from x.worker 0 (workers c) (omega arith) (omega arith))
    (subst (λ (n : Name). In n (map (name p x.worker) (numbers_from 0 (size c x.worker)))) (λ j. record { pass = (sym e) j; worker = x.worker; number = x.number })
    (In-map_from (name p x.worker) x.number (numbers_from 0 (size c x.worker)) (In-numbers_from x.number 0 (size c x.worker) (omega arith) (omega arith))))

pub names-different : (c : Config) (p : ℕ) → AreDifferent (names_of c p)
unfolding names_of
names-different c p = AreDifferent-flat_map (λ w. map (name p w) (numbers_from 0 (size c w))) (numbers_from 0 (workers c))
    (λ w. AreDifferent-map (name p w) (numbers_from 0 (size c w)) (λ a b e. ap (λ (n : Name). n.number) e) (AreDifferent-numbers 0 (size c w)))
    (λ a b y h i. sym (ap (λ (n : Name). n.worker) (In-map (name p a) y (numbers_from 0 (size c a)) h).2) ∙ ap (λ (n : Name). n.worker) (In-map (name p b) y (numbers_from 0 (size c b)) i).2)
    (AreDifferent-numbers 0 (workers c))

map-shifted : {X : Type 0} (f : ℕ → X) (from count : ℕ) → map f (numbers_from (suc from) count) ≡ map (λ k. f (suc k)) (numbers_from from count)
map-shifted f from zero = refl
map-shifted f from (suc count) = ap (λ xs. f (suc from) ∷ xs) (map-shifted f (suc from) count)

flat_map-shifted : {X : Type 0} (f : ℕ → List X) (from count : ℕ) → flat_map f (numbers_from (suc from) count) ≡ flat_map (λ k. f (suc k)) (numbers_from from count)
flat_map-shifted f from zero = refl
flat_map-shifted f from (suc count) = ap (λ xs. f (suc from) ++ xs) (flat_map-shifted f (suc from) count)

map-places : {X : Type 0} (xs : List X) (d : X) → map (λ k. slice_index_or xs k d) (numbers_from 0 (length xs)) ≡ xs
map-places [] d = refl
map-places (x ∷ xs) d = ap (λ ys. x ∷ ys) (map-shifted (λ k. slice_index_or (x ∷ xs) k d) 0 (length xs) ∙ map-places xs d)

flat_map-places : {X : Type 0} (xss : List (List X)) → flat_map (λ k. slice_index_or xss k []) (numbers_from 0 (length xss)) ≡ flat_map (λ xs. xs) xss
flat_map-places [] = refl
flat_map-places (xs ∷ xss) = ap (λ ys. xs ++ ys) (flat_map-shifted (λ k. slice_index_or (xs ∷ xss) k []) 0 (length xss) ∙ flat_map-places xss)

pub map-append : {X Y : Type 0} (f : X → Y) (xs ys : List X) → map f (xs ++ ys) ≡ map f xs ++ map f ys
map-append f [] ys = refl
map-append f (x ∷ xs) ys = ap (λ zs. f x ∷ zs) (map-append f xs ys)

pub map-map : {X Y Z : Type 0} (f : X → Y) (g : Y → Z) (xs : List X) → map g (map f xs) ≡ map (λ x. g (f x)) xs
map-map f g [] = refl
map-map f g (x ∷ xs) = ap (λ zs. g (f x) ∷ zs) (map-map f g xs)

map-flat_map : {X Y Z : Type 0} (f : X → List Y) (g : Y → Z) (xs : List X) → map g (flat_map f xs) ≡ flat_map (λ x. map g (f x)) xs
map-flat_map f g [] = refl
map-flat_map f g (x ∷ xs) = map-append g (f x) (flat_map f xs) ∙ ap (λ zs. map g (f x) ++ zs) (map-flat_map f g xs)

-- the names name all rows
pub names-rows : (c : Config) (p : ℕ) → map (row_at c) (names_of c p) ≡ all_rows c
unfolding names_of
names-rows c p =
    let each : (λ w. map (row_at c) (map (name p w) (numbers_from 0 (size c w)))) ≡ (λ w. rows_of c w) =
    fun_ext (λ w. map-map (name p w) (row_at c) (numbers_from 0 (size c w)) ∙ map-places (rows_of c w) no_row) in
    map-flat_map (λ w. map (name p w) (numbers_from 0 (size c w))) (row_at c) (numbers_from 0 (workers c))
    ∙ (ap (λ (f : ℕ → List Row). flat_map f (numbers_from 0 (workers c))) each ∙ flat_map-places (tables c))

-- each row that a name of a pass names is a row of the configuration
pub named_rows : (c : Config) (is_row : Row → Bool) (p : ℕ) → AreRows is_row (all_rows c) → (xs : List Name) → ((x : Name) → In x xs → In x (names_of c p)) → AreRows is_row (map (row_at c) xs)
named_rows c is_row p are xs within r h =
    let q = In-map (row_at c) r xs h in
    subst (λ (z : Row). is_row z ≡ true) (sym q.2)
    (are (row_at c q.0) (subst (λ (zs : List Row). In (row_at c q.0) zs) (names-rows c p) (In-map_from (row_at c) q.0 (names_of c p) (within q.0 q.1))))
