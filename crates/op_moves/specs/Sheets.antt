-- Arrays of entries of one cell, as functions of the array and the entry.
use Rattle.std.proofs.Common.{◌≡◌, ◌<◌, ℕ, zero, suc, ◌+◌, Bool, true, false, List, [], ◌∷◌, ◌++◌, ℤ, pos, inl, inr, refl, ◌∙◌, ap, ap₂, arith, Some, length, get_or, set, replicate, nat_eq}
use Rattle.std.specs.Prelude.{◌&&◌, if◌then◌else◌}
use Rattle.std.proofs.lemmas.Bool.{cases_eq, eq-eqb, ne_eqb, lt-ltb}
use Rattle.std.proofs.lemmas.List.{get_or_at, set_at, append_assoc, length_push}
use Rattle.ch_ir.specs.declared.program.Operand.TheVariants.{Word}
use Rattle.ch_ir.specs.declared.program.Test.TheVariants.{Always}
use Rattle.ch_ir.specs.declared.program.Update.{Update}
use Rattle.ch_ir.specs.declared.program.Update.TheVariants as update
use Rattle.ch_ir.specs.declared.program.Access.{Access}
use Rattle.ch_ir.specs.declared.program.Array.{Array}
use Rattle.ch_ir.specs.Machine.{Words, Registers, State, put, put_all, updated, exec_access, truth, cleared, cells_of}
use Rattle.ch_ir.specs.Rules.{entries_of}
use Rattle.op_moves.specs.Entries.{entries, entries_alike, entries_at, entries_length, entries_same, entries_set}
use Rattle.op_moves.specs.Moves.{Move, Reach, moves_made}
use Rattle.op_moves.specs.Values.{put_all_push, reached}

-- an access that always updates the one cell of an entry
abbrev pub cell_access : (array index guard : ℕ) → Update → (old : ℕ) → Access
cell_access array index guard u old = record { array = array; index = Word index; guard = Word guard; test = Always; key = []; yes = u ∷ []; no = update.Keep ∷ []; old = old; hit = old + 1 }

-- n entries of a cell each
abbrev pub sheet : ℕ → (ℕ → ℤ) → List (List ℤ)
sheet n f = entries n (λ c. f c ∷ [])

-- arrays from number i on
abbrev pub sheets : ℕ → ℕ → ℕ → (ℕ → ℕ → ℤ) → Registers
sheets zero i cells value = []
sheets (suc left) i cells value = sheet cells (value i) ∷ sheets left (i + 1) cells value

-- what an open row makes of the entries at its places
abbrev pub changed : Bool → (ℕ → ℕ) → (ℕ → ℤ) → (ℕ → ℕ → ℤ) → ℕ → ℕ → ℤ
changed bit at new value i c = if bit && nat_eq c (at i) then new i else value i c

one_cell : (c r : ℕ) (v x : ℤ) → (if nat_eq c r then v ∷ [] else x ∷ []) ≡ (if nat_eq c r then v else x) ∷ []
one_cell c r v x = elim (cases_eq c r) [
  | inl e ↦ rw (eq-eqb c r e) refl
  | inr e ↦ rw (ne_eqb c r e) refl
]

pub sheet_set : (n : ℕ) (f : ℕ → ℤ) (r : ℕ) (v : ℤ) → r < n → set (sheet n f) r (v ∷ []) ≡ sheet n (λ c. if nat_eq c r then v else f c)
sheet_set n f r v h =
    entries_set n (λ c. f c ∷ []) r (v ∷ []) h
    ∙ entries_same n (λ c. if nat_eq c r then v ∷ [] else f c ∷ []) (λ c. (if nat_eq c r then v else f c) ∷ []) (λ c k. one_cell c r v (f c))

pub sheet_same : (n : ℕ) (f g : ℕ → ℤ) → ((c : ℕ) → c < n → f c ≡ g c) → sheet n f ≡ sheet n g
sheet_same n f g h = entries_same n (λ c. f c ∷ []) (λ c. g c ∷ []) (λ c k. ap (λ (v : ℤ). v ∷ []) (h c k))

pub sheets_same : (left i cells : ℕ) (f g : ℕ → ℕ → ℤ) → ((j c : ℕ) → c < cells → f j c ≡ g j c) → sheets left i cells f ≡ sheets left i cells g
sheets_same zero i cells f g h = refl
sheets_same (suc left) i cells f g h = ap₂ (λ (first : List (List ℤ)) (rest : Registers). first ∷ rest) (sheet_same cells (f i) (g i) (h i)) (sheets_same left (i + 1) cells f g h)

pub sheets_cleared : (left i cells : ℕ) → sheets left i cells (λ j c. pos 0) ≡ cleared (replicate left (record { entries = cells; cells = 1 }))
sheets_cleared zero i cells = refl
sheets_cleared (suc left) i cells = ap₂ (λ (first : List (List ℤ)) (rest : Registers). first ∷ rest) (entries_alike cells (pos 0 ∷ [])) (sheets_cleared left (i + 1) cells)

-- the arrays by number
pub arrays_at : (left cells a : ℕ) (more : List Array) → a < left
    → (entries_of (replicate left (record { entries = cells; cells = 1 }) ++ more) a ≡ cells) × (cells_of (replicate left (record { entries = cells; cells = 1 }) ++ more) a ≡ 1)
arrays_at zero cells a more h = absurd (omega arith)
arrays_at (suc left) cells zero more h = (refl, refl)
arrays_at (suc left) cells (suc a) more h = arrays_at left cells a more (omega arith)

pub array_at : (left cells a : ℕ) → a < left
    → (entries_of (replicate left (record { entries = cells; cells = 1 })) a ≡ cells) × (cells_of (replicate left (record { entries = cells; cells = 1 })) a ≡ 1)
array_at zero cells a h = absurd (omega arith)
array_at (suc left) cells zero h = (refl, refl)
array_at (suc left) cells (suc a) h = array_at left cells a (omega arith)

-- the access at an entry r with the cell v, guarded by whether the row is open
pub cell_reached : (array index guard : ℕ) (u : Update) (old : ℕ) (ws : Words) (regs : Registers) (bit : Bool) (r : ℕ) (col : List (List ℤ)) (v new : ℤ)
    → ws guard ≡ Some (truth bit) → ws index ≡ Some (pos r) → get_or regs array [] ≡ col → get_or col r [] ≡ v ∷ [] → r < length col → updated ws u v ≡ Some new
    → exec_access 1 (cell_access array index guard u old) (record { words = ws; registers = regs })
    ≡ Some (record { words = put (put ws old (if bit then v else pos 0)) (old + 1) (truth bit); registers = if bit then set regs array (set col r (new ∷ [])) else regs })
cell_reached array index guard u old ws regs true r col v new eg ei ec ee lt eu = rw (eg, ei, ec, lt-ltb r (length col) lt, ec, ee, eu) refl
cell_reached array index guard u old ws regs false r col v new eg ei ec ee lt eu = rw eg refl

changed_same : (bit : Bool) (at : ℕ → ℕ) (new : ℕ → ℤ) (value : ℕ → ℕ → ℤ) (i cells : ℕ) → at i < cells
    → (if bit then set (sheet cells (value i)) (at i) (new i ∷ []) else sheet cells (value i)) ≡ sheet cells (changed bit at new value i)
changed_same true at new value i cells h = sheet_set cells (value i) (at i) (new i) h
changed_same false at new value i cells h = refl

pushed : (ws : Words) (to : ℕ) (vs : List ℤ) (a b : ℤ) (old : ℕ) → old ≡ to + length vs → put (put (put_all ws to vs) old a) (old + 1) b ≡ put_all ws to (vs ++ a ∷ b ∷ [])
pushed ws to vs a b old e =
    ap (λ (x : Words). put x (old + 1) b) (put_all_push ws to vs a old e)
    ∙ (put_all_push ws to (vs ++ a ∷ []) b (old + 1) (omega (arith, length_push vs a))
    ∙ ap (put_all ws to) (append_assoc vs (a ∷ []) (b ∷ [])))

chosen : (bit : Bool) (front : Registers) (col : List (List ℤ)) (rest : Registers) (made : List (List ℤ)) (i : ℕ) → length front ≡ i
    → (if bit then set (front ++ col ∷ rest) i made else front ++ col ∷ rest) ≡ front ++ (if bit then made else col) ∷ rest
chosen true front col rest made i lf = set_at front col rest made i lf
chosen false front col rest made i lf = refl

-- the access of array i, in the midst of moves: its next array is the one at the front of those that are left
pub cell_moved : (arrays : List Array) (index guard : ℕ) (u : Update) (moves : List Move) (ws : Words) (to : ℕ) (vs : List ℤ) (old : ℕ)
    (front rest : Registers) (i cells : ℕ) (value : ℕ → ℕ → ℤ) (bit : Bool) (at : ℕ → ℕ) (new : ℕ → ℤ)
    → cells_of arrays i ≡ 1 → length front ≡ i → at i < cells → old ≡ to + length vs
    → put_all ws to vs guard ≡ Some (truth bit) → put_all ws to vs index ≡ Some (pos (at i)) → updated (put_all ws to vs) u (value i (at i)) ≡ Some (new i)
    → moves_made arrays (Reach (cell_access i index guard u old) ∷ moves) (record { words = put_all ws to vs; registers = front ++ sheet cells (value i) ∷ rest })
    ≡ moves_made arrays moves (record { words = put_all ws to (vs ++ (if bit then value i (at i) else pos 0) ∷ truth bit ∷ []); registers = front ++ sheet cells (changed bit at new value i) ∷ rest })
cell_moved arrays index guard u moves ws to vs old front rest i cells value bit at new ce lf inside oe eg ei eu =
    let col : List (List ℤ) = sheet cells (value i) in
    let one = cell_reached i index guard u old (put_all ws to vs) (front ++ col ∷ rest) bit (at i) col (value i (at i)) (new i) eg ei
    (get_or_at front col rest [] i lf) (entries_at cells (λ c. value i c ∷ []) (at i) inside) (omega (arith, entries_length cells (λ c. value i c ∷ []))) eu in
    let kept : (if bit then set (front ++ col ∷ rest) i (set col (at i) (new i ∷ [])) else front ++ col ∷ rest) ≡ front ++ sheet cells (changed bit at new value i) ∷ rest =
    chosen bit front col rest (set col (at i) (new i ∷ [])) i lf ∙ ap (λ (x : List (List ℤ)). front ++ x ∷ rest) (changed_same bit at new value i cells inside) in
    let s : State = record { words = put_all ws to vs; registers = front ++ col ∷ rest } in
    let t : State = record {
      words = put (put (put_all ws to vs) old (if bit then value i (at i) else pos 0)) (old + 1) (truth bit);
      registers = if bit then set (front ++ col ∷ rest) i (set col (at i) (new i ∷ [])) else front ++ col ∷ rest;
    } in
    reached arrays (cell_access i index guard u old) moves s t (ap (λ (n : ℕ). exec_access n (cell_access i index guard u old) (record { words = put_all ws to vs; registers = front ++ col ∷ rest })) ce ∙ one)
    ∙ ap₂ (λ (w : Words) (r : Registers). moves_made arrays moves (record { words = w; registers = r })) (pushed ws to vs (if bit then value i (at i) else pos 0) (truth bit) old oe) kept
