-- All stages of the selected program.
use Rattle.std.proofs.Common.{◌≡◌, ◌<◌, ◌≤◌, ℕ, ◌+◌, Bool, true, false, List, [], ◌∷◌, ℤ, pos, refl, sym, ◌∙◌, ap, arith, subst, Option, Some, None, length, map}
use Rattle.std.specs.Option.{option_and_then, option_map}
use Rattle.ch_ir.specs.declared.program.Op.{Op}
use Rattle.ch_ir.specs.declared.program.Access.{Access}
use Rattle.ch_ir.specs.declared.program.Array.{Array}
use Rattle.ch_ir.specs.declared.program.Stage.{Stage}
use Rattle.ch_ir.specs.Machine.{Words, Registers, State, cells_of, exec_access, exec_accesses, exec_ops, exec_stage, exec_stages, is_set, put, read, truth}
use Rattle.ch_ir.specs.Rules.{entries_of}
use Rattle.ch_pack_laws.specs.declared.Seat.{Seat}
use Rattle.ch_pack_laws.specs.Packed.{guarded, moved_access, moved_op, moved_stages, only_ops}
use Rattle.ch_pack_laws.specs.Moved.{Both, assigned_other, assigned_same, mirror_between, both_then}
use Rattle.ch_pack_laws.specs.Rooms.{AccessRoom, AccessesRoom, StagesRoom}
use Rattle.ch_pack_laws.specs.Selected.{Alongside, Beside, Sits, access_follows, ops_follow, read_moved}

-- the arrays stand among all, from a base on
pub record AreAmong (all arrays : List Array) (base : ℕ) : Type 0 where
  pub cells : (a : ℕ) → a < length arrays → cells_of all (base + a) ≡ cells_of arrays a
  pub entries : (a : ℕ) → a < length arrays → entries_of all (base + a) ≡ entries_of arrays a

set_truth : (b : Bool) → is_set (truth b) ≡ b
set_truth true = refl
set_truth false = refl

-- an op in front of an access, in a stage of their own
alone : (all : List Array) (op : Op) (x : Access) (t : State) (to : ℕ) (v : ℤ) → option_map (put t.words to) (Some v) ≡ exec_ops (op ∷ []) t.words
    → exec_stage all (record { ops = op ∷ []; accesses = x ∷ [] }) t
    ≡ option_and_then (exec_accesses all []) (exec_access (cells_of all x.array) x (record { words = put t.words to v; registers = t.registers }))
alone all op x t to v e = rw (sym e) refl

guard_follows : (m : Seat) (front rest : Registers) (all arrays : List Array) (words low : ℕ) (before : Words) (guard : ℕ) (x : Access) (s t : State) (o : Option ℤ)
    → Sits m front low before → AreAmong all arrays m.base → low ≤ guard → guard < m.shift → m.width ≤ low → AccessRoom arrays m.width words x → Beside m front rest (length arrays) low before s t
    → read s.words x.guard ≡ o
    → Both (Beside m front rest (length arrays) low before) (exec_accesses arrays (x ∷ []) s) (exec_stage all (guarded m guard (x ∷ [])) t)
guard_follows m front rest all arrays words low before guard x s t None k among l h own room b e =
    let chosen : t.words m.chosen ≡ Some (pos 1) = b.along.kept m.chosen k.chosen_low ∙ k.chosen in
    rw (chosen, read_moved m s.words t.words x.guard b.along.mirrors, e) tt
guard_follows m front rest all arrays words low before guard x s t (Some v) k among l h own room b e =
    let S : State → State → Type 0 = Beside m front rest (length arrays) low before in
    let chosen : t.words m.chosen ≡ Some (pos 1) = b.along.kept m.chosen k.chosen_low ∙ k.chosen in
    let u : ℤ = truth (is_set v) in
    let t2 : State = record { words = put t.words guard u; registers = t.registers } in
    let shape : exec_stage all (guarded m guard (x ∷ [])) t ≡ option_and_then (exec_accesses all []) (exec_access (cells_of all (m.base + x.array)) (moved_access m guard x) t2) =
    rw (chosen, read_moved m s.words t.words x.guard b.along.mirrors, e) refl in
    let cells : cells_of all (m.base + x.array) ≡ cells_of arrays x.array = among.cells x.array room.there in
    let b2 : Beside m front rest (length arrays) low before s t2 = record {
      along = record {
        mirrors = mirror_between m s.words t.words guard u (omega arith) h b.along.mirrors;
        kept = λ w k. assigned_other t.words guard u w (omega arith) ∙ b.along.kept w k;
      };
      registers = b.registers;
      many_own = b.many_own;
    } in
    let goes = access_follows m front rest arrays words low before guard x s t2 (cells_of arrays x.array) v u k room b2 e (assigned_same t.words guard u guard refl) (set_truth (is_set v)) in
    let P : Option State → Type 0 = λ p. Both S (exec_accesses arrays (x ∷ []) s) p in
    subst P (sym (shape ∙ ap (λ (n : ℕ). option_and_then (exec_accesses all []) (exec_access n (moved_access m guard x) t2)) cells))
    (both_then S S (exec_access (cells_of arrays x.array) x s) (exec_access (cells_of arrays x.array) (moved_access m guard x) t2) (exec_accesses arrays []) (exec_accesses all []) goes (λ a c r. r))

accesses_follow : (m : Seat) (front rest : Registers) (all arrays : List Array) (words low : ℕ) (before : Words) (guard : ℕ) (xs : List Access) (s t : State)
    → Sits m front low before → AreAmong all arrays m.base → low ≤ guard → guard < m.shift → m.width ≤ low → AccessesRoom arrays m.width words xs → Beside m front rest (length arrays) low before s t
    → Both (Beside m front rest (length arrays) low before) (exec_accesses arrays xs s) (exec_stage all (guarded m guard xs) t)
accesses_follow m front rest all arrays words low before guard [] s t k among l h own room b = b
accesses_follow m front rest all arrays words low before guard (x ∷ []) s t k among l h own room b =
    guard_follows m front rest all arrays words low before guard x s t (read s.words x.guard) k among l h own room b refl
accesses_follow m front rest all arrays words low before guard (x ∷ y ∷ zs) s t k among l h own room b = elim room [ ]

-- a chain of one step beside a chain of two
two_steps : {A B C D E : Type 0} (R : A → B → Type 0) (S : C → E → Type 0) (o : Option A) (p : Option B) (f : A → Option C) (g : B → Option D) (h : D → Option E)
    → Both R o p → ((a : A) (b : B) → R a b → Both S (f a) (option_and_then h (g b))) → Both S (option_and_then f o) (option_and_then h (option_and_then g p))
two_steps R S None None f g h r k = tt
two_steps R S None (Some b) f g h r k = elim r [ ]
two_steps R S (Some a) None f g h r k = elim r [ ]
two_steps R S (Some a) (Some b) f g h r k = k a b r

pub then_assoc : {A B C : Type 0} (o : Option A) (f : A → Option B) (g : B → Option C) → option_and_then (λ a. option_and_then g (f a)) o ≡ option_and_then g (option_and_then f o)
then_assoc None f g = refl
then_assoc (Some a) f g = refl

stage_follows : (m : Seat) (front rest : Registers) (all arrays : List Array) (words low : ℕ) (before : Words) (guard : ℕ) (stage : Stage) (s t : State)
    → Sits m front low before → AreAmong all arrays m.base → low ≤ guard → guard < m.shift → m.width ≤ low → StagesRoom arrays m.width words (stage ∷ [])
    → Beside m front rest (length arrays) low before s t
    → Both (Beside m front rest (length arrays) low before) (exec_stage arrays stage s)
    (option_and_then (exec_stage all (guarded m guard stage.accesses)) (exec_stage all (only_ops (map (moved_op m) stage.ops)) t))
stage_follows m front rest all arrays words low before guard stage s t k among l h own room b =
    two_steps (Alongside m low before) (Beside m front rest (length arrays) low before)
    (exec_ops stage.ops s.words) (exec_ops (map (moved_op m) stage.ops) t.words)
    (λ ws. exec_accesses arrays stage.accesses (record { words = ws; registers = s.registers }))
    (λ vs. exec_accesses all [] (record { words = vs; registers = t.registers }))
    (exec_stage all (guarded m guard stage.accesses))
    (ops_follow m low words before s.words t.words stage.ops k.seat k.low_shift room.0.0 b.along)
    (λ ws vs r. accesses_follow m front rest all arrays words low before guard stage.accesses (record { words = ws; registers = s.registers }) (record { words = vs; registers = t.registers })
    k among l h own room.0.1 (record { along = r; registers = b.registers; many_own = b.many_own }))

pub stages_follow : (m : Seat) (front rest : Registers) (all arrays : List Array) (words low : ℕ) (before : Words) (guard : ℕ) (stages : List Stage) (s t : State)
    → Sits m front low before → AreAmong all arrays m.base → low ≤ guard → guard + length stages ≤ m.shift → m.width ≤ low → StagesRoom arrays m.width words stages
    → Beside m front rest (length arrays) low before s t
    → Both (Beside m front rest (length arrays) low before) (exec_stages arrays stages s) (exec_stages all (moved_stages m guard stages) t)
stages_follow m front rest all arrays words low before guard [] s t k among l h own room b = b
stages_follow m front rest all arrays words low before guard (stage ∷ stages) s t k among l h own room b =
    let S : State → State → Type 0 = Beside m front rest (length arrays) low before in
    let first : Stage = only_ops (map (moved_op m) stage.ops) in
    let second : Stage = guarded m guard stage.accesses in
    let others : List Stage = moved_stages m (guard + 1) stages in
    let P : Option State → Type 0 = λ p. Both S (exec_stages arrays (stage ∷ stages) s) p in
    subst P (sym (then_assoc (exec_stage all first t) (exec_stage all second) (exec_stages all others)))
    (both_then S S (exec_stage arrays stage s) (option_and_then (exec_stage all second) (exec_stage all first t)) (exec_stages arrays stages) (exec_stages all others)
    (stage_follows m front rest all arrays words low before guard stage s t k among l (omega arith) own (room.0, tt) b)
    (λ a c r. stages_follow m front rest all arrays words low before (guard + 1) stages a c k among (omega arith) (omega arith) own room.1 r))
