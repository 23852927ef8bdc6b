-- The stages of a program that isn't selected: they have a value, change no register, and assign only the program's own words.
use Rattle.std.proofs.Common.{◌≡◌, ◌≢◌, ◌<◌, ◌≤◌, ℕ, zero, suc, ◌+◌, Bool, true, false, List, [], ◌∷◌, ℤ, pos, refl, sym, ◌∙◌, ap, ap₂, arith, inl, inr, subst, Option, Some, None, length, map, is_some}
use Rattle.std.specs.Prelude.{if◌then◌else◌, replicate}
use Rattle.std.specs.Option.{option_and_then, option_map}
use Rattle.std.proofs.lemmas.Bool.{cases_eq}
use Rattle.ch_ir.specs.declared.program.Operand.{Operand}
use Rattle.ch_ir.specs.declared.program.Operand.TheVariants.{Word, Const}
use Rattle.ch_ir.specs.declared.program.Op.{Op}
use Rattle.ch_ir.specs.declared.program.Op.TheVariants.{Set, Two, Bit, Pick, Hash}
use Rattle.ch_ir.specs.declared.program.Access.{Access}
use Rattle.ch_ir.specs.declared.program.Array.{Array}
use Rattle.ch_ir.specs.declared.program.Stage.{Stage}
use Rattle.ch_ir.specs.Hash.{hash_of}
use Rattle.ch_ir.specs.Machine.{Words, Registers, State, bit_of, both, cells_of, cons_read, is_set, picked, two_of, exec_ops, exec_stage, exec_stages, op_to, op_value, put, put_all, read, read_words}
use Rattle.ch_ir.specs.Measure.{op_end}
use Rattle.ch_ir.specs.Rules.{Known, Used, accesses_refusal, after_access, after_accesses, after_old, after_ops, after_stage, after_stages, first_unknown, flag, learn, op_interval, operands_of, ops_refusal, stages_refusal, whole, with_arrays}
use Rattle.ch_ir.specs.declared.rules.Interval.{Interval}
use Rattle.ch_pack_laws.specs.declared.Seat.{Seat}
use Rattle.ch_pack_laws.specs.Packed.{guarded, moved_op, moved_operand, moved_stages, moved_word, only_ops}
use Rattle.ch_pack_laws.specs.Moved.{IsSeat, assigned_other, assigned_same, moved_apart, moved_high, moved_not}
use Rattle.ch_pack_laws.specs.Right.{access_right, op_right, or_none}
use Rattle.ch_pack_laws.specs.Rooms.{AccessRoom, AccessesRoom, OpsRoom, StagesRoom}
use Rattle.ch_pack_laws.specs.Selected.{op_to_moved}
use Rattle.ch_pack_laws.specs.SelectedStages.{AreAmong, then_assoc}

-- there is a value of which this holds
pub record Has {A : Type 0} (P : A → Type 0) (o : Option A) : Type 0 where
  pub value : A
  pub is : o ≡ Some value
  pub holds : P value

pub has_then : {A B : Type 0} (P : A → Type 0) (Q : B → Type 0) (o : Option A) (f : A → Option B) → Has P o → ((a : A) → P a → Has Q (f a)) → Has Q (option_and_then f o)
has_then P Q o f h k = let e = h.is in rw e (k h.value h.holds)

-- what is known has a value at the moved place
pub record Knows (m : Seat) (ks : Known) (vs : Words) : Type 0 where
  pub there : (w : ℕ) → is_some (ks w) ≡ true → is_some (vs (moved_word m w)) ≡ true

-- words below one number and from another on stay
pub record Between (low high : ℕ) (before vs : Words) : Type 0 where
  pub below : (w : ℕ) → w < low → vs w ≡ before w
  pub above : (w : ℕ) → high ≤ w → vs w ≡ before w

pub record Shut (m : Seat) (low high : ℕ) (before : Words) (ks : Known) (vs : Words) : Type 0 where
  pub knows : Knows m ks vs
  pub between : Between low high before vs

pub some_of : {A : Type 0} (o : Option A) → is_some o ≡ true → (a : A) × (o ≡ Some a)
some_of None h = cc
some_of (Some a) h = (a, refl)

some_is : {A : Type 0} (o : Option A) (a : A) → o ≡ Some a → is_some o ≡ true
some_is o a e = rw e refl

-- Ops read known words

abbrev pub KnownAt : Known → Operand → Type 0
KnownAt ks (Word w) = is_some (ks w) ≡ true
KnownAt ks (Const c) = Unit {0}

pub first_if : (b : Bool) (rest : Option ℕ) (w : ℕ) → (if b then rest else Some w) ≡ None → (b ≡ true) × (rest ≡ None)
first_if true rest w h = (refl, h)
first_if false rest w h = cc

pub peeled : (ks : Known) (a : Operand) (rest : List Operand) → first_unknown ks (a ∷ rest) ≡ None → KnownAt ks a × (first_unknown ks rest ≡ None)
peeled ks (Word w) rest h = first_if (is_some (ks w)) (first_unknown ks rest) w h
peeled ks (Const c) rest h = (tt, h)

read_has : (m : Seat) (ks : Known) (vs : Words) (a : Operand) → Knows m ks vs → KnownAt ks a → (v : ℤ) × (read vs (moved_operand m a) ≡ Some v)
read_has m ks vs (Word w) k h = some_of (vs (moved_word m w)) (k.there w h)
read_has m ks vs (Const c) k h = (c, refl)

abbrev pub IsThere : {A : Type 0} → Option A → Type 0
IsThere {A} o = (a : A) × (o ≡ Some a)

map_there : {A B : Type 0} (f : A → B) (o : Option A) → IsThere o → IsThere (option_map f o)
map_there f o (a, e) = (f a, ap (option_map f) e)

cons_there : (o : Option ℤ) (p : Option (List ℤ)) → IsThere o → IsThere p → IsThere (cons_read o p)
cons_there o p (a, e) (b, f) = (a ∷ b, ap₂ cons_read e f)

both_there : (f : ℤ → ℤ → ℤ) (o p : Option ℤ) → IsThere o → IsThere p → IsThere (both f o p)
both_there f o p (a, e) (b, g) = (f a b, ap₂ (both f) e g)

picked_there : (o p q : Option ℤ) → IsThere o → IsThere p → IsThere q → IsThere (picked o p q)
picked_there o p q (a, e) (b, f) (c, g) = ((if is_set a then b else c), ap (λ (x : Option ℤ). picked x p q) e ∙ ap₂ (picked (Some a)) f g)

words_have : (m : Seat) (ks : Known) (vs : Words) (words : List ℕ) → Knows m ks vs → first_unknown ks (map Word words) ≡ None → IsThere (read_words vs (map (moved_word m) words))
words_have m ks vs [] k h = ([], refl)
words_have m ks vs (w ∷ rest) k h =
    let p = peeled ks (Word w) (map Word rest) h in
    cons_there (vs (moved_word m w)) (read_words vs (map (moved_word m) rest)) (some_of (vs (moved_word m w)) (k.there w p.0)) (words_have m ks vs rest k p.1)

op_has : (m : Seat) (ks : Known) (vs : Words) (op : Op) → Knows m ks vs → first_unknown ks (operands_of op) ≡ None → IsThere (op_value vs (moved_op m op))
op_has m ks vs (Set to a) k h = read_has m ks vs a k (peeled ks a [] h).0
op_has m ks vs (Two to kind a b) k h =
    let p = peeled ks a (b ∷ []) h in
    let q = peeled ks b [] p.1 in
    both_there (two_of kind) (read vs (moved_operand m a)) (read vs (moved_operand m b)) (read_has m ks vs a k p.0) (read_has m ks vs b k q.0)
op_has m ks vs (Bit to a) k h = map_there bit_of (read vs (moved_operand m a)) (read_has m ks vs a k (peeled ks a [] h).0)
op_has m ks vs (Pick to a b c) k h =
    let p = peeled ks a (b ∷ c ∷ []) h in
    let q = peeled ks b (c ∷ []) p.1 in
    let r = peeled ks c [] q.1 in
    picked_there (read vs (moved_operand m a)) (read vs (moved_operand m b)) (read vs (moved_operand m c)) (read_has m ks vs a k p.0) (read_has m ks vs b k q.0) (read_has m ks vs c k r.0)
op_has m ks vs (Hash to seed modulus words) k h = map_there (λ (xs : List ℤ). pos (hash_of seed xs modulus)) (read_words vs (map (moved_word m) words)) (words_have m ks vs words k h)

learn_other : (ks : Known) (to : ℕ) (s : Interval) (w : ℕ) → w ≢ to → learn ks to s w ≡ ks w
learn_other ks to s w e = assigned_other ks to s w e

knows_next : (m : Seat) (ks : Known) (vs : Words) (to : ℕ) (s : Interval) (v : ℤ) → IsSeat m → Knows m ks vs → Knows m (learn ks to s) (put vs (moved_word m to) v)
knows_next m ks vs to s v k h = record {
  there = λ w e. elim (cases_eq w to) [
    | inl same ↦ some_is (put vs (moved_word m to) v (moved_word m w)) v (assigned_same vs (moved_word m to) v (moved_word m w) (ap (moved_word m) same))
    | inr other ↦ ap is_some (assigned_other vs (moved_word m to) v (moved_word m w) (moved_apart m w to k other)) ∙ h.there w (ap is_some (sym (learn_other ks to s w other)) ∙ e)
  ];
}

-- an assigned word of the program's own
shut_next : (m : Seat) (low high : ℕ) (before : Words) (ks : Known) (vs : Words) (to : ℕ) (s : Interval) (v : ℤ) → IsSeat m → low ≤ m.shift → m.width ≤ to → to + m.shift < high
    → Shut m low high before ks vs → Shut m low high before (learn ks to s) (put vs (moved_word m to) v)
shut_next m low high before ks vs to s v k l own room h =
    let e = moved_high m to own in
    record {
      knows = knows_next m ks vs to s v k h.knows;
      between = record {
        below = λ w x. assigned_other vs (moved_word m to) v w (omega arith) ∙ h.between.below w x;
        above = λ w x. assigned_other vs (moved_word m to) v w (omega arith) ∙ h.between.above w x;
      };
    }

ops_shut : (m : Seat) (stage low high words : ℕ) (before : Words) (ks : Known) (vs : Words) (ops : List Op) → IsSeat m → low ≤ m.shift → words + m.shift ≤ high → OpsRoom m.width words ops
    → ops_refusal stage ks ops ≡ None → Shut m low high before ks vs → Has (Shut m low high before (after_ops ops ks)) (exec_ops (map (moved_op m) ops) vs)
ops_shut m stage low high words before ks vs [] k l r room h s = record { value = vs; is = refl; holds = s }
ops_shut m stage low high words before ks vs (op ∷ ops) k l r room h s =
    let parts = or_none _ _ h in
    let right = op_right stage ks op parts.0 in
    let v = op_has m ks vs op s.knows right.reads in
    let within : op_end op ≤ words = room.0.within in
    let fits : op_to op + m.shift < high = omega arith in
    let next = shut_next m low high before ks vs (op_to op) (op_interval ks op) v.0 k l room.0.own fits s in
    let rest = ops_shut m stage low high words before (learn ks (op_to op) (op_interval ks op)) (put vs (moved_word m (op_to op)) v.0) ops k l r room.1 parts.1 next in
    rw (v.1, op_to_moved m op) rest

-- A shut access: its old words and hit are 0

shut_old : (m : Seat) (low high : ℕ) (before : Words) (ks : Known) (vs : Words) (to at n : ℕ) → IsSeat m → low ≤ m.shift → m.width ≤ to → at ≡ to + m.shift → to + n + m.shift ≤ high
    → Shut m low high before ks vs → Shut m low high before (after_old to n ks) (put_all vs at (replicate n (pos 0)))
shut_old m low high before ks vs to at zero k l own e r h = h
shut_old m low high before ks vs to at (suc n) k l own e r h =
    let here : moved_word m to ≡ at = moved_high m to own ∙ sym e in
    let P : ℕ → Type 0 = λ a. Shut m low high before (learn ks to whole) (put vs a (pos 0)) in
    shut_old m low high before (learn ks to whole) (put vs at (pos 0)) (to + 1) (at + 1) n k l (omega arith) (omega arith) (omega arith)
    (subst P here (shut_next m low high before ks vs to whole (pos 0) k l own (omega arith) h))

shut_access : (m : Seat) (low high words : ℕ) (before : Words) (arrays : List Array) (ks : Known) (vs : Words) (x : Access) → IsSeat m → low ≤ m.shift → words + m.shift ≤ high
    → AccessRoom arrays m.width words x → Shut m low high before ks vs
    → Shut m low high before (after_access arrays x ks) (put (put_all vs (moved_word m x.old) (replicate (cells_of arrays x.array) (pos 0))) (moved_word m x.hit) (pos 0))
shut_access m low high words before arrays ks vs x k l r room h =
    let n : ℕ = cells_of arrays x.array in
    let a = room.end_old in
    let b = room.end_hit in
    shut_next m low high before (after_old x.old n ks) (put_all vs (moved_word m x.old) (replicate n (pos 0))) x.hit flag (pos 0) k l room.own_hit (omega arith)
    (shut_old m low high before ks vs x.old (moved_word m x.old) n k l room.own_old (moved_high m x.old room.own_old) (omega arith) h)

-- a state whose registers are these
pub record ShutState (m : Seat) (low high : ℕ) (before : Words) (registers : Registers) (ks : Known) (t : State) : Type 0 where
  pub words : Shut m low high before ks t.words
  pub registers_same : t.registers ≡ registers

-- the guard is a word between
shut_guard : (m : Seat) (low high guard : ℕ) (before : Words) (ks : Known) (vs : Words) (v : ℤ) → m.width ≤ low → low ≤ guard → guard < m.shift → m.shift ≤ high
    → Shut m low high before ks vs → Shut m low high before ks (put vs guard v)
shut_guard m low high guard before ks vs v own l g r h = record {
  knows = record { there = λ w e. ap is_some (assigned_other vs guard v (moved_word m w) (moved_not m w guard (omega arith) g)) ∙ h.knows.there w e };
  between = record {
    below = λ w x. assigned_other vs guard v w (omega arith) ∙ h.between.below w x;
    above = λ w x. assigned_other vs guard v w (omega arith) ∙ h.between.above w x;
  };
}

-- what the seats of the programs that aren't selected have in common
pub record Waits (m : Seat) (low high words : ℕ) (before : Words) : Type 0 where
  pub seat : IsSeat m
  pub low_width : m.width ≤ low
  pub low_shift : low ≤ m.shift
  pub room : words + m.shift ≤ high
  pub chosen_low : m.chosen < low
  pub chosen : before m.chosen ≡ Some (pos 0)

accesses_shut : (m : Seat) (all arrays : List Array) (stage low high words guard : ℕ) (before : Words) (registers : Registers) (used : Used) (ks : Known) (xs : List Access) (t : State)
    → Waits m low high words before → AreAmong all arrays m.base → low ≤ guard → guard < m.shift → AccessesRoom arrays m.width words xs → accesses_refusal arrays stage used ks xs ≡ None
    → ShutState m low high before registers ks t → Has (ShutState m low high before registers (after_accesses arrays xs ks)) (exec_stage all (guarded m guard xs) t)
accesses_shut m all arrays stage low high words guard before registers used ks [] t k among l g room h s = record { value = t; is = refl; holds = s }
accesses_shut m all arrays stage low high words guard before registers used ks (x ∷ []) t k among l g room h s =
    let right = access_right arrays stage used ks x h in
    let operands = peeled ks x.index _ right.reads in
    let guards = peeled ks x.guard _ operands.1 in
    let v = read_has m ks t.words x.guard s.words.knows guards.0 in
    let chosen : t.words m.chosen ≡ Some (pos 0) = s.words.between.below m.chosen k.chosen_low ∙ k.chosen in
    let r : m.shift ≤ high = let e = k.room in omega arith in
    let w = k.low_width in
    let vs : Words = put t.words guard (pos 0) in
    let n : ℕ = cells_of arrays x.array in
    let here = among.cells x.array room.there in
    record {
      value = record { words = put (put_all vs (moved_word m x.old) (replicate n (pos 0))) (moved_word m x.hit) (pos 0); registers = t.registers };
      is = rw (chosen, v.1, assigned_same t.words guard (pos 0) guard refl, here) refl;
      holds = record {
        words = shut_access m low high words before arrays ks vs x k.seat k.low_shift k.room room (shut_guard m low high guard before ks t.words (pos 0) w l g r s.words);
        registers_same = s.registers_same;
      };
    }
accesses_shut m all arrays stage low high words guard before registers used ks (x ∷ y ∷ zs) t k among l g room h s = elim room [ ]

stage_shut : (m : Seat) (all arrays : List Array) (stage low high words guard : ℕ) (before : Words) (registers : Registers) (used : Used) (ks : Known) (st : Stage) (t : State)
    → Waits m low high words before → AreAmong all arrays m.base → low ≤ guard → guard < m.shift → StagesRoom arrays m.width words (st ∷ [])
    → ops_refusal stage ks st.ops ≡ None → accesses_refusal arrays stage used (after_ops st.ops ks) st.accesses ≡ None
    → ShutState m low high before registers ks t
    → Has (ShutState m low high before registers (after_stage arrays st ks)) (option_and_then (exec_stage all (guarded m guard st.accesses)) (exec_stage all (only_ops (map (moved_op m) st.ops)) t))
stage_shut m all arrays stage low high words guard before registers used ks st t k among l g room ho ha s =
    let first = ops_shut m stage low high words before ks t.words st.ops k.seat k.low_shift k.room room.0.0 ho s.words in
    let e = first.is in
    let u : State = record { words = first.value; registers = t.registers } in
    rw e (accesses_shut m all arrays stage low high words guard before registers used (after_ops st.ops ks) st.accesses u k among l g room.0.1 ha
    (record { words = first.holds; registers_same = s.registers_same }))

pub stages_shut : (m : Seat) (all arrays : List Array) (stage low high words guard : ℕ) (before : Words) (registers : Registers) (used : Used) (ks : Known) (stages : List Stage) (t : State)
    → Waits m low high words before → AreAmong all arrays m.base → low ≤ guard → guard + length stages ≤ m.shift → StagesRoom arrays m.width words stages
    → stages_refusal arrays stage used ks stages ≡ None → ShutState m low high before registers ks t
    → Has (ShutState m low high before registers (after_stages arrays stages ks)) (exec_stages all (moved_stages m guard stages) t)
stages_shut m all arrays stage low high words guard before registers used ks [] t k among l g room h s = record { value = t; is = refl; holds = s }
stages_shut m all arrays stage low high words guard before registers used ks (st ∷ stages) t k among l g room h s =
    let parts = or_none _ _ h in
    let pair = or_none _ _ parts.0 in
    let first : Stage = only_ops (map (moved_op m) st.ops) in
    let second : Stage = guarded m guard st.accesses in
    let others : List Stage = moved_stages m (guard + 1) stages in
    let near : guard < m.shift = omega (arith, g) in
    let far : guard + 1 + length stages ≤ m.shift = omega (arith, g) in
    let Q : State → Type 0 = ShutState m low high before registers (after_stages arrays (st ∷ stages) ks) in
    let P : Option State → Type 0 = λ p. Has Q p in
    subst P (sym (then_assoc (exec_stage all first t) (exec_stage all second) (exec_stages all others)))
    (has_then (ShutState m low high before registers (after_stage arrays st ks)) Q (option_and_then (exec_stage all second) (exec_stage all first t)) (exec_stages all others)
    (stage_shut m all arrays stage low high words guard before registers used ks st t k among l near (room.0, tt) pair.0 pair.1 s)
    (λ u r. stages_shut m all arrays (stage + 1) low high words (guard + 1) before registers (with_arrays used st.accesses) (after_stage arrays st ks) stages u k among (omega arith) far room.1 parts.1 r))
