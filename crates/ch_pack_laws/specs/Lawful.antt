-- The moved stages of a program that breaks no rule break none, among arrays and words of others.
use Rattle.std.proofs.Common.{◌≡◌, ◌<◌, ◌≤◌, ℕ, zero, suc, ◌+◌, true, false, List, [], ◌∷◌, ◌++◌, refl, sym, ◌∙◌, ap, ap₂, arith, inl, inr, subst, None, length, map, is_some}
use Rattle.std.proofs.lemmas.Bool.{cases_eq, eq-eqb, ne_eqb}
use Rattle.std.proofs.lemmas.List.{map-append, length-map}
use Rattle.ch_ir.specs.declared.program.Operand.{Operand}
use Rattle.ch_ir.specs.declared.program.Operand.TheVariants.{Word, Const}
use Rattle.ch_ir.specs.declared.program.Op.{Op}
use Rattle.ch_ir.specs.declared.program.Op.TheVariants.{Set, Two, Bit, Pick, Hash}
use Rattle.ch_ir.specs.declared.program.Binary.TheVariants as binary
use Rattle.ch_ir.specs.declared.program.Update.{Update}
use Rattle.ch_ir.specs.declared.program.Update.TheVariants as update
use Rattle.ch_ir.specs.declared.program.Access.{Access}
use Rattle.ch_ir.specs.declared.program.Array.{Array}
use Rattle.ch_ir.specs.declared.program.Stage.{Stage}
use Rattle.ch_ir.specs.declared.rules.Interval.{Interval}
use Rattle.ch_ir.specs.Machine.{cells_of, op_to}
use Rattle.ch_ir.specs.Measure.{op_end}
use Rattle.ch_ir.specs.Rules.{Known, Used, access_operands, access_refusal, accesses_refusal, after_access, after_accesses, after_old, after_ops, after_stage, after_stages, entries_of, first_unknown, flag, has_modulus, has_shape, hull, interval_of, learn, old_refusal, op_interval, op_refusal, operands_of, ops_refusal, range_refusal, reach_refusal, stage_refusal, stages_refusal, two_interval, update_operands, whole, with_array, with_arrays}
use Rattle.ch_pack_laws.specs.declared.Seat.{Seat}
use Rattle.ch_pack_laws.specs.Packed.{guarded, moved_access, moved_op, moved_operand, moved_stages, moved_update, moved_word, only_ops}
use Rattle.ch_pack_laws.specs.Moved.{IsSeat, Mirrors, assigned_other, assigned_same, mirror_between, mirror_put, moved_high}
use Rattle.ch_pack_laws.specs.Right.{access_right, needs_true, op_right, or_none, unless_false}
use Rattle.ch_pack_laws.specs.Rooms.{AccessRoom, AccessesRoom, OpsRoom, StagesRoom}
use Rattle.ch_pack_laws.specs.Selected.{op_to_moved}
use Rattle.ch_pack_laws.specs.SelectedStages.{AreAmong}
use Rattle.ch_pack_laws.specs.Shut.{KnownAt, first_if, peeled}

-- What is known of moved operands

interval_moved : (m : Seat) (ks js : Known) (a : Operand) → Mirrors m ks js → interval_of js (moved_operand m a) ≡ interval_of ks a
interval_moved m ks js (Word w) s = rw (s.same w) refl
interval_moved m ks js (Const c) s = refl

op_interval_moved : (m : Seat) (ks js : Known) (op : Op) → Mirrors m ks js → op_interval js (moved_op m op) ≡ op_interval ks op
op_interval_moved m ks js (Set to a) s = interval_moved m ks js a s
op_interval_moved m ks js (Two to kind a b) s = ap₂ (two_interval kind) (interval_moved m ks js a s) (interval_moved m ks js b s)
op_interval_moved m ks js (Bit to a) s = refl
op_interval_moved m ks js (Pick to a b c) s = ap₂ hull (interval_moved m ks js b s) (interval_moved m ks js c s)
op_interval_moved m ks js (Hash to seed modulus words) s = refl

first_moved : (m : Seat) (ks js : Known) (operands : List Operand) → Mirrors m ks js → first_unknown ks operands ≡ None → first_unknown js (map (moved_operand m) operands) ≡ None
first_moved m ks js [] s h = refl
first_moved m ks js (Word w ∷ rest) s h =
    let p = first_if (is_some (ks w)) (first_unknown ks rest) w h in
    let k : is_some (js (moved_word m w)) ≡ true = ap is_some (s.same w) ∙ p.0 in
    rw k (first_moved m ks js rest s p.1)
first_moved m ks js (Const c ∷ rest) s h = first_moved m ks js rest s h

word_operands : (m : Seat) (words : List ℕ) → map Word (map (moved_word m) words) ≡ map (moved_operand m) (map Word words)
word_operands m [] = refl
word_operands m (w ∷ rest) = ap (λ (xs : List Operand). Word (moved_word m w) ∷ xs) (word_operands m rest)

pub operands_moved : (m : Seat) (op : Op) → operands_of (moved_op m op) ≡ map (moved_operand m) (operands_of op)
operands_moved m (Set to a) = refl
operands_moved m (Two to kind a b) = refl
operands_moved m (Bit to a) = refl
operands_moved m (Pick to a b c) = refl
operands_moved m (Hash to seed modulus words) = word_operands m words

modulus_moved : (m : Seat) (op : Op) → has_modulus (moved_op m op) ≡ has_modulus op
modulus_moved m (Set to a) = refl
modulus_moved m (Two to kind a b) = refl
modulus_moved m (Bit to a) = refl
modulus_moved m (Pick to a b c) = refl
modulus_moved m (Hash to seed modulus words) = refl

pub updates_moved : (m : Seat) (us : List Update) → update_operands (map (moved_update m) us) ≡ map (moved_operand m) (update_operands us)
updates_moved m [] = refl
updates_moved m (update.Keep ∷ us) = updates_moved m us
updates_moved m (update.Put a ∷ us) = ap (λ (xs : List Operand). moved_operand m a ∷ xs) (updates_moved m us)
updates_moved m (update.AddSat a ∷ us) = ap (λ (xs : List Operand). moved_operand m a ∷ xs) (updates_moved m us)
updates_moved m (update.Min a ∷ us) = ap (λ (xs : List Operand). moved_operand m a ∷ xs) (updates_moved m us)
updates_moved m (update.Max a ∷ us) = ap (λ (xs : List Operand). moved_operand m a ∷ xs) (updates_moved m us)
updates_moved m (update.Or a ∷ us) = ap (λ (xs : List Operand). moved_operand m a ∷ xs) (updates_moved m us)

-- Known words of the program and of others: those below one number stay, those from another on are not known, nor are the
-- guards that are to come

pub record Beneath (m : Seat) (low guard high : ℕ) (before ks js : Known) : Type 0 where
  pub mirrors : Mirrors m ks js
  pub below : (w : ℕ) → w < low → js w ≡ before w
  pub guards : (w : ℕ) → guard ≤ w → w < m.shift → js w ≡ None
  pub above : (w : ℕ) → high ≤ w → js w ≡ None

learned : (m : Seat) (low guard high : ℕ) (before ks js : Known) (to : ℕ) (s : Interval) → IsSeat m → low ≤ m.shift → m.width ≤ to → to + m.shift < high
    → Beneath m low guard high before ks js → Beneath m low guard high before (learn ks to s) (learn js (moved_word m to) s)
learned m low guard high before ks js to s k l own room h =
    let e = moved_high m to own in
    record {
      mirrors = mirror_put m ks js to s k h.mirrors;
      below = λ w x. assigned_other js (moved_word m to) s w (omega arith) ∙ h.below w x;
      guards = λ w x y. assigned_other js (moved_word m to) s w (omega arith) ∙ h.guards w x y;
      above = λ w x. assigned_other js (moved_word m to) s w (omega arith) ∙ h.above w x;
    }

pub record OpsLawful (m : Seat) (low guard high : ℕ) (before ks js : Known) (ops : List Op) : Type 0 where
  pub refusal : (stage : ℕ) → ops_refusal stage js (map (moved_op m) ops) ≡ None
  pub known : Beneath m low guard high before (after_ops ops ks) (after_ops (map (moved_op m) ops) js)

op_lawful : (m : Seat) (stage to : ℕ) (ks js : Known) (op : Op) → Mirrors m ks js → op_refusal stage ks op ≡ None → op_refusal to js (moved_op m op) ≡ None
op_lawful m stage to ks js op s h =
    let right = op_right stage ks op h in
    let reads : first_unknown js (operands_of (moved_op m op)) ≡ None = ap (first_unknown js) (operands_moved m op) ∙ first_moved m ks js (operands_of op) s right.reads in
    let fresh : is_some (js (op_to (moved_op m op))) ≡ false = ap (λ (w : ℕ). is_some (js w)) (op_to_moved m op) ∙ (ap is_some (s.same (op_to op)) ∙ right.fresh) in
    rw (modulus_moved m op ∙ right.modulus, reads, fresh) refl

ops_lawful : (m : Seat) (stage low guard high words : ℕ) (before ks js : Known) (ops : List Op) → IsSeat m → low ≤ m.shift → words + m.shift ≤ high → OpsRoom m.width words ops
    → ops_refusal stage ks ops ≡ None → Beneath m low guard high before ks js → OpsLawful m low guard high before ks js ops
ops_lawful m stage low guard high words before ks js [] k l r room h s = record { refusal = λ n. refl; known = s }
ops_lawful m stage low guard high words before ks js (op ∷ ops) k l r room h s =
    let parts = or_none _ _ h in
    let within : op_end op ≤ words = room.0.within in
    let fits : op_to op + m.shift < high = omega arith in
    let j : Known = learn js (moved_word m (op_to op)) (op_interval ks op) in
    let same : learn js (op_to (moved_op m op)) (op_interval js (moved_op m op)) ≡ j = ap₂ (learn js) (op_to_moved m op) (op_interval_moved m ks js op s.mirrors) in
    let rest = ops_lawful m stage low guard high words before (learn ks (op_to op) (op_interval ks op)) j ops k l r room.1 parts.1
    (learned m low guard high before ks js (op_to op) (op_interval ks op) k l room.0.own fits s) in
    record {
      refusal = λ n.
          let first = op_lawful m stage n ks js op s.mirrors parts.0 in
          let P : Known → Type 0 = λ x. ops_refusal n x (map (moved_op m) ops) ≡ None in
          let second = subst P (sym same) (rest.refusal n) in
          rw first second;
      known =
          let P : Known → Type 0 = λ x. Beneath m low guard high before (after_ops (op ∷ ops) ks) (after_ops (map (moved_op m) ops) x) in
          subst P (sym same) rest.known;
    }

-- Old words

pub record OldLawful (m : Seat) (low guard high : ℕ) (before ks js : Known) (to at n : ℕ) : Type 0 where
  pub refusal : (stage : ℕ) → old_refusal stage at n js ≡ None
  pub known : Beneath m low guard high before (after_old to n ks) (after_old at n js)

old_lawful : (m : Seat) (stage low guard high to at n : ℕ) (before ks js : Known) → IsSeat m → low ≤ m.shift → m.width ≤ to → at ≡ to + m.shift → to + n + m.shift ≤ high
    → old_refusal stage to n ks ≡ None → Beneath m low guard high before ks js → OldLawful m low guard high before ks js to at n
old_lawful m stage low guard high to at zero before ks js k l own e r h s = record { refusal = λ x. refl; known = s }
old_lawful m stage low guard high to at (suc n) before ks js k l own e r h s =
    let parts = or_none _ _ h in
    let here : moved_word m to ≡ at = moved_high m to own ∙ sym e in
    let fresh : is_some (js at) ≡ false = ap (λ (w : ℕ). is_some (js w)) (sym here) ∙ (ap is_some (s.mirrors.same to) ∙ unless_false _ _ parts.0) in
    let P : ℕ → Type 0 = λ a. Beneath m low guard high before (learn ks to whole) (learn js a whole) in
    let next = subst P here (learned m low guard high before ks js to whole k l own (omega arith) s) in
    let rest = old_lawful m stage low guard high (to + 1) (at + 1) n before (learn ks to whole) (learn js at whole) k l (omega arith) (omega arith) (omega arith) parts.1 next in
    record { refusal = λ x. let second = rest.refusal x in rw fresh second; known = rest.known }

-- Used arrays

pub record UsedAmong (base many : ℕ) (used taken : Used) : Type 0 where
  pub same : (a : ℕ) → taken (base + a) ≡ used a
  pub later : (b : ℕ) → base + many ≤ b → taken b ≡ false

used_next : (base many a : ℕ) (used taken : Used) → a < many → UsedAmong base many used taken → UsedAmong base many (with_array used a) (with_array taken (base + a))
used_next base many a used taken h u = record {
  same = λ b. elim (cases_eq b a) [
    | inl e ↦ rw (eq-eqb b a e, eq-eqb (base + b) (base + a) (omega arith)) refl
    | inr e ↦ rw (ne_eqb b a e, ne_eqb (base + b) (base + a) (λ x. e (omega arith))) (u.same b)
  ];
  later = λ b l. rw (ne_eqb b (base + a) (omega arith)) (u.later b l);
}

-- The stage of an access

pub record Orders (m : Seat) (low high words : ℕ) (before : Known) : Type 0 where
  pub seat : IsSeat m
  pub low_width : m.width ≤ low
  pub low_shift : low ≤ m.shift
  pub room : words + m.shift ≤ high
  pub chosen_low : m.chosen < low
  pub chosen : is_some (before m.chosen) ≡ true

pub record StageLawful (m : Seat) (all : List Array) (low guard high many : ℕ) (before ks js : Known) (used taken : Used) (stage : Stage) : Type 0 where
  pub refusal : (n : ℕ) → stage_refusal all n taken js stage ≡ None
  pub known : Beneath m low guard high before ks (after_stage all stage js)
  pub arrays : UsedAmong m.base many used (with_arrays taken stage.accesses)

-- a known guard between
guard_learned : (m : Seat) (low guard high : ℕ) (before ks js : Known) (s : Interval) → m.width ≤ low → low ≤ guard → guard < m.shift → m.shift ≤ high
    → Beneath m low guard high before ks js → Beneath m low (guard + 1) high before ks (learn js guard s)
guard_learned m low guard high before ks js s own l g r h = record {
  mirrors = mirror_between m ks js guard s (omega arith) g h.mirrors;
  below = λ w x. assigned_other js guard s w (omega arith) ∙ h.below w x;
  guards = λ w x y. assigned_other js guard s w (omega arith) ∙ h.guards w (omega arith) y;
  above = λ w x. assigned_other js guard s w (omega arith) ∙ h.above w x;
}

shape_moved : (m : Seat) (all arrays : List Array) (guard : ℕ) (x : Access) → cells_of all (m.base + x.array) ≡ cells_of arrays x.array → entries_of all (m.base + x.array) ≡ entries_of arrays x.array
    → has_shape all (moved_access m guard x) ≡ has_shape arrays x
shape_moved m all arrays guard x ec ee = rw (ec, ee, length-map x.yes (moved_update m), length-map x.no (moved_update m), length-map x.key (moved_operand m)) refl

known_first : (ks : Known) (w : ℕ) (rest : List Operand) → is_some (ks w) ≡ true → first_unknown ks rest ≡ None → first_unknown ks (Word w ∷ rest) ≡ None
known_first ks w rest a b = rw a b

-- what the moved access reads: a known guard in the place of the other
reads_moved : (m : Seat) (guard : ℕ) (x : Access) (ks js : Known) → Mirrors m ks js → is_some (js guard) ≡ true → first_unknown ks (access_operands x) ≡ None → first_unknown js (access_operands (moved_access m guard x)) ≡ None
reads_moved m guard x ks js s g h =
    let operands : List Operand = x.key ++ (update_operands x.yes ++ update_operands x.no) in
    let index = peeled ks x.index (x.guard ∷ operands) h in
    let rest = peeled ks x.guard operands index.1 in
    let lists : map (moved_operand m) x.key ++ (update_operands (map (moved_update m) x.yes) ++ update_operands (map (moved_update m) x.no)) ≡ map (moved_operand m) operands =
    rw (updates_moved m x.yes, updates_moved m x.no, map-append (moved_operand m) x.key (update_operands x.yes ++ update_operands x.no), map-append (moved_operand m) (update_operands x.yes) (update_operands x.no)) refl in
    let tail : first_unknown js (map (moved_operand m) operands) ≡ None = first_moved m ks js operands s rest.1 in
    let after : first_unknown js (Word guard ∷ map (moved_operand m) operands) ≡ None = known_first js guard (map (moved_operand m) operands) g tail in
    let P : List Operand → Type 0 = λ xs. first_unknown js (moved_operand m x.index ∷ Word guard ∷ xs) ≡ None in
    subst P (sym lists) (first_of_two m ks js x.index (Word guard ∷ map (moved_operand m) operands) s index.0 after)
  where
    first_of_two : (m : Seat) (ks js : Known) (a : Operand) (rest : List Operand) → Mirrors m ks js → KnownAt ks a → first_unknown js rest ≡ None → first_unknown js (moved_operand m a ∷ rest) ≡ None
    first_of_two m ks js (Word w) rest s k h = known_first js (moved_word m w) rest (ap is_some (s.same w) ∙ k) h
    first_of_two m ks js (Const c) rest s k h = h

-- a word of a list of stages
abbrev pub taken_by : Used → List Stage → Used
taken_by used [] = used
taken_by used (t ∷ ts) = taken_by (with_arrays used t.accesses) ts

op_between : (m : Seat) (n : ℕ) (js : Known) (ks : Known) (guard : ℕ) (a : Operand) → is_some (js m.chosen) ≡ true → js guard ≡ None → Mirrors m ks js → KnownAt ks a
    → op_refusal n js (Two guard binary.And (Word m.chosen) (moved_operand m a)) ≡ None
op_between m n js ks guard (Word w) c g s k =
    let here : is_some (js (moved_word m w)) ≡ true = ap is_some (s.same w) ∙ k in
    let free : is_some (js guard) ≡ false = ap is_some g in
    rw (c, here, free) refl
op_between m n js ks guard (Const v) c g s k = let free : is_some (js guard) ≡ false = ap is_some g in rw (c, free) refl

-- an access with its guard in front
access_lawful : (m : Seat) (all arrays : List Array) (stage low guard high words : ℕ) (before ks js : Known) (used taken : Used) (x : Access) → Orders m low high words before → AreAmong all arrays m.base
    → low ≤ guard → guard < m.shift → AccessRoom arrays m.width words x → access_refusal arrays stage used ks x ≡ None → Beneath m low guard high before ks js → UsedAmong m.base (length arrays) used taken
    → StageLawful m all low (guard + 1) high (length arrays) before (after_access arrays x ks) js (with_array used x.array) taken (guarded m guard (x ∷ []))
access_lawful m all arrays stage low guard high words before ks js used taken x o among l g room h s u =
    let right = access_right arrays stage used ks x h in
    let operands = peeled ks x.index (x.guard ∷ x.key ++ (update_operands x.yes ++ update_operands x.no)) right.reads in
    let guards = peeled ks x.guard (x.key ++ (update_operands x.yes ++ update_operands x.no)) operands.1 in
    let chosen : is_some (js m.chosen) ≡ true = ap is_some (s.below m.chosen o.chosen_low) ∙ o.chosen in
    let free : js guard ≡ None = s.guards guard (omega arith) g in
    let j : Known = learn js guard flag in
    let high_room : m.shift ≤ high = let e = o.room in omega arith in
    let s1 = guard_learned m low guard high before ks js flag o.low_width l g high_room s in
    let n : ℕ = cells_of arrays x.array in
    let ec : cells_of all (m.base + x.array) ≡ n = among.cells x.array room.there in
    let ee : entries_of all (m.base + x.array) ≡ entries_of arrays x.array = among.entries x.array room.there in
    let unused : taken (m.base + x.array) ≡ false = u.same x.array ∙ right.unused in
    let shape : has_shape all (moved_access m guard x) ≡ true = shape_moved m all arrays guard x ec ee ∙ right.shape in
    let known_guard : is_some (j guard) ≡ true = ap is_some (assigned_same js guard flag guard refl) in
    let reads = reads_moved m guard x ks j s1.mirrors known_guard right.reads in
    let interval : interval_of j (moved_operand m x.index) ≡ interval_of ks x.index = interval_moved m ks j x.index s1.mirrors in
    let a = room.end_old in
    let b = room.end_hit in
    let r = o.room in
    let olds = old_lawful m stage low (guard + 1) high x.old (moved_word m x.old) n before ks j o.seat o.low_shift room.own_old (moved_high m x.old room.own_old) (omega arith) right.olds s1 in
    let hit : is_some (after_old (moved_word m x.old) n j (moved_word m x.hit)) ≡ false = ap is_some (olds.known.mirrors.same x.hit) ∙ right.hit in
    let last = learned m low (guard + 1) high before (after_old x.old n ks) (after_old (moved_word m x.old) n j) x.hit flag o.seat o.low_shift room.own_hit (omega arith) olds.known in
    let P : ℕ → Type 0 = λ c. Beneath m low (guard + 1) high before (after_access arrays x ks) (learn (after_old (moved_word m x.old) c j) (moved_word m x.hit) flag) in
    record {
      refusal = λ k.
          let first : op_refusal k js (Two guard binary.And (Word m.chosen) (moved_operand m x.guard)) ≡ None = op_between m k js ks guard x.guard chosen free s.mirrors guards.0 in
          let range : range_refusal k (interval_of j (moved_operand m x.index)) (entries_of all (m.base + x.array)) ≡ None = range_same k stage (interval_of ks x.index) (entries_of arrays x.array) (interval_of j (moved_operand m x.index)) (entries_of all (m.base + x.array)) interval ee right.range in
          let reach = reach_none all k taken j (moved_access m guard x) unused shape reads range in
          let olds_none : old_refusal k (moved_word m x.old) (cells_of all (m.base + x.array)) j ≡ None = ap (λ (c : ℕ). old_refusal k (moved_word m x.old) c j) ec ∙ olds.refusal k in
          let hit_none : is_some (after_old (moved_word m x.old) (cells_of all (m.base + x.array)) j (moved_word m x.hit)) ≡ false = ap (λ (c : ℕ). is_some (after_old (moved_word m x.old) c j (moved_word m x.hit))) ec ∙ hit in
          rw (first, reach, olds_none, hit_none) refl;
      known = subst P (sym ec) last;
      arrays = used_next m.base (length arrays) x.array used taken room.there u;
    }
  where
    range_same : (k stage : ℕ) (i : Interval) (len : ℕ) (i' : Interval) (len' : ℕ) → i' ≡ i → len' ≡ len → range_refusal stage i len ≡ None → range_refusal k i' len' ≡ None
    range_same k stage i len i' len' e f h = let t = needs_true _ _ h in rw (e, f, t) refl

    reach_none : (all : List Array) (k : ℕ) (taken : Used) (j : Known) (y : Access) → taken y.array ≡ false → has_shape all y ≡ true → first_unknown j (access_operands y) ≡ None
        → range_refusal k (interval_of j y.index) (entries_of all y.array) ≡ None → reach_refusal all k taken j y ≡ None
    reach_none all k taken j y a b c d = rw (a, b, c, d) refl

accesses_lawful : (m : Seat) (all arrays : List Array) (stage low guard high words : ℕ) (before ks js : Known) (used taken : Used) (xs : List Access) → Orders m low high words before → AreAmong all arrays m.base
    → low ≤ guard → guard < m.shift → AccessesRoom arrays m.width words xs → accesses_refusal arrays stage used ks xs ≡ None → Beneath m low guard high before ks js → UsedAmong m.base (length arrays) used taken
    → StageLawful m all low (guard + 1) high (length arrays) before (after_accesses arrays xs ks) js (with_arrays used xs) taken (guarded m guard xs)
accesses_lawful m all arrays stage low guard high words before ks js used taken [] o among l g room h s u = record {
  refusal = λ k. refl;
  known = record { mirrors = s.mirrors; below = s.below; guards = λ w x y. s.guards w (omega arith) y; above = s.above };
  arrays = u;
}
accesses_lawful m all arrays stage low guard high words before ks js used taken (x ∷ []) o among l g room h s u =
    access_lawful m all arrays stage low guard high words before ks js used taken x o among l g room h s u
accesses_lawful m all arrays stage low guard high words before ks js used taken (x ∷ y ∷ zs) o among l g room h s u = elim room [ ]

-- Stages that keep the rules wherever they stand

pub record Lawful (m : Seat) (all : List Array) (low guard high many : ℕ) (before ks js : Known) (used taken : Used) (stages : List Stage) : Type 0 where
  pub refusal : (n : ℕ) → stages_refusal all n taken js stages ≡ None
  pub known : Beneath m low guard high before ks (after_stages all stages js)
  pub arrays : UsedAmong m.base many used (taken_by taken stages)

two_stages : (all : List Array) (n : ℕ) (taken : Used) (js : Known) (ops : List Op) (second : Stage) (rest : List Stage) → ops_refusal n js ops ≡ None
    → stage_refusal all (n + 1) taken (after_ops ops js) second ≡ None → stages_refusal all (n + 1 + 1) (with_arrays taken second.accesses) (after_stage all second (after_ops ops js)) rest ≡ None
    → stages_refusal all n taken js (only_ops ops ∷ second ∷ rest) ≡ None
two_stages all n taken js ops second rest a b c = rw (a, b, c) refl

pub stages_lawful : (m : Seat) (all arrays : List Array) (stage low guard high words : ℕ) (before ks js : Known) (used taken : Used) (stages : List Stage) → Orders m low high words before → AreAmong all arrays m.base
    → low ≤ guard → guard + length stages ≤ m.shift → StagesRoom arrays m.width words stages → stages_refusal arrays stage used ks stages ≡ None
    → Beneath m low guard high before ks js → UsedAmong m.base (length arrays) used taken
    → Lawful m all low (guard + length stages) high (length arrays) before (after_stages arrays stages ks) js (taken_by used stages) taken (moved_stages m guard stages)
stages_lawful m all arrays stage low guard high words before ks js used taken [] o among l g room h s u =
    let e : guard + 0 ≡ guard = omega arith in
    record { refusal = λ n. refl; known = record { mirrors = s.mirrors; below = s.below; guards = λ w x y. s.guards w (omega arith) y; above = s.above }; arrays = u }
stages_lawful m all arrays stage low guard high words before ks js used taken (t ∷ ts) o among l g room h s u =
    let parts = or_none _ _ h in
    let pair = or_none _ _ parts.0 in
    let near : guard < m.shift = omega (arith, g) in
    let far : guard + 1 + length ts ≤ m.shift = omega (arith, g) in
    let first = ops_lawful m stage low guard high words before ks js t.ops o.seat o.low_shift o.room room.0.0 pair.0 s in
    let j : Known = after_ops (map (moved_op m) t.ops) js in
    let second = accesses_lawful m all arrays stage low guard high words before (after_ops t.ops ks) j used taken t.accesses o among l near room.0.1 pair.1 first.known u in
    let rest = stages_lawful m all arrays (stage + 1) low (guard + 1) high words before (after_stage arrays t ks) (after_stage all (guarded m guard t.accesses) j)
    (with_arrays used t.accesses) (with_arrays taken (guarded m guard t.accesses).accesses) ts o among (omega arith) far room.1 parts.1 second.known second.arrays in
    record {
      refusal = λ n. two_stages all n taken js (map (moved_op m) t.ops) (guarded m guard t.accesses) (moved_stages m (guard + 1) ts) (first.refusal n) (second.refusal (n + 1)) (rest.refusal (n + 1 + 1));
      known = record {
        mirrors = rest.known.mirrors;
        below = rest.known.below;
        guards = λ w x y. rest.known.guards w (omega (arith, x)) y;
        above = rest.known.above;
      };
      arrays = rest.arrays;
    }
