-- The words, the cells and the shapes of a checked program keep the pipeline in range.
use Rattle.std.proofs.Common.{◌≡◌, ◌<◌, ◌≤◌, ℕ, zero, suc, ◌+◌, Bool, true, List, [], ◌∷◌, ◌++◌, refl, arith, Some, None, length, map}
use Rattle.std.specs.Prelude.{◌&&◌, nat_lt, nat_eq, if◌then◌else◌}
use Rattle.std.proofs.lemmas.Bool.{and_parts, ltb-true, lt-ltb, eqb-true}
use Rattle.ch_ir.specs.declared.program.Operand.{Operand}
use Rattle.ch_ir.specs.declared.program.Operand.TheVariants.{Word, Const}
use Rattle.ch_ir.specs.declared.program.Op.{Op}
use Rattle.ch_ir.specs.declared.program.Op.TheVariants.{Set, Two, Bit, Pick, Hash}
use Rattle.ch_ir.specs.declared.program.Update.{Update}
use Rattle.ch_ir.specs.declared.program.Update.TheVariants as update
use Rattle.ch_ir.specs.declared.program.Access.{Access}
use Rattle.ch_ir.specs.declared.program.Array.{Array}
use Rattle.ch_ir.specs.declared.program.Stage.{Stage}
use Rattle.ch_ir.specs.declared.rules.Refused.TheVariants as refused
use Rattle.ch_ir.specs.Machine.{op_to, cells_of}
use Rattle.ch_ir.specs.Rules.{Known, Used, needs, learn, op_interval, has_modulus, op_refusal, ops_refusal, update_operand, update_operands, entries_of, has_shape, key_words, test_fits, reach_refusal, accesses_refusal, stage_refusal, stages_refusal, with_arrays, after_ops, after_stage}
use Rattle.ch_ir.specs.Measure.{operand_end, operands_end, op_end, ops_end, old_end, access_end, accesses_end, stages_end}
use Rattle.ch_verify.proofs.Sound.{none_else, needs_none}
use Rattle.ch_verify.proofs.Ends.{end_append, has_entries}
use Rattle.ch_pipe.specs.Total.{OperandBelow, NumbersBelow, OpRoom, OpsRoom, UpdateRoom, UpdatesRoom}
use Rattle.ch_pipe.specs.Entry.{KeyRoom, AccessRoom}
use Rattle.ch_pipe.specs.Installed.{widest}
use Rattle.ch_pipe.specs.Stages.{AccessesRoom, StagesRoom}

operand_below : (n : ℕ) (a : Operand) → operand_end a ≤ n → OperandBelow n a
operand_below n (Word w) h = omega arith
operand_below n (Const c) h = tt

key_room : (n : ℕ) (xs : List Operand) → operands_end xs ≤ n → KeyRoom n xs
key_room n [] h = tt
key_room n (a ∷ rest) h = (operand_below n a (omega arith), key_room n rest (omega arith))

numbers_below : (n : ℕ) (ws : List ℕ) → operands_end (map Word ws) ≤ n → NumbersBelow n ws
numbers_below n [] h = tt
numbers_below n (w ∷ ws) h = (omega arith, numbers_below n ws (omega arith))

op_room : (n : ℕ) (op : Op) → op_end op ≤ n → has_modulus op ≡ true → OpRoom n op
op_room n (Set to a) h m = (omega arith, operand_below n a (omega arith))
op_room n (Two to kind a b) h m = (omega arith, operand_below n a (omega arith), operand_below n b (omega arith))
op_room n (Bit to a) h m = (omega arith, operand_below n a (omega arith))
op_room n (Pick to a b c) h m = (omega arith, operand_below n a (omega arith), operand_below n b (omega arith), operand_below n c (omega arith))
op_room n (Hash to seed modulus words) h m = (omega arith, numbers_below n words (omega arith), ltb-true 0 modulus m)

ops_room : (n stage : ℕ) (ks : Known) (ops : List Op) → ops_end ops ≤ n → ops_refusal stage ks ops ≡ None → OpsRoom n ops
ops_room n stage ks [] h r = tt
ops_room n stage ks (op ∷ ops) h r =
    let parts = none_else (op_refusal stage ks op) _ r in
    let two = none_else (needs (has_modulus op) (refused.Shape stage)) _ parts.0 in
    (op_room n op (omega arith) (needs_none (has_modulus op) (refused.Shape stage) two.0), ops_room n stage (learn ks (op_to op) (op_interval ks op)) ops (omega arith) parts.1)

update_room : (n : ℕ) (u : Update) → operands_end (update_operand u) ≤ n → UpdateRoom n u
update_room n update.Keep h = tt
update_room n (update.Put a) h = operand_below n a (omega arith)
update_room n (update.AddSat a) h = operand_below n a (omega arith)
update_room n (update.Min a) h = operand_below n a (omega arith)
update_room n (update.Max a) h = operand_below n a (omega arith)
update_room n (update.Or a) h = operand_below n a (omega arith)

updates_room : (n : ℕ) (us : List Update) → operands_end (update_operands us) ≤ n → UpdatesRoom n us
updates_room n [] h = tt
updates_room n (u ∷ us) h =
    let e = end_append (update_operand u) (update_operands us) in
    (update_room n u (omega arith), updates_room n us (omega arith))

cells_within : (arrays : List Array) (a : ℕ) → cells_of arrays a ≤ widest arrays
cells_within [] a = omega arith
cells_within (x ∷ xs) zero = omega arith
cells_within (x ∷ xs) (suc a) = let h = cells_within xs a in omega arith

record Shape (arrays : List Array) (x : Access) : Type 0 where
  entries : 0 < entries_of arrays x.array
  cells : 0 < cells_of arrays x.array
  yes : length x.yes ≡ cells_of arrays x.array
  no : length x.no ≡ cells_of arrays x.array
  key : length x.key ≡ key_words x.test
  test : test_fits x.test (cells_of arrays x.array) ≡ true

six : (a b c d e f : Bool) → (a && (b && (c && (d && (e && f))))) ≡ true → (a ≡ true) × (b ≡ true) × (c ≡ true) × (d ≡ true) × (e ≡ true) × (f ≡ true)
six a b c d e f h =
    let p = and_parts a (b && (c && (d && (e && f)))) h in
    let q = and_parts b (c && (d && (e && f))) p.1 in
    let r = and_parts c (d && (e && f)) q.1 in
    let s = and_parts d (e && f) r.1 in
    let t = and_parts e f s.1 in
    (p.0, q.0, r.0, s.0, t.0, t.1)

shape : (arrays : List Array) (x : Access) → has_shape arrays x ≡ true → Shape arrays x
shape arrays x h =
    let n : ℕ = cells_of arrays x.array in
    let p = six (nat_lt 0 (entries_of arrays x.array)) (nat_lt 0 n) (nat_eq (length x.yes) n) (nat_eq (length x.no) n) (nat_eq (length x.key) (key_words x.test)) (test_fits x.test n) h in
    record {
      entries = ltb-true 0 (entries_of arrays x.array) p.0;
      cells = ltb-true 0 n p.1;
      yes = eqb-true (length x.yes) n p.2;
      no = eqb-true (length x.no) n p.3;
      key = eqb-true (length x.key) (key_words x.test) p.4;
      test = p.5;
    }

old_there : (arrays : List Array) (x : Access) → x.array < length arrays → 0 < cells_of arrays x.array → old_end arrays x ≡ x.old + cells_of arrays x.array
old_there arrays x h k = rw (lt-ltb x.array (length arrays) h, lt-ltb 0 (cells_of arrays x.array) k) refl

access_room : (n : ℕ) (arrays : List Array) (x : Access) → access_end arrays x ≤ n → has_shape arrays x ≡ true → AccessRoom n (cells_of arrays x.array) x
access_room n arrays x h t =
    let s = shape arrays x t in
    let there = has_entries arrays x.array s.entries in
    let old = old_there arrays x there s.cells in
    let both = end_append (update_operands x.yes) (update_operands x.no) in
    let all = end_append x.key (update_operands x.yes ++ update_operands x.no) in
    record {
      index = operand_below n x.index (omega arith);
      guard = operand_below n x.guard (omega arith);
      key = key_room n x.key (omega arith);
      yes = updates_room n x.yes (omega arith);
      no = updates_room n x.no (omega arith);
      yes_many = s.yes;
      no_many = s.no;
      key_many = s.key;
      test = s.test;
      some = s.cells;
      old = omega arith;
      hit = omega arith;
    }

accesses_room : (n stage : ℕ) (arrays : List Array) (used : Used) (ks : Known) (xs : List Access) → accesses_end arrays xs ≤ n → accesses_refusal arrays stage used ks xs ≡ None
    → AccessesRoom n (widest arrays) arrays xs
accesses_room n stage arrays used ks [] h r = tt
accesses_room n stage arrays used ks (x ∷ y ∷ zs) h r = cc
accesses_room n stage arrays used ks (x ∷ []) h r =
    let reach = none_else (reach_refusal arrays stage used ks x) _ r in
    let p1 = none_else (if used x.array then Some (refused.TwoAccesses stage) else None) _ reach.0 in
    let p2 = none_else (needs (has_shape arrays x) (refused.Shape stage)) _ p1.1 in
    let t = needs_none (has_shape arrays x) (refused.Shape stage) p2.0 in
    let s = shape arrays x t in
    (has_entries arrays x.array s.entries, s.entries, cells_within arrays x.array, access_room n arrays x (omega arith) t, tt)

pub stages_room : (n stage : ℕ) (arrays : List Array) (used : Used) (ks : Known) (ts : List Stage) → stages_end arrays ts ≤ n → stages_refusal arrays stage used ks ts ≡ None
    → StagesRoom n (widest arrays) arrays ts
stages_room n stage arrays used ks [] h r = tt
stages_room n stage arrays used ks (t ∷ ts) h r =
    let parts = none_else (stage_refusal arrays stage used ks t) _ r in
    let inner = none_else (ops_refusal stage ks t.ops) _ parts.0 in (
      ops_room n stage ks t.ops (omega arith) inner.0,
      accesses_room n stage arrays used (after_ops t.ops ks) t.accesses (omega arith) inner.1,
      stages_room n (stage + 1) arrays (with_arrays used t.accesses) (after_stage arrays t ks) ts (omega arith) parts.1,
    )
