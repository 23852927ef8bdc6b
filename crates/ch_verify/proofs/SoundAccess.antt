-- An access that breaks no rule has a value, and so have stages.
use Rattle.std.proofs.Common.{◌≡◌, ◌<◌, ℕ, zero, suc, ◌+◌, Bool, true, false, List, [], ◌∷◌, ◌++◌, ℤ, pos, negsuc, ◌≤ℤ◌, ◌<ℤ◌, ◌⊎◌, refl, sym, ◌∙◌, ap, arith, Option, Some, None, length, get_or, set, inl, inr, replicate, nat_eq, nat_lt, FitsSigned, w64, is_some}
use Rattle.std.specs.Prelude.{if◌then◌else◌, ◌&&◌, int_le, int_lt, bit_or, ◌+ℤ◌}
use Rattle.std.specs.Option.{option_map, option_and_then}
use Rattle.std.specs.Int.{saturate_signed, int_min, int_max, int_bit_or, cast_unsigned}
use Rattle.std.proofs.lemmas.Bool.{cases_Bool, cases_eq, cases_lt, lt-ltb, and_parts, eqb-true}
use Rattle.std.proofs.lemmas.List.{length-set, get_or-set_same, get_or-set_other, set_past, length-replicate}
use Rattle.std.proofs.lemmas.Int.{ints}
use Rattle.ch_ir.specs.declared.program.Operand.{Operand}
use Rattle.ch_ir.specs.declared.program.Operand.TheVariants.{Word, Const}
use Rattle.ch_ir.specs.declared.program.Update.{Update}
use Rattle.ch_ir.specs.declared.program.Update.TheVariants as update
use Rattle.ch_ir.specs.declared.program.Array.{Array}
use Rattle.ch_ir.specs.declared.rules.Interval.{Interval}
use Rattle.ch_ir.specs.declared.rules.Refused.TheVariants as refused
use Rattle.ch_ir.specs.declared.program.Access.{Access}
use Rattle.ch_ir.specs.declared.program.Stage.{Stage}
use Rattle.ch_ir.specs.declared.program.Program.{Program}
use Rattle.ch_ir.specs.Machine.{Words, Registers, State, put, put_all, read, read_all, truth, is_set, updated, update_all, index_of, at_entry, exec_access, exec_accesses, exec_stage, exec_stages, cells_of, holds_at, given, machine, ends}
use Rattle.ch_ir.specs.Rules.{Known, learn, whole, flag, interval_of, first_unknown, operands_refusal, needs, update_operands, entries_of, access_operands, has_shape, range_refusal, reach_refusal, access_refusal, accesses_refusal, ops_refusal, stage_refusal, stages_refusal, verdict_refusal, rule_refusal, Used, none_used, with_arrays, after_old, after_access, after_accesses, after_ops, after_stage, after_stages, inputs, key_words, test_fits, BreaksNoRule}
use Rattle.ch_verify.specs.Fits.{AllConstFit, AllFits, RegistersFit, AllAccessesFit, StageFits, AllStagesFit}
use Rattle.ch_verify.specs.Checked.{HasValue}
use Rattle.ch_verify.proofs.Sound.{Lies, Covered, Covers, ops_run, covers_put, known_head, lies_at, saturated_fits, signed_fits, none_else, needs_none, no_unknown, le_true, within_whole, truth_lies}

known_parts : (ks : Known) (xs ys : List Operand) → first_unknown ks (xs ++ ys) ≡ None → (first_unknown ks xs ≡ None) × (first_unknown ks ys ≡ None)
known_parts ks [] ys h = (refl, h)
known_parts ks (Const c ∷ xs) ys h = known_parts ks xs ys h
known_parts ks (Word w ∷ xs) ys h = elim (cases_Bool (is_some (ks w))) [
  | inl e ↦ let more = known_parts ks xs ys (rw e at h) in (rw e more.0, more.1)
  | inr e ↦ let bad : Some w ≡ None = rw e at h in cc
]

const_parts : (xs ys : List Operand) → AllConstFit (xs ++ ys) → AllConstFit xs × AllConstFit ys
const_parts [] ys h = (tt, h)
const_parts (x ∷ xs) ys h = let more = const_parts xs ys h.1 in ((h.0, more.0), more.1)

-- known operands can be read
all_read : (ks : Known) (ws : Words) → Covers ks ws → (xs : List Operand) → AllConstFit xs → first_unknown ks xs ≡ None → (vs : List ℤ) × (read_all ws xs ≡ Some vs)
all_read ks ws c [] f h = ([], refl)
all_read ks ws c (x ∷ xs) f h =
    let known = known_head ks x xs h in
    let first = lies_at ks ws x c f.0 known.0 in
    let more = all_read ks ws c xs f.1 known.1 in
    (first.value ∷ more.0, rw (first.is, more.1) refl)

-- the new cells
pub record Renewed (o : Option (List ℤ)) (n : ℕ) : Type 0 where
  pub cells : List ℤ
  pub is : o ≡ Some cells
  pub many : length cells ≡ n
  pub fits : AllFits cells

min_fits : (x y : ℤ) → FitsSigned w64 x → FitsSigned w64 y → FitsSigned w64 (int_min x y)
min_fits x y f g = elim (cases_Bool (int_lt y x)) [ inl t ↦ rw t g | inr t ↦ rw t f ]

max_fits : (x y : ℤ) → FitsSigned w64 x → FitsSigned w64 y → FitsSigned w64 (int_max x y)
max_fits x y f g = elim (cases_Bool (int_lt y x)) [ inl t ↦ rw t f | inr t ↦ rw t g ]

-- one cell and then the others
renewed_more : (first : Option ℤ) (rest : Option (List ℤ)) (v : ℤ) (n : ℕ) → first ≡ Some v → FitsSigned w64 v → Renewed rest n → Renewed (option_and_then (λ v. option_map (λ vs. v ∷ vs) rest) first) (suc n)
renewed_more first rest v n e f r = record { cells = v ∷ r.cells; is = rw (e, r.is) refl; many = ap suc r.many; fits = (f, r.fits) }

renewed : (ks : Known) (ws : Words) → Covers ks ws → (us : List Update) (cells : List ℤ) → length us ≡ length cells → AllFits cells
    → AllConstFit (update_operands us) → first_unknown ks (update_operands us) ≡ None → Renewed (update_all ws us cells) (length cells)
renewed ks ws c [] [] e f g h = record { cells = []; is = refl; many = refl; fits = tt }
renewed ks ws c [] (x ∷ xs) e f g h = let bad : ⊥ = omega arith in elim bad [ ]
renewed ks ws c (u ∷ us) [] e f g h = let bad : ⊥ = omega arith in elim bad [ ]
renewed ks ws c (update.Keep ∷ us) (x ∷ xs) e f g h =
    renewed_more (Some x) (update_all ws us xs) x (length xs) refl f.0 (renewed ks ws c us xs (omega arith) f.1 g h)
renewed ks ws c (update.Put a ∷ us) (x ∷ xs) e f g h =
    let k = known_head ks a (update_operands us) h in let l = lies_at ks ws a c g.0 k.0 in
    renewed_more (read ws a) (update_all ws us xs) l.value (length xs) l.is l.fits (renewed ks ws c us xs (omega arith) f.1 g.1 k.1)
renewed ks ws c (update.AddSat a ∷ us) (x ∷ xs) e f g h =
    let k = known_head ks a (update_operands us) h in let l = lies_at ks ws a c g.0 k.0 in
    renewed_more (updated ws (update.AddSat a) x) (update_all ws us xs) (saturate_signed w64 (x +ℤ l.value)) (length xs) (rw l.is refl) (saturated_fits (x +ℤ l.value)) (renewed ks ws c us xs (omega arith) f.1 g.1 k.1)
renewed ks ws c (update.Min a ∷ us) (x ∷ xs) e f g h =
    let k = known_head ks a (update_operands us) h in let l = lies_at ks ws a c g.0 k.0 in
    renewed_more (updated ws (update.Min a) x) (update_all ws us xs) (int_min x l.value) (length xs) (rw l.is refl) (min_fits x l.value f.0 l.fits) (renewed ks ws c us xs (omega arith) f.1 g.1 k.1)
renewed ks ws c (update.Max a ∷ us) (x ∷ xs) e f g h =
    let k = known_head ks a (update_operands us) h in let l = lies_at ks ws a c g.0 k.0 in
    renewed_more (updated ws (update.Max a) x) (update_all ws us xs) (int_max x l.value) (length xs) (rw l.is refl) (max_fits x l.value f.0 l.fits) (renewed ks ws c us xs (omega arith) f.1 g.1 k.1)
renewed ks ws c (update.Or a ∷ us) (x ∷ xs) e f g h =
    let k = known_head ks a (update_operands us) h in let l = lies_at ks ws a c g.0 k.0 in
    renewed_more (updated ws (update.Or a) x) (update_all ws us xs) (int_bit_or w64 x l.value) (length xs) (rw l.is refl) (signed_fits (bit_or (cast_unsigned w64 x) (cast_unsigned w64 l.value))) (renewed ks ws c us xs (omega arith) f.1 g.1 k.1)

-- the old words are known as all of i64
old_learnt : (to n : ℕ) (ks : Known) (ws : Words) (cells : List ℤ) → length cells ≡ n → AllFits cells → Covers ks ws → Covers (after_old to n ks) (put_all ws to cells)
old_learnt to zero ks ws [] e f c = c
old_learnt to zero ks ws (x ∷ xs) e f c = let bad : ⊥ = omega arith in elim bad [ ]
old_learnt to (suc n) ks ws [] e f c = let bad : ⊥ = omega arith in elim bad [ ]
old_learnt to (suc n) ks ws (x ∷ xs) e f c =
    let w = within_whole x f.0 in
    let l : Lies whole (Some x) = record { value = x; is = refl; low = w.0; high = w.1; fits = f.0 } in
    old_learnt (to + 1) n (learn ks to whole) (put ws to x) xs (omega arith) f.1 (covers_put ks ws c to whole x l)

lt_true : (a b : ℤ) → int_lt a b ≡ true → a <ℤ b
lt_true a b h = grind (arith, ints)

pub record IndexIn (o : Option ℕ) (len : ℕ) : Type 0 where
  pub entry : ℕ
  pub is : o ≡ Some entry
  pub inside : entry < len

index_in : (v : ℤ) (len : ℕ) → pos 0 ≤ℤ v → v <ℤ pos len → IndexIn (index_of v len) len
index_in (pos n) len l h = let lt : n < len = omega (arith, ints) in record { entry = n; is = rw (lt-ltb n len lt) refl; inside = lt }
index_in (negsuc n) len l h = let bad : ⊥ = omega (arith, ints) in elim bad [ ]

in_range : (stage : ℕ) (s : Interval) (len : ℕ) → range_refusal stage s len ≡ None → (pos 0 ≤ℤ s.low) × (s.high <ℤ pos len)
in_range stage s len h =
    let parts = and_parts (int_le (pos 0) s.low) (int_lt s.high (pos len)) (needs_none _ (refused.IndexRange stage s.low s.high len) h) in
    (le_true (pos 0) s.low parts.0, lt_true s.high (pos len) parts.1)

-- what an access or a stage leaves
pub record Runs (arrays : List Array) (ks : Known) (o : Option State) : Type 0 where
  pub state : State
  pub is : o ≡ Some state
  pub covers : Covers ks state.words
  pub registers : RegistersFit arrays state.registers

array_set : (registers : Registers) (a b : ℕ) (col : List (List ℤ)) → (get_or (set registers a col) b [] ≡ get_or registers b []) ⊎ ((b ≡ a) × (get_or (set registers a col) b [] ≡ col))
array_set registers a b col = elim (cases_eq b a) [
  | inr ne ↦ inl (get_or-set_other registers a b col [] ne)
  | inl e ↦ elim (cases_lt a (length registers)) [
    | inl lt ↦ inr (e, ap (λ (x : ℕ). get_or (set registers a col) x []) e ∙ get_or-set_same registers a col [] lt)
    | inr past ↦ inl (ap (λ (x : Registers). get_or x b []) (set_past registers a col past))
  ]
]

registers_set : (arrays : List Array) (registers : Registers) (a e : ℕ) (new : List ℤ) → RegistersFit arrays registers → length new ≡ cells_of arrays a → AllFits new
    → RegistersFit arrays (set registers a (set (get_or registers a []) e new))
registers_set arrays registers a e new f n g =
    let old : List (List ℤ) = get_or registers a [] in
    let col : List (List ℤ) = set old e new in
    let within : (q : ℕ) → q < entries_of arrays a → (length (get_or col q []) ≡ cells_of arrays a) × AllFits (get_or col q []) = λ q lt.
    elim (cases_eq q e) [
      | inl same ↦ let there : e < length old = let m = f.many a in omega arith in
          rw (same, get_or-set_same old e new [] there) (n, g)
      | inr ne ↦ rw (get_or-set_other old e q new [] ne) (f.wide a q lt, f.fits a q lt)
    ] in
    record {
      count = length-set registers a col ∙ f.count;
      many = λ b. elim (array_set registers a b col) [
        | inl same ↦ rw same (f.many b)
        | inr p ↦ rw (p.1, p.0) (length-set old e new ∙ f.many a)
      ];
      wide = λ b q lt. elim (array_set registers a b col) [
        | inl same ↦ rw same (f.wide b q lt)
        | inr p ↦ rw (p.1, p.0) ((within q (rw p.0 at lt)).0)
      ];
      fits = λ b q lt. elim (array_set registers a b col) [
        | inl same ↦ rw same (f.fits b q lt)
        | inr p ↦ rw p.1 ((within q (rw p.0 at lt)).1)
      ];
    }

pub zeros_fit : (n : ℕ) → AllFits (replicate n (pos 0))
zeros_fit zero = tt
zeros_fit (suc n) = (record { sfits = omega arith }, zeros_fit n)

-- the old words and hit are known
covers_after : (arrays : List Array) (x : Access) (ks : Known) (ws : Words) (cells : List ℤ) (hit : Bool) → length cells ≡ cells_of arrays x.array → AllFits cells → Covers ks ws
    → Covers (after_access arrays x ks) (put (put_all ws x.old cells) x.hit (truth hit))
covers_after arrays x ks ws cells hit e f c =
    covers_put (after_old x.old (cells_of arrays x.array) ks) (put_all ws x.old cells) (old_learnt x.old (cells_of arrays x.array) ks ws cells e f c) x.hit flag (truth hit)
    (truth_lies hit (Some (truth hit)) refl)

four_parts : (a b c d e : Bool) → (a && (b && (c && (d && e)))) ≡ true → (c ≡ true) × (d ≡ true)
four_parts a b c d e h =
    let p = (and_parts a (b && (c && (d && e))) h).1 in
    let q = (and_parts b (c && (d && e)) p).1 in
    let r = and_parts c (d && e) q in
    (r.0, (and_parts d e r.1).0)

shape_parts : (arrays : List Array) (x : Access) → has_shape arrays x ≡ true → (length x.yes ≡ cells_of arrays x.array) × (length x.no ≡ cells_of arrays x.array)
shape_parts arrays x h =
    let n : ℕ = cells_of arrays x.array in
    let p = four_parts (nat_lt 0 (entries_of arrays x.array)) (nat_lt 0 n) (nat_eq (length x.yes) n) (nat_eq (length x.no) n)
    (nat_eq (length x.key) (key_words x.test) && test_fits x.test n) h in
    (eqb-true (length x.yes) n p.0, eqb-true (length x.no) n p.1)

pub access_runs : (arrays : List Array) (stage : ℕ) (used : Used) (x : Access) (ks : Known) (s : State) → AllConstFit (access_operands x) → Covers ks s.words → RegistersFit arrays s.registers
    → access_refusal arrays stage used ks x ≡ None → Runs arrays (after_access arrays x ks) (exec_access (cells_of arrays x.array) x s)
access_runs arrays stage used x ks s f c r h =
    let n : ℕ = cells_of arrays x.array in
    let p0 = none_else (reach_refusal arrays stage used ks x) _ h in
    let p1 = none_else (if used x.array then Some (refused.TwoAccesses stage) else None) _ p0.0 in
    let p2 = none_else (needs (has_shape arrays x) (refused.Shape stage)) _ p1.1 in
    let p3 = none_else (operands_refusal stage ks (access_operands x)) _ p2.1 in
    let shape = needs_none (has_shape arrays x) (refused.Shape stage) p2.0 in
    let many = shape_parts arrays x shape in
    let yes_many : length x.yes ≡ n = many.0 in
    let no_many : length x.no ≡ n = many.1 in
    let known = no_unknown stage (first_unknown ks (access_operands x)) p3.0 in
    let k1 = known_head ks x.index _ known in
    let k2 = known_head ks x.guard _ k1.1 in
    let k3 = known_parts ks x.key (update_operands x.yes ++ update_operands x.no) k2.1 in
    let k4 = known_parts ks (update_operands x.yes) (update_operands x.no) k3.1 in
    let f3 = const_parts x.key (update_operands x.yes ++ update_operands x.no) f.1.1 in
    let f4 = const_parts (update_operands x.yes) (update_operands x.no) f3.1 in
    let index = lies_at ks s.words x.index c f.0 k1.0 in
    let guard = lies_at ks s.words x.guard c f.1.0 k2.0 in
    let key = all_read ks s.words c x.key f3.0 k3.0 in
    let range = in_range stage (interval_of ks x.index) (entries_of arrays x.array) p3.1 in
    let low : pos 0 ≤ℤ index.value = let a = range.0 in let b = index.low in omega (arith, ints) in
    let high : index.value <ℤ pos (entries_of arrays x.array) = let a = range.1 in let b = index.high in omega (arith, ints) in
    let at = index_in index.value (entries_of arrays x.array) low high in
    let cells : List ℤ = get_or (get_or s.registers x.array []) at.entry [] in
    let hit : Bool = holds_at x.test key.0 cells in
    let wide : length cells ≡ n = r.wide x.array at.entry at.inside in
    let fits = r.fits x.array at.entry at.inside in
    let there : index_of index.value (length (get_or s.registers x.array [])) ≡ Some at.entry = ap (index_of index.value) (r.many x.array) ∙ at.is in
    elim (cases_Bool (is_set guard.value)) [
      | inl on ↦
          let new : Renewed (update_all s.words (if hit then x.yes else x.no) cells) (length cells) =
          elim (cases_Bool hit) [
            | inl t ↦ rw t (renewed ks s.words c x.yes cells (yes_many ∙ sym wide) fits f4.0 k4.0)
            | inr t ↦ rw t (renewed ks s.words c x.no cells (no_many ∙ sym wide) fits f4.1 k4.1)
          ] in
          let entry : at_entry x s at.entry ≡ Some (record {
            words = put (put_all s.words x.old cells) x.hit (truth hit);
            registers = set s.registers x.array (set (get_or s.registers x.array []) at.entry new.cells);
          }) = rw (key.1, new.is) refl in
          record {
            state = record {
              words = put (put_all s.words x.old cells) x.hit (truth hit);
              registers = set s.registers x.array (set (get_or s.registers x.array []) at.entry new.cells);
            };
            is = rw (guard.is, on, index.is, there) entry;
            covers = covers_after arrays x ks s.words cells hit wide fits c;
            registers = registers_set arrays s.registers x.array at.entry new.cells r (new.many ∙ wide) new.fits;
          }
      | inr off ↦ record {
        state = record { words = put (put_all s.words x.old (replicate n (pos 0))) x.hit (pos 0); registers = s.registers };
        is = rw (guard.is, off) refl;
        covers = covers_after arrays x ks s.words (replicate n (pos 0)) false (length-replicate n (pos 0)) (zeros_fit n) c;
        registers = r;
      }
    ]

pub accesses_run : (arrays : List Array) (stage : ℕ) (used : Used) (xs : List Access) (ks : Known) (s : State) → AllAccessesFit xs → Covers ks s.words → RegistersFit arrays s.registers
    → accesses_refusal arrays stage used ks xs ≡ None → Runs arrays (after_accesses arrays xs ks) (exec_accesses arrays xs s)
accesses_run arrays stage used [] ks s f c r h = record { state = s; is = refl; covers = c; registers = r }
accesses_run arrays stage used (x ∷ []) ks s f c r h =
    let run = access_runs arrays stage used x ks s f.0 c r h in
    record { state = run.state; is = rw run.is refl; covers = run.covers; registers = run.registers }
accesses_run arrays stage used (x ∷ y ∷ zs) ks s f c r h = cc

pub stage_runs : (arrays : List Array) (stage : ℕ) (used : Used) (t : Stage) (ks : Known) (s : State) → StageFits t → Covers ks s.words → RegistersFit arrays s.registers
    → stage_refusal arrays stage used ks t ≡ None → Runs arrays (after_stage arrays t ks) (exec_stage arrays t s)
stage_runs arrays stage used t ks s f c r h =
    let parts = none_else (ops_refusal stage ks t.ops) (accesses_refusal arrays stage used (after_ops t.ops ks) t.accesses) h in
    let ops = ops_run stage t.ops ks s.words f.0 c parts.0 in
    let run = accesses_run arrays stage used t.accesses (after_ops t.ops ks) (record { words = ops.words; registers = s.registers }) f.1 ops.covers r parts.1 in
    record { state = run.state; is = rw ops.is run.is; covers = run.covers; registers = run.registers }

pub stages_run : (arrays : List Array) (stage : ℕ) (used : Used) (ts : List Stage) (ks : Known) (s : State) → AllStagesFit ts → Covers ks s.words → RegistersFit arrays s.registers
    → stages_refusal arrays stage used ks ts ≡ None → Runs arrays (after_stages arrays ts ks) (exec_stages arrays ts s)
stages_run arrays stage used [] ks s f c r h = record { state = s; is = refl; covers = c; registers = r }
stages_run arrays stage used (t ∷ ts) ks s f c r h =
    let parts = none_else (stage_refusal arrays stage used ks t) (stages_refusal arrays (stage + 1) (with_arrays used t.accesses) (after_stage arrays t ks) ts) h in
    let first = stage_runs arrays stage used t ks s f.0 c r parts.0 in
    let run = stages_run arrays (stage + 1) (with_arrays used t.accesses) ts (after_stage arrays t ks) first.state f.1 first.covers first.registers parts.1 in
    record { state = run.state; is = rw first.is run.is; covers = run.covers; registers = run.registers }

cell_fits : (row : List ℤ) (w : ℕ) → AllFits row → FitsSigned w64 (get_or row w (pos 0))
cell_fits [] w f = record { sfits = omega arith }
cell_fits (x ∷ xs) zero f = f.0
cell_fits (x ∷ xs) (suc w) f = cell_fits xs w f.1

pub input_covers : (width : ℕ) (row : List ℤ) → AllFits row → Covers (inputs width) (given width row)
input_covers width row f w = elim (cases_Bool (nat_lt w width)) [
  | inl t ↦ let v = cell_fits row w f in let b = within_whole (get_or row w (pos 0)) v in
      rw t (record { value = get_or row w (pos 0); is = refl; low = b.0; high = b.1; fits = v })
  | inr t ↦ rw t tt
]

pub known_value : (o : Option Interval) (v : Option ℤ) → is_some o ≡ true → Covered o v → (x : ℤ) × (v ≡ Some x)
known_value None v h c = cc
known_value (Some s) v h c = (c.value, c.is)

pub ended : (verdict : ℕ) (o : Option State) (s : State) (v : ℤ) → o ≡ Some s → s.words verdict ≡ Some v → option_and_then (ends verdict) o ≡ Some (record { prune = is_set v; registers = s.registers })
ended verdict o s v e q = rw (e, q) refl

-- on any words and registers a program that breaks no rule has a value
pub has_value : (p : Program) → AllStagesFit p.stages → BreaksNoRule p → (registers : Registers) → RegistersFit p.arrays registers → (row : List ℤ) → AllFits row
    → HasValue p (machine p registers row)
unfolding rule_refusal
has_value p f b registers r row g =
    let known : Known = after_stages p.arrays p.stages (inputs p.width) in
    let parts = none_else (stages_refusal p.arrays 0 none_used (inputs p.width) p.stages) (verdict_refusal (length p.stages) known p.verdict) b in
    let run = stages_run p.arrays 0 none_used p.stages (inputs p.width) (record { words = given p.width row; registers = registers }) f (input_covers p.width row g) r parts.0 in
    let v = known_value (known p.verdict) (run.state.words p.verdict) (needs_none (is_some (known p.verdict)) (refused.Word (length p.stages) p.verdict) parts.1) (run.covers p.verdict) in
    record { outcome = record { prune = is_set v.0; registers = run.state.registers }; is = ended p.verdict _ run.state v.0 run.is v.1; registers = run.registers }
