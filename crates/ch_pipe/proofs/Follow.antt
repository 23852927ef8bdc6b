-- A program that breaks no rule keeps the pipeline in range, and the pipeline has the machine's value.
use Rattle.std.proofs.Common.{◌≡◌, ◌<◌, ℕ, ◌+◌, List, [], ◌∷◌, ℤ, refl, sym, ◌∙◌, ap, arith, Option, Some, None, length, get_or, inl, inr, subst}
use Rattle.std.proofs.lemmas.Bool.{cases_lt}
use Rattle.std.proofs.lemmas.List.{get_or_past}
use Rattle.ch_ir.specs.declared.program.Array.{Array}
use Rattle.ch_ir.specs.declared.program.Op.{Op}
use Rattle.ch_ir.specs.declared.program.Access.{Access}
use Rattle.ch_ir.specs.declared.program.Stage.{Stage}
use Rattle.ch_ir.specs.declared.program.Op.TheVariants.{Set, Two, Bit, Pick, Hash}
use Rattle.ch_ir.specs.Machine.{Registers, State, exec_accesses, exec_stage, exec_stages, cells_of, op_to}
use Rattle.ch_ir.specs.Rules.{Known, Used, ops_refusal, accesses_refusal, stage_refusal, stages_refusal, with_arrays, entries_of, after_ops, after_accesses, after_stage, after_stages}
use Rattle.ch_verify.proofs.Sound.{Covers, ops_run, none_else}
use Rattle.ch_verify.specs.Fits.{RegistersFit, AllStagesFit, AllAccessesFit}
use Rattle.ch_verify.proofs.SoundAccess.{access_runs}
use Rattle.ch_pipe.specs.Total.{total_ops, OpRoom, OpsRoom}
use Rattle.ch_pipe.proofs.Agree.{Shows, shows_ops, length_ops, TosBelow}
use Rattle.ch_pipe.specs.Stages.{Held, total_accesses, total_stages, AccessesCan, StagesCan, AccessesRoom, StagesRoom}
use Rattle.ch_pipe.proofs.Whole.{access_went}

op_to_below : (n : ℕ) (op : Op) → OpRoom n op → op_to op < n
op_to_below n (Set to a) h = h.0
op_to_below n (Two to kind a b) h = h.0
op_to_below n (Bit to a) h = h.0
op_to_below n (Pick to a b c) h = h.0
op_to_below n (Hash to seed modulus words) h = h.0

tos_below : (n : ℕ) (ops : List Op) → OpsRoom n ops → TosBelow n ops
tos_below n [] h = tt
tos_below n (op ∷ ops) h = (op_to_below n op h.0, tos_below n ops h.1)

-- the pipeline is where the machine is
pub record Reaches (h : Held) (s : State) (n : ℕ) : Type 0 where
  pub shows : Shows s.words h.words
  pub same : h.registers ≡ s.registers
  pub many : length h.words ≡ n

pub record Follows (n room : ℕ) (arrays : List Array) (ks : Known) (o : Option State) (can : Type 0) (h : Held) : Type 0 where
  pub can_go : can
  pub state : State
  pub is : o ≡ Some state
  pub covers : Covers ks state.words
  pub fits : RegistersFit arrays state.registers
  pub reaches : Reaches h state n

has_array : (arrays : List Array) (registers : Registers) (a : ℕ) → RegistersFit arrays registers → 0 < entries_of arrays a → a < length registers
has_array arrays registers a f h = elim (cases_lt a (length registers)) [
  | inl lt ↦ lt
  | inr past ↦ let m = f.many a in let none : length (get_or registers a []) ≡ 0 = ap length (get_or_past registers a [] past) in let bad : ⊥ = omega arith in elim bad [ ]
]

accesses_follow : (n room : ℕ) (arrays : List Array) (stage : ℕ) (used : Used) (xs : List Access) (ks : Known) (s : State) (words : List ℤ)
    → AccessesRoom n room arrays xs → AllAccessesFit xs → Covers ks s.words → RegistersFit arrays s.registers → Shows s.words words → length words ≡ n
    → accesses_refusal arrays stage used ks xs ≡ None
    → Follows n room arrays (after_accesses arrays xs ks) (exec_accesses arrays xs s) (AccessesCan n room arrays xs (record { words = words; registers = s.registers })) (total_accesses arrays xs (record { words = words; registers = s.registers }))
accesses_follow n room arrays stage used [] ks s words r f c g sh l h =
    record { can_go = tt; state = s; is = refl; covers = c; fits = g; reaches = record { shows = sh; same = refl; many = l } }
accesses_follow n room arrays stage used (x ∷ y ∷ zs) ks s words r f c g sh l h = cc
accesses_follow n room arrays stage used (x ∷ []) ks s words r f c g sh l h =
    let run = access_runs arrays stage used x ks s f.0 c g h in
    let each : (e : ℕ) → e < length (get_or s.registers x.array []) → length (get_or (get_or s.registers x.array []) e []) ≡ cells_of arrays x.array =
    λ e lt. g.wide x.array e (let m = g.many x.array in omega arith) in
    let went = access_went n (cells_of arrays x.array) x s run.state words sh l r.3 (has_array arrays s.registers x.array g r.1) each run.is in
    record {
      can_go = (r.0, r.2, went.can, tt);
      state = run.state;
      is = rw run.is refl;
      covers = run.covers;
      fits = run.registers;
      reaches = record { shows = went.agrees.shows; same = went.agrees.same; many = went.agrees.many };
    }

abbrev record_of : Held → Registers → Held
record_of h registers = record { words = h.words; registers = registers }

pub stages_follow : (n room : ℕ) (arrays : List Array) (stage : ℕ) (used : Used) (ts : List Stage) (ks : Known) (s : State) (words : List ℤ)
    → StagesRoom n room arrays ts → AllStagesFit ts → Covers ks s.words → RegistersFit arrays s.registers → Shows s.words words → length words ≡ n
    → stages_refusal arrays stage used ks ts ≡ None
    → Follows n room arrays (after_stages arrays ts ks) (exec_stages arrays ts s) (StagesCan n room arrays ts (record { words = words; registers = s.registers })) (total_stages arrays ts (record { words = words; registers = s.registers }))
stages_follow n room arrays stage used [] ks s words r f c g sh l h =
    record { can_go = tt; state = s; is = refl; covers = c; fits = g; reaches = record { shows = sh; same = refl; many = l } }
stages_follow n room arrays stage used (t ∷ ts) ks s words r f c g sh l h =
    let parts = none_else (stage_refusal arrays stage used ks t) (stages_refusal arrays (stage + 1) (with_arrays used t.accesses) (after_stage arrays t ks) ts) h in
    let inner = none_else (ops_refusal stage ks t.ops) (accesses_refusal arrays stage used (after_ops t.ops ks) t.accesses) parts.0 in
    let ops = ops_run stage t.ops ks s.words f.0.0 c inner.0 in
    let words1 : List ℤ = total_ops t.ops words in
    let sh1 = shows_ops t.ops n s.words ops.words words (tos_below n t.ops r.0) l sh ops.is in
    let l1 : length words1 ≡ n = length_ops t.ops words ∙ l in
    let middle : State = record { words = ops.words; registers = s.registers } in
    let first = accesses_follow n room arrays stage used t.accesses (after_ops t.ops ks) middle words1 r.1 f.0.1 ops.covers g sh1 l1 inner.1 in
    let h1 : Held = total_accesses arrays t.accesses (record { words = words1; registers = s.registers }) in
    let rest = stages_follow n room arrays (stage + 1) (with_arrays used t.accesses) ts (after_stage arrays t ks) first.state h1.words r.2 f.1 first.covers first.fits first.reaches.shows first.reaches.many parts.1 in
    let held : record_of h1 first.state.registers ≡ h1 = ap (record_of h1) (sym first.reaches.same) in
    let one : exec_stage arrays t s ≡ Some first.state = rw ops.is first.is in
    record {
      can_go = (r.0, first.can_go, subst (StagesCan n room arrays ts) held rest.can_go);
      state = rest.state;
      is = rw one rest.is;
      covers = rest.covers;
      fits = rest.fits;
      reaches = subst (λ (x : Held). Reaches (total_stages arrays ts x) rest.state n) held rest.reaches;
    }
