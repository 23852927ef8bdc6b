-- A program that breaks no rule, taken apart: what each op and each access of it keeps.
use Rattle.std.proofs.Common.{◌≡◌, ◌<◌, ◌≤◌, ℕ, zero, suc, ◌+◌, Bool, true, false, List, [], ◌∷◌, refl, arith, inl, inr, Option, Some, None, length, is_some, nat_eq}
use Rattle.std.specs.Prelude.{if◌then◌else◌}
use Rattle.std.proofs.lemmas.Bool.{and_parts, ltb-true, cases_lt, lt-ltb}
use Rattle.ch_ir.specs.declared.program.Op.{Op}
use Rattle.ch_ir.specs.declared.program.Access.{Access}
use Rattle.ch_ir.specs.declared.program.Array.{Array}
use Rattle.ch_ir.specs.declared.program.Stage.{Stage}
use Rattle.ch_ir.specs.declared.program.Program.{Program}
use Rattle.ch_ir.specs.declared.rules.Interval.{Interval}
use Rattle.ch_ir.specs.declared.rules.Refused.{Refused}
use Rattle.ch_ir.specs.Machine.{cells_of, op_to}
use Rattle.ch_ir.specs.Measure.{access_end, accesses_end, op_end, ops_end, stages_end, words_of}
use Rattle.ch_ir.specs.Rules.{BreaksNoRule, Known, Used, access_operands, access_refusal, accesses_refusal, after_access, after_accesses, after_old, after_ops, after_stage, after_stages, entries_of, first_unknown, flag, has_modulus, has_shape, inputs, interval_of, learn, needs, none_used, old_refusal, op_interval, op_refusal, operands_of, ops_refusal, or_else, range_refusal, rule_refusal, stages_refusal, whole, with_arrays, word_refusal}
use Rattle.ch_pack_laws.specs.Rooms.{AccessRoom, AccessesRoom, OpsRoom, StagesRoom}

pub or_none : (f g : Option Refused) → or_else f g ≡ None → (f ≡ None) × (g ≡ None)
or_none None g h = (refl, h)
or_none (Some f) g h = cc

pub needs_true : (b : Bool) (f : Refused) → needs b f ≡ None → b ≡ true
needs_true true f h = refl
needs_true false f h = cc

pub word_none : (stage : ℕ) (o : Option ℕ) → word_refusal stage o ≡ None → o ≡ None
word_none stage None h = refl
word_none stage (Some w) h = cc

pub unless_false : (b : Bool) (f : Refused) → (if b then Some f else None) ≡ None → b ≡ false
unless_false true f h = cc
unless_false false f h = refl

pub record OpRight (ks : Known) (op : Op) : Type 0 where
  pub modulus : has_modulus op ≡ true
  pub reads : first_unknown ks (operands_of op) ≡ None
  pub fresh : is_some (ks (op_to op)) ≡ false

pub op_right : (stage : ℕ) (ks : Known) (op : Op) → op_refusal stage ks op ≡ None → OpRight ks op
op_right stage ks op h =
    let a = or_none _ _ h in
    let b = or_none _ _ a.1 in
    record { modulus = needs_true _ _ a.0; reads = word_none stage _ b.0; fresh = unless_false _ _ b.1 }

pub record AccessRight (arrays : List Array) (stage : ℕ) (used : Used) (ks : Known) (x : Access) : Type 0 where
  pub unused : used x.array ≡ false
  pub shape : has_shape arrays x ≡ true
  pub reads : first_unknown ks (access_operands x) ≡ None
  pub range : range_refusal stage (interval_of ks x.index) (entries_of arrays x.array) ≡ None
  pub olds : old_refusal stage x.old (cells_of arrays x.array) ks ≡ None
  pub hit : is_some (after_old x.old (cells_of arrays x.array) ks x.hit) ≡ false

pub access_right : (arrays : List Array) (stage : ℕ) (used : Used) (ks : Known) (x : Access) → access_refusal arrays stage used ks x ≡ None → AccessRight arrays stage used ks x
access_right arrays stage used ks x h =
    let parts = or_none _ _ h in
    let a = or_none _ _ parts.0 in
    let b = or_none _ _ a.1 in
    let c = or_none _ _ b.1 in
    let d = or_none _ _ parts.1 in
    record {
      unused = unless_false _ _ a.0;
      shape = needs_true _ _ b.0;
      reads = word_none stage _ c.0;
      range = c.1;
      olds = d.0;
      hit = unless_false _ _ d.1;
    }

-- The given words stay known, so none of them is assigned

pub record Given (width : ℕ) (ks : Known) : Type 0 where
  pub known : (w : ℕ) → w < width → is_some (ks w) ≡ true

known_or : (b : Bool) (s : Interval) (o : Option Interval) → is_some o ≡ true → is_some (if b then Some s else o) ≡ true
known_or true s o h = refl
known_or false s o h = h

given_learn : (width : ℕ) (ks : Known) (to : ℕ) (s : Interval) → Given width ks → Given width (learn ks to s)
given_learn width ks to s g = record { known = λ w h. known_or (nat_eq w to) s (ks w) (g.known w h) }

given_old : (width : ℕ) (n to : ℕ) (ks : Known) → Given width ks → Given width (after_old to n ks)
given_old width zero to ks g = g
given_old width (suc n) to ks g = given_old width n (to + 1) (learn ks to whole) (given_learn width ks to whole g)

pub given_ops : (width : ℕ) (ops : List Op) (ks : Known) → Given width ks → Given width (after_ops ops ks)
given_ops width [] ks g = g
given_ops width (op ∷ ops) ks g = given_ops width ops (learn ks (op_to op) (op_interval ks op)) (given_learn width ks (op_to op) (op_interval ks op) g)

given_access : (width : ℕ) (arrays : List Array) (x : Access) (ks : Known) → Given width ks → Given width (after_access arrays x ks)
given_access width arrays x ks g = given_learn width (after_old x.old (cells_of arrays x.array) ks) x.hit flag (given_old width (cells_of arrays x.array) x.old ks g)

given_accesses : (width : ℕ) (arrays : List Array) (xs : List Access) (ks : Known) → Given width ks → Given width (after_accesses arrays xs ks)
given_accesses width arrays [] ks g = g
given_accesses width arrays (x ∷ xs) ks g = given_accesses width arrays xs (after_access arrays x ks) (given_access width arrays x ks g)

pub given_inputs : (width : ℕ) → Given width (inputs width)
given_inputs width = record { known = λ w h. rw (lt-ltb w width h) refl }

not_given : (width : ℕ) (ks : Known) (w : ℕ) → Given width ks → is_some (ks w) ≡ false → width ≤ w
not_given width ks w g h = elim (cases_lt w width) [
  | inl a ↦ absurd (let e = g.known w a in cc)
  | inr a ↦ a
]

-- The rooms of a program that breaks no rule

ops_room : (stage width words : ℕ) (ops : List Op) (ks : Known) → Given width ks → ops_refusal stage ks ops ≡ None → ops_end ops ≤ words → OpsRoom width words ops
ops_room stage width words [] ks g h e = tt
ops_room stage width words (op ∷ ops) ks g h e =
    let parts = or_none _ _ h in
    let right = op_right stage ks op parts.0 in
    let first : op_end op ≤ words = omega arith in (
      record { own = not_given width ks (op_to op) g right.fresh; within = first },
      ops_room stage width words ops (learn ks (op_to op) (op_interval ks op)) (given_learn width ks (op_to op) (op_interval ks op) g) parts.1 (omega arith),
    )

pub entries_there : (arrays : List Array) (a : ℕ) → 0 < entries_of arrays a → a < length arrays
entries_there [] a h = absurd (omega arith)
entries_there (x ∷ xs) zero h = omega arith
entries_there (x ∷ xs) (suc a) h = let e = entries_there xs a h in omega arith

pub record Shaped (arrays : List Array) (x : Access) : Type 0 where
  pub there : x.array < length arrays
  pub cells : 0 < cells_of arrays x.array

pub shaped : (arrays : List Array) (x : Access) → has_shape arrays x ≡ true → Shaped arrays x
shaped arrays x h =
    let a = and_parts _ _ h in
    let b = and_parts _ _ a.1 in
    record { there = entries_there arrays x.array (ltb-true 0 (entries_of arrays x.array) a.0); cells = ltb-true 0 (cells_of arrays x.array) b.0 }

first_old : (stage to n : ℕ) (ks : Known) → 0 < n → old_refusal stage to n ks ≡ None → is_some (ks to) ≡ false
first_old stage to zero ks p h = absurd (omega arith)
first_old stage to (suc n) ks p h = unless_false _ _ (or_none _ _ h).0

access_room : (arrays : List Array) (stage width words : ℕ) (used : Used) (ks : Known) (x : Access) → Given width ks → AccessRight arrays stage used ks x → access_end arrays x ≤ words → AccessRoom arrays width words x
access_room arrays stage width words used ks x g right e =
    let s = shaped arrays x right.shape in
    let n : ℕ = cells_of arrays x.array in
    let low : access_end arrays x ≤ words → (x.old + n ≤ words) × (x.hit < words) = rw (lt-ltb x.array (length arrays) s.there, lt-ltb 0 n s.cells) (λ k. (omega arith, omega arith)) in
    let ends = low e in
    record {
      own_old = not_given width ks x.old g (first_old stage x.old n ks s.cells right.olds);
      own_hit = not_given width (after_old x.old n ks) x.hit (given_old width n x.old ks g) right.hit;
      within = e;
      end_old = ends.0;
      end_hit = ends.1;
      there = s.there;
      shape = right.shape;
    }

accesses_room : (arrays : List Array) (stage width words : ℕ) (used : Used) (ks : Known) (xs : List Access) → Given width ks → accesses_refusal arrays stage used ks xs ≡ None → accesses_end arrays xs ≤ words → AccessesRoom arrays width words xs
accesses_room arrays stage width words used ks [] g h e = tt
accesses_room arrays stage width words used ks (x ∷ []) g h e =
    let first : access_end arrays x ≤ words = omega arith in
    access_room arrays stage width words used ks x g (access_right arrays stage used ks x h) first
accesses_room arrays stage width words used ks (x ∷ y ∷ zs) g h e = cc

pub stages_room : (arrays : List Array) (stage width words : ℕ) (used : Used) (ks : Known) (stages : List Stage) → Given width ks → stages_refusal arrays stage used ks stages ≡ None → stages_end arrays stages ≤ words
    → StagesRoom arrays width words stages
stages_room arrays stage width words used ks [] g h e = tt
stages_room arrays stage width words used ks (t ∷ ts) g h e =
    let parts = or_none _ _ h in
    let first = or_none _ _ parts.0 in
    let a : ops_end t.ops ≤ words = omega arith in
    let b : accesses_end arrays t.accesses ≤ words = omega arith in
    let c : stages_end arrays ts ≤ words = omega arith in
    let later : Given width (after_ops t.ops ks) = given_ops width t.ops ks g in (
      (ops_room stage width words t.ops ks g first.0 a, accesses_room arrays stage width words used (after_ops t.ops ks) t.accesses later first.1 b),
      stages_room arrays (stage + 1) width words (with_arrays used t.accesses) (after_stage arrays t ks) ts (given_accesses width arrays t.accesses (after_ops t.ops ks) later) parts.1 c,
    )

-- what the rules say of a whole program
pub record Right (p : Program) : Type 0 where
  pub stages : stages_refusal p.arrays 0 none_used (inputs p.width) p.stages ≡ None
  pub verdict : is_some (after_stages p.arrays p.stages (inputs p.width) p.verdict) ≡ true
  pub rooms : StagesRoom p.arrays p.width (words_of p) p.stages

pub right : (p : Program) → BreaksNoRule p → Right p
unfolding rule_refusal
right p h =
    let parts = or_none _ _ h in
    record {
      stages = parts.0;
      verdict = needs_true _ _ parts.1;
      rooms = stages_room p.arrays 0 p.width (words_of p) none_used (inputs p.width) p.stages (given_inputs p.width) parts.0 (omega arith);
    }
