-- What the rules say of the word numbers and arrays of a program: it assigns no given word, and reads and assigns only
-- words below its measure.
use Rattle.std.proofs.Common.{◌≡◌, ◌<◌, ◌≤◌, ℕ, ◌+◌, true, List, [], ◌∷◌, length}
use Rattle.ch_ir.specs.declared.program.Op.{Op}
use Rattle.ch_ir.specs.declared.program.Access.{Access}
use Rattle.ch_ir.specs.declared.program.Array.{Array}
use Rattle.ch_ir.specs.declared.program.Stage.{Stage}
use Rattle.ch_ir.specs.Machine.{op_to, cells_of}
use Rattle.ch_ir.specs.Measure.{op_end, access_end}
use Rattle.ch_ir.specs.Rules.{has_shape}

pub record OpRoom (width words : ℕ) (op : Op) : Type 0 where
  pub own : width ≤ op_to op
  pub within : op_end op ≤ words

abbrev pub OpsRoom : ℕ → ℕ → List Op → Type 0
OpsRoom width words [] = Unit {0}
OpsRoom width words (op ∷ ops) = OpRoom width words op × OpsRoom width words ops

pub record AccessRoom (arrays : List Array) (width words : ℕ) (x : Access) : Type 0 where
  pub own_old : width ≤ x.old
  pub own_hit : width ≤ x.hit
  pub within : access_end arrays x ≤ words
  pub end_old : x.old + cells_of arrays x.array ≤ words
  pub end_hit : x.hit < words
  pub there : x.array < length arrays
  pub shape : has_shape arrays x ≡ true

-- at most one access
abbrev pub AccessesRoom : List Array → ℕ → ℕ → List Access → Type 0
AccessesRoom arrays width words [] = Unit {0}
AccessesRoom arrays width words (x ∷ []) = AccessRoom arrays width words x
AccessesRoom arrays width words (x ∷ y ∷ zs) = ⊥

abbrev pub StagesRoom : List Array → ℕ → ℕ → List Stage → Type 0
StagesRoom arrays width words [] = Unit {0}
StagesRoom arrays width words (t ∷ ts) = (OpsRoom width words t.ops × AccessesRoom arrays width words t.accesses) × StagesRoom arrays width words ts
