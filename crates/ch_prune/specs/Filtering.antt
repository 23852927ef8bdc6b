-- Filter: its program, and the queries that it serves.
use Rattle.std.specs.Prelude.{◌≡◌, ℕ, ◌+◌, true, [], ◌∷◌, pos}
use Rattle.ch_ir.specs.declared.program.Operand.TheVariants.{Const}
use Rattle.ch_ir.specs.declared.program.Binary.TheVariants.{Eq}
use Rattle.ch_ir.specs.declared.program.Op.TheVariants.{Two}
use Rattle.ch_ir.specs.declared.program.Program.{Program}
use Rattle.ch_pred.specs.declared.bound.Bound.{Bound}
use Rattle.ch_words.specs.Words.{Reading, asked_of_words}
use Rattle.ch_pred.specs.Sound.{has_one_table}
use Rattle.ch_words.specs.Rows.{Gate, GateFits}
use Rattle.ch_prune.specs.Fronts.{front_operand}
use Rattle.ch_prune.specs.declared.operator.Need.{Need}

-- one op: whether the front's word is 0
abbrev pub filter_program : ℕ → Program
filter_program width = record {
  width = width;
  arrays = [];
  stages = record { ops = Two width Eq front_operand (Const (pos 0)) ∷ []; accesses = [] } ∷ [];
  verdict = width;
}

abbrev pub filter_need : ℕ → Need
filter_need width = record { width = width; cells = 0; words = width + 32; stages = 2 }

-- a query of one table, where a row's bit is whether it holds
abbrev pub FilterServes : Reading → Bound → Gate → Type 0
FilterServes d b gate = (has_one_table b.shape ≡ true) × GateFits gate (asked_of_words d b) b.shape
