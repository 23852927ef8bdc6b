-- What a program needs of each limit of a profile, and the first limit that it exceeds.
use Rattle.std.specs.Prelude.{Option, Some, None, ℕ, ◌+◌, ◌*◌, if◌then◌else◌, List, [], ◌∷◌, length, max, nat_lt}
use Rattle.ch_ir.specs.declared.program.Operand.{Operand}
use Rattle.ch_ir.specs.declared.program.Operand.TheVariants.{Word, Const}
use Rattle.ch_ir.specs.declared.program.Op.{Op}
use Rattle.ch_ir.specs.declared.program.Access.{Access}
use Rattle.ch_ir.specs.declared.program.Array.{Array}
use Rattle.ch_ir.specs.declared.program.Stage.{Stage}
use Rattle.ch_ir.specs.declared.program.Program.{Program}
use Rattle.ch_ir.specs.declared.profile.Profile.{Profile}
use Rattle.ch_ir.specs.declared.rules.LimitName.{LimitName}
use Rattle.ch_ir.specs.declared.rules.LimitName.TheVariants.{Width, Cells, Words, Stages, Ops}
use Rattle.ch_ir.specs.declared.rules.Refused.{Refused}
use Rattle.ch_ir.specs.declared.rules.Refused.TheVariants.{Limit}
use Rattle.ch_ir.specs.declared.rules.Sizes.{Sizes}
use Rattle.ch_ir.specs.Machine.{op_to, cells_of}
use Rattle.ch_ir.specs.Rules.{operands_of, access_operands, or_else, rule_refusal}

-- the greatest number of cells of an array
abbrev pub greatest_array : List Array → ℕ
greatest_array [] = 0
greatest_array (x ∷ xs) = max (x.entries * x.cells) (greatest_array xs)

-- An end is one more than the greatest word number that a part of the program names, and 0 where it names none.

abbrev pub operand_end : Operand → ℕ
operand_end (Word w) = w + 1
operand_end (Const c) = 0

abbrev pub operands_end : List Operand → ℕ
operands_end [] = 0
operands_end (a ∷ rest) = max (operand_end a) (operands_end rest)

abbrev pub op_end : Op → ℕ
op_end op = max (op_to op + 1) (operands_end (operands_of op))

abbrev pub ops_end : List Op → ℕ
ops_end [] = 0
ops_end (op ∷ ops) = max (op_end op) (ops_end ops)

-- so many words from a number on
abbrev pub run_end : ℕ → ℕ → ℕ
run_end first many = if nat_lt 0 many then first + many else 0

-- the old words, as many as the array has cells; their first number alone where the array isn't there
abbrev pub old_end : List Array → Access → ℕ
old_end arrays x = run_end x.old (if nat_lt x.array (length arrays) then cells_of arrays x.array else 1)

abbrev pub access_end : List Array → Access → ℕ
access_end arrays x = max (operands_end (access_operands x)) (max (old_end arrays x) (x.hit + 1))

abbrev pub accesses_end : List Array → List Access → ℕ
accesses_end arrays [] = 0
accesses_end arrays (x ∷ xs) = max (access_end arrays x) (accesses_end arrays xs)

abbrev pub stage_end : List Array → Stage → ℕ
stage_end arrays t = max (ops_end t.ops) (accesses_end arrays t.accesses)

abbrev pub stages_end : List Array → List Stage → ℕ
stages_end arrays [] = 0
stages_end arrays (t ∷ ts) = max (stage_end arrays t) (stages_end arrays ts)

-- the greatest number of ops in a stage
abbrev pub most_ops : List Stage → ℕ
most_ops [] = 0
most_ops (t ∷ ts) = max (length t.ops) (most_ops ts)

abbrev pub words_of : Program → ℕ
words_of p = max p.width (max (stages_end p.arrays p.stages) (p.verdict + 1))

unfoldable pub sizes_of : Program → Sizes
sizes_of p = record { width = p.width; cells = greatest_array p.arrays; words = words_of p; stages = length p.stages; ops = most_ops p.stages }

abbrev pub over : LimitName → ℕ → ℕ → Option Refused
over which need have = if nat_lt have need then Some (Limit which need have) else None

-- the first limit that the sizes exceed
abbrev pub limit_refusal : Sizes → Profile → Option Refused
limit_refusal sizes profile =
    or_else (over Width sizes.width profile.width)
    (or_else (over Cells sizes.cells profile.cells)
    (or_else (over Words sizes.words profile.words)
    (or_else (over Stages sizes.stages profile.stages) (over Ops sizes.ops profile.ops))))

-- the first limit that a program exceeds, or else the first rule that it breaks
abbrev pub first_refusal : Profile → Program → Option Refused
first_refusal profile p = or_else (limit_refusal (sizes_of p) profile) (rule_refusal p)
