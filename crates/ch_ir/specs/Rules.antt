-- The rules that a program must not break, and the first that it breaks.
use Rattle.std.specs.Prelude.{◌≡◌, Option, Some, None, ℕ, zero, suc, ◌+◌, ◌-◌, ◌^◌, Bool, true, false, if◌then◌else◌, ◌&&◌, List, [], ◌∷◌, ◌++◌, pos, negsuc, ◌+ℤ◌, ◌-ℤ◌, int_lt, int_le, nat_lt, nat_eq, length, map, is_some}
use Rattle.std.specs.Int.{w64, saturate_signed, int_max, int_min}
use Rattle.ch_ir.specs.declared.program.Operand.{Operand}
use Rattle.ch_ir.specs.declared.program.Operand.TheVariants.{Word, Const}
use Rattle.ch_ir.specs.declared.program.Binary.{Binary}
use Rattle.ch_ir.specs.declared.program.Binary.TheVariants as binary
use Rattle.ch_ir.specs.declared.program.Op.{Op}
use Rattle.ch_ir.specs.declared.program.Op.TheVariants.{Set, Two, Bit, Pick, Hash}
use Rattle.ch_ir.specs.declared.program.Test.{Test}
use Rattle.ch_ir.specs.declared.program.Test.TheVariants.{Always, KeyEq, KeyEqOrFree, Less}
use Rattle.ch_ir.specs.declared.program.Update.{Update}
use Rattle.ch_ir.specs.declared.program.Update.TheVariants as update
use Rattle.ch_ir.specs.declared.program.Access.{Access}
use Rattle.ch_ir.specs.declared.program.Array.{Array}
use Rattle.ch_ir.specs.declared.program.Stage.{Stage}
use Rattle.ch_ir.specs.declared.program.Program.{Program}
use Rattle.ch_ir.specs.declared.rules.Interval.{Interval}
use Rattle.ch_ir.specs.declared.rules.Refused.{Refused}
use Rattle.ch_ir.specs.declared.rules.Refused.TheVariants as refused
use Rattle.ch_ir.specs.Machine.{op_to, cells_of}

-- Intervals

-- the words that have a value at a place of the program, with what it can be
abbrev pub Known : Type 0
Known = ℕ → Option Interval

abbrev pub learn : Known → ℕ → Interval → Known
learn ks to s w = if nat_eq w to then Some s else ks w

-- all of i64
abbrev pub whole : Interval
whole = record { low = negsuc (2 ^ 63 - 1); high = pos (2 ^ 63 - 1) }

abbrev pub flag : Interval
flag = record { low = pos 0; high = pos 1 }

abbrev pub or_whole : Option Interval → Interval
or_whole None = whole
or_whole (Some s) = s

abbrev pub interval_of : Known → Operand → Interval
interval_of ks (Word w) = or_whole (ks w)
interval_of ks (Const c) = record { low = c; high = c }

abbrev pub mask_interval : Interval → Interval → Interval
mask_interval a b = if int_le (pos 0) a.low && int_le (pos 0) b.low then record { low = pos 0; high = int_min a.high b.high } else whole

abbrev pub two_interval : Binary → Interval → Interval → Interval
two_interval binary.Add a b = record { low = saturate_signed w64 (a.low +ℤ b.low); high = saturate_signed w64 (a.high +ℤ b.high) }
two_interval binary.Sub a b = record { low = saturate_signed w64 (a.low -ℤ b.high); high = saturate_signed w64 (a.high -ℤ b.low) }
two_interval binary.Mask a b = mask_interval a b
two_interval binary.Lt a b = flag
two_interval binary.Le a b = flag
two_interval binary.Eq a b = flag
two_interval binary.Ne a b = flag
two_interval binary.And a b = flag
two_interval binary.Or a b = flag

-- the least interval that holds both
abbrev pub hull : Interval → Interval → Interval
hull a b = record { low = int_min a.low b.low; high = int_max a.high b.high }

abbrev pub op_interval : Known → Op → Interval
op_interval ks (Set to a) = interval_of ks a
op_interval ks (Two to kind a b) = two_interval kind (interval_of ks a) (interval_of ks b)
op_interval ks (Bit to a) = record { low = pos 0; high = pos (2 ^ 61) }
op_interval ks (Pick to a b c) = hull (interval_of ks b) (interval_of ks c)
op_interval ks (Hash to seed modulus words) = record { low = pos 0; high = pos (modulus - 1) }

-- What is known after a part of the program

abbrev pub inputs : ℕ → Known
inputs width w = if nat_lt w width then Some whole else None

abbrev pub after_ops : List Op → Known → Known
after_ops [] ks = ks
after_ops (op ∷ ops) ks = after_ops ops (learn ks (op_to op) (op_interval ks op))

-- n old words from a number on
abbrev pub after_old : ℕ → ℕ → Known → Known
after_old to zero ks = ks
after_old to (suc n) ks = after_old (to + 1) n (learn ks to whole)

abbrev pub after_assign : ℕ → Access → Known → Known
after_assign cells x ks = learn (after_old x.old cells ks) x.hit flag

abbrev pub after_access : List Array → Access → Known → Known
after_access arrays x ks = after_assign (cells_of arrays x.array) x ks

abbrev pub after_accesses : List Array → List Access → Known → Known
after_accesses arrays [] ks = ks
after_accesses arrays (x ∷ xs) ks = after_accesses arrays xs (after_access arrays x ks)

abbrev pub after_stage : List Array → Stage → Known → Known
after_stage arrays t ks = after_accesses arrays t.accesses (after_ops t.ops ks)

abbrev pub after_stages : List Array → List Stage → Known → Known
after_stages arrays [] ks = ks
after_stages arrays (t ∷ ts) ks = after_stages arrays ts (after_stage arrays t ks)

-- The rules

-- the first of two refusals
abbrev pub or_else : Option Refused → Option Refused → Option Refused
or_else (Some f) g = Some f
or_else None g = g

-- refused where the test fails
abbrev pub needs : Bool → Refused → Option Refused
needs true f = None
needs false f = Some f

-- the first word among the operands that has no value
abbrev pub first_unknown : Known → List Operand → Option ℕ
first_unknown ks [] = None
first_unknown ks (Word w ∷ rest) = if is_some (ks w) then first_unknown ks rest else Some w
first_unknown ks (Const c ∷ rest) = first_unknown ks rest

abbrev pub word_refusal : ℕ → Option ℕ → Option Refused
word_refusal stage None = None
word_refusal stage (Some w) = Some (refused.Word stage w)

abbrev pub operands_refusal : ℕ → Known → List Operand → Option Refused
operands_refusal stage ks operands = word_refusal stage (first_unknown ks operands)

-- a word is assigned that has a value
abbrev pub twice_refusal : ℕ → Known → ℕ → Option Refused
twice_refusal stage ks w = if is_some (ks w) then Some (refused.AssignedTwice stage w) else None

abbrev pub operands_of : Op → List Operand
operands_of (Set to a) = a ∷ []
operands_of (Two to kind a b) = a ∷ b ∷ []
operands_of (Bit to a) = a ∷ []
operands_of (Pick to a b c) = a ∷ b ∷ c ∷ []
operands_of (Hash to seed modulus words) = map Word words

abbrev pub has_modulus : Op → Bool
has_modulus (Hash to seed modulus words) = nat_lt 0 modulus
has_modulus (Set to a) = true
has_modulus (Two to kind a b) = true
has_modulus (Bit to a) = true
has_modulus (Pick to a b c) = true

abbrev pub op_refusal : ℕ → Known → Op → Option Refused
op_refusal stage ks op = or_else (needs (has_modulus op) (refused.Shape stage)) (or_else (operands_refusal stage ks (operands_of op)) (twice_refusal stage ks (op_to op)))

abbrev pub ops_refusal : ℕ → Known → List Op → Option Refused
ops_refusal stage ks [] = None
ops_refusal stage ks (op ∷ ops) = or_else (op_refusal stage ks op) (ops_refusal stage (learn ks (op_to op) (op_interval ks op)) ops)

-- the arrays that earlier stages access
abbrev pub Used : Type 0
Used = ℕ → Bool

abbrev pub none_used : Used
none_used a = false

abbrev pub with_array : Used → ℕ → Used
with_array used a b = if nat_eq b a then true else used b

abbrev pub with_arrays : Used → List Access → Used
with_arrays used [] = used
with_arrays used (x ∷ xs) = with_arrays (with_array used x.array) xs

-- an array that isn't there has no entry
abbrev pub entries_of : List Array → ℕ → ℕ
entries_of [] a = 0
entries_of (x ∷ xs) zero = x.entries
entries_of (x ∷ xs) (suc a) = entries_of xs a

-- the number of words of a test's key, and whether its n or c is below the number of cells
abbrev pub key_words : Test → ℕ
key_words Always = 0
key_words (KeyEq n) = n
key_words (KeyEqOrFree n) = n
key_words (Less c) = 1

abbrev pub test_fits : Test → ℕ → Bool
test_fits Always cells = true
test_fits (KeyEq n) cells = nat_lt n cells
test_fits (KeyEqOrFree n) cells = nat_lt n cells
test_fits (Less c) cells = nat_lt c cells

abbrev pub has_shape : List Array → Access → Bool
has_shape arrays x =
    nat_lt 0 (entries_of arrays x.array) && (nat_lt 0 (cells_of arrays x.array)
    && (nat_eq (length x.yes) (cells_of arrays x.array) && (nat_eq (length x.no) (cells_of arrays x.array)
    && (nat_eq (length x.key) (key_words x.test) && test_fits x.test (cells_of arrays x.array)))))

abbrev pub update_operand : Update → List Operand
update_operand update.Keep = []
update_operand (update.Put a) = a ∷ []
update_operand (update.AddSat a) = a ∷ []
update_operand (update.Min a) = a ∷ []
update_operand (update.Max a) = a ∷ []
update_operand (update.Or a) = a ∷ []

abbrev pub update_operands : List Update → List Operand
update_operands [] = []
update_operands (u ∷ us) = update_operand u ++ update_operands us

abbrev pub access_operands : Access → List Operand
access_operands x = x.index ∷ x.guard ∷ x.key ++ (update_operands x.yes ++ update_operands x.no)

abbrev pub range_refusal : ℕ → Interval → ℕ → Option Refused
range_refusal stage s len = needs (int_le (pos 0) s.low && int_lt s.high (pos len)) (refused.IndexRange stage s.low s.high len)

-- the old words are assigned in turn
abbrev pub old_refusal : ℕ → ℕ → ℕ → Known → Option Refused
old_refusal stage to zero ks = None
old_refusal stage to (suc n) ks = or_else (twice_refusal stage ks to) (old_refusal stage (to + 1) n (learn ks to whole))

-- what an access reads
abbrev pub reach_refusal : List Array → ℕ → Used → Known → Access → Option Refused
reach_refusal arrays stage used ks x =
    or_else (if used x.array then Some (refused.TwoAccesses stage) else None)
    (or_else (needs (has_shape arrays x) (refused.Shape stage))
    (or_else (operands_refusal stage ks (access_operands x))
    (range_refusal stage (interval_of ks x.index) (entries_of arrays x.array))))

-- what an access to an array whose entries have so many cells assigns: the old words, and then hit
abbrev pub assign_refusal : ℕ → ℕ → Known → Access → Option Refused
assign_refusal stage cells ks x = or_else (old_refusal stage x.old cells ks) (twice_refusal stage (after_old x.old cells ks) x.hit)

abbrev pub access_refusal : List Array → ℕ → Used → Known → Access → Option Refused
access_refusal arrays stage used ks x = or_else (reach_refusal arrays stage used ks x) (assign_refusal stage (cells_of arrays x.array) ks x)

-- at most one access
abbrev pub accesses_refusal : List Array → ℕ → Used → Known → List Access → Option Refused
accesses_refusal arrays stage used ks [] = None
accesses_refusal arrays stage used ks (x ∷ []) = access_refusal arrays stage used ks x
accesses_refusal arrays stage used ks (x ∷ y ∷ zs) = Some (refused.TwoAccesses stage)

abbrev pub stage_refusal : List Array → ℕ → Used → Known → Stage → Option Refused
stage_refusal arrays stage used ks t = or_else (ops_refusal stage ks t.ops) (accesses_refusal arrays stage used (after_ops t.ops ks) t.accesses)

abbrev pub stages_refusal : List Array → ℕ → Used → Known → List Stage → Option Refused
stages_refusal arrays stage used ks [] = None
stages_refusal arrays stage used ks (t ∷ ts) =
    or_else (stage_refusal arrays stage used ks t) (stages_refusal arrays (stage + 1) (with_arrays used t.accesses) (after_stage arrays t ks) ts)

-- the verdict word has a value after the last stage
abbrev pub verdict_refusal : ℕ → Known → ℕ → Option Refused
verdict_refusal stages ks verdict = needs (is_some (ks verdict)) (refused.Word stages verdict)

-- the first rule that a program breaks
unfoldable pub rule_refusal : Program → Option Refused
rule_refusal p = or_else (stages_refusal p.arrays 0 none_used (inputs p.width) p.stages) (verdict_refusal (length p.stages) (after_stages p.arrays p.stages (inputs p.width)) p.verdict)

abbrev pub BreaksNoRule : Program → Type 0
BreaksNoRule p = rule_refusal p ≡ None
