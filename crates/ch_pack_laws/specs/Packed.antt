-- Several programs in one: a word beside those of the rows selects whose packet it is.
use Rattle.std.specs.Prelude.{ℕ, ◌+◌, if◌then◌else◌, List, [], ◌∷◌, ◌++◌, length, map, max, nat_lt, pos}
use Rattle.ch_ir.specs.declared.program.Operand.{Operand}
use Rattle.ch_ir.specs.declared.program.Operand.TheVariants.{Word, Const}
use Rattle.ch_ir.specs.declared.program.Binary.TheVariants.{Eq, And}
use Rattle.ch_ir.specs.declared.program.Op.{Op}
use Rattle.ch_ir.specs.declared.program.Op.TheVariants.{Set, Two, Bit, Pick, Hash}
use Rattle.ch_ir.specs.declared.program.Update.{Update}
use Rattle.ch_ir.specs.declared.program.Update.TheVariants as update
use Rattle.ch_ir.specs.declared.program.Access.{Access}
use Rattle.ch_ir.specs.declared.program.Array.{Array}
use Rattle.ch_ir.specs.declared.program.Stage.{Stage}
use Rattle.ch_ir.specs.declared.program.Program.{Program}
use Rattle.ch_ir.specs.Measure.{words_of}
use Rattle.ch_pack_laws.specs.declared.Seat.{Seat}

-- given words keep their numbers, and the program's own words stand later
unfoldable pub moved_word : Seat → ℕ → ℕ
moved_word m w = if nat_lt w m.width then w else w + m.shift

abbrev pub moved_operand : Seat → Operand → Operand
moved_operand m (Word w) = Word (moved_word m w)
moved_operand m (Const c) = Const c

abbrev pub moved_op : Seat → Op → Op
moved_op m (Set to a) = Set (moved_word m to) (moved_operand m a)
moved_op m (Two to kind a b) = Two (moved_word m to) kind (moved_operand m a) (moved_operand m b)
moved_op m (Bit to a) = Bit (moved_word m to) (moved_operand m a)
moved_op m (Pick to a b c) = Pick (moved_word m to) (moved_operand m a) (moved_operand m b) (moved_operand m c)
moved_op m (Hash to seed modulus words) = Hash (moved_word m to) seed modulus (map (moved_word m) words)

abbrev pub moved_update : Seat → Update → Update
moved_update m update.Keep = update.Keep
moved_update m (update.Put a) = update.Put (moved_operand m a)
moved_update m (update.AddSat a) = update.AddSat (moved_operand m a)
moved_update m (update.Min a) = update.Min (moved_operand m a)
moved_update m (update.Max a) = update.Max (moved_operand m a)
moved_update m (update.Or a) = update.Or (moved_operand m a)

-- with another guard
abbrev pub moved_access : Seat → ℕ → Access → Access
moved_access m guard x = record {
  array = m.base + x.array;
  index = moved_operand m x.index;
  guard = Word guard;
  test = x.test;
  key = map (moved_operand m) x.key;
  yes = map (moved_update m) x.yes;
  no = map (moved_update m) x.no;
  old = moved_word m x.old;
  hit = moved_word m x.hit;
}

-- the stage of an access: the guard is set only where the program is selected
abbrev pub guarded : Seat → ℕ → List Access → Stage
guarded m guard [] = record { ops = []; accesses = [] }
guarded m guard (x ∷ xs) = record { ops = Two guard And (Word m.chosen) (moved_operand m x.guard) ∷ []; accesses = moved_access m guard x ∷ [] }

-- two stages for each: its ops, and its access with the next guard
abbrev pub moved_stages : Seat → ℕ → List Stage → List Stage
moved_stages m guard [] = []
moved_stages m guard (t ∷ ts) = record { ops = map (moved_op m) t.ops; accesses = [] } ∷ guarded m guard t.accesses ∷ moved_stages m (guard + 1) ts

-- a program whose words begin at a free one: its guards, and then its own words
abbrev pub seat_of : Program → ℕ → ℕ → ℕ → Seat
seat_of p free base chosen = record { width = p.width; shift = free + length p.stages; base = base; chosen = chosen }

-- the first free word after a program
abbrev pub free_after : ℕ → Program → ℕ
free_after free p = free + length p.stages + words_of p

abbrev pub free_after_all : ℕ → List Program → ℕ
free_after_all free [] = free
free_after_all free (p ∷ ps) = free_after_all (free_after free p) ps

-- the stages of the programs in turn
abbrev pub all_moved : ℕ → ℕ → ℕ → List Program → List Stage
all_moved free base chosen [] = []
all_moved free base chosen (p ∷ ps) = moved_stages (seat_of p free base chosen) free p.stages ++ all_moved (free_after free p) (base + length p.arrays) (chosen + 1) ps

-- whether the selector is the number of each program
abbrev pub compared : ℕ → ℕ → ℕ → List Program → List Op
compared selector chosen number [] = []
compared selector chosen number (p ∷ ps) = Two chosen Eq (Word selector) (Const (pos number)) ∷ compared selector (chosen + 1) (number + 1) ps

-- the verdict of the selected program: each later word is that program's verdict or the word before
abbrev pub joined : ℕ → ℕ → ℕ → List Program → List Op
joined free chosen last [] = []
joined free chosen last (p ∷ ps) =
    Pick (last + 1) (Word chosen) (Word (moved_word (seat_of p free 0 chosen) p.verdict)) (Word last) ∷ joined (free_after free p) (chosen + 1) (last + 1) ps

abbrev pub greatest_width : List Program → ℕ
greatest_width [] = 0
greatest_width (p ∷ ps) = max p.width (greatest_width ps)

abbrev pub all_arrays : List Program → List Array
all_arrays [] = []
all_arrays (p ∷ ps) = p.arrays ++ all_arrays ps

-- the number of the first array of each
abbrev pub bases_from : ℕ → List Program → List ℕ
bases_from base [] = []
bases_from base (p ∷ ps) = base ∷ bases_from (base + length p.arrays) ps

abbrev pub only_ops : List Op → Stage
only_ops ops = record { ops = ops; accesses = [] }

-- the selector is the word after those that a program is given
abbrev pub selector_of : List Program → ℕ
selector_of ps = greatest_width ps

abbrev pub first_free : List Program → ℕ
first_free ps = selector_of ps + 1 + length ps

abbrev pub last_free : List Program → ℕ
last_free ps = free_after_all (first_free ps) ps

abbrev pub last_stage : List Program → Stage
last_stage ps = only_ops (Set (last_free ps) (Const (pos 0)) ∷ joined (first_free ps) (selector_of ps + 1) (last_free ps) ps)

abbrev pub packed_stages : List Program → List Stage
packed_stages ps =
    only_ops (compared (selector_of ps) (selector_of ps + 1) 0 ps) ∷ all_moved (first_free ps) 0 (selector_of ps + 1) ps ++ last_stage ps ∷ []

unfoldable pub packed : List Program → Program
packed ps = record { width = selector_of ps + 1; arrays = all_arrays ps; stages = packed_stages ps; verdict = last_free ps + length ps }
